-- Values that the standards give, so that a wrong rule in the specs does not check.
use Rattle.std.proofs.Common.{◌≡◌, ℕ, ◌-◌, ◌^◌, List, [], ◌∷◌, map, Some, None, refl, pos, negsuc, neg_ℤ, codes}
use Rattle.smithy_texts.specs.Decimal.{integer_form, decimal_form, decimal_of, decimal_text}
use Rattle.std.specs.Fmt.{signed_decimal}
use Rattle.smithy_texts.specs.Base64Text.{blob_text, blob_of, blob_text_length}
use Rattle.smithy_texts.proofs.OnLiterals.{smithy_texts_on_literals}

-- 1.2300 keeps its digits, and what stands before the point may be missing
pub decimals : map decimal_of (codes "1.2300" ∷ codes "+.5E+2" ∷ codes "-5." ∷ codes "273.15" ∷ codes "0e-2" ∷ codes "-0" ∷ codes "1e007" ∷ [])
    ≡ Some (pos 12300, negsuc 3) ∷ Some (pos 5, pos 1) ∷ Some (negsuc 4, pos 0) ∷ Some (pos 27315, negsuc 1)
    ∷ Some (pos 0, negsuc 1) ∷ Some (pos 0, pos 0) ∷ Some (pos 1, pos 7) ∷ []
decimals = refl

-- a point at either end, and a zero with its sign
pub points : map decimal_of (codes ".5" ∷ codes "5." ∷ codes "-0.0" ∷ codes "0.00" ∷ codes "." ∷ codes "0.1e-9223372036854775807" ∷ [])
    ≡ Some (pos 5, negsuc 0) ∷ Some (pos 5, pos 0) ∷ Some (pos 0, negsuc 0) ∷ Some (pos 0, negsuc 1) ∷ None ∷ None ∷ []
points = refl

-- no digit, two points, no digit after `e`, two signs, a blank, a sign after the point, two marks
pub no_decimals : map decimal_form (codes "" ∷ codes "." ∷ codes "-" ∷ codes "1.2.3" ∷ codes "1e" ∷ codes "1e+" ∷ codes "+-1" ∷ codes " 1" ∷ codes ".-5" ∷ codes "1e2e3" ∷ codes "e5" ∷ codes "1e2.0" ∷ codes "0x1" ∷ codes "NaN" ∷ [])
    ≡ None ∷ None ∷ None ∷ None ∷ None ∷ None ∷ None ∷ None ∷ None ∷ None ∷ None ∷ None ∷ None ∷ None ∷ []
no_decimals = refl

-- the limits: 128 bits for the mantissa, 2^63-1 for each exponent, on both sides
pub limits : map decimal_of (codes "170141183460469231731687303715884105727" ∷ codes "-170141183460469231731687303715884105728" ∷ codes "1e9223372036854775807" ∷ codes "1.5e-9223372036854775806" ∷ [])
    ≡ Some (pos (2 ^ 127 - 1), pos 0) ∷ Some (neg_ℤ (pos (2 ^ 127)), pos 0) ∷ Some (pos 1, pos (2 ^ 63 - 1)) ∷ Some (pos 15, neg_ℤ (pos (2 ^ 63 - 1))) ∷ []
limits = refl

-- the fourth leaves its net exponent alone, and the last its written one alone
pub beyond_limits : map decimal_of (codes "170141183460469231731687303715884105728" ∷ codes "-170141183460469231731687303715884105729" ∷ codes "1e9223372036854775808" ∷ codes "1.5e-9223372036854775807" ∷ codes "1e-9223372036854775808" ∷ codes "0.1e9223372036854775808" ∷ [])
    ≡ None ∷ None ∷ None ∷ None ∷ None ∷ None ∷ []
beyond_limits = refl

-- beyond them a text still has its form
pub form_beyond_limits : decimal_form (codes "0.1e9223372036854775808")
    ≡ Some (record { mantissa_part = pos 1; written_part = pos (2 ^ 63); net_part = pos (2 ^ 63 - 1) })
form_beyond_limits = refl

pub integers : map integer_form (codes "0" ∷ codes "-0" ∷ codes "007" ∷ codes "-12" ∷ codes "18446744073709551616" ∷ [])
    ≡ Some (pos 0) ∷ Some (pos 0) ∷ Some (pos 7) ∷ Some (negsuc 11) ∷ Some (pos (2 ^ 64)) ∷ []
integers = refl

pub no_integers : map integer_form (codes "" ∷ codes "-" ∷ codes "+1" ∷ codes "1.0" ∷ codes "1e1" ∷ codes "--1" ∷ codes " 1" ∷ [])
    ≡ None ∷ None ∷ None ∷ None ∷ None ∷ None ∷ None ∷ []
no_integers = refl

pub written_numbers : (decimal_text (pos 12300) (negsuc 3) ≡ codes "12300e-4") × (decimal_text (pos 0) (negsuc 1) ≡ codes "0e-2")
    × (decimal_text (pos 5) (pos 0) ≡ codes "5") × (decimal_text (negsuc 0) (pos 2) ≡ codes "-1e2")
    × (signed_decimal (neg_ℤ (pos (2 ^ 127))) ≡ codes "-170141183460469231731687303715884105728")
unfolding smithy_texts_on_literals
written_numbers = (refl, refl, refl, refl, refl)

-- RFC 4648, section 10, both ways
abbrev vectors : List (List ℕ)
vectors = map codes ("" ∷ "f" ∷ "fo" ∷ "foo" ∷ "foob" ∷ "fooba" ∷ "foobar" ∷ [])

abbrev encoded_vectors : List (List ℕ)
encoded_vectors = map codes ("" ∷ "Zg==" ∷ "Zm8=" ∷ "Zm9v" ∷ "Zm9vYg==" ∷ "Zm9vYmE=" ∷ "Zm9vYmFy" ∷ [])

pub blobs : (map blob_text vectors ≡ encoded_vectors) × (map blob_of encoded_vectors ≡ map Some vectors)
    × (blob_of (codes "+/8=") ≡ Some (0xfb ∷ 0xff ∷ []))
unfolding smithy_texts_on_literals
blobs = (refl, refl, refl)

-- left-over bits, padding that lacks, is too much or stands inside, a blank, the other alphabet
pub no_blobs : map blob_of (codes "+/9=" ∷ codes "Zh==" ∷ codes "Zg=" ∷ codes "Zg" ∷ codes "Zm9v====" ∷ codes "Zg==Zg==" ∷ codes "Zm9v\n" ∷ codes "-_8=" ∷ codes "=" ∷ codes "Z" ∷ codes "Z===" ∷ (0 ∷ codes "AAAAAAA") ∷ (0 ∷ codes "xyzAA==") ∷ [])
    ≡ None ∷ None ∷ None ∷ None ∷ None ∷ None ∷ None ∷ None ∷ None ∷ None ∷ None ∷ None ∷ None ∷ []
unfolding smithy_texts_on_literals
no_blobs = refl

pub written_blob : blob_text (0xfb ∷ 0xff ∷ []) ≡ codes "+/8="
unfolding smithy_texts_on_literals
written_blob = refl

-- the length of five bytes' text; a number with an exponent is no whole number; a written number
pub lengths : (blob_text_length 5 ≡ 8) × (integer_form (codes "1e3") ≡ None) × (signed_decimal (negsuc 4) ≡ codes "-5")
    × (integer_form (codes "-170141183460469231731687303715884105728") ≡ Some (neg_ℤ (pos (2 ^ 127))))
unfolding smithy_texts_on_literals
lengths = (refl, refl, refl, refl)
