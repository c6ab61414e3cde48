-- Names that can stand in a path: none is empty, and none holds a point.
use Rattle.std.proofs.Common.{◌≡◌, ◌≢◌, ◌<◌, ◌^◌, ◌==◌, ℕ, List, [], ◌∷◌, length, true, false, decimal, arith}
use Rattle.std.specs.List.{AllByRecursion, list_all}
use Rattle.std.specs.Char.{digit_value}
use Rattle.std.specs.Str.Parse.{AllDigits}
use Rattle.std.proofs.lemmas.Bool.Decides.{nat_tests}
use Rattle.std.proofs.lemmas.Bool.{and_parts}
use Rattle.std.proofs.lemmas.Fmt.{decimal_nonempty, decimal_is_IsNumeral_wide}
use Rattle.smithy_query_codec.proofs.PairLemmas.{each_weaker}
use Rattle.smithy_declarations.specs.Names.{is_name_byte, is_query_name}

-- each byte can stand in a name
abbrev pub IsNameText : List ℕ → Type 0
IsNameText s = AllByRecursion (λ b. is_name_byte b ≡ true) s

-- no byte of it is a point
abbrev pub HasNoPoint : List ℕ → Type 0
HasNoPoint s = AllByRecursion (λ b. (b == 46) ≡ false) s

not_point : (b : ℕ) → is_name_byte b ≡ true → (b == 46) ≡ false
not_point b h = grind (arith, nat_tests)

pub no_point : (s : List ℕ) → IsNameText s → HasNoPoint s
no_point s h = each_weaker (λ b. is_name_byte b ≡ true) (λ b. (b == 46) ≡ false) not_point s h

all_name_bytes : (s : List ℕ) → list_all is_name_byte s ≡ true → IsNameText s
all_name_bytes [] h = tt
all_name_bytes (b ∷ s) h = let both = and_parts _ _ h in (both.0, all_name_bytes s both.1)

pub name_text : (s : List ℕ) → is_query_name s ≡ true → IsNameText s
name_text s h = all_name_bytes s (and_parts _ _ h).0

pub name_full : (s : List ℕ) → is_query_name s ≡ true → s ≢ []
name_full [] h = absurd (let e : false ≡ true = h in cc)
name_full (b ∷ s) h = λ e. cc

full_text : (t : List ℕ) → 0 < length t → t ≢ []
full_text [] long = absurd (omega (arith, long))
full_text (b ∷ t) long = λ e. cc

pub decimal_full : (n : ℕ) → n < 18446744073709551616 → decimal n ≢ []
decimal_full n small = full_text (decimal n) (decimal_nonempty n small)

digit_in_name : (b : ℕ) → digit_value b < 10 → is_name_byte b ≡ true
digit_in_name b h = grind (arith, nat_tests)

digits_in_name : (s : List ℕ) → AllDigits 10 s → IsNameText s
digits_in_name [] h = tt
digits_in_name (b ∷ s) h = (digit_in_name b h.0, digits_in_name s h.1)

pub decimal_text : (n : ℕ) → n < 10 ^ 64 → IsNameText (decimal n)
decimal_text n small = digits_in_name (decimal n) (decimal_is_IsNumeral_wide n small).0.1
