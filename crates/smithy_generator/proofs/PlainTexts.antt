-- Texts of ASCII that are written without an escape, and decimal numbers in JSON.
use Rattle.std.proofs.Common.{◌≡◌, ◌<◌, ◌^◌, ◌++◌, ℕ, List, [], ◌∷◌, true, IsUtf8, refl, subst, pos, decimal, arith}
use Rattle.std.specs.Char.{is_ascii_digit}
use Rattle.std.specs.Str.{IsAscii, all_ascii_digits}
use Rattle.std.proofs.lemmas.Bool.{and_parts}
use Rattle.std.proofs.lemmas.Bool.Decides.{nat_tests}
use Rattle.std.proofs.lemmas.Fmt.{IsAscii-decimal}
use Rattle.std.proofs.lemmas.Str.{IsUtf8-from_ascii}
use Rattle.std.proofs.lemmas.Str.Ascii.{IsAscii-cons}
use Rattle.smithy_texts.proofs.WrittenNumerals.{written_digits}
use Rattle.smithy_json.specs.Escape.{escaped}
use Rattle.smithy_json_grammar.specs.Grammar.{IsNumber, IsString, IsStringText}
use Rattle.smithy_json_grammar.specs.Ascii.{quotation_mark}
use Rattle.smithy_json_grammar.specs.Private.Chars.{is_plain}
use Rattle.smithy_json.proofs.DecimalLemmas.{decimal_is_number}
use Rattle.smithy_json.proofs.EscapeLemmas.{plain_byte}
use Rattle.smithy_json.proofs.QuotedLemmas.{quoted_is_string}

-- a text of UTF-8 that is written as it is
pub record IsPlainText (t : List ℕ) : Type 0 where
  pub utf8 : IsUtf8 t
  pub stays : escaped t ≡ t

pub plain_text : (t : List ℕ) → IsAscii t → escaped t ≡ t → IsPlainText t
plain_text t ascii stays = record { utf8 = IsUtf8-from_ascii t ascii; stays = stays }

digits_stay : (ds : List ℕ) → all_ascii_digits ds ≡ true → escaped ds ≡ ds
digits_stay [] h = refl
digits_stay (d ∷ ds) h =
    let both = and_parts (is_ascii_digit d) (all_ascii_digits ds) h in
    rw (plain_byte d (grind (arith, nat_tests)), digits_stay ds both.1) refl

pub decimal_is_plain : (n : ℕ) → n < 2 ^ 64 → IsPlainText (decimal n)
decimal_is_plain n small = plain_text (decimal n) (IsAscii-decimal n small) (digits_stay (decimal n) (written_digits n (omega arith)).digits)

-- a letter and a decimal number
pub lettered_is_plain : (b n : ℕ) → b < 128 → is_plain b ≡ true → n < 2 ^ 64 → IsPlainText (b ∷ decimal n)
lettered_is_plain b n letter plain small =
    let digits = decimal_is_plain n small in
    plain_text (b ∷ decimal n) (IsAscii-cons b (decimal n) letter (IsAscii-decimal n small)) (rw (plain_byte b plain, digits.stays) refl)

-- a plain text between quotation marks
pub plain_is_string : (t : List ℕ) → IsPlainText t → IsString t (quotation_mark ∷ (t ++ quotation_mark ∷ []))
plain_is_string t plain = (refl, subst IsStringText plain.stays (quoted_is_string t plain.utf8).1)

pub number_is : (n : ℕ) → n < 2 ^ 64 → IsNumber (decimal n)
number_is n small = decimal_is_number (pos n) (grind (arith, nat_tests))
