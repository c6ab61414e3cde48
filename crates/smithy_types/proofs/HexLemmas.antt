-- One more byte in hexadecimal.
use Rattle.std.proofs.Common.{◌≡◌, ◌+◌, ◌/◌, ◌%◌, ◌<◌, ℕ, List, [], ◌∷◌, ◌++◌, length, take, sym, ap, ◌∙◌, refl, slice_index, encode_utf8}
use Rattle.std.proofs.lemmas.List.{take_more, flat_map_more}
use Rattle.std.proofs.lemmas.Str.{encode_ascii}
use Rattle.smithy_types.specs.BlobText.{hex_digit, hex_text}

-- the digits of one byte
abbrev pub hex_byte : ℕ → List ℕ
hex_byte b = hex_digit (b / 16) ∷ hex_digit (b % 16) ∷ []

pub hex_text_more : (xs : List ℕ) (i high low : ℕ) → i < length xs → high ≡ hex_digit (slice_index xs i / 16) → low ≡ hex_digit (slice_index xs i % 16) → high < 128 → low < 128
    → hex_text (take i xs) ++ (encode_utf8 high ++ encode_utf8 low) ≡ hex_text (take (i + 1) xs)
hex_text_more xs i high low within is_high is_low high_ascii low_ascii =
    let byte = slice_index xs i in
    let digits : encode_utf8 high ++ encode_utf8 low ≡ hex_byte byte = rw (encode_ascii high high_ascii, encode_ascii low low_ascii, is_high, is_low) refl in
    ap (λ l. hex_text (take i xs) ++ l) digits
    ∙ flat_map_more hex_byte [] (take i xs) byte
    ∙ ap hex_text (sym (take_more xs i 0 within))
