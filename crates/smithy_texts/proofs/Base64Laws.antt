-- `blob_of` and `blob_text` undo one another.
use Rattle.std.proofs.Common.{◌≡◌, ℕ, ◌<◌, ◌+◌, ◌*◌, ◌/◌, ◌%◌, length, replicate, List, [], ◌∷◌, Bool, true, false, cond, Option, Some, None, refl, sym, ap, subst, slice_index, nat_lt, arith, ◌∙◌, zero, suc, ◌&&◌}
use Rattle.std.proofs.Common.{Result, Ok, Err}
use Rattle.std.specs.Cmp.Lexicographic.{bytes_decides}
use Rattle.std.specs.List.{list_all}
use Rattle.std.specs.Prelude.{IsUtf8}
use Rattle.std.proofs.lemmas.Str.{IsUtf8-from_ascii}
use Rattle.std.specs.Str.{byte, bytes_eq}
use Rattle.std.proofs.lemmas.Bool.{and_parts}
use Rattle.std.proofs.lemmas.Bool.Decides.{nat_tests}
use Rattle.std.proofs.lemmas.List.Folds.{list_all-append}
use Rattle.base64.specs.Rfc4648.{encode_symbols}
use Rattle.base64.specs.Decode.{decoded_bytes}
use Rattle.base64.specs.GeneralPurpose.{IsBytes}
use Rattle.base64.specs.declared.engine.DecodePaddingMode.TheVariants.{RequireCanonical}
use Rattle.base64.specs.Engines.{standard}
use Rattle.base64.proofs.EngineFacts.{IsAscii-encode_of}
use Rattle.base64.proofs.RoundTrip.{decode-encode}
use Rattle.smithy_texts.specs.Base64Text.{alphabet, blob_text, blob_of, are_bytes}
use Rattle.smithy_texts.proofs.OnLiterals.{smithy_texts_on_literals}

-- the test says so of each place
pub are_bytes-is : (m : List ℕ) → IsBytes m → are_bytes m ≡ true
are_bytes-is [] h = refl
are_bytes-is (b ∷ m) h =
    let first : b < 256 = h 0 in
    let rest : are_bytes m ≡ true = are_bytes-is m (λ i. h (suc i)) in
    grind (arith, nat_tests)

both : (a b : Bool) → (a && b) ≡ true → b ≡ true
both true b h = h
both false b h = cc

bytes_at : (m : List ℕ) → are_bytes m ≡ true → (i : ℕ) → slice_index m i < 256
bytes_at [] h i = omega arith
bytes_at (b ∷ m) h zero = grind (arith, nat_tests)
bytes_at (b ∷ m) h (suc i) = bytes_at m (both (nat_lt b 256) (are_bytes m) h) i

-- what `blob_of` answers, by the bytes that decoding finds
checked : List ℕ → List ℕ → Option (List ℕ)
checked text found = cond (are_bytes found && bytes_eq (blob_text found) text) (Some found) None

checked-same : (m : List ℕ) → IsBytes m → checked (blob_text m) m ≡ Some m
unfolding checked
checked-same m h =
    let same : bytes_eq (blob_text m) (blob_text m) ≡ true = (bytes_decides (blob_text m) (blob_text m)).1 refl in
    let small : are_bytes m ≡ true = are_bytes-is m h in
    ap (λ b. cond (b && bytes_eq (blob_text m) (blob_text m)) (Some m) None) small ∙ ap (λ b. cond (true && b) (Some m) None) same

pub blob_of-blob_text : (m : List ℕ) → IsBytes m → blob_of (blob_text m) ≡ Some m
unfolding checked
blob_of-blob_text m small =
    let found : decoded_bytes standard.decode_table (byte "=") (blob_text m) ≡ m =
    (decode-encode alphabet standard.decode_table m (byte "=") false RequireCanonical true refl small refl).1 in
    let P : List ℕ → Type 0 = λ x. checked (blob_text m) x ≡ Some m in
    subst P (sym found) (checked-same m small)

-- the bytes have this base64
pub record IsBlobOf (text m : List ℕ) : Type 0 where
  pub spelled : blob_text m ≡ text
  pub bytes : IsBytes m

pub blob_of-found : (text m : List ℕ) → blob_of text ≡ Some m → IsBlobOf text m
unfolding checked
blob_of-found text m e = go (decoded_bytes standard.decode_table (byte "=") text) e
  where
    by : (a b : Bool) (found : List ℕ) → (a ≡ true → IsBytes found) → (b ≡ true → blob_text found ≡ text) → cond (a && b) (Some found) None ≡ Some m → IsBlobOf text m
    by true true found small h e = let same : found ≡ m = cc in let P : List ℕ → Type 0 = λ x. IsBlobOf text x in subst P same (record { spelled = h refl; bytes = small refl })
    by true false found small h e = cc
    by false b found small h e = cc

    go : (found : List ℕ) → checked text found ≡ Some m → IsBlobOf text m
    go found e = by (are_bytes found) (bytes_eq (blob_text found) text) found (bytes_at found) ((bytes_decides (blob_text found) text).0) e

-- the same, where bytes are told by the test
pub blob_back : (m : List ℕ) → are_bytes m ≡ true → blob_of (blob_text m) ≡ Some m
blob_back m h = blob_of-blob_text m (bytes_at m h)

pub blob_is_bytes : (text m : List ℕ) → blob_of text ≡ Some m → are_bytes m ≡ true
blob_is_bytes text m h = are_bytes-is m (blob_of-found text m h).bytes

-- where none are found, no bytes have the text
pub blob_of-none : (text : List ℕ) → ((m : List ℕ) → IsBytes m → text ≡ blob_text m → ⊥) → blob_of text ≡ None
blob_of-none text none = by (blob_of text) refl
  where
    by : (o : Option (List ℕ)) → blob_of text ≡ o → blob_of text ≡ None
    by None e = e
    by (Some m) e = let found = blob_of-found text m e in absurd (none m found.bytes (sym found.spelled))

-- no result is both
pub not_both : {A E : Type 0} (r : Result A E) (v : A) (e : E) → r ≡ Ok v → r ≡ Err e → ⊥
not_both r v e ok err = let same : Ok v ≡ Err e = sym ok ∙ err in absurd (cc)

-- base64 is a text
pub blob_text_is_utf8 : (m : List ℕ) → IsUtf8 (blob_text m)
unfolding smithy_texts_on_literals
blob_text_is_utf8 m = IsUtf8-from_ascii (blob_text m) (IsAscii-encode_of standard m)

-- ---- what holds of each symbol

passed_at : (p : ℕ → Bool) (xs : List ℕ) → list_all p xs ≡ true → (i : ℕ) → i < length xs → p (slice_index xs i) ≡ true
passed_at p [] h i within = absurd (omega arith)
passed_at p (x ∷ xs) h zero within = (and_parts (p x) (list_all p xs) h).0
passed_at p (x ∷ xs) h (suc i) within = passed_at p xs (and_parts (p x) (list_all p xs) h).1 i (omega arith)

symbol_count : length alphabet ≡ 64
unfolding smithy_texts_on_literals
symbol_count = refl

module _ (p : ℕ → Bool) (symbols : list_all p alphabet ≡ true) (pad : p (byte "=") ≡ true) where
  symbol : (n : ℕ) → n < 64 → p (slice_index alphabet n) ≡ true
  symbol n below = passed_at p alphabet symbols n (omega (arith, below, symbol_count))

  symbols_pass : (m : List ℕ) → are_bytes m ≡ true → list_all p (encode_symbols alphabet m) ≡ true
  unfolding encode_symbols
  symbols_pass [] h = refl
  symbols_pass (a ∷ []) h =
      let small : a < 256 = bytes_at (a ∷ []) h 0 in
      rw (symbol (a / 4) (omega arith), symbol (a % 4 * 16) (omega arith)) refl
  symbols_pass (a ∷ b ∷ []) h =
      let small : a < 256 = bytes_at (a ∷ b ∷ []) h 0 in
      let next : b < 256 = bytes_at (a ∷ b ∷ []) h 1 in
      rw (symbol (a / 4) (omega arith), symbol (a % 4 * 16 + b / 16) (omega arith), symbol (b % 16 * 4) (omega arith)) refl
  symbols_pass (a ∷ b ∷ c ∷ rest) h =
      let small : a < 256 = bytes_at (a ∷ b ∷ c ∷ rest) h 0 in
      let next : b < 256 = bytes_at (a ∷ b ∷ c ∷ rest) h 1 in
      let last : c < 256 = bytes_at (a ∷ b ∷ c ∷ rest) h 2 in
      let more : are_bytes rest ≡ true = both (nat_lt c 256) (are_bytes rest) (both (nat_lt b 256) (are_bytes (c ∷ rest)) (both (nat_lt a 256) (are_bytes (b ∷ c ∷ rest)) h)) in
      rw (symbol (a / 4) (omega arith), symbol (a % 4 * 16 + b / 16) (omega arith), symbol (b % 16 * 4 + c / 64) (omega arith), symbol (c % 64) (omega arith), symbols_pass rest more) refl

  padding_passes : (n : ℕ) → list_all p (replicate n (byte "=")) ≡ true
  padding_passes zero = refl
  padding_passes (suc n) = rw (pad, padding_passes n) refl

  -- what holds of each symbol and of the padding, holds of each byte of a base64 text
  pub symbols_hold : (m : List ℕ) → are_bytes m ≡ true → list_all p (blob_text m) ≡ true
  symbols_hold m h = list_all-append p (encode_symbols alphabet m) _ ∙ rw (symbols_pass m h, padding_passes) refl
