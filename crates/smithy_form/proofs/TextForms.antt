-- Bytes as a text, where they are one.
use Rattle.std.proofs.Common.{◌≡◌, ℕ, List, Bool, true, false, Some, None, if◌then◌else◌, IsUtf8, refl, sym}
use Rattle.std.specs.List.{list_any}
use Rattle.std.specs.Str.{is_utf8}
use Rattle.std.proofs.lemmas.Str.{IsUtf8-from_is_utf8, is_utf8-from_IsUtf8}
use Rattle.percent_encoding.specs.Percent.{percent_decode}
use Rattle.smithy_form.specs.Forms.{has_whole_escapes, spaced, side_text}
use Rattle.smithy_form.specs.Private.Splitting.{is_coded}
use Rattle.smithy_form.proofs.PercentForms.{stands_for_itself}

pub text_is_there : (bytes : List ℕ) → IsUtf8 bytes → Some bytes ≡ (if is_utf8 bytes then Some bytes else None)
text_is_there bytes utf8 = rw (is_utf8-from_IsUtf8 bytes utf8) refl

pub no_text : (bytes : List ℕ) → (IsUtf8 bytes → ⊥) → None ≡ (if is_utf8 bytes then Some bytes else None)
no_text bytes not = go (is_utf8 bytes) refl
  where
    go : (b : Bool) → is_utf8 bytes ≡ b → None ≡ (if is_utf8 bytes then Some bytes else None)
    go true is = absurd (not (IsUtf8-from_is_utf8 bytes is))
    go false is = rw is refl

-- a side in which each byte stands for itself
pub plain_side : (side : List ℕ) → list_any is_coded side ≡ false → (if is_utf8 side then Some side else None) ≡ side_text side
plain_side side none = let own = stands_for_itself side none in sym (rw (own.0, own.1) refl)

module _ (side text : List ℕ) (decoded : Some text ≡ (if has_whole_escapes side then Some (percent_decode (spaced side)) else None)) where
  parts : (has_whole_escapes side ≡ true) × (text ≡ percent_decode (spaced side))
  parts = by (has_whole_escapes side) refl decoded
    where
      by : (b : Bool) → has_whole_escapes side ≡ b → Some text ≡ (if b then Some (percent_decode (spaced side)) else None) → (has_whole_escapes side ≡ true) × (text ≡ percent_decode (spaced side))
      by true is h = (is, cc)
      by false is h = absurd (cc)

  -- one that was decoded to a text, and one that wasn't
  pub decoded_side : IsUtf8 text → Some text ≡ side_text side
  decoded_side utf8 = sym (rw (parts.0, ← parts.1, is_utf8-from_IsUtf8 text utf8) refl)

  pub undecoded_side : (IsUtf8 text → ⊥) → None ≡ side_text side
  undecoded_side not = by (is_utf8 text) refl
    where
      by : (b : Bool) → is_utf8 text ≡ b → None ≡ side_text side
      by true is = absurd (not (IsUtf8-from_is_utf8 text is))
      by false is = sym (rw (parts.0, ← parts.1, is) refl)
