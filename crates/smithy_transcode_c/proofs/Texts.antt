-- Which bytes are a text.
use Rattle.std.proofs.Common.{◌≡◌, refl, ap, ℕ, List, IsUtf8, Bool, true, false, Some, None, if◌then◌else◌}
use Rattle.std.specs.Str.{is_utf8}
use Rattle.std.proofs.lemmas.Str.{IsUtf8-from_is_utf8, is_utf8-from_IsUtf8}
use Rattle.smithy_transcode_c.specs.Calls.{text_of}

pub text_is_there : (bytes : List ℕ) → IsUtf8 bytes → text_of bytes ≡ Some bytes
text_is_there bytes utf8 = ap (λ (b : Bool). if b then Some bytes else None) (is_utf8-from_IsUtf8 bytes utf8)

pub no_text : (bytes : List ℕ) → (IsUtf8 bytes → ⊥) → text_of bytes ≡ None
no_text bytes not = go (is_utf8 bytes) refl
  where
    go : (b : Bool) → is_utf8 bytes ≡ b → text_of bytes ≡ None
    go true is = absurd (not (IsUtf8-from_is_utf8 bytes is))
    go false is = ap (λ (b : Bool). if b then Some bytes else None) is
