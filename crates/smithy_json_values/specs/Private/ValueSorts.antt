-- What a value can be by how it begins: a null, a scalar or a container.
use Rattle.std.specs.Prelude.{◌≡◌, ◌==◌, ℕ, drop, List, [], ◌∷◌, Bool, true, false, if◌then◌else◌, cond, refl}
use Rattle.smithy_json_grammar.specs.Ascii.{begin_array, begin_object}
use Rattle.smithy_json_values.specs.Standing.{Lies, IsByte, without_ws, begins_with_null, opening}
use Rattle.smithy_json_values.specs.Private.Lexical.{first}
use Rattle.smithy_json_values.specs.Private.BytePlaces.{past_byte}
use Rattle.smithy_wire.specs.Node.{Form, as_array, as_object}
use Rattle.smithy_wire.specs.Wire.{Sort, a_null, a_scalar, a_container, no_value}

abbrev byte_sort : List ℕ → Sort
byte_sort [] = no_value
byte_sort (b ∷ rest) = if b == begin_array then a_container as_array else if b == begin_object then a_container as_object else a_scalar

-- what can be at a place, by the bytes behind its white space
abbrev pub json_sort : List ℕ → Sort
json_sort s = if begins_with_null s then a_null else byte_sort s

pub not_null_sort : (s : List ℕ) (b : Bool) → (cond b a_null (byte_sort s) ≡ a_null → ⊥) → b ≡ false
not_null_sort s true h = absurd (h refl)
not_null_sort s false h = refl

-- what doesn't begin with the letter n doesn't begin with null
pub no_n : (s : List ℕ) → (first s == 0x6e) ≡ false → begins_with_null s ≡ false
no_n [] h = refl
no_n (n ∷ []) h = refl
no_n (n ∷ u ∷ []) h = refl
no_n (n ∷ u ∷ l ∷ []) h = refl
no_n (n ∷ u ∷ l ∷ k ∷ rest) h = rw h refl

pub opens_sort : (s : Form) (i : List ℕ) (a b : ℕ) → Lies (IsByte (opening s)) i a b → json_sort (without_ws (drop a i)) ≡ a_container s
opens_sort as_array i a b h = rw (past_byte begin_array (drop a i) (drop b i) refl h.2, no_n (begin_array ∷ drop b i) refl) refl
opens_sort as_object i a b h = rw (past_byte begin_object (drop a i) (drop b i) refl h.2, no_n (begin_object ∷ drop b i) refl) refl
