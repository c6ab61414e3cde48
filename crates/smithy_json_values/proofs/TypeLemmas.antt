-- A container that doesn't begin is refused by its type, but for a structure where nothing comes.
use Rattle.std.proofs.Common.{◌≡◌, ◌↔◌, ℕ, List, [], ◌∷◌, length, Bool, true, false, Option, refl, sym, ap, arith}
use Rattle.std.specs.Prelude.{◌==◌, not, if◌then◌else◌}
use Rattle.smithy_declarations.specs.declared.shape_type.TimestampFormat.{TimestampFormat}
use Rattle.smithy_declarations.specs.Table.{Kind, structure_of, union_of, list_of, map_of, IsStructure, HasMembers, IsList, IsMap}
use Rattle.smithy_json_grammar.specs.Ascii.{begin_array, begin_object}
use Rattle.smithy_json_values.specs.Settings.{Settings}
use Rattle.smithy_json_values.specs.TypeMismatch.{begins_by, type_mismatches}

pub list_told : (c : Settings) (k : Kind) (time : Option TimestampFormat) (rest : List ℕ) → IsList k → begins_by (λ b. b == begin_array) rest ≡ false → type_mismatches c k time rest ≡ true
list_told c (list_of l) time rest is none = ap not none
list_told c _ time rest is none = absurd is

pub map_told : (c : Settings) (k : Kind) (time : Option TimestampFormat) (rest : List ℕ) → IsMap k → begins_by (λ b. b == begin_object) rest ≡ false → type_mismatches c k time rest ≡ true
map_told c (map_of m) time rest is none = ap not none
map_told c _ time rest is none = absurd is

anything : (rest : List ℕ) → begins_by (λ b. b == begin_object) rest ≡ false → begins_by (λ b. true) rest ≡ begins_by (λ b. not (b == begin_object)) rest
anything [] none = refl
anything (b ∷ rest) none = sym (ap not none)

pub members_told : (c : Settings) (k : Kind) (time : Option TimestampFormat) (rest : List ℕ) → HasMembers k → (is_structure : Bool) → (is_structure ≡ true) ↔ IsStructure k
    → begins_by (λ b. b == begin_object) rest ≡ false → (if is_structure then begins_by (λ b. true) rest else true) ≡ type_mismatches c k time rest
members_told c (structure_of ms) time rest has true is none = anything rest none
members_told c (structure_of ms) time rest has false is none = let clash : false ≡ true = is.1 tt in cc
members_told c (union_of ms) time rest has true is none = absurd (is.0 refl)
members_told c (union_of ms) time rest has false is none = sym (ap not none)
members_told c _ time rest has b is none = absurd has

-- whether a byte comes, by how many are left behind the ws
pub nothing_comes : (s : List ℕ) → length s ≡ 0 → begins_by (λ b. true) s ≡ false
nothing_comes [] h = refl
nothing_comes (b ∷ s) h = absurd (omega (arith, h))

pub something_comes : (s : List ℕ) → (length s ≡ 0 → ⊥) → begins_by (λ b. true) s ≡ true
something_comes [] h = absurd (h refl)
something_comes (b ∷ s) h = refl
