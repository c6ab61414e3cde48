-- What a call that compares two bodies asks for, and what it answers.
use Rattle.std.specs.Prelude.{◌≡◌, ◌≢◌, ◌⊎◌, ℕ, List, length, Some, None, Ok, Err}
use Rattle.smithy_declarations.specs.Table.{Table, IsStructure, kind_of, shape_place, declared_as}
use Rattle.smithy_transcode.specs.Wires.{Wire}
use Rattle.smithy_compare.specs.Compares.{Answer, Compares}
use Rattle.smithy_compare.specs.PathText.{text_of_path}
use Rattle.smithy_compare.specs.View.{path_of}
use Rattle.smithy_compare.specs.declared.comparing.Compared.TheVariants.{Same, Differs}
use Rattle.smithy_transcode_c.specs.Refusals.{refusal_number}
use Rattle.smithy_transcode_c.specs.Numbers.{compare_number}
use Rattle.smithy_transcode_c.specs.declared.refusal.Refusal.{Refusal}
use Rattle.smithy_transcode_c.specs.declared.refusal.Refusal.TheVariants.{Usage, OutOfMemory}
use Rattle.smithy_transcode_c.specs.Calls.{source_wire, RefusesRoot, IsHandedOut}

-- a root by its name, and the wires of both bodies by their numbers
pub record Comparison : Type 0 where
  pub root_name : List ℕ
  pub first : ℕ
  pub second : ℕ

-- the structure of the table, and the wires, that are asked for
pub record AreMeant (table : Table) (asked : Comparison) (root : ℕ) (first second : Wire) : Type 0 where
  pub named : declared_as table asked.root_name ≡ Some root
  pub structure : IsStructure (kind_of table (shape_place root))
  pub wire_of_first : source_wire asked.first ≡ Some first
  pub wire_of_second : source_wire asked.second ≡ Some second

-- both wires are there
abbrev pub HasBothWires : Comparison → Type 0
HasBothWires asked = (source_wire asked.first ≢ None) × (source_wire asked.second ≢ None)

-- why nothing is compared: the wires come before the root, and want of memory is told only where both wires are there
abbrev pub RefusesToCompare : Table → Comparison → Refusal → Type 0
RefusesToCompare table asked Usage = (source_wire asked.first ≡ None) ⊎ (source_wire asked.second ≡ None)
RefusesToCompare table asked OutOfMemory = HasBothWires asked
RefusesToCompare table asked status = HasBothWires asked × RefusesRoot table asked.root_name status

-- what becomes of an answer of `compare`: 0 and nothing more where both bodies spell one value; 40 and the text of the first path at which
-- their values differ; or the number of the refusal
abbrev pub IsToldOfTwo : Table → (root : ℕ) → Answer → (room : List ℕ) → (number path_len : ℕ) → (out : List ℕ) → Type 0
IsToldOfTwo table root (Ok Same) room number path_len out = (number ≡ 0) × (path_len ≡ 0) × (out ≡ room)
IsToldOfTwo table root (Ok (Differs path)) room number path_len out =
    (path_len ≡ length (text_of_path table root (path_of path)))
    × IsHandedOut 40 (text_of_path table root (path_of path)) room number out
IsToldOfTwo table root (Err error) room number path_len out = (number ≡ compare_number error) × (path_len ≡ 0) × (out ≡ room)

-- What a call that compares answers: why it has nothing to compare, or what becomes of the answer of `compare`.
abbrev pub CompareAnswer : Table → Comparison → (first second room : List ℕ) → (number path_len : ℕ) → (out : List ℕ) → Type 0
CompareAnswer table asked first second room number path_len out =
    ((refusal : Refusal) × RefusesToCompare table asked refusal × (number ≡ refusal_number refusal) × (path_len ≡ 0) × (out ≡ room))
    ⊎ ((root : ℕ) × (wire1 : Wire) × (wire2 : Wire) × (answer : Answer) × AreMeant table asked root wire1 wire2
    × Compares table root wire1 first wire2 second answer × IsToldOfTwo table root answer room number path_len out)
