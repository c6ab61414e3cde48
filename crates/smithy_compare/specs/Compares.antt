-- What `compare` promises, for every table, root, pair of wires and pair of bodies.
use Rattle.std.specs.Prelude.{◌≡◌, ◌≢◌, ◌↔◌, ℕ, List, Option, Some, None, Result, Ok, Err}
use Rattle.smithy_declarations.specs.Table.{Table}
use Rattle.smithy_declarations.specs.Value.{Value}
use Rattle.smithy_transcode.specs.Wires.{Wire}
use Rattle.smithy_transcode.specs.Spelling.{Spells}
use Rattle.smithy_transcode.specs.ReadBody.{IsRefusedFor}
use Rattle.smithy_compare.specs.declared.comparing.Compared.{Compared}
use Rattle.smithy_compare.specs.declared.comparing.Compared.TheVariants.{Same, Differs}
use Rattle.smithy_compare.specs.declared.comparing.CompareError.{CompareError}
use Rattle.smithy_compare.specs.declared.comparing.CompareError.TheVariants.{First, Second, NoMemory}
use Rattle.smithy_compare.specs.Tree.{Step, tree_of}
use Rattle.smithy_compare.specs.FirstPath.{first_path, tree_at}
use Rattle.smithy_compare.specs.View.{path_of}

-- what a comparison answers
abbrev pub Answer : Type 0
Answer = Result Compared CompareError

-- what stands at the path in one value is other than what stands there in the other, or stands there in one alone
abbrev pub DifferAt : List Step → Value → Value → Type 0
DifferAt path v w = tree_at path (tree_of v) ≢ tree_at path (tree_of w)

-- what an answer says of two bodies, each in its wire
abbrev pub Says : Table → ℕ → Wire → List ℕ → Wire → List ℕ → Answer → Type 0
Says table root wire1 body1 wire2 body2 (Ok Same) =
    (v : Value) × Spells wire1 table root body1 v × Spells wire2 table root body2 v
Says table root wire1 body1 wire2 body2 (Ok (Differs path)) =
    (v w : Value) × Spells wire1 table root body1 v × Spells wire2 table root body2 w
    × (first_path v w ≡ Some (path_of path)) × DifferAt (path_of path) v w
Says table root wire1 body1 wire2 body2 (Err (First e)) = IsRefusedFor wire1 table root body1 e
Says table root wire1 body1 wire2 body2 (Err (Second e)) =
    ((v : Value) × Spells wire1 table root body1 v) × IsRefusedFor wire2 table root body2 e
Says table root wire1 body1 wire2 body2 (Err NoMemory) = Unit {0}

-- the answer is that there is no such path, or this path, or want of memory
abbrev pub GivesPath : Option (List Step) → Answer → Type 0
GivesPath path (Ok Same) = path ≡ None
GivesPath path (Ok (Differs p)) = path ≡ Some (path_of p)
GivesPath path (Err NoMemory) = Unit {0}
GivesPath path (Err _) = ⊥

-- What an answer says, where the root is a structure of the table.
pub record Compares (table : Table) (root : ℕ) (wire1 : Wire) (body1 : List ℕ) (wire2 : Wire) (body2 : List ℕ) (answer : Answer) : Type 0 where
  -- each answer comes only where this holds
  pub says : Says table root wire1 body1 wire2 body2 answer
  -- where both bodies spell values, the answer tells the first path at which these differ, want of memory aside
  pub spelled : (v w : Value) → Spells wire1 table root body1 v → Spells wire2 table root body2 w
      → GivesPath (first_path v w) answer
  -- two laws of first paths: there is none exactly where the values are equal, and it is the same from either side
  pub none_where_equal : (v w : Value) → (first_path v w ≡ None) ↔ (v ≡ w)
  pub same_from_both : (v w : Value) → first_path v w ≡ first_path w v
