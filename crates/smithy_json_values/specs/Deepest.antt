-- Where in a value that is skipped a container opens too deep.
use Rattle.std.specs.Prelude.{◌≡◌, ◌+◌, ℕ, zero, suc, length, List, [], ◌∷◌, Bool, true, false}
use Rattle.smithy_json_values.specs.Scalar.{JsonScalar}
use Rattle.smithy_json_values.specs.Spans.{Lies, IsByte}
use Rattle.smithy_json_values.specs.LexicalGrammar.{LexicalGrammar, is_skipped_in, NodeLies}
use Rattle.smithy_json_values.specs.Private.Skipping.{opening, ValueBegins}
use Rattle.smithy_wire.specs.Node.{Node}

-- an entry has come
abbrev pub has_come : ℕ → Bool
has_come zero = false
has_come (suc count) = true

-- from b to p, inside an object or an array, so many entries lie whole, of which each token passes the test
abbrev pub EntriesLie : LexicalGrammar → (JsonScalar → Bool) → Bool → ℕ → List ℕ → ℕ → ℕ → Type 0
EntriesLie g test is_object zero input b p = b ≡ p
EntriesLie g test is_object (suc count) input b p =
    (q c : ℕ) × (x : Node JsonScalar) × EntriesLie g test is_object count input b q
    × ValueBegins test input q is_object (has_come count) c × NodeLies g test 1 x input c p

-- At p a value is due inside these containers of the value that begins at a, of which objects are true
-- and the innermost stands first. What stands before p in each is whole.
abbrev pub IsDueInside : LexicalGrammar → (JsonScalar → Bool) → List Bool → List ℕ → ℕ → ℕ → Type 0
IsDueInside g test [] input a p = a ≡ p
IsDueInside g test (is_object ∷ outer) input a p =
    (q b count r : ℕ) × IsDueInside g test outer input a q × Lies (IsByte (opening is_object)) input q b
    × EntriesLie g test is_object count input b r × ValueBegins test input r is_object (has_come count) p

-- a container begins at the greatest depth, in the value that begins at a inside so many containers
pub record OpensTooDeep (g : LexicalGrammar) (greatest depth : ℕ) (input : List ℕ) (a : ℕ) : Type 0 where
  pub containers : List Bool
  pub is_object : Bool
  pub at : ℕ
  pub inside : ℕ
  pub due : IsDueInside g (is_skipped_in g) containers input a at
  pub opens : Lies (IsByte (opening is_object)) input at inside
  pub deepest : depth + length containers ≡ greatest
