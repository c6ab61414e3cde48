-- What `transcode` promises: the whole statement, for every table, root, pair of wires and input.
use Rattle.std.specs.Prelude.{◌≡◌, ◌≤◌, ◌+◌, ◌↔◌, ℕ, length, List, Some, None, Result, Ok, Err, IfOk, IsErrOf}
use Rattle.std.specs.declared.vec.Vec.{Vec}
use Rattle.std.specs.declared.alloc.Global.{Global}
use Rattle.smithy_shapes.specs.Site.{shape_site}
use Rattle.smithy_declarations.specs.Table.{Table}
use Rattle.smithy_declarations.specs.Value.{Value}
use Rattle.smithy_query.specs.Split.{pairs_of}
use Rattle.smithy_query_codec.specs.Leaves.{Leaf, neither, leaves}
use Rattle.smithy_query_codec.specs.Canonical.{leaves_pairs}
use Rattle.smithy_query_codec.specs.Distinct.{HaveDistinctPaths, HaveDistinctTexts}
use Rattle.smithy_transcode.specs.declared.wire.Unfit.{Unfit}
use Rattle.smithy_transcode.specs.declared.wire.TranscodeError.{TranscodeError}
use Rattle.smithy_transcode.specs.declared.wire.TranscodeError.TheVariants.{InvalidInput, TooDeep, TooWide, NotCarried, Inexpressible, NoMemory}
use Rattle.smithy_transcode.specs.Wires.{Wire, json, cbor, query, IsReadable, unfit}
use Rattle.smithy_transcode.specs.Spelling.{Spells, IsSpelled, SpellsWithoutLimits, body}
use Rattle.smithy_transcode.specs.Causes.{IsTooDeep, IsWide, IsUncarried}
use Rattle.smithy_schema.specs.Nodes.{nodes}

-- the bytes spell no value of the root
abbrev pub SpellNothing : Wire → Table → ℕ → List ℕ → Type 0
SpellNothing wire table root bytes = (v : Value) → Spells wire table root bytes v → ⊥

-- the bytes spell no value of the root without the limits either
abbrev pub SpellNothingWithoutLimits : Wire → Table → ℕ → List ℕ → Type 0
SpellNothingWithoutLimits wire table root bytes = (v : Value) → SpellsWithoutLimits wire table root bytes v → ⊥

-- the bytes spell the value of the root, and no other
abbrev pub SpellsAlone : Wire → Table → ℕ → List ℕ → Value → Type 0
SpellsAlone wire table root bytes v =
    Spells wire table root bytes v × ((u : Value) → Spells wire table root bytes u → u ≡ v)

-- the leaves of a value of the root, in a form
abbrev pub root_leaves : Table → ℕ → Value → List Leaf
root_leaves table root v = leaves (shape_site table root) neither v

-- The bytes tell the value again: they spell it alone. A form is cut into Action, Version and the leaves of the value,
-- of which no two have one path, not even as paths are written.
abbrev pub TellsAgain : Wire → Table → ℕ → List ℕ → Value → Type 0
TellsAgain (json use_json_name integral) table root bytes v = SpellsAlone (json use_json_name integral) table root bytes v
TellsAgain (cbor definite_lengths) table root bytes v = SpellsAlone (cbor definite_lengths) table root bytes v
TellsAgain (query action version) table root bytes v =
    (pairs_of bytes ≡ leaves_pairs action version (root_leaves table root v))
    × HaveDistinctPaths (root_leaves table root v) × HaveDistinctTexts (root_leaves table root v)

-- an answer: the bytes, or why there are none
abbrev pub Answer : Type 0
Answer = Result (Vec ℕ Global) TranscodeError

-- the answer is these bytes, or want of memory
abbrev pub GivesOrNoMemory : List ℕ → Answer → Type 0
GivesOrNoMemory bytes (Ok out) = out.items ≡ bytes
GivesOrNoMemory bytes (Err NoMemory) = Unit {0}
GivesOrNoMemory bytes (Err _) = ⊥

-- the answer is this want of the wire, or want of memory
abbrev pub LacksOrNoMemory : Unfit → Answer → Type 0
LacksOrNoMemory u (Ok out) = ⊥
LacksOrNoMemory u (Err (Inexpressible w)) = w ≡ u
LacksOrNoMemory u (Err NoMemory) = Unit {0}
LacksOrNoMemory u (Err _) = ⊥

-- What an answer says, where the root is a structure of the table.
pub record Transcodes (table : Table) (root : ℕ) (from : Wire) (input : List ℕ) (to : Wire) (answer : Answer) : Type 0 where
  -- Ok comes only where the whole input spells a value that the wanted wire can express, and the output is this value's body,
  -- which tells the value again.
  pub answers_ok : IfOk answer
      (λ out. (v : Value) × Spells from table root input v × (unfit to table root v ≡ None)
      × (out.items ≡ body to table root v) × TellsAgain to table root out.items v)
  -- where the input spells a value that the wanted wire can express, the body of this value is the answer, want of memory aside
  pub spelled_is_ok : (v : Value) → Spells from table root input v → unfit to table root v ≡ None
      → GivesOrNoMemory (body to table root v) answer
  -- where the input spells a value that the wanted wire can't express, the answer says why, want of memory aside
  pub unfit_is_refused : (v : Value) (u : Unfit) → Spells from table root input v → unfit to table root v ≡ Some u
      → LacksOrNoMemory u answer
  -- `Inexpressible` comes only where the input spells a value of the root that the wanted wire can't express, and says why
  pub answers_inexpressible : (u : Unfit) → IsErrOf answer (Inexpressible u)
      → (v : Value) × Spells from table root input v × (unfit to table root v ≡ Some u)
  -- each refusal of an input comes only where it spells nothing
  pub answers_invalid_input : IsErrOf answer InvalidInput → SpellNothing from table root input
  -- `InvalidInput` comes only where the input wouldn't spell a value either without the limits on depth, on the size of numbers
  -- and on what is carried
  pub answers_invalid_without_limits : IsErrOf answer InvalidInput → SpellNothingWithoutLimits from table root input
  -- and `TooDeep` only where 128 containers may be open at once, or more
  pub answers_too_deep : IsErrOf answer TooDeep → SpellNothing from table root input × IsTooDeep from table root input
  -- `TooWide` comes only where the input spells nothing, and has a big number that leaves the limits of its kind
  pub answers_too_wide : IsErrOf answer TooWide → SpellNothing from table root input × IsWide from table input
  -- `NotCarried` comes only where the input spells nothing, and has a number of seconds that no instant carries, or a part that
  -- no document carries
  pub answers_not_carried : IsErrOf answer NotCarried → SpellNothing from table root input × IsUncarried from table input
  -- An output in JSON or CBOR is the body of what any input spells exactly where both spell equal values, so two outputs are
  -- equal exactly where the values are.
  pub equal_bodies : IsReadable to → IfOk answer
      (λ out. (v u : Value) → Spells from table root input v → IsSpelled table root u → unfit to table root u ≡ None
      → (out.items ≡ body to table root u) ↔ (v ≡ u))
  -- whatever the answer, what the input spells has at most one part more than the input has bytes
  pub nodes_are_bounded : (v : Value) → Spells from table root input v → nodes v ≤ length input + 1
  -- and it spells at most one value
  pub one_value : (v u : Value) → Spells from table root input v → Spells from table root input u → v ≡ u
