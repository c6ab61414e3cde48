-- What a read of a whole body promises, for every table, root, wire and input, and every kind of tree.
use Rattle.std.specs.Prelude.{◌≡◌, ◌≢◌, ◌≤◌, ◌+◌, ℕ, length, List, Result, Ok, Err, IfOk, IfErr}
use Rattle.smithy_declarations.specs.Table.{Table, shape_place}
use Rattle.smithy_declarations.specs.Value.{Value}
use Rattle.smithy_shapes.specs.Fits.{Fits}
use Rattle.smithy_schema.specs.Nodes.{nodes}
use Rattle.smithy_transcode.specs.declared.wire.TranscodeError.{TranscodeError}
use Rattle.smithy_transcode.specs.declared.wire.TranscodeError.TheVariants.{InvalidInput, TooDeep, TooWide, NotCarried, Inexpressible, NoMemory}
use Rattle.smithy_transcode.specs.Wires.{Wire}
use Rattle.smithy_transcode.specs.Spelling.{Spells}
use Rattle.smithy_transcode.specs.Causes.{IsTooDeep, IsWide, IsUncarried}
use Rattle.smithy_transcode.specs.Transcoding.{SpellNothing, SpellNothingWithoutLimits}

-- Why an input is refused: it spells nothing, and has what the error names. Want of memory is no such refusal, and what another
-- wire can't express is no matter of reading.
abbrev pub IsRefusedFor : Wire → Table → ℕ → List ℕ → TranscodeError → Type 0
IsRefusedFor from table root input InvalidInput =
    SpellNothing from table root input × SpellNothingWithoutLimits from table root input
IsRefusedFor from table root input TooDeep = SpellNothing from table root input × IsTooDeep from table root input
IsRefusedFor from table root input TooWide = SpellNothing from table root input × IsWide from table input
IsRefusedFor from table root input NotCarried = SpellNothing from table root input × IsUncarried from table input
IsRefusedFor from table root input (Inexpressible u) = ⊥
IsRefusedFor from table root input NoMemory = ⊥

-- the answer is this value, or want of memory
abbrev pub GivesValue : {T : Type 0} → (T → Value) → Value → Result T TranscodeError → Type 0
GivesValue view v (Ok x) = view x ≡ v
GivesValue view v (Err NoMemory) = Unit {0}
GivesValue view v (Err _) = ⊥

-- What an answer says, where the root is a structure of the table, and a tree stands for the value that its view is.
pub record ReadsBody {T : Type 0} (view : T → Value) (table : Table) (root : ℕ) (from : Wire) (input : List ℕ) (answer : Result T TranscodeError) : Type 0 where
  -- Ok: the whole input spells this value
  pub ok : IfOk answer (λ x. Spells from table root input (view x))
  -- which is one of the root
  pub fits : IfOk answer (λ x. Fits table (shape_place root) (view x))
  -- what the whole input spells is the answer, want of memory aside
  pub spelled : (v : Value) → Spells from table root input v → GivesValue view v answer
  -- each other refusal comes by its cause
  pub refused : IfErr answer (λ e. (e ≢ NoMemory) → IsRefusedFor from table root input e)
  -- whatever the answer, what the input spells has at most one part more than the input has bytes
  pub nodes_are_bounded : (v : Value) → Spells from table root input v → nodes v ≤ length input + 1
  -- and it spells at most one value
  pub one_value : (v u : Value) → Spells from table root input v → Spells from table root input u → v ≡ u
