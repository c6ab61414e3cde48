-- What `write_body` promises, for every table, root, value of the root and wire.
use Rattle.std.specs.Prelude.{◌≡◌, ℕ, Some, None, Err}
use Rattle.smithy_declarations.specs.Table.{Table}
use Rattle.smithy_declarations.specs.Value.{Value}
use Rattle.smithy_transcode.specs.declared.wire.Unfit.{Unfit}
use Rattle.smithy_transcode.specs.declared.wire.TranscodeError.TheVariants.{Inexpressible}
use Rattle.smithy_transcode.specs.Wires.{Wire, unfit}
use Rattle.smithy_transcode.specs.Spelling.{body}
use Rattle.smithy_transcode.specs.Transcoding.{Answer, GivesOrNoMemory}

-- What an answer says, where the root is a structure of the table and the value is one of it.
pub record WritesBody (table : Table) (root : ℕ) (to : Wire) (v : Value) (answer : Answer) : Type 0 where
  -- where the wire can't express the value, the answer says why
  pub lacking : (u : Unfit) → unfit to table root v ≡ Some u → answer ≡ Err (Inexpressible u)
  -- where it can, the answer is the value's body or form, want of memory aside
  pub written : unfit to table root v ≡ None → GivesOrNoMemory (body to table root v) answer
