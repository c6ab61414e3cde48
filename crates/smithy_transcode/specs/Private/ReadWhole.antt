-- What a read of a whole input says of its answer, before the refusal is told as one of a transcoding.
use Rattle.std.specs.Prelude.{ℕ, List, Result, IfOk, IfErr, IsErrOf}
use Rattle.smithy_declarations.specs.Table.{Table}
use Rattle.smithy_declarations.specs.Value.{Value}
use Rattle.smithy_schema.specs.declared.error.SerdeError.{SerdeError}
use Rattle.smithy_schema.specs.declared.error.SerdeError.TheVariants.{TooDeep, TooWide, NotCarried, Failed}
use Rattle.smithy_schema.specs.Errors.{IsRefused, IsInvalid, IsOfReader}
use Rattle.smithy_transcode.specs.Wires.{Wire}
use Rattle.smithy_transcode.specs.Spelling.{Spells}
use Rattle.smithy_transcode.specs.Causes.{IsTooDeep, IsWide, IsUncarried}
use Rattle.smithy_transcode.specs.Transcoding.{SpellNothing, SpellNothingWithoutLimits}

pub record ReadsWhole {T : Type 0} (view : T → Value) (from : Wire) (table : Table) (root : ℕ) (input : List ℕ) (answer : Result T SerdeError) : Type 0 where
  pub ok : IfOk answer (λ v. Spells from table root input (view v))
  pub refused : IsRefused answer → SpellNothing from table root input
  pub none_without_limits : IsInvalid answer → SpellNothingWithoutLimits from table root input
  pub deep : IsErrOf answer TooDeep → IsTooDeep from table root input
  pub wide : IsErrOf answer TooWide → IsWide from table input
  pub uncarried : IsErrOf answer NotCarried → IsUncarried from table input
  pub sound : IsErrOf answer Failed → ⊥
  pub reading : IfErr answer IsOfReader
