-- What a call answers that begins a value, or a text that may be a key.
use Rattle.std.specs.Prelude.{◌≡◌, ◌↔◌, ◌++◌, List, Bool, true, Result, Ok, Err, OnOk, IfErr, IsErrOf}
use Rattle.smithy_schema.specs.declared.error.SerdeError.{SerdeError}
use Rattle.smithy_schema.specs.declared.error.SerdeError.TheVariants.{Failed}
use Rattle.smithy_schema.specs.Errors.{IsFault}
use Rattle.smithy_schema.specs.Writing.{Open}
use Rattle.smithy_shapes.specs.Site.{View}
use Rattle.smithy_cbor_body.specs.Lengths.{counted_in}
use Rattle.smithy_cbor_body.specs.Writing.{BodyState, lead as lead_of}

-- What stands before the value is written, and the value is taken by the open containers, which become `become` or refuse it. The
-- serializer counts as failed until the value is written.
pub record Begins (become : Result (List Open) SerdeError) (old : BodyState) (had_failed : Bool) (new : BodyState) (has_failed : Bool) (view : View) (result : Result (Unit {0}) SerdeError) : Type 0 where
  pub failed : IsErrOf result Failed ↔ (had_failed ≡ true)
  pub broken : has_failed ≡ true
  pub same : new.settings ≡ old.settings
  pub lead : OnOk result (new.out ≡ old.out ++ lead_of old view)
  pub taken : OnOk result (become ≡ Ok new.frames)
  pub lengths : OnOk result (new.lengths ≡ counted_in old.frames old.lengths)
  pub refused : IfErr result (λ e. IsFault e → become ≡ Err e)
