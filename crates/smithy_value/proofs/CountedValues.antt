-- What was read as a value has no more values inside of it than bytes were read, but for one where the input ends.
use Rattle.std.proofs.Common.{◌≡◌, ℕ, Result, Ok, Err, IfOk, subst}
use Rattle.smithy_declarations.specs.Value.{Value}
use Rattle.smithy_shapes.specs.Site.{Site}
use Rattle.smithy_schema.specs.declared.error.SerdeError.{SerdeError}
use Rattle.smithy_schema.specs.Nodes.{nodes}
use Rattle.smithy_schema.specs.Reading.{Cursor, Relations, StandsFit, HaveBytes, depth}
use Rattle.smithy_value.specs.ReadValue.{ReadsValue}

pub values_have_bytes : {A : Type 0} (w u : Relations) (strict : Type 0) (max : ℕ) (old new : Cursor) (at : ℕ) (site : Site) (view : A → Value) (result : Result A SerdeError) → StandsFit w → new.at ≡ at
    → ReadsValue w u strict max old new site view result → IfOk result (λ x. HaveBytes old.input old.at at (nodes (view x)))
values_have_bytes w u strict max old new at site view (Ok x) fit same reads =
    subst (λ e. HaveBytes old.input old.at e (nodes (view x))) same
    (fit.counted old.input site.table site.place (depth old) old.at (view x) new.at reads.ok.stands)
values_have_bytes w u strict max old new at site view (Err e) fit same reads = tt
