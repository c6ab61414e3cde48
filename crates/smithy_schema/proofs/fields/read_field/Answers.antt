use Rattle.std.proofs.Common.{sym, ◌∙◌}
use Rattle.std.proofs.lemmas.Result.{err_from_is_err_and}
use Rattle.smithy_schema.specs.Fields.{filled, absent, refused}
use Rattle.smithy_schema.proofs.fields.read_field.Goals as goal

pub returns-in_err-value-clause-fills : goal.returns-in_err-value-clause-fills
returns-in_err-value-clause-fills g c =
    let p = err_from_is_err_and c.from_residual.result c.from_residual.ensures.1 in
    rw (p.1, p.2) (refused c.in_err-value.ensures.read)

pub returns-clause-fills : goal.returns-clause-fills
returns-clause-fills g c = filled c.in_ok-value.value c.in_ok-value.ensures.read

pub returns-then-is_null-clause-fills : goal.returns-then-is_null-clause-fills
returns-then-is_null-clause-fills g c = absent (sym c.is_null.ensures ∙ c.if-is_null.true) c.read_null.ensures.reads
