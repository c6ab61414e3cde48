use Rattle.std.proofs.Common.{ap}
use Rattle.std.proofs.lemmas.Result.{err_from_is_err_and}
use Rattle.smithy_shapes.specs.Site.{site_of}
use Rattle.smithy_schema.specs.Fields.{structure_with}
use Rattle.smithy_typed.proofs.Made.{due_made_of, due_not_made}
use Rattle.smithy_typed.proofs.structures.read_root.Goals as goal

pub read_fields-requires : goal.read_fields-requires
read_fields-requires g c = record { there = (g.T.FromFields.names, c.requires.there) }

pub returns-clause-reads : goal.returns-clause-reads
returns-clause-reads g c =
    due_made_of (λ list. structure_with (g.L.FieldList.fields list)) (λ x. structure_with (g.T.FromFields.made x)) _ _ _ (site_of c.args.schema.now) c.in_ok-list.list _ (ap structure_with c.from_fields.ensures) c.in_ok-list.ensures.reads

pub returns-in_err-list-clause-reads : goal.returns-in_err-list-clause-reads
returns-in_err-list-clause-reads g c =
    let p = err_from_is_err_and c.from_residual.result c.from_residual.ensures.1 in
    rw (p.1, p.2) (due_not_made (λ list. structure_with (g.L.FieldList.fields list)) (λ x. structure_with (g.T.FromFields.made x)) _ _ _ (site_of c.args.schema.now) _ c.in_err-list.ensures.reads)
