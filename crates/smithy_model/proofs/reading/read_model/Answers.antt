use Rattle.std.proofs.lemmas.Result.{err_from_is_err_and}
use Rattle.smithy_model.specs.Views.{model_view}
use Rattle.smithy_model.proofs.RootRefusals.{refused_links}
use Rattle.smithy_model.proofs.reading.read_model.Goals as goal

pub returns-clause-read : goal.returns-clause-read
returns-clause-read c =
    let unlinked = c.in_ok-model.ensures.read in
    record {
      root = unlinked.0;
      is_root = unlinked.1;
      unique = unlinked.2;
      is_model = (model_view c.in_ok-model.model, unlinked.3, c.in_ok-link_model.ensures.linked);
    }

pub returns-in_err-link_model-clause-refused : goal.returns-in_err-link_model-clause-refused
returns-in_err-link_model-clause-refused c =
    let p = err_from_is_err_and c.from_residual-in_err-link_model.result c.from_residual-in_err-link_model.ensures.1 in
    let unlinked = c.in_ok-model.ensures.read in
    rw (p.1, p.2)
    (refused_links c.args.text.now unlinked.0 (model_view c.in_ok-model.model) unlinked.1 unlinked.2 unlinked.3 c.in_err-link_model.field-0.0
    c.in_err-link_model.ensures.refused)
