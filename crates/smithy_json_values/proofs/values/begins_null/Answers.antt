use Rattle.std.proofs.Common.{ap, sym, ◌∙◌}
use Rattle.std.proofs.lemmas.List.{take_rest}
use Rattle.smithy_json_values.specs.Standing.{begins_with_null}
use Rattle.smithy_json_values.proofs.ScannedPlaces.{rest_behind}
use Rattle.smithy_json_values.proofs.values.begins_null.Goals as goal

pub returns : goal.returns
returns c =
    let i = c.args.input.now in
    let start = c.skip_blanks.result in
    c.begins_with_null.ensures
    ∙ ap begins_with_null (take_rest i start ∙ sym (rest_behind i c.args.at start c.skip_blanks.ensures))
