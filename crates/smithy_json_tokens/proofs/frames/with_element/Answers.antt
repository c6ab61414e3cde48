use Rattle.std.proofs.Common.{ap, ◌∙◌}
use Rattle.smithy_types.specs.DocumentView.{elements_view}
use Rattle.smithy_json_tokens.specs.DocumentSteps.{in_array}
use Rattle.smithy_json_tokens.proofs.FrameLemmas.{elements_push}
use Rattle.smithy_json_tokens.proofs.frames.with_element.Goals as goal

pub returns : goal.returns
returns c =
    ap (λ ds. in_array (elements_view ds)) c.in_ok-push.ensures.items
    ∙ ap in_array (elements_push c.args.elements.items c.args.value)
