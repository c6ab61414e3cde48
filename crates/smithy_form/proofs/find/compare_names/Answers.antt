use Rattle.std.proofs.Common.{ap, drop, ◌∙◌}
use Rattle.smithy_form.specs.Private.Order.{name_cmp}
use Rattle.smithy_form.proofs.find.compare_names.Goals as goal

pub returns : goal.returns
returns c =
    c.compare_by_segments.ensures
    ∙ ap (λ xs. name_cmp xs c.bytes_from-right.result.now) c.bytes_from-left.ensures
    ∙ ap (name_cmp (drop c.common_len-common.result c.args.a.now)) c.bytes_from-right.ensures
    ∙ c.common_len-common.ensures.order
