use Rattle.std.proofs.Common.{◌≡◌, ◌≤◌, ◌∙◌, ap, arith, length, take, drop}
use Rattle.std.specs.List.{position_or_len}
use Rattle.std.proofs.lemmas.Bool.Decides.{nat_tests}
use Rattle.smithy_query_codec.proofs.PathTexts.{is_point}
use Rattle.smithy_form.specs.Private.Names.{segment_cmp}
use Rattle.smithy_form.proofs.FindLemmas.{compared}
use Rattle.smithy_form.proofs.find.compare_at.Goals as goal

pub returns : goal.returns
returns c =
    let within : c.args.at ≤ length c.args.name.now = grind (arith, nat_tests, c.if-name-at.false) in
    let at : c.point_at.result ≡ position_or_len is_point (drop c.args.at c.args.name.now) = c.point_at.ensures.place ∙ ap (position_or_len is_point) c.bytes_from-rest.ensures in
    c.compare_segments.ensures
    ∙ ap (λ n. segment_cmp (take n c.bytes_from-rest.result.now) c.args.segment.now) at
    ∙ ap (λ r. segment_cmp (take (position_or_len is_point (drop c.args.at c.args.name.now)) r) c.args.segment.now) c.bytes_from-rest.ensures
    ∙ compared c.args.at c.args.name.now c.args.segment.now within
