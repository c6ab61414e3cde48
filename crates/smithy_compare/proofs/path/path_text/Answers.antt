use Rattle.std.proofs.Common.{drop, option_map, string_bytes}
use Rattle.std.proofs.lemmas.List.{drop_all}
use Rattle.smithy_shapes.specs.Site.{site_of}
use Rattle.smithy_compare.specs.View.{step_of}
use Rattle.smithy_compare.proofs.PathTexts.{begun, step_written, all_written}
use Rattle.smithy_compare.proofs.path.path_text.Goals as goal

pub loop-part-init : goal.loop-part-init
loop-part-init c = begun _ _ _ _ _ c.in_ok-text.ensures.ok c.schema.ensures.site

pub loop-part-preserved : goal.loop-part-preserved
loop-part-preserved c =
    step_written step_of c.args.path.now c.loop-part.part-index c.part-item.result (option_map site_of c.loop-part.there) (option_map site_of c.schema_behind-there.result) _ (string_bytes c.loop-part.text) _
    c.loop-part-test.true c.part-item.is c.loop-part.invariant c.schema_behind-there.ensures c.in_ok-push_step.ensures

pub returns : goal.returns
returns c =
    all_written step_of (drop c.loop-part.part-index c.args.path.now) (option_map site_of c.loop-part.there) _ (string_bytes c.loop-part.text)
    (drop_all c.loop-part.part-index c.args.path.now c.loop-part-test.false) c.loop-part.invariant
