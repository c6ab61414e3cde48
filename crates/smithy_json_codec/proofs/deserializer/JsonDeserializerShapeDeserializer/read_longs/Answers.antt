use Rattle.std.proofs.Common.{◌<◌, ◌∙◌, ap, length, take, arith}
use Rattle.std.proofs.lemmas.Grind.{common_steps}
use Rattle.smithy_shapes.specs.Site.{site_of}
use Rattle.smithy_schema.specs.Reading.{passed_to}
use Rattle.smithy_json_codec.specs.Cursor.{cursor_of}
use Rattle.smithy_json_codec.proofs.LongRuns.{longs_in_turn}
use Rattle.smithy_wire.specs.Walking.{gone_on_to}
use Rattle.smithy_json_codec.proofs.deserializer.JsonDeserializerShapeDeserializer.read_longs.Goals as goal

-- some were read
pub returns-then-run-gt0-clause-reads : goal.returns-then-run-gt0-clause-reads
returns-then-run-gt0-clause-reads c =
    let old = cursor_of c.args.self.now in
    let run = c.longs_at-run in
    let some : 0 < length (take run.result.count run.new.room) = grind (arith, common_steps) in
    let gone = c.pass.ensures.passed ∙ ap (λ d. passed_to d run.result.end) (c.go_on.ensures.gone ∙ ap (λ f. gone_on_to old run.result.end f) c.frame.ensures) in
    longs_in_turn c.args.self.now (site_of c.args._schema.now) old _ (take run.result.count run.new.room) run.result.end
    c.if-self.false c.if-self-2.false c.requires.within some run.ensures.run gone
