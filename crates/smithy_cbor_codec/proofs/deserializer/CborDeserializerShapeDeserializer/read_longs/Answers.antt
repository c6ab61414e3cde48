use Rattle.std.proofs.Common.{◌≤◌, ◌<◌, ◌∙◌, ap, length, take, rules, arith}
use Rattle.std.proofs.lemmas.Grind.{common_steps}
use Rattle.smithy_shapes.specs.Site.{site_of}
use Rattle.smithy_schema.specs.Reading.{depth, passed_to}
use Rattle.smithy_cbor_codec.specs.Cursor.{cursor_of, reading_settings_of}
use Rattle.smithy_cbor_values.specs.Settings.{keep_limits}
use Rattle.smithy_cbor_codec.proofs.LongRuns.{longs_in_turn}
use Rattle.smithy_wire.specs.Walking.{gone_on_to}
use Rattle.smithy_cbor_codec.proofs.deserializer.CborDeserializerShapeDeserializer.read_longs.Goals as goal

-- some were read
pub returns-then-run-gt0-clause-reads : goal.returns-then-run-gt0-clause-reads
returns-then-run-gt0-clause-reads c =
    let old = cursor_of c.args.self.now in
    let run = c.longs_at-run in
    let within : c.args.self.now.walk.position ≤ length c.args.self.now.walk.input.now = search rules in
    let inside : 0 < depth old = grind (arith, common_steps) in
    let some : 0 < length (take run.result.count run.new.room) = grind (arith, common_steps) in
    let gone = c.pass.ensures.passed ∙ ap (λ d. passed_to d run.result.end) (c.go_on.ensures.gone ∙ ap (λ f. gone_on_to old run.result.end f) c.frame.ensures) in
    longs_in_turn (keep_limits (reading_settings_of c.args.self.now)) (site_of c.args._schema.now) old _ (take run.result.count run.new.room) run.result.end run.result.due
    c.if-self.false c.if-self-2.false c.requires.within inside within some run.ensures.run gone
