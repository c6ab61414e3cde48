use Rattle.std.proofs.Common.{◌≡◌, ◌≤◌, length, ap, ◌∙◌, rules, arith}
use Rattle.std.proofs.lemmas.Grind.{common_steps}
use Rattle.smithy_json_codec.specs.Cursor.{cursor_of, reading_settings_of}
use Rattle.smithy_json_values.specs.Settings.{without_limits}
use Rattle.smithy_json_values.specs.Private.TokenPlaces.{names_ahead}
use Rattle.smithy_json_codec.proofs.DeserializerLemmas.{entry_steps, map_stuck, key_stuck}
use Rattle.smithy_json_codec.proofs.KeyLemmas.{failed_before, value_is_due, wants_memory, finds_none, finds_key, finds_end}
use Rattle.smithy_json_codec.proofs.ContainerEnds.{map_left}
use Rattle.smithy_wire.specs.Walking.{cursor_of as walk_cursor, gone_on_to}
use Rattle.smithy_json_codec.proofs.deserializer.JsonDeserializer.next_key_as.Goals as goal

pub of_name-requires : goal.of_name-requires
of_name-requires g c = let stands = rw c.in-Some-Member.field-0-is at c.in-Some-Member.ensures in stands.has_escape

pub returns-then-self-clause-goes_on : goal.returns-then-self-clause-goes_on
returns-then-self-clause-goes_on g c =
    let o = reading_settings_of c.args.self.now in
    let old = cursor_of c.args.self.now in
    let inside : c.args.self.now.walk.position ≤ length c.args.self.now.walk.input.now = search rules in
    rw c.refuse.ensures.error
    (failed_before o (g.K.TextPiece.bytes_of old.input) old (walk_cursor c.refuse.new.self) inside c.refuse.ensures.stays c.if-self.true)

pub returns-then-self-2-clause-goes_on : goal.returns-then-self-2-clause-goes_on
returns-then-self-2-clause-goes_on g c =
    let o = reading_settings_of c.args.self.now in
    let old = cursor_of c.args.self.now in
    let inside : c.args.self.now.walk.position ≤ length c.args.self.now.walk.input.now = search rules in
    rw c.refuse-then-self-2.ensures.error
    (value_is_due o (g.K.TextPiece.bytes_of old.input) old (walk_cursor c.refuse-then-self-2.new.self) inside c.refuse-then-self-2.ensures.stays c.if-self.false c.if-self-2.true)

pub returns-in-Ok-Some-clause-goes_on : goal.returns-in-Ok-Some-clause-goes_on
returns-in-Ok-Some-clause-goes_on g c =
    let stands = rw c.in-Some-Member.field-0-is at c.in-Some-Member.ensures in
    let o = reading_settings_of c.args.self.now in
    let old = cursor_of c.args.self.now in
    let new = walk_cursor c.go_on.new.self in
    let name = c.in-Some-Member.name in
    let means = c.in-Ok-Some.ensures old.input old.at name.end stands.stands in
    let ahead = names_ahead old.input old.inner.mark.entered old.at name.raw.now name.end stands.names.0 in
    finds_key o (g.K.TextPiece.bytes_of old.input) old new c.if-self.false c.if-self-2.false
    name.end (ap (λ n. n.at) c.go_on.ensures.gone) (ap (λ n. n.input) c.go_on.ensures.gone) (omega (arith, ahead)) stands.names.0.2.1 c.in-Ok-Some.key
    (λ t p map. entry_steps o old new t p name.raw.now (g.K.TextPiece.bytes_of old.input c.in-Ok-Some.key) name.end map c.requires.within c.if-self.false
    (c.go_on.ensures.gone ∙ ap (gone_on_to old name.end) c.frame.ensures) stands.names
    (rw c.in-Ok-Some.field-0-is at means.0))

pub returns-in-Ok-Some-clause-placed : goal.returns-in-Ok-Some-clause-placed
returns-in-Ok-Some-clause-placed g c =
    let stands = rw c.in-Some-Member.field-0-is at c.in-Some-Member.ensures in
    let old = cursor_of c.args.self.now in
    let means = c.in-Ok-Some.ensures old.input old.at c.in-Some-Member.name.end stands.stands in
    rw c.in-Ok-Some.field-0-is at means.1

pub returns-in-Ok-Some-clause-between : goal.returns-in-Ok-Some-clause-between
returns-in-Ok-Some-clause-between g c =
    let stands = rw c.in-Some-Member.field-0-is at c.in-Some-Member.ensures in
    let old = cursor_of c.args.self.now in
    let means = c.in-Ok-Some.ensures old.input old.at c.in-Some-Member.name.end stands.stands in
    let lies = rw c.in-Ok-Some.field-0-is at means.2 in
    let at : (walk_cursor c.go_on.new.self).at ≡ c.in-Some-Member.name.end = ap (λ n. n.at) c.go_on.ensures.gone in
    rw at lies

pub returns-in-Ok-None-clause-goes_on : goal.returns-in-Ok-None-clause-goes_on
returns-in-Ok-None-clause-goes_on g c =
    let stands = rw c.in-Some-Member.field-0-is at c.in-Some-Member.ensures in
    let o = reading_settings_of c.args.self.now in
    let old = cursor_of c.args.self.now in
    let name = c.in-Some-Member.name in
    let inside : c.args.self.now.walk.position ≤ length c.args.self.now.walk.input.now = search rules in
    let means = c.in-Ok-None.ensures old.input old.at name.end stands.stands in
    let wordless = rw c.in-Ok-None.field-0-is at means.0 in
    rw c.refuse-in-Ok-None.ensures.error
    (finds_none o (g.K.TextPiece.bytes_of old.input) old (walk_cursor c.refuse-in-Ok-None.new.self) inside c.refuse-in-Ok-None.ensures.stays c.if-self.false (λ undue t p map. (
      key_stuck o old t p name.raw.now name.end map stands.names wordless,
      key_stuck (without_limits o) old t p name.raw.now name.end map stands.names wordless,
    )))

pub returns-in-Err-clause-goes_on : goal.returns-in-Err-clause-goes_on
returns-in-Err-clause-goes_on g c =
    let o = reading_settings_of c.args.self.now in
    let old = cursor_of c.args.self.now in
    let inside : c.args.self.now.walk.position ≤ length c.args.self.now.walk.input.now = search rules in
    rw c.refuse-in-Err.ensures.error
    (wants_memory o (g.K.TextPiece.bytes_of old.input) old (walk_cursor c.refuse-in-Err.new.self) inside c.refuse-in-Err.ensures.stays c.if-self.false)

pub returns-in-Some-End-clause-goes_on : goal.returns-in-Some-End-clause-goes_on
returns-in-Some-End-clause-goes_on g c =
    let closes = rw c.in-Some-End.field-0-is at c.in-Some-End.ensures in
    let o = reading_settings_of c.args.self.now in
    let old = cursor_of c.args.self.now in
    let new = walk_cursor c.leave.new.self in
    let left = c.leave.ensures in
    finds_end o (g.K.TextPiece.bytes_of old.input) old new c.if-self.false c.if-self-2.false
    c.in-Some-End.end left.at left.input closes.0.0 closes.0.1
    (λ t p map. map_left o old new t p map c.if-self.false c.depth.result c.depth.ensures c.in-Some-End.end closes left.input left.at left.outer left.due left.failed)

pub returns-in-None-clause-goes_on : goal.returns-in-None-clause-goes_on
returns-in-None-clause-goes_on g c =
    let o = reading_settings_of c.args.self.now in
    let old = cursor_of c.args.self.now in
    let inside : c.args.self.now.walk.position ≤ length c.args.self.now.walk.input.now = search rules in
    rw c.refuse-in-None.ensures.error
    (finds_none o (g.K.TextPiece.bytes_of old.input) old (walk_cursor c.refuse-in-None.new.self) inside c.refuse-in-None.ensures.stays c.if-self.false (λ undue t p map. (
      map_stuck o old t p map c.depth.result c.depth.ensures c.in-None.ensures,
      map_stuck (without_limits o) old t p map c.depth.result c.depth.ensures c.in-None.ensures,
    )))

pub next_in_object-requires : goal.next_in_object-requires
next_in_object-requires g c = grind (arith, common_steps)

pub leave-requires-clause-within : goal.leave-requires-clause-within
leave-requires-clause-within g c = grind (arith, common_steps)

pub leave-requires-clause-inside : goal.leave-requires-clause-inside
leave-requires-clause-inside g c = grind (arith, common_steps)

pub go_on-requires : goal.go_on-requires
go_on-requires g c = grind (arith, common_steps)
