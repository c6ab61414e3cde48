use Rattle.std.proofs.Common.{◌≡◌, ◌≤◌, length, sym, ◌∙◌, rules}
use Rattle.smithy_shapes.specs.Site.{site_of}
use Rattle.smithy_schema.specs.Spans.{span_bytes, IsPlaced, IsBetween, NamesBytesPlace}
use Rattle.smithy_json_codec.specs.Cursor.{cursor_of, reading_settings_of}
use Rattle.smithy_json_codec.proofs.DeserializerLemmas.{takes_so}
use Rattle.smithy_json_codec.proofs.ScalarReads.{reads_bytes}
use Rattle.smithy_wire.proofs.ScalarReads.{was_ready, if_told}
use Rattle.smithy_json_codec.proofs.spans.JsonDeserializerPieceDeserializer.take_bytes.Goals as goal

pub returns-clause-read : goal.returns-clause-read
returns-clause-read c =
    let same : c.ready.new.self ≡ c.args.self.now.walk = c.in_ok-ready.ensures.ok in
    let was = was_ready c.args.self.now.walk.failed c.args.self.now.walk.due (sym c.in_ok-ready.was ∙ c.ready.ensures.answer) in
    let within : c.args.self.now.walk.position ≤ length c.args.self.now.walk.input.now = search rules in
    let found = rw same at c.bytes_span_at-found.ensures in
    let taken = rw same at c.take_found-answer.ensures.taken in
    let old = cursor_of c.args.self.now in
    rw (rw same at c.told.ensures)
    (reads_bytes (reading_settings_of c.args.self.now) old (site_of c.args._schema.now) was.0 was.1 within (span_bytes old.input) _ c.bytes_span_at-found.result c.take_found-answer.result
    found.found taken)

pub returns-clause-placed : goal.returns-clause-placed
returns-clause-placed c =
    let same : c.ready.new.self ≡ c.args.self.now.walk = c.in_ok-ready.ensures.ok in
    let found = rw same at c.bytes_span_at-found.ensures in
    let taken = rw same at c.take_found-answer.ensures.taken in
    let old = cursor_of c.args.self.now in
    rw c.told.ensures
    (if_told _ c.take_found-answer.result _ (takes_so (λ x e. IsPlaced old.input x) old _ c.bytes_span_at-found.result c.take_found-answer.result found.placed taken))

pub returns-clause-between : goal.returns-clause-between
returns-clause-between c =
    let same : c.ready.new.self ≡ c.args.self.now.walk = c.in_ok-ready.ensures.ok in
    let found = rw same at c.bytes_span_at-found.ensures in
    let taken = rw same at c.take_found-answer.ensures.taken in
    let old = cursor_of c.args.self.now in
    rw c.told.ensures
    (if_told _ c.take_found-answer.result _ (takes_so (λ x e. IsBetween old.at e x) old _ c.bytes_span_at-found.result c.take_found-answer.result found.between taken))

pub returns-clause-owned : goal.returns-clause-owned
returns-clause-owned c =
    let same : c.ready.new.self ≡ c.args.self.now.walk = c.in_ok-ready.ensures.ok in
    let found = rw same at c.bytes_span_at-found.ensures in
    let taken = rw same at c.take_found-answer.ensures.taken in
    let old = cursor_of c.args.self.now in
    rw c.told.ensures
    (if_told _ c.take_found-answer.result _ (takes_so (λ x e. NamesBytesPlace x → ⊥) old _ c.bytes_span_at-found.result c.take_found-answer.result found.owned taken))
