use Rattle.std.proofs.Common.{◌≡◌, ◌≤◌, length, drop, sym, ◌∙◌, rules}
use Rattle.cbor_item.specs.Strings.{BeginsIndefinite}
use Rattle.smithy_shapes.specs.Site.{site_of}
use Rattle.smithy_schema.specs.Spans.{text_bytes, IsTextPlaced, IsTextBetween, NamesTextPlace}
use Rattle.smithy_cbor_values.specs.Borrowed.{BorrowsText}
use Rattle.smithy_cbor_codec.specs.Cursor.{cursor_of, reading_settings_of}
use Rattle.smithy_cbor_values.proofs.ScalarReads.{reads_text, found_is}
use Rattle.smithy_wire.proofs.ScalarReads.{was_ready, memory_wanted}
use Rattle.smithy_cbor_codec.proofs.spans.CborDeserializerPieceDeserializer.take_text.Goals as goal

pub returns-clause-read : goal.returns-clause-read
returns-clause-read c =
    let same : c.ready.new.self ≡ c.args.self.now.walk = c.in_ok-ready.ensures.ok in
    let was = was_ready c.args.self.now.walk.failed c.args.self.now.walk.due (sym c.in_ok-ready.was ∙ c.ready.ensures.answer) in
    let within : c.args.self.now.walk.position ≤ length c.args.self.now.walk.input.now = search rules in
    let found = rw (c.end_depth.ensures, same) at c.text_span_at-found.ensures in
    let take = rw same at c.take_found.ensures in
    let old = cursor_of c.args.self.now in
    reads_text (reading_settings_of c.args.self.now) old (site_of c.args._schema.now) was.0 was.1 within (text_bytes old.input) _ c.text_span_at-found.result c.take_found.result
    found.found take.taken

pub returns-clause-placed : goal.returns-clause-placed
returns-clause-placed c =
    let same : c.ready.new.self ≡ c.args.self.now.walk = c.in_ok-ready.ensures.ok in
    let found = rw (c.end_depth.ensures, same) at c.text_span_at-found.ensures in
    let take = rw same at c.take_found.ensures in
    let old = cursor_of c.args.self.now in
    found_is old _ c.take_found.result (λ t end. IsTextPlaced old.input t) c.text_span_at-found.result found.placed take.taken

pub returns-clause-between : goal.returns-clause-between
returns-clause-between c =
    let same : c.ready.new.self ≡ c.args.self.now.walk = c.in_ok-ready.ensures.ok in
    let found = rw (c.end_depth.ensures, same) at c.text_span_at-found.ensures in
    let take = rw same at c.take_found.ensures in
    let old = cursor_of c.args.self.now in
    found_is old _ c.take_found.result (λ x end. IsTextBetween old.at end x) c.text_span_at-found.result found.between take.taken

pub returns-clause-borrows : goal.returns-clause-borrows
returns-clause-borrows c =
    let same : c.ready.new.self ≡ c.args.self.now.walk = c.in_ok-ready.ensures.ok in
    let found = rw (c.end_depth.ensures, same) at c.text_span_at-found.ensures in
    let take = rw same at c.take_found.ensures in
    let old = cursor_of c.args.self.now in
    record {
      borrowed =
          found_is old _ c.take_found.result (λ x. BorrowsText old.input old.at (NamesTextPlace x)) c.text_span_at-found.result found.borrowed take.taken;
      memory =
          memory_wanted old _ c.take_found.result (BeginsIndefinite 3 (drop old.at old.input)) c.text_span_at-found.result found.memory take.taken;
    }
