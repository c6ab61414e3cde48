use Rattle.std.proofs.Common.{◌≡◌, ◌≤◌, length, sym, ◌∙◌, rules}
use Rattle.std.specs.Cow.{cow_str_bytes, IsBorrowedStr}
use Rattle.smithy_shapes.specs.Site.{site_of}
use Rattle.smithy_json_codec.specs.Cursor.{cursor_of, reading_settings_of}
use Rattle.smithy_json_values.specs.Borrowed.{BorrowsText, LiesEscaped}
use Rattle.smithy_json_values.specs.Standing.{json_grammar}
use Rattle.smithy_json_codec.proofs.DeserializerLemmas.{takes_so}
use Rattle.smithy_json_codec.proofs.ScalarReads.{reads_text}
use Rattle.smithy_wire.proofs.ScalarReads.{was_ready, if_told, memory_told, memory_wanted}
use Rattle.smithy_json_codec.proofs.borrowing.JsonDeserializerBorrowDeserializer.read_text.Goals as goal

pub returns-clause-read : goal.returns-clause-read
returns-clause-read c =
    let same : c.ready.new.self ≡ c.args.self.now.walk = c.in_ok-ready.ensures.ok in
    let was = was_ready c.args.self.now.walk.failed c.args.self.now.walk.due (sym c.in_ok-ready.was ∙ c.ready.ensures.answer) in
    let within : c.args.self.now.walk.position ≤ length c.args.self.now.walk.input.now = search rules in
    let found = rw same at c.text_piece_at-found.ensures in
    let taken = rw same at c.take_found-answer.ensures.taken in
    rw (rw same at c.told.ensures)
    (reads_text (reading_settings_of c.args.self.now) (cursor_of c.args.self.now) (site_of c.args._schema.now) was.0 was.1 within cow_str_bytes _ c.text_piece_at-found.result c.take_found-answer.result
    found.found taken)

pub returns-clause-borrows : goal.returns-clause-borrows
returns-clause-borrows c =
    let same : c.ready.new.self ≡ c.args.self.now.walk = c.in_ok-ready.ensures.ok in
    let found = rw same at c.text_piece_at-found.ensures in
    let taken = rw same at c.take_found-answer.ensures.taken in
    let old = cursor_of c.args.self.now in
    record {
      borrowed =
          rw c.told.ensures
          (if_told _ c.take_found-answer.result _ (takes_so (λ t. BorrowsText (json_grammar (reading_settings_of c.args.self.now)) old.input old.at (IsBorrowedStr t)) old _ c.text_piece_at-found.result c.take_found-answer.result found.borrowed taken));
      memory = λ is.
          memory_wanted old _ c.take_found-answer.result (LiesEscaped (json_grammar (reading_settings_of c.args.self.now)) old.input old.at) c.text_piece_at-found.result found.memory taken
          (memory_told _ c.take_found-answer.result (sym c.told.ensures ∙ is));
    }
