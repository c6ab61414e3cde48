use Rattle.std.proofs.Common.{◌≡◌, ◌<◌, sym, ap, ◌∙◌, arith}
use Rattle.smithy_schema.specs.declared.error.SerdeError.TheVariants.{TooDeep, NotCarried}
use Rattle.smithy_schema.specs.Reading.{depth}
use Rattle.smithy_wire.specs.Walking.{cursor_of as walk_cursor}
use Rattle.smithy_wire.proofs.ScalarReads.{was_ready}
use Rattle.smithy_json_codec.specs.Cursor.{cursor_of, reading_settings_of}
use Rattle.smithy_json_values.specs.Documents.{is_read_in}
use Rattle.smithy_json_values.specs.Standing.{json_grammar}
use Rattle.smithy_json_codec.proofs.DeserializerLemmas.{error_of, goes_ahead}
use Rattle.smithy_json_values.proofs.DocumentReads.{document_within, too_deep_found, other_found, refused_means_nothing, invalid_means_nothing}
use Rattle.smithy_json_values.proofs.DocumentScalars.{document_node}
use Rattle.smithy_json_values.proofs.SkipSteps.{node_ahead}
use Rattle.smithy_json_codec.proofs.deserializer.JsonDeserializer.read_discriminated_document.Goals as goal

pub returns-in-Ok-clause-conduct : goal.returns-in-Ok-clause-conduct
returns-in-Ok-clause-conduct c =
    let same : c.ready.new.self ≡ c.args.self.now.walk = c.in_ok-ready.ensures.ok in
    let was = was_ready c.args.self.now.walk.failed c.args.self.now.walk.due (sym c.in_ok-ready.was ∙ c.ready.ensures.answer) in
    let settings = reading_settings_of c.args.self.now in
    let g = json_grammar settings in
    let old = cursor_of c.args.self.now in
    let found = rw same at c.in-Ok.ensures.ok in
    let lies = found.stands.0 in
    let ahead = node_ahead g (is_read_in g) old.input 1 lies.node old.at c.in-Ok.end (document_node g settings (depth old) old.input old.at found.document c.in-Ok.end lies) in
    let less : old.at < c.in-Ok.end = ahead.0 in
    let passed = rw same at c.pass.ensures.passed in
    let place : (walk_cursor c.pass.new.self).at ≡ c.in-Ok.end = ap (λ x. x.at) passed in
    let input : (walk_cursor c.pass.new.self).input ≡ old.input = ap (λ x. x.input) passed in
    goes_ahead _ old (walk_cursor c.pass.new.self) c.in-Ok.document c.in-Ok.end was.0 place input (omega (arith, less)) ahead.1

pub returns-in-Err-clause-too_deep : goal.returns-in-Err-clause-too_deep
returns-in-Err-clause-too_deep c = λ deep.
    let same : c.ready.new.self ≡ c.args.self.now.walk = c.in_ok-ready.ensures.ok in
    let settings = reading_settings_of c.args.self.now in
    let found = rw same at c.in-Err.ensures.refused in
    too_deep_found (json_grammar settings) settings _ c.args.self.now.walk.input.now c.args.self.now.walk.position c.in-Err.fault found
    (sym (c.refuse.ensures.error ∙ c.refusal.ensures) ∙ error_of c.refuse.result TooDeep deep)

pub returns-in-Err-clause-other_number : goal.returns-in-Err-clause-other_number
returns-in-Err-clause-other_number c = λ other.
    let same : c.ready.new.self ≡ c.args.self.now.walk = c.in_ok-ready.ensures.ok in
    let settings = reading_settings_of c.args.self.now in
    let found = rw same at c.in-Err.ensures.refused in
    other_found (json_grammar settings) settings _ c.args.self.now.walk.input.now c.args.self.now.walk.position c.in-Err.fault found
    (sym (c.refuse.ensures.error ∙ c.refusal.ensures) ∙ error_of c.refuse.result NotCarried other)

pub returns-in-Err-clause-refused : goal.returns-in-Err-clause-refused
returns-in-Err-clause-refused c = λ fault due.
    let same : c.ready.new.self ≡ c.args.self.now.walk = c.in_ok-ready.ensures.ok in
    let settings = reading_settings_of c.args.self.now in
    let found = rw same at c.in-Err.ensures.refused in
    refused_means_nothing (json_grammar settings) settings _ c.args.self.now.walk.input.now c.args.self.now.walk.position c.in-Err.fault found
    (rw (c.refuse.ensures.error ∙ c.refusal.ensures) at fault)

pub returns-in-Err-clause-none_without_limits : goal.returns-in-Err-clause-none_without_limits
returns-in-Err-clause-none_without_limits c = λ invalid due.
    let same : c.ready.new.self ≡ c.args.self.now.walk = c.in_ok-ready.ensures.ok in
    let settings = reading_settings_of c.args.self.now in
    let found = rw same at c.in-Err.ensures.refused in
    invalid_means_nothing (json_grammar settings) settings _ c.args.self.now.walk.input.now c.args.self.now.walk.position c.in-Err.fault found
    (rw (c.refuse.ensures.error ∙ c.refusal.ensures) at invalid)

pub pass-requires : goal.pass-requires
pass-requires c =
    let settings = reading_settings_of c.args.self.now in
    let found = c.in-Ok.ensures.ok in
    document_within (json_grammar settings) settings _ _ _ found.document c.in-Ok.end found.stands.0
