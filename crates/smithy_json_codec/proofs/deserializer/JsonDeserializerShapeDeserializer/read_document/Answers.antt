use Rattle.std.proofs.Common.{◌≡◌, ◌≤◌, length, refl, sym, ap, ◌∙◌, rules, arith}
use Rattle.std.proofs.lemmas.Grind.{common_steps}
use Rattle.smithy_schema.specs.declared.error.SerdeError.TheVariants.{TooDeep, NotCarried}
use Rattle.smithy_shapes.specs.Site.{site_of}
use Rattle.smithy_types.specs.DocumentView.{document_view}
use Rattle.smithy_json_codec.specs.Cursor.{cursor_of, reading_settings_of}
use Rattle.smithy_json_values.specs.Standing.{json_grammar}
use Rattle.smithy_json_codec.proofs.DeserializerLemmas.{error_of}
use Rattle.smithy_json_values.proofs.DocumentReads.{document_within, reads_document, refuses_document, too_deep_found, other_found, refused_means_nothing, invalid_means_nothing}
use Rattle.smithy_json_values.proofs.TreeDocuments.{tree_stands, no_tree_stands}
use Rattle.smithy_wire.proofs.ScalarReads.{was_ready}
use Rattle.smithy_json_codec.proofs.deserializer.JsonDeserializerShapeDeserializer.read_document.Goals as goal

pub returns-in-Ok-clause-read : goal.returns-in-Ok-clause-read
returns-in-Ok-clause-read c =
    let same : c.ready.new.self ≡ c.args.self.now.walk = c.in_ok-ready.ensures.ok in
    let was = was_ready c.args.self.now.walk.failed c.args.self.now.walk.due (sym c.in_ok-ready.was ∙ c.ready.ensures.answer) in
    let within : c.args.self.now.walk.position ≤ length c.args.self.now.walk.input.now = search rules in
    let opens = rw same at c.depth.ensures in
    let found = rw (c.input.ensures, same, opens) at c.in-Ok.ensures.ok in
    reads_document (json_grammar (reading_settings_of c.args.self.now)) (reading_settings_of c.args.self.now) refl (cursor_of c.args.self.now) (site_of c.args._schema.now) was.0 was.1 within _
    c.in-Ok.document c.in-Ok.end found (rw same at c.pass.ensures.passed)

pub returns-in-Ok-clause-meaning : goal.returns-in-Ok-clause-meaning
returns-in-Ok-clause-meaning c =
    let same : c.ready.new.self ≡ c.args.self.now.walk = c.in_ok-ready.ensures.ok in
    let opens = rw same at c.depth.ensures in
    let found = rw (c.input.ensures, same, opens) at c.in-Ok.ensures.ok in
    let at : c.pass.new.self.position ≡ c.in-Ok.end = ap (λ x. x.at) c.pass.ensures.passed in
    rw at found

pub returns-in-Ok-clause-tree_meaning : goal.returns-in-Ok-clause-tree_meaning
returns-in-Ok-clause-tree_meaning c = λ standard.
    let same : c.ready.new.self ≡ c.args.self.now.walk = c.in_ok-ready.ensures.ok in
    let opens = rw same at c.depth.ensures in
    let found = rw (c.input.ensures, same, opens) at c.in-Ok.ensures.ok in
    let at : c.pass.new.self.position ≡ c.in-Ok.end = ap (λ x. x.at) c.pass.ensures.passed in
    tree_stands (reading_settings_of c.args.self.now) _ c.args.self.now.walk.input.now c.args.self.now.walk.position
    (json_grammar (reading_settings_of c.args.self.now)) standard (document_view c.in-Ok.document) c.pass.new.self.position (rw at found)

pub returns-in-Err-clause-read : goal.returns-in-Err-clause-read
returns-in-Err-clause-read c =
    let same : c.ready.new.self ≡ c.args.self.now.walk = c.in_ok-ready.ensures.ok in
    let was = was_ready c.args.self.now.walk.failed c.args.self.now.walk.due (sym c.in_ok-ready.was ∙ c.ready.ensures.answer) in
    let within : c.args.self.now.walk.position ≤ length c.args.self.now.walk.input.now = search rules in
    let opens = rw same at c.depth.ensures in
    let found = rw (c.input.ensures, same, opens) at c.in-Err.ensures.refused in
    rw (c.refuse.ensures.error ∙ c.refusal.ensures)
    (refuses_document (json_grammar (reading_settings_of c.args.self.now)) (reading_settings_of c.args.self.now) refl (cursor_of c.args.self.now) (site_of c.args._schema.now) was.0 was.1 within _
    (rw same at c.refuse.ensures.stays) c.in-Err.fault found)

pub returns-in-Err-clause-too_deep : goal.returns-in-Err-clause-too_deep
returns-in-Err-clause-too_deep c = λ deep.
    let same : c.ready.new.self ≡ c.args.self.now.walk = c.in_ok-ready.ensures.ok in
    let opens = rw same at c.depth.ensures in
    let found = rw (c.input.ensures, same, opens) at c.in-Err.ensures.refused in
    too_deep_found (json_grammar (reading_settings_of c.args.self.now)) (reading_settings_of c.args.self.now) _ c.args.self.now.walk.input.now c.args.self.now.walk.position c.in-Err.fault found
    (sym (c.refuse.ensures.error ∙ c.refusal.ensures) ∙ error_of c.refuse.result TooDeep deep)

pub returns-in-Err-clause-other_number : goal.returns-in-Err-clause-other_number
returns-in-Err-clause-other_number c = λ other.
    let same : c.ready.new.self ≡ c.args.self.now.walk = c.in_ok-ready.ensures.ok in
    let opens = rw same at c.depth.ensures in
    let found = rw (c.input.ensures, same, opens) at c.in-Err.ensures.refused in
    other_found (json_grammar (reading_settings_of c.args.self.now)) (reading_settings_of c.args.self.now) _ c.args.self.now.walk.input.now c.args.self.now.walk.position c.in-Err.fault found
    (sym (c.refuse.ensures.error ∙ c.refusal.ensures) ∙ error_of c.refuse.result NotCarried other)

pub returns-in-Err-clause-no_meaning : goal.returns-in-Err-clause-no_meaning
returns-in-Err-clause-no_meaning c = λ refused due.
    let same : c.ready.new.self ≡ c.args.self.now.walk = c.in_ok-ready.ensures.ok in
    let opens = rw same at c.depth.ensures in
    let found = rw (c.input.ensures, same, opens) at c.in-Err.ensures.refused in
    refused_means_nothing (json_grammar (reading_settings_of c.args.self.now)) (reading_settings_of c.args.self.now) _ c.args.self.now.walk.input.now c.args.self.now.walk.position c.in-Err.fault found
    (rw (c.refuse.ensures.error ∙ c.refusal.ensures) at refused)

pub returns-in-Err-clause-none_without_limits : goal.returns-in-Err-clause-none_without_limits
returns-in-Err-clause-none_without_limits c = λ invalid due.
    let same : c.ready.new.self ≡ c.args.self.now.walk = c.in_ok-ready.ensures.ok in
    let opens = rw same at c.depth.ensures in
    let found = rw (c.input.ensures, same, opens) at c.in-Err.ensures.refused in
    invalid_means_nothing (json_grammar (reading_settings_of c.args.self.now)) (reading_settings_of c.args.self.now) _ c.args.self.now.walk.input.now c.args.self.now.walk.position c.in-Err.fault found
    (rw (c.refuse.ensures.error ∙ c.refusal.ensures) at invalid)

pub returns-in-Err-clause-no_tree_meaning : goal.returns-in-Err-clause-no_tree_meaning
returns-in-Err-clause-no_tree_meaning c = λ standard refused due.
    let same : c.ready.new.self ≡ c.args.self.now.walk = c.in_ok-ready.ensures.ok in
    let opens = rw same at c.depth.ensures in
    let found = rw (c.input.ensures, same, opens) at c.in-Err.ensures.refused in
    no_tree_stands (reading_settings_of c.args.self.now) _ c.args.self.now.walk.input.now c.args.self.now.walk.position
    (json_grammar (reading_settings_of c.args.self.now)) standard
    (refused_means_nothing (json_grammar (reading_settings_of c.args.self.now)) (reading_settings_of c.args.self.now) _ c.args.self.now.walk.input.now c.args.self.now.walk.position c.in-Err.fault found
    (rw (c.refuse.ensures.error ∙ c.refusal.ensures) at refused))

pub standing_document_at-requires-clause-within : goal.standing_document_at-requires-clause-within
standing_document_at-requires-clause-within c = grind (arith, common_steps)

pub standing_document_at-requires-clause-shallow : goal.standing_document_at-requires-clause-shallow
standing_document_at-requires-clause-shallow c = grind (arith, common_steps)

pub pass-requires : goal.pass-requires
pass-requires c =
    let found = rw c.input.ensures at c.in-Ok.ensures.ok in
    document_within (json_grammar (reading_settings_of c.args.self.now)) (reading_settings_of c.args.self.now) _ _ _ (document_view c.in-Ok.document) c.in-Ok.end found.0
