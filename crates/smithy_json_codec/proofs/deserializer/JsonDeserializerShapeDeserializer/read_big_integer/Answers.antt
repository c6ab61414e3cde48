use Rattle.std.proofs.Common.{◌≡◌, ◌≤◌, length, refl, sym, ◌∙◌, rules, arith}
use Rattle.std.proofs.lemmas.Grind.{common_steps}
use Rattle.std.specs.Prelude.{FitsSigned}
use Rattle.std.specs.Int.{w128}
use Rattle.smithy_schema.specs.declared.error.SerdeError.TheVariants.{TooWide}
use Rattle.smithy_declarations.specs.declared.shape_type.Scalar.TheVariants as scalars
use Rattle.smithy_shapes.specs.Site.{site_of}
use Rattle.smithy_declarations.specs.Value.{whole}
use Rattle.smithy_texts.specs.Numeral.{number}
use Rattle.smithy_json_codec.specs.Cursor.{cursor_of, reading_settings_of}
use Rattle.smithy_json_values.specs.NumberText.{NumberTextLies}
use Rattle.smithy_json_codec.proofs.DeserializerLemmas.{answers_within}
use Rattle.smithy_json_values.specs.LexicalGrammar.{grammar_of}
use Rattle.smithy_json_values.specs.Standing.{json_grammar}
use Rattle.smithy_json_codec.proofs.NumberReads.{reads_big, answers_big}
use Rattle.smithy_wire.proofs.ScalarReads.{was_ready, if_told}
use Rattle.smithy_json_codec.proofs.deserializer.JsonDeserializerShapeDeserializer.read_big_integer.Goals as goal

pub returns-clause-read : goal.returns-clause-read
returns-clause-read c =
    let same : c.ready.new.self ≡ c.args.self.now.walk = c.in_ok-ready.ensures.ok in
    let was = was_ready c.args.self.now.walk.failed c.args.self.now.walk.due (sym c.in_ok-ready.was ∙ c.ready.ensures.answer) in
    let within : c.args.self.now.walk.position ≤ length c.args.self.now.walk.input.now = search rules in
    let found = rw same at c.big_integer_at-found.ensures in
    let taken = rw same at c.take_within-answer.ensures.taken in
    rw (rw same at c.told.ensures)
    (reads_big (grammar_of (reading_settings_of c.args.self.now)) (reading_settings_of c.args.self.now) (cursor_of c.args.self.now) (site_of c.args._schema.now) was.0 was.1 within refl scalars.BigInteger (λ x. refl)
    (λ n. whole (number n)) _ c.big_integer_at-found.result c.take_within-answer.result found.found taken)

pub returns-clause-wide : goal.returns-clause-wide
returns-clause-wide c =
    let same : c.ready.new.self ≡ c.args.self.now.walk = c.in_ok-ready.ensures.ok in
    let was = was_ready c.args.self.now.walk.failed c.args.self.now.walk.due (sym c.in_ok-ready.was ∙ c.ready.ensures.answer) in
    let within : c.args.self.now.walk.position ≤ length c.args.self.now.walk.input.now = search rules in
    let found = rw same at c.big_integer_at-found.ensures in
    let taken = rw same at c.take_within-answer.ensures.taken in
    rw (rw same at c.told.ensures)
    (answers_big (grammar_of (reading_settings_of c.args.self.now)) (reading_settings_of c.args.self.now) (cursor_of c.args.self.now) (site_of c.args._schema.now) was.0 was.1 within refl scalars.BigInteger (λ x. refl)
    (λ n. whole (number n)) _ c.big_integer_at-found.result c.take_within-answer.result found.found taken)

pub returns-clause-text : goal.returns-clause-text
returns-clause-text c =
    let same : c.ready.new.self ≡ c.args.self.now.walk = c.in_ok-ready.ensures.ok in
    let found = rw same at c.big_integer_at-found.ensures in
    let taken = rw same at c.take_within-answer.ensures.taken in
    let old = cursor_of c.args.self.now in
    rw c.told.ensures
    (if_told _ c.take_within-answer.result _ (answers_within (NumberTextLies (json_grammar (reading_settings_of c.args.self.now)) scalars.BigInteger old.input old.at) old _ TooWide c.big_integer_at-found.result c.take_within-answer.result found.text taken))

pub returns-clause-fits : goal.returns-clause-fits
returns-clause-fits c =
    let same : c.ready.new.self ≡ c.args.self.now.walk = c.in_ok-ready.ensures.ok in
    let found = rw same at c.big_integer_at-found.ensures in
    let taken = rw same at c.take_within-answer.ensures.taken in
    rw c.told.ensures
    (if_told _ c.take_within-answer.result _ (answers_within (λ x e. FitsSigned w128 (number x)) (cursor_of c.args.self.now) _ TooWide c.big_integer_at-found.result c.take_within-answer.result found.fits taken))

pub big_integer_at-found-requires : goal.big_integer_at-found-requires
big_integer_at-found-requires c = grind (arith, common_steps)

pub take_within-answer-requires : goal.take_within-answer-requires
take_within-answer-requires c = grind (arith, common_steps)
