use Rattle.std.proofs.Common.{subst, sym}
use Rattle.smithy_json_values.specs.Codec.{held_grammar}
use Rattle.smithy_json_values.specs.Documents.{is_read_in}
use Rattle.smithy_json_values.specs.Private.OpenDocuments.{ScalarMeans}
use Rattle.smithy_json_values.proofs.DocumentScalars.{boolean_means, no_node_no_document}
use Rattle.smithy_json_values.proofs.DocumentVariants.{view-Bool}
use Rattle.smithy_json_values.proofs.ScalarLemmas.{no_boolean}
use Rattle.smithy_json_values.proofs.documents.scalars.boolean_begun.Goals as goal

pub returns-in-None : goal.returns-in-None
returns-in-None c =
    let g = held_grammar c.args.settings.now in
    no_node_no_document g c.args.input.now c.args.at
    (no_boolean g (is_read_in g) c.args.input.now c.args.at c.args.first c.args.at c.requires.first c.requires.letter (λ b e h. c.in-None.ensures.none b e h.0))

pub returns-in-Some : goal.returns-in-Some
returns-in-Some c =
    let g = held_grammar c.args.settings.now in
    subst (λ d. ScalarMeans g c.args.input.now c.args.at d c.in-Some.end) (sym (view-Bool c.in-Some.value))
    (boolean_means g c.args.input.now c.args.at c.in-Some.value c.in-Some.end c.in-Some.ensures.found)
