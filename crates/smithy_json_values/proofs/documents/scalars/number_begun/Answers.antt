use Rattle.std.proofs.Common.{subst, sym}
use Rattle.smithy_json_values.specs.Codec.{held_grammar}
use Rattle.smithy_json_values.specs.Documents.{is_read_in}
use Rattle.smithy_json_values.specs.Private.OpenDocuments.{ScalarMeans}
use Rattle.smithy_json_values.proofs.DocumentScalars.{number_means, no_node_no_document}
use Rattle.smithy_json_values.proofs.DocumentVariants.{view-Number}
use Rattle.smithy_json_values.proofs.ScalarLemmas.{only_number}
use Rattle.smithy_json_values.proofs.documents.scalars.number_begun.Goals as goal

pub returns-in-Value : goal.returns-in-Value
returns-in-Value c =
    let g = held_grammar c.args.settings.now in
    subst (λ d. ScalarMeans g c.args.input.now c.args.at d c.in-Value.end) (sym (view-Number c.in-Value.number))
    (number_means g c.args.input.now c.args.at c.in-Value.number c.in-Value.end c.in-Value.ensures)

pub returns-in-Nothing : goal.returns-in-Nothing
returns-in-Nothing c =
    let g = held_grammar c.args.settings.now in
    no_node_no_document g c.args.input.now c.args.at
    (only_number g (is_read_in g) c.args.input.now c.args.at c.args.first c.args.at c.requires.first c.requires.no_string c.requires.no_null c.requires.no_true
    c.requires.no_false c.requires.no_array c.requires.no_object (λ raw e h. c.in-Nothing.ensures raw e h))
