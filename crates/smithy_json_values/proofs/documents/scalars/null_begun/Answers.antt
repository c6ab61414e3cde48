use Rattle.std.proofs.Common.{refl, subst, sym}
use Rattle.smithy_json_values.specs.Codec.{held_grammar}
use Rattle.smithy_json_values.specs.Documents.{is_read_in}
use Rattle.smithy_json_values.specs.Private.OpenDocuments.{ScalarMeans}
use Rattle.smithy_json_values.proofs.DocumentScalars.{null_means, no_node_no_document}
use Rattle.smithy_json_values.proofs.DocumentVariants.{view-Null}
use Rattle.smithy_json_values.proofs.ScalarLemmas.{no_null}
use Rattle.smithy_json_values.proofs.documents.scalars.null_begun.Goals as goal

pub returns-in-None : goal.returns-in-None
returns-in-None c =
    let g = held_grammar c.args.settings.now in
    no_node_no_document g c.args.input.now c.args.at
    (no_null g (is_read_in g) c.args.input.now c.args.at 0x6e c.args.at c.requires refl (λ e h. c.in-None.ensures.none e h.0))

pub returns-in-Some : goal.returns-in-Some
returns-in-Some c =
    let g = held_grammar c.args.settings.now in
    subst (λ d. ScalarMeans g c.args.input.now c.args.at d c.in-Some.end) (sym view-Null)
    (null_means g c.args.input.now c.args.at c.in-Some.end c.in-Some.ensures.found)
