use Rattle.std.proofs.Common.{subst, sym, string_bytes}
use Rattle.smithy_json_values.specs.Codec.{held_grammar}
use Rattle.smithy_json_values.specs.Private.OpenDocuments.{ScalarMeans}
use Rattle.smithy_json_values.proofs.DocumentScalars.{text_means, no_text_no_document}
use Rattle.smithy_json_values.proofs.DocumentVariants.{view-String}
use Rattle.smithy_json_values.proofs.documents.scalars.text_begun.Goals as goal

pub returns : goal.returns
returns c =
    subst (λ d. ScalarMeans (held_grammar c.args.settings.now) c.args.input.now c.args.at d c.in-Some.end) (sym (view-String c.in-Some.text))
    (text_means (held_grammar c.args.settings.now) c.args.input.now c.args.at (string_bytes c.in-Some.text) c.in-Some.end (rw c.in-Some.is at c.in_ok-text.ensures))

pub returns-in_default : goal.returns-in_default
returns-in_default c = no_text_no_document (held_grammar c.args.settings.now) c.args.input.now c.args.at c.args.at c.requires (rw c.in_default.is at c.in_ok-text.ensures)
