use Rattle.std.proofs.Common.{◌+◌, subst}
use Rattle.smithy_json_values.specs.Codec.{held_grammar}
use Rattle.smithy_json_values.specs.Documents.{is_read_in}
use Rattle.smithy_json_values.specs.Standing.{Lies, IsByte}
use Rattle.smithy_json_values.proofs.DocumentScalars.{no_node_no_document, begins_before}
use Rattle.smithy_json_values.proofs.FirstBytePlaces.{first_lies}
use Rattle.smithy_json_values.proofs.NodeFirstBytes.{nothing_lies}
use Rattle.smithy_json_values.proofs.documents.scalars.document_begun.Goals as goal

pub returns-in_default : goal.returns-in_default
returns-in_default c = no_node_no_document (held_grammar c.args.settings.now) c.args.input.now c.args.at (nothing_lies (held_grammar c.args.settings.now) (is_read_in (held_grammar c.args.settings.now)) c.args.input.now c.args.at c.in_default.ensures.none)

pub returns-then-first-eq91 : goal.returns-then-first-eq91
returns-then-first-eq91 c =
    subst (λ b. Lies (IsByte b) c.args.input.now c.args.at (c.in-Some.start + 1)) c.if-first-eq91.true
    (first_lies c.args.input.now c.args.at c.in-Some.first c.in-Some.start c.in-Some.ensures.found)

pub returns-then-first-eq123 : goal.returns-then-first-eq123
returns-then-first-eq123 c =
    subst (λ b. Lies (IsByte b) c.args.input.now c.args.at (c.in-Some.start + 1)) c.if-first-eq123.true
    (first_lies c.args.input.now c.args.at c.in-Some.first c.in-Some.start c.in-Some.ensures.found)

pub returns : goal.returns
returns c = begins_before (held_grammar c.args.settings.now) c.args.input.now c.args.at c.in-Some.first c.in-Some.start c.in-Some.ensures.found c.scalar_begun.result c.scalar_begun.ensures
