use Rattle.std.proofs.Common.{◌-◌, length, vec_items}
use Rattle.smithy_json_values.specs.Codec.{held_settings, held_grammar}
use Rattle.smithy_json_values.specs.Private.OpenDocuments.{open_view, frames_view}
use Rattle.smithy_json_values.proofs.OpenDocumentLemmas.{inside}
use Rattle.smithy_json_values.proofs.DocumentWalk.{IsWalking}
use Rattle.smithy_json_values.proofs.documents.document_at.Given as goal

-- the walk is inside of the innermost container, and what is left makes the document
abbrev pub invariant-steps : goal.invariant-steps
invariant-steps l =
    IsWalking (held_grammar l.input.settings) (held_settings l.input.settings) l.depth (inside (open_view l.inner) l.entered) (frames_view (vec_items l.frames)) l.input.bytes.now l.fn.at l.at

-- each step goes ahead
abbrev pub decreases-steps : goal.decreases-steps
decreases-steps l = length l.input.bytes.now - l.at
