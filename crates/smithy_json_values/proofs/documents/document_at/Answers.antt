use Rattle.std.proofs.Common.{◌∙◌, ◌≤◌, suc, [], ◌∷◌, false, vec_items, ap, arith, refl}
use Rattle.std.proofs.lemmas.Grind.{common_steps}
use Rattle.std.proofs.lemmas.Result.{err_from_is_err_and}
use Rattle.smithy_types.specs.DocumentView.{document_view}
use Rattle.smithy_json_values.specs.Codec.{held_settings, held_grammar}
use Rattle.smithy_json_values.specs.declared.documents.DocumentFault.TheVariants.{TooDeep}
use Rattle.smithy_json_values.specs.Private.OpenDocuments.{fresh, open_view, frame_view, frames_view}
use Rattle.smithy_json_values.proofs.DocumentScalars.{begins_refuses, begun_at_limit}
use Rattle.smithy_json_values.proofs.DocumentSteps.{refused_at_limit, inside_depth, same_walk, put_back, whole}
use Rattle.smithy_json_values.proofs.OpenDocumentLemmas.{allowed_within}
use Rattle.smithy_json_values.proofs.DocumentWalk.{scalar_lies, walk_begins, container_entered, step_inside, step_opens, step_ends, step_refuses, ahead_inside, ahead_opens, ahead_ends}
use Rattle.smithy_json_values.proofs.documents.document_at.Goals as goal

pub returns-then-depth-input-clause-refused : goal.returns-then-depth-input-clause-refused
returns-then-depth-input-clause-refused c =
    let g = held_grammar c.args.input.settings in
    let s = held_settings c.args.input.settings in
    refused_at_limit g s c.args.depth c.args.input.bytes.now c.args.at TooDeep c.requires.shallow c.if-depth-input.true
    (begun_at_limit g s refl c.args.input.bytes.now c.args.at c.in_ok-begun.begun c.in_ok-begun.ensures)

pub returns-in_err-begun-clause-refused : goal.returns-in_err-begun-clause-refused
returns-in_err-begun-clause-refused c =
    let p = err_from_is_err_and c.from_residual.result c.from_residual.ensures.1 in
    rw (p.1, p.2) (begins_refuses (held_grammar c.args.input.settings) (held_settings c.args.input.settings) c.args.depth c.args.input.bytes.now c.args.at refl c.in_err-begun.field-0.0 c.in_err-begun.ensures)

pub steps-init : goal.steps-init
steps-init c =
    let bracket = rw c.in-Container.is at c.in_ok-begun.ensures in
    let begun = walk_begins (held_grammar c.args.input.settings) (held_settings c.args.input.settings) c.args.depth c.args.input.bytes.now c.args.at refl c.requires.within c.requires.shallow in
    let within = container_entered (held_grammar c.args.input.settings) (held_settings c.args.input.settings) c.args.depth [] c.args.input.bytes.now c.args.at c.args.at begun c.if-depth-input.false
    c.in-Container.is_object c.in-Container.inside bracket in
    same_walk (held_grammar c.args.input.settings) (held_settings c.args.input.settings) c.args.depth c.args.input.bytes.now c.args.at c.in-Container.inside (fresh c.in-Container.is_object) (open_view c.fresh-inner.result) false
    [] (frames_view (vec_items c.new-frames.result)) c.fresh-inner.ensures (ap frames_view c.new-frames.ensures.items) within

pub returns-in_err-more-clause-refused : goal.returns-in_err-more-clause-refused
returns-in_err-more-clause-refused c =
    let p = err_from_is_err_and c.from_residual-in_err-more.result c.from_residual-in_err-more.ensures.1 in
    let deep = inside_depth c.args.depth c.len.result (vec_items c.steps.frames) (c.len.ensures ∙ c.steps.frames.ok.0) in
    rw (p.1, p.2) (step_refuses (held_grammar c.args.input.settings) (held_settings c.args.input.settings) c.args.depth _ (frames_view (vec_items c.steps.frames)) c.args.input.bytes.now c.args.at c.steps.at c.steps.entered (open_view c.steps.inner)
    c.steps.invariant deep c.in_err-more.field-0.0 c.in_err-more.ensures)

pub steps-smaller-in-Inside : goal.steps-smaller-in-Inside
steps-smaller-in-Inside c =
    let step = rw c.in-Inside.is at c.in_ok-more.ensures in
    let deep = inside_depth c.args.depth c.len.result (vec_items c.steps.frames) (c.len.ensures ∙ c.steps.frames.ok.0) in
    let further = ahead_inside (held_grammar c.args.input.settings) (held_settings c.args.input.settings) c.args.depth _ (frames_view (vec_items c.steps.frames)) c.args.input.bytes.now c.args.at c.steps.at c.steps.entered (open_view c.steps.inner)
    c.steps.invariant deep c.in-Inside.more c.in-Inside.end step in
    let walk = step_inside (held_grammar c.args.input.settings) (held_settings c.args.input.settings) c.args.depth _ (frames_view (vec_items c.steps.frames)) c.args.input.bytes.now c.args.at c.steps.at c.steps.entered (open_view c.steps.inner)
    c.steps.invariant deep c.in-Inside.more c.in-Inside.end step in
    omega (arith, further, walk.within)

pub steps-preserved-in-Inside : goal.steps-preserved-in-Inside
steps-preserved-in-Inside c =
    let step = rw c.in-Inside.is at c.in_ok-more.ensures in
    let deep = inside_depth c.args.depth c.len.result (vec_items c.steps.frames) (c.len.ensures ∙ c.steps.frames.ok.0) in
    step_inside (held_grammar c.args.input.settings) (held_settings c.args.input.settings) c.args.depth _ (frames_view (vec_items c.steps.frames)) c.args.input.bytes.now c.args.at c.steps.at c.steps.entered (open_view c.steps.inner)
    c.steps.invariant deep c.in-Inside.more c.in-Inside.end step

pub steps-smaller-in-Opens : goal.steps-smaller-in-Opens
steps-smaller-in-Opens c =
    let step = rw c.in-Opens.is at c.in_ok-more.ensures in
    let deep = inside_depth c.args.depth c.len.result (vec_items c.steps.frames) (c.len.ensures ∙ c.steps.frames.ok.0) in
    let further = ahead_opens (held_grammar c.args.input.settings) (held_settings c.args.input.settings) c.args.depth _ (frames_view (vec_items c.steps.frames)) c.args.input.bytes.now c.args.at c.steps.at c.steps.entered (open_view c.steps.inner)
    c.steps.invariant deep c.in-Opens.frame c.in-Opens.is_object c.in-Opens.inside step in
    let walk = step_opens (held_grammar c.args.input.settings) (held_settings c.args.input.settings) c.args.depth _ (frames_view (vec_items c.steps.frames)) c.args.input.bytes.now c.args.at c.steps.at c.steps.entered (open_view c.steps.inner)
    c.steps.invariant deep c.in-Opens.frame c.in-Opens.is_object c.in-Opens.inside step in
    omega (arith, further, walk.within)

pub steps-preserved-in-Opens : goal.steps-preserved-in-Opens
steps-preserved-in-Opens c =
    let step = rw c.in-Opens.is at c.in_ok-more.ensures in
    let deep = inside_depth c.args.depth c.len.result (vec_items c.steps.frames) (c.len.ensures ∙ c.steps.frames.ok.0) in
    let walk = step_opens (held_grammar c.args.input.settings) (held_settings c.args.input.settings) c.args.depth _ (frames_view (vec_items c.steps.frames)) c.args.input.bytes.now c.args.at c.steps.at c.steps.entered (open_view c.steps.inner)
    c.steps.invariant deep c.in-Opens.frame c.in-Opens.is_object c.in-Opens.inside step in
    same_walk (held_grammar c.args.input.settings) (held_settings c.args.input.settings) c.args.depth c.args.input.bytes.now c.args.at c.in-Opens.inside (fresh c.in-Opens.is_object) _ false
    (frame_view c.in-Opens.frame ∷ frames_view (vec_items c.steps.frames)) _ c.fresh-inner-in-Opens.ensures c.in_ok-push-in-Opens.ensures walk

pub returns-in_default-clause-ok : goal.returns-in_default-clause-ok
returns-in_default-clause-ok c =
    let step = rw c.in-Ends.is at c.in_ok-more.ensures in
    let deep = inside_depth c.args.depth c.len.result (vec_items c.steps.frames) (c.len.ensures ∙ c.steps.frames.ok.0) in
    let walk = step_ends (held_grammar c.args.input.settings) (held_settings c.args.input.settings) c.args.depth _ (frames_view (vec_items c.steps.frames)) c.args.input.bytes.now c.args.at c.steps.at c.steps.entered (open_view c.steps.inner)
    c.steps.invariant deep c.in-Ends.value c.in-Ends.end step in
    whole (held_grammar c.args.input.settings) (held_settings c.args.input.settings) c.args.depth c.args.input.bytes.now c.args.at c.in-Ends.end (document_view c.in-Ends.value) (frames_view (vec_items c.steps.frames)) c.in_default.ensures walk

pub steps-smaller : goal.steps-smaller
steps-smaller c =
    let step = rw c.in-Ends.is at c.in_ok-more.ensures in
    let deep = inside_depth c.args.depth c.len.result (vec_items c.steps.frames) (c.len.ensures ∙ c.steps.frames.ok.0) in
    let further = ahead_ends (held_grammar c.args.input.settings) (held_settings c.args.input.settings) c.args.depth _ (frames_view (vec_items c.steps.frames)) c.args.input.bytes.now c.args.at c.steps.at c.steps.entered (open_view c.steps.inner)
    c.steps.invariant deep c.in-Ends.value c.in-Ends.end step in
    let walk = step_ends (held_grammar c.args.input.settings) (held_settings c.args.input.settings) c.args.depth _ (frames_view (vec_items c.steps.frames)) c.args.input.bytes.now c.args.at c.steps.at c.steps.entered (open_view c.steps.inner)
    c.steps.invariant deep c.in-Ends.value c.in-Ends.end step in
    omega (arith, further, walk.within)

pub steps-preserved : goal.steps-preserved
steps-preserved c =
    let step = rw c.in-Ends.is at c.in_ok-more.ensures in
    let deep = inside_depth c.args.depth c.len.result (vec_items c.steps.frames) (c.len.ensures ∙ c.steps.frames.ok.0) in
    let walk = step_ends (held_grammar c.args.input.settings) (held_settings c.args.input.settings) c.args.depth _ (frames_view (vec_items c.steps.frames)) c.args.input.bytes.now c.args.at c.steps.at c.steps.entered (open_view c.steps.inner)
    c.steps.invariant deep c.in-Ends.value c.in-Ends.end step in
    put_back (held_grammar c.args.input.settings) (held_settings c.args.input.settings) c.args.depth c.args.input.bytes.now c.args.at c.in-Ends.end (document_view c.in-Ends.value) (frame_view c.in-Some.frame) _
    (frames_view (vec_items c.steps.frames)) _ c.in-Some.ensures c.in_ok-inner-in-Ends.ensures walk

pub next_step-requires-clause-shallow : goal.next_step-requires-clause-shallow
next_step-requires-clause-shallow c = grind (arith, common_steps)

pub document_begun-requires : goal.document_begun-requires
document_begun-requires c = grind (arith, common_steps)

pub overflow_add-inside_depth : goal.overflow_add-inside_depth
overflow_add-inside_depth c = grind (arith, common_steps)

pub overflow_add-inside_depth-in-steps : goal.overflow_add-inside_depth-in-steps
overflow_add-inside_depth-in-steps c = grind (arith, common_steps)

pub next_step-requires-clause-within : goal.next_step-requires-clause-within
next_step-requires-clause-within c = grind (arith, common_steps)

pub returns-in-Scalar-clause-ok : goal.returns-in-Scalar-clause-ok
returns-in-Scalar-clause-ok c =
    let s = held_settings c.args.input.settings in
    let begins = rw c.in-Scalar.is at c.in_ok-begun.ensures in
    let room : suc c.args.depth ≤ s.max_depth = omega (arith, c.if-depth-input.false) in
    scalar_lies (held_grammar c.args.input.settings) s c.args.depth c.args.input.bytes.now c.args.at (document_view c.in-Scalar.value) c.in-Scalar.end (allowed_within s refl (suc c.args.depth) room) begins
