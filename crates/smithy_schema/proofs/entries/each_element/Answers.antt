use Rattle.std.proofs.Common.{refl, ◌∙◌}
use Rattle.std.proofs.lemmas.Result.{err_from_is_err_and}
use Rattle.smithy_schema.specs.declared.error.SerdeError.TheVariants.{NoMemory}
use Rattle.smithy_shapes.specs.Site.{site_of}
use Rattle.smithy_schema.specs.Consuming.{unopened, entered, refused, stopped, ended}
use Rattle.smithy_schema.proofs.ConsumingLemmas.{is_error, was_sound, was_due, opening_refused, entry_refused, began, went_on, onto_by, taken_whole, less_left, none_due}
use Rattle.smithy_schema.proofs.FewCalls.{elements_read}
use Rattle.smithy_schema.proofs.entries.each_element.Goals as goal

pub returns-in_err-open_list-clause-reads : goal.returns-in_err-open_list-clause-reads
returns-in_err-open_list-clause-reads g c =
    let p = err_from_is_err_and c.from_residual.result c.from_residual.ensures.1 in
    let e = c.in_err-open_list.ensures.opens in
    rw (p.1, p.2, e.conduct.stays) (elements_read _ _ _ _ (g.met.D.ShapeDeserializer.lawful _) _ _ _ _ _ (unopened (opening_refused _ _ _ _ _ _ e)) tt refl)

pub loop-consumer-init : goal.loop-consumer-init
loop-consumer-init g c =
    let e = c.in_ok-open_list.ensures in
    began _ _ _ _ _ _ e.same e.opens.ok.failed e.opens.conduct.within

pub next_element-requires : goal.next_element-requires
next_element-requires g c = record { within = c.loop-consumer.invariant.within ∙ c.in_ok-open_list.ensures.opens.ok.within }

pub returns-in_err-next_element-clause-same : goal.returns-in_err-next_element-clause-same
returns-in_err-next_element-clause-same g c = c.next_element.ensures.same ∙ c.loop-consumer.invariant.same

pub returns-in_err-next_element-clause-reads : goal.returns-in_err-next_element-clause-reads
returns-in_err-next_element-clause-reads g c =
    let p = err_from_is_err_and c.from_residual-in_err-next_element.result c.from_residual-in_err-next_element.ensures.1 in
    let inside = c.loop-consumer.invariant in
    let e = c.in_err-next_element.ensures.goes_on in
    let place = c.requires.place in
    rw (p.1, p.2, e.conduct.stays)
    (elements_read _ _ _ _ (g.met.D.ShapeDeserializer.lawful _) _ _ _ _ _ (entered (was_sound _ _ c.in_ok-open_list.ensures.opens.conduct.failed) (was_due _ c.in_ok-open_list.ensures.opens.undue) c.in_ok-open_list.ensures.opens.ok (inside.along _ _ _ (refused
    (rw inside.same at (entry_refused _ (g.D.ShapeDeserializer.reading (g.D.ShapeDeserializer.settings c.loop-consumer.source)) (site_of c.args.schema.now) _ _ _ e.conduct e.narrow e.shallow e.unread (λ h due. e.refused h due _ _ place) (λ strict h due. e.none_without_limits strict h due _ _ place)), λ is. e.memory (is_error _ _ NoMemory is))))) tt refl)

pub returns-in-Err-clause-same : goal.returns-in-Err-clause-same
returns-in-Err-clause-same g c = c.fail.ensures.same ∙ c.element.ensures.same ∙ c.next_element.ensures.same ∙ c.loop-consumer.invariant.same

-- the consumer refused
pub returns-in-Err-clause-reads : goal.returns-in-Err-clause-reads
returns-in-Err-clause-reads g c =
    let inside = c.loop-consumer.invariant in
    let next = c.in_ok-next_element.ensures.goes_on in
    let due = none_due (g.D.ShapeDeserializer.state c.loop-consumer.source).due (λ due. next.unread due) in
    let steps = rw (c.if-branch.true, inside.same) at (next.ok due c.args.schema.now.shapes.now c.args.schema.now.place c.requires.place) in
    rw c.fail.ensures.fails
    (elements_read _ _ _ _ (g.met.D.ShapeDeserializer.lawful _) _ _ _ _ _ (entered (was_sound _ _ c.in_ok-open_list.ensures.opens.conduct.failed) (was_due _ c.in_ok-open_list.ensures.opens.undue) c.in_ok-open_list.ensures.opens.ok (inside.along _ _ _ (stopped tt (record { taken = due; steps = steps; ahead = next.conduct.ahead }) (rw (c.next_element.ensures.same, inside.same) at c.in-Err.ensures.called)))) tt refl)

pub loop-consumer-smaller : goal.loop-consumer-smaller
loop-consumer-smaller g c =
    let inside = c.loop-consumer.invariant in
    let next = c.in_ok-next_element.ensures.goes_on in
    let due = none_due (g.D.ShapeDeserializer.state c.loop-consumer.source).due (λ due. next.unread due) in
    let steps = rw (c.if-branch.true, inside.same) at (next.ok due c.args.schema.now.shapes.now c.args.schema.now.place c.requires.place) in
    less_left _ (g.met.D.ShapeDeserializer.lawful _) _ _ _ _ _ _ due steps c.in_default.ensures.rests

-- the consumer took the element, or left it unread
pub loop-consumer-preserved : goal.loop-consumer-preserved
loop-consumer-preserved g c =
    let inside = c.loop-consumer.invariant in
    let next = c.in_ok-next_element.ensures.goes_on in
    let due = none_due (g.D.ShapeDeserializer.state c.loop-consumer.source).due (λ due. next.unread due) in
    let steps = rw (c.if-branch.true, inside.same) at (next.ok due c.args.schema.now.shapes.now c.args.schema.now.place c.requires.place) in
    went_on _ _ _ _ _ _ _ _ _ _ _ _ tt inside (c.element.ensures.same ∙ c.next_element.ensures.same) (record { taken = due; steps = steps; ahead = next.conduct.ahead })
    (onto_by _ _ _ _ _ _ steps next.conduct.ahead next.conduct.within) (rw (c.next_element.ensures.same, inside.same) at c.in_default.ensures.called) c.in_default.ensures.rests

pub returns-clause-same : goal.returns-clause-same
returns-clause-same g c = c.next_element.ensures.same ∙ c.loop-consumer.invariant.same

-- the list ended
pub returns-clause-reads : goal.returns-clause-reads
returns-clause-reads g c =
    let inside = c.loop-consumer.invariant in
    let next = c.in_ok-next_element.ensures.goes_on in
    let due = none_due (g.D.ShapeDeserializer.state c.loop-consumer.source).due (λ due. next.unread due) in
    let leaves = rw (c.if-branch.false, inside.same) at (next.ok due c.args.schema.now.shapes.now c.args.schema.now.place c.requires.place) in
    elements_read _ _ _ _ (g.met.D.ShapeDeserializer.lawful _) _ _ _ _ _ (entered (was_sound _ _ c.in_ok-open_list.ensures.opens.conduct.failed) (was_due _ c.in_ok-open_list.ensures.opens.undue) c.in_ok-open_list.ensures.opens.ok (inside.along _ _ _ (ended (record { taken = due; leaves = leaves; ahead = next.conduct.ahead })))) (taken_whole _ (g.met.D.ShapeDeserializer.lawful _) _ _ _ _ _ _ _ _ _ _ _ _ _ _ _ c.in_ok-open_list.ensures.opens.ok inside refl refl leaves next.conduct.ahead next.conduct.within) tt
