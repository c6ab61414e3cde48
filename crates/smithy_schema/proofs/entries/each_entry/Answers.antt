use Rattle.std.proofs.Common.{refl, ◌∙◌}
use Rattle.std.proofs.lemmas.Result.{err_from_is_err_and}
use Rattle.smithy_shapes.specs.Site.{site_of}
use Rattle.smithy_schema.specs.Consuming.{unopened, entered, refused, stopped, ended}
use Rattle.smithy_schema.proofs.ConsumingLemmas.{was_sound, was_due, opening_refused, entry_refused, began, went_on, onto_by, taken_whole, less_left, none_due}
use Rattle.smithy_schema.proofs.FewCalls.{keys_read}
use Rattle.smithy_schema.proofs.entries.each_entry.Goals as goal

pub returns-in_err-open_map-clause-reads : goal.returns-in_err-open_map-clause-reads
returns-in_err-open_map-clause-reads g c =
    let p = err_from_is_err_and c.from_residual.result c.from_residual.ensures.1 in
    let e = c.in_err-open_map.ensures.opens in
    rw (p.1, p.2, e.conduct.stays) (keys_read _ _ _ _ (g.met.D.ShapeDeserializer.lawful _) _ _ _ _ _ (unopened (opening_refused _ _ _ _ _ _ e)) tt refl)

pub loop-key-init : goal.loop-key-init
loop-key-init g c =
    let e = c.in_ok-open_map.ensures in
    began _ _ _ _ _ _ e.same e.opens.ok.failed e.opens.conduct.within

pub next_key-requires : goal.next_key-requires
next_key-requires g c = record { within = c.loop-key.invariant.within ∙ c.in_ok-open_map.ensures.opens.ok.within }

pub returns-in_err-key-clause-same : goal.returns-in_err-key-clause-same
returns-in_err-key-clause-same g c = c.next_key.ensures.same ∙ c.loop-key.invariant.same

pub returns-in_err-key-clause-reads : goal.returns-in_err-key-clause-reads
returns-in_err-key-clause-reads g c =
    let p = err_from_is_err_and c.from_residual-in_err-key.result c.from_residual-in_err-key.ensures.1 in
    let inside = c.loop-key.invariant in
    let e = c.in_err-key.ensures.goes_on in
    let place = c.requires.place in
    rw (p.1, p.2, e.conduct.stays)
    (keys_read _ _ _ _ (g.met.D.ShapeDeserializer.lawful _) _ _ _ _ _ (entered (was_sound _ _ c.in_ok-open_map.ensures.opens.conduct.failed) (was_due _ c.in_ok-open_map.ensures.opens.undue) c.in_ok-open_map.ensures.opens.ok (inside.along _ _ _ (refused
    (rw inside.same at (entry_refused _ (g.D.ShapeDeserializer.reading (g.D.ShapeDeserializer.settings c.loop-key.source)) (site_of c.args.schema.now) _ _ _ e.conduct e.narrow e.shallow e.unread (λ h due. e.refused h due _ _ place) (λ strict h due. e.none_without_limits strict h due _ _ place)))))) tt refl)

pub returns-in-Err-clause-same : goal.returns-in-Err-clause-same
returns-in-Err-clause-same g c = c.fail.ensures.same ∙ c.entry.ensures.same ∙ c.next_key.ensures.same ∙ c.loop-key.invariant.same

-- the consumer refused
pub returns-in-Err-clause-reads : goal.returns-in-Err-clause-reads
returns-in-Err-clause-reads g c =
    let inside = c.loop-key.invariant in
    let next = c.in_ok-key.ensures.goes_on in
    let due = none_due (g.D.ShapeDeserializer.state c.loop-key.source).due (λ due. next.unread due) in
    let steps = rw (c.in-Some.is, inside.same) at (next.ok due c.args.schema.now.shapes.now c.args.schema.now.place c.requires.place) in
    rw c.fail.ensures.fails
    (keys_read _ _ _ _ (g.met.D.ShapeDeserializer.lawful _) _ _ _ _ _ (entered (was_sound _ _ c.in_ok-open_map.ensures.opens.conduct.failed) (was_due _ c.in_ok-open_map.ensures.opens.undue) c.in_ok-open_map.ensures.opens.ok (inside.along _ _ _ (stopped _ (record { taken = due; steps = steps; ahead = next.conduct.ahead }) (rw (c.next_key.ensures.same, inside.same) at c.in-Err.ensures.called)))) tt refl)

pub loop-key-smaller : goal.loop-key-smaller
loop-key-smaller g c =
    let inside = c.loop-key.invariant in
    let next = c.in_ok-key.ensures.goes_on in
    let due = none_due (g.D.ShapeDeserializer.state c.loop-key.source).due (λ due. next.unread due) in
    let steps = rw (c.in-Some.is, inside.same) at (next.ok due c.args.schema.now.shapes.now c.args.schema.now.place c.requires.place) in
    less_left _ (g.met.D.ShapeDeserializer.lawful _) _ _ _ _ _ _ due steps c.in_default-entry.ensures.rests

-- the consumer took the element, or left it unread
pub loop-key-preserved : goal.loop-key-preserved
loop-key-preserved g c =
    let inside = c.loop-key.invariant in
    let next = c.in_ok-key.ensures.goes_on in
    let due = none_due (g.D.ShapeDeserializer.state c.loop-key.source).due (λ due. next.unread due) in
    let steps = rw (c.in-Some.is, inside.same) at (next.ok due c.args.schema.now.shapes.now c.args.schema.now.place c.requires.place) in
    went_on _ _ _ _ _ _ _ _ _ _ _ _ _ inside (c.entry.ensures.same ∙ c.next_key.ensures.same) (record { taken = due; steps = steps; ahead = next.conduct.ahead })
    (onto_by _ _ _ _ _ _ steps next.conduct.ahead next.conduct.within) (rw (c.next_key.ensures.same, inside.same) at c.in_default-entry.ensures.called) c.in_default-entry.ensures.rests

pub returns-clause-same : goal.returns-clause-same
returns-clause-same g c = c.next_key.ensures.same ∙ c.loop-key.invariant.same

-- the list ended
pub returns-clause-reads : goal.returns-clause-reads
returns-clause-reads g c =
    let inside = c.loop-key.invariant in
    let next = c.in_ok-key.ensures.goes_on in
    let due = none_due (g.D.ShapeDeserializer.state c.loop-key.source).due (λ due. next.unread due) in
    let leaves = rw (c.in_default.is, inside.same) at (next.ok due c.args.schema.now.shapes.now c.args.schema.now.place c.requires.place) in
    keys_read _ _ _ _ (g.met.D.ShapeDeserializer.lawful _) _ _ _ _ _ (entered (was_sound _ _ c.in_ok-open_map.ensures.opens.conduct.failed) (was_due _ c.in_ok-open_map.ensures.opens.undue) c.in_ok-open_map.ensures.opens.ok (inside.along _ _ _ (ended (record { taken = due; leaves = leaves; ahead = next.conduct.ahead })))) (taken_whole _ (g.met.D.ShapeDeserializer.lawful _) _ _ _ _ _ _ _ _ _ _ _ _ _ _ _ c.in_ok-open_map.ensures.opens.ok inside refl refl leaves next.conduct.ahead next.conduct.within) tt
