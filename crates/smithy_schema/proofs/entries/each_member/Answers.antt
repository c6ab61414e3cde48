use Rattle.std.proofs.Common.{refl, ◌∙◌}
use Rattle.std.proofs.lemmas.Result.{err_from_is_err_and}
use Rattle.smithy_shapes.specs.Site.{site_of}
use Rattle.smithy_schema.specs.Consuming.{unopened, entered, refused, stopped, ended}
use Rattle.smithy_schema.proofs.ConsumingLemmas.{was_sound, was_due, opening_refused, member_refused, began, went_on, stepped, to_entry, to_end, onto_member, cleared_input, cleared_outer, taken_whole, less_behind}
use Rattle.smithy_schema.proofs.FewCalls.{members_read}
use Rattle.smithy_schema.proofs.entries.each_member.Goals as goal

pub returns-in_err-open_struct-clause-reads : goal.returns-in_err-open_struct-clause-reads
returns-in_err-open_struct-clause-reads g c =
    let p = err_from_is_err_and c.from_residual.result c.from_residual.ensures.1 in
    let e = c.in_err-open_struct.ensures.opens in
    rw (p.1, p.2, e.conduct.stays) (members_read _ _ _ _ (g.met.D.ShapeDeserializer.lawful _) _ _ _ _ _ (unopened (opening_refused _ _ _ _ _ _ e)) tt refl)

pub members-init : goal.members-init
members-init g c =
    let e = c.in_ok-open_struct.ensures in
    record {
      inside = began _ _ _ _ _ _ e.same e.opens.ok.failed e.opens.conduct.within;
      allowed = c.requires.allowed;
    }

pub next_member-requires : goal.next_member-requires
next_member-requires g c = record {
  within = c.members.invariant.inside.within ∙ c.in_ok-open_struct.ensures.opens.ok.within;
  place = c.requires.place;
}

pub returns-in_err-step-clause-reads : goal.returns-in_err-step-clause-reads
returns-in_err-step-clause-reads g c =
    let p = err_from_is_err_and c.from_residual-in_err-step.result c.from_residual-in_err-step.ensures.1 in
    let inside = c.members.invariant.inside in
    let d = g.D.ShapeDeserializer in
    let s = d.settings c.members.source in
    let e = c.in_err-step.ensures.goes_on in
    rw (p.1, p.2, e.conduct.stays)
    (members_read _ _ _ _ (g.met.D.ShapeDeserializer.lawful _) _ _ _ _ _ (entered (was_sound _ _ c.in_ok-open_struct.ensures.opens.conduct.failed) (was_due _ c.in_ok-open_struct.ensures.opens.undue) c.in_ok-open_struct.ensures.opens.ok (inside.along _ _ _ (refused
    (rw inside.same at (member_refused (d.reading s) (site_of c.args.schema.now) _ _ _ e))))) tt refl)

pub returns-in_err-step-clause-same : goal.returns-in_err-step-clause-same
returns-in_err-step-clause-same g c = c.next_member.ensures.same ∙ c.members.invariant.inside.same

-- the consumer refused
pub returns-in-Err-clause-reads : goal.returns-in-Err-clause-reads
returns-in-Err-clause-reads g c =
    let d = g.D.ShapeDeserializer in
    let inside = c.members.invariant.inside in
    let next = c.in_ok-step.ensures.goes_on in
    let x = (d.reading (d.settings c.members.source)).wire in
    let outer = site_of c.args.schema.now in
    let found = stepped x (d.state c.members.source) (d.state c.next_member.new.self) outer c.in_ok-step.step next.ok next.unread in
    let goes = rw inside.same at (to_entry x (d.state c.members.source) (d.state c.next_member.new.self) outer c.in_ok-step.step _ c.in_default.not-End c.member.ensures found) in
    rw c.fail.ensures.fails
    (members_read _ _ _ _ (g.met.D.ShapeDeserializer.lawful _) _ _ _ _ _ (entered (was_sound _ _ c.in_ok-open_struct.ensures.opens.conduct.failed) (was_due _ c.in_ok-open_struct.ensures.opens.undue) c.in_ok-open_struct.ensures.opens.ok (inside.along _ _ _ (stopped _ goes (rw (c.next_member.ensures.same, inside.same) at c.in-Err.ensures.called)))) tt refl)

pub returns-in-Err-clause-same : goal.returns-in-Err-clause-same
returns-in-Err-clause-same g c = c.fail.ensures.same ∙ c.member-in-members.ensures.same ∙ c.next_member.ensures.same ∙ c.members.invariant.inside.same

pub members-smaller : goal.members-smaller
members-smaller g c =
    let d = g.D.ShapeDeserializer in
    let inside = c.members.invariant.inside in
    let next = c.in_ok-step.ensures.goes_on in
    let w = (d.reading (d.settings c.args.source.now)).wire in
    let x = (d.reading (d.settings c.members.source)).wire in
    let outer = site_of c.args.schema.now in
    let found = stepped x (d.state c.members.source) (d.state c.next_member.new.self) outer c.in_ok-step.step next.ok next.unread in
    let goes = rw inside.same at (to_entry x (d.state c.members.source) (d.state c.next_member.new.self) outer c.in_ok-step.step _ c.in_default.not-End c.member.ensures found) in
    less_behind w (g.met.D.ShapeDeserializer.lawful _) _ _ _ outer _ goes c.in_default-member.ensures.rests

-- the consumer took the entry, or left it unread
pub members-preserved : goal.members-preserved
members-preserved g c =
    let d = g.D.ShapeDeserializer in
    let inside = c.members.invariant.inside in
    let next = c.in_ok-step.ensures.goes_on in
    let w = (d.reading (d.settings c.args.source.now)).wire in
    let x = (d.reading (d.settings c.members.source)).wire in
    let outer = site_of c.args.schema.now in
    let found = stepped x (d.state c.members.source) (d.state c.next_member.new.self) outer c.in_ok-step.step next.ok next.unread in
    let goes = rw inside.same at (to_entry x (d.state c.members.source) (d.state c.next_member.new.self) outer c.in_ok-step.step _ c.in_default.not-End c.member.ensures found) in
    record {
      inside = went_on _ _ _ _ _ _ _ _ _ _ _ _ _ inside (c.member-in-members.ensures.same ∙ c.next_member.ensures.same) goes
          (onto_member w _ _ outer _ goes next.conduct.ahead next.conduct.within) (rw (c.next_member.ensures.same, inside.same) at c.in_default-member.ensures.called) c.in_default-member.ensures.rests;
      allowed = c.in_default-member.ensures.allowed outer c.members.invariant.allowed;
    }

-- the structure ended
pub returns-in-End-clause-reads : goal.returns-in-End-clause-reads
returns-in-End-clause-reads g c =
    let d = g.D.ShapeDeserializer in
    let inside = c.members.invariant.inside in
    let next = c.in_ok-step.ensures.goes_on in
    let x = (d.reading (d.settings c.members.source)).wire in
    let outer = site_of c.args.schema.now in
    let found = stepped x (d.state c.members.source) (d.state c.next_member.new.self) outer c.in_ok-step.step next.ok next.unread in
    let w = (d.reading (d.settings c.args.source.now)).wire in
    let end = rw inside.same at (to_end x _ _ outer (rw c.in-End.is at found) next.conduct.ahead) in
    members_read _ _ _ _ (g.met.D.ShapeDeserializer.lawful _) _ _ _ _ _ (entered (was_sound _ _ c.in_ok-open_struct.ensures.opens.conduct.failed) (was_due _ c.in_ok-open_struct.ensures.opens.undue) c.in_ok-open_struct.ensures.opens.ok (inside.along _ _ _ (ended (rw inside.same at (to_end x _ _ outer (rw c.in-End.is at found) next.conduct.ahead))))) (taken_whole w (g.met.D.ShapeDeserializer.lawful _) _ _ _ _ _ _ _ _ _ _ _ _ _ _ _ c.in_ok-open_struct.ensures.opens.ok inside (cleared_input w _ _ end.cleared) (cleared_outer w _ _ end.cleared) end.leaves next.conduct.ahead next.conduct.within) tt
