use Rattle.std.proofs.Common.{◌≡◌, [], false, arith, rules, refl, sym, ◌∙◌, ap, subst}
use Rattle.std.proofs.lemmas.Result.{err_from_is_err_and}
use Rattle.smithy_declarations.specs.Value.{no_member_values}
use Rattle.smithy_shapes.specs.Fits.{FitsOr, MembersFit}
use Rattle.smithy_shapes.specs.Site.{site_of, kind_at}
use Rattle.smithy_schema.specs.Writing.{member_events, open_structure}
use Rattle.smithy_schema.specs.Written.{Runs, IsInside, ran}
use Rattle.smithy_value.specs.View.{view}
use Rattle.smithy_value.specs.Tree.{part_view, members_left}
use Rattle.smithy_value.proofs.Structures as structures
use Rattle.smithy_value.proofs.WriteAnswers.{has_not_failed}
use Rattle.smithy_replay.specs.TreeMembers.{members_in}
use Rattle.smithy_replay.proofs.MemberLemmas.{member_goes, member_stops, member_stays, no_failure}
use Rattle.smithy_replay.proofs.tree_struct.TreeStructSerializableStruct.serialize_members.Goals as goal

pub loop-position-init : goal.loop-position-init
loop-position-init g c =
    let s = g.S.ShapeSerializer in
    let self = c.args.self.now in
    let site = site_of self.shape in
    let seen = c.part.ensures.shows ∙ ap (part_view view (λ v. []) (λ v. 0)) c.in-Structure.is in
    let first = c.iter-left.ensures.shows view (λ v. 0) in
    let all = ap members_in seen ∙ sym first in
    let fits = subst (FitsOr self.shape.shapes.now self.shape.place false) seen self.fits in
    record {
      rest = λ r h. subst (λ ms. Runs s.after (member_events site ms) (s.state c.args.sink.now) r) (sym all) h;
      nests = refl;
      inside = c.requires.inside;
      sound = c.requires.sound;
      fits = subst (MembersFit site.table (kind_at site)) (sym first) fits.1;
    }

pub write_value-requires : goal.write_value-requires
write_value-requires g c =
    let self = c.args.self.now in
    record { fits = structures.member_fits (site_of self.shape) (site_of c.in-Some-member_at.member) c.in-Some.position (view c.in-Some.value.now) _ _ self.is_structure c.in-Some-member_at.ensures (c.in-Some.ensures.shows view) c.loop-position.invariant.fits }

pub loop-position-preserved : goal.loop-position-preserved
loop-position-preserved g c =
    let s = g.S.ShapeSerializer in
    let self = c.args.self.now in
    let site = site_of self.shape in
    let v = view c.in-Some.value.now in
    let next = c.in-Some.ensures.shows view in
    let is = structures.member_site_is site c.in-Some.position (site_of c.in-Some-member_at.member) c.in-Some-member_at.ensures in
    let wrote = rw is at c.in_ok-write_value.ensures.writes.ok in
    let stays = member_stays s.after s.open_in g.met.S.ShapeSerializer.nested site _ v (s.state c.loop-position.sink) _ c.loop-position.invariant.inside wrote in
    record {
      rest = λ r h. c.loop-position.invariant.rest r (member_goes s.after s.open_in g.met.S.ShapeSerializer.nested site c.in-Some.position v _ _ (s.state c.loop-position.sink) _ r next wrote h);
      nests = stays ∙ c.loop-position.invariant.nests;
      inside = subst (IsInside open_structure) (sym stays) c.loop-position.invariant.inside;
      sound = has_not_failed _ _ c.in_ok-write_value.ensures.writes.broken;
      fits = structures.rest_fits site c.in-Some.position v _ _ next c.loop-position.invariant.fits;
    }

pub returns-in_err-write_value-clause-adds : goal.returns-in_err-write_value-clause-adds
returns-in_err-write_value-clause-adds g c =
    let s = g.S.ShapeSerializer in
    let self = c.args.self.now in
    let site = site_of self.shape in
    let v = view c.in-Some.value.now in
    let next = c.in-Some.ensures.shows view in
    let is = structures.member_site_is site c.in-Some.position (site_of c.in-Some-member_at.member) c.in-Some-member_at.ensures in
    let told = c.in_err-write_value.ensures.writes in
    let p = err_from_is_err_and c.from_residual.result c.from_residual.ensures.1 in
    rw (p.1, p.2)
    (c.loop-position.invariant.rest _ (member_stops s.after s.open_in g.met.S.ShapeSerializer.nested site c.in-Some.position v _ _ (s.state c.loop-position.sink) _ next
    (no_failure _ _ c.loop-position.invariant.sound told.failed) (rw is at told.refused)))

pub returns-clause-adds : goal.returns-clause-adds
returns-clause-adds g c =
    let over : members_left view (λ v. 0) c.loop-position.left ≡ no_member_values = search rules in
    (rw over at c.loop-position.invariant.rest) _ (ran refl)

pub loop-position-smaller : goal.loop-position-smaller
loop-position-smaller g c = let next = ap structures.count (c.in-Some.ensures.shows view) in omega (arith, next)
