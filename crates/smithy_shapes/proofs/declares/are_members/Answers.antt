use Rattle.std.proofs.Common.{false, IsTrue, map, ap, refl}
use Rattle.smithy_shapes.specs.Declares.{row_of, row_told}
use Rattle.smithy_shapes.specs.Views.{member_of}
use Rattle.smithy_shapes.proofs.RowLemmas.{nothing_left, goes_on, differs, too_few, ends, ended, mapped_end}
use Rattle.smithy_shapes.proofs.declares.are_members.Goals as goal

pub returns-in_default : goal.returns-in_default
returns-in_default c = (
  λ never. cc,
  λ same. absurd (too_few row_of row_told (map member_of c.loop-name.left.rest.now) c.args.rows.now c.loop-name.name-index _ c.loop-name.invariant.same
      (ap (map member_of) (nothing_left c.loop-name.left.rest.now c.in_default.ensures.steps.0)) c.loop-name-test.true same),
)

pub returns-then-not-is_member : goal.returns-then-not-is_member
returns-then-not-is_member c = (
  λ never. cc,
  λ same. absurd (differs row_of row_told (map member_of c.loop-name.left.rest.now) (map member_of c.next.new.self.rest.now) c.args.rows.now (member_of c.in-Some.member.now) c.loop-name.name-index _ _
      (ap (map member_of) c.in-Some.ensures.steps) c.loop-name-test.true c.loop-name.invariant.same (λ equal. let no : IsTrue false = c.if-not-is_member.ensures.1 equal in cc) same),
)

pub loop-name-preserved : goal.loop-name-preserved
loop-name-preserved c = record {
  same = goes_on row_of row_told (map member_of c.loop-name.left.rest.now) (map member_of c.next.new.self.rest.now) c.args.rows.now (member_of c.in-Some.member.now) c.loop-name.name-index _ _
      (ap (map member_of) c.in-Some.ensures.steps) c.loop-name-test.true c.loop-name.invariant.same (c.if-not-is_member.ensures.0 refl);
}

pub returns : goal.returns
returns c =
    let left = c.loop-name.left.rest.now in
    let end = ends row_of row_told (map member_of left) c.args.rows.now c.loop-name.name-index _ c.loop-name.invariant.same c.loop-name-test.false in
    let none = ended left c.len.result c.len.ensures.value in
    let seen = mapped_end member_of left in
    (λ is. end.0 (seen.0 (none.0 is)), λ p. none.1 (seen.1 (end.1 p)))
