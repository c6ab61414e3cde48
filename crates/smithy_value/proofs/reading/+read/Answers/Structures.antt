-- Answers on structures.
use Rattle.std.proofs.Common.{ap, refl, ◌∙◌, ◌≡◌, suc, length, arith, rules}
use Rattle.smithy_declarations.specs.Value.{structure}
use Rattle.smithy_schema.specs.declared.step.Step.TheVariants.{Member as ToMember, Unknown, End}
use Rattle.smithy_schema.specs.Reading.{depth}
use Rattle.smithy_schema.proofs.ReadContainers.{structure_has_members}
use Rattle.smithy_schema.proofs.ReadStructures.{structure_contains}
use Rattle.smithy_value.proofs.HalfMembers.{structure_or_union}
use Rattle.smithy_value.proofs.Made.{half_sound_at}
use Rattle.smithy_value.proofs.ReadMembers.{structure_begun, stepped, structure_stays, member_stays, member_put_fails, member_put, member_nearer, unknown_stays, unknown_put, unknown_nearer}
use Rattle.smithy_value.proofs.ReadTrees.{obeys, returned, opening_fails, ended}
use Rattle.smithy_value.proofs.reading.+read.Goals as goal

-- the structure can not be entered
pub read_structure-returns-in_err-open_struct : goal.read_structure-returns-in_err-open_struct
read_structure-returns-in_err-open_struct g t c =
    let m = g.met.D.ShapeDeserializer in
    let laws = obeys g.D.ShapeDeserializer m.lawful m.lifted_lawful m.above m.counts in
    returned _ _ c.from_residual.ensures.1 (opening_fails laws (structure_contains _ c.requires.place) c.requires.due c.open_struct.ensures.same c.in_err-open_struct.ensures.opens)

-- it was entered
pub read_structure-loop-members-init : goal.read_structure-loop-members-init
read_structure-loop-members-init g t c =
    let m = g.met.D.ShapeDeserializer in
    let laws = obeys g.D.ShapeDeserializer m.lawful m.lifted_lawful m.above m.counts in
    record {
      same = c.open_struct.ensures.same;
      begun = c.no_members-members.ensures.begun;
      half = structure_begun g.D.ShapeDeserializer c.args.source.now c.open_struct.new.self laws c.requires.place c.in_ok-open_struct.ensures.opens c.no_members-members.ensures.none;
    }

-- it can not go on
pub read_structure-returns-in_err-member : goal.read_structure-returns-in_err-member
read_structure-returns-in_err-member g t c =
    let m = g.met.D.ShapeDeserializer in
    let laws = obeys g.D.ShapeDeserializer m.lawful m.lifted_lawful m.above m.counts in
    let now = c.loop-members.invariant in
    returned _ _ c.from_residual-in_err-member.ensures.1 (structure_stays c.loop-members.source laws now.same now.half c.next_member.ensures.same c.in_err-member.ensures.goes_on)

-- the value of a member was refused
pub read_structure-returns-in_err-value-in-Member : goal.read_structure-returns-in_err-value-in-Member
read_structure-returns-in_err-value-in-Member g t c =
    let m = g.met.D.ShapeDeserializer in
    let laws = obeys g.D.ShapeDeserializer m.lawful m.lifted_lawful m.above m.counts in
    let now = c.loop-members.invariant in
    let due = stepped g.D.ShapeDeserializer c.args.source.now c.loop-members.source c.next_member.new.self (ToMember c.in-Member.member) now.same now.half c.next_member.ensures.same c.in_ok-member.ensures.goes_on c.in-Member.is in
    returned _ _ c.from_residual-in_err-value-in-Member.ensures.1
    (member_stays laws (structure_has_members _ c.requires.place) due (λ variant. absurd (structure_or_union _ c.requires.place variant)) c.in_err-value-in-Member.ensures)

-- memory ran out
pub read_structure-returns-in_err-set_member-in-Member : goal.read_structure-returns-in_err-set_member-in-Member
read_structure-returns-in_err-set_member-in-Member g t c =
    let m = g.met.D.ShapeDeserializer in
    let laws = obeys g.D.ShapeDeserializer m.lawful m.lifted_lawful m.above m.counts in
    let now = c.loop-members.invariant in
    let due = stepped g.D.ShapeDeserializer c.args.source.now c.loop-members.source c.next_member.new.self (ToMember c.in-Member.member) now.same now.half c.next_member.ensures.same c.in_ok-member.ensures.goes_on c.in-Member.is in
    returned _ _ c.from_residual-in_err-set_member-in-Member.ensures.1 (member_put_fails laws due c.in_ok-value-in-Member.ensures c.in_err-set_member-in-Member.ensures.err)

-- a member was read
pub read_structure-loop-members-preserved-in-Continue-branch-5 : goal.read_structure-loop-members-preserved-in-Continue-branch-5
read_structure-loop-members-preserved-in-Continue-branch-5 g t c =
    let m = g.met.D.ShapeDeserializer in
    let laws = obeys g.D.ShapeDeserializer m.lawful m.lifted_lawful m.above m.counts in
    let now = c.loop-members.invariant in
    let due = stepped g.D.ShapeDeserializer c.args.source.now c.loop-members.source c.next_member.new.self (ToMember c.in-Member.member) now.same now.half c.next_member.ensures.same c.in_ok-member.ensures.goes_on c.in-Member.is in
    let grows = g.P.Trees.members_grow_lawfully in
    let grown = c.in_ok-value-in-Member.ensures.adds.0 in
    let q = c.read_part.new.trees in
    record {
      same = c.in_ok-value-in-Member.ensures.same ∙ due.same;
      begun = c.in_ok-set_member-in-Member.ensures.begun c.args.trees.now (grows.begun_still c.args.trees.now c.loop-members.trees q c.loop-members.members now.begun grown);
      half = member_put laws due c.in-Some.ensures c.in_ok-value-in-Member.ensures (grows.shown_still c.args.trees.now c.loop-members.trees q c.loop-members.members now.begun grown) c.in_ok-set_member-in-Member.ensures.ok;
    }

-- an unknown entry can not be skipped
pub read_structure-returns-in_err-skip_value-in-Unknown : goal.read_structure-returns-in_err-skip_value-in-Unknown
read_structure-returns-in_err-skip_value-in-Unknown g t c =
    let m = g.met.D.ShapeDeserializer in
    let laws = obeys g.D.ShapeDeserializer m.lawful m.lifted_lawful m.above m.counts in
    let now = c.loop-members.invariant in
    let due = stepped g.D.ShapeDeserializer c.args.source.now c.loop-members.source c.next_member.new.self Unknown now.same now.half c.next_member.ensures.same c.in_ok-member.ensures.goes_on c.in-Unknown.is in
    returned _ _ c.from_residual-in_err-skip_value-in-Unknown.ensures.1 (unknown_stays (g.P.Trees.view_members c.loop-members.trees c.loop-members.members) laws c.requires.place due c.skip_value.ensures.same c.in_err-skip_value-in-Unknown.ensures.skips)

-- an unknown entry was skipped
pub read_structure-loop-members-preserved : goal.read_structure-loop-members-preserved
read_structure-loop-members-preserved g t c =
    let m = g.met.D.ShapeDeserializer in
    let laws = obeys g.D.ShapeDeserializer m.lawful m.lifted_lawful m.above m.counts in
    let now = c.loop-members.invariant in
    let due = stepped g.D.ShapeDeserializer c.args.source.now c.loop-members.source c.next_member.new.self Unknown now.same now.half c.next_member.ensures.same c.in_ok-member.ensures.goes_on c.in-Unknown.is in
    record {
      same = c.skip_value.ensures.same ∙ due.same;
      begun = now.begun;
      half = unknown_put c.skip_value.new.self (g.P.Trees.view_members c.loop-members.trees c.loop-members.members) laws c.requires.place due c.in_ok-skip_value-in-Unknown.ensures.skips;
    }

-- the structure ended
pub read_structure-returns-in-End : goal.read_structure-returns-in-End
read_structure-returns-in-End g t c =
    let m = g.met.D.ShapeDeserializer in
    let laws = obeys g.D.ShapeDeserializer m.lawful m.lifted_lawful m.above m.counts in
    let now = c.loop-members.invariant in
    let left = stepped g.D.ShapeDeserializer c.args.source.now c.loop-members.source c.next_member.new.self End now.same now.half c.next_member.ensures.same c.in_ok-member.ensures.goes_on c.in-End.is in
    ended c.loop-members.source (structure (g.P.Trees.view_members c.loop-members.trees c.loop-members.members)) laws now.half left.same left.took refl (c.structure.ensures.ok c.args.trees.now now.begun) c.structure.ensures.err

-- less is left to read
pub read_structure-loop-members-smaller-in-Continue-branch-5 : goal.read_structure-loop-members-smaller-in-Continue-branch-5
read_structure-loop-members-smaller-in-Continue-branch-5 g t c =
    let m = g.met.D.ShapeDeserializer in
    let laws = obeys g.D.ShapeDeserializer m.lawful m.lifted_lawful m.above m.counts in
    let now = c.loop-members.invariant in
    let due = stepped g.D.ShapeDeserializer c.args.source.now c.loop-members.source c.next_member.new.self (ToMember c.in-Member.member) now.same now.half c.next_member.ensures.same c.in_ok-member.ensures.goes_on c.in-Member.is in
    member_nearer laws now.same due c.in-Some.ensures c.in_ok-value-in-Member.ensures

pub read_structure-loop-members-smaller : goal.read_structure-loop-members-smaller
read_structure-loop-members-smaller g t c =
    let m = g.met.D.ShapeDeserializer in
    let laws = obeys g.D.ShapeDeserializer m.lawful m.lifted_lawful m.above m.counts in
    let now = c.loop-members.invariant in
    let due = stepped g.D.ShapeDeserializer c.args.source.now c.loop-members.source c.next_member.new.self Unknown now.same now.half c.next_member.ensures.same c.in_ok-member.ensures.goes_on c.in-Unknown.is in
    unknown_nearer c.skip_value.new.self laws c.requires.place now.same due c.skip_value.ensures.same c.in_ok-skip_value-in-Unknown.ensures.skips

pub read_structure-no_members-members-requires : goal.read_structure-no_members-members-requires
read_structure-no_members-members-requires g t c =
    record { sound = (_, c.requires.sound) }

pub read_structure-read_part-requires : goal.read_structure-read_part-requires
read_structure-read_part-requires g t c κs within =
    let now = c.loop-members.invariant in
    let due = stepped g.D.ShapeDeserializer c.args.source.now c.loop-members.source c.next_member.new.self (ToMember c.in-Member.member) now.same now.half c.next_member.ensures.same c.in_ok-member.ensures.goes_on c.in-Member.is in
    let d = g.D.ShapeDeserializer in
    let most : (d.reading (d.settings c.next_member.new.self)).max_depth ≡ (d.reading (d.settings c.args.source.now)).max_depth = ap (λ s. (d.reading s).max_depth) due.same in
    let level : depth (d.state c.next_member.new.self) ≡ suc (depth (d.state c.args.source.now)) = ap length (due.took.2.outer ∙ now.half.kept.outer) in
    let shallow = now.half.kept.shallow in
    let sound = half_sound_at g.P.Trees.members_grow_lawfully c.args.trees.now c.loop-members.trees _ _ c.loop-members.members c.requires.sound now.begun (due.took.2.input ∙ now.half.reached.input) in
    (omega (arith, most, level, shallow, c.decreases), (search rules, (search rules, (search rules, (search rules, (search rules, (search rules, (search rules, (search rules, (due.took.2.due, sound))))))))))

pub read_structure-set_member-requires-clause-sound : goal.read_structure-set_member-requires-clause-sound
read_structure-set_member-requires-clause-sound g t c =
    let grows = g.P.Trees.members_grow_lawfully in
    let begun = grows.begun_still c.args.trees.now c.loop-members.trees c.read_part.new.trees c.loop-members.members c.loop-members.invariant.begun c.in_ok-value-in-Member.ensures.adds.0 in
    (_, grows.sound_still c.args.trees.now c.read_part.new.trees _ c.loop-members.members c.requires.sound begun)

pub read_structure-set_member-requires-clause-begun : goal.read_structure-set_member-requires-clause-begun
read_structure-set_member-requires-clause-begun g t c =
    let grows = g.P.Trees.members_grow_lawfully in
    let begun = grows.begun_still c.args.trees.now c.loop-members.trees c.read_part.new.trees c.loop-members.members c.loop-members.invariant.begun c.in_ok-value-in-Member.ensures.adds.0 in
    (c.args.trees.now, begun)

pub read_structure-set_member-requires-clause-stands : goal.read_structure-set_member-requires-clause-stands
read_structure-set_member-requires-clause-stands g t c =
    c.in_ok-value-in-Member.ensures.adds.1

pub read_structure-structure-requires-clause-sound : goal.read_structure-structure-requires-clause-sound
read_structure-structure-requires-clause-sound g t c =
    (_, g.P.Trees.members_grow_lawfully.sound_still c.args.trees.now c.loop-members.trees _ c.loop-members.members c.requires.sound c.loop-members.invariant.begun)

pub read_structure-structure-requires-clause-begun : goal.read_structure-structure-requires-clause-begun
read_structure-structure-requires-clause-begun g t c =
    (c.args.trees.now, c.loop-members.invariant.begun)
