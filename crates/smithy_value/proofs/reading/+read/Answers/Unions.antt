-- Answers on unions.
use Rattle.std.proofs.Common.{false, true, refl, sym, ap, ◌∙◌, ◌≡◌, ℕ, suc, List, length, arith, rules, subst}
use Rattle.smithy_declarations.specs.Value.{union}
use Rattle.smithy_schema.specs.declared.step.Step.TheVariants.{Member as ToMember, End}
use Rattle.smithy_schema.specs.Reading.{depth}
use Rattle.smithy_schema.proofs.ReadUnions.{union_contains, union_has_members}
use Rattle.smithy_value.proofs.ReadMembers.{union_begun, stepped, structure_stays, member_stays, variant_put, no_variant, second_variant}
use Rattle.smithy_value.proofs.ReadTrees.{obeys, returned, opening_fails, ended_behind}
use Rattle.smithy_value.proofs.reading.+read.Goals as goal

-- the union can not be entered
pub read_union-returns-in_err-open_struct : goal.read_union-returns-in_err-open_struct
read_union-returns-in_err-open_struct g t c =
    let m = g.met.D.ShapeDeserializer in
    let laws = obeys g.D.ShapeDeserializer m.lawful m.lifted_lawful m.above m.counts in
    returned _ _ c.from_residual.ensures.1 (opening_fails laws (union_contains _ c.requires.place) c.requires.due c.open_struct.ensures.same c.in_err-open_struct.ensures.opens)

-- it can not begin
pub read_union-returns-in_err-member : goal.read_union-returns-in_err-member
read_union-returns-in_err-member g t c =
    let m = g.met.D.ShapeDeserializer in
    let laws = obeys g.D.ShapeDeserializer m.lawful m.lifted_lawful m.above m.counts in
    let half = union_begun g.D.ShapeDeserializer c.args.source.now c.open_struct.new.self laws c.requires.place c.in_ok-open_struct.ensures.opens in
    returned _ _ c.from_residual-in_err-member.ensures.1 (structure_stays c.open_struct.new.self laws c.open_struct.ensures.same half c.next_member.ensures.same c.in_err-member.ensures.goes_on)

-- no variant came
pub read_union-returns-in_default : goal.read_union-returns-in_default
read_union-returns-in_default g t c =
    let m = g.met.D.ShapeDeserializer in
    let laws = obeys g.D.ShapeDeserializer m.lawful m.lifted_lawful m.above m.counts in
    let half = union_begun g.D.ShapeDeserializer c.args.source.now c.open_struct.new.self laws c.requires.place c.in_ok-open_struct.ensures.opens in
    no_variant laws c.requires.place (stepped g.D.ShapeDeserializer c.args.source.now c.open_struct.new.self c.next_member.new.self _ c.open_struct.ensures.same half c.next_member.ensures.same c.in_ok-member.ensures.goes_on refl) c.in_default.not-Member c.fail.ensures.same c.fail.ensures.fails

-- the value of the variant was refused
pub read_union-returns-in_err-value : goal.read_union-returns-in_err-value
read_union-returns-in_err-value g t c =
    let m = g.met.D.ShapeDeserializer in
    let laws = obeys g.D.ShapeDeserializer m.lawful m.lifted_lawful m.above m.counts in
    let half = union_begun g.D.ShapeDeserializer c.args.source.now c.open_struct.new.self laws c.requires.place c.in_ok-open_struct.ensures.opens in
    let due = stepped g.D.ShapeDeserializer c.args.source.now c.open_struct.new.self c.next_member.new.self (ToMember c.in-Member.member) c.open_struct.ensures.same half c.next_member.ensures.same c.in_ok-member.ensures.goes_on c.in-Member.is in
    returned _ _ c.from_residual-in_err-value.ensures.1 (member_stays laws (union_has_members _ c.requires.place) due (λ variant. refl {a = false}) c.in_err-value.ensures)

-- the union can not go on behind the variant
pub read_union-returns-in_err-next_member : goal.read_union-returns-in_err-next_member
read_union-returns-in_err-next_member g t c =
    let m = g.met.D.ShapeDeserializer in
    let laws = obeys g.D.ShapeDeserializer m.lawful m.lifted_lawful m.above m.counts in
    let half = union_begun g.D.ShapeDeserializer c.args.source.now c.open_struct.new.self laws c.requires.place c.in_ok-open_struct.ensures.opens in
    let due = stepped g.D.ShapeDeserializer c.args.source.now c.open_struct.new.self c.next_member.new.self (ToMember c.in-Member.member) c.open_struct.ensures.same half c.next_member.ensures.same c.in_ok-member.ensures.goes_on c.in-Member.is in
    let behind = variant_put laws due c.in-Some.ensures c.in_ok-value.ensures in
    let same = c.in_ok-value.ensures.same ∙ due.same in
    returned _ _ c.from_residual-in_err-next_member.ensures.1 (structure_stays c.read_part.new.source laws same behind c.next_member-2.ensures.same c.in_err-next_member.ensures.goes_on)

-- a second entry came
pub read_union-returns-in_default-2 : goal.read_union-returns-in_default-2
read_union-returns-in_default-2 g t c =
    let m = g.met.D.ShapeDeserializer in
    let laws = obeys g.D.ShapeDeserializer m.lawful m.lifted_lawful m.above m.counts in
    let half = union_begun g.D.ShapeDeserializer c.args.source.now c.open_struct.new.self laws c.requires.place c.in_ok-open_struct.ensures.opens in
    let due = stepped g.D.ShapeDeserializer c.args.source.now c.open_struct.new.self c.next_member.new.self (ToMember c.in-Member.member) c.open_struct.ensures.same half c.next_member.ensures.same c.in_ok-member.ensures.goes_on c.in-Member.is in
    let behind = variant_put laws due c.in-Some.ensures c.in_ok-value.ensures in
    let same = c.in_ok-value.ensures.same ∙ due.same in
    second_variant (union c.in-Some.index (g.P.Trees.view c.read_part.new.trees c.in_ok-value.value)) laws c.requires.place (stepped g.D.ShapeDeserializer c.args.source.now c.read_part.new.source c.next_member-2.new.self _ same behind c.next_member-2.ensures.same c.in_ok-next_member.ensures.goes_on refl) (refl {a = true}) c.in_default-2.not-End c.fail-in_default-2.ensures.same c.fail-in_default-2.ensures.fails

-- the union ended behind its variant
pub read_union-returns : goal.read_union-returns
read_union-returns g t c =
    let m = g.met.D.ShapeDeserializer in
    let laws = obeys g.D.ShapeDeserializer m.lawful m.lifted_lawful m.above m.counts in
    let half = union_begun g.D.ShapeDeserializer c.args.source.now c.open_struct.new.self laws c.requires.place c.in_ok-open_struct.ensures.opens in
    let due = stepped g.D.ShapeDeserializer c.args.source.now c.open_struct.new.self c.next_member.new.self (ToMember c.in-Member.member) c.open_struct.ensures.same half c.next_member.ensures.same c.in_ok-member.ensures.goes_on c.in-Member.is in
    let behind = variant_put laws due c.in-Some.ensures c.in_ok-value.ensures in
    let same = c.in_ok-value.ensures.same ∙ due.same in
    let left = stepped g.D.ShapeDeserializer c.args.source.now c.read_part.new.source c.next_member-2.new.self End same behind c.next_member-2.ensures.same c.in_ok-next_member.ensures.goes_on c.in-End.is in
    ended_behind c.read_part.new.source (union c.in-Some.index (g.P.Trees.view c.read_part.new.trees c.in_ok-value.value)) laws g.P.Trees.keeps_lawfully behind left.same left.took refl c.in_ok-value.ensures.adds.0 c.union.ensures.ok c.union.ensures.err

pub read_union-read_part-requires : goal.read_union-read_part-requires
read_union-read_part-requires g t c κs within =
    let m = g.met.D.ShapeDeserializer in
    let laws = obeys g.D.ShapeDeserializer m.lawful m.lifted_lawful m.above m.counts in
    let half = union_begun g.D.ShapeDeserializer c.args.source.now c.open_struct.new.self laws c.requires.place c.in_ok-open_struct.ensures.opens in
    let due = stepped g.D.ShapeDeserializer c.args.source.now c.open_struct.new.self c.next_member.new.self (ToMember c.in-Member.member) c.open_struct.ensures.same half c.next_member.ensures.same c.in_ok-member.ensures.goes_on c.in-Member.is in
    let d = g.D.ShapeDeserializer in
    let most : (d.reading (d.settings c.next_member.new.self)).max_depth ≡ (d.reading (d.settings c.args.source.now)).max_depth = ap (λ s. (d.reading s).max_depth) due.same in
    let level : depth (d.state c.next_member.new.self) ≡ suc (depth (d.state c.args.source.now)) = ap length (due.took.2.outer ∙ half.kept.outer) in
    let shallow = half.kept.shallow in
    let sound = subst (λ (i : List ℕ). g.P.Trees.sound c.args.trees.now i) (sym (due.took.2.input ∙ half.kept.input)) c.requires.sound in
    (omega (arith, most, level, shallow, c.decreases), (search rules, (search rules, (search rules, (search rules, (search rules, (search rules, (search rules, (search rules, (due.took.2.due, sound))))))))))

pub read_union-union-requires-clause-sound : goal.read_union-union-requires-clause-sound
read_union-union-requires-clause-sound g t c =
    (_, g.P.Trees.keeps_lawfully.sound_still c.args.trees.now c.read_part.new.trees _ c.requires.sound c.in_ok-value.ensures.adds.0)

pub read_union-union-requires-clause-stands : goal.read_union-union-requires-clause-stands
read_union-union-requires-clause-stands g t c =
    c.in_ok-value.ensures.adds.1
