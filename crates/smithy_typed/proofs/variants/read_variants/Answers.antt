use Rattle.std.proofs.Common.{ap, refl, ◌∙◌}
use Rattle.std.proofs.lemmas.Result.{err_from_is_err_and}
use Rattle.smithy_shapes.specs.Site.{site_of, kind_at}
use Rattle.smithy_schema.specs.Reading.{Cursor}
use Rattle.smithy_schema.proofs.DeclaredMembers.{union_type}
use Rattle.smithy_schema.proofs.ReadContainers.{itself}
use Rattle.smithy_schema.proofs.ReadUnions.{begin_union, union_contains, union_has_members, no_first, no_end}
use Rattle.smithy_schema.proofs.HalfRead.{fails, not_opened, goes_no_further, ends, behind_variant, variant_fails}
use Rattle.smithy_schema.proofs.AnsweredErrors.{broke_inside, was_read}
use Rattle.smithy_typed.proofs.OneOf.{value_of}
use Rattle.smithy_typed.proofs.variants.read_variants.Goals as goal

pub open_struct-requires : goal.open_struct-requires
open_struct-requires g c =
    let V = g.V.VariantList in
    let view = value_of V.index V.inner in
    record { place = union_has_members _ (union_type (kind_at (site_of c.args.schema.now)) c.requires.there.1.kind) }

pub returns-in_err-open_struct-clause-reads : goal.returns-in_err-open_struct-clause-reads
returns-in_err-open_struct-clause-reads g c =
    let V = g.V.VariantList in
    let view = value_of V.index V.inner in
    let d = g.D.ShapeDeserializer in
    let s0 = d.settings c.args.source.now in
    let w = (d.reading s0).wire in
    let max = (d.reading s0).max_depth in
    let laws = g.met.D.ShapeDeserializer.lawful s0 in
    let outer = site_of c.args.schema.now in
    let p = err_from_is_err_and c.from_residual.result c.from_residual.ensures.1 in
    rw (p.1, p.2) (not_opened w max laws view outer (d.state c.args.source.now) (d.state c.open_struct.new.self) c.in_err-open_struct.field-0.0 (union_contains (kind_at outer) (union_type (kind_at outer) c.requires.there.1.kind)) c.requires.due c.in_err-open_struct.ensures.opens.conduct c.in_err-open_struct.ensures.opens.refused)

pub next_member-requires : goal.next_member-requires
next_member-requires g c =
    let V = g.V.VariantList in
    let view = value_of V.index V.inner in
    record { within = c.in_ok-open_struct.ensures.opens.ok.within; place = union_has_members _ (union_type (kind_at (site_of c.args.schema.now)) c.requires.there.1.kind) }

pub returns-in_err-member-clause-reads : goal.returns-in_err-member-clause-reads
returns-in_err-member-clause-reads g c =
    let V = g.V.VariantList in
    let view = value_of V.index V.inner in
    let d = g.D.ShapeDeserializer in
    let s0 = d.settings c.args.source.now in
    let w = (d.reading s0).wire in
    let max = (d.reading s0).max_depth in
    let laws = g.met.D.ShapeDeserializer.lawful s0 in
    let outer = site_of c.args.schema.now in
    let kind = union_type (kind_at outer) c.requires.there.1.kind in
    let half = begin_union w w max laws laws (itself w) _ _ _ _ kind c.in_ok-open_struct.ensures.opens.ok in
    let p = err_from_is_err_and c.from_residual-in_err-member.result c.from_residual-in_err-member.ensures.1 in
    rw (p.1, p.2) (goes_no_further w max laws view outer _ _ _ _ _ _ half (was_read _ _ c.in_ok-open_struct.ensures.opens.conduct.failed) c.in_err-member.ensures.goes_on.conduct (rw c.open_struct.ensures.same at c.in_err-member.ensures.goes_on.refused))

pub returns-in_default : goal.returns-in_default
returns-in_default g c =
    let V = g.V.VariantList in
    let view = value_of V.index V.inner in
    let d = g.D.ShapeDeserializer in
    let s0 = d.settings c.args.source.now in
    let w = (d.reading s0).wire in
    let max = (d.reading s0).max_depth in
    let laws = g.met.D.ShapeDeserializer.lawful s0 in
    let outer = site_of c.args.schema.now in
    let kind = union_type (kind_at outer) c.requires.there.1.kind in
    let half = begin_union w w max laws laws (itself w) _ _ _ _ kind c.in_ok-open_struct.ensures.opens.ok in
    let step = rw c.open_struct.ensures.same at (c.in_ok-member.ensures.goes_on.ok half.due) in
    record {
      same = c.fail.ensures.same ∙ c.next_member.ensures.same ∙ c.open_struct.ensures.same;
      reads = fails w view outer _ _ _ (broke_inside _ (d.state c.args.source.now) _ _ (was_read _ _ c.in_ok-open_struct.ensures.opens.conduct.failed) (was_read _ _ c.in_ok-open_struct.ensures.opens.conduct.failed) (tt, λ is. cc) (ap (λ (x : Cursor). x.failed) c.fail.ensures.fails)) (λ fault. no_first w w max laws (itself w) _ _ _ outer _ c.in_default.not-Member kind half step);
    }

pub read_member-requires : goal.read_member-requires
read_member-requires g c =
    let V = g.V.VariantList in
    let view = value_of V.index V.inner in
    let d = g.D.ShapeDeserializer in
    let s0 = d.settings c.args.source.now in
    let w = (d.reading s0).wire in
    let max = (d.reading s0).max_depth in
    let laws = g.met.D.ShapeDeserializer.lawful s0 in
    let outer = site_of c.args.schema.now in
    let kind = union_type (kind_at outer) c.requires.there.1.kind in
    let half = begin_union w w max laws laws (itself w) _ _ _ _ kind c.in_ok-open_struct.ensures.opens.ok in
    let step = rw (c.in-Member.is, c.open_struct.ensures.same) at (c.in_ok-member.ensures.goes_on.ok half.due) in
    let same = c.next_member.ensures.same ∙ c.open_struct.ensures.same in
    record {
      due = step.2.due;
      nulls = ap d.dispatches_nulls same ∙ c.requires.nulls;
      there = (outer, step.1, c.requires.there, step.4);
    }

pub returns-in_err-value-clause-reads : goal.returns-in_err-value-clause-reads
returns-in_err-value-clause-reads g c =
    let V = g.V.VariantList in
    let view = value_of V.index V.inner in
    let d = g.D.ShapeDeserializer in
    let s0 = d.settings c.args.source.now in
    let w = (d.reading s0).wire in
    let max = (d.reading s0).max_depth in
    let laws = g.met.D.ShapeDeserializer.lawful s0 in
    let outer = site_of c.args.schema.now in
    let kind = union_type (kind_at outer) c.requires.there.1.kind in
    let half = begin_union w w max laws laws (itself w) _ _ _ _ kind c.in_ok-open_struct.ensures.opens.ok in
    let step = rw (c.in-Member.is, c.open_struct.ensures.same) at (c.in_ok-member.ensures.goes_on.ok half.due) in
    let p = err_from_is_err_and c.from_residual-in_err-value.result c.from_residual-in_err-value.ensures.1 in
    rw (p.1, p.2) (variant_fails w max laws view outer c.in-Member.member _ _ _ _ _ _ kind half (was_read _ _ c.in_ok-open_struct.ensures.opens.conduct.failed) step (rw (c.next_member.ensures.same, c.open_struct.ensures.same) at c.in_err-value.ensures.reads))

pub next_member-requires-2 : goal.next_member-requires-2
next_member-requires-2 g c =
    let V = g.V.VariantList in
    let view = value_of V.index V.inner in
    let d = g.D.ShapeDeserializer in
    let s0 = d.settings c.args.source.now in
    let w = (d.reading s0).wire in
    let max = (d.reading s0).max_depth in
    let laws = g.met.D.ShapeDeserializer.lawful s0 in
    let outer = site_of c.args.schema.now in
    let kind = union_type (kind_at outer) c.requires.there.1.kind in
    let half = begin_union w w max laws laws (itself w) _ _ _ _ kind c.in_ok-open_struct.ensures.opens.ok in
    let step = rw (c.in-Member.is, c.open_struct.ensures.same) at (c.in_ok-member.ensures.goes_on.ok half.due) in
    let reads = rw (c.next_member.ensures.same, c.open_struct.ensures.same) at c.in_ok-value.ensures.reads in
    let behind = behind_variant w max laws view outer c.in-Member.member _ _ _ _ _ half step reads in
    let same = c.read_member.ensures.same ∙ c.next_member.ensures.same ∙ c.open_struct.ensures.same in
    record { within = behind.within; place = union_has_members _ kind }

pub returns-in_err-next_member-clause-reads : goal.returns-in_err-next_member-clause-reads
returns-in_err-next_member-clause-reads g c =
    let V = g.V.VariantList in
    let view = value_of V.index V.inner in
    let d = g.D.ShapeDeserializer in
    let s0 = d.settings c.args.source.now in
    let w = (d.reading s0).wire in
    let max = (d.reading s0).max_depth in
    let laws = g.met.D.ShapeDeserializer.lawful s0 in
    let outer = site_of c.args.schema.now in
    let kind = union_type (kind_at outer) c.requires.there.1.kind in
    let half = begin_union w w max laws laws (itself w) _ _ _ _ kind c.in_ok-open_struct.ensures.opens.ok in
    let step = rw (c.in-Member.is, c.open_struct.ensures.same) at (c.in_ok-member.ensures.goes_on.ok half.due) in
    let reads = rw (c.next_member.ensures.same, c.open_struct.ensures.same) at c.in_ok-value.ensures.reads in
    let behind = behind_variant w max laws view outer c.in-Member.member _ _ _ _ _ half step reads in
    let same = c.read_member.ensures.same ∙ c.next_member.ensures.same ∙ c.open_struct.ensures.same in
    let p = err_from_is_err_and c.from_residual-in_err-next_member.result c.from_residual-in_err-next_member.ensures.1 in
    rw (p.1, p.2) (goes_no_further w max laws view outer _ _ _ _ _ _ behind (was_read _ _ c.in_ok-open_struct.ensures.opens.conduct.failed) c.in_err-next_member.ensures.goes_on.conduct (rw same at c.in_err-next_member.ensures.goes_on.refused))

pub returns-in_default-2 : goal.returns-in_default-2
returns-in_default-2 g c =
    let V = g.V.VariantList in
    let view = value_of V.index V.inner in
    let d = g.D.ShapeDeserializer in
    let s0 = d.settings c.args.source.now in
    let w = (d.reading s0).wire in
    let max = (d.reading s0).max_depth in
    let laws = g.met.D.ShapeDeserializer.lawful s0 in
    let outer = site_of c.args.schema.now in
    let kind = union_type (kind_at outer) c.requires.there.1.kind in
    let half = begin_union w w max laws laws (itself w) _ _ _ _ kind c.in_ok-open_struct.ensures.opens.ok in
    let step = rw (c.in-Member.is, c.open_struct.ensures.same) at (c.in_ok-member.ensures.goes_on.ok half.due) in
    let reads = rw (c.next_member.ensures.same, c.open_struct.ensures.same) at c.in_ok-value.ensures.reads in
    let behind = behind_variant w max laws view outer c.in-Member.member _ _ _ _ _ half step reads in
    let same = c.read_member.ensures.same ∙ c.next_member.ensures.same ∙ c.open_struct.ensures.same in
    let next = rw same at (c.in_ok-next_member.ensures.goes_on.ok behind.due) in
    record {
      same = c.fail-in_default-2.ensures.same ∙ c.next_member-2.ensures.same ∙ same;
      reads = fails w view outer _ _ _ (broke_inside _ (d.state c.args.source.now) _ _ (was_read _ _ c.in_ok-open_struct.ensures.opens.conduct.failed) (was_read _ _ c.in_ok-open_struct.ensures.opens.conduct.failed) (tt, λ is. cc) (ap (λ (x : Cursor). x.failed) c.fail-in_default-2.ensures.fails)) (λ fault. no_end w w max laws (itself w) _ _ _ outer _ _ c.in_default-2.not-End kind behind next);
    }

pub returns-clause-reads : goal.returns-clause-reads
returns-clause-reads g c =
    let V = g.V.VariantList in
    let view = value_of V.index V.inner in
    let d = g.D.ShapeDeserializer in
    let s0 = d.settings c.args.source.now in
    let w = (d.reading s0).wire in
    let max = (d.reading s0).max_depth in
    let laws = g.met.D.ShapeDeserializer.lawful s0 in
    let outer = site_of c.args.schema.now in
    let kind = union_type (kind_at outer) c.requires.there.1.kind in
    let half = begin_union w w max laws laws (itself w) _ _ _ _ kind c.in_ok-open_struct.ensures.opens.ok in
    let step = rw (c.in-Member.is, c.open_struct.ensures.same) at (c.in_ok-member.ensures.goes_on.ok half.due) in
    let reads = rw (c.next_member.ensures.same, c.open_struct.ensures.same) at c.in_ok-value.ensures.reads in
    let behind = behind_variant w max laws view outer c.in-Member.member _ _ _ _ _ half step reads in
    let same = c.read_member.ensures.same ∙ c.next_member.ensures.same ∙ c.open_struct.ensures.same in
    let leaves = rw (c.in-End.is, same) at (c.in_ok-next_member.ensures.goes_on.ok behind.due) in
    ends w max laws view outer _ _ _ _ _ _ behind (was_read _ _ c.in_ok-open_struct.ensures.opens.conduct.failed) leaves refl
