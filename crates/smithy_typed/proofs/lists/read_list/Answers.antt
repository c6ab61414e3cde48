use Rattle.std.proofs.Common.{◌≡◌, ap, rules, refl, ◌∙◌, [], ◌∷◌, map}
use Rattle.std.proofs.lemmas.List.{map-append}
use Rattle.std.proofs.lemmas.Result.{err_from_is_err_and}
use Rattle.smithy_shapes.specs.Site.{site_of, kind_at}
use Rattle.smithy_declarations.specs.Value.{list, values_of}
use Rattle.smithy_schema.specs.Reading.{Cursor}
use Rattle.smithy_schema.proofs.ReadContainers.{itself}
use Rattle.smithy_schema.proofs.ReadLists.{begin_list, list_contains}
use Rattle.smithy_schema.proofs.HalfRead.{unkept, not_opened, goes_no_further, ends, element_passed, element_fails, list_falls}
use Rattle.smithy_schema.proofs.AnsweredErrors.{was_read}
use Rattle.smithy_typed.proofs.Containers.{elements_list, elements_there, elements_inside}
use Rattle.smithy_typed.proofs.lists.read_list.Goals as goal

pub unreachable-unreachable : goal.unreachable-unreachable
unreachable-unreachable g c =
    let view = g.T.Typed.value in
    elements_there g.T.Typed.place (site_of c.args.schema.now) c.requires.there c.in_default.ensures

pub open_list-requires : goal.open_list-requires
open_list-requires g c =
    let view = g.T.Typed.value in
    record { place = elements_list g.T.Typed.place (site_of c.args.schema.now) c.requires.there }

pub returns-in_err-open_list-clause-reads : goal.returns-in_err-open_list-clause-reads
returns-in_err-open_list-clause-reads g c =
    let view = g.T.Typed.value in
    let d = g.D.ShapeDeserializer in
    let s0 = d.settings c.args.source.now in
    let w = (d.reading s0).wire in
    let max = (d.reading s0).max_depth in
    let laws = g.met.D.ShapeDeserializer.lawful s0 in
    let outer = site_of c.args.schema.now in
    let p = err_from_is_err_and c.from_residual.result c.from_residual.ensures.1 in
    rw (p.1, p.2) (not_opened w max laws (λ v. list (values_of (map view v.items))) outer (d.state c.args.source.now) (d.state c.open_list.new.self) c.in_err-open_list.field-0.0 (list_contains (kind_at outer) (elements_list g.T.Typed.place outer c.requires.there)) c.requires.due c.in_err-open_list.ensures.opens.conduct c.in_err-open_list.ensures.opens.refused)

pub loop-values-init : goal.loop-values-init
loop-values-init g c =
    let view = g.T.Typed.value in
    let d = g.D.ShapeDeserializer in
    let s0 = d.settings c.args.source.now in
    let w = (d.reading s0).wire in
    let max = (d.reading s0).max_depth in
    let laws = g.met.D.ShapeDeserializer.lawful s0 in
    let outer = site_of c.args.schema.now in
    let kind = elements_list g.T.Typed.place outer c.requires.there in
    let inside = elements_inside g.T.Typed.place outer (site_of c.in-Some.inner) c.requires.there c.in-Some.ensures in
    let fresh : c.new-values.result.items ≡ [] = search rules in
    record {
      same = c.open_list.ensures.same;
      half = rw fresh (begin_list w w max laws laws (itself w) _ _ _ _ kind c.in_ok-open_list.ensures.opens.ok);
    }

pub returns-in_err-next_element-clause-reads : goal.returns-in_err-next_element-clause-reads
returns-in_err-next_element-clause-reads g c =
    let view = g.T.Typed.value in
    let d = g.D.ShapeDeserializer in
    let s0 = d.settings c.args.source.now in
    let w = (d.reading s0).wire in
    let max = (d.reading s0).max_depth in
    let laws = g.met.D.ShapeDeserializer.lawful s0 in
    let outer = site_of c.args.schema.now in
    let kind = elements_list g.T.Typed.place outer c.requires.there in
    let inside = elements_inside g.T.Typed.place outer (site_of c.in-Some.inner) c.requires.there c.in-Some.ensures in
    let half = c.loop-values.invariant.half in
    let same = c.loop-values.invariant.same in
    let p = err_from_is_err_and c.from_residual-in_err-next_element.result c.from_residual-in_err-next_element.ensures.1 in
    rw (p.1, p.2) (goes_no_further w max laws (λ v. list (values_of (map view v.items))) outer _ _ _ _ _ _ half (was_read _ _ c.in_ok-open_list.ensures.opens.conduct.failed) c.in_err-next_element.ensures.goes_on.conduct
    (λ fault due. rw same at (c.in_err-next_element.ensures.goes_on.refused fault due c.args.schema.now.shapes.now c.args.schema.now.place kind)))

pub read_from-requires : goal.read_from-requires
read_from-requires g c =
    let view = g.T.Typed.value in
    let d = g.D.ShapeDeserializer in
    let s0 = d.settings c.args.source.now in
    let w = (d.reading s0).wire in
    let max = (d.reading s0).max_depth in
    let laws = g.met.D.ShapeDeserializer.lawful s0 in
    let outer = site_of c.args.schema.now in
    let kind = elements_list g.T.Typed.place outer c.requires.there in
    let inside = elements_inside g.T.Typed.place outer (site_of c.in-Some.inner) c.requires.there c.in-Some.ensures in
    let half = c.loop-values.invariant.half in
    let kept = c.loop-values.invariant.same in
    let step = rw (c.if-branch.true, kept) at (c.in_ok-next_element.ensures.goes_on.ok half.due c.args.schema.now.shapes.now c.args.schema.now.place kind) in
    let same = c.next_element.ensures.same ∙ kept in
    record {
      due = step.due;
      nulls = ap d.dispatches_nulls same ∙ c.requires.nulls;
      there = inside.1;
    }

pub returns-in_err-value-clause-reads : goal.returns-in_err-value-clause-reads
returns-in_err-value-clause-reads g c =
    let view = g.T.Typed.value in
    let d = g.D.ShapeDeserializer in
    let s0 = d.settings c.args.source.now in
    let w = (d.reading s0).wire in
    let max = (d.reading s0).max_depth in
    let laws = g.met.D.ShapeDeserializer.lawful s0 in
    let outer = site_of c.args.schema.now in
    let kind = elements_list g.T.Typed.place outer c.requires.there in
    let inside = elements_inside g.T.Typed.place outer (site_of c.in-Some.inner) c.requires.there c.in-Some.ensures in
    let half = c.loop-values.invariant.half in
    let same = c.loop-values.invariant.same in
    let step = rw (c.if-branch.true, same) at (c.in_ok-next_element.ensures.goes_on.ok half.due c.args.schema.now.shapes.now c.args.schema.now.place kind) in
    let p = err_from_is_err_and c.from_residual-in_err-value.result c.from_residual-in_err-value.ensures.1 in
    rw (p.1, p.2) (element_fails w max laws view (λ v. list (values_of (map view v.items))) outer (site_of c.in-Some.inner) _ _ _ _ _ _ kind inside.0 half (was_read _ _ c.in_ok-open_list.ensures.opens.conduct.failed) step (rw (c.next_element.ensures.same, same) at c.in_err-value.ensures.reads))

pub returns-in-Err-clause-reads : goal.returns-in-Err-clause-reads
returns-in-Err-clause-reads g c =
    let view = g.T.Typed.value in
    let d = g.D.ShapeDeserializer in
    let w = (d.reading (d.settings c.args.source.now)).wire in
    let sound = was_read _ _ c.in_ok-open_list.ensures.opens.conduct.failed in
    rw c.from.ensures (unkept w (λ v. list (values_of (map view v.items))) (site_of c.args.schema.now) _ _ sound (ap (λ (x : Cursor). x.failed) c.fail.ensures.fails))

pub loop-values-preserved : goal.loop-values-preserved
loop-values-preserved g c =
    let view = g.T.Typed.value in
    let d = g.D.ShapeDeserializer in
    let s0 = d.settings c.args.source.now in
    let w = (d.reading s0).wire in
    let max = (d.reading s0).max_depth in
    let laws = g.met.D.ShapeDeserializer.lawful s0 in
    let outer = site_of c.args.schema.now in
    let kind = elements_list g.T.Typed.place outer c.requires.there in
    let inside = elements_inside g.T.Typed.place outer (site_of c.in-Some.inner) c.requires.there c.in-Some.ensures in
    let half = c.loop-values.invariant.half in
    let same = c.loop-values.invariant.same in
    let step = rw (c.if-branch.true, same) at (c.in_ok-next_element.ensures.goes_on.ok half.due c.args.schema.now.shapes.now c.args.schema.now.place kind) in
    let reads = rw (c.next_element.ensures.same, same) at c.in_ok-value.ensures.reads in
    record {
      same = c.read_from.ensures.same ∙ c.next_element.ensures.same ∙ same;
      half = rw (c.in_default-push.ensures.items, map-append view c.loop-values.values.items (c.in_ok-value.value ∷ [])) (element_passed w max laws view outer (site_of c.in-Some.inner) _ _ _ _ _ _ _ inside.0 half step reads);
    }

pub returns-clause-reads : goal.returns-clause-reads
returns-clause-reads g c =
    let view = g.T.Typed.value in
    let d = g.D.ShapeDeserializer in
    let s0 = d.settings c.args.source.now in
    let w = (d.reading s0).wire in
    let max = (d.reading s0).max_depth in
    let laws = g.met.D.ShapeDeserializer.lawful s0 in
    let outer = site_of c.args.schema.now in
    let kind = elements_list g.T.Typed.place outer c.requires.there in
    let inside = elements_inside g.T.Typed.place outer (site_of c.in-Some.inner) c.requires.there c.in-Some.ensures in
    let half = c.loop-values.invariant.half in
    let same = c.loop-values.invariant.same in
    let leaves = rw (c.if-branch.false, same) at (c.in_ok-next_element.ensures.goes_on.ok half.due c.args.schema.now.shapes.now c.args.schema.now.place kind) in
    ends w max laws (λ v. list (values_of (map view v.items))) outer _ _ _ _ _ _ half (was_read _ _ c.in_ok-open_list.ensures.opens.conduct.failed) leaves refl

pub loop-values-smaller : goal.loop-values-smaller
loop-values-smaller g c =
    let view = g.T.Typed.value in
    let d = g.D.ShapeDeserializer in
    let s0 = d.settings c.args.source.now in
    let w = (d.reading s0).wire in
    let max = (d.reading s0).max_depth in
    let laws = g.met.D.ShapeDeserializer.lawful s0 in
    let outer = site_of c.args.schema.now in
    let kind = elements_list g.T.Typed.place outer c.requires.there in
    let inside = elements_inside g.T.Typed.place outer (site_of c.in-Some.inner) c.requires.there c.in-Some.ensures in
    let half = c.loop-values.invariant.half in
    let same = c.loop-values.invariant.same in
    let step = rw (c.if-branch.true, same) at (c.in_ok-next_element.ensures.goes_on.ok half.due c.args.schema.now.shapes.now c.args.schema.now.place kind) in
    let reads = rw (c.next_element.ensures.same, same) at c.in_ok-value.ensures.reads in
    rw (c.read_from.ensures.same, c.next_element.ensures.same, same)
    (list_falls w max laws view outer (site_of c.in-Some.inner) _ _ _ _ _ _ inside.0 half step reads)
