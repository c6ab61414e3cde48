use Rattle.std.proofs.Common.{◌≡◌, ap, rules, refl, ◌∙◌, [], string_bytes}
use Rattle.std.proofs.lemmas.Result.{err_from_is_err_and}
use Rattle.smithy_shapes.specs.Site.{site_of, kind_at}
use Rattle.smithy_declarations.specs.Value.{map}
use Rattle.smithy_schema.specs.Reading.{Cursor}
use Rattle.smithy_schema.proofs.ReadContainers.{itself}
use Rattle.smithy_schema.proofs.ReadMaps.{begin_map, map_contains}
use Rattle.smithy_schema.proofs.HalfRead.{unkept, not_opened, goes_no_further, ends, entry_passed, entry_fails, map_falls}
use Rattle.smithy_schema.proofs.AnsweredErrors.{was_read}
use Rattle.smithy_typed.specs.Values.{entries_with}
use Rattle.smithy_typed.proofs.Containers.{entries_map, entries_there, entries_inside}
use Rattle.smithy_typed.proofs.maps.read_map.Goals as goal

pub unreachable-unreachable : goal.unreachable-unreachable
unreachable-unreachable g c =
    let view = g.T.Typed.value in
    entries_there g.T.Typed.place (site_of c.args.schema.now) c.requires.there c.in_default.ensures

pub open_map-requires : goal.open_map-requires
open_map-requires g c =
    let view = g.T.Typed.value in
    record { place = entries_map g.T.Typed.place (site_of c.args.schema.now) c.requires.there }

pub returns-in_err-open_map-clause-reads : goal.returns-in_err-open_map-clause-reads
returns-in_err-open_map-clause-reads g c =
    let view = g.T.Typed.value in
    let d = g.D.ShapeDeserializer in
    let s0 = d.settings c.args.source.now in
    let w = (d.reading s0).wire in
    let max = (d.reading s0).max_depth in
    let laws = g.met.D.ShapeDeserializer.lawful s0 in
    let outer = site_of c.args.schema.now in
    let p = err_from_is_err_and c.from_residual.result c.from_residual.ensures.1 in
    rw (p.1, p.2) (not_opened w max laws (λ m. map (entries_with view m.entries)) outer (d.state c.args.source.now) (d.state c.open_map.new.self) c.in_err-open_map.field-0.0 (map_contains (kind_at outer) (entries_map g.T.Typed.place outer c.requires.there)) c.requires.due c.in_err-open_map.ensures.opens.conduct c.in_err-open_map.ensures.opens.refused)

pub loop-entries-init : goal.loop-entries-init
loop-entries-init g c =
    let view = g.T.Typed.value in
    let d = g.D.ShapeDeserializer in
    let s0 = d.settings c.args.source.now in
    let w = (d.reading s0).wire in
    let max = (d.reading s0).max_depth in
    let laws = g.met.D.ShapeDeserializer.lawful s0 in
    let outer = site_of c.args.schema.now in
    let kind = entries_map g.T.Typed.place outer c.requires.there in
    let inside = entries_inside g.T.Typed.place outer (site_of c.in-Some.inner) c.requires.there c.in-Some.ensures in
    let fresh : c.new-entries.result.entries ≡ [] = search rules in
    record {
      same = c.open_map.ensures.same;
      half = rw fresh (begin_map w w max laws laws (itself w) _ _ _ _ kind c.in_ok-open_map.ensures.opens.ok);
    }

pub returns-in_err-key-clause-reads : goal.returns-in_err-key-clause-reads
returns-in_err-key-clause-reads g c =
    let view = g.T.Typed.value in
    let d = g.D.ShapeDeserializer in
    let s0 = d.settings c.args.source.now in
    let w = (d.reading s0).wire in
    let max = (d.reading s0).max_depth in
    let laws = g.met.D.ShapeDeserializer.lawful s0 in
    let outer = site_of c.args.schema.now in
    let kind = entries_map g.T.Typed.place outer c.requires.there in
    let inside = entries_inside g.T.Typed.place outer (site_of c.in-Some.inner) c.requires.there c.in-Some.ensures in
    let half = c.loop-entries.invariant.half in
    let same = c.loop-entries.invariant.same in
    let p = err_from_is_err_and c.from_residual-in_err-key.result c.from_residual-in_err-key.ensures.1 in
    rw (p.1, p.2) (goes_no_further w max laws (λ m. map (entries_with view m.entries)) outer _ _ _ _ _ _ half (was_read _ _ c.in_ok-open_map.ensures.opens.conduct.failed) c.in_err-key.ensures.goes_on.conduct
    (λ fault due. rw same at (c.in_err-key.ensures.goes_on.refused fault due c.args.schema.now.shapes.now c.args.schema.now.place kind)))

pub read_from-requires : goal.read_from-requires
read_from-requires g c =
    let view = g.T.Typed.value in
    let d = g.D.ShapeDeserializer in
    let s0 = d.settings c.args.source.now in
    let w = (d.reading s0).wire in
    let max = (d.reading s0).max_depth in
    let laws = g.met.D.ShapeDeserializer.lawful s0 in
    let outer = site_of c.args.schema.now in
    let kind = entries_map g.T.Typed.place outer c.requires.there in
    let inside = entries_inside g.T.Typed.place outer (site_of c.in-Some.inner) c.requires.there c.in-Some.ensures in
    let half = c.loop-entries.invariant.half in
    let kept = c.loop-entries.invariant.same in
    let step = rw (c.in-Some-2.is, kept) at (c.in_ok-key.ensures.goes_on.ok half.due c.args.schema.now.shapes.now c.args.schema.now.place kind) in
    let same = c.next_key.ensures.same ∙ kept in
    record {
      due = step.due;
      nulls = ap d.dispatches_nulls same ∙ c.requires.nulls;
      there = inside.1;
    }

pub returns-in_err-value-clause-reads : goal.returns-in_err-value-clause-reads
returns-in_err-value-clause-reads g c =
    let view = g.T.Typed.value in
    let d = g.D.ShapeDeserializer in
    let s0 = d.settings c.args.source.now in
    let w = (d.reading s0).wire in
    let max = (d.reading s0).max_depth in
    let laws = g.met.D.ShapeDeserializer.lawful s0 in
    let outer = site_of c.args.schema.now in
    let kind = entries_map g.T.Typed.place outer c.requires.there in
    let inside = entries_inside g.T.Typed.place outer (site_of c.in-Some.inner) c.requires.there c.in-Some.ensures in
    let half = c.loop-entries.invariant.half in
    let same = c.loop-entries.invariant.same in
    let step = rw (c.in-Some-2.is, same) at (c.in_ok-key.ensures.goes_on.ok half.due c.args.schema.now.shapes.now c.args.schema.now.place kind) in
    let p = err_from_is_err_and c.from_residual-in_err-value.result c.from_residual-in_err-value.ensures.1 in
    rw (p.1, p.2) (entry_fails w max laws view (λ m. map (entries_with view m.entries)) outer (site_of c.in-Some.inner) _ _ _ _ _ _ _ kind inside.0 half (was_read _ _ c.in_ok-open_map.ensures.opens.conduct.failed) step (rw (c.next_key.ensures.same, same) at c.in_err-value.ensures.reads))

pub returns-in-Err-clause-reads : goal.returns-in-Err-clause-reads
returns-in-Err-clause-reads g c =
    let view = g.T.Typed.value in
    let d = g.D.ShapeDeserializer in
    let w = (d.reading (d.settings c.args.source.now)).wire in
    let sound = was_read _ _ c.in_ok-open_map.ensures.opens.conduct.failed in
    rw c.in-Err.ensures.err (unkept w (λ m. map (entries_with view m.entries)) (site_of c.args.schema.now) _ _ sound (ap (λ (x : Cursor). x.failed) c.fail.ensures.fails))

pub loop-entries-preserved : goal.loop-entries-preserved
loop-entries-preserved g c =
    let view = g.T.Typed.value in
    let d = g.D.ShapeDeserializer in
    let s0 = d.settings c.args.source.now in
    let w = (d.reading s0).wire in
    let max = (d.reading s0).max_depth in
    let laws = g.met.D.ShapeDeserializer.lawful s0 in
    let outer = site_of c.args.schema.now in
    let kind = entries_map g.T.Typed.place outer c.requires.there in
    let inside = entries_inside g.T.Typed.place outer (site_of c.in-Some.inner) c.requires.there c.in-Some.ensures in
    let half = c.loop-entries.invariant.half in
    let same = c.loop-entries.invariant.same in
    let step = rw (c.in-Some-2.is, same) at (c.in_ok-key.ensures.goes_on.ok half.due c.args.schema.now.shapes.now c.args.schema.now.place kind) in
    let reads = rw (c.next_key.ensures.same, same) at c.in_ok-value.ensures.reads in
    record {
      same = c.read_from.ensures.same ∙ c.next_key.ensures.same ∙ same;
      half = entry_passed w max laws view outer (site_of c.in-Some.inner) _ _ _ _ _ _ _ (string_bytes c.in-Some-2.key) _ kind inside.0 half step reads c.in_default-put_value.ensures.ok;
    }

pub returns-clause-reads : goal.returns-clause-reads
returns-clause-reads g c =
    let view = g.T.Typed.value in
    let d = g.D.ShapeDeserializer in
    let s0 = d.settings c.args.source.now in
    let w = (d.reading s0).wire in
    let max = (d.reading s0).max_depth in
    let laws = g.met.D.ShapeDeserializer.lawful s0 in
    let outer = site_of c.args.schema.now in
    let kind = entries_map g.T.Typed.place outer c.requires.there in
    let inside = entries_inside g.T.Typed.place outer (site_of c.in-Some.inner) c.requires.there c.in-Some.ensures in
    let half = c.loop-entries.invariant.half in
    let same = c.loop-entries.invariant.same in
    let leaves = rw (c.in_default-2.is, same) at (c.in_ok-key.ensures.goes_on.ok half.due c.args.schema.now.shapes.now c.args.schema.now.place kind) in
    ends w max laws (λ m. map (entries_with view m.entries)) outer _ _ _ _ _ _ half (was_read _ _ c.in_ok-open_map.ensures.opens.conduct.failed) leaves refl

pub loop-entries-smaller : goal.loop-entries-smaller
loop-entries-smaller g c =
    let view = g.T.Typed.value in
    let d = g.D.ShapeDeserializer in
    let s0 = d.settings c.args.source.now in
    let w = (d.reading s0).wire in
    let max = (d.reading s0).max_depth in
    let laws = g.met.D.ShapeDeserializer.lawful s0 in
    let outer = site_of c.args.schema.now in
    let kind = entries_map g.T.Typed.place outer c.requires.there in
    let inside = entries_inside g.T.Typed.place outer (site_of c.in-Some.inner) c.requires.there c.in-Some.ensures in
    let half = c.loop-entries.invariant.half in
    let same = c.loop-entries.invariant.same in
    let step = rw (c.in-Some-2.is, same) at (c.in_ok-key.ensures.goes_on.ok half.due c.args.schema.now.shapes.now c.args.schema.now.place kind) in
    let reads = rw (c.next_key.ensures.same, same) at c.in_ok-value.ensures.reads in
    rw (c.read_from.ensures.same, c.next_key.ensures.same, same)
    (map_falls w max laws view outer (site_of c.in-Some.inner) _ _ _ _ _ (string_bytes c.in-Some-2.key) _ kind inside.0 half step reads)
