-- Answers on maps.
use Rattle.std.proofs.Common.{ap, refl, ◌∙◌, ◌≡◌, suc, length, arith, rules}
use Rattle.smithy_declarations.specs.Value.{map}
use Rattle.smithy_shapes.specs.Site.{site_of}
use Rattle.smithy_schema.specs.Reading.{depth}
use Rattle.smithy_schema.proofs.ReadMaps.{value_place, map_contains}
use Rattle.smithy_value.proofs.Made.{half_sound_at}
use Rattle.smithy_value.proofs.ReadItems.{entry_refused, put_fails, entry_put, entry_nearer}
use Rattle.smithy_value.proofs.ReadTrees.{obeys, returned, opening_fails, map_begun, map_stays, entry_due, map_left, ended}
use Rattle.smithy_value.proofs.reading.+read.Goals as goal

-- the map can not be entered
pub read_map-returns-in_err-open_map : goal.read_map-returns-in_err-open_map
read_map-returns-in_err-open_map g t c =
    let m = g.met.D.ShapeDeserializer in
    let laws = obeys g.D.ShapeDeserializer m.lawful m.lifted_lawful m.above m.counts in
    returned _ _ c.from_residual.ensures.1
    (opening_fails laws (map_contains _ c.requires.place) c.requires.due c.open_map.ensures.same c.in_err-open_map.ensures.opens)

-- it was entered
pub read_map-loop-entries-init : goal.read_map-loop-entries-init
read_map-loop-entries-init g t c =
    let m = g.met.D.ShapeDeserializer in
    let laws = obeys g.D.ShapeDeserializer m.lawful m.lifted_lawful m.above m.counts in
    record {
      same = c.open_map.ensures.same;
      begun = c.no_entries-entries.ensures.begun;
      half = map_begun g.D.ShapeDeserializer c.args.source.now c.open_map.new.self laws c.requires.place c.in_ok-open_map.ensures.opens c.no_entries-entries.ensures.none;
    }

-- it can not go on
pub read_map-returns-in_err-key : goal.read_map-returns-in_err-key
read_map-returns-in_err-key g t c =
    let m = g.met.D.ShapeDeserializer in
    let laws = obeys g.D.ShapeDeserializer m.lawful m.lifted_lawful m.above m.counts in
    let now = c.loop-entries.invariant in
    returned _ _ c.from_residual-in_err-key.ensures.1
    (map_stays c.loop-entries.source laws c.requires.place now.same now.half c.take_key.ensures.same c.in_err-key.ensures.goes_on)

-- a value was refused
pub read_map-returns-in_err-value : goal.read_map-returns-in_err-value
read_map-returns-in_err-value g t c =
    let m = g.met.D.ShapeDeserializer in
    let laws = obeys g.D.ShapeDeserializer m.lawful m.lifted_lawful m.above m.counts in
    let now = c.loop-entries.invariant in
    let due = entry_due g.D.ShapeDeserializer c.args.source.now c.loop-entries.source c.take_key.new.self (site_of c.args.schema.now) _ c.requires.place now.same now.half c.take_key.ensures.same c.in_ok-key.ensures.goes_on c.in-Some-2.is in
    returned _ _ c.from_residual-in_err-value.ensures.1
    (entry_refused laws c.requires.place (value_place c.args.schema.now c.in-Some.inner c.requires.place c.in-Some.ensures) c.is_sparse-sparse.ensures due c.in_err-value.ensures)

-- memory ran out for it
pub read_map-returns-in_err-set_entry : goal.read_map-returns-in_err-set_entry
read_map-returns-in_err-set_entry g t c =
    let m = g.met.D.ShapeDeserializer in
    let laws = obeys g.D.ShapeDeserializer m.lawful m.lifted_lawful m.above m.counts in
    let now = c.loop-entries.invariant in
    let due = entry_due g.D.ShapeDeserializer c.args.source.now c.loop-entries.source c.take_key.new.self (site_of c.args.schema.now) _ c.requires.place now.same now.half c.take_key.ensures.same c.in_ok-key.ensures.goes_on c.in-Some-2.is in
    returned _ _ c.from_residual-in_err-set_entry.ensures.1
    (put_fails laws due c.in_ok-value.ensures c.in_err-set_entry.ensures.err)

-- a value was read
pub read_map-loop-entries-preserved : goal.read_map-loop-entries-preserved
read_map-loop-entries-preserved g t c =
    let m = g.met.D.ShapeDeserializer in
    let laws = obeys g.D.ShapeDeserializer m.lawful m.lifted_lawful m.above m.counts in
    let now = c.loop-entries.invariant in
    let due = entry_due g.D.ShapeDeserializer c.args.source.now c.loop-entries.source c.take_key.new.self (site_of c.args.schema.now) _ c.requires.place now.same now.half c.take_key.ensures.same c.in_ok-key.ensures.goes_on c.in-Some-2.is in
    let grows = g.P.Trees.entries_grow_lawfully in
    let grown = c.in_ok-value.ensures.adds.0 in
    let q = c.read_item.new.trees in
    let begun = grows.begun_still c.args.trees.now c.loop-entries.trees q c.loop-entries.entries now.begun grown in
    let sound = half_sound_at grows c.args.trees.now q _ _ c.loop-entries.entries c.requires.sound begun now.half.reached.input in
    record {
      same = c.in_ok-value.ensures.same ∙ due.same;
      begun = c.in_ok-set_entry.ensures.begun c.args.trees.now begun;
      half = entry_put laws c.requires.place (value_place c.args.schema.now c.in-Some.inner c.requires.place c.in-Some.ensures) c.is_sparse-sparse.ensures due c.in_ok-value.ensures
          (grows.shown_still c.args.trees.now c.loop-entries.trees q c.loop-entries.entries now.begun grown) (c.in_ok-set_entry.ensures.ok (g.D.ShapeDeserializer.state c.loop-entries.source).input sound);
    }

-- the map ended
pub read_map-returns : goal.read_map-returns
read_map-returns g t c =
    let m = g.met.D.ShapeDeserializer in
    let laws = obeys g.D.ShapeDeserializer m.lawful m.lifted_lawful m.above m.counts in
    let now = c.loop-entries.invariant in
    ended c.loop-entries.source (map (g.P.Trees.view_entries c.loop-entries.trees c.loop-entries.entries)) laws now.half (c.take_key.ensures.same ∙ now.same)
    (map_left g.D.ShapeDeserializer c.args.source.now c.loop-entries.source c.take_key.new.self (site_of c.args.schema.now) c.requires.place now.same now.half c.in_ok-key.ensures.goes_on c.in_default-2.is) refl (c.map.ensures.ok c.args.trees.now now.begun) c.map.ensures.err

-- less is left to read
pub read_map-loop-entries-smaller : goal.read_map-loop-entries-smaller
read_map-loop-entries-smaller g t c =
    let m = g.met.D.ShapeDeserializer in
    let laws = obeys g.D.ShapeDeserializer m.lawful m.lifted_lawful m.above m.counts in
    let now = c.loop-entries.invariant in
    let due = entry_due g.D.ShapeDeserializer c.args.source.now c.loop-entries.source c.take_key.new.self (site_of c.args.schema.now) _ c.requires.place now.same now.half c.take_key.ensures.same c.in_ok-key.ensures.goes_on c.in-Some-2.is in
    entry_nearer laws c.requires.place (value_place c.args.schema.now c.in-Some.inner c.requires.place c.in-Some.ensures) c.is_sparse-sparse.ensures now.same due c.in_ok-value.ensures

pub read_map-no_entries-entries-requires : goal.read_map-no_entries-entries-requires
read_map-no_entries-entries-requires g t c =
    record { sound = (_, c.requires.sound) }

pub read_map-read_item-requires : goal.read_map-read_item-requires
read_map-read_item-requires g t c κs within =
    let half = c.loop-entries.invariant.half in
    let same = c.loop-entries.invariant.same in
    let due = entry_due g.D.ShapeDeserializer c.args.source.now c.loop-entries.source c.take_key.new.self (site_of c.args.schema.now) _ c.requires.place same half c.take_key.ensures.same c.in_ok-key.ensures.goes_on c.in-Some-2.is in
    let d = g.D.ShapeDeserializer in
    let most : (d.reading (d.settings c.take_key.new.self)).max_depth ≡ (d.reading (d.settings c.args.source.now)).max_depth = ap (λ s. (d.reading s).max_depth) due.same in
    let level : depth (d.state c.take_key.new.self) ≡ suc (depth (d.state c.args.source.now)) = ap length (due.steps.outer ∙ half.kept.outer) in
    let shallow = half.kept.shallow in
    let sound = half_sound_at g.P.Trees.entries_grow_lawfully c.args.trees.now c.loop-entries.trees _ _ c.loop-entries.entries c.requires.sound c.loop-entries.invariant.begun (due.steps.input ∙ half.reached.input) in
    (omega (arith, most, level, shallow, c.decreases), (search rules, (search rules, (search rules, (search rules, (search rules, (search rules, (search rules, (search rules, (due.steps.due, (sound, c.shape_type-kind.ensures)))))))))))

pub read_map-set_entry-requires-clause-key : goal.read_map-set_entry-requires-clause-key
read_map-set_entry-requires-clause-key g t c =
    let stands = rw c.in-Some-2.is at c.in_ok-key.ensures.placed in
    let grows = g.P.Trees.entries_grow_lawfully in
    let begun = grows.begun_still c.args.trees.now c.loop-entries.trees c.read_item.new.trees c.loop-entries.entries c.loop-entries.invariant.begun c.in_ok-value.ensures.adds.0 in
    (_, half_sound_at grows c.args.trees.now c.read_item.new.trees _ _ c.loop-entries.entries c.requires.sound begun c.loop-entries.invariant.half.reached.input, stands)

pub read_map-set_entry-requires-clause-begun : goal.read_map-set_entry-requires-clause-begun
read_map-set_entry-requires-clause-begun g t c =
    let grows = g.P.Trees.entries_grow_lawfully in
    (c.args.trees.now, grows.begun_still c.args.trees.now c.loop-entries.trees c.read_item.new.trees c.loop-entries.entries c.loop-entries.invariant.begun c.in_ok-value.ensures.adds.0)

pub read_map-set_entry-requires-clause-stands : goal.read_map-set_entry-requires-clause-stands
read_map-set_entry-requires-clause-stands g t c =
    c.in_ok-value.ensures.adds.1

pub read_map-map-requires-clause-sound : goal.read_map-map-requires-clause-sound
read_map-map-requires-clause-sound g t c =
    (_, g.P.Trees.entries_grow_lawfully.sound_still c.args.trees.now c.loop-entries.trees _ c.loop-entries.entries c.requires.sound c.loop-entries.invariant.begun)

pub read_map-map-requires-clause-begun : goal.read_map-map-requires-clause-begun
read_map-map-requires-clause-begun g t c =
    (c.args.trees.now, c.loop-entries.invariant.begun)
