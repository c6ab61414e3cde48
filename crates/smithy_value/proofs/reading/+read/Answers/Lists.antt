-- Answers on lists.
use Rattle.std.proofs.Common.{ap, refl, ◌∙◌, ◌≡◌, suc, length, arith, rules}
use Rattle.smithy_declarations.specs.Value.{list, values_of}
use Rattle.smithy_shapes.specs.Site.{site_of}
use Rattle.smithy_schema.specs.Reading.{depth}
use Rattle.smithy_schema.proofs.ReadLists.{element_place, list_contains}
use Rattle.smithy_value.proofs.Made.{half_sound_at}
use Rattle.smithy_value.proofs.ReadItems.{element_refused, put_fails, element_put, element_nearer}
use Rattle.smithy_value.proofs.ReadRuns.{run_put, run_reached, run_no_further, run_nearer}
use Rattle.smithy_value.proofs.ReadTrees.{obeys, returned, memory_out, opening_fails, list_begun, list_stays, element_due, list_left, ended}
use Rattle.smithy_value.proofs.reading.+read.Goals as goal

-- the list can not be entered
pub read_list-returns-in_err-open_list : goal.read_list-returns-in_err-open_list
read_list-returns-in_err-open_list g t c =
    let m = g.met.D.ShapeDeserializer in
    let laws = obeys g.D.ShapeDeserializer m.lawful m.lifted_lawful m.above m.counts in
    returned _ _ c.from_residual.ensures.1
    (opening_fails laws (list_contains _ c.requires.place) c.requires.due c.open_list.ensures.same c.in_err-open_list.ensures.opens)

-- it was entered, and a run was read
pub read_list-loop-elements-init : goal.read_list-loop-elements-init
read_list-loop-elements-init g t c =
    let m = g.met.D.ShapeDeserializer in
    let laws = obeys g.D.ShapeDeserializer m.lawful m.lifted_lawful m.above m.counts in
    let place = element_place c.args.schema.now c.in-Some.element c.requires.place c.in-Some.ensures in
    let run = c.in_ok-read_run.ensures in
    let half = list_begun g.D.ShapeDeserializer c.args.source.now c.open_list.new.self laws c.requires.place c.in_ok-open_list.ensures.opens c.no_elements-elements.ensures.none in
    record {
      same = run.same ∙ c.open_list.ensures.same;
      begun = run.begun c.args.trees.now c.no_elements-elements.ensures.begun;
      half = run_put laws c.args.source.now c.open_list.new.self c.read_run.new.source (site_of c.args.schema.now) (site_of c.in-Some.element) c.requires.place place c.open_list.ensures.same run half run.shown;
    }

-- memory ran out for it
pub read_list-returns-in_err-read_run : goal.read_list-returns-in_err-read_run
read_list-returns-in_err-read_run g t c =
    let m = g.met.D.ShapeDeserializer in
    let laws = obeys g.D.ShapeDeserializer m.lawful m.lifted_lawful m.above m.counts in
    let place = element_place c.args.schema.now c.in-Some.element c.requires.place c.in-Some.ensures in
    let run = c.in_err-read_run.ensures in
    let half = list_begun g.D.ShapeDeserializer c.args.source.now c.open_list.new.self laws c.requires.place c.in_ok-open_list.ensures.opens c.no_elements-elements.ensures.none in
    returned _ _ c.from_residual-in_err-read_run.ensures.1
    (memory_out (run.same ∙ c.open_list.ensures.same) (run_reached laws c.args.source.now c.open_list.new.self c.read_run.new.source (site_of c.args.schema.now) (site_of c.in-Some.element) c.requires.place place c.open_list.ensures.same run half) run.memory)

-- it can not go on
pub read_list-returns-in_err-next_element : goal.read_list-returns-in_err-next_element
read_list-returns-in_err-next_element g t c =
    let m = g.met.D.ShapeDeserializer in
    let laws = obeys g.D.ShapeDeserializer m.lawful m.lifted_lawful m.above m.counts in
    let now = c.loop-elements.invariant in
    returned _ _ c.from_residual-in_err-next_element.ensures.1
    (list_stays c.loop-elements.source laws c.requires.place now.same now.half c.next_element.ensures.same c.in_err-next_element.ensures.goes_on)

-- an element was refused
pub read_list-returns-in_err-item : goal.read_list-returns-in_err-item
read_list-returns-in_err-item g t c =
    let m = g.met.D.ShapeDeserializer in
    let laws = obeys g.D.ShapeDeserializer m.lawful m.lifted_lawful m.above m.counts in
    let now = c.loop-elements.invariant in
    let due = element_due g.D.ShapeDeserializer c.args.source.now c.loop-elements.source c.next_element.new.self (site_of c.args.schema.now) c.requires.place now.same now.half c.next_element.ensures.same c.in_ok-next_element.ensures.goes_on c.if-branch.true in
    returned _ _ c.from_residual-in_err-item.ensures.1
    (element_refused laws c.requires.place (element_place c.args.schema.now c.in-Some.element c.requires.place c.in-Some.ensures) c.is_sparse-sparse.ensures due c.in_err-item.ensures)

-- memory ran out for it
pub read_list-returns-in_err-push_element : goal.read_list-returns-in_err-push_element
read_list-returns-in_err-push_element g t c =
    let m = g.met.D.ShapeDeserializer in
    let laws = obeys g.D.ShapeDeserializer m.lawful m.lifted_lawful m.above m.counts in
    let now = c.loop-elements.invariant in
    let due = element_due g.D.ShapeDeserializer c.args.source.now c.loop-elements.source c.next_element.new.self (site_of c.args.schema.now) c.requires.place now.same now.half c.next_element.ensures.same c.in_ok-next_element.ensures.goes_on c.if-branch.true in
    returned _ _ c.from_residual-in_err-push_element.ensures.1
    (put_fails laws due c.in_ok-item.ensures c.in_err-push_element.ensures.err)

-- an element was read, and a run
pub read_list-loop-elements-preserved : goal.read_list-loop-elements-preserved
read_list-loop-elements-preserved g t c =
    let m = g.met.D.ShapeDeserializer in
    let laws = obeys g.D.ShapeDeserializer m.lawful m.lifted_lawful m.above m.counts in
    let now = c.loop-elements.invariant in
    let place = element_place c.args.schema.now c.in-Some.element c.requires.place c.in-Some.ensures in
    let due = element_due g.D.ShapeDeserializer c.args.source.now c.loop-elements.source c.next_element.new.self (site_of c.args.schema.now) c.requires.place now.same now.half c.next_element.ensures.same c.in_ok-next_element.ensures.goes_on c.if-branch.true in
    let grows = g.P.Trees.elements_grow_lawfully in
    let grown = c.in_ok-item.ensures.adds.0 in
    let q = c.read_item.new.trees in
    let half = element_put laws place c.is_sparse-sparse.ensures due c.in_ok-item.ensures
    (grows.shown_still c.args.trees.now c.loop-elements.trees q c.loop-elements.elements now.begun grown) c.in_ok-push_element.ensures.ok in
    let run = c.in_ok-read_run-2.ensures in
    record {
      same = run.same ∙ c.in_ok-item.ensures.same ∙ due.same;
      begun = run.begun c.args.trees.now (c.in_ok-push_element.ensures.begun c.args.trees.now (grows.begun_still c.args.trees.now c.loop-elements.trees q c.loop-elements.elements now.begun grown));
      half = run_put laws c.args.source.now c.read_item.new.source c.read_run-in-loop-elements.new.source (site_of c.args.schema.now) (site_of c.in-Some.element) c.requires.place place (c.in_ok-item.ensures.same ∙ due.same) run half run.shown;
    }

-- memory ran out for a run
pub read_list-returns-in_err-read_run-2 : goal.read_list-returns-in_err-read_run-2
read_list-returns-in_err-read_run-2 g t c =
    let m = g.met.D.ShapeDeserializer in
    let laws = obeys g.D.ShapeDeserializer m.lawful m.lifted_lawful m.above m.counts in
    let now = c.loop-elements.invariant in
    let place = element_place c.args.schema.now c.in-Some.element c.requires.place c.in-Some.ensures in
    let due = element_due g.D.ShapeDeserializer c.args.source.now c.loop-elements.source c.next_element.new.self (site_of c.args.schema.now) c.requires.place now.same now.half c.next_element.ensures.same c.in_ok-next_element.ensures.goes_on c.if-branch.true in
    let grows = g.P.Trees.elements_grow_lawfully in
    let grown = c.in_ok-item.ensures.adds.0 in
    let q = c.read_item.new.trees in
    let half = element_put laws place c.is_sparse-sparse.ensures due c.in_ok-item.ensures
    (grows.shown_still c.args.trees.now c.loop-elements.trees q c.loop-elements.elements now.begun grown) c.in_ok-push_element.ensures.ok in
    let run = c.in_err-read_run-2.ensures in
    let same = c.in_ok-item.ensures.same ∙ due.same in
    returned _ _ c.from_residual-in_err-read_run-2.ensures.1
    (memory_out (run.same ∙ same) (run_reached laws c.args.source.now c.read_item.new.source c.read_run-in-loop-elements.new.source (site_of c.args.schema.now) (site_of c.in-Some.element) c.requires.place place same run half) run.memory)

-- the list ended
pub read_list-returns : goal.read_list-returns
read_list-returns g t c =
    let m = g.met.D.ShapeDeserializer in
    let laws = obeys g.D.ShapeDeserializer m.lawful m.lifted_lawful m.above m.counts in
    let now = c.loop-elements.invariant in
    ended c.loop-elements.source (list (values_of (g.P.Trees.view_elements c.loop-elements.trees c.loop-elements.elements))) laws now.half (c.next_element.ensures.same ∙ now.same)
    (list_left g.D.ShapeDeserializer c.args.source.now c.loop-elements.source c.next_element.new.self (site_of c.args.schema.now) c.requires.place now.same now.half c.in_ok-next_element.ensures.goes_on c.if-branch.false) refl (c.list.ensures.ok c.args.trees.now now.begun) c.list.ensures.err

-- less is left to read
pub read_list-loop-elements-smaller : goal.read_list-loop-elements-smaller
read_list-loop-elements-smaller g t c =
    let m = g.met.D.ShapeDeserializer in
    let laws = obeys g.D.ShapeDeserializer m.lawful m.lifted_lawful m.above m.counts in
    let now = c.loop-elements.invariant in
    let place = element_place c.args.schema.now c.in-Some.element c.requires.place c.in-Some.ensures in
    let due = element_due g.D.ShapeDeserializer c.args.source.now c.loop-elements.source c.next_element.new.self (site_of c.args.schema.now) c.requires.place now.same now.half c.next_element.ensures.same c.in_ok-next_element.ensures.goes_on c.if-branch.true in
    let grows = g.P.Trees.elements_grow_lawfully in
    let grown = c.in_ok-item.ensures.adds.0 in
    let q = c.read_item.new.trees in
    let half = element_put laws place c.is_sparse-sparse.ensures due c.in_ok-item.ensures
    (grows.shown_still c.args.trees.now c.loop-elements.trees q c.loop-elements.elements now.begun grown) c.in_ok-push_element.ensures.ok in
    let run = c.in_ok-read_run-2.ensures in
    let same = c.in_ok-item.ensures.same ∙ due.same in
    run_nearer g.D.ShapeDeserializer c.args.source.now c.loop-elements.source c.read_item.new.source c.read_run-in-loop-elements.new.source (run.same ∙ same) same
    (run_no_further laws c.args.source.now c.read_item.new.source c.read_run-in-loop-elements.new.source (site_of c.args.schema.now) (site_of c.in-Some.element) c.requires.place place same run half)
    (element_nearer laws place c.is_sparse-sparse.ensures now.same due c.in_ok-item.ensures)

pub read_list-read_run-requires-in-loop-elements-clause-begun : goal.read_list-read_run-requires-in-loop-elements-clause-begun
read_list-read_run-requires-in-loop-elements-clause-begun g t c =
    let grows = g.P.Trees.elements_grow_lawfully in
    let begun = grows.begun_still c.args.trees.now c.loop-elements.trees c.read_item.new.trees c.loop-elements.elements c.loop-elements.invariant.begun c.in_ok-item.ensures.adds.0 in
    (c.args.trees.now, _, c.requires.sound, c.in_ok-push_element.ensures.begun c.args.trees.now begun)

pub read_list-no_elements-elements-requires : goal.read_list-no_elements-elements-requires
read_list-no_elements-elements-requires g t c =
    record { sound = (_, c.requires.sound) }

pub read_list-read_item-requires : goal.read_list-read_item-requires
read_list-read_item-requires g t c κs within =
    let half = c.loop-elements.invariant.half in
    let same = c.loop-elements.invariant.same in
    let due = element_due g.D.ShapeDeserializer c.args.source.now c.loop-elements.source c.next_element.new.self (site_of c.args.schema.now) c.requires.place same half c.next_element.ensures.same c.in_ok-next_element.ensures.goes_on c.if-branch.true in
    let d = g.D.ShapeDeserializer in
    let most : (d.reading (d.settings c.next_element.new.self)).max_depth ≡ (d.reading (d.settings c.args.source.now)).max_depth = ap (λ s. (d.reading s).max_depth) due.same in
    let level : depth (d.state c.next_element.new.self) ≡ suc (depth (d.state c.args.source.now)) = ap length (due.steps.outer ∙ half.kept.outer) in
    let shallow = half.kept.shallow in
    let sound = half_sound_at g.P.Trees.elements_grow_lawfully c.args.trees.now c.loop-elements.trees _ _ c.loop-elements.elements c.requires.sound c.loop-elements.invariant.begun (due.steps.input ∙ half.reached.input) in
    (omega (arith, most, level, shallow, c.decreases), (search rules, (search rules, (search rules, (search rules, (search rules, (search rules, (search rules, (search rules, (due.steps.due, (sound, c.shape_type-kind.ensures)))))))))))

pub read_list-push_element-requires-clause-sound : goal.read_list-push_element-requires-clause-sound
read_list-push_element-requires-clause-sound g t c =
    let grows = g.P.Trees.elements_grow_lawfully in
    let begun = grows.begun_still c.args.trees.now c.loop-elements.trees c.read_item.new.trees c.loop-elements.elements c.loop-elements.invariant.begun c.in_ok-item.ensures.adds.0 in
    (_, grows.sound_still c.args.trees.now c.read_item.new.trees _ c.loop-elements.elements c.requires.sound begun)

pub read_list-push_element-requires-clause-begun : goal.read_list-push_element-requires-clause-begun
read_list-push_element-requires-clause-begun g t c =
    let grows = g.P.Trees.elements_grow_lawfully in
    (c.args.trees.now, grows.begun_still c.args.trees.now c.loop-elements.trees c.read_item.new.trees c.loop-elements.elements c.loop-elements.invariant.begun c.in_ok-item.ensures.adds.0)

pub read_list-push_element-requires-clause-stands : goal.read_list-push_element-requires-clause-stands
read_list-push_element-requires-clause-stands g t c =
    c.in_ok-item.ensures.adds.1

pub read_list-list-requires-clause-sound : goal.read_list-list-requires-clause-sound
read_list-list-requires-clause-sound g t c =
    (_, g.P.Trees.elements_grow_lawfully.sound_still c.args.trees.now c.loop-elements.trees _ c.loop-elements.elements c.requires.sound c.loop-elements.invariant.begun)

pub read_list-list-requires-clause-begun : goal.read_list-list-requires-clause-begun
read_list-list-requires-clause-begun g t c =
    (c.args.trees.now, c.loop-elements.invariant.begun)
