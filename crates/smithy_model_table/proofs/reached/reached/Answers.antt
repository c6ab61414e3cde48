use Rattle.std.proofs.Common.{◌≡◌, ◌≤◌, ◌<◌, ◌∙◌, [], ◌++◌, length, replicate, false, true, get_or, append-nil, sym, ap, subst, arith, rules}
use Rattle.std.specs.List.{list_all}
use Rattle.std.proofs.lemmas.List.{length-map}
use Rattle.smithy_model.specs.Views.{model_view, shape_view}
use Rattle.smithy_model_table.specs.Reaching.{targets_at}
use Rattle.smithy_model_table.specs.Visiting.{AreVisited}
use Rattle.smithy_model_table.proofs.Visited.{none_visited}
use Rattle.smithy_model_table.proofs.Reachable.{came_by, came_more, along_more, all_turned}
use Rattle.smithy_model_table.proofs.reached.reached.Goals as goal

pub loop-turn-init : goal.loop-turn-init
loop-turn-init c =
    let shapes = c.args.model.now.shapes.items in
    let count = length (model_view c.args.model.now).shapes in
    let none : c.in_ok-seen.seen.items ≡ replicate (length shapes) false = search rules in
    let empty : c.new-order.result.items ≡ [] = search rules in
    let first : AreVisited count [] c.in_ok-seen.seen.items c.new-order.result.items =
    subst (λ os. AreVisited count [] c.in_ok-seen.seen.items os) (sym empty)
    (none_visited count c.in_ok-seen.seen.items (none ∙ ap (λ n. replicate n false) (sym (length-map shapes shape_view)))) in
    record {
      visited = subst (λ came. AreVisited count came c.visit_all.new.seen.items c.visit_all.new.order.items) (sym (append-nil c.args.roots.now))
          (c.in_ok-visit_all.ensures count [] first);
      inside = omega arith;
      fewest = λ test along. subst (λ came. list_all test came ≡ true) (sym (append-nil c.args.roots.now)) along.0;
    }

pub loop-turn-preserved : goal.loop-turn-preserved
loop-turn-preserved c =
    let m = model_view c.args.model.now in
    let marks = c.args.marks.now in
    let roots = c.args.roots.now in
    let turn = c.loop-turn.turn in
    let order = c.loop-turn.order.items in
    let seen = c.visit_targets.new.seen.items in
    let now = c.visit_targets.new.order.items in
    let number = c.index-number.result.now in
    let held = c.loop-turn.invariant in
    let inside : turn < length order = search rules in
    let visited : AreVisited (length m.shapes) (came_by m marks roots turn order ++ targets_at m marks (get_or order turn number)) seen now =
    subst (λ n. AreVisited (length m.shapes) (came_by m marks roots turn order ++ targets_at m marks n) seen now) c.index-number.ensures
    (c.in_ok-visit_targets.ensures (length m.shapes) (came_by m marks roots turn order) held.visited) in
    let more = came_more m marks roots turn number order now inside held.visited visited in
    record {
      visited = subst (λ came. AreVisited (length m.shapes) came seen now) more.1 visited;
      inside = omega (arith, more.0);
      fewest = λ test along.
          subst (λ came. list_all test came ≡ true) more.1
          (along_more m marks roots turn number test inside held.visited along (held.fewest test along));
    }

pub returns : goal.returns
returns c =
    let held = c.loop-turn.invariant in
    let far : length c.loop-turn.order.items ≤ c.loop-turn.turn = search rules in
    all_turned (model_view c.args.model.now) c.args.marks.now c.args.roots.now c.loop-turn.turn far held.visited held.fewest
