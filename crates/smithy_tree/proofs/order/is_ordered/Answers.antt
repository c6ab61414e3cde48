use Rattle.std.proofs.Common.{rules, ◌≡◌, ◌∙◌, ◌+◌, ◌-◌, ◌++◌, ℕ, Less, take, get_or, arith, sym, subst, true}
use Rattle.std.specs.Ordering.{is_lt}
use Rattle.smithy_tree.specs.Order.{label_cmp}
use Rattle.smithy_tree.proofs.Ordering.{AllBelow, blank, label_total, labelled_at, less_is, next_below, next_ordered}
use Rattle.smithy_tree.proofs.order.is_ordered.Goals as goal

pub compare-requires-clause-one : goal.compare-requires-clause-one
compare-requires-clause-one c = labelled_at c.args.input.now c.args.side.now c.args.slots.now (c.loop-place.place - 1) blank (omega arith) c.requires.labels

pub compare-requires-clause-other : goal.compare-requires-clause-other
compare-requires-clause-other c = labelled_at c.args.input.now c.args.side.now c.args.slots.now c.loop-place.place blank (omega arith) c.requires.labels

pub loop-place-preserved : goal.loop-place-preserved
loop-place-preserved c =
    let bytes = c.args.input.now ++ c.args.side.now in
    let cmp = label_cmp c.args.order bytes in
    let xs = c.args.slots.now in
    let i = c.loop-place.place in
    let iv = c.loop-place.invariant in
    let told : is_lt c.compare.result ≡ true = search rules in
    let less : cmp (get_or xs (i - 1) blank) (get_or xs i blank) ≡ Less = sym c.compare.ensures ∙ less_is c.compare.result told in
    let below = next_below cmp (label_total c.args.order bytes) xs i blank iv.some (omega arith) less iv.below in
    let back : i ≡ i + 1 - 1 = omega arith in
    record {
      some = omega arith;
      done = next_ordered cmp xs i blank (omega arith) below iv.done;
      below = subst (λ (k : ℕ). AllBelow cmp (get_or xs k blank) (take k xs)) back below;
    }
