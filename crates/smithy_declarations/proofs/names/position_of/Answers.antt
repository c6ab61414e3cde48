use Rattle.std.proofs.Common.{◌+◌, ◌-◌, ◌/◌, sym, ap, ◌∙◌, arith, true, false, ◌≡◌}
use Rattle.std.specs.Str.{bytes_eq}
use Rattle.std.specs.Ordering.{is_lt}
use Rattle.smithy_declarations.specs.Private.Order.{is_before, name_in}
use Rattle.smithy_declarations.proofs.OrderLemmas.{found_in_order, missing_in_order, before_too, not_before_too}
use Rattle.smithy_declarations.proofs.names.position_of.Goals as goal
use Rattle.smithy_declarations.proofs.names.position_of.Goals.{else-low-order-via-then-low-order+else-eq, else-low-order-via-else-low-order}

pub loop-low-preserved-then-is_lt : goal.loop-low-preserved-then-is_lt
loop-low-preserved-then-is_lt g c =
    let names = g.N.Named.names c.args.named.now in
    let order = c.args.order.now in
    let middle = c.loop-low.low + (c.loop-low.high - c.loop-low.low) / 2 in
    let here : is_before (name_in names order middle) c.args.name.now ≡ true =
    ap (λ n. is_before n c.args.name.now) (sym c.name_at.ensures) ∙ ap is_lt (sym c.cmp.ensures) ∙ sym c.is_lt.ensures ∙ c.if-is_lt.true in
    record {
      upwards = omega arith;
      within = c.loop-low.invariant.within;
      before = λ i h. before_too (name_in names order i) (name_in names order middle) c.args.name.now (c.requires.rising i middle (omega arith) (omega arith)) here;
      after = c.loop-low.invariant.after;
    }

pub loop-low-preserved : goal.loop-low-preserved
loop-low-preserved g c =
    let names = g.N.Named.names c.args.named.now in
    let order = c.args.order.now in
    let middle = c.loop-low.low + (c.loop-low.high - c.loop-low.low) / 2 in
    let here : is_before (name_in names order middle) c.args.name.now ≡ false =
    ap (λ n. is_before n c.args.name.now) (sym c.name_at.ensures) ∙ ap is_lt (sym c.cmp.ensures) ∙ sym c.is_lt.ensures ∙ c.if-is_lt.false in
    record {
      upwards = omega arith;
      within = omega arith;
      before = c.loop-low.invariant.before;
      after = λ i h k. not_before_too (name_in names order middle) (name_in names order i) c.args.name.now (c.requires.rising middle i h k) here;
    }

pub returns-then-eq : goal.returns-then-eq
returns-then-eq g c =
    sym (found_in_order (g.N.Named.names c.args.named.now) c.args.order.now c.args.name.now c.loop-low.low c.requires (omega arith) c.loop-low.invariant.before
    (ap (λ n. bytes_eq n c.args.name.now) (sym c.name_at-then-low-order.ensures) ∙ sym c.eq.ensures ∙ c.if-eq.true))

pub returns-else-low-order : goal.returns-else-low-order
returns-else-low-order g c =
    let missing = missing_in_order (g.N.Named.names c.args.named.now) c.args.order.now c.args.name.now c.loop-low.low c.requires c.loop-low.invariant.before
    (λ i h k. c.loop-low.invariant.after i (omega arith) k) in
    elim c.else-low-order.branch [
      | else-low-order-via-then-low-order+else-eq w ↦ sym (missing (λ h. ap (λ n. bytes_eq n c.args.name.now) (sym w.name_at-then-low-order.ensures) ∙ sym w.eq.ensures ∙ w.if-eq.false))
      | else-low-order-via-else-low-order w ↦ sym (missing (λ h. absurd (omega (arith, w.if-low-order.false))))
    ]
