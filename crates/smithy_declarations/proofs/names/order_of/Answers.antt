use Rattle.std.proofs.Common.{rules, arith, map}
use Rattle.std.proofs.lemmas.Iterator.{YieldsList-from_slice, YieldsList-from_map, items_from_collect}
use Rattle.smithy_declarations.proofs.OrderLemmas.{order_from_sort, order_if_ok}
use Rattle.smithy_declarations.proofs.names.order_of.Goals as goal

pub returns : goal.returns
returns g c =
    order_if_ok c.collect.result (map (λ e. e.1) c.deref.result.now) (g.N.Named.names c.args.named.now)
    (items_from_collect _ c.collect.ensures.ran (YieldsList-from_map _ (λ e. e.1) (YieldsList-from_slice c.deref.result.now (cc)) c.map.ensures.closure (λ x r q k. search rules)))
    (order_from_sort (g.N.Named.names c.args.named.now) c.loop-position.entries.items c.deref.result.now (omega (arith, c.loop-position.invariant.counted))
    (λ k d h. c.loop-position.invariant.seen k d (omega arith))
    (rw c.deref.ensures.value c.in_ok-sort.ensures.permutation) (rw c.deref.ensures.value c.in_ok-sort.ensures.sorted))
