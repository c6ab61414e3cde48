use Rattle.std.proofs.Common.{◌≡◌, ◌<◌, ◌∙◌, length, get_or, set, true, false, sym, subst, arith, rules, ◌∷◌, [], ◌++◌}
use Rattle.smithy_model_table.specs.Visiting.{AreVisited}
use Rattle.smithy_model_table.proofs.Fewest.{marked_there}
use Rattle.smithy_model_table.proofs.Visited.{past_all, seen_before, newly_seen, unseen_there}
use Rattle.smithy_model_table.proofs.reached.visit.Goals as goal

pub returns-then-number-len : goal.returns-then-number-len
returns-then-number-len c = λ count came held. past_all c.args.number (omega (arith, held.long, c.if-number-len.true, c.len.ensures)) held

pub returns-then-index : goal.returns-then-index
returns-then-index c = λ count came held.
    let seen = c.args.seen.now.items in
    let inside : c.args.number < length seen = search rules in
    seen_before c.args.number inside (marked_there seen c.args.number c.index.result.now inside (sym c.index.ensures ∙ c.if-index.true)) held

pub returns : goal.returns
returns c = λ count came held.
    let seen = c.args.seen.now.items in
    let order = c.args.order.now.items in
    let inside : c.args.number < length seen = search rules in
    let at : get_or seen c.args.number c.index.result.now ≡ false = sym c.index.ensures ∙ c.if-index.false in
    subst (λ os. AreVisited count (came ++ c.args.number ∷ []) (set seen c.args.number true) os) (sym c.in_ok-push.ensures.items)
    (newly_seen c.args.number c.index.result.now inside at (unseen_there seen c.args.number c.index.result.now inside at) held)
