use Rattle.std.proofs.Common.{◌≡◌, None, sym, ◌∙◌, rules}
use Rattle.std.specs.List.Sorted.{IsSortedBy}
use Rattle.std.specs.Ordering.{is_lt}
use Rattle.std.proofs.lemmas.Fn.{always_returns_same}
use Rattle.std.proofs.lemmas.List.Sorted.{ranks_by}
use Rattle.smithy_form.specs.declared.pairs.Pair.{Pair}
use Rattle.smithy_form.specs.Private.Order.{pair_cmp, least_repeated}
use Rattle.smithy_form.proofs.SortLemmas.{pair_total, sorted_pairs, sorting_tells, names_ascend, pairs_ascend, names_kept}
use Rattle.smithy_form.proofs.sorting.sort_pairs.Goals as goal

pub returns-in-Some : goal.returns-in-Some
returns-in-Some c =
    let new = c.sort_by.new.self in
    let up : IsSortedBy (λ p q. is_lt (pair_cmp p q)) new =
    c.in_ok-sort_by.ensures.sorted (λ p q. is_lt (pair_cmp p q)) (ranks_by pair_total (λ (p : Pair). p)) (always_returns_same _ _ _ (λ a r f k. search rules)) in
    sorting_tells c.args.pairs.now new c.requires c.sort_by.ensures.permutation (sorted_pairs new up) ∙ sym c.least_repeated.ensures ∙ c.in-Some.is

pub returns-in-None : goal.returns-in-None
returns-in-None c =
    let old = c.args.pairs.now in
    let new = c.sort_by.new.self in
    let up : IsSortedBy (λ p q. is_lt (pair_cmp p q)) new =
    c.in_ok-sort_by.ensures.sorted (λ p q. is_lt (pair_cmp p q)) (ranks_by pair_total (λ (p : Pair). p)) (always_returns_same _ _ _ (λ a r f k. search rules)) in
    let ascend = sorted_pairs new up in
    let least : least_repeated new ≡ None = sym c.least_repeated.ensures ∙ c.in-None.is in
    let none = sorting_tells old new c.requires c.sort_by.ensures.permutation ascend ∙ least in
    (none, pairs_ascend new (names_ascend new ascend least), names_kept old new c.requires c.sort_by.ensures.permutation none)
