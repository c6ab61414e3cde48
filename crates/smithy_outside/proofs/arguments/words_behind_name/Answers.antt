use Rattle.std.proofs.Common.{rules, ◌≡◌, length}
use Rattle.std.specs.Vec.Iter.{into_iter_items, into_iter_len}
use Rattle.std.proofs.lemmas.Iterator.{items_from_collect}
use Rattle.std.proofs.lemmas.Iterator.Adapters.{YieldsList-from_vec, YieldsList-from_skip}
use Rattle.smithy_outside.proofs.arguments.words_behind_name.Goals as goal

pub returns : goal.returns
returns c =
    let len : into_iter_len c.args.arguments ≡ length (into_iter_items c.args.arguments) = search rules in
    items_from_collect c.collect.result c.collect.ensures.ran
    (YieldsList-from_skip 1 (YieldsList-from_vec (into_iter_items c.args.arguments) (search rules) (search rules)) c.skip.ensures.count)
