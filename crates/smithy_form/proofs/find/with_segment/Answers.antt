use Rattle.smithy_form.specs.Private.Kept.{is_not_behind}
use Rattle.smithy_form.proofs.FindLemmas.{partitioned_rest, found_in}
use Rattle.smithy_form.proofs.OrderLemmas.{sorted_at, found_ascend, has_room}
use Rattle.smithy_form.proofs.find.with_segment.Goals as goal

pub begin_of-from-requires : goal.begin_of-from-requires
begin_of-from-requires c = (sorted_at c.args.at c.args.segment.now c.args.pairs.now c.requires.sorted).before

pub count_of-count-requires : goal.count_of-count-requires
count_of-count-requires c =
    partitioned_rest (is_not_behind c.args.at c.args.segment.now) c.args.pairs.now c.pairs_from-rest.result.now c.begin_of-from.result c.pairs_from-rest.ensures
    (sorted_at c.args.at c.args.segment.now c.args.pairs.now c.requires.sorted).not_behind

pub returns-clause-inside : goal.returns-clause-inside
returns-clause-inside c =
    found_in c.args.at c.args.segment.now c.args.pairs.now c.pairs_from-rest.result.now c.begin_of-from.result c.count_of-count.result c.pairs_from-rest.ensures
    c.begin_of-from.ensures.bound c.count_of-count.ensures.bound c.begin_of-from.ensures.point c.count_of-count.ensures.point

pub returns-clause-sorted : goal.returns-clause-sorted
returns-clause-sorted c = found_ascend c.args.at c.args.segment.now c.args.pairs.now _ c.requires.sorted (returns-clause-inside c)

pub returns-clause-room : goal.returns-clause-room
returns-clause-room c = has_room c.args.at c.args.segment.now c.args.pairs.now _ (returns-clause-inside c)
