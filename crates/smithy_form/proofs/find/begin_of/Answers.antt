use Rattle.std.proofs.Common.{rules}
use Rattle.std.proofs.lemmas.List.Sorted.{IsPartitionPoint-from_clause}
use Rattle.smithy_form.specs.Private.Kept.{is_before}
use Rattle.smithy_form.proofs.find.begin_of.Goals as goal

pub returns : goal.returns
returns c = record {
  bound = c.partition_point.ensures.bound;
  point = IsPartitionPoint-from_clause (is_before c.args.at c.args.segment.now) _ _ c.partition_point.ensures.partitioned c.requires (λ a r f' k. search rules);
}
