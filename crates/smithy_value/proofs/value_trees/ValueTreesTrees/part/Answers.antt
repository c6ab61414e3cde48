use Rattle.smithy_value.proofs.Standing.{all_stand}
use Rattle.smithy_value.proofs.value_trees.ValueTreesTrees.part.Goals as goal

pub returns-in-Map-clause-parts : goal.returns-in-Map-clause-parts
returns-in-Map-clause-parts c = all_stand _ (λ v. tt) _

pub returns-in-Structure-clause-parts : goal.returns-in-Structure-clause-parts
returns-in-Structure-clause-parts c = all_stand _ (λ v. tt) _
