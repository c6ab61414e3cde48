-- Where a value ends that is skipped.
use Rattle.std.specs.Prelude.{◌≤◌, ◌<◌, ◌+◌, ℕ, List, length, drop, Result, IfOk, OnErr, IsErrOf}
use Rattle.smithy_json_values.specs.declared.skip.SkipFault.{SkipFault}
use Rattle.smithy_json_values.specs.declared.skip.SkipFault.TheVariants.{NoValue, TooDeep}
use Rattle.smithy_json_values.specs.Deepest.{OpensTooDeep}
use Rattle.smithy_json_values.specs.LexicalGrammar.{LexicalGrammar}
use Rattle.smithy_json_values.specs.Openers.{json_openers}
use Rattle.smithy_json_values.specs.Private.Skipping.{SkipsTo}

-- what a call says that answers the end of the value at the place, inside so many containers, where no more than the greatest
-- number of them may be open
pub record FindsEnd (g : LexicalGrammar) (greatest depth : ℕ) (input : List ℕ) (at : ℕ) (result : Result ℕ SkipFault) : Type 0 where
  pub ok : IfOk result (λ e. SkipsTo g greatest depth input at e)
  pub ahead : IfOk result (λ e. (at < e) × (e ≤ length input))
  pub refused : OnErr result ((e : ℕ) → SkipsTo g greatest depth input at e → ⊥)
  -- nor does a value lie there whatever number may be open
  pub none_without_limits : IsErrOf result NoValue → (any e : ℕ) → SkipsTo g any depth input at e → ⊥
  pub deep : IsErrOf result TooDeep → greatest ≤ depth + json_openers (drop at input)
  pub too_deep : IsErrOf result TooDeep → OpensTooDeep g greatest depth input at
