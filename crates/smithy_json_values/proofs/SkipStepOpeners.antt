-- How many brackets are open on the walk through a value that is skipped, step by step.
use Rattle.std.proofs.Common.{◌≡◌, ◌+◌, ◌-◌, ◌<◌, ◌≤◌, ℕ, List, drop, Bool, true, false, subst}
use Rattle.smithy_schema.specs.Reading.{Cursor, depth, ReachesDepth}
use Rattle.smithy_json_values.specs.Settings.{Settings}
use Rattle.smithy_json_values.specs.Scalar.{JsonScalar}
use Rattle.smithy_json_values.specs.Standing.{Lies, IsByte, json_relations}
use Rattle.smithy_json_values.specs.LexicalGrammar.{LexicalGrammar}
use Rattle.smithy_json_values.specs.Openers.{json_openers}
use Rattle.smithy_json_values.specs.Private.NextInContainer.{ClosesIn}
use Rattle.smithy_json_values.specs.Private.Skipping.{ScalarLies, opening, closing, ValueBegins}
use Rattle.smithy_json_values.proofs.OpenersLemmas.{OpensInAll, past_begin_array, past_begin_object, past_node, past_separator, past_name_token, past_end_array, past_end_object}

module _ (i : List ℕ) (start count here next : ℕ) (h : OpensInAll i start count here) where
  pub opens_past_scalar : (g : LexicalGrammar) (test : JsonScalar → Bool) → ScalarLies g test i here next → OpensInAll i start count next
  opens_past_scalar g test scalar = past_node i start count here next h g test 1 scalar.node scalar.lies

  pub opens_into_container : (k : Bool) → Lies (IsByte (opening k)) i here next → OpensInAll i start (count + 1) next
  opens_into_container true lies = past_begin_object i start count here next h lies
  opens_into_container false lies = past_begin_array i start count here next h lies

  pub opens_to_value : (test : JsonScalar → Bool) (k entered : Bool) → ValueBegins test i here k entered next → OpensInAll i start count next
  opens_to_value test true entered begins = past_name_token i start count here next h entered begins.0 begins.1
  opens_to_value test false entered begins = past_separator i start count here next h entered begins.0

  pub opens_out_of_container : (g : LexicalGrammar) (k : Bool) (d : ℕ) → 0 < count → ClosesIn g (closing k) i here d next → OpensInAll i start (count - 1) next
  opens_out_of_container g true d some closes = past_end_object i start count here next h some closes.0
  opens_out_of_container g false d some closes = past_end_array i start count here next h some closes.0

-- a depth that the bytes reach inside so many containers as the reader has open
pub reader_reaches : (o : Settings) (c : Cursor) (held max : ℕ) → held ≡ depth c → max ≤ held + json_openers (drop c.at c.input)
    → ReachesDepth (json_relations o) max c
reader_reaches o c held max same deep = subst (λ n. max ≤ n + json_openers (drop c.at c.input)) same deep
