use Rattle.std.proofs.Common.{◌≡◌, ◌+◌, ◌-◌, ◌≤◌, ◌<◌, drop, map, true, false}
use Rattle.std.specs.Simd.Lanes.{mask_l, chunk}
use Rattle.smithy_json_grammar.specs.Private.Chars.{ends_run}
use Rattle.smithy_json_tokens.specs.TokenRules.{text_length}
use Rattle.smithy_json_tokens.proofs.string_end.pass_block.Given as goal

-- the text goes on where the loop has come, with the mask of the bytes from there on
abbrev pub invariant-loop-rest : goal.invariant-loop-rest
invariant-loop-rest l = record {
  ordered : l.at ≤ l.end;
  inside : l.end < l.behind;
  behind_is : l.behind ≡ l.at + 16;
  same_text : l.at + text_length (drop l.at l.input) ≡ l.end + text_length (drop l.end l.input);
  mask : l.rest ≡ mask_l (map (ends_run true false) (chunk l.end (l.behind - l.end) l.input));
}

abbrev pub decreases-loop-rest : goal.decreases-loop-rest
decreases-loop-rest l = l.behind - l.end
