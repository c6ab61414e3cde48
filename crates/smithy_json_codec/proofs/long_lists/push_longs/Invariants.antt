use Rattle.std.proofs.Common.{◌≡◌, ◌++◌, drop}
use Rattle.smithy_shapes.specs.Site.{Site}
use Rattle.smithy_schema.specs.Written.{list_of_wholes}
use Rattle.smithy_json_values.specs.Settings.{Settings}
use Rattle.smithy_json_codec.specs.Canonical.{canonical_json}
use Rattle.smithy_json_codec.proofs.LongLists.{texts_left}
use Rattle.smithy_json_codec.proofs.long_lists.push_longs.Given as goal

-- what is written, with the rest of the text, is the whole text
abbrev pub invariant-loop-number : goal.invariant-loop-number
invariant-loop-number l = record {
  rest : (c : Settings) (site : Site) → l.fn.out.items ++ canonical_json c site (list_of_wholes l.numbers) ≡ l.out.items ++ texts_left c site l.needs_comma (drop l.number-index l.numbers);
}
