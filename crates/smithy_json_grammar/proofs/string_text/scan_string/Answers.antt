use Rattle.std.proofs.Common.{◌+◌, sym, ap, ◌∙◌, rules}
use Rattle.smithy_json_grammar.specs.Unescape.{has_escape}
use Rattle.smithy_json_grammar.proofs.AsciiRunLemmas.{same_run, run_utf8, no_escape_there, ascii_string_is}
use Rattle.smithy_json_grammar.proofs.string_text.scan_string.Goals as goal

pub from_utf8_unchecked-requires : goal.from_utf8_unchecked-requires
from_utf8_unchecked-requires c = run_utf8 c.args.input.now (c.args.at + 1) c.run_end-end.result c.run_end-end.ensures.value

pub returns-then-input-end-eq34 : goal.returns-then-input-end-eq34
returns-then-input-end-eq34 c =
    let end = c.run_end-end in
    record {
      found = ascii_string_is c.args.input.now c.args.at end.result end.ensures.value c.if-end-input.true c.if-input-at-ne34.false c.if-input-end-eq34.true;
      text = search rules;
      has_escape = sym (ap has_escape c.from_utf8_unchecked.ensures ∙ no_escape_there c.args.input.now (c.args.at + 1) end.result end.ensures.value c.if-end-input.true c.if-input-end-eq34.true);
      none = tt;
    }

pub scan_from-requires-clause-same_run : goal.scan_from-requires-clause-same_run
scan_from-requires-clause-same_run c = same_run c.args.input.now (c.args.at + 1) c.run_end-end.result c.run_end-end.ensures.value
