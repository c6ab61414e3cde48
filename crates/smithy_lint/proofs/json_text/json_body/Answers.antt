use Rattle.std.proofs.Common.{Err, ap, ◌∙◌, sym, subst, arith}
use Rattle.smithy_json_values.specs.Codec.{held_grammar}
use Rattle.smithy_json_values.specs.LexicalGrammar.{LexicalGrammar, grammar_of}
use Rattle.smithy_json_values.specs.Meaning.{node_of, rules_of}
use Rattle.smithy_lint.proofs.JsonNodes.{wire_is_standard}
use Rattle.smithy_lint.specs.Private.JsonPlaces.{ValueLies}
use Rattle.smithy_lint.proofs.JsonTexts.{refuses_no_value, refuses_more, refuses_nested, holds_tree}
use Rattle.smithy_lint.proofs.json_text.json_body.Goals as goal

pub returns-then-skip_blanks-bytes-clause-refused :
    goal.returns-then-skip_blanks-bytes-clause-refused
returns-then-skip_blanks-bytes-clause-refused c =
    let l = held_grammar c.nested-nested.result in
    let settings = ap grammar_of c.wire_settings-settings.ensures ∙ wire_is_standard c.args.use_json_name c.args.integral in
    let same = ap grammar_of c.nested-nested.ensures ∙ settings in
    let is = ap (λ s. s.max_depth) c.nested-nested.ensures in
    let i = c.args.bytes.now in
    refuses_more l c.nested-nested.result.max_depth same is c.args.use_json_name c.args.integral i c.in-Ok.end c.skip_blanks.result c.in-Ok.ensures.ok c.skip_blanks.ensures c.if-skip_blanks-bytes.true

pub returns-else-skip_blanks-bytes-clause-ok : goal.returns-else-skip_blanks-bytes-clause-ok
returns-else-skip_blanks-bytes-clause-ok c =
    let l = held_grammar c.nested-nested.result in
    let settings = ap grammar_of c.wire_settings-settings.ensures ∙ wire_is_standard c.args.use_json_name c.args.integral in
    let same = ap grammar_of c.nested-nested.ensures ∙ settings in
    let is = ap (λ s. s.max_depth) c.nested-nested.ensures in
    let i = c.args.bytes.now in
    let held = holds_tree l c.nested-nested.result.max_depth same is c.args.use_json_name c.args.integral i c.in-Ok.end c.skip_blanks.result c.in-Ok.ensures.ok c.skip_blanks.ensures (λ short. omega (arith, short, c.if-skip_blanks-bytes.false)) in
    record {
      tree = held.0;
      end = c.in-Ok.end;
      text = held.1;
      nests = held.2;
      lies = subst (λ (g : LexicalGrammar). ValueLies g i 0 (node_of held.0) 0 c.in-Ok.end) (sym settings) held.3;
      rules = ap rules_of c.wire_settings-settings.ensures;
    }

pub returns-in-Err-NoValue-clause-refused : goal.returns-in-Err-NoValue-clause-refused
returns-in-Err-NoValue-clause-refused c =
    let l = held_grammar c.nested-nested.result in
    let settings = ap grammar_of c.wire_settings-settings.ensures ∙ wire_is_standard c.args.use_json_name c.args.integral in
    let same = ap grammar_of c.nested-nested.ensures ∙ settings in
    let is = ap (λ s. s.max_depth) c.nested-nested.ensures in
    let i = c.args.bytes.now in
    refuses_no_value l c.nested-nested.result.max_depth same is c.args.use_json_name c.args.integral i (c.skipped_end.ensures.none_without_limits (c.in-Err-NoValue.is ∙ ap Err c.in-Err-NoValue.field-0-is))

pub returns-in-Err-TooDeep-clause-refused : goal.returns-in-Err-TooDeep-clause-refused
returns-in-Err-TooDeep-clause-refused c =
    let l = held_grammar c.nested-nested.result in
    let settings = ap grammar_of c.wire_settings-settings.ensures ∙ wire_is_standard c.args.use_json_name c.args.integral in
    let same = ap grammar_of c.nested-nested.ensures ∙ settings in
    let is = ap (λ s. s.max_depth) c.nested-nested.ensures in
    let i = c.args.bytes.now in
    refuses_nested l c.nested-nested.result.max_depth same is c.args.use_json_name c.args.integral i (rw c.in-Err-TooDeep.is at c.skipped_end.ensures.refused) (c.skipped_end.ensures.too_deep (c.in-Err-TooDeep.is ∙ ap Err c.in-Err-TooDeep.field-0-is))
