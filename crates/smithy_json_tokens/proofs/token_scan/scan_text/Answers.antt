use Rattle.std.proofs.Common.{◌∙◌, ◌+◌, arith, sym, ap, drop}
use Rattle.smithy_json_tokens.specs.TokenRules.{scanned, failed}
use Rattle.smithy_json_tokens.specs.TokenView.{left_from}
use Rattle.smithy_json_tokens.proofs.ScanLemmas.{scan_string-closes, scan_string-ill_formed}
use Rattle.smithy_json_tokens.proofs.token_scan.scan_text.Goals as goal

pub returns-in-Ok-clause-value : goal.returns-in-Ok-clause-value
returns-in-Ok-clause-value c = λ t.
    ap (λ s. scanned (t s) (drop (c.text_end-end.result + 1) c.args.input.now)) c.in-Ok.ensures.cases.0
    ∙ sym (scan_string-closes t c.args.input.now c.args.at c.text_end-end.result c.text_end-end.ensures.value (omega (arith, c.text_end-end.ensures.within, c.if-end-input.false)) c.if-input-end-ne34.false c.in-Ok.ensures.cases.1)

pub returns-in-Err-clause-value : goal.returns-in-Err-clause-value
returns-in-Err-clause-value c = λ t.
    ap (λ e. failed e.kind (left_from c.args.input.now e.offset)) c.error_at-in-Err.ensures
    ∙ sym (scan_string-ill_formed t c.args.input.now c.args.at c.text_end-end.result c.text_end-end.ensures.value (omega (arith, c.text_end-end.ensures.within, c.if-end-input.false)) c.if-input-end-ne34.false c.in-Err.ensures.cases.0)
