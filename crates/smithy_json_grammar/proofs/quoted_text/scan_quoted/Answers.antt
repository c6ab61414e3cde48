use Rattle.std.proofs.Common.{sym}
use Rattle.smithy_json_grammar.proofs.QuotedPlaceLemmas.{quoted_is_at, quoted_closing_is}
use Rattle.smithy_json_grammar.proofs.quoted_text.scan_quoted.Goals as goal

pub returns-in_err-closing-clause-none : goal.returns-in_err-closing-clause-none
returns-in_err-closing-clause-none c =
    rw c.from_residual.ensures (λ closing is.
    let found = quoted_closing_is c.args.input.now c.args.at closing is in
    let none = c.in_err-closing.ensures.value in cc)

pub returns-clause-found : goal.returns-clause-found
returns-clause-found c =
    let closing = c.in_ok-closing.ensures in
    quoted_is_at c.args.input.now c.args.at c.in_ok-closing.closing c.if-input-at-ne34.false closing.within.0 closing.within.1 (sym closing.value)
