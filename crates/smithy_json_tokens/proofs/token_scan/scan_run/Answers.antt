use Rattle.std.proofs.Common.{◌∙◌, ap, sym, subst, drop, arith}
use Rattle.smithy_json_tokens.specs.TokenRules.{at_run, failed}
use Rattle.smithy_json_tokens.specs.Private.Scans.{AreScanPlaces}
use Rattle.smithy_json_tokens.specs.TokenView.{left_from, IsPlace}
use Rattle.smithy_json_tokens.proofs.RunLemmas.{run_utf8, scan_number-run}
use Rattle.smithy_json_tokens.proofs.token_scan.scan_run.Goals as goal

pub run_token-requires : goal.run_token-requires
run_token-requires c = run_utf8 c.args.input.now c.args.at c.number_end-end.result c.requires.within c.number_end-end.ensures.value c.requires.begins

pub returns-in-Some : goal.returns-in-Some
returns-in-Some c =
    let input = c.args.input.now in
    let end = c.number_end-end.result in
    let run = scan_number-run input c.args.at end c.requires.within c.number_end-end.ensures.value in (
      c.at_boundary.ensures.0 ∙ ap (at_run (drop c.args.at input) (drop end input)) c.in-Some.ensures.token ∙ sym run,
      subst (λ at. AreScanPlaces input at c.at_boundary.result) c.in-Some.ensures.offset c.at_boundary.ensures.1,
    )

pub returns-in-None : goal.returns-in-None
returns-in-None c =
    let input = c.args.input.now in
    let end = c.number_end-end.result in
    let run = scan_number-run input c.args.at end c.requires.within c.number_end-end.ensures.value in (
      ap (λ e. failed e.kind (left_from input e.offset)) c.error_at.ensures ∙ ap (at_run (drop c.args.at input) (drop end input)) c.in-None.ensures.token ∙ sym run,
      subst (λ e. IsPlace input e.offset) (sym c.error_at.ensures) (omega (arith, c.requires.within)),
    )
