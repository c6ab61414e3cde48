use Rattle.std.proofs.Common.{◌==◌, slice_index, drop, to_z-of_z, ap, sym, ◌∙◌}
use Rattle.smithy_json_grammar.specs.Ascii.{minus_sign}
use Rattle.smithy_json_grammar.proofs.LongLemmas.{long_fits}
use Rattle.smithy_json_tokens.specs.Tokens.{value_number}
use Rattle.smithy_json_tokens.specs.TokenRules.{scanned}
use Rattle.smithy_json_tokens.proofs.LongScans.{held, long_some, long_scans}
use Rattle.smithy_json_tokens.proofs.token_scan.scan_number.Goals as goal

-- a whole number of 64 bits
pub returns-in-Some : goal.returns-in-Some
returns-in-Some c =
    let input = c.args.input.now in
    let end = c.in-Some.end in
    let is = c.in-Some.ensures.found in
    let with_minus = slice_index input c.args.at == minus_sign in
    let same = to_z-of_z (long_fits c.in-Some.value is.fits) in (
      ap (λ t. scanned t (drop end input)) (c.whole_token-token.ensures.token ∙ ap (λ n. value_number (held with_minus n)) same)
          ∙ sym (long_scans input c.args.at end c.in-Some.value is c.requires.within c.requires.begins),
      (c.whole_token-token.ensures.offset, long_some input c.args.at end c.in-Some.value is c.requires.within, is.number.within),
    )
