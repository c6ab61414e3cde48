use Rattle.std.proofs.Common.{length, ◌∙◌, refl, sym, ap, subst, arith}
use Rattle.std.proofs.lemmas.Grind.{common_steps}
use Rattle.smithy_json_grammar.specs.Grammar.{IsNumber}
use Rattle.smithy_json_tokens.proofs.EpochNumbers.{whole_stands, whole_ends}
use Rattle.smithy_json_tokens.proofs.expect_text.epoch_instant.Goals as goal

-- a number of the grammar would stand there
pub returns-in_err-number : goal.returns-in_err-number
returns-in_err-number c =
    let same = c.as_bytes.ensures.value in (
      λ is. absurd (c.in_err-number.ensures.none _ (whole_stands c.as_bytes.result.now (subst IsNumber (sym same) is))),
      λ no. c.from_residual.ensures,
    )

-- and end at the end
pub returns-then-number-text : goal.returns-then-number-text
returns-then-number-text c =
    let same = c.as_bytes.ensures.value in (
      λ is. absurd (c.if-number-text.true (whole_ends c.as_bytes.result.now c.in_ok-number.number.end (subst IsNumber (sym same) is) c.in_ok-number.ensures.found ∙ ap length same)),
      λ no. refl,
    )

pub returns-in-Ok : goal.returns-in-Ok
returns-in-Ok c = grind (arith, common_steps)
