use Rattle.std.proofs.Common.{ap, ◌∙◌}
use Rattle.std.specs.Prelude.{is_some}
use Rattle.std.proofs.lemmas.Int.{to_z-of_z}
use Rattle.std.specs.Int.{w128}
use Rattle.std.specs.Fmt.{signed_decimal}
use Rattle.smithy_texts.proofs.WrittenNumerals.{integer_form_of_written, small_wide}
use Rattle.smithy_texts.proofs.big_integer.BigInteger.from_i128.Goals as goal

pub returns-in_err-text-clause-form : goal.returns-in_err-text-clause-form
returns-in_err-text-clause-form c = integer_form_of_written c.args.value (small_wide c.args.value c.ranges.value)

pub invariant_of-result : goal.invariant_of-result
invariant_of-result c = rw (c.in_ok-text.ensures.ok ∙ c.format.ensures.text ∙ ap signed_decimal (to_z-of_z w128 c.args.value c.ranges.value)) (ap is_some (integer_form_of_written c.args.value (small_wide c.args.value c.ranges.value)))

pub returns-clause-form : goal.returns-clause-form
returns-clause-form c = integer_form_of_written c.args.value (small_wide c.args.value c.ranges.value)
