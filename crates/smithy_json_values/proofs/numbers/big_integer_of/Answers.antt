use Rattle.std.proofs.Common.{ap, subst, ◌≡◌}
use Rattle.smithy_texts.specs.Numeral.{number}
use Rattle.smithy_declarations.specs.declared.shape_type.Scalar.TheVariants as scalars
use Rattle.smithy_declarations.specs.Value.{whole, scalar_value}
use Rattle.smithy_wire.specs.Rules.{means, wide}
use Rattle.smithy_wire.specs.BigNumbers.{big_integer}
use Rattle.smithy_json_values.specs.Scalar.{big_number}
use Rattle.smithy_json_values.proofs.NumberTexts.{integer_means, integer_exceeds}
use Rattle.smithy_json_values.proofs.numbers.big_integer_of.Goals as goal

pub returns-in-Ok-to_i128-clause-answer : goal.returns-in-Ok-to_i128-clause-answer
returns-in-Ok-to_i128-clause-answer c = subst (λ t. big_number scalars.BigInteger t ≡ means (scalar_value (whole (number c.in-Ok.number)))) c.in-Ok.ensures.ok
    (integer_means c.in-Ok.number (number c.in-Ok.number) c.in-Ok-to_i128.ensures.form c.in-Ok-to_i128.ensures.value.0)

pub returns-in-Err-to_i128-clause-answer : goal.returns-in-Err-to_i128-clause-answer
returns-in-Err-to_i128-clause-answer c =
    subst (λ t. big_number scalars.BigInteger t ≡ wide) c.in-Ok.ensures.ok
    (integer_exceeds c.in-Ok.number (number c.in-Ok.number) c.in-Err-to_i128.ensures.form c.in-Err-to_i128.ensures.value)

pub returns-in-Err-InvalidFormat-clause-answer : goal.returns-in-Err-InvalidFormat-clause-answer
returns-in-Err-InvalidFormat-clause-answer c = ap big_integer (c.in-Err-InvalidFormat.ensures.err c.in-Err-InvalidFormat.field-0-is)
