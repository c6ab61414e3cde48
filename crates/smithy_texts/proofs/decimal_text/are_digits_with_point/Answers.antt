use Rattle.std.proofs.Common.{arith}
use Rattle.std.proofs.lemmas.Bool.Decides.{nat_tests}
use Rattle.std.specs.List.{before_first, after_first}
use Rattle.smithy_texts.specs.Decimal.{is_point}
use Rattle.smithy_texts.proofs.NumeralLemmas.{are_digits-append}
use Rattle.smithy_texts.proofs.decimal_text.are_digits_with_point.Goals as goal

pub returns-then-all_digits : goal.returns-then-all_digits
returns-then-all_digits c =
    let parts = are_digits-append (before_first is_point c.args.text.now) (after_first is_point c.args.text.now) in
    grind (arith, nat_tests)

pub returns-else-all_digits : goal.returns-else-all_digits
returns-else-all_digits c =
    let parts = are_digits-append (before_first is_point c.args.text.now) (after_first is_point c.args.text.now) in
    grind (arith, nat_tests)
