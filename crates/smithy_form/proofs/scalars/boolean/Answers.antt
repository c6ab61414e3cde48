use Rattle.std.proofs.Common.{true, false, sym, ◌∙◌}
use Rattle.smithy_declarations.specs.Value.{boolean}
use Rattle.smithy_form.proofs.ScalarAnswers.{true_told, false_told, no_boolean}
use Rattle.smithy_form.proofs.Views.{view_boolean}
use Rattle.smithy_form.proofs.scalars.boolean.Goals as goal

pub returns-then-eq : goal.returns-then-eq
returns-then-eq c = λ form. (boolean true, view_boolean true, true_told form c.args.text.now (sym c.eq.ensures ∙ c.if-eq.true))

pub returns-then-eq-2 : goal.returns-then-eq-2
returns-then-eq-2 c = λ form. (boolean false, view_boolean false, false_told form c.args.text.now (sym c.eq-2.ensures ∙ c.if-eq-2.true))

pub returns : goal.returns
returns c = no_boolean c.args.text.now (sym c.eq.ensures ∙ c.if-eq.false) (sym c.eq-2.ensures ∙ c.if-eq-2.false)
