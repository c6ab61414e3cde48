use Rattle.std.proofs.Common.{◌≡◌, false, FitsSigned, sym, ap, subst, ◌∙◌}
use Rattle.std.specs.Prelude.{bytes_eq}
use Rattle.std.specs.Fmt.{signed_decimal}
use Rattle.std.specs.Int.{w128}
use Rattle.std.proofs.lemmas.Int.{to_z-of_z}
use Rattle.smithy_texts.specs.Numeral.{number}
use Rattle.smithy_form.proofs.ScalarAnswers.{too_wide, other_text}
use Rattle.smithy_form.proofs.scalars.written_number.Goals as goal

pub returns-in_err-found : goal.returns-in_err-found
returns-in_err-found c =
    rw c.from_residual.ensures
    (too_wide c.args.text.now (subst (λ t. ¬ (FitsSigned w128 (number t))) c.as_bytes.ensures.value c.in_err-found.ensures))

pub returns-else-eq : goal.returns-else-eq
returns-else-eq c =
    let found = c.in_ok-found.found in
    let is = c.in_ok-found.ensures.1 in
    let fits = subst (FitsSigned w128) (sym is) c.in_ok-found.ensures.0 in
    let shown : c.format.result.now ≡ signed_decimal found = c.format.ensures.text ∙ ap signed_decimal (to_z-of_z w128 found fits) in
    let other : bytes_eq (signed_decimal found) c.args.text.now ≡ false = ap (λ s. bytes_eq s c.args.text.now) (sym shown) ∙ sym c.eq.ensures ∙ c.if-eq.false in
    other_text c.args.text.now found (is ∙ ap number c.as_bytes.ensures.value) other
