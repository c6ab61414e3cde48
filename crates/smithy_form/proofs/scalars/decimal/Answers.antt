use Rattle.std.proofs.Common.{◌≡◌, true, false, FitsSigned, IsTrue, w64, to_z, of_z, sym, ap, subst, ◌∙◌}
use Rattle.std.specs.Prelude.{bytes_eq}
use Rattle.std.specs.Int.{w128}
use Rattle.std.proofs.lemmas.Int.{to_z-of_z}
use Rattle.smithy_declarations.specs.Value.{decimal}
use Rattle.smithy_texts.specs.Decimal.{coefficient, mantissa, net_exponent, exponents_fit, decimal_text}
use Rattle.smithy_texts.specs.Numeral.{number}
use Rattle.smithy_form.proofs.ScalarAnswers.{not_true, not_false, no_mantissa, no_exponent, other_decimal, small_net, exponent_fits, decimal_told}
use Rattle.smithy_form.proofs.Views.{view_decimal}
use Rattle.smithy_form.proofs.scalars.decimal.Goals as goal

pub returns-in_default : goal.returns-in_default
returns-in_default c =
    λ form x is.
    no_mantissa c.args.text.now (subst (λ t. ¬ (FitsSigned w128 (number t))) (c.coefficient.ensures ∙ ap coefficient c.as_bytes.ensures.value) c.in_default.ensures) form x is

pub returns-in_default-net_exponent : goal.returns-in_default-net_exponent
returns-in_default-net_exponent c =
    λ form x is. no_exponent c.args.text.now (subst (λ t. ¬ (IsTrue (exponents_fit t))) c.as_bytes-2.ensures.value c.in_default-net_exponent.ensures) form x is

pub returns-then-ne : goal.returns-then-ne
returns-then-ne c =
    λ form x is.
    let t = c.args.text.now in
    let m = c.in-Some.mantissa in
    let e = c.in-Some-net_exponent.exponent in
    let m_is : m ≡ mantissa t = c.in-Some.ensures.1 ∙ ap number (c.coefficient.ensures ∙ ap coefficient c.as_bytes.ensures.value) in
    let e_is : e ≡ net_exponent t = c.in-Some-net_exponent.ensures.1 ∙ ap net_exponent c.as_bytes-2.ensures.value in
    let fit : exponents_fit t ≡ true = subst (λ u. exponents_fit u ≡ true) c.as_bytes-2.ensures.value c.in-Some-net_exponent.ensures.0 in
    let wide_m = subst (FitsSigned w128) (sym c.in-Some.ensures.1) c.in-Some.ensures.0 in
    let wide_e = exponent_fits e (small_net t e fit e_is) in
    let shown : c.as_ref-2.result.now ≡ decimal_text m e =
    c.as_ref-2.ensures.text ∙ c.in_ok-from_parts.ensures.text ∙ ap (λ z. decimal_text z (to_z w64 (of_z w64 e))) (to_z-of_z w128 m wide_m)
    ∙ ap (decimal_text m) (to_z-of_z w64 e wide_e) in
    let other : bytes_eq (decimal_text m e) t ≡ false = ap (λ s. bytes_eq s t) (sym shown) ∙ not_true (bytes_eq c.as_ref-2.result.now t) (sym c.ne.ensures ∙ c.if-ne.true) in
    other_decimal t m e m_is e_is other form x is

pub returns : goal.returns
returns c =
    λ form.
    let t = c.args.text.now in
    let m = c.in-Some.mantissa in
    let e = c.in-Some-net_exponent.exponent in
    let e_is : e ≡ net_exponent t = c.in-Some-net_exponent.ensures.1 ∙ ap net_exponent c.as_bytes-2.ensures.value in
    let fit : exponents_fit t ≡ true = subst (λ u. exponents_fit u ≡ true) c.as_bytes-2.ensures.value c.in-Some-net_exponent.ensures.0 in
    let wide_m = subst (FitsSigned w128) (sym c.in-Some.ensures.1) c.in-Some.ensures.0 in
    let small_e = small_net t e fit e_is in
    let wide_e = exponent_fits e small_e in
    let shown : c.as_ref-2.result.now ≡ decimal_text m e =
    c.as_ref-2.ensures.text ∙ c.in_ok-from_parts.ensures.text ∙ ap (λ z. decimal_text z (to_z w64 (of_z w64 e))) (to_z-of_z w128 m wide_m)
    ∙ ap (decimal_text m) (to_z-of_z w64 e wide_e) in
    let same : bytes_eq (decimal_text m e) t ≡ true = ap (λ s. bytes_eq s t) (sym shown) ∙ not_false (bytes_eq c.as_ref-2.result.now t) (sym c.ne.ensures ∙ c.if-ne.false) in
    rw (to_z-of_z w128 m wide_m, to_z-of_z w64 e wide_e) (decimal m e, view_decimal m e, decimal_told form t m e wide_m small_e same)
