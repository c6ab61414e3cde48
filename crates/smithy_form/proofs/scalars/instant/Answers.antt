use Rattle.std.proofs.Common.{◌≡◌, true, false, Some, None, string_bytes, sym, ap, ◌∙◌}
use Rattle.std.specs.Prelude.{bytes_eq}
use Rattle.smithy_instants.specs.WrittenDate.{date_text, holds}
use Rattle.smithy_instants.specs.DateText.{date_of}
use Rattle.smithy_declarations.specs.TimeForms.{format_of, form_holds}
use Rattle.smithy_declarations.specs.Value.{instant}
use Rattle.smithy_form.proofs.ScalarAnswers.{no_date, not_held, other_date, never_unwritten, date_told}
use Rattle.smithy_form.proofs.Views.{view_instant}
use Rattle.smithy_form.proofs.scalars.instant.Goals as goal

pub returns-in_default : goal.returns-in_default
returns-in_default c =
    λ x is. no_date c.args.form c.args.text.now (ap (λ f. date_of f c.args.text.now) (sym c.format-format.ensures) ∙ sym c.in_default.ensures) x is

pub returns-then-not-holds : goal.returns-then-not-holds
returns-then-not-holds c =
    λ x is.
    let t = c.args.text.now in
    let n = c.in-Ok.instant in
    let found : date_of (format_of c.args.form) t ≡ Some n = ap (λ f. date_of f t) (sym c.format-format.ensures) ∙ sym c.in-Ok.ensures in
    let lost : form_holds c.args.form (instant n) ≡ false = ap (λ f. holds f n) (sym c.format-format.ensures) ∙ sym c.holds.ensures ∙ c.if-not-holds.true in
    not_held c.args.form t n found lost x is

pub returns-then-eq : goal.returns-then-eq
returns-then-eq c =
    let t = c.args.text.now in
    let n = c.in-Ok.instant in
    let written = string_bytes c.in-Ok-fmt.written in
    let found : date_of (format_of c.args.form) t ≡ Some n = ap (λ f. date_of f t) (sym c.format-format.ensures) ∙ sym c.in-Ok.ensures in
    let held : form_holds c.args.form (instant n) ≡ true = ap (λ f. holds f n) (sym c.format-format.ensures) ∙ sym c.holds.ensures ∙ c.if-not-holds.false in
    let writes : date_text (format_of c.args.form) n ≡ Some written = ap (λ f. date_text f n) (sym c.format-format.ensures) ∙ c.in-Ok-fmt.ensures.writes.ok in
    let same : bytes_eq written t ≡ true = ap (λ s. bytes_eq s t) (sym c.as_str.ensures.value) ∙ sym c.eq.ensures ∙ c.if-eq.true in
    (instant n, view_instant n, date_told c.args.form t written n found held writes same)

pub returns-in-Ok-fmt : goal.returns-in-Ok-fmt
returns-in-Ok-fmt c =
    λ x is.
    let t = c.args.text.now in
    let n = c.in-Ok.instant in
    let written = string_bytes c.in-Ok-fmt.written in
    let found : date_of (format_of c.args.form) t ≡ Some n = ap (λ f. date_of f t) (sym c.format-format.ensures) ∙ sym c.in-Ok.ensures in
    let writes : date_text (format_of c.args.form) n ≡ Some written = ap (λ f. date_text f n) (sym c.format-format.ensures) ∙ c.in-Ok-fmt.ensures.writes.ok in
    let other : bytes_eq written t ≡ false = ap (λ s. bytes_eq s t) (sym c.as_str.ensures.value) ∙ sym c.eq.ensures ∙ c.if-eq.false in
    other_date c.args.form t written n found writes other x is

pub returns-in-Err-OutOfRange : goal.returns-in-Err-OutOfRange
returns-in-Err-OutOfRange c =
    λ x is.
    let n = c.in-Ok.instant in
    let held : form_holds c.args.form (instant n) ≡ true = ap (λ f. holds f n) (sym c.format-format.ensures) ∙ sym c.holds.ensures ∙ c.if-not-holds.false in
    let none : date_text (format_of c.args.form) n ≡ None = ap (λ f. date_text f n) (sym c.format-format.ensures) ∙ c.in-Err-OutOfRange.ensures.writes.err c.in-Err-OutOfRange.field-0-is in
    absurd (never_unwritten c.args.form n held none)
