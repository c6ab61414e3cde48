use Rattle.std.proofs.Common.{◌≡◌, Some, None, Result, Ok, Err, IfErr, List, ℕ, ℤ, ap, ◌∙◌}
use Rattle.smithy_instants.specs.DateText.{date_of}
use Rattle.smithy_instants.specs.DateFront.{ReadsFront}
use Rattle.smithy_instants.proofs.date_time.DateTime.read.Goals as goal

-- what holds whatever the error is
any_error : {A E : Type 0} (r : Result A E) (Q : Type 0) → Q → IfErr r (λ e. Q)
any_error (Ok a) Q q = tt
any_error (Err e) Q q = q

pub returns-in_default-clause-err : goal.returns-in_default-clause-err
returns-in_default-clause-err c = λ d rest has. c.in_default.ensures.only has.0 rest d has.1

pub returns-in_err-from_str-clause-err : goal.returns-in_err-from_str-clause-err
returns-in_err-from_str-clause-err c =
    let nothing : (d : ℤ) (rest : List ℕ) → ¬ (ReadsFront c.args.format c.args.delim c.args.s.now d rest) = λ d rest has.
    let same = c.in-Some.ensures.only has.0 rest d has.1 in
    let clash : None ≡ Some d = c.in_err-from_str.ensures ∙ ap (date_of c.args.format) same.0 ∙ has.1.means in absurd (cc)
    in
    any_error _ _ nothing
