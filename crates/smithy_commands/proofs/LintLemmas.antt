-- What the command `lint` says, by what `lint` of the library says.
use Rattle.std.proofs.Common.{◌≡◌, ◌⊎◌, inl, inr, ℕ, List, [], ◌∷◌, map as mapped, true, Ok, Err, refl, sym, subst}
use Rattle.std.specs.declared.vec.Vec.{Vec}
use Rattle.std.specs.declared.alloc.Global.{Global}
use Rattle.smithy_declarations.specs.Table.{Table}
use Rattle.smithy_lint.specs.declared.finding.Finding.{Finding}
use Rattle.smithy_lint.specs.declared.linting.LintError.{LintError}
use Rattle.smithy_lint.specs.declared.linting.LintError.TheVariants as errors
use Rattle.smithy_lint.specs.Findings.{Found}
use Rattle.smithy_lint.specs.Lint.{IsEmptyBody, IsTextWithin, Lints}
use Rattle.smithy_lint.specs.View.{found_of}
use Rattle.smithy_commands.specs.declared.status.Status.{Status}
use Rattle.smithy_commands.specs.declared.status.Status.TheVariants.{Done, OutOfMemory, FindingsTold, NotWellFormed, TooNested}
use Rattle.smithy_commands.specs.Status.{tells_output}
use Rattle.smithy_commands.specs.OneInput.{EndsByInput, InputAnswer}
use Rattle.smithy_commands.specs.Lint.{Lint, finding_lines, status_of_found, status_of_lint_error, GivesFindings, RefusesBody, answers_of, LintAnswer}
use Rattle.smithy_outside.specs.Outside.{Environment}

module _ (c : Lint) (table : Table) (root : ℕ) (input : List ℕ) where
  -- why nothing was looked for
  pub body_refused : (error : LintError) → Lints table root c.wire input (Err error) → RefusesBody c table root input (status_of_lint_error error)
  body_refused errors.NotWellFormed told =
      ((λ empty. let e : errors.NotWellFormed ≡ errors.NoMemory = told.whole (inl empty) in cc), told.not_well_formed refl)
  body_refused errors.TooNested told =
      let why = told.too_nested refl in
      ((λ empty. let e : errors.TooNested ≡ errors.NoMemory = told.whole (inl empty) in cc), why.0, why.1)
  body_refused errors.NoMemory told = tt

  -- what was found
  pub findings_given : (l : Vec Finding Global) (status : Status) (bytes : List ℕ) → Lints table root c.wire input (Ok l) → status ≡ status_of_found (mapped found_of l.items)
      → bytes ≡ finding_lines table root (mapped found_of l.items) → GivesFindings c table root input status bytes
  findings_given l status bytes told is lines = (mapped found_of l.items, told.found, is, lines, told.clean)

  pub found_tells : (found : List Found) → tells_output (status_of_found found) ≡ true
  found_tells [] = refl
  found_tells (f ∷ more) = refl

  status_of_answer : (found : List Found) → (status_of_found found ≡ Done) ⊎ (status_of_found found ≡ FindingsTold)
  status_of_answer [] = inl refl
  status_of_answer (f ∷ more) = inr refl

  only_memory : IsEmptyBody c.wire input ⊎ IsTextWithin c.wire 512 input → (status : Status) → RefusesBody c table root input status → status ≡ OutOfMemory
  only_memory (inl empty) NotWellFormed why = absurd (why.0 empty)
  only_memory (inr text) NotWellFormed why = absurd (why.1 512 text)
  only_memory (inl empty) TooNested why = absurd (why.0 empty)
  only_memory (inr text) TooNested why = absurd (why.1 text)
  only_memory text OutOfMemory why = refl
  only_memory text _ why = absurd why

  told_of : IsEmptyBody c.wire input ⊎ IsTextWithin c.wire 512 input → (status : Status) → EndsByInput (answers_of c) table root input status
      → (status ≡ Done) ⊎ ((status ≡ FindingsTold) ⊎ (status ≡ OutOfMemory))
  told_of text status (inl given) =
      subst (λ (s : Status). (s ≡ Done) ⊎ ((s ≡ FindingsTold) ⊎ (s ≡ OutOfMemory))) (sym given.1.2) (either (status_of_answer given.1.0)) where
        either : (status_of_found given.1.0 ≡ Done) ⊎ (status_of_found given.1.0 ≡ FindingsTold)
            → (status_of_found given.1.0 ≡ Done) ⊎ ((status_of_found given.1.0 ≡ FindingsTold) ⊎ (status_of_found given.1.0 ≡ OutOfMemory))
        either (inl done) = inl done
        either (inr told) = inr (inl told)
  told_of text status (inr (inl why)) = inr (inr (only_memory text status why))
  told_of text status (inr (inr memory)) = inr (inr memory)

pub lint_answer : (c : Lint) (old new : Environment) (status : Status) → InputAnswer (answers_of c) old new status → LintAnswer c old new status
lint_answer c old new status answers = record {
  answers = answers;
  told = λ text input table root o is. told_of c table root input is status (answers.complete text input table root o);
}
