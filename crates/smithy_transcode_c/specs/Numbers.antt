-- The numbers of what the libraries answer, which are those that the program ends with, and those of findings.
use Rattle.std.specs.Prelude.{ℕ}
use Rattle.smithy_transcode.specs.Numbers.{error_number}
use Rattle.smithy_transcode.specs.declared.wire.TranscodeError.{TranscodeError}
use Rattle.smithy_transcode.specs.declared.wire.TranscodeError.TheVariants as errors
use Rattle.smithy_compare.specs.declared.comparing.CompareError.{CompareError}
use Rattle.smithy_compare.specs.declared.comparing.CompareError.TheVariants as bodies
use Rattle.smithy_lint.specs.declared.finding.Kind.{Kind}
use Rattle.smithy_lint.specs.declared.finding.Kind.TheVariants as kinds
use Rattle.smithy_lint.specs.declared.linting.LintError.{LintError}
use Rattle.smithy_lint.specs.declared.linting.LintError.TheVariants as lints
use Rattle.smithy_form.specs.declared.error.FormError.{FormError}
use Rattle.smithy_form.specs.declared.error.FormError.TheVariants as forms

-- where the second of two bodies is refused
abbrev pub second_number : TranscodeError → ℕ
second_number errors.InvalidInput = 41
second_number errors.TooDeep = 42
second_number errors.TooWide = 43
second_number errors.NotCarried = 44
second_number error = error_number error

-- where two bodies aren't compared
abbrev pub compare_number : CompareError → ℕ
compare_number (bodies.First error) = error_number error
compare_number (bodies.Second error) = second_number error
compare_number bodies.NoMemory = 8

-- where nothing was looked for
abbrev pub lint_number : LintError → ℕ
lint_number lints.NoMemory = 8
lint_number lints.NotWellFormed = 61
lint_number lints.TooNested = 62

-- where no value was read
abbrev pub form_number : FormError → ℕ
form_number forms.NoMemory = 8
form_number (forms.BadPair n) = 70
form_number forms.NotForm = 71
form_number (forms.Repeated n) = 72
form_number forms.NoValue = 73

-- the pair that is refused, counted from 1, or 0
abbrev pub pair_number : FormError → ℕ
pair_number (forms.BadPair n) = n
pair_number (forms.Repeated n) = n
pair_number error = 0

-- what was found
abbrev pub kind_number : Kind → ℕ
kind_number kinds.Unknown = 1
kind_number kinds.Mismatch = 2
kind_number kinds.Wide = 3
kind_number kinds.NotCarried = 4
kind_number kinds.Deep = 5
kind_number kinds.Key = 6
kind_number kinds.Union = 7
kind_number kinds.Null = 8
