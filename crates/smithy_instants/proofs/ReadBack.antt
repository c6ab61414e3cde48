-- What is written of an instant is read as it, where the form holds it.
use Rattle.std.proofs.Common.{◌≡◌, true, false, List, [], ℕ, refl, sym, ap, ◌∙◌, ℤ, Some, Result, Ok, Err, IfOk}
use Rattle.smithy_instants.specs.Instant.{is_instant}
use Rattle.smithy_instants.specs.DateText.{date_of}
use Rattle.smithy_instants.specs.WrittenDate.{date_text, epoch_text, holds}
use Rattle.smithy_instants.specs.declared.format.Format.{Format}
use Rattle.smithy_instants.specs.declared.format.Format.TheVariants.{DateTime, DateTimeWithOffset, HttpDate, EpochSeconds}
use Rattle.smithy_instants.proofs.DateRoundTrip.{written_date_time_reads, text_or}
use Rattle.smithy_instants.proofs.HttpRoundTrip.{written_http_date_reads}
use Rattle.smithy_instants.proofs.EpochTextForm.{written_seconds_read}

pub written_reads : (format : Format) (n : ℤ) (text : List ℕ) → is_instant n ≡ true → holds format n ≡ true → date_text format n ≡ Some text → date_of format text ≡ Some n
written_reads DateTime n text instant held written = written_date_time_reads false refl n text held written
written_reads DateTimeWithOffset n text instant held written = written_date_time_reads true refl n text held written
written_reads HttpDate n text instant held written = written_http_date_reads n text held written
written_reads EpochSeconds n text instant held written =
    let same : epoch_text n ≡ text = ap (text_or []) written in
    ap (date_of EpochSeconds) (sym same) ∙ written_seconds_read n instant

-- the same of an answer with the written text
pub reads_if_ok : {A E : Type 0} (r : Result A E) (bytes : A → List ℕ) (format : Format) (n : ℤ) → is_instant n ≡ true → IfOk r (λ t. date_text format n ≡ Some (bytes t))
    → IfOk r (λ t. holds format n ≡ true → date_of format (bytes t) ≡ Some n)
reads_if_ok (Ok t) bytes format n instant written = λ held. written_reads format n (bytes t) instant held written
reads_if_ok (Err e) bytes format n instant written = tt
