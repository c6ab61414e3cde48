-- What calls say of their answers that read or write an instant.
use Rattle.std.specs.Prelude.{◌≡◌, ℕ, ℤ, List, true, false, String, string_bytes, Option, Some, None, is_some, Result, IfOk, IfErr}
use Rattle.std.specs.declared.alloc.Global.{Global}
use Rattle.smithy_instants.specs.Instant.{is_instant}
use Rattle.smithy_instants.specs.Epoch.{epoch_nanos}
use Rattle.smithy_instants.specs.declared.epoch.EpochError.{EpochError}
use Rattle.smithy_instants.specs.declared.epoch.EpochError.TheVariants as epoch
use Rattle.smithy_instants.specs.declared.written_date.DateTimeFormatError.{DateTimeFormatError}
use Rattle.smithy_instants.specs.declared.written_date.DateTimeFormatError.TheVariants.{OutOfRange, NoMemory}

-- It reads a decimal text in seconds.
pub record ReadsEpoch (text : List ℕ) (result : Result ℤ EpochError) : Type 0 where
  pub ok : IfOk result (λ d. epoch_nanos text ≡ Some d)
  pub instant : IfOk result (λ d. is_instant d ≡ true)
  pub whole : IfErr result (λ e. e ≡ epoch.NotWhole → epoch_nanos text ≡ None)
  pub range : IfErr result (λ e. e ≡ epoch.OutOfRange → (n : ℤ) × (epoch_nanos text ≡ Some n) × (is_instant n ≡ false))

-- It gives the text of an instant, where there is one. An instant without a text takes no memory.
pub record WritesText (written : Option (List ℕ)) (result : Result (String Global) DateTimeFormatError) : Type 0 where
  pub ok : IfOk result (λ t. written ≡ Some (string_bytes t))
  pub err : IfErr result (λ e. e ≡ OutOfRange → written ≡ None)
  pub memory : IfErr result (λ e. e ≡ NoMemory → is_some written ≡ true)
