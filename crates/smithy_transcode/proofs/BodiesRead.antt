-- What is answered for a whole body, by what a reader says of it.
use Rattle.std.proofs.Common.{◌≡◌, ℕ, List, Result, Ok, Err, IsErrOf, refl, ◌∙◌, ap}
use Rattle.smithy_schema.specs.declared.error.SerdeError.{SerdeError}
use Rattle.smithy_schema.specs.declared.error.SerdeError.TheVariants as serde
use Rattle.smithy_schema.specs.Errors.{IsFault, IsRefused, IsInvalid, FindsNone}
use Rattle.smithy_declarations.specs.Table.{Table}
use Rattle.smithy_declarations.specs.Value.{Value}
use Rattle.smithy_transcode.specs.declared.wire.TranscodeError.{TranscodeError}
use Rattle.smithy_transcode.specs.Wires.{Wire}
use Rattle.smithy_transcode.specs.Spelling.{Spells}
use Rattle.smithy_transcode.specs.Causes.{IsTooDeep, IsWide, IsUncarried}
use Rattle.smithy_transcode.specs.ReadBody.{ReadsBody}
use Rattle.smithy_transcode.specs.Refusal.{IsToldAs}
use Rattle.smithy_transcode.specs.Transcoding.{SpellNothing, SpellNothingWithoutLimits}
use Rattle.smithy_transcode.proofs.Counting.{nodes_are_bounded}
use Rattle.smithy_transcode.proofs.Transcodings.{one_value, spelled_is_small}

pub body_read : {T : Type 0} (view : T → Value) (t : Table) (root : ℕ) (from : Wire) (i : List ℕ) (x : T) → Spells from t root i (view x) → ReadsBody view t root from i (Ok x)
body_read view t root from i x spelled = record {
  ok = spelled;
  fits = (spelled_is_small from t root i (view x) spelled).0;
  spelled = λ v h. one_value from t root i (view x) v spelled h;
  refused = tt;
  nodes_are_bounded = nodes_are_bounded from t root i;
  one_value = one_value from t root i;
}

told : {T : Type 0} (view : T → Value) (t : Table) (root : ℕ) (from : Wire) (i : List ℕ) (e : SerdeError) (refusal : TranscodeError) → IsToldAs e refusal
    → (IsFault e → SpellNothing from t root i) → (FindsNone e → SpellNothingWithoutLimits from t root i) → (e ≡ serde.TooDeep → IsTooDeep from t root i) → (e ≡ serde.TooWide → IsWide from t i) → (e ≡ serde.NotCarried → IsUncarried from t i)
    → ReadsBody view t root from i (Err refusal)
told view t root from i serde.InvalidInput refusal tells nothing free deep wide uncarried =
    rw tells (record { ok = tt; fits = tt; spelled = λ v h. absurd (nothing tt v h); refused = λ other. (nothing tt, free tt); nodes_are_bounded = nodes_are_bounded from t root i; one_value = one_value from t root i })
told view t root from i serde.TypeMismatch refusal tells nothing free deep wide uncarried =
    rw tells (record { ok = tt; fits = tt; spelled = λ v h. absurd (nothing tt v h); refused = λ other. (nothing tt, free tt); nodes_are_bounded = nodes_are_bounded from t root i; one_value = one_value from t root i })
told view t root from i serde.TooDeep refusal tells nothing free deep wide uncarried =
    rw tells (record { ok = tt; fits = tt; spelled = λ v h. absurd (nothing tt v h); refused = λ other. (nothing tt, deep refl); nodes_are_bounded = nodes_are_bounded from t root i; one_value = one_value from t root i })
told view t root from i serde.TooWide refusal tells nothing free deep wide uncarried =
    rw tells (record { ok = tt; fits = tt; spelled = λ v h. absurd (nothing tt v h); refused = λ other. (nothing tt, wide refl); nodes_are_bounded = nodes_are_bounded from t root i; one_value = one_value from t root i })
told view t root from i serde.NotCarried refusal tells nothing free deep wide uncarried =
    rw tells (record { ok = tt; fits = tt; spelled = λ v h. absurd (nothing tt v h); refused = λ other. (nothing tt, uncarried refl); nodes_are_bounded = nodes_are_bounded from t root i; one_value = one_value from t root i })
told view t root from i serde.NoMemory refusal tells nothing free deep wide uncarried =
    rw tells (record { ok = tt; fits = tt; spelled = λ v h. tt; refused = λ other. absurd (other refl); nodes_are_bounded = nodes_are_bounded from t root i; one_value = one_value from t root i })
told view t root from i serde.Unsupported refusal tells nothing free deep wide uncarried = absurd tells
told view t root from i serde.Unwritable refusal tells nothing free deep wide uncarried = absurd tells
told view t root from i serde.Missing refusal tells nothing free deep wide uncarried = absurd tells
told view t root from i serde.Failed refusal tells nothing free deep wide uncarried = absurd tells

pub body_refused : {T A : Type 0} (view : T → Value) (t : Table) (root : ℕ) (from : Wire) (i : List ℕ) (r : Result A SerdeError) (e : SerdeError) (refusal : TranscodeError) → r ≡ Err e → IsToldAs e refusal
    → (IsRefused r → SpellNothing from t root i) → (IsInvalid r → SpellNothingWithoutLimits from t root i) → (IsErrOf r serde.TooDeep → IsTooDeep from t root i) → (IsErrOf r serde.TooWide → IsWide from t i) → (IsErrOf r serde.NotCarried → IsUncarried from t i)
    → ReadsBody view t root from i (Err refusal)
body_refused view t root from i r e refusal is tells nothing free deep wide uncarried =
    told view t root from i e refusal tells (λ fault. nothing (rw is fault)) (λ invalid. free (rw is invalid)) (λ depth. deep (is ∙ ap Err depth)) (λ width. wide (is ∙ ap Err width))
    (λ other. uncarried (is ∙ ap Err other))
