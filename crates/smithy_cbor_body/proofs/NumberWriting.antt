-- What a call that writes a number makes of a serializer's state.
use Rattle.std.proofs.Common.{◌≡◌, ◌⊎◌, inl, inr, ℕ, ℤ, List, ◌++◌, true, false, Result, Ok, Err, IsErrOf, sym, ◌∙◌, ap, append_assoc}
use Rattle.std.specs.Prelude.{FitsSigned}
use Rattle.std.specs.Int.{w128}
use Rattle.std.proofs.lemmas.Bool.{cases_Bool}
use Rattle.smithy_texts.specs.Ranges.{fits_signed}
use Rattle.smithy_texts.proofs.WrittenNumerals.{fits_signed-wide}
use Rattle.smithy_schema.specs.declared.error.SerdeError.{SerdeError}
use Rattle.smithy_schema.specs.declared.error.SerdeError.TheVariants.{TooWide, NoMemory}
use Rattle.smithy_schema.specs.Errors.{IsFault}
use Rattle.smithy_shapes.specs.Site.{View}
use Rattle.smithy_schema.specs.Writing.{Open}
use Rattle.smithy_cbor.specs.declared.error.EncodeError.{EncodeError}
use Rattle.smithy_cbor.specs.declared.error.EncodeError.TheVariants as encoding
use Rattle.smithy_cbor_body.specs.Lengths.{counted_in}
use Rattle.smithy_cbor_values.specs.Settings.{Settings}
use Rattle.smithy_cbor_body.specs.declared.lengths.Length.{Length}
use Rattle.smithy_cbor_body.specs.Writing.{BodyState, lead, wrote, where_taken, where_in_width}
use Rattle.smithy_cbor_values.proofs.BigNumbers.{leaves_wide}

-- the bytes behind what stands before a value
pub wrote_is : (s : BodyState) (view : View) (bytes o : List ℕ) (after : List Open) (lengths : List Length) (held : Settings) → held ≡ s.settings → o ≡ (s.out ++ lead s view) ++ bytes
    → lengths ≡ counted_in s.frames s.lengths → wrote s view bytes after ≡ record { settings = held; out = o; frames = after; lengths = lengths }
wrote_is s view bytes o after lengths held same is counted =
    ap (λ (x : List ℕ). record { settings = s.settings; out = x; frames = after; lengths = counted_in s.frames s.lengths }) (sym (is ∙ append_assoc s.out (lead s view) bytes))
    ∙ ap (λ (c : Settings). record { settings = c; out = o; frames = after; lengths = counted_in s.frames s.lengths }) (sym same)
    ∙ ap (λ (x : List Length). record { settings = held; out = o; frames = after; lengths = x }) (sym counted)

pub call_written : (make : List Open → BodyState) (r : Result (List Open) SerdeError) (after : List Open) (t : BodyState) → r ≡ Ok after → make after ≡ t → where_taken make r ≡ Ok t
call_written make r after t is same = ap (where_taken make) is ∙ ap Ok same

-- what is written has 128 bits
fits_of : (m : ℤ) → ((FitsSigned w128 m → ⊥) → IsErrOf {T = Unit} {E = EncodeError} (Ok tt) encoding.TooWide) → fits_signed 128 m ≡ true
fits_of m never = elim (cases_Bool (fits_signed 128 m)) [
  | inl fits ↦ fits
  | inr other ↦ absurd (let wide : IsErrOf {T = Unit} {E = EncodeError} (Ok tt) encoding.TooWide = never (λ fits. let both : true ≡ false = sym (fits_signed-wide m fits) ∙ other in cc) in cc)
]

pub number_written : (m : ℤ) (make : List Open → BodyState) (r : Result (List Open) SerdeError) (after : List Open) (t : BodyState) → r ≡ Ok after → make after ≡ t
    → ((FitsSigned w128 m → ⊥) → IsErrOf {T = Unit} {E = EncodeError} (Ok tt) encoding.TooWide) → where_in_width (fits_signed 128 m) (where_taken make r) ≡ Ok t
number_written m make r after t is same never =
    ap (λ b. where_in_width b (where_taken make r)) (fits_of m never) ∙ call_written make r after t is same

-- what is refused leaves these bits, want of memory aside
pub number_refused : (m : ℤ) (make : List Open → BodyState) (r : Result (List Open) SerdeError) (after : List Open) (e : EncodeError) (f : SerdeError) → r ≡ Ok after
    → (IsErrOf {T = Unit} {E = EncodeError} (Err e) encoding.TooWide → FitsSigned w128 m → ⊥) → (f ≡ TooWide → e ≡ encoding.TooWide) → (f ≡ TooWide) ⊎ (f ≡ NoMemory) → IsFault f
    → where_in_width (fits_signed 128 m) (where_taken make r) ≡ Err f
number_refused m make r after e f is leaves wide (inl too_wide) fault =
    rw too_wide
    (ap (λ b. where_in_width b (where_taken make r)) (leaves_wide m (leaves (ap Err (wide too_wide)))) ∙ ap (λ x. where_in_width false (where_taken make x)) is)
number_refused m make r after e f is leaves wide (inr memory) fault = absurd (rw memory at fault)
