-- The calls of a serializer nest, and its bytes grow.
use Rattle.std.specs.Prelude.{◌≡◌, List, ℕ, ◌++◌, Bool, true, false, Result, Ok, Err, refl}
use Rattle.std.proofs.Common.{ap}
use Rattle.smithy_schema.specs.declared.error.SerdeError.{SerdeError}
use Rattle.smithy_schema.specs.declared.error.SerdeError.TheVariants.{Unwritable}
use Rattle.smithy_schema.specs.Writing.{Event, IsNested, open_after}
use Rattle.smithy_cbor_body.specs.Writing.{BodyState, made, where_taken, is_writable, where_writable, is_in_width, where_in_width, is_supported, where_supported, body_after}
use Rattle.smithy_cbor_body.specs.Private.MadeStates.{taken_frames, taken_grows}

-- what is written is what is made, and what no serializer takes is refused so
was_supported : (b : Bool) (r : Result BodyState SerdeError) (t : BodyState) → where_supported b r ≡ Ok t → r ≡ Ok t
was_supported true r t h = h
was_supported false (Ok s) t h = cc
was_supported false (Err e) t h = cc

supported_or_not : (b : Bool) (r : Result BodyState SerdeError) → r ≡ Err Unwritable → where_supported b r ≡ Err Unwritable
supported_or_not true r h = h
supported_or_not false (Ok s) h = cc
supported_or_not false (Err e) h = cc

written : (b : Bool) (r : Result BodyState SerdeError) (t : BodyState) → where_in_width b r ≡ Ok t → r ≡ Ok t
written true r t h = h
written false (Ok s) t h = cc
written false (Err e) t h = cc

stopped : (b : Bool) (r : Result BodyState SerdeError) → r ≡ Err Unwritable → where_in_width b r ≡ Err Unwritable
stopped true r h = h
stopped false (Ok s) h = cc
stopped false (Err e) h = h

was_writable : (b : Bool) (r : Result BodyState SerdeError) (t : BodyState) → where_writable b r ≡ Ok t → r ≡ Ok t
was_writable true r t h = h
was_writable false r t h = cc

refused : (b : Bool) (r : Result BodyState SerdeError) → r ≡ Err Unwritable → where_writable b r ≡ Err Unwritable
refused true r h = h
refused false r h = refl

-- what a call makes is what is made of the open containers
pub made_there : (e : Event) (s t : BodyState) → body_after e s ≡ Ok t → where_taken (made e s) (open_after e s.frames) ≡ Ok t
made_there e s t h =
    let taken = where_taken (made e s) (open_after e s.frames) in
    let writable = where_writable (is_writable e s) taken in
    was_writable (is_writable e s) taken t
    (written (is_in_width e) writable t (was_supported (is_supported e) (where_in_width (is_in_width e) writable) t h))

-- the open containers are those of any serializer, and where none takes a call this one refuses it
pub body_nests : IsNested body_after (λ (s : BodyState). s.frames)
body_nests = record {
  goes = λ e s t h. taken_frames e s t (open_after e s.frames) (made_there e s t h);
  stops = λ e s h.
      let taken = where_taken (made e s) (open_after e s.frames) in
      let writable = where_writable (is_writable e s) taken in
      supported_or_not (is_supported e) (where_in_width (is_in_width e) writable)
      (stopped (is_in_width e) writable (refused (is_writable e s) taken (ap (where_taken (made e s)) h)));
}

-- no call takes back a byte
pub body_grows : (e : Event) (s t : BodyState) → body_after e s ≡ Ok t → (more : List ℕ) × (t.out ≡ s.out ++ more)
body_grows e s t h = taken_grows e s t (open_after e s.frames) (made_there e s t h)
