-- The calls of a serializer nest, and its text grows.
use Rattle.std.specs.Prelude.{◌≡◌, List, ℕ, ◌++◌, Bool, true, false, Result, Ok, Err, refl, cond}
use Rattle.std.proofs.Common.{ap}
use Rattle.smithy_schema.specs.declared.error.SerdeError.{SerdeError}
use Rattle.smithy_schema.specs.declared.error.SerdeError.TheVariants.{Unwritable}
use Rattle.smithy_schema.specs.Writing.{Event, IsNested, open_after}
use Rattle.smithy_json_codec.specs.Writing.{JsonState, made, where_taken, is_writable, json_after}
use Rattle.smithy_json_codec.specs.Private.MadeStates.{taken_frames, taken_grows}

-- what can be written is what is made, and what can't be is refused
written : (b : Bool) (r : Result JsonState SerdeError) (t : JsonState) → cond b r (Err Unwritable) ≡ Ok t → r ≡ Ok t
written true r t h = h
written false r t h = cc

stopped : (b : Bool) (r : Result JsonState SerdeError) → r ≡ Err Unwritable → cond b r (Err Unwritable) ≡ Err Unwritable
stopped true r h = h
stopped false r h = refl

-- the open containers are those of any serializer, and where none takes a call this one refuses it
pub json_nests : IsNested json_after (λ (s : JsonState). s.frames)
json_nests = record {
  goes = λ e s t h. taken_frames e s t (open_after e s.frames) (written (is_writable s e) (where_taken (made e s) (open_after e s.frames)) t h);
  stops = λ e s h. stopped (is_writable s e) (where_taken (made e s) (open_after e s.frames)) (ap (where_taken (made e s)) h);
}

-- no call takes back a byte
pub json_grows : (e : Event) (s t : JsonState) → json_after e s ≡ Ok t → (more : List ℕ) × (t.out ≡ s.out ++ more)
json_grows e s t h = taken_grows e s t (open_after e s.frames) (written (is_writable s e) (where_taken (made e s) (open_after e s.frames)) t h)
