-- What a call that reads a form answers.
use Rattle.std.specs.Prelude.{◌≡◌, ◌⊎◌, ◌++◌, ℕ, List, length, Option, Result, Ok, Err}
use Rattle.std.specs.Cow.{cow_str_bytes}
use Rattle.smithy_declarations.specs.Table.{Table}
use Rattle.smithy_value.specs.View.{view}
use Rattle.smithy_transcode.specs.Wires.{Wire}
use Rattle.smithy_transcode.specs.Transcoding.{Answer}
use Rattle.smithy_transcode.specs.WriteBody.{WritesBody}
use Rattle.smithy_transcode.specs.Numbers.{error_number}
use Rattle.smithy_form.specs.ReadsForm.{ReadsForm}
use Rattle.smithy_form.specs.declared.error.FormError.{FormError}
use Rattle.smithy_form.specs.declared.whole.Form.{Form}
use Rattle.smithy_transcode_c.specs.Refusals.{refusal_number}
use Rattle.smithy_transcode_c.specs.Numbers.{form_number, pair_number}
use Rattle.smithy_transcode_c.specs.declared.reading.FormTold.{FormTold}
use Rattle.smithy_transcode_c.specs.declared.refusal.Refusal.{Refusal}
use Rattle.smithy_transcode_c.specs.Calls.{IsHandedOut, IsMeantAlone, RefusesAlone}

-- nothing was read, and this pair is refused, or none where it is 0
abbrev pub nothing_but : (pair : ℕ) → FormTold
nothing_but pair = record { action_len = 0; version_len = 0; body_len = 0; pair = pair }

-- the action, the version and the body, one behind another
abbrev pub parts_of : Form → (body : List ℕ) → List ℕ
parts_of form body = cow_str_bytes form.action ++ (cow_str_bytes form.version ++ body)

-- what becomes of an answer of `write_body` to the value of a form
abbrev pub IsWritten : Form → Answer → (room : List ℕ) → (number : ℕ) → FormTold → (out : List ℕ) → Type 0
IsWritten form (Ok body) room number told out =
    (told ≡ record { action_len = length (cow_str_bytes form.action); version_len = length (cow_str_bytes form.version); body_len = length body.items; pair = 0 })
    × IsHandedOut 0 (parts_of form body.items) room number out
IsWritten form (Err error) room number told out = (number ≡ error_number error) × (told ≡ nothing_but 0) × (out ≡ room)

-- what becomes of an answer of `read_form`
abbrev pub IsRead : Table → (root : ℕ) → (to : Wire) → Result Form FormError → (room : List ℕ) → (number : ℕ) → FormTold → (out : List ℕ) → Type 0
IsRead table root to (Ok form) room number told out =
    (answer : Answer) × WritesBody table root to (view form.value) answer × IsWritten form answer room number told out
IsRead table root to (Err error) room number told out =
    (number ≡ form_number error) × (told ≡ nothing_but (pair_number error)) × (out ≡ room)

-- What a call that reads a form answers: why it has nothing to read, or what becomes of the answer of `read_form`.
abbrev pub FormAnswer : Table → (root_name : List ℕ) → (asked : Option Wire) → (input room : List ℕ) → (number : ℕ) → FormTold
    → (out : List ℕ) → Type 0
FormAnswer table root_name asked input room number told out =
    ((refusal : Refusal) × RefusesAlone table root_name asked refusal × (number ≡ refusal_number refusal) × (told ≡ nothing_but 0) × (out ≡ room))
    ⊎ ((root : ℕ) × (to : Wire) × (form : Result Form FormError) × IsMeantAlone table root_name asked root to
    × ReadsForm table root input form × IsRead table root to form room number told out)
