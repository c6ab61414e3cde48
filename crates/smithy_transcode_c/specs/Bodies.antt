-- What a call over many bodies answers. They stand one behind another: each begins where the one before it ends.
use Rattle.std.specs.Prelude.{◌≡◌, ◌⊎◌, ◌≤◌, ◌<◌, ◌+◌, ◌++◌, ℕ, List, [], ◌∷◌, length, slice_range, slice_index_or, Ok, Err}
use Rattle.smithy_declarations.specs.Table.{Table}
use Rattle.smithy_transcode.specs.Wires.{Wire}
use Rattle.smithy_transcode.specs.Transcoding.{Answer, Transcodes}
use Rattle.smithy_transcode.specs.Numbers.{error_number}
use Rattle.smithy_transcode_c.specs.Refusals.{refusal_number}
use Rattle.smithy_transcode_c.specs.declared.refusal.Refusal.{Refusal}
use Rattle.smithy_transcode_c.specs.Calls.{Asked, IsMeant, Refuses, StandsFirst}

-- where the body of this number begins
abbrev pub begin_of : (ends : List ℕ) → ℕ → ℕ
begin_of ends n = slice_index_or (0 ∷ ends) n 0

-- before which it ends
abbrev pub end_of : (ends : List ℕ) → ℕ → ℕ
end_of ends n = slice_index_or ends n 0

-- the body of this number ends in the input, and not before it begins
abbrev pub LiesIn : (ends input : List ℕ) → ℕ → Type 0
LiesIn ends input n = (begin_of ends n ≤ end_of ends n) × (end_of ends n ≤ length input)

-- what becomes of one answer: its status, and its bytes, of which a refusal has none
abbrev pub IsPut : Answer → (status : ℕ) → (bytes : List ℕ) → Type 0
IsPut (Ok body) status bytes = (status ≡ 0) × (bytes ≡ body.items)
IsPut (Err error) status bytes = (status ≡ error_number error) × (bytes ≡ [])

-- an input has the status and the bytes that the answer of `transcode` to it has
abbrev pub IsAnswered : Table → (root : ℕ) → (from to : Wire) → (input : List ℕ) → (status : ℕ) → (bytes : List ℕ) → Type 0
IsAnswered table root from to input status bytes =
    (answer : Answer) × Transcodes table root from input to answer × IsPut answer status bytes

-- so many bodies lie in the input, and each is answered by itself: their statuses, their bytes one behind another, and where each of
-- them ends
pub data AreAnswered (table : Table) (root : ℕ) (from to : Wire) (ends input : List ℕ) : (count : ℕ) → (out_ends statuses bytes : List ℕ) → Type 0 where
  none : AreAnswered table root from to ends input 0 [] [] []
  more : (n : ℕ) (out_ends statuses bytes : List ℕ) (status : ℕ) (body : List ℕ) → AreAnswered table root from to ends input n out_ends statuses bytes
      → LiesIn ends input n → IsAnswered table root from to (slice_range input (begin_of ends n) (end_of ends n)) status body
      → AreAnswered table root from to ends input (n + 1) (out_ends ++ (length bytes + length body) ∷ []) (statuses ++ status ∷ []) (bytes ++ body)

-- what a call over many bodies is given: their bytes one behind another, and where each of them ends
pub record Inputs : Type 0 where
  pub ends : List ℕ
  pub bytes : List ℕ

-- the caller's memory for what a call over many bodies answers
pub record Memory : Type 0 where
  pub out_ends : List ℕ
  pub statuses : List ℕ
  pub out : List ℕ

-- So many bodies are answered at the front of the caller's memory, and so long are their bytes together.
pub record HasAnswers (table : Table) (root : ℕ) (from to : Wire) (given : Inputs) (before after : Memory) (count len : ℕ) : Type 0 where
  pub out_ends : List ℕ
  pub statuses : List ℕ
  pub bytes : List ℕ
  pub are : AreAnswered table root from to given.ends given.bytes count out_ends statuses bytes
  pub long : len ≡ length bytes
  pub ends_put : StandsFirst out_ends before.out_ends after.out_ends
  pub statuses_put : StandsFirst statuses before.statuses after.statuses
  pub bytes_put : StandsFirst bytes before.out after.out

-- why a call goes no further than so many bodies: there are no more; the next doesn't lie in the input, or has no place for its status
-- and its end; or it lies there and has its place, and its body is longer than the room that is left
abbrev pub StopsAt : Table → (root : ℕ) → (from to : Wire) → Inputs → Memory → (count len number : ℕ) → Type 0
StopsAt table root from to given m count len number =
    ((number ≡ 0) × (count ≡ length given.ends))
    ⊎ ((number ≡ 2) × (count < length given.ends)
    × ((end_of given.ends count < begin_of given.ends count) ⊎ (length given.bytes < end_of given.ends count)
    ⊎ (length m.out_ends ≤ count) ⊎ (length m.statuses ≤ count)))
    ⊎ ((number ≡ 24) × (count < length given.ends) × LiesIn given.ends given.bytes count
    × (count < length m.out_ends) × (count < length m.statuses)
    × ((status : ℕ) × (body : List ℕ) × IsAnswered table root from to (slice_range given.bytes (begin_of given.ends count) (end_of given.ends count)) status body
    × (length m.out < len + length body)))

-- What a call over many bodies answers: why it has nothing to transcode; or how many bodies it answers, and why it goes no further.
abbrev pub BodiesAnswer : Table → Asked → Inputs → (before after : Memory) → (number count : ℕ) → Type 0
BodiesAnswer table asked given before after number count =
    ((refusal : Refusal) × Refuses table asked refusal × (number ≡ refusal_number refusal) × (count ≡ 0) × (after ≡ before))
    ⊎ ((root : ℕ) × (from : Wire) × (to : Wire) × (len : ℕ) × IsMeant table asked root from to
    × HasAnswers table root from to given before after count len × StopsAt table root from to given before count len number)
