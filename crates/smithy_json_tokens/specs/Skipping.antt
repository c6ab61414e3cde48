-- Passing tokens up to the end of a value or of a container.
use Rattle.std.specs.Prelude.{◌≡◌, ℕ, zero, suc, List, ◌==◌, Option, Some, None, Result, Ok, Err, if◌then◌else◌}
use Rattle.smithy_json_tokens.specs.Tokens.{JsonToken, start_array, end_array, start_object, end_object, object_key}
use Rattle.smithy_json_tokens.specs.Faults.{IsCustomAt}
use Rattle.smithy_json_tokens.specs.TokenSteps.{Takes}
use Rattle.smithy_json_tokens.specs.declared.skip.Skip.{Skip}
use Rattle.smithy_json_tokens.specs.declared.skip.Skip.TheVariants.{On, Done, Wrong}
use Rattle.smithy_json_tokens.specs.declared.error.DeserializeError.{DeserializeError}

-- what the end of a container is, where so many are open: none may end where none is open, and the end of the last one ends the
-- value
abbrev pub skip_end : ℕ → Skip
skip_end zero = Wrong
skip_end (suc zero) = Done
skip_end (suc (suc n)) = On (suc n)

-- a token that begins and ends nothing is a value by itself where no container is open
abbrev pub skip_scalar : ℕ → Skip
skip_scalar zero = Done
skip_scalar (suc n) = On (suc n)

-- a key stands in an object alone
abbrev pub skip_key : ℕ → Skip
skip_key zero = Wrong
skip_key (suc n) = On (suc n)

-- what a token is, where so many containers are open and may be: the last, wrong, or one more
abbrev pub skip_token : ℕ → ℕ → JsonToken → Skip
skip_token limit open_containers start_array =
    if open_containers == limit then Wrong else On (suc open_containers)
skip_token limit open_containers start_object =
    if open_containers == limit then Wrong else On (suc open_containers)
skip_token limit open_containers end_array = skip_end open_containers
skip_token limit open_containers end_object = skip_end open_containers
skip_token limit open_containers (object_key key) = skip_key open_containers
skip_token limit open_containers _ = skip_scalar open_containers

-- what is answered at the last token of what is passed
abbrev pub SkipEnds : Skip → ℕ → Result (Unit {0}) DeserializeError → Type 0
SkipEnds (On n) place result = ⊥
SkipEnds Done place result = result ≡ Ok tt
SkipEnds Wrong place result = IsCustomAt (Some place) result

-- For tokens of a type T: `view` is what a token is, `place` its offset, and `steps` what a call of an iterator over them gives.
module _ {T S : Type 0} (view : T → JsonToken) (place : T → ℕ) (steps : S → Option (Result T DeserializeError) → S → Type 0) where
  -- what is answered at the last item of what is passed: the tokens end too early, an error is passed on, or the token ends it
  abbrev pub SkipStops : ℕ → ℕ → Option (Result T DeserializeError) → Result (Unit {0}) DeserializeError → Type 0
  SkipStops limit n None result = IsCustomAt None result
  SkipStops limit n (Some (Err e)) result = result ≡ Err e
  SkipStops limit n (Some (Ok token)) result = SkipEnds (skip_token limit n (view token)) (place token) result

  -- from s, where n containers are open, these tokens are passed, and then an item stops it, with t left
  abbrev pub Skips : ℕ → List T → ℕ → S → Result (Unit {0}) DeserializeError → S → Type 0
  Skips limit passed n s result t =
      Takes steps (λ k token more. skip_token limit k (view token) ≡ On more) (SkipStops limit) passed n
      s result t
