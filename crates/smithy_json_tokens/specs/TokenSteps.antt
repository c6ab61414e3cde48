-- Calls that take tokens from an iterator, one after another, up to an item that stops them.
use Rattle.std.specs.Prelude.{◌≡◌, List, [], ◌∷◌, Option, Some, None, Result, Ok, Err}
use Rattle.smithy_json_tokens.specs.Tokens.{JsonToken}
use Rattle.smithy_json_tokens.specs.declared.error.DeserializeError.{DeserializeError}
use Rattle.smithy_json_tokens.specs.declared.error.DeserializeErrorKind.TheVariants.{NoMemory}

-- For a call that takes tokens: `steps` is what a call of the iterator gives; `Goes` says which tokens lead from what was made so
-- far to what is made then; and `Stops` says what the call answers where an item stops it.
module _ {T S A R : Type 0} (steps : S → Option (Result T DeserializeError) → S → Type 0)
    (Goes : A → T → A → Type 0) (Stops : A → Option (Result T DeserializeError) → R → Type 0) where
  -- from s, with a made so far, these tokens are taken, and then an item stops it, with t left
  abbrev pub Takes : List T → A → S → R → S → Type 0
  Takes [] a s answer t = (item : Option (Result T DeserializeError)) × steps s item t × Stops a item answer
  Takes (token ∷ taken) a s answer t =
      (b : A) × Goes a token b × ((j : S) × steps s (Some (Ok token)) j × Takes taken b j answer t)

-- For tokens of a type T: `view` is what a token is, and `steps` what a call of an iterator over them gives.
module _ {T S : Type 0} (view : T → JsonToken) (steps : S → Option (Result T DeserializeError) → S → Type 0) where
  -- the item is the token u, and `after` holds behind it, or the item is the want of memory
  abbrev pub IsItem : JsonToken → Type 0 → Option (Result T DeserializeError) → Type 0
  IsItem u after None = ⊥
  IsItem u after (Some (Err e)) = e.kind ≡ NoMemory
  IsItem u after (Some (Ok token)) = (view token ≡ u) × after

  -- whatever calls from s give, they give these tokens in turn, or the want of memory
  abbrev pub SurelyGives : List JsonToken → S → Type 0
  SurelyGives [] s = Unit {0}
  SurelyGives (u ∷ us) s =
      (item : Option (Result T DeserializeError)) (t : S) → steps s item t → IsItem u (SurelyGives us t) item
