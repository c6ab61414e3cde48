-- One token that is passed.
use Rattle.std.proofs.Common.{◌≡◌, ◌≤◌, ◌<◌, ℕ, zero, suc, Bool, true, false, ◌==◌, cond, refl, ap, ◌∙◌, arith, subst, Some, Ok, Err}
use Rattle.std.proofs.lemmas.Bool.Decides.{nat_tests}
use Rattle.smithy_json_tokens.specs.Tokens.{JsonToken, start_array, end_array, start_object, end_object, value_null, value_bool, value_number, value_uncarried, value_string, object_key}
use Rattle.smithy_json_tokens.specs.declared.skip.Skip.{Skip}
use Rattle.smithy_json_tokens.specs.declared.skip.Skip.TheVariants.{On, Done, Wrong}
use Rattle.smithy_json_tokens.specs.declared.error.DeserializeError.{DeserializeError}
use Rattle.smithy_json_tokens.specs.Skipping.{skip_token, skip_end, skip_scalar, skip_key, SkipEnds}
use Rattle.smithy_json_tokens.specs.Faults.{IsCustomKind}

module _ (limit : ℕ) where
  started : (n more : ℕ) → n ≤ limit → On more ≡ cond (n == limit) Wrong (On (suc n)) → more ≤ limit
  started n more within h = go (n == limit) refl h
    where
      go : (full : Bool) → (n == limit) ≡ full → On more ≡ cond full Wrong (On (suc n)) → more ≤ limit
      go true e k = cc
      go false e k = let same : more ≡ suc n = cc in let less : n < limit = grind (arith, nat_tests) in omega arith

  ended : (n more : ℕ) → n ≤ limit → On more ≡ skip_end n → more ≤ limit
  ended zero more within h = cc
  ended (suc zero) more within h = cc
  ended (suc (suc n)) more within h = let same : more ≡ suc n = cc in omega arith

  passed : (n more : ℕ) → n ≤ limit → On more ≡ skip_scalar n → more ≤ limit
  passed zero more within h = cc
  passed (suc n) more within h = let same : more ≡ suc n = cc in omega arith

  named : (n more : ℕ) → n ≤ limit → On more ≡ skip_key n → more ≤ limit
  named zero more within h = cc
  named (suc n) more within h = let same : more ≡ suc n = cc in omega arith

  pub stays_within : (t : JsonToken) (n more : ℕ) → n ≤ limit → On more ≡ skip_token limit n t → more ≤ limit
  stays_within start_array n more within h = started n more within h
  stays_within start_object n more within h = started n more within h
  stays_within end_array n more within h = ended n more within h
  stays_within end_object n more within h = ended n more within h
  stays_within value_null n more within h = passed n more within h
  stays_within (value_bool b) n more within h = passed n more within h
  stays_within (value_number m) n more within h = passed n more within h
  stays_within (value_uncarried s) n more within h = passed n more within h
  stays_within (value_string s) n more within h = passed n more within h
  stays_within (object_key s) n more within h = named n more within h

-- the last token
pub ends_done : (skip : Skip) (place : ℕ) → Done ≡ skip → SkipEnds skip place (Ok tt)
ends_done skip place h = subst (λ s. SkipEnds s place (Ok tt)) h refl

pub ends_wrong : (skip : Skip) (place at : ℕ) (e : DeserializeError) → Wrong ≡ skip → at ≡ place → e.offset ≡ Some at → IsCustomKind e.kind → SkipEnds skip place (Err e)
ends_wrong skip place at e h p o k = subst (λ s. SkipEnds s place (Err e)) h (o ∙ ap (λ n. Some n) p, k)
