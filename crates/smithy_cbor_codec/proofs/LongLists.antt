-- A list of whole numbers is written as it is without a prefix, since no structure begins in it.
use Rattle.std.proofs.Common.{◌≡◌, ℤ, List, [], ◌∷◌, ◌++◌, map, Some, Bool, Result, Ok, Err, refl, ap}
use Rattle.smithy_declarations.specs.Value.{scalar_value, whole, values_of}
use Rattle.smithy_shapes.specs.Site.{Site, element_of}
use Rattle.smithy_schema.specs.declared.error.SerdeError.{SerdeError}
use Rattle.smithy_schema.specs.Writing.{Event, Makes, and_run, run, write, element_events, count_of, begin_list, end_list, scalar_of}
use Rattle.smithy_schema.specs.Written.{list_of_wholes}
use Rattle.smithy_cbor_body.specs.Prefixes.{CborState, Prefix, with_prefix, cbor_after}
use Rattle.smithy_cbor_body.specs.Writing.{BodyState, body_after}

abbrev with : Prefix → BodyState → CborState
with p b = record { body = b; prefix = p }

module _ (p : Prefix) where
  -- behind a call that begins no structure
  behind_call : (es : List Event) (r : Result BodyState SerdeError) → ((b : BodyState) → run cbor_after es (with p b) ≡ with_prefix p (run body_after es b))
      → and_run (run cbor_after es) (with_prefix p r) ≡ with_prefix p (and_run (run body_after es) r)
  behind_call es (Ok b) rest = rest b
  behind_call es (Err e) rest = refl

  -- what is left of a list
  rest_prefixed : (site : Site) (ns : List ℤ) (b : BodyState)
      → run cbor_after (element_events site (values_of (map (λ n. scalar_value (whole n)) ns)) ++ end_list ∷ []) (with p b)
      ≡ with_prefix p (run body_after (element_events site (values_of (map (λ n. scalar_value (whole n)) ns)) ++ end_list ∷ []) b)
  rest_prefixed site [] b = behind_call [] (body_after end_list b) (λ b. refl)
  rest_prefixed site (n ∷ ns) b =
      behind_call (element_events site (values_of (map (λ n. scalar_value (whole n)) ns)) ++ end_list ∷ []) (body_after (scalar_of site (whole n)) b) (rest_prefixed site ns)

  pub list_prefixed : (site : Site) (ns : List ℤ) (b : BodyState) → write cbor_after site (list_of_wholes ns) (with p b) ≡ with_prefix p (write body_after site (list_of_wholes ns) b)
  list_prefixed site ns b =
      let values = values_of (map (λ n. scalar_value (whole n)) ns) in
      behind_call (element_events (element_of site) values ++ end_list ∷ []) (body_after (begin_list site (Some (count_of values))) b) (rest_prefixed (element_of site) ns)

  -- an answer on the body is one on the body with its prefix
  pub makes_prefixed : (r : Result BodyState SerdeError) (had_failed : Bool) (b : BodyState) (has_failed : Bool) (result : Result (Unit {0}) SerdeError)
      → Makes r had_failed b has_failed result → Makes (with_prefix p r) had_failed (with p b) has_failed result
  makes_prefixed r had_failed b has_failed (Ok done) h = record { failed = h.failed; broken = h.broken; ok = ap (with_prefix p) h.ok; refused = tt }
  makes_prefixed r had_failed b has_failed (Err e) h = record { failed = h.failed; broken = h.broken; ok = tt; refused = λ fault. ap (with_prefix p) (h.refused fault) }
