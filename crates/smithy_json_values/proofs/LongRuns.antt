-- The integer that is the next element of an array.
use Rattle.std.proofs.Common.{◌≡◌, ◌<◌, ℕ, ℤ, List, length, Bool, Option, Some, None, refl, sym}
use Rattle.std.specs.Prelude.{IfSome, slice_index}
use Rattle.smithy_json_grammar.specs.Ascii.{is_ws, end_array}
use Rattle.smithy_json_grammar.specs.Standing.{IsRunAt, IsLongAt}
use Rattle.smithy_json_values.specs.Spans.{IsSeparated}
use Rattle.smithy_json_values.specs.Private.NextInContainer.{IsFirstByte, IsNotFirst}
use Rattle.smithy_json_values.specs.Private.LongRuns.{IsNextLong}
use Rattle.smithy_json_values.proofs.FirstBytePlaces.{not_first}
use Rattle.smithy_json_values.proofs.ScannedPlaces.{ws_before}

module _ (i : List ℕ) (at place start : ℕ) (entered : Bool) (separated : IsSeparated entered i at place) (run : IsRunAt is_ws i place start) (some : start < length i) (other : slice_index i start ≡ end_array → ⊥) where
  -- no bracket comes first
  no_end : IsNotFirst end_array i place
  no_end =
      let here : IsFirstByte i place (slice_index i start) start = record {
        ordered = run.ordered;
        within = some;
        ws = ws_before i place start run;
        is = refl;
        plain = run.stops some;
      } in
      not_first i place (slice_index i start) start here end_array refl (λ same. other (sym same))

  -- a long that stands behind the white space is the element
  pub next_is : (found : Option (ℤ × ℕ)) → IfSome found (λ r. IsLongAt i start r.1 r.0) → IfSome found (λ r. IsNextLong i at entered r.0 r.1)
  next_is (Some r) stands = record { place = place; start = start; begins = (separated, no_end); ws = run; stands = stands }
  next_is None nothing = tt
