-- An item that leaves its limits somewhere, or isn't carried, is a slice of the input.
use Rattle.std.proofs.Common.{◌≡◌, ℕ, ℤ, pos, negsuc, List, ◌++◌, take, drop, Bool, true, false, cond, Option, Some, None, slice_range, refl, sym, ◌∙◌, ap, subst, arith}
use Rattle.std.specs.Prelude.{◌==◌, ◌*ℤ◌}
use Rattle.std.proofs.lemmas.Bool.Decides.{nat_tests}
use Rattle.std.proofs.lemmas.List.{take-append-drop}
use Rattle.smithy_declarations.specs.declared.shape_type.Scalar.{Scalar}
use Rattle.smithy_declarations.specs.declared.shape_type.Scalar.TheVariants as scalars
use Rattle.smithy_declarations.specs.declared.shape_type.TimestampFormat.{TimestampFormat}
use Rattle.cbor_item.specs.Item.{Item, unsigned, negative, byte_string, text_string, array, map, tag, simple, float}
use Rattle.cbor_item.specs.WellFormed.{IsItemAt}
use Rattle.smithy_declarations.specs.Value.{Value, instant, scalar_value}
use Rattle.smithy_texts.specs.Ranges.{fits_signed}
use Rattle.smithy_instants.specs.Instant.{nanos_per_second}
use Rattle.smithy_cbor.specs.Scalar.{big_integer_of}
use Rattle.smithy_cbor_values.specs.Scalar.{decimal_form_of, date_says, seconds_read_as, timestamp_says, says}
use Rattle.smithy_cbor_values.specs.Uncarried.{IsUncarriedCbor}
use Rattle.smithy_cbor_values.specs.Wide.{IsWideCbor}
use Rattle.smithy_cbor_values.specs.Private.ItemPlaces.{item_front}
use Rattle.smithy_wire.specs.Rules.{Answer, means, no_meaning, wide, uncarried}
use Rattle.smithy_wire.proofs.Bounds.{answer_not_wide, answer_is_carried, bounded_is_carried}

-- only a big number is too wide, whatever the time form
wide_always : (s : Scalar) (time : Option TimestampFormat) (x : Item) → says s time x ≡ wide → says s None x ≡ wide
wide_always scalars.Boolean time x h = absurd (answer_not_wide _ h)
wide_always scalars.Byte time x h = absurd (answer_not_wide _ h)
wide_always scalars.Short time x h = absurd (answer_not_wide _ h)
wide_always scalars.Integer time x h = absurd (answer_not_wide _ h)
wide_always scalars.Long time x h = absurd (answer_not_wide _ h)
wide_always scalars.String time x h = absurd (answer_not_wide _ h)
wide_always scalars.Blob time x h = absurd (answer_not_wide _ h)
wide_always scalars.Timestamp time x h = h
wide_always scalars.BigInteger time x h = h
wide_always scalars.BigDecimal time x h = h

pub wide_slice : (s : Scalar) (time : Option TimestampFormat) (x : Item) (i : List ℕ) (a e : ℕ) → IsItemAt x i a e → says s time x ≡ wide → IsWideCbor s i
wide_slice s time x i a e there leaves = (
  take a i,
  slice_range i a e,
  drop e i,
  sym (take-append-drop a i) ∙ ap (λ r. take a i ++ r) (item_front x i a e there),
  (x, there.1, wide_always s time x leaves),
)

-- ---- what isn't carried

carried_date : (s : ℤ) → date_says (Some s) ≡ uncarried → ⊥
carried_date s h = by (fits_signed 64 s) h
  where
    by : (b : Bool) → cond b (means (scalar_value (instant (s *ℤ pos nanos_per_second)))) no_meaning ≡ uncarried → ⊥
    by true h = cc
    by false h = cc

-- a date that isn't carried is one of a float
float_seconds : (x : Item) → seconds_read_as x ≡ uncarried → (digits : List ℕ) × (x ≡ float digits)
float_seconds (float digits) h = (digits, refl)
float_seconds (unsigned n) h = absurd (carried_date (pos n) h)
float_seconds (negative n) h = absurd (carried_date (negsuc n) h)
float_seconds (byte_string extent chunks) h = cc
float_seconds (text_string extent chunks) h = cc
float_seconds (array extent es) h = cc
float_seconds (map extent ps) h = cc
float_seconds (tag n x) h = cc
float_seconds (simple n) h = cc

tagged : (b : Bool) (a : Answer Value) → cond b a no_meaning ≡ uncarried → (b ≡ true) × (a ≡ uncarried)
tagged true a h = (refl, h)
tagged false a h = cc

float_date : (x : Item) → timestamp_says x ≡ uncarried → (digits : List ℕ) × (x ≡ tag 1 (float digits))
float_date (tag n x) h =
    let under = tagged (n == 1) (seconds_read_as x) h in
    let one : n ≡ 1 = is_one n under.0 in
    let seconds = float_seconds x under.1 in
    (seconds.0, ap (λ k. tag k x) one ∙ ap (tag 1) seconds.1)
  where
    is_one : (n : ℕ) → (n == 1) ≡ true → n ≡ 1
    is_one n h = grind (arith, nat_tests)
float_date (unsigned n) h = cc
float_date (negative n) h = cc
float_date (byte_string extent chunks) h = cc
float_date (text_string extent chunks) h = cc
float_date (array extent es) h = cc
float_date (map extent ps) h = cc
float_date (simple n) h = cc
float_date (float digits) h = cc

-- of an instant alone
uncarried_kind : (s : Scalar) (time : Option TimestampFormat) (x : Item) → says s time x ≡ uncarried → (s ≡ scalars.Timestamp) × (timestamp_says x ≡ uncarried)
uncarried_kind scalars.Boolean time x h = absurd (answer_is_carried _ h)
uncarried_kind scalars.Byte time x h = absurd (answer_is_carried _ h)
uncarried_kind scalars.Short time x h = absurd (answer_is_carried _ h)
uncarried_kind scalars.Integer time x h = absurd (answer_is_carried _ h)
uncarried_kind scalars.Long time x h = absurd (answer_is_carried _ h)
uncarried_kind scalars.String time x h = absurd (answer_is_carried _ h)
uncarried_kind scalars.Blob time x h = absurd (answer_is_carried _ h)
uncarried_kind scalars.Timestamp time x h = (refl, h)
uncarried_kind scalars.BigInteger time x h = absurd (bounded_is_carried _ _ (big_integer_of x) h)
uncarried_kind scalars.BigDecimal time x h = absurd (bounded_is_carried _ _ (decimal_form_of x) h)

pub uncarried_slice : (s : Scalar) (time : Option TimestampFormat) (x : Item) (i : List ℕ) (a e : ℕ) → IsItemAt x i a e → says s time x ≡ uncarried
    → (s ≡ scalars.Timestamp) × IsUncarriedCbor i
uncarried_slice s time x i a e there h =
    let (kind, says) = uncarried_kind s time x h in
    let (digits, is) = float_date x says in
    (kind, date_there digits (subst (λ (y : Item). IsItemAt y i a e) is there))
  where
    date_there : (digits : List ℕ) → IsItemAt (tag 1 (float digits)) i a e → IsUncarriedCbor i
    date_there digits there = (
      take a i,
      slice_range i a e,
      drop e i,
      sym (take-append-drop a i) ∙ ap (λ r. take a i ++ r) (item_front (tag 1 (float digits)) i a e there),
      (digits, there.1),
    )
