-- What stands under the tag of a date, and where no date can be read, none stands.
use Rattle.std.proofs.Common.{◌≡◌, ◌<◌, ◌≤◌, ◌⊎◌, ◌-◌, ◌/◌, ◌%◌, inl, inr, ℕ, suc, ℤ, List, ◌∷◌, ◌++◌, length, drop, Bool, true, false, Option, Some, None, refl, sym, ◌∙◌, ap, subst, arith, slice_index, slice_range, length-append}
use Rattle.std.specs.Prelude.{◌==◌, ◌*ℤ◌, pos, negsuc, if◌then◌else◌, FitsSigned}
use Rattle.std.specs.Int.{w64}
use Rattle.std.proofs.lemmas.Int.{ints}
use Rattle.std.proofs.lemmas.Bool.{cases_Bool}
use Rattle.std.proofs.lemmas.Bool.Decides.{nat_tests}
use Rattle.smithy_texts.specs.Ranges.{fits_signed}
use Rattle.smithy_instants.specs.Instant.{nanos_per_second}
use Rattle.smithy_declarations.specs.Value.{instant, Value, scalar_value}
use Rattle.cbor_item.specs.declared.error.ItemError.{ItemError}
use Rattle.cbor_item.specs.declared.error.ItemError.TheVariants.{Truncated, NotWellFormed, WrongType, InvalidUtf8, NoMemory}
use Rattle.cbor_item.specs.Head.{HeadRead, BeginsWithHead, IsCutHead, IsBrokenHead, argument_length}
use Rattle.cbor_item.specs.Item.{Item, unsigned, negative, byte_string, text_string, array, map, tag, simple, float}
use Rattle.cbor_item.specs.WellFormed.{IsItemAt}
use Rattle.cbor_item.proofs.HeadLemmas.{head_is_only}
use Rattle.smithy_cbor.specs.Scalar.{integer_of, epoch_seconds_of}
use Rattle.smithy_cbor.specs.Reading.{IsHeadFault, IsFloatHead, IsSeconds, IsTag, IsDateAt, IsNoDate}
use Rattle.smithy_cbor_values.specs.Meaning.{node_of}
use Rattle.smithy_cbor_values.specs.Scalar.{date_says, seconds_read_as, timestamp_says}
use Rattle.smithy_cbor_values.specs.Private.ContainerBytes.{same_opens_at}
use Rattle.smithy_cbor_values.specs.Private.ItemPlaces.{item_front}
use Rattle.smithy_cbor_values.proofs.BigNumberPlaces.{tag_parts}
use Rattle.smithy_cbor_values.proofs.HeadFaults.{no_wanted_head}
use Rattle.smithy_cbor_values.proofs.ScalarReads.{long_fits, integer_head}
use Rattle.smithy_wire.specs.Node.{leaf}
use Rattle.smithy_wire.specs.Rules.{Answer, means, no_meaning}

-- ---- a date that was read

-- a date of these seconds stands there
pub record DateStands (seconds : Option ℤ) (input : List ℕ) (at e : ℕ) : Type 0 where
  pub found : Item
  pub stands : IsItemAt found input at e
  pub is_leaf : node_of found ≡ leaf found
  pub is : timestamp_says found ≡ date_says seconds

integer_says : (x : Item) (s : ℤ) → integer_of x ≡ Some s → seconds_read_as x ≡ date_says (Some s)
integer_says (unsigned n) s is = let same : Some _ ≡ Some s = is in ap date_says same
integer_says (negative n) s is = let same : Some _ ≡ Some s = is in ap date_says same
integer_says (byte_string extent chunks) s is = cc
integer_says (text_string extent chunks) s is = cc
integer_says (array extent es) s is = cc
integer_says (map extent ps) s is = cc
integer_says (tag n x) s is = cc
integer_says (simple n) s is = cc
integer_says (float digits) s is = cc

-- what is under the tag of a date
under_tag : (b : Bool) (a other : Answer Value) (o : Option ℤ) (s : ℤ) → (o ≡ Some s → a ≡ other) → (if b then o else None) ≡ Some s → (if b then a else no_meaning) ≡ other
under_tag true a other o s says is = says is
under_tag false a other o s says is = cc

seconds_stand : (x : Item) (s : ℤ) (input : List ℕ) (at e : ℕ) → IsItemAt x input at e → epoch_seconds_of x ≡ Some s → DateStands (Some s) input at e
seconds_stand (tag n x) s input at e there is = record {
  found = tag n x;
  stands = there;
  is_leaf = refl;
  is = under_tag (n == 1) (seconds_read_as x) (date_says (Some s)) (integer_of x) s (integer_says x s) is;
}
seconds_stand (unsigned n) s input at e there is = cc
seconds_stand (negative n) s input at e there is = cc
seconds_stand (byte_string extent chunks) s input at e there is = cc
seconds_stand (text_string extent chunks) s input at e there is = cc
seconds_stand (array extent es) s input at e there is = cc
seconds_stand (map extent ps) s input at e there is = cc
seconds_stand (simple n) s input at e there is = cc
seconds_stand (float digits) s input at e there is = cc

pub date_stands : (seconds : Option ℤ) (input : List ℕ) (at e : ℕ) → IsDateAt seconds input at e → DateStands seconds input at e
date_stands None input at e (digits, there) = record { found = tag 1 (float digits); stands = there; is_leaf = refl; is = refl }
date_stands (Some s) input at e (x, there, is) = seconds_stand x s input at e there is

-- ---- the instant of so many seconds

pub fits_long : (s : ℤ) → FitsSigned w64 s → fits_signed 64 s ≡ true
fits_long s h = grind (arith, ints)

pub seconds_mean : (s n : ℤ) → FitsSigned w64 s → n ≡ s *ℤ pos nanos_per_second → date_says (Some s) ≡ means (scalar_value (instant n))
seconds_mean s n fits is =
    ap (λ b. if b then means (scalar_value (instant (s *ℤ pos nanos_per_second))) else no_meaning) (fits_long s fits)
    ∙ ap (λ n. means (scalar_value (instant n))) (sym is)

pub seconds_leave : (s : ℤ) → (FitsSigned w64 s → ⊥) → date_says (Some s) ≡ no_meaning
seconds_leave s misfit = elim (cases_Bool (fits_signed 64 s)) [
  | inl fits ↦ absurd (misfit (long_fits s fits))
  | inr other ↦ ap (λ b. if b then means (scalar_value (instant (s *ℤ pos nanos_per_second))) else no_meaning) other
]

-- ---- where no date can be read

-- a first byte behind which a float's digits stand
record FloatFirst (first size : ℕ) : Type 0 where
  major : first / 32 ≡ 7
  low : 25 ≤ first % 32
  high : first % 32 ≤ 27
  announced : argument_length (first % 32) ≡ size
  long : 2 ≤ size

-- where a float's first byte and digits come, no fault does
no_fault : (first size : ℕ) (digits rest i : List ℕ) (a : ℕ) (err : ItemError) → FloatFirst first size → length digits ≡ size → drop a i ≡ first ∷ (digits ++ rest)
    → IsHeadFault IsSeconds i a err → ⊥
no_fault first size digits rest i a Truncated type long is fault =
    let cut : length (digits ++ rest) < argument_length (first % 32) = subst IsCutHead is fault in
    omega (arith, length-append digits rest, type.announced)
no_fault first size digits rest i a NotWellFormed type long is fault = by (subst IsBrokenHead is fault)
  where
    by : IsBrokenHead (first ∷ (digits ++ rest)) → ⊥
    by (inl range) = omega (arith, range.0, type.high)
    by (inr (inl (info, never))) = omega (arith, info, type.high)
    by (inr (inr (k, small, short))) = let byte : first ≡ 0xf8 = ap (λ l. slice_index l 0) short in omega (arith, byte, type.low)
no_fault first size digits rest i a WrongType type long is (h, begins, unwanted) =
    let same = head_is_only first (digits ++ rest) h (subst (λ (s : List ℕ). BeginsWithHead s h) is begins) in
    let size : 2 < suc (argument_length (first % 32)) = omega (arith, type.announced, type.long) in
    unwanted (inr (subst IsFloatHead (sym same) (type.major, size)))
no_fault first size digits rest i a InvalidUtf8 type long is fault = fault
no_fault first size digits rest i a NoMemory type long is fault = fault

-- nothing is wrong with a float
float_reads : (digits i : List ℕ) (a e : ℕ) (err : ItemError) → IsItemAt (float digits) i a e → IsHeadFault IsSeconds i a err → ⊥
float_reads digits i a e err there fault = by there.1.1
  where
    front : (first : ℕ) → slice_range i a e ≡ first ∷ digits → drop a i ≡ first ∷ (digits ++ drop e i)
    front first is = item_front (float digits) i a e there ∙ ap (λ s. s ++ drop e i) is

    by : ((length digits ≡ 2) × (slice_range i a e ≡ 0xf9 ∷ digits)) ⊎ ((length digits ≡ 4) × (slice_range i a e ≡ 0xfa ∷ digits)) ⊎ ((length digits ≡ 8) × (slice_range i a e ≡ 0xfb ∷ digits)) → ⊥
    by (inl (size, is)) = no_fault 0xf9 2 digits (drop e i) i a err (record { major = omega arith; low = omega arith; high = omega arith; announced = refl; long = omega arith }) size (front 0xf9 is) fault
    by (inr (inl (size, is))) = no_fault 0xfa 4 digits (drop e i) i a err (record { major = omega arith; low = omega arith; high = omega arith; announced = refl; long = omega arith }) size (front 0xfa is) fault
    by (inr (inr (size, is))) = no_fault 0xfb 8 digits (drop e i) i a err (record { major = omega arith; low = omega arith; high = omega arith; announced = refl; long = omega arith }) size (front 0xfb is) fault

-- nor with an integer
integer_reads : (x : Item) (z : ℤ) (i : List ℕ) (a e : ℕ) (err : ItemError) → integer_of x ≡ Some z → IsItemAt x i a e → IsHeadFault IsSeconds i a err → ⊥
integer_reads x z i a e err is there fault =
    let (h, begins, type) = integer_head x z i a e is there in
    no_wanted_head IsSeconds i a err h fault begins (inl type)

-- where no seconds can be read, what stands there says none
no_seconds : (x : Item) (i : List ℕ) (a e : ℕ) (err : ItemError) → IsItemAt x i a e → IsHeadFault IsSeconds i a err → seconds_read_as x ≡ no_meaning
no_seconds (unsigned n) i a e err there fault = absurd (integer_reads (unsigned n) (pos n) i a e err refl there fault)
no_seconds (negative n) i a e err there fault = absurd (integer_reads (negative n) (negsuc n) i a e err refl there fault)
no_seconds (float digits) i a e err there fault = absurd (float_reads digits i a e err there fault)
no_seconds (byte_string extent chunks) i a e err there fault = refl
no_seconds (text_string extent chunks) i a e err there fault = refl
no_seconds (array extent es) i a e err there fault = refl
no_seconds (map extent ps) i a e err there fault = refl
no_seconds (tag n x) i a e err there fault = refl
no_seconds (simple n) i a e err there fault = refl

dated : (n : ℕ) (x : Item) (i : List ℕ) (a e : ℕ) (err : ItemError) → IsItemAt (tag n x) i a e → IsNoDate i a err → n ≡ 1 → seconds_read_as x ≡ no_meaning
dated n x i a e err there (inl fault) one =
    let (b, opens, inside) = tag_parts n x i a e there in
    let h : HeadRead = record { major = 6; argument = Some n; length = b - a } in
    absurd (no_wanted_head (IsTag 1) i a err h fault opens.1 (refl, ap Some one))
dated n x i a e err there (inr (next, opens', fault)) one =
    let (b, opens, inside) = tag_parts n x i a e there in
    let same = (same_opens_at 6 (Some 1) (Some n) i a next b opens' opens).0 in
    no_seconds x i b e err inside (subst (λ k. IsHeadFault IsSeconds i k err) same fault)

only_dated : (n : ℕ) (a : Answer Value) → (n ≡ 1 → a ≡ no_meaning) → (if n == 1 then a else no_meaning) ≡ no_meaning
only_dated n a none = by (n == 1) refl
  where
    by : (b : Bool) → (n == 1) ≡ b → (if b then a else no_meaning) ≡ no_meaning
    by true one = none (grind (arith, nat_tests))
    by false one = refl

-- where no date can be read, what stands there is no instant
pub no_date : (x : Item) (i : List ℕ) (a e : ℕ) (err : ItemError) → IsItemAt x i a e → IsNoDate i a err → timestamp_says x ≡ no_meaning
no_date (tag n x) i a e err there fault = only_dated n (seconds_read_as x) (dated n x i a e err there fault)
no_date (unsigned n) i a e err there fault = refl
no_date (negative n) i a e err there fault = refl
no_date (byte_string extent chunks) i a e err there fault = refl
no_date (text_string extent chunks) i a e err there fault = refl
no_date (array extent es) i a e err there fault = refl
no_date (map extent ps) i a e err there fault = refl
no_date (simple n) i a e err there fault = refl
no_date (float digits) i a e err there fault = refl
