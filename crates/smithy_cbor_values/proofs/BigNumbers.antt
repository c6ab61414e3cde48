-- What a decoder reads as a big number, and what it refuses, as what an item says.
use Rattle.std.proofs.Common.{◌≡◌, inl, inr, ℕ, ℤ, List, Option, Some, None, refl, sym, ◌∙◌, ap, subst, Bool, true, false}
use Rattle.std.specs.Prelude.{◌&&◌, ◌^◌, pos, negsuc, neg_ℤ, int_le, int_lt, option_map, FitsSigned, Result, Ok, Err, IfOk}
use Rattle.std.specs.Fmt.{signed_decimal}
use Rattle.std.proofs.Common.{arith}
use Rattle.std.proofs.lemmas.Int.{ints}
use Rattle.std.specs.Int.{w128}
use Rattle.std.proofs.lemmas.Bool.{cases_Bool, and_parts, ltb-true}
use Rattle.smithy_texts.specs.Numeral.{number}
use Rattle.smithy_texts.specs.Decimal.{DecimalForm, mantissa, net_exponent, decimal_text}
use Rattle.smithy_texts.specs.Ranges.{fits_signed, is_exponent}
use Rattle.smithy_texts.proofs.WrittenNumerals.{fits_signed-wide, small_wide, small_exponent, written_number, written_parts}
use Rattle.smithy_declarations.specs.declared.shape_type.Scalar.{Scalar}
use Rattle.smithy_declarations.specs.declared.shape_type.Scalar.TheVariants as scalars
use Rattle.smithy_declarations.specs.Value.{ScalarValue, whole, decimal, Value, scalar_value}
use Rattle.cbor_item.specs.declared.error.ItemError.{ItemError}
use Rattle.cbor_item.specs.declared.error.ItemError.TheVariants as item_errors
use Rattle.cbor_item.specs.Item.{Item, unsigned, negative, byte_string, text_string, array, map, tag, simple, float}
use Rattle.cbor_item.specs.WellFormed.{IsItemAt}
use Rattle.smithy_cbor.specs.declared.error.DecodeKind.{DecodeKind}
use Rattle.smithy_cbor.specs.declared.error.DecodeKind.TheVariants as kinds
use Rattle.smithy_cbor.specs.Kind.{kind_of_item_error}
use Rattle.smithy_cbor.specs.Scalar.{big_integer_of, decimal_fraction_of}
use Rattle.smithy_cbor.specs.Reading.{IsBigIntegerText, IsDecimalText, FitsDecimal, IsBigIntegerFault, IsDecimalFault}
use Rattle.smithy_cbor_values.specs.Meaning.{node_of}
use Rattle.smithy_cbor_values.specs.Scalar.{says}
use Rattle.smithy_cbor_values.specs.Standing.{Follows}
use Rattle.smithy_cbor_values.specs.Private.ItemPlaces.{one_item}
use Rattle.smithy_cbor_values.specs.Private.ScalarAtPlace.{MeansAt, ExceedsAt, NothingAt, IsUnread}
use Rattle.smithy_cbor_values.proofs.BigNumberPlaces.{no_big_integer_at, no_decimal_at, fraction_is}
use Rattle.smithy_wire.specs.declared.found.Found.{Found}
use Rattle.smithy_wire.specs.declared.found.Found.TheVariants.{Value as FoundValue, Nothing, Beyond}
use Rattle.smithy_wire.specs.Finding.{MatchFound}
use Rattle.smithy_wire.specs.Node.{leaf}
use Rattle.smithy_wire.specs.Rules.{Answer, means, no_meaning, wide}
use Rattle.smithy_wire.specs.BigNumbers.{big_integer, is_in_limits, big_decimal}
use Rattle.smithy_wire.proofs.Bounds.{bounded_fits, bounded_exceeds}

-- an item stands there whose answer as the kind is this one
pub record AnswersAt (s : Scalar) (input : List ℕ) (at e : ℕ) (answer : Answer Value) : Type 0 where
  pub found : Item
  pub stands : IsItemAt found input at e
  pub is_leaf : node_of found ≡ leaf found
  pub is : says s None found ≡ answer

-- whatever item stands there is nothing of the kind
abbrev pub NoneOf : Scalar → List ℕ → ℕ → Type 0
NoneOf s input at = (x : Item) (e : ℕ) → IsItemAt x input at e → says s None x ≡ no_meaning

-- the fault of an item is no number
no_width : (e : ItemError) → kind_of_item_error e ≡ kinds.TooWide → ⊥
no_width item_errors.Truncated h = cc
no_width item_errors.NotWellFormed h = cc
no_width item_errors.WrongType h = cc
no_width item_errors.InvalidUtf8 h = cc
no_width item_errors.NoMemory h = cc

wide_fits : (z : ℤ) → fits_signed 128 z ≡ true → FitsSigned w128 z
wide_fits (pos n) h =
    record { sfits = ltb-true _ _ (and_parts (int_le (neg_ℤ (pos (2 ^ 127))) (pos n)) (int_lt (pos n) (pos (2 ^ 127))) h).1 }
wide_fits (negsuc n) h =
    let low = (and_parts (int_le (neg_ℤ (pos (2 ^ 127))) (negsuc n)) (int_lt (negsuc n) (pos (2 ^ 127))) h).0 in
    record { sfits = grind (arith, ints) }

pub leaves_wide : (z : ℤ) → (FitsSigned w128 z → ⊥) → fits_signed 128 z ≡ false
leaves_wide z misfit = elim (cases_Bool (fits_signed 128 z)) [
  | inl fits ↦ absurd (misfit (wide_fits z fits))
  | inr other ↦ other
]

-- ---- integers

number_is_leaf : (x : Item) (z : ℤ) → big_integer_of x ≡ Some z → node_of x ≡ leaf x
number_is_leaf (unsigned n) z h = refl
number_is_leaf (negative n) z h = refl
number_is_leaf (tag n y) z h = refl
number_is_leaf (byte_string extent chunks) z h = cc
number_is_leaf (text_string extent chunks) z h = cc
number_is_leaf (array extent es) z h = cc
number_is_leaf (map extent ps) z h = cc
number_is_leaf (simple n) z h = cc
number_is_leaf (float digits) z h = cc

text_number : (z : ℤ) (t : List ℕ) → FitsSigned w128 z → t ≡ signed_decimal z → number t ≡ z
text_number z t fits is = ap number is ∙ (written_number z (small_wide z fits)).value

pub integer_read : (t input : List ℕ) (at e : ℕ) → IsBigIntegerText t input at e → AnswersAt scalars.BigInteger input at e (means (scalar_value (whole (number t))))
integer_read t input at e (z, (i, there, is), fits, text_is) = record {
  found = i;
  stands = there;
  is_leaf = number_is_leaf i z is;
  is = ap big_integer is ∙ bounded_fits (fits_signed 128) (λ n. scalar_value (whole n)) z (fits_signed-wide z fits) ∙ ap (λ n. means (scalar_value (whole n))) (sym (text_number z t fits text_is));
}

pub integer_fits : (t input : List ℕ) (at e : ℕ) → IsBigIntegerText t input at e → FitsSigned w128 (number t)
integer_fits t input at e (z, there, fits, text_is) = subst (FitsSigned w128) (sym (text_number z t fits text_is)) fits

pub integer_text : (t input : List ℕ) (at e : ℕ) → IsBigIntegerText t input at e → t ≡ signed_decimal (number t)
integer_text t input at e (z, there, fits, text_is) = text_is ∙ ap signed_decimal (sym (text_number z t fits text_is))

none_or : {A B : Type 0} (f : Option A → Answer B) (o : Option A) → f None ≡ no_meaning → ((a : A) → o ≡ Some a → ⊥) → f o ≡ no_meaning
none_or f None is never = is
none_or f (Some a) is never = absurd (never a refl)

pub integer_refused : (input : List ℕ) (at : ℕ) (kind : DecodeKind) → IsBigIntegerFault input at kind → (kind ≡ kinds.TooWide → ⊥) → (kind ≡ kinds.NoMemory → ⊥)
    → NoneOf scalars.BigInteger input at
integer_refused input at kind (inl (err, same, fault)) other some x e there =
    none_or big_integer (big_integer_of x) refl (λ z is. no_big_integer_at x z input at e err is there fault)
integer_refused input at kind (inr (inl (is, out))) other some x e there = absurd (other is)
integer_refused input at kind (inr (inr is)) other some x e there = absurd (some is.0)

pub integer_leaves : (input : List ℕ) (at : ℕ) (kind : DecodeKind) → IsBigIntegerFault input at kind → kind ≡ kinds.TooWide
    → (e : ℕ) × AnswersAt scalars.BigInteger input at e wide
integer_leaves input at kind (inl (err, same, fault)) h = absurd (no_width err (sym same ∙ h))
integer_leaves input at kind (inr (inl (is, (z, e, (i, there, number_is), misfit)))) h = (
  e,
  record {
    found = i;
    stands = there;
    is_leaf = number_is_leaf i z number_is;
    is = ap big_integer number_is ∙ bounded_exceeds (fits_signed 128) (λ n. scalar_value (whole n)) z (leaves_wide z misfit);
  },
)
integer_leaves input at kind (inr (inr is)) h = let both : kinds.NoMemory ≡ kinds.TooWide = sym is.0 ∙ h in cc

-- ---- decimal fractions

abbrev form_of : ℤ × ℤ → DecimalForm
form_of p = record { mantissa_part = p.1; written_part = p.0; net_part = p.0 }

abbrev value_of : DecimalForm → Value
value_of f = scalar_value (decimal f.mantissa_part f.net_part)

fraction_says : (x : Item) (e m : ℤ) → decimal_fraction_of x ≡ Some (e, m) → says scalars.BigDecimal None x ≡ big_decimal (Some (form_of (e, m)))
fraction_says x e m is = ap (λ o. big_decimal (option_map form_of o)) is

fraction_is_leaf : (x : Item) (e m : ℤ) → decimal_fraction_of x ≡ Some (e, m) → node_of x ≡ leaf x
fraction_is_leaf x e m is = let f = fraction_is x e m is in subst (λ (y : Item). node_of y ≡ leaf y) (sym f.is) refl

parts_fit : (e m : ℤ) → FitsDecimal e m → is_in_limits (form_of (e, m)) ≡ true
parts_fit e m (exponent, fits) = rw (fits_signed-wide m fits, exponent) refl

parts_leave : (e m : ℤ) → (FitsDecimal e m → ⊥) → is_in_limits (form_of (e, m)) ≡ false
parts_leave e m misfit = elim (cases_Bool (is_exponent e)) [
  | inl small ↦ ap (λ b. b && (is_exponent e && is_exponent e)) (leaves_wide m (λ fits. misfit (small, fits)))
  | inr large ↦ rw large (never (fits_signed 128 m))
]
  where
    never : (b : Bool) → (b && false) ≡ false
    never true = refl
    never false = refl

pub decimal_read : (t input : List ℕ) (at e : ℕ) → IsDecimalText t input at e → AnswersAt scalars.BigDecimal input at e (means (scalar_value (decimal (mantissa t) (net_exponent t))))
decimal_read t input at e (x, m, (i, there, is), fits, text_is) =
    let w = written_parts m x (small_wide m fits.1) (small_exponent x fits.0) in
    record {
      found = i;
      stands = there;
      is_leaf = fraction_is_leaf i x m is;
      is = fraction_says i x m is ∙ bounded_fits is_in_limits value_of (form_of (x, m)) (parts_fit x m fits)
          ∙ ap (λ z. means (scalar_value (decimal z x))) (sym (ap mantissa text_is ∙ w.mantissa_is))
          ∙ ap (λ z. means (scalar_value (decimal (mantissa t) z))) (sym (ap net_exponent text_is ∙ w.net_is));
    }

pub decimal_fits : (t input : List ℕ) (at e : ℕ) → IsDecimalText t input at e → FitsSigned w128 (mantissa t)
decimal_fits t input at e (x, m, there, fits, text_is) =
    let w = written_parts m x (small_wide m fits.1) (small_exponent x fits.0) in
    subst (FitsSigned w128) (sym (ap mantissa text_is ∙ w.mantissa_is)) fits.1

pub decimal_is_text : (t input : List ℕ) (at e : ℕ) → IsDecimalText t input at e → t ≡ decimal_text (mantissa t) (net_exponent t)
decimal_is_text t input at e (x, m, there, fits, text_is) =
    let w = written_parts m x (small_wide m fits.1) (small_exponent x fits.0) in
    text_is ∙ ap (λ n. decimal_text n x) (sym (ap mantissa text_is ∙ w.mantissa_is)) ∙ ap (decimal_text (mantissa t)) (sym (ap net_exponent text_is ∙ w.net_is))

pub decimal_refused : (input : List ℕ) (at : ℕ) (kind : DecodeKind) → IsDecimalFault input at kind → (kind ≡ kinds.TooWide → ⊥) → (kind ≡ kinds.NoMemory → ⊥)
    → NoneOf scalars.BigDecimal input at
decimal_refused input at kind (inl (err, same, fault)) other some x e there =
    none_or (λ o. big_decimal (option_map form_of o)) (decimal_fraction_of x) refl (λ p is. no_decimal_at x p.0 p.1 input at e err is there fault)
decimal_refused input at kind (inr (inl (is, out))) other some x e there = absurd (other is)
decimal_refused input at kind (inr (inr is)) other some x e there = absurd (some is.0)

pub decimal_leaves : (input : List ℕ) (at : ℕ) (kind : DecodeKind) → IsDecimalFault input at kind → kind ≡ kinds.TooWide
    → (e : ℕ) × AnswersAt scalars.BigDecimal input at e wide
decimal_leaves input at kind (inl (err, same, fault)) h = absurd (no_width err (sym same ∙ h))
decimal_leaves input at kind (inr (inl (is, (x, m, e, (i, there, fraction), misfit)))) h = (
  e,
  record {
    found = i;
    stands = there;
    is_leaf = fraction_is_leaf i x m fraction;
    is = fraction_says i x m fraction ∙ bounded_exceeds is_in_limits value_of (form_of (x, m)) (parts_leave x m misfit);
  },
)
decimal_leaves input at kind (inr (inr is)) h = let both : kinds.NoMemory ≡ kinds.TooWide = sym is.0 ∙ h in cc

-- ---- what is found where no number is read

module _ {A E : Type 0} (s : Scalar) (value : A → ScalarValue) (input : List ℕ) (at depth : ℕ) (kind : DecodeKind) where
  pub unread_is : ((kind ≡ kinds.TooWide → ⊥) → (kind ≡ kinds.NoMemory → ⊥) → NoneOf s input at) → (kind ≡ kinds.TooWide → (e : ℕ) × AnswersAt s input at e wide)
      → (found : Result (Found (A × ℕ)) E) → IfOk found (IsUnread kind input at depth)
      → IfOk found (λ f. MatchFound f (λ r. MeansAt s input at depth (value r.0) r.1) (NothingAt s input at depth) (ExceedsAt s input at depth))
  unread_is refused leaves (Err e) h = tt
  unread_is refused leaves (Ok (FoundValue r)) h = absurd h
  unread_is refused leaves (Ok Nothing) (inl (is, none)) = λ x e lies. absurd (none e (record { found = x; stands = lies.1; follows = lies.2 }))
  unread_is refused leaves (Ok Nothing) (inr (other, some)) = λ x e lies. refused other some x e lies.1
  unread_is refused leaves (Ok Beyond) (is, (end, skips)) =
      let number = leaves is in
      let same = (one_item number.1.found skips.found input at number.0 end number.1.stands skips.stands).1 in
      record {
        found = number.1.found;
        e = number.0;
        lies = (number.1.is_leaf, number.1.stands, subst (Follows depth input) (sym same) skips.follows);
        is = number.1.is;
      }

  -- and no value is
  pub unread_fits : (P : A × ℕ → Type 0) (found : Result (Found (A × ℕ)) E) → IfOk found (IsUnread kind input at depth) → IfOk found (λ f. MatchFound f P (Unit {0}) (Unit {0}))
  unread_fits P (Err e) h = tt
  unread_fits P (Ok (FoundValue r)) h = absurd h
  unread_fits P (Ok Nothing) h = tt
  unread_fits P (Ok Beyond) h = tt
