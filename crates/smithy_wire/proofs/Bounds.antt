-- What is known of an answer where it means something, where it is wide and where it isn't carried.
use Rattle.std.specs.Prelude.{◌≡◌, ◌&&◌, ℕ, ℤ, List, Bool, true, false, Option, Some, None, refl, if◌then◌else◌}
use Rattle.std.proofs.Common.{sym, ◌∙◌, ap, subst}
use Rattle.std.proofs.lemmas.Bool.{and_parts}
use Rattle.smithy_texts.specs.Decimal.{DecimalForm}
use Rattle.smithy_texts.specs.Ranges.{fits_signed, is_exponent}
use Rattle.smithy_declarations.specs.declared.place.Place.{Place}
use Rattle.smithy_declarations.specs.declared.shape_type.Scalar.TheVariants as scalars
use Rattle.smithy_declarations.specs.Table.{Table, scalar, kind_of}
use Rattle.smithy_declarations.specs.declared.shape_type.Scalar.{Scalar}
use Rattle.smithy_declarations.specs.Value.{whole, decimal, Value, scalar_value, null_element}
use Rattle.smithy_shapes.specs.Fits.{Fits}
use Rattle.smithy_shapes.specs.Limits.{Limits, kept}
use Rattle.smithy_wire.specs.Rules.{Answer, means, no_meaning, wide, uncarried, settled, answer_of, bounded, Rules}
use Rattle.smithy_wire.specs.Frames.{Frames, relations}
use Rattle.smithy_wire.specs.Wire.{IsWire}
pub use Rattle.smithy_wire.specs.Lemmas.Fitting.{settled_means}
use Rattle.smithy_wire.specs.Readers.{stands_scalar, exceeds_scalar, uncarried_scalar}
use Rattle.smithy_wire.specs.BigNumbers.{big_integer, is_in_limits, big_decimal}

-- within the limits what is wide gives no value
pub wide_is_nothing : {A : Type 0} (limits : Limits) (null : A) (answer : Answer A) (v : A) → limits ≡ kept → answer ≡ wide → settled limits null answer ≡ Some v → ⊥
wide_is_nothing {A} limits null answer v keeps is h =
    let both : ◌≡◌ {A = Answer A} (means v) wide = sym (settled_means limits null answer v keeps h) ∙ is in cc

-- nor does what isn't carried
pub uncarried_is_nothing : {A : Type 0} (limits : Limits) (null : A) (answer : Answer A) (v : A) → limits ≡ kept → answer ≡ uncarried → settled limits null answer ≡ Some v → ⊥
uncarried_is_nothing {A} limits null answer v keeps is h =
    let both : ◌≡◌ {A = Answer A} (means v) uncarried = sym (settled_means limits null answer v keeps h) ∙ is in cc

module _ {A B : Type 0} (fits : A → Bool) (value_of : A → B) where
  -- a number within its limits, and one beyond them
  pub bounded_fits : (n : A) → fits n ≡ true → bounded fits value_of (Some n) ≡ means (value_of n)
  bounded_fits n h = rw h refl

  pub bounded_exceeds : (n : A) → fits n ≡ false → bounded fits value_of (Some n) ≡ wide
  bounded_exceeds n h = rw h refl

  chosen_means : (b : Bool) (u v : B) → (if b then means u else wide) ≡ means v → (b ≡ true) × (u ≡ v)
  chosen_means true u v h = (refl, cc)
  chosen_means false u v h = cc

  chosen_wide : (b : Bool) (u : B) → (if b then means u else wide) ≡ wide → b ≡ false
  chosen_wide true u h = cc
  chosen_wide false u h = refl

  -- what means something is a number within its limits
  pub bounded_means : (o : Option A) (v : B) → bounded fits value_of o ≡ means v → (n : A) × (o ≡ Some n) × (fits n ≡ true) × (value_of n ≡ v)
  bounded_means None v h = cc
  bounded_means (Some n) v h = let both = chosen_means (fits n) (value_of n) v h in (n, refl, both.0, both.1)

  -- what is wide is a number beyond them
  pub bounded_wide : (o : Option A) → bounded fits value_of o ≡ wide → (n : A) × (o ≡ Some n) × (fits n ≡ false)
  bounded_wide None h = cc
  bounded_wide (Some n) h = (n, refl, chosen_wide (fits n) (value_of n) h)

  -- under any limits only a number gives a value
  pub bounded_is_there : (limits : Limits) (null : B) (o : Option A) (v : B) → settled limits null (bounded fits value_of o) ≡ Some v → (n : A) × (o ≡ Some n)
  bounded_is_there limits null None v h = cc
  bounded_is_there limits null (Some n) v h = (n, refl)

-- ---- the answers of scalars

-- an option's answer means what the option has
pub answer_means : {A : Type 0} (o : Option A) (v : A) → answer_of o ≡ means v → o ≡ Some v
answer_means None v h = cc
answer_means (Some u) v h = let same : u ≡ v = cc in ap Some same

-- what means something where a test passes, and nothing where it doesn't
pub chosen_answer : {A : Type 0} (b : Bool) (u v : A) → (if b then means u else no_meaning) ≡ means v → (b ≡ true) × (u ≡ v)
chosen_answer true u v h = (refl, cc)
chosen_answer false u v h = cc

-- what means something as a big number is a value of its kind
pub big_integer_fits : (t : Table) (p : Place) (o : Option ℤ) (v : Value) → kind_of t p ≡ scalar scalars.BigInteger → big_integer o ≡ means v → Fits t p v
big_integer_fits t p o v kind h =
    let n = bounded_means (fits_signed 128) (λ n. scalar_value (whole n)) o v h in
    subst (Fits t p) n.3 (rw kind n.2)

pub big_decimal_fits : (t : Table) (p : Place) (o : Option DecimalForm) (v : Value) → kind_of t p ≡ scalar scalars.BigDecimal → big_decimal o ≡ means v → Fits t p v
big_decimal_fits t p o v kind h =
    let f = bounded_means is_in_limits (λ (f : DecimalForm). scalar_value (decimal f.mantissa_part f.net_part)) o v h in
    let parts = and_parts (fits_signed 128 f.0.mantissa_part) (is_exponent f.0.written_part && is_exponent f.0.net_part) f.2 in
    let exponents = and_parts (is_exponent f.0.written_part) (is_exponent f.0.net_part) parts.1 in
    let both : (fits_signed 128 f.0.mantissa_part && is_exponent f.0.net_part) ≡ true = rw (parts.0, exponents.1) refl in
    subst (Fits t p) f.3 (rw kind both)

-- what means something or nothing isn't too wide
pub answer_not_wide : {A : Type 0} (o : Option A) → answer_of o ≡ wide → ⊥
answer_not_wide None h = cc
answer_not_wide (Some v) h = cc

-- and is carried, as every number is that may leave its limits
pub answer_is_carried : {A : Type 0} (o : Option A) → answer_of o ≡ uncarried → ⊥
answer_is_carried None h = cc
answer_is_carried (Some v) h = cc

chosen_is_carried : {B : Type 0} (b : Bool) (u : B) → (if b then means u else wide) ≡ uncarried → ⊥
chosen_is_carried true u h = cc
chosen_is_carried false u h = cc

pub bounded_is_carried : {A B : Type 0} (fits : A → Bool) (value_of : A → B) (o : Option A) → bounded fits value_of o ≡ uncarried → ⊥
bounded_is_carried fits value_of None h = cc
bounded_is_carried fits value_of (Some n) h = chosen_is_carried (fits n) (value_of n) h

-- ---- where a number leaves its limits

-- with the limits kept nothing stands there
pub exceeds_not : {L : Type 0} (w : Frames L) (r : Rules L) → IsWire w → r.limits ≡ kept → (i : List ℕ) (t : Table) (p : Place) (s : Scalar) → kind_of t p ≡ scalar s → (d a e : ℕ)
    → (relations w r).exceeds i t p d a e → (v : Value) (f : ℕ) → (relations w r).stands i t p d a v f → ⊥
exceeds_not w r wire keeps i t p s kind d a e exceeds v f stands =
    let x = exceeds_scalar w r i t p s kind d a e exceeds in
    let y = stands_scalar w r i t p s kind d a v f stands in
    let same = (wire.same_scalar i d x.0 y.0 a e f x.1 y.1).0 in
    wide_is_nothing r.limits null_element (r.says s p.time x.0) v keeps x.2 (ap (λ z. settled r.limits null_element (r.says s p.time z)) same ∙ y.2)

-- nor where the kind can't carry what is there
pub uncarried_not : {L : Type 0} (w : Frames L) (r : Rules L) → IsWire w → r.limits ≡ kept → (i : List ℕ) (t : Table) (p : Place) (s : Scalar) → kind_of t p ≡ scalar s → (d a e : ℕ)
    → (relations w r).uncarried i t p d a e → (v : Value) (f : ℕ) → (relations w r).stands i t p d a v f → ⊥
uncarried_not w r wire keeps i t p s kind d a e there v f stands =
    let x = uncarried_scalar w r i t p s kind d a e there in
    let y = stands_scalar w r i t p s kind d a v f stands in
    let same = (wire.same_scalar i d x.0 y.0 a e f x.1 y.1).0 in
    uncarried_is_nothing r.limits null_element (r.says s p.time x.0) v keeps x.2 (ap (λ z. settled r.limits null_element (r.says s p.time z)) same ∙ y.2)
