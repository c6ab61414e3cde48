-- The whole number that a decimal text is equal to is the instant of so many seconds, where that is a whole one.
use Rattle.std.proofs.Common.{◌≡◌, ◌+◌, ◌*◌, ◌/◌, ◌%◌, ◌^◌, ◌<◌, ℕ, suc, List, Bool, true, false, not, nat_eq, ◌==◌, Option, Some, None, option_map, option_and_then, ℤ, pos, negsuc, ◌+ℤ◌, unsigned_abs, refl, sym, ap, subst, ◌∙◌, arith, cond}
use Rattle.std.specs.Str.{byte}
use Rattle.std.proofs.Math.Nat.{mul-div_cancel, div-add-mod, mul-mod_right, mul_comm, mul_assoc}
use Rattle.std.proofs.lemmas.Bool.Decides.{nat_tests}
use Rattle.std.proofs.lemmas.Int.{ints}
use Rattle.std.proofs.lemmas.Nat.{pow-add}
use Rattle.smithy_texts.specs.Numeral.{begins_with, magnitude, signed}
use Rattle.smithy_texts.specs.Decimal.{coefficient, net_exponent}
use Rattle.smithy_texts.specs.Ranges.{fits_signed}
use Rattle.smithy_instants.specs.Epoch.{is_epoch, epoch_nanos, scaled}
use Rattle.smithy_instants.specs.Instant.{nanos_per_second, seconds_of, subsecond_of, is_instant}
use Rattle.smithy_instants.specs.declared.epoch.EpochError.{EpochError}
use Rattle.smithy_instants.specs.declared.epoch.EpochError.TheVariants.{NotWhole, OutOfRange}
use Rattle.smithy_instants.proofs.PowerLemmas.{power_positive}
use Rattle.smithy_json_grammar.specs.Number.{long_number, integral_number}

-- ---- powers of ten

cancel : (a b d : ℕ) → 0 < d → a * d ≡ b * d → a ≡ b
cancel a b d h e = sym (mul-div_cancel a h) ∙ ap (λ n. n / d) e ∙ mul-div_cancel b h

shift : (m a b : ℕ) → m * 10 ^ (a + b) ≡ m * 10 ^ a * 10 ^ b
shift m a b = ap (λ p. m * p) (pow-add 10 a b) ∙ sym (mul_assoc m (10 ^ a) (10 ^ b))

whole_part : (q d : ℕ) → 0 < d → cond (nat_eq (q * d % d) 0) (Some (q * d / d)) None ≡ Some q
whole_part q d h =
    let none : q * d % d ≡ 0 = ap (λ n. n % d) (mul_comm q d) ∙ mul-mod_right d q in
    let test : nat_eq (q * d % d) 0 ≡ true = grind (arith, nat_tests) in
    ap (λ t. cond t (Some (q * d / d)) None) test ∙ ap Some (mul-div_cancel q h)

-- n times ten to the power e is k, both times powers of ten that differ by e
to_product : (n k a b : ℕ) (e : ℤ) → e +ℤ pos b ≡ pos a → scaled n e ≡ Some k → n * 10 ^ a ≡ k * 10 ^ b
to_product n k a b (pos c) size found =
    let same : n * 10 ^ c ≡ k = cc in
    let sum : a ≡ c + b = omega (arith, ints, size) in
    ap (λ p. n * 10 ^ p) sum ∙ shift n c b ∙ ap (λ m. m * 10 ^ b) same
to_product n k a b (negsuc j) size found = go (nat_eq (n % 10 ^ suc j) 0) refl
  where
    go : (whole : Bool) → nat_eq (n % 10 ^ suc j) 0 ≡ whole → n * 10 ^ a ≡ k * 10 ^ b
    go true whole =
        let d = 10 ^ suc j in
        let none : n % d ≡ 0 = grind (arith, nat_tests) in
        let quotient : ◌≡◌ {A = Option ℕ} (Some (n / d)) (Some k) = rw whole at found in
        let same : n / d ≡ k = cc in
        let product : n ≡ k * d = sym (div-add-mod n d) ∙ ap (λ r. d * (n / d) + r) none ∙ ap (λ q. d * q + 0) same ∙ (let c = mul_comm d k in omega arith) in
        let sum : suc j + a ≡ b = omega (arith, ints, size) in
        ap (λ m. m * 10 ^ a) product ∙ sym (shift k (suc j) a) ∙ ap (λ p. k * 10 ^ p) sum
    go false whole =
        let none : ◌≡◌ {A = Option ℕ} None (Some k) = rw whole at found in cc

from_product : (n k a b : ℕ) (e : ℤ) → e +ℤ pos b ≡ pos a → n * 10 ^ a ≡ k * 10 ^ b → scaled n e ≡ Some k
from_product n k a b (pos c) size product =
    let sum : a ≡ c + b = omega (arith, ints, size) in
    ap Some (cancel (n * 10 ^ c) k (10 ^ b) (power_positive b) (sym (ap (λ p. n * 10 ^ p) sum ∙ shift n c b) ∙ product))
from_product n k a b (negsuc j) size product =
    let d = 10 ^ suc j in
    let sum : b ≡ suc j + a = omega (arith, ints, size) in
    let same : n ≡ k * d = cancel n (k * d) (10 ^ a) (power_positive a) (product ∙ ap (λ p. k * 10 ^ p) sum ∙ shift k (suc j) a) in
    ap (λ m. cond (nat_eq (m % d) 0) (Some (m / d)) None) same ∙ whole_part k d (power_positive (suc j))

-- ---- seconds

positive : 0 < nanos_per_second
positive = omega arith

whole_seconds : (b : Bool) (t : ℕ) → (seconds_of (signed b (t * nanos_per_second)) ≡ signed b t) × (subsecond_of (signed b (t * nanos_per_second)) ≡ 0)
whole_seconds false t = (ap pos (mul-div_cancel t positive), omega arith)
whole_seconds true t = (grind (arith, ints), grind (arith, ints))

no_part : (b : Bool) (q : ℕ) → subsecond_of (signed b q) ≡ 0 → (q ≡ unsigned_abs (seconds_of (signed b q)) * nanos_per_second) × (signed b (unsigned_abs (seconds_of (signed b q))) ≡ seconds_of (signed b q))
no_part false q h = (omega (arith, h), refl)
no_part true q h = (grind (arith, ints), grind (arith, ints))

-- ---- numbers times a power of ten, and the same with nine decimals more

-- the powers by which to compare
pub record Powers (e : ℤ) : Type 0 where
  pub above : ℕ
  pub below : ℕ
  pub differ : e +ℤ pos below ≡ pos above

powers : (e : ℤ) → Powers e
powers (pos c) = record { above = c; below = 0; differ = omega (arith, ints) }
powers (negsuc j) = record { above = 0; below = suc j; differ = omega (arith, ints) }

nine_more : (e : ℤ) (p : Powers e) → e +ℤ pos 9 +ℤ pos p.below ≡ pos (p.above + 9)
nine_more e p = let d = p.differ in omega (arith, ints, d)

swap_nine : (t b : ℕ) → t * nanos_per_second * 10 ^ b ≡ t * 10 ^ b * 10 ^ 9
swap_nine t b = mul_assoc t nanos_per_second (10 ^ b) ∙ ap (λ m. t * m) (mul_comm nanos_per_second (10 ^ b)) ∙ sym (mul_assoc t (10 ^ b) (10 ^ 9))

to_nanos : (n t : ℕ) (e : ℤ) → scaled n e ≡ Some t → scaled n (e +ℤ pos 9) ≡ Some (t * nanos_per_second)
to_nanos n t e found =
    let p = powers e in
    let product = to_product n t p.above p.below e p.differ found in
    from_product n (t * nanos_per_second) (p.above + 9) p.below (e +ℤ pos 9) (nine_more e p) (shift n p.above 9 ∙ ap (λ m. m * 10 ^ 9) product ∙ sym (swap_nine t p.below))

from_nanos : (n t : ℕ) (e : ℤ) → scaled n (e +ℤ pos 9) ≡ Some (t * nanos_per_second) → scaled n e ≡ Some t
from_nanos n t e found =
    let p = powers e in
    let product = to_product n (t * nanos_per_second) (p.above + 9) p.below (e +ℤ pos 9) (nine_more e p) found in
    from_product n t p.above p.below e p.differ (cancel (n * 10 ^ p.above) (t * 10 ^ p.below) (10 ^ 9) positive (sym (shift n p.above 9) ∙ product ∙ swap_nine t p.below))

-- ---- the number of a text

module _ (text : List ℕ) where
  abbrev is_negative : Bool
  is_negative = begins_with (byte "-") (coefficient text)

  abbrev digits : ℕ
  digits = magnitude (coefficient text)

  abbrev seconds_after : Option ℕ → Option ℤ
  seconds_after o = option_and_then (λ n. long_number (signed is_negative n)) o

  -- by the number of its digits times ten to the net exponent
  integral_some : (t : ℕ) → is_epoch text ≡ true → scaled digits (net_exponent text) ≡ Some t → fits_signed 64 (signed is_negative t) ≡ true → integral_number text ≡ Some (signed is_negative t)
  integral_some t form found fits =
      ap (λ f. cond f (seconds_after (scaled digits (net_exponent text))) None) form ∙ ap seconds_after found ∙ ap (λ f. cond f (Some (signed is_negative t)) None) fits

  -- a number whose instant is a whole second
  pub record IsSecond (z : ℤ) : Type 0 where
    pub nanos : ℤ
    pub instant : epoch_nanos text ≡ Some nanos
    pub second : seconds_of nanos ≡ z
    pub no_more : subsecond_of nanos ≡ 0
    pub fits : fits_signed 64 z ≡ true

  is_second : (z : ℤ) → integral_number text ≡ Some z → IsSecond z
  is_second z e = go (is_epoch text) refl (scaled digits (net_exponent text)) refl
    where
      by_fit : (t : ℕ) → is_epoch text ≡ true → scaled digits (net_exponent text) ≡ Some t → (fits : Bool) → fits_signed 64 (signed is_negative t) ≡ fits → IsSecond z
      by_fit t form found true fits =
          let both = sym (integral_some t form found fits) ∙ e in
          let same : signed is_negative t ≡ z = cc in
          record {
            nanos = signed is_negative (t * nanos_per_second);
            instant = ap (λ f. cond f (option_map (signed is_negative) (scaled digits (net_exponent text +ℤ pos 9))) None) form ∙ ap (option_map (signed is_negative)) (to_nanos digits t (net_exponent text) found);
            second = (whole_seconds is_negative t).0 ∙ same;
            no_more = (whole_seconds is_negative t).1;
            fits = subst (λ y. fits_signed 64 y ≡ true) same fits;
          }
      by_fit t form found false fits =
          let none : ◌≡◌ {A = Option ℤ} None (Some z) =
          sym (ap (λ f. cond f (seconds_after (scaled digits (net_exponent text))) None) form ∙ ap seconds_after found ∙ ap (λ f. cond f (Some (signed is_negative t)) None) fits) ∙ e in cc

      go : (form : Bool) → is_epoch text ≡ form → (o : Option ℕ) → scaled digits (net_exponent text) ≡ o → IsSecond z
      go true form (Some t) found = by_fit t form found (fits_signed 64 (signed is_negative t)) refl
      go true form None found =
          let none : ◌≡◌ {A = Option ℤ} None (Some z) = sym (ap (λ f. cond f (seconds_after (scaled digits (net_exponent text))) None) form ∙ ap seconds_after found) ∙ e in cc
      go false form o found =
          let none : ◌≡◌ {A = Option ℤ} None (Some z) = sym (ap (λ f. cond f (seconds_after (scaled digits (net_exponent text))) None) form) ∙ e in cc

  whole : (d : ℤ) → epoch_nanos text ≡ Some d → is_instant d ≡ true → subsecond_of d ≡ 0 → integral_number text ≡ Some (seconds_of d)
  whole d e fits none = go (is_epoch text) refl (scaled digits (net_exponent text +ℤ pos 9)) refl
    where
      go : (form : Bool) → is_epoch text ≡ form → (o : Option ℕ) → scaled digits (net_exponent text +ℤ pos 9) ≡ o → integral_number text ≡ Some (seconds_of d)
      go true form (Some q) found =
          let both : ◌≡◌ {A = Option ℤ} (Some (signed is_negative q)) (Some d) =
          sym (ap (λ f. cond f (option_map (signed is_negative) (scaled digits (net_exponent text +ℤ pos 9))) None) form ∙ ap (option_map (signed is_negative)) found) ∙ e in
          let same : signed is_negative q ≡ d = cc in
          let t = unsigned_abs (seconds_of (signed is_negative q)) in
          let p = no_part is_negative q (ap subsecond_of same ∙ none) in
          let second : signed is_negative t ≡ seconds_of d = p.1 ∙ ap seconds_of same in
          integral_some t form (from_nanos digits t (net_exponent text) (found ∙ ap Some p.0)) (ap (fits_signed 64) second ∙ fits) ∙ ap Some second
      go true form None found =
          let clash : ◌≡◌ {A = Option ℤ} None (Some d) =
          sym (ap (λ f. cond f (option_map (signed is_negative) (scaled digits (net_exponent text +ℤ pos 9))) None) form ∙ ap (option_map (signed is_negative)) found) ∙ e in cc
      go false form o found =
          let clash : ◌≡◌ {A = Option ℤ} None (Some d) = sym (ap (λ f. cond f (option_map (signed is_negative) (scaled digits (net_exponent text +ℤ pos 9))) None) form) ∙ e in cc

  no_number : (o : Option ℤ) → ((z : ℤ) → o ≡ Some z → ⊥) → o ≡ None
  no_number None h = refl
  no_number (Some z) h = absurd (h z refl)

  no_instant : epoch_nanos text ≡ None → integral_number text ≡ None
  no_instant none = no_number (integral_number text) (λ z e. let s = is_second z e in let instant = s.instant in cc)

  out_of_range : (d : ℤ) → epoch_nanos text ≡ Some d → is_instant d ≡ false → integral_number text ≡ None
  out_of_range d found out = no_number (integral_number text) (λ z e.
      let s = is_second z e in
      let both = sym s.instant ∙ found in
      let same : s.nanos ≡ d = cc in
      let fails = ap (fits_signed 64) (sym s.second ∙ ap seconds_of same) ∙ out in
      let fits = s.fits in cc)

  pub refused : (error : EpochError) → (error ≡ NotWhole → epoch_nanos text ≡ None) → (error ≡ OutOfRange → (n : ℤ) × (epoch_nanos text ≡ Some n) × (is_instant n ≡ false)) → integral_number text ≡ None
  refused NotWhole none range = no_instant (none refl)
  refused OutOfRange none range = let r = range refl in out_of_range r.0 r.1 r.2

  pub part_of_second : (d : ℤ) → epoch_nanos text ≡ Some d → not (subsecond_of d == 0) ≡ true → integral_number text ≡ None
  part_of_second d found some = no_number (integral_number text) (λ z e.
      let s = is_second z e in
      let both = sym s.instant ∙ found in
      let same : s.nanos ≡ d = cc in
      let none : not (subsecond_of d == 0) ≡ false = ap (λ k. not (k == 0)) (ap subsecond_of (sym same) ∙ s.no_more) in cc)

  pub whole_second : (d : ℤ) → epoch_nanos text ≡ Some d → is_instant d ≡ true → not (subsecond_of d == 0) ≡ false → integral_number text ≡ Some (seconds_of d)
  whole_second d found fits none = whole d found fits (zero_of (subsecond_of d == 0) refl none)
    where
      zero_of : (zero : Bool) → (subsecond_of d == 0) ≡ zero → not zero ≡ false → subsecond_of d ≡ 0
      zero_of true is h = grind (arith, nat_tests)
      zero_of false is h = cc
