-- The number that `parse` reads is the one of the text.
use Rattle.std.proofs.Common.{◌≡◌, ◌≢◌, ◌<◌, ◌^◌, ℕ, zero, suc, List, [], ◌∷◌, length, drop, slice_index, Bool, true, false, ◌==◌, Option, Some, None, option_map, option_and_then, inl, inr, ◌⊎◌, ℤ, pos, negsuc, neg_ℤ, unsigned_abs, FitsSigned, w64, refl, sym, ap, ◌∙◌, arith, cond, subst}
use Rattle.std.proofs.lemmas.Bool.Decides.{nat_tests}
use Rattle.std.proofs.lemmas.Int.{ints}
use Rattle.std.proofs.lemmas.List.{drop_more}
use Rattle.std.specs.Char.{is_ascii_digit, digit_value}
use Rattle.std.specs.Str.{all_ascii_digits}
use Rattle.std.specs.Str.Parse.{AllDigits, IsNumeral, digits_value, signed_digits_value, without_leading_sign, without_leading_plus}
use Rattle.smithy_json_grammar.specs.Ascii.{minus_sign, plus_sign}
use Rattle.smithy_json_grammar.specs.Number.{natural_number}
use Rattle.smithy_types.specs.declared.number.Number.TheVariants.{PosInt, NegInt}
use Rattle.smithy_types.specs.Document.{is_document_number}
use Rattle.smithy_texts.specs.Ranges.{fits_signed}
use Rattle.smithy_json_grammar.specs.HeldNumber.{number_of}

-- ---- digits

value_digit : (d : ℕ) → digit_value d < 10 → is_ascii_digit d ≡ true
value_digit d h = grind (arith, nat_tests)

digit_test_value : (d : ℕ) → is_ascii_digit d ≡ true → digit_value d < 10
digit_test_value d h = grind (arith, nat_tests)

all_from : (ds : List ℕ) → AllDigits 10 ds → all_ascii_digits ds ≡ true
all_from [] h = refl
all_from (d ∷ ds) h = rw (value_digit d h.0, all_from ds h.1) refl

all_to : (ds : List ℕ) → all_ascii_digits ds ≡ true → AllDigits 10 ds
all_to [] h = tt
all_to (d ∷ ds) h = go (is_ascii_digit d) refl (all_to ds)
  where
    go : (digit : Bool) → is_ascii_digit d ≡ digit → (all_ascii_digits ds ≡ true → AllDigits 10 ds) → AllDigits 10 (d ∷ ds)
    go true digit others = (digit_test_value d digit, others (rw digit at h))
    go false digit others = let bad : false ≡ true = rw digit at h in cc

numeral_some : (ds : List ℕ) → IsNumeral 10 ds → natural_number ds ≡ Some (digits_value 10 ds)
numeral_some [] h = absurd (omega (arith, h.0))
numeral_some (d ∷ ds) h = ap (λ all. cond all (Some (digits_value 10 (d ∷ ds))) None) (all_from (d ∷ ds) h.1)

numeral_none : (ds : List ℕ) → (IsNumeral 10 ds → ⊥) → natural_number ds ≡ None
numeral_none [] h = refl
numeral_none (d ∷ ds) h = go (all_ascii_digits (d ∷ ds)) refl
  where
    go : (all : Bool) → all_ascii_digits (d ∷ ds) ≡ all → natural_number (d ∷ ds) ≡ None
    go true all = absurd (h (omega arith, all_to (d ∷ ds) all))
    go false all = ap (λ a. cond a (Some (digits_value 10 (d ∷ ds))) None) all

-- ---- what is held

fits_held : (v : ℕ) → FitsSigned w64 (neg_ℤ (pos v)) → is_document_number (neg_ℤ (pos v)) ≡ true
fits_held zero h = refl
fits_held (suc v) h =
    let below : v < 2 ^ 63 = search (arith, ints) in
    grind (arith, nat_tests)

held_fits : (v : ℕ) → is_document_number (neg_ℤ (pos v)) ≡ true → FitsSigned w64 (neg_ℤ (pos v))
held_fits zero h = search (arith, ints)
held_fits (suc v) h =
    let below : v < 2 ^ 63 = grind (arith, nat_tests) in
    search (arith, ints)

below_held : (v : ℕ) → v < 2 ^ 64 → is_document_number (pos v) ≡ true
below_held v h = grind (arith, nat_tests)

held_below : (v : ℕ) → is_document_number (pos v) ≡ true → v < 2 ^ 64
held_below v h = grind (arith, nat_tests)

numeral_or : (ds : List ℕ) → IsNumeral 10 ds ⊎ (IsNumeral 10 ds → ⊥)
numeral_or [] = inr (λ h. omega (arith, h.0))
numeral_or (d ∷ ds) = go (all_ascii_digits (d ∷ ds)) refl
  where
    go : (all : Bool) → all_ascii_digits (d ∷ ds) ≡ all → IsNumeral 10 (d ∷ ds) ⊎ (IsNumeral 10 (d ∷ ds) → ⊥)
    go true all = inl (omega arith, all_to (d ∷ ds) all)
    go false all = inr (λ h. let bad : false ≡ true = sym all ∙ all_from (d ∷ ds) h.1 in cc)

-- ---- a text that begins with a minus

module _ (ds : List ℕ) where
  -- by its digits
  negative_is : (n : Option ℕ) → natural_number ds ≡ n → number_of (minus_sign ∷ ds) ≡ option_and_then (λ z. cond (is_document_number z) (Some (NegInt z)) None) (option_map (λ v. neg_ℤ (pos v)) n)
  negative_is n e = ap (λ m. option_and_then (λ z. cond (is_document_number z) (Some (NegInt z)) None) (option_map (λ v. neg_ℤ (pos v)) m)) e

  pub negative_read : (z : ℤ) → (IsNumeral 10 ds × FitsSigned w64 (neg_ℤ (pos (digits_value 10 ds)))) × (z ≡ neg_ℤ (pos (digits_value 10 ds))) → Some (NegInt z) ≡ number_of (minus_sign ∷ ds)
  negative_read z h =
      let v = digits_value 10 ds in
      ap (λ y. Some (NegInt y)) h.1
      ∙ sym (negative_is (Some v) (numeral_some ds h.0.0) ∙ ap (λ held. cond held (Some (NegInt (neg_ℤ (pos v)))) None) (fits_held v h.0.1))

  pub negative_refused : (IsNumeral 10 ds × FitsSigned w64 (neg_ℤ (pos (digits_value 10 ds))) → ⊥) → None ≡ number_of (minus_sign ∷ ds)
  negative_refused h = go (numeral_or ds) (is_document_number (neg_ℤ (pos (digits_value 10 ds)))) refl
    where
      go : (IsNumeral 10 ds ⊎ (IsNumeral 10 ds → ⊥)) → (held : Bool) → is_document_number (neg_ℤ (pos (digits_value 10 ds))) ≡ held → None ≡ number_of (minus_sign ∷ ds)
      go (inr none) held k = sym (negative_is None (numeral_none ds none))
      go (inl is) true k = absurd (h (is, held_fits (digits_value 10 ds) k))
      go (inl is) false k = sym (negative_is (Some (digits_value 10 ds)) (numeral_some ds is) ∙ ap (λ held. cond held (Some (NegInt (neg_ℤ (pos (digits_value 10 ds))))) None) k)

-- ---- a text that doesn't begin with a minus

module _ (d : ℕ) (ds : List ℕ) (other : d ≢ minus_sign) where
  no_minus : (d == minus_sign) ≡ false
  no_minus = grind (arith, nat_tests)

  natural_is : (n : Option ℕ) → natural_number (d ∷ ds) ≡ n → number_of (d ∷ ds) ≡ option_and_then (λ z. cond (is_document_number z) (Some (PosInt (unsigned_abs z))) None) (option_map pos n)
  natural_is n e =
      ap (λ m. option_and_then (λ z. cond (is_document_number z) (Some (cond m (NegInt z) (PosInt (unsigned_abs z)))) None) (cond m (option_map (λ v. neg_ℤ (pos v)) (natural_number ds)) (option_map pos (natural_number (d ∷ ds))))) no_minus
      ∙ ap (λ m. option_and_then (λ z. cond (is_document_number z) (Some (PosInt (unsigned_abs z))) None) (option_map pos m)) e

  pub natural_read : (v : ℕ) → (IsNumeral 10 (d ∷ ds) × (digits_value 10 (d ∷ ds) < 2 ^ 64)) × (v ≡ digits_value 10 (d ∷ ds)) → Some (PosInt v) ≡ number_of (d ∷ ds)
  natural_read v h =
      let n = digits_value 10 (d ∷ ds) in
      ap (λ y. Some (PosInt y)) h.1
      ∙ sym (natural_is (Some n) (numeral_some (d ∷ ds) h.0.0) ∙ ap (λ held. cond held (Some (PosInt n)) None) (below_held n h.0.1))

  pub natural_refused : (IsNumeral 10 (d ∷ ds) × (digits_value 10 (d ∷ ds) < 2 ^ 64) → ⊥) → None ≡ number_of (d ∷ ds)
  natural_refused h = go (numeral_or (d ∷ ds)) (is_document_number (pos (digits_value 10 (d ∷ ds)))) refl
    where
      go : (IsNumeral 10 (d ∷ ds) ⊎ (IsNumeral 10 (d ∷ ds) → ⊥)) → (held : Bool) → is_document_number (pos (digits_value 10 (d ∷ ds))) ≡ held → None ≡ number_of (d ∷ ds)
      go (inr none) held k = sym (natural_is None (numeral_none (d ∷ ds) none))
      go (inl is) true k = absurd (h (is, held_below (digits_value 10 (d ∷ ds)) k))
      go (inl is) false k = sym (natural_is (Some (digits_value 10 (d ∷ ds))) (numeral_some (d ∷ ds) is) ∙ ap (λ held. cond held (Some (PosInt (digits_value 10 (d ∷ ds)))) None) k)

-- ---- what `parse` answers

module _ (text : List ℕ) (some : 0 < length text) (first : slice_index text 0 ≡ minus_sign) where
  split : text ≡ minus_sign ∷ drop 1 text
  split = drop_more text 0 0 some ∙ ap (λ b. b ∷ drop 1 text) first

  pub parses_negative : (z : ℤ) → (IsNumeral 10 (without_leading_sign text) × FitsSigned w64 (signed_digits_value 10 text)) × (z ≡ signed_digits_value 10 text) → Some (NegInt z) ≡ number_of text
  parses_negative z h =
      subst (λ t. (IsNumeral 10 (without_leading_sign t) × FitsSigned w64 (signed_digits_value 10 t)) × (z ≡ signed_digits_value 10 t) → Some (NegInt z) ≡ number_of t) (sym split) (negative_read (drop 1 text) z) h

  pub refuses_negative : (IsNumeral 10 (without_leading_sign text) × FitsSigned w64 (signed_digits_value 10 text) → ⊥) → None ≡ number_of text
  refuses_negative h =
      subst (λ t. (IsNumeral 10 (without_leading_sign t) × FitsSigned w64 (signed_digits_value 10 t) → ⊥) → None ≡ number_of t) (sym split) (negative_refused (drop 1 text)) h

no_plus : (b : ℕ) → b ≢ plus_sign → (b == plus_sign) ≡ false
no_plus b h = grind (arith, nat_tests)

module _ (d : ℕ) (ds : List ℕ) (not_minus : d ≢ minus_sign) (not_plus : d ≢ plus_sign) where
  plus_stays : without_leading_plus (d ∷ ds) ≡ d ∷ ds
  plus_stays = ap (λ p. drop (cond p 1 0) (d ∷ ds)) (no_plus d not_plus)

  parses_one : (v : ℕ) → (IsNumeral 10 (without_leading_plus (d ∷ ds)) × (digits_value 10 (without_leading_plus (d ∷ ds)) < 2 ^ 64)) × (v ≡ digits_value 10 (without_leading_plus (d ∷ ds))) → Some (PosInt v) ≡ number_of (d ∷ ds)
  parses_one v h = natural_read d ds not_minus v (subst (λ t. (IsNumeral 10 t × (digits_value 10 t < 2 ^ 64)) × (v ≡ digits_value 10 t)) plus_stays h)

  refuses_one : (IsNumeral 10 (without_leading_plus (d ∷ ds)) × (digits_value 10 (without_leading_plus (d ∷ ds)) < 2 ^ 64) → ⊥) → None ≡ number_of (d ∷ ds)
  refuses_one h = natural_refused d ds not_minus (subst (λ t. IsNumeral 10 t × (digits_value 10 t < 2 ^ 64) → ⊥) plus_stays h)

pub parses_natural : (text : List ℕ) → 0 < length text → slice_index text 0 ≢ minus_sign → slice_index text 0 ≢ plus_sign → (v : ℕ)
    → (IsNumeral 10 (without_leading_plus text) × (digits_value 10 (without_leading_plus text) < 2 ^ 64)) × (v ≡ digits_value 10 (without_leading_plus text)) → Some (PosInt v) ≡ number_of text
parses_natural [] some not_minus not_plus v h = absurd (omega (arith, some))
parses_natural (d ∷ ds) some not_minus not_plus v h = parses_one d ds not_minus not_plus v h

pub refuses_natural : (text : List ℕ) → 0 < length text → slice_index text 0 ≢ minus_sign → slice_index text 0 ≢ plus_sign
    → (IsNumeral 10 (without_leading_plus text) × (digits_value 10 (without_leading_plus text) < 2 ^ 64) → ⊥) → None ≡ number_of text
refuses_natural [] some not_minus not_plus h = absurd (omega (arith, some))
refuses_natural (d ∷ ds) some not_minus not_plus h = refuses_one d ds not_minus not_plus h

-- ---- a number of 64 bits with a sign

pub long_held : (z : ℤ) → fits_signed 64 z ≡ true → is_document_number z ≡ true
long_held (pos n) h = grind (arith, nat_tests)
long_held (negsuc n) h = grind (arith, nat_tests)
