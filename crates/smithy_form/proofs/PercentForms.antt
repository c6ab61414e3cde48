-- Sides of pairs: what the front of one stands for, and sides in which each byte stands for itself.
use Rattle.std.proofs.Common.{◌≡◌, ◌≢◌, ◌<◌, ◌*◌, ◌+◌, ◌==◌, ◌&&◌, ◌||◌, ℕ, List, [], ◌∷◌, ◌++◌, length, Bool, true, false, Option, Some, None, if◌then◌else◌, refl, sym, ◌∙◌, ap, subst, arith}
use Rattle.std.specs.Char.{digit_value, is_digit}
use Rattle.std.specs.List.{list_any}
use Rattle.std.proofs.lemmas.Bool.Decides.{nat_tests}
use Rattle.std.proofs.lemmas.List.{append-nil, get_or_default}
use Rattle.std.proofs.lemmas.List.Folds.{list_any_none, list_any_at}
use Rattle.std.proofs.lemmas.List.Elements.{All-from_all_within}
use Rattle.std.proofs.lemmas.Bool.{false_from_ne_true}
use Rattle.std.specs.Option.{is_some}
use Rattle.memchr.specs.Find.{IsFirstByte, is_byte2}
use Rattle.percent_encoding.specs.Percent.{percent_decode}
use Rattle.percent_encoding.proofs.PercentLemmas.{percent_decode-nil, percent_decode_escape, percent_decode_not_percent}
use Rattle.smithy_form.specs.Forms.{has_whole_escapes, spaced}
use Rattle.smithy_form.specs.Private.Splitting.{is_coded, BeginsWith}

whole_more : (b : ℕ) (rest : List ℕ) → (b == 37) ≡ false → has_whole_escapes (b ∷ rest) ≡ has_whole_escapes rest
whole_more b [] h = rw h refl
whole_more b (c ∷ []) h = rw h refl
whole_more b (c ∷ d ∷ more) h = rw h refl

pub front_byte : (side rest : List ℕ) (b : ℕ) → side ≡ b ∷ rest → b ≢ 43 → b ≢ 37 → BeginsWith side b rest
front_byte side rest b is plus percent =
    let no_plus : (b == 43) ≡ false = grind (arith, nat_tests) in
    let no_percent : (b == 37) ≡ false = grind (arith, nat_tests) in
    subst (λ s. BeginsWith s b rest) (sym is) (record {
      decoded = rw no_plus (percent_decode_not_percent b (spaced rest) percent);
      whole = whole_more b rest no_percent;
      shorter = omega arith;
    })

pub front_plus : (side rest : List ℕ) (b : ℕ) → side ≡ b ∷ rest → b ≡ 43 → BeginsWith side 32 rest
front_plus side rest b is at =
    subst (λ s. BeginsWith s 32 rest) (sym (is ∙ ap (λ x. x ∷ rest) at)) (record {
      decoded = percent_decode_not_percent 32 (spaced rest) (λ e. omega (arith, e));
      whole = whole_more 43 rest refl;
      shorter = omega arith;
    })

no_plus : (b : ℕ) → is_digit b 16 ≡ true → (b == 43) ≡ false
no_plus b digit = by (b == 43) refl
  where
    by : (t : Bool) → (b == 43) ≡ t → (b == 43) ≡ false
    by false is = is
    by true is =
        let at : b ≡ 43 = grind (arith, nat_tests) in
        let no : true ≡ false = sym digit ∙ ap (λ c. is_digit c 16) at in cc

escape : (high low : ℕ) (rest : List ℕ) → is_digit high 16 ≡ true → is_digit low 16 ≡ true
    → BeginsWith (37 ∷ high ∷ low ∷ rest) (16 * digit_value high + digit_value low) rest
escape high low rest first second =
    let small : digit_value high < 16 = grind (arith, nat_tests) in
    let small_too : digit_value low < 16 = grind (arith, nat_tests) in record {
      decoded = rw (no_plus high first, no_plus low second) (percent_decode_escape 37 high low (spaced rest) refl small small_too);
      whole = rw (first, second) refl;
      shorter = omega arith;
    }

pub front_escape : (side rest : List ℕ) (b high low v : ℕ) → side ≡ b ∷ high ∷ low ∷ rest → b ≡ 37
    → Some v ≡ (if is_digit high 16 && is_digit low 16 then Some (16 * digit_value high + digit_value low) else None) → BeginsWith side v rest
front_escape side rest b high low v is at found =
    subst (λ s. BeginsWith s v rest) (sym (is ∙ ap (λ x. x ∷ high ∷ low ∷ rest) at)) (by (is_digit high 16) (is_digit low 16) refl refl found)
  where
    by : (x y : Bool) → is_digit high 16 ≡ x → is_digit low 16 ≡ y → Some v ≡ (if x && y then Some (16 * digit_value high + digit_value low) else None)
        → BeginsWith (37 ∷ high ∷ low ∷ rest) v rest
    by true true first second found =
        let value : v ≡ 16 * digit_value high + digit_value low = cc in
        subst (λ n. BeginsWith (37 ∷ high ∷ low ∷ rest) n rest) (sym value) (escape high low rest first second)
    by true false first second found = absurd (cc)
    by false y first second found = absurd (cc)

-- a side that was read to its end
pub all_decoded : (side done rest : List ℕ) → done ++ percent_decode (spaced rest) ≡ percent_decode (spaced side) → has_whole_escapes rest ≡ has_whole_escapes side → length rest ≡ 0
    → Some done ≡ (if has_whole_escapes side then Some (percent_decode (spaced side)) else None)
all_decoded side done [] decoded whole end =
    let text : percent_decode (spaced side) ≡ done = sym decoded ∙ ap (λ r. done ++ r) percent_decode-nil ∙ append-nil done in
    rw (sym whole, text) refl
all_decoded side done (b ∷ rest) decoded whole end = absurd (omega (arith, end))

-- where each byte stands for itself, the side is its text
pub stands_for_itself : (side : List ℕ) → list_any is_coded side ≡ false → (percent_decode (spaced side) ≡ side) × (has_whole_escapes side ≡ true)
stands_for_itself [] none = (percent_decode-nil, refl)
stands_for_itself (b ∷ side) none =
    let split = parts (b == 37) (b == 43) (list_any is_coded side) none in
    let more = stands_for_itself side split.2 in
    let apart : b ≢ 37 = let h = split.0 in grind (arith, nat_tests) in
    (rw split.1 (percent_decode_not_percent b (spaced side) apart ∙ ap (λ r. b ∷ r) more.0), whole_more b side split.0 ∙ more.1)
  where
    parts : (x y z : Bool) → ((x || y) || z) ≡ false → (x ≡ false) × (y ≡ false) × (z ≡ false)
    parts false false false h = (refl, refl, refl)
    parts true y z h = cc
    parts false true z h = cc
    parts false false true h = cc

-- a search for `%` and `+` finds whether some byte is coded
pub coded_found : (side : List ℕ) (place : Option ℕ) → IsFirstByte (is_byte2 37 43) side place → is_some place ≡ list_any is_coded side
coded_found side None none =
    sym (list_any_none is_coded side (All-from_all_within (λ b. is_coded b ≡ false) side
    (λ k d low high. ap is_coded (get_or_default side k d 0 high) ∙ false_from_ne_true _ (none k low high))))
coded_found side (Some k) found = sym (list_any_at is_coded side k 0 found.0.high found.1)
