-- A written text of seconds has the form of one, and is read as its instant.
use Rattle.std.proofs.Common.{◌≡◌, ◌-◌, ◌*◌, ◌/◌, ◌%◌, ◌^◌, ◌<◌, ◌&&◌, ℕ, suc, List, [], ◌∷◌, ◌++◌, length, take, drop, Bool, cond, true, false, nat_eq, nat_le, refl, sym, ap, subst, ◌∙◌, arith, Some, None, option_and_then, ℤ, pos, negsuc}
use Rattle.std.specs.Prelude.{is_some}
use Rattle.std.proofs.Math.Seq.{take-append_seam, drop-append_seam, take-length, drop-length}
use Rattle.std.proofs.lemmas.Bool.Decides.{nat_tests}
use Rattle.std.proofs.lemmas.List.{append-nil}
use Rattle.std.specs.Fmt.{decimal, sign_text}
use Rattle.std.specs.List.{position_or_len, before_first}
use Rattle.std.specs.Str.{byte, all_ascii_digits}
use Rattle.smithy_texts.specs.Numeral.{are_digits, magnitude, without_minus}
use Rattle.smithy_texts.specs.Decimal.{is_point}
use Rattle.smithy_instants.specs.Instant.{nanos_per_second, is_instant}
use Rattle.smithy_instants.specs.Epoch.{epoch_nanos}
use Rattle.smithy_instants.specs.DateText.{fraction_nanos, is_epoch_text, where_instant, date_of}
use Rattle.smithy_instants.specs.WrittenDate.{epoch_text, fraction_text, fraction_digits}
use Rattle.smithy_instants.specs.declared.format.Format.TheVariants.{EpochSeconds}
use Rattle.smithy_instants.proofs.DateRoundTrip.{nonzero}
use Rattle.smithy_instants.proofs.EpochRoundTrip.{epoch_text_reads, not_negative, wide_seconds}
use Rattle.smithy_instants.proofs.FractionTexts.{fraction_is}
use Rattle.smithy_instants.proofs.WrittenFractions.{fraction_step}
use Rattle.smithy_texts.proofs.WrittenNumerals.{written_digits, none_in_digits, point_is_no_digit, position-append}

-- digits and an optional fraction, without a sign
record IsSeconds (t : List ℕ) : Type 0 where
  minus : without_minus t ≡ t
  whole : are_digits (before_first is_point t) ≡ true
  fraction : is_some (fraction_nanos (drop (position_or_len is_point t) t)) ≡ true

no_minus : (ds more : List ℕ) → all_ascii_digits ds ≡ true → 0 < length ds → without_minus (ds ++ more) ≡ ds ++ more
no_minus [] more h some = absurd (omega arith)
no_minus (c ∷ ds) more h some = grind (arith, nat_tests)

are_some : (ds : List ℕ) → all_ascii_digits ds ≡ true → 0 < length ds → are_digits ds ≡ true
are_some ds h some = grind (arith, nat_tests)

seconds : (ds : List ℕ) (r : ℕ) → all_ascii_digits ds ≡ true → 0 < length ds → r < 10 ^ 9 → IsSeconds (ds ++ fraction_text 9 r)
unfolding fraction_text
seconds ds r digits some small = by (nat_eq r 0) refl
  where
    by : (t : Bool) → nat_eq r 0 ≡ t → IsSeconds (ds ++ cond t [] (byte "." ∷ fraction_digits 9 r))
    by true e =
        let none = none_in_digits is_point point_is_no_digit ds digits in
        let P : List ℕ → Type 0 = λ t. IsSeconds t in
        subst P (sym (append-nil ds)) (record {
          minus = ap without_minus (sym (append-nil ds)) ∙ no_minus ds [] digits some ∙ append-nil ds;
          whole = ap (λ n. are_digits (take n ds)) none ∙ ap are_digits (take-length ds) ∙ are_some ds digits some;
          fraction = ap (λ n. is_some (fraction_nanos (drop n ds))) none ∙ ap (λ t. is_some (fraction_nanos t)) (drop-length ds);
        })
    by false e =
        let fs = fraction_digits 9 r in
        let f = fraction_is 9 r small in
        let first = ap length (fraction_step 9 r (nonzero r e) (omega arith)) in
        let here : 0 < length fs = omega arith in
        let short = f.short in
        let are = are_some fs f.digits here in
        let tests : (are_digits fs && nat_le (length fs) 9) ≡ true = grind (arith, nat_tests) in
        let t = ds ++ byte "." ∷ fs in
        let place : position_or_len is_point t ≡ length ds = position-append is_point ds (byte ".") fs (none_in_digits is_point point_is_no_digit ds digits) refl in
        record {
          minus = no_minus ds (byte "." ∷ fs) digits some;
          whole = ap (λ n. are_digits (take n t)) place ∙ ap are_digits (take-append_seam ds (byte "." ∷ fs)) ∙ are_some ds digits some;
          fraction = ap (λ n. is_some (fraction_nanos (drop n t))) place ∙ ap (λ l. is_some (fraction_nanos l)) (drop-append_seam ds (byte "." ∷ fs))
              ∙ ap (λ b. is_some (cond b (Some (magnitude fs * 10 ^ (9 - length fs))) None)) tests;
        }

form_of : (t : List ℕ) → IsSeconds t → (are_digits (before_first is_point t) && is_some (fraction_nanos (drop (position_or_len is_point t) t))) ≡ true
form_of t s = ap (λ b. b && is_some (fraction_nanos (drop (position_or_len is_point t) t))) s.whole ∙ s.fraction

written_form : (n : ℤ) → is_instant n ≡ true → is_epoch_text (epoch_text n) ≡ true
written_form (pos a) h =
    let d = written_digits (a / nanos_per_second) (wide_seconds (pos a) h) in
    let t = decimal (a / nanos_per_second) ++ fraction_text 9 (a % nanos_per_second) in
    let s = seconds (decimal (a / nanos_per_second)) (a % nanos_per_second) d.digits d.some (omega arith) in
    ap (λ b. is_epoch_text ((sign_text b ++ decimal (a / nanos_per_second)) ++ fraction_text 9 (a % nanos_per_second))) (not_negative a)
    ∙ ap (λ u. are_digits (before_first is_point u) && is_some (fraction_nanos (drop (position_or_len is_point u) u))) s.minus ∙ form_of t s
written_form (negsuc k) h =
    let a = suc k in
    let d = written_digits (a / nanos_per_second) (wide_seconds (negsuc k) h) in
    let t = decimal (a / nanos_per_second) ++ fraction_text 9 (a % nanos_per_second) in
    form_of t (seconds (decimal (a / nanos_per_second)) (a % nanos_per_second) d.digits d.some (omega arith))

-- the written seconds of an instant are a text of seconds, and are read as it
pub written_seconds_read : (n : ℤ) → is_instant n ≡ true → date_of EpochSeconds (epoch_text n) ≡ Some n
written_seconds_read n h =
    ap (λ t. cond t (option_and_then where_instant (epoch_nanos (epoch_text n))) None) (written_form n h)
    ∙ ap (λ o. option_and_then where_instant o) (epoch_text_reads n h) ∙ ap (λ t. cond t (Some n) None) h
