-- A written date-time is read as its instant.
use Rattle.std.proofs.Common.{◌≡◌, ◌+◌, ◌-◌, ◌*◌, ◌/◌, ◌%◌, ◌^◌, ◌<◌, ◌&&◌, ℕ, suc, List, [], ◌∷◌, ◌++◌, length, take, drop, Bool, cond, true, false, nat_eq, nat_lt, nat_le, refl, sym, ap, ◌∙◌, arith, Option, Some, None, codes, ℤ, pos, ◌*ℤ◌, ◌+ℤ◌, ◌-ℤ◌, eqb-true, option_map}
use Rattle.std.specs.Prelude.{is_some}
use Rattle.std.proofs.Math.Seq.{take-append_seam, drop-append_seam}
use Rattle.std.proofs.Math.Nat.{mul_assoc}
use Rattle.std.proofs.lemmas.Bool.Decides.{nat_tests}
use Rattle.std.proofs.lemmas.Nat.{pow-add}
use Rattle.std.specs.Char.{is_ascii_digit}
use Rattle.std.specs.List.{prefix_len}
use Rattle.std.specs.Str.{byte, all_ascii_digits}
use Rattle.smithy_texts.specs.Numeral.{are_digits, magnitude}
use Rattle.smithy_instants.specs.Instant.{nanos_per_second, subsecond_of}
use Rattle.smithy_instants.specs.Calendar.{CivilDate, day_number, civil_date}
use Rattle.smithy_instants.specs.DateText.{begins_date_time, clock_seconds, fraction_length, fraction_nanos, offset_of, instant_of, date_time_nanos}
use Rattle.smithy_instants.specs.declared.format.Format.TheVariants.{DateTime}
use Rattle.jiff_core.proofs.SignedLemmas.{signed_arith}
use Rattle.smithy_instants.specs.WrittenDate.{fraction_digits, fraction_text, day_text, clock_text, date_time_text, day_of, second_of_day, written_date_time, holds}
use Rattle.jiff_core.specs.Calendar.{IsCivilDate}
use Rattle.jiff_core.proofs.CalendarLemmas.{days_in_month_bounds}
use Rattle.smithy_instants.proofs.CalendarLemmas.{IsDateOf, day_number_of, date_holds}
use Rattle.smithy_instants.proofs.FractionTexts.{IsFraction, fraction_is}
use Rattle.smithy_instants.proofs.WrittenFractions.{fraction_step}
use Rattle.smithy_instants.proofs.LayoutLemmas.{date_time_is}

-- digits before another byte
prefix_digits : (ds : List ℕ) (z : ℕ) (ys : List ℕ) → all_ascii_digits ds ≡ true → is_ascii_digit z ≡ false → prefix_len is_ascii_digit (ds ++ z ∷ ys) ≡ length ds
prefix_digits [] z ys h n = ap (λ t. cond t (1 + prefix_len is_ascii_digit ys) 0) n
prefix_digits (c ∷ ds) z ys h n = by (is_ascii_digit c) h (λ h. prefix_digits ds z ys h n)
  where
    by : (t : Bool) → (t && all_ascii_digits ds) ≡ true → (all_ascii_digits ds ≡ true → prefix_len is_ascii_digit (ds ++ z ∷ ys) ≡ length ds)
        → cond t (1 + prefix_len is_ascii_digit (ds ++ z ∷ ys)) 0 ≡ suc (length ds)
    by true h ih = let e = ih h in omega arith
    by false h ih = cc

-- what stands at the front of a text is this fraction, and then the rest
pub record IsFractionFront (text rest : List ℕ) (nanos : ℕ) : Type 0 where
  pub value : fraction_nanos (take (fraction_length text) text) ≡ Some nanos
  pub behind : drop (fraction_length text) text ≡ rest

three_more : (m k : ℕ) → m * 10 ^ (k + 3) ≡ m * 10 ^ k * 1000
three_more m k = ap (λ p. m * p) (pow-add 10 k 3) ∙ sym (mul_assoc m (10 ^ k) 1000)

digits_front : (ds : List ℕ) (z : ℕ) (ys : List ℕ) (n : ℕ) → IsFraction ds 6 n → 0 < length ds → is_ascii_digit z ≡ false
    → IsFractionFront (byte "." ∷ (ds ++ z ∷ ys)) (z ∷ ys) (n * 1000)
digits_front ds z ys n f some no_digit =
    let text = byte "." ∷ (ds ++ z ∷ ys) in
    let size : fraction_length text ≡ suc (length ds) = (let e = prefix_digits ds z ys f.digits no_digit in omega arith) in
    let front : take (fraction_length text) text ≡ byte "." ∷ ds = ap (λ k. take k text) size ∙ ap (λ l. byte "." ∷ l) (take-append_seam ds (z ∷ ys)) in
    let rest : drop (fraction_length text) text ≡ z ∷ ys = ap (λ k. drop k text) size ∙ drop-append_seam ds (z ∷ ys) in
    let short = f.short in
    let tests : (are_digits ds && nat_le (length ds) 9) ≡ true = (let d = f.digits in grind (arith, nat_tests)) in
    let left : 9 - length ds ≡ 6 - length ds + 3 = omega arith in
    let scale : magnitude ds * 10 ^ (9 - length ds) ≡ n * 1000 = ap (λ k. magnitude ds * 10 ^ k) left ∙ three_more (magnitude ds) (6 - length ds) ∙ ap (λ m. m * 1000) f.value in
    record {
      value = ap fraction_nanos front ∙ ap (λ t. cond t (Some (magnitude ds * 10 ^ (9 - length ds))) None) tests ∙ ap Some scale;
      behind = rest;
    }

pub nonzero : (n : ℕ) → nat_eq n 0 ≡ false → 0 < n
nonzero n e = grind (arith, nat_tests)

-- a written fraction of microseconds before another byte
pub fraction_front : (n : ℕ) (z : ℕ) (ys : List ℕ) → n < 10 ^ 6 → is_ascii_digit z ≡ false → nat_eq z (byte ".") ≡ false
    → IsFractionFront (fraction_text 6 n ++ z ∷ ys) (z ∷ ys) (n * 1000)
unfolding fraction_text
fraction_front n z ys small no_digit no_point = by (nat_eq n 0) refl
  where
    by : (t : Bool) → nat_eq n 0 ≡ t → IsFractionFront (cond t [] (byte "." ∷ fraction_digits 6 n) ++ z ∷ ys) (z ∷ ys) (n * 1000)
    by true e =
        let none : n ≡ 0 = eqb-true n 0 e in
        let size : fraction_length (z ∷ ys) ≡ 0 = ap (λ t. cond t (1 + prefix_len is_ascii_digit ys) 0) no_point in
        record {
          value = ap (λ k. fraction_nanos (take k (z ∷ ys))) size ∙ ap Some (omega arith);
          behind = ap (λ k. drop k (z ∷ ys)) size;
        }
    by false e =
        let some : 0 < n = nonzero n e in
        let first = ap length (fraction_step 6 n some (omega arith)) in
        digits_front (fraction_digits 6 n) z ys n (fraction_is 6 n small) (omega arith) no_digit

-- nineteen bytes of a date and a clock
abbrev date_front : (a b c d e f g h i j k l m n : ℕ) → List ℕ → List ℕ
date_front a b c d e f g h i j k l m n rest =
    (48 + a % 10) ∷ (48 + b % 10) ∷ (48 + c % 10) ∷ (48 + d % 10) ∷ 45 ∷ (48 + e % 10) ∷ (48 + f % 10) ∷ 45 ∷ (48 + g % 10) ∷ (48 + h % 10)
    ∷ 84 ∷ (48 + i % 10) ∷ (48 + j % 10) ∷ 58 ∷ (48 + k % 10) ∷ (48 + l % 10) ∷ 58 ∷ (48 + m % 10) ∷ (48 + n % 10) ∷ rest

pub digit : (x : ℕ) → is_ascii_digit (48 + x % 10) ≡ true
digit x = grind (arith, nat_tests)

pub and_true : (t u : Bool) → t ≡ true → u ≡ true → (t && u) ≡ true
and_true true u h k = k
and_true false u h k = h

front_begins : (a b c d e f g h i j k l m n : ℕ) (rest : List ℕ) → begins_date_time (date_front a b c d e f g h i j k l m n rest) ≡ true
front_begins a b c d e f g h i j k l m n rest =
    and_true _ _ (and_true _ _ (digit a) (and_true _ _ (digit b) (and_true _ _ (digit c) (and_true _ _ (digit d) (and_true _ _ (digit e) (and_true _ _ (digit f)
    (and_true _ _ (digit g) (and_true _ _ (digit h) (and_true _ _ (digit i) (and_true _ _ (digit j) (and_true _ _ (digit k) (and_true _ _ (digit l)
    (and_true _ _ (digit m) (and_true _ _ (digit n) refl)))))))))))))) refl

-- the text as its front and what comes after
shape : (c : CivilDate) (s nanos : ℕ) → date_time_text c s nanos
    ≡ date_front (c.year / 10 / 10 / 10) (c.year / 10 / 10) (c.year / 10) c.year (c.month / 10) c.month (c.day / 10) c.day
    (s / 3600 / 10) (s / 3600) (s / 60 % 60 / 10) (s / 60 % 60) (s % 60 / 10) (s % 60) (fraction_text 6 (nanos / 1000) ++ codes "Z")
unfolding day_text clock_text
shape c s nanos = refl

pub four : (y : ℕ) → y < 10_000 → y ≡ ((48 + y / 10 / 10 / 10 % 10 - 48) * 10 + (48 + y / 10 / 10 % 10 - 48)) * 100 + ((48 + y / 10 % 10 - 48) * 10 + (48 + y % 10 - 48))
four y h = omega arith

pub two : (x : ℕ) → x < 100 → x ≡ (48 + x / 10 % 10 - 48) * 10 + (48 + x % 10 - 48)
two x h = omega arith

pub clock_is : (s : ℕ) → s < 86_400 → clock_seconds (s / 3600) (s / 60 % 60) (s % 60) ≡ Some s
clock_is s h =
    let tests : (nat_lt (s / 3600) 24 && nat_lt (s / 60 % 60) 60 && nat_lt (s % 60) 60) ≡ true = grind (arith, nat_tests) in
    let sum : s / 3600 * 3600 + s / 60 % 60 * 60 + s % 60 ≡ s = omega arith in
    ap (λ t. cond t (Some (s / 3600 * 3600 + s / 60 % 60 * 60 + s % 60)) None) tests ∙ ap Some sum

pub month_short : (y : ℤ) (m d : ℕ) → IsCivilDate y m d → (m < 100) × (d < 100)
month_short y m d h = (let month = h.1 in omega arith, let last = h.2 in omega (arith, (days_in_month_bounds y m).0))

pub date_time_reads : (others : Bool) → offset_of others (codes "Z") ≡ Some (pos 0) → (day : ℤ) (c : CivilDate) (s nanos : ℕ) → IsDateOf day c → s < 86_400 → nanos < nanos_per_second → nanos % 1000 ≡ 0
    → date_time_nanos (offset_of others) (date_time_text c s nanos) ≡ Some ((day *ℤ pos 86_400 +ℤ pos s -ℤ pos 0) *ℤ pos nanos_per_second +ℤ pos nanos)
date_time_reads others zone day c s nanos d small below whole =
    let rest = fraction_text 6 (nanos / 1000) ++ codes "Z" in
    let text = date_front (c.year / 10 / 10 / 10) (c.year / 10 / 10) (c.year / 10) c.year (c.month / 10) c.month (c.day / 10) c.day
    (s / 3600 / 10) (s / 3600) (s / 60 % 60 / 10) (s / 60 % 60) (s % 60 / 10) (s % 60) rest in
    let size = fraction_length rest in
    let front : IsFractionFront rest (codes "Z") (nanos / 1000 * 1000) = fraction_front (nanos / 1000) 90 [] (omega arith) refl refl in
    let short = month_short (pos c.year) c.month c.day d.date in
    let reads = date_time_is others text c.year c.month c.day (s / 3600) (s / 60 % 60) (s % 60) size
    (day_number c.year c.month c.day) (clock_seconds (s / 3600) (s / 60 % 60) (s % 60)) (fraction_nanos (take size rest)) (offset_of others (drop size rest))
    (front_begins (c.year / 10 / 10 / 10) (c.year / 10 / 10) (c.year / 10) c.year (c.month / 10) c.month (c.day / 10) c.day
    (s / 3600 / 10) (s / 3600) (s / 60 % 60 / 10) (s / 60 % 60) (s % 60 / 10) (s % 60) rest) (four c.year d.year) (two c.month short.0) (two c.day short.1)
    (two (s / 3600) (omega arith)) (two (s / 60 % 60) (omega arith)) (two (s % 60) (omega arith)) refl refl refl refl refl in
    let n : nanos / 1000 * 1000 ≡ nanos = omega arith in
    let nanos_is : fraction_nanos (take size rest) ≡ Some nanos = front.value ∙ ap Some n in
    let offset_is : offset_of others (drop size rest) ≡ Some (pos 0) = ap (offset_of others) front.behind ∙ zone in
    ap (date_time_nanos (offset_of others)) (shape c s nanos) ∙ sym reads
    ∙ ap (λ x. instant_of x (clock_seconds (s / 3600) (s / 60 % 60) (s % 60)) (fraction_nanos (take size rest)) (offset_of others (drop size rest))) (day_number_of day c d)
    ∙ ap (λ x. instant_of (Some day) x (fraction_nanos (take size rest)) (offset_of others (drop size rest))) (clock_is s small)
    ∙ ap (λ x. instant_of (Some day) (Some s) x (offset_of others (drop size rest))) nanos_is
    ∙ ap (λ x. instant_of (Some day) (Some s) (Some nanos) x) offset_is

-- an instant is its day, the seconds of this day and the nanoseconds of this second
pub instant_parts : (n : ℤ) → (day_of n *ℤ pos 86_400 +ℤ pos (second_of_day n) -ℤ pos 0) *ℤ pos nanos_per_second +ℤ pos (subsecond_of n) ≡ n
instant_parts n = omega (arith, signed_arith)

pub second_below : (n : ℤ) → second_of_day n < 86_400
second_below n = omega (arith, signed_arith)

nanos_below : (n : ℤ) → subsecond_of n < nanos_per_second
nanos_below n = omega (arith, signed_arith)

abbrev pub text_or : List ℕ → Option (List ℕ) → List ℕ
text_or d None = d
text_or d (Some t) = t

-- the written date-time of an instant that it holds is read as this instant
pub written_date_time_reads : (others : Bool) → offset_of others (codes "Z") ≡ Some (pos 0) → (n : ℤ) (text : List ℕ) → holds DateTime n ≡ true → written_date_time n ≡ Some text → date_time_nanos (offset_of others) text ≡ Some n
written_date_time_reads others zone n text h written = by (civil_date (day_of n)) refl written
  where
    micros : (t u : Bool) → (t && u) ≡ true → t ≡ true
    micros true u e = refl
    micros false u e = e

    by : (o : Option CivilDate) → civil_date (day_of n) ≡ o → option_map (λ d. date_time_text d (second_of_day n) (subsecond_of n)) o ≡ Some text → date_time_nanos (offset_of others) text ≡ Some n
    by None e w = let same : None ≡ Some text = w in absurd (cc)
    by (Some c) e w =
        let same : date_time_text c (second_of_day n) (subsecond_of n) ≡ text = ap (text_or []) w in
        let whole : subsecond_of n % 1000 ≡ 0 = eqb-true _ 0 (micros (nat_eq (subsecond_of n % 1000) 0) (is_some (civil_date (day_of n))) h) in
        let reads = date_time_reads others zone (day_of n) c (second_of_day n) (subsecond_of n) (date_holds (day_of n) c e) (second_below n) (nanos_below n) whole in
        ap (date_time_nanos (offset_of others)) (sym same) ∙ reads ∙ ap Some (instant_parts n)
