-- The date with a day number, by the kit's count of days.
use Rattle.std.proofs.Common.{◌≡◌, ℕ, zero, suc, ◌+◌, ◌-◌, ◌<◌, ◌≤◌, refl, sym, ◌∙◌, ap, subst, arith, cond, true, false, nat_lt, ◌&&◌, ℤ, pos, negsuc, ◌-ℤ◌, ◌<ℤ◌, Some, None, Option, option_map, option_and_then, ◌⊎◌, inl, inr, ◌≤ℤ◌, unsigned_abs}
use borrow.Author.Differences.{up, down}
use Rattle.std.proofs.lemmas.Bool.{cases_lt}
use Rattle.std.proofs.lemmas.Bool.Decides.{nat_tests}
use Rattle.std.specs.List.{range_with_len}
use Rattle.std.specs.Int.{IsInRange, is_in_range}
use Rattle.jiff_core.proofs.SignedLemmas.{signed_arith}
use Rattle.jiff_core.proofs.CalendarLemmas.{day_count-next_year, day_count-day_of_year, days_from_civil-day_count, day_of_year_bound, days_of_months_more, days_of_months-zero, day_count-end, day_count-lt_year, day_count-year_bounds}
use Rattle.jiff_core.specs.Calendar.{days_in_year, days_in_month, days_of_months, day_of_year, day_count, days_from_civil, IsCivilDate, IsEpochDay}
use Rattle.smithy_instants.specs.Calendar.{part_of_day, CivilDate, date_in_year, date_since_year_zero, civil_date, day_number}

-- F sums f from `low` on
abbrev pub IsSumFrom : ℕ → (ℕ → ℕ) → (ℕ → ℕ) → Type 0
IsSumFrom low F f = (k : ℕ) → low ≤ k → F (suc k) ≡ F k + f k

-- sums over parts never fall
grows : (F f : ℕ → ℕ) (low : ℕ) → IsSumFrom low F f → (s j : ℕ) → low ≤ s → F s ≤ F (s + j)
grows F f low next s zero h = let e : F (s + 0) ≡ F s = ap F (omega arith) in omega arith
grows F f low next s (suc j) h =
    let e : F (s + suc j) ≡ F (suc (s + j)) = ap F (omega arith) in
    omega (arith, next (s + j) (omega arith), grows F f low next s j h)

later : (F f : ℕ → ℕ) (low : ℕ) → IsSumFrom low F f → (s k : ℕ) → low ≤ s → s < k → F s + f s ≤ F k
later F f low next s k l h =
    let e : F (suc s + (k - suc s)) ≡ F k = ap F (omega arith) in
    omega (arith, next s l, grows F f low next (suc s) (k - suc s) (omega arith))

-- what is answered from the part s on
abbrev answer : (ℕ → ℕ) → ℕ → ℕ → ℕ → Option (ℕ × ℕ)
answer f s n d = cond (nat_lt d (f s)) (Some (s, d)) (part_of_day f (range_with_len (s + 1) n) (d - f s))

in_first : (F f : ℕ → ℕ) (s n k r : ℕ) → s ≡ k → r < f k → answer f s n (F k - F s + r) ≡ Some (k, r)
in_first F f s n k r e within =
    let first : F k ≡ F s = ap F (sym e) in
    let size : f s ≡ f k = ap f e in
    let d_is : F k - F s + r ≡ r = omega arith in
    let test : nat_lt r (f s) ≡ true = grind (arith, nat_tests) in
    ap (answer f s n) d_is ∙ ap (λ t. cond t (Some (s, r)) (part_of_day f (range_with_len (s + 1) n) (r - f s))) test ∙ ap (λ x. Some (x, r)) e

in_rest : (F f : ℕ → ℕ) (low : ℕ) → IsSumFrom low F f → (s n k r : ℕ) → low ≤ s → s < k
    → part_of_day f (range_with_len (s + 1) n) (F k - F (s + 1) + r) ≡ Some (k, r) → answer f s n (F k - F s + r) ≡ Some (k, r)
in_rest F f low next s n k r l h ih =
    let one : F (s + 1) ≡ F (suc s) = ap F (omega arith) in
    let step = next s l in
    let past = later F f low next s k l h in
    let d = F k - F s + r in
    let past_first : f s ≤ d = omega arith in
    let test : nat_lt d (f s) ≡ false = grind (arith, nat_tests) in
    let rest : d - f s ≡ F k - F (s + 1) + r = omega arith in
    ap (λ t. cond t (Some (s, d)) (part_of_day f (range_with_len (s + 1) n) (d - f s))) test ∙ ap (λ x. part_of_day f (range_with_len (s + 1) n) x) rest ∙ ih

-- the part k holds the day that comes r days after its first
pub part_found : (F f : ℕ → ℕ) (low : ℕ) → IsSumFrom low F f → (n s k r : ℕ) → low ≤ s → s ≤ k → k < s + n → r < f k
    → part_of_day f (range_with_len s n) (F k - F s + r) ≡ Some (k, r)
part_found F f low next zero s k r l from high within = absurd (omega arith)
part_found F f low next (suc n) s k r l from high within = by (cases_lt s k) (λ a h. part_found F f low next n (s + 1) k r (omega arith) a h within)
  where
    by : (s < k) ⊎ (k ≤ s) → (s + 1 ≤ k → k < s + 1 + n → part_of_day f (range_with_len (s + 1) n) (F k - F (s + 1) + r) ≡ Some (k, r)) → answer f s n (F k - F s + r) ≡ Some (k, r)
    by (inl h) ih = in_rest F f low next s n k r l h (ih (omega arith) (omega arith))
    by (inr h) ih = in_first F f s n k r (omega arith) within

-- no part holds a day that comes after all of them
pub part_missing : (F f : ℕ → ℕ) (low : ℕ) → IsSumFrom low F f → (n s d : ℕ) → low ≤ s → F (s + n) ≤ F s + d → part_of_day f (range_with_len s n) d ≡ None
part_missing F f low next zero s d l h = refl
part_missing F f low next (suc n) s d l h =
    let e : F (s + 1 + n) ≡ F (s + suc n) = ap F (omega arith) in
    let one : F (s + 1) ≡ F (suc s) = ap F (omega arith) in
    let step = next s l in
    let up = grows F f low next (s + 1) n (omega arith) in
    let past : f s ≤ d = omega arith in
    let test : nat_lt d (f s) ≡ false = grind (arith, nat_tests) in
    ap (λ t. cond t (Some (s, d)) (part_of_day f (range_with_len (s + 1) n) (d - f s))) test ∙ part_missing F f low next n (s + 1) (d - f s) (omega arith) (omega arith)

-- the first days of the years from 0 on
abbrev first_day : ℕ → ℕ
first_day y = day_count (pos y) 1 1

next_year : IsSumFrom 0 first_day (λ y. days_in_year (pos y))
next_year y l = day_count-next_year (pos y) (pos (suc y)) (omega (arith, signed_arith)) (omega (arith, signed_arith))

-- how many days of a year come before the months, from 1 on
abbrev before_month : ℤ → ℕ → ℕ
before_month y m = days_of_months y (m - 1)

next_month : (y : ℤ) → IsSumFrom 1 (before_month y) (days_in_month y)
next_month y m l =
    let a : suc m - 1 ≡ m = omega arith in
    ap (days_of_months y) a ∙ days_of_months_more y m l

-- a date in its year
in_year : (y m d : ℕ) → IsCivilDate (pos y) m d → date_in_year y (day_of_year (pos y) m d - 1) ≡ Some (record { year = y; month = m; day = d })
in_year y m d h =
    let z = pos y in
    let month = h.1 in
    let day = h.2 in
    let found = part_found (before_month z) (days_in_month z) 1 (next_month z) 12 1 m (d - 1) (omega arith) (omega arith) (omega arith) (omega arith) in
    let none : before_month z 1 ≡ 0 = ap (days_of_months z) (omega arith) ∙ days_of_months-zero z in
    let place : before_month z m - before_month z 1 + (d - 1) ≡ day_of_year z m d - 1 = omega arith in
    let same : d - 1 + 1 ≡ d = omega arith in
    ap (λ n. date_in_year y n) (sym place) ∙ ap (λ o. option_map (λ (p : ℕ × ℕ). record { year = y; month = p.0; day = p.1 + 1 }) o) found
    ∙ ap (λ (n : ℕ). Some (record { year = y; month = m; day = n })) same

-- how many days a date comes after 1 January of the year 0
since_zero : (y m d : ℕ) → IsCivilDate (pos y) m d → days_from_civil (pos y) m d -ℤ days_from_civil (pos 0) 1 1 ≡ pos (first_day y - first_day 0 + (day_of_year (pos y) m d - 1))
since_zero y m d h =
    let up = grows first_day (λ y. days_in_year (pos y)) 0 next_year 0 y (omega arith) in
    let e : first_day (0 + y) ≡ first_day y = ap first_day (omega arith) in
    let a = days_from_civil-day_count (pos y) m d in
    let b = days_from_civil-day_count (pos 0) 1 1 in
    let c = day_count-day_of_year (pos y) m d h.2.0 in
    omega (arith, signed_arith)

-- the date with the day number of a date is this date
pub civil_date_found : (y m d : ℕ) → y < 10000 → IsCivilDate (pos y) m d → civil_date (days_from_civil (pos y) m d) ≡ Some (record { year = y; month = m; day = d })
civil_date_found y m d small h =
    let r = day_of_year (pos y) m d - 1 in
    let within = day_of_year_bound (pos y) m d h in
    let first = h.2.0 in
    let found = part_found first_day (λ y. days_in_year (pos y)) 0 next_year 10000 0 y r (omega arith) (omega arith) (omega arith) (omega arith) in
    ap date_since_year_zero (since_zero y m d h) ∙ ap (λ o. option_and_then (λ (p : ℕ × ℕ). date_in_year p.0 p.1) o) found ∙ in_year y m d h

-- nothing comes before the year 0
before_zero : (z : ℤ) → z <ℤ pos 0 → date_since_year_zero z ≡ None
before_zero (pos n) h = absurd (omega (arith, signed_arith))
before_zero (negsuc n) h = refl

-- nor after the year 9999
after_all : (z : ℤ) (n : ℕ) → z ≡ pos n → first_day 10000 ≤ first_day 0 + n → date_since_year_zero z ≡ None
after_all z n e h =
    ap date_since_year_zero e ∙ ap (λ o. option_and_then (λ (p : ℕ × ℕ). date_in_year p.0 p.1) o) (part_missing first_day (λ y. days_in_year (pos y)) 0 next_year 10000 0 n (omega arith) h)

-- the date with a date's day number
pub civil_date_of : (y : ℤ) (m d : ℕ) (day : ℤ) → IsCivilDate y m d → pos 0 ≤ℤ y → days_from_civil y m d ≡ day
    → civil_date day ≡ Some (record { year = unsigned_abs y; month = m; day = d })
civil_date_of (pos y) m d day h low e =
    let year = h.0 in ap civil_date (sym e) ∙ civil_date_found y m d (omega (arith, signed_arith)) h
civil_date_of (negsuc y) m d day h low e = absurd (omega (arith, signed_arith))

-- a date before the year 0
pub civil_date_early : (y : ℤ) (m d : ℕ) (day : ℤ) → IsCivilDate y m d → y <ℤ pos 0 → days_from_civil y m d ≡ day → civil_date day ≡ None
civil_date_early y m d day h low e =
    let lt = day_count-lt_year y m d (pos 0) 1 1 h (omega arith) low in
    let a = days_from_civil-day_count y m d in
    let b = days_from_civil-day_count (pos 0) 1 1 in
    ap civil_date (sym e) ∙ before_zero (days_from_civil y m d -ℤ days_from_civil (pos 0) 1 1) (omega (arith, signed_arith))

-- no date that the kit has
pub civil_date_outside : (day : ℤ) → ¬ (IsEpochDay day) → civil_date day ≡ None
civil_date_outside day outside = by (cases_lt (up day + 4_371_587) (down day)) (cases_lt (down day + 2_932_896) (up day)) (day_count-year_bounds (pos 0) (omega (arith, signed_arith), omega (arith, signed_arith))) (days_from_civil-day_count (pos 0) 1 1)
  where
    by : (up day + 4_371_587 < down day) ⊎ (down day ≤ up day + 4_371_587) → (down day + 2_932_896 < up day) ⊎ (up day ≤ down day + 2_932_896)
        → (366 ≤ first_day 0) × (first_day 0 + days_in_year (pos 0) ≤ 7_304_850)
        → up (days_from_civil (pos 0) 1 1) + 4_371_953 ≡ down (days_from_civil (pos 0) 1 1) + first_day 0 → civil_date day ≡ None
    by (inl early) late bounds b = before_zero (day -ℤ days_from_civil (pos 0) 1 1) (omega (arith, signed_arith))
    by (inr early) (inl late) bounds b = after_all (day -ℤ days_from_civil (pos 0) 1 1) (up day + 4_371_953 - down day - first_day 0) (omega (arith, signed_arith)) (omega (arith, day_count-end))
    by (inr early) (inr late) bounds b = absurd (outside (omega (arith, signed_arith), omega (arith, signed_arith)))

-- where a day lies, and in which part
pub record IsPart (F f : ℕ → ℕ) (n s d k r : ℕ) : Type 0 where
  pub from : s ≤ k
  pub to : k < s + n
  pub within : r < f k
  pub day : F k + r ≡ F s + d

abbrev found_part : Option (ℕ × ℕ) → ℕ
found_part None = 0
found_part (Some p) = p.0

abbrev found_rest : Option (ℕ × ℕ) → ℕ
found_rest None = 0
found_rest (Some p) = p.1

-- a part that was found holds the day
pub part_holds : (F f : ℕ → ℕ) (low : ℕ) → IsSumFrom low F f → (n s d k r : ℕ) → low ≤ s → part_of_day f (range_with_len s n) d ≡ Some (k, r) → IsPart F f n s d k r
part_holds F f low next zero s d k r l found = let e : None ≡ Some (k, r) = found in absurd (cc)
part_holds F f low next (suc n) s d k r l found = by (cases_lt d (f s)) (part_holds F f low next n (s + 1) (d - f s) k r (omega arith)) found
  where
    by : (d < f s) ⊎ (f s ≤ d) → (part_of_day f (range_with_len (s + 1) n) (d - f s) ≡ Some (k, r) → IsPart F f n (s + 1) (d - f s) k r) → answer f s n d ≡ Some (k, r) → IsPart F f (suc n) s d k r
    by (inl h) ih found =
        let test : nat_lt d (f s) ≡ true = grind (arith, nat_tests) in
        let same : Some (s, d) ≡ Some (k, r) = sym (ap (λ t. cond t (Some (s, d)) (part_of_day f (range_with_len (s + 1) n) (d - f s))) test) ∙ found in
        let part : s ≡ k = ap found_part same in
        let rest : d ≡ r = ap found_rest same in
        let size : f s ≡ f k = ap f part in
        let first : F s ≡ F k = ap F part in
        record { from = omega arith; to = omega arith; within = omega arith; day = omega arith }
    by (inr h) ih found =
        let test : nat_lt d (f s) ≡ false = grind (arith, nat_tests) in
        let i = ih (sym (ap (λ t. cond t (Some (s, d)) (part_of_day f (range_with_len (s + 1) n) (d - f s))) test) ∙ found) in
        let one : F (s + 1) ≡ F (suc s) = ap F (omega arith) in
        let step = next s l in
        record { from = omega (arith, i.from); to = omega (arith, i.to); within = i.within; day = omega (arith, i.day) }

abbrev found_year : Option CivilDate → ℕ
found_year None = 0
found_year (Some c) = c.year

abbrev found_month : Option CivilDate → ℕ
found_month None = 0
found_month (Some c) = c.month

abbrev found_day : Option CivilDate → ℕ
found_day None = 0
found_day (Some c) = c.day

-- a date that was found has the day number
pub record IsDateOf (day : ℤ) (c : CivilDate) : Type 0 where
  pub year : c.year < 10000
  pub date : IsCivilDate (pos c.year) c.month c.day
  pub number : days_from_civil (pos c.year) c.month c.day ≡ day

in_year_holds : (y n : ℕ) (c : CivilDate) → date_in_year y n ≡ Some c → (c.year ≡ y) × IsInRange 1 12 c.month × IsInRange 1 (days_in_month (pos y) c.month) c.day × (day_of_year (pos y) c.month c.day ≡ n + 1)
in_year_holds y n c found = by (part_of_day (days_in_month (pos y)) (range_with_len 1 12) n) (part_holds (before_month (pos y)) (days_in_month (pos y)) 1 (next_month (pos y)) 12 1 n) found
  where
    by : (o : Option (ℕ × ℕ)) → ((k r : ℕ) → 1 ≤ 1 → o ≡ Some (k, r) → IsPart (before_month (pos y)) (days_in_month (pos y)) 12 1 n k r)
        → option_map (λ (p : ℕ × ℕ). record { year = y; month = p.0; day = p.1 + 1 }) o ≡ Some c → (c.year ≡ y) × IsInRange 1 12 c.month × IsInRange 1 (days_in_month (pos y) c.month) c.day × (day_of_year (pos y) c.month c.day ≡ n + 1)
    by None h e = absurd (cc)
    by (Some p) h e =
        let i = h p.0 p.1 (omega arith) refl in
        let year : y ≡ c.year = ap found_year e in
        let month : p.0 ≡ c.month = ap found_month e in
        let day : p.1 + 1 ≡ c.day = ap found_day e in
        let none : before_month (pos y) 1 ≡ 0 = ap (days_of_months (pos y)) (omega arith) ∙ days_of_months-zero (pos y) in
        let P : ℕ → ℕ → Type 0 = λ m d. IsInRange 1 12 m × IsInRange 1 (days_in_month (pos y) m) d × (day_of_year (pos y) m d ≡ n + 1) in
        let here : P p.0 (p.1 + 1) = ((omega (arith, i.from), omega (arith, i.to)), (omega arith, omega (arith, i.within)), omega (arith, i.day)) in
        let there = subst (λ d. P c.month d) day (subst (λ m. P m (p.1 + 1)) month here) in
        (sym year, there.0, there.1, there.2)

since_year_zero : (day z : ℤ) (c : CivilDate) → z ≡ day -ℤ days_from_civil (pos 0) 1 1 → date_since_year_zero z ≡ Some c → IsDateOf day c
since_year_zero day (negsuc n) c e found = let same : None ≡ Some c = found in absurd (cc)
since_year_zero day (pos n) c e found = by (part_of_day (λ y. days_in_year (pos y)) (range_with_len 0 10_000) n) (part_holds first_day (λ y. days_in_year (pos y)) 0 next_year 10_000 0 n) found
  where
    by : (o : Option (ℕ × ℕ)) → ((k r : ℕ) → 0 ≤ 0 → o ≡ Some (k, r) → IsPart first_day (λ y. days_in_year (pos y)) 10_000 0 n k r)
        → option_and_then (λ (p : ℕ × ℕ). date_in_year p.0 p.1) o ≡ Some c → IsDateOf day c
    by None h f = let same : None ≡ Some c = f in absurd (cc)
    by (Some p) h f =
        let i = h p.0 p.1 (omega arith) refl in
        let d = in_year_holds p.0 p.1 c f in
        let P : ℕ → Type 0 = λ y. IsInRange 1 (days_in_month (pos y) c.month) c.day × (day_of_year (pos y) c.month c.day ≡ p.1 + 1) in
        let rest : P c.year = subst P (sym d.0) (d.2, d.3) in
        let first : first_day p.0 ≡ first_day c.year = ap first_day (sym d.0) in
        let small : c.year < 10_000 = omega (arith, i.to, d.0) in
        let date : IsCivilDate (pos c.year) c.month c.day = ((omega (arith, signed_arith), omega (arith, signed_arith)), d.1, rest.0) in
        let days = since_zero c.year c.month c.day date in
        let size : first_day c.year - first_day 0 + (day_of_year (pos c.year) c.month c.day - 1) ≡ n =
        (let up = grows first_day (λ y. days_in_year (pos y)) 0 next_year 0 c.year (omega arith) in
        let same : first_day (0 + c.year) ≡ first_day c.year = ap first_day (omega arith) in
        omega (arith, i.day, rest.1)) in
        let whole : days_from_civil (pos c.year) c.month c.day -ℤ days_from_civil (pos 0) 1 1 ≡ day -ℤ days_from_civil (pos 0) 1 1 = days ∙ ap pos size ∙ e in
        record { year = small; date = date; number = omega (arith, signed_arith) }

pub date_holds : (day : ℤ) (c : CivilDate) → civil_date day ≡ Some c → IsDateOf day c
date_holds day c found = since_year_zero day (day -ℤ days_from_civil (pos 0) 1 1) c refl found

-- and the calendar has it
pub day_number_of : (day : ℤ) (c : CivilDate) → IsDateOf day c → day_number c.year c.month c.day ≡ Some day
day_number_of day c d =
    let month = d.date.1 in
    let last = d.date.2 in
    let year = d.year in
    let valid : (nat_lt c.year 10_000 && is_in_range 1 12 c.month && is_in_range 1 (days_in_month (pos c.year) c.month) c.day) ≡ true = in_calendar c.year c.month c.day (days_in_month (pos c.year) c.month) year month last in
    ap (λ t. cond t (Some (days_from_civil (pos c.year) c.month c.day)) None) valid ∙ ap Some d.number
  where
    in_calendar : (y m d n : ℕ) → y < 10_000 → IsInRange 1 12 m → IsInRange 1 n d → (nat_lt y 10_000 && is_in_range 1 12 m && is_in_range 1 n d) ≡ true
    in_calendar y m d n a b c = grind (arith, nat_tests)
