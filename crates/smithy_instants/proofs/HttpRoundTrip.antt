-- A written http-date is read as its instant.
use Rattle.std.proofs.Common.{◌≡◌, ◌+◌, ◌-◌, ◌/◌, ◌%◌, ◌<◌, ◌&&◌, ℕ, zero, suc, List, [], ◌∷◌, ◌++◌, Bool, true, false, nat_eq, refl, sym, ap, ◌∙◌, arith, Option, Some, None, codes, ℤ, pos, ◌*ℤ◌, ◌+ℤ◌, ◌-ℤ◌, eqb-true, option_map, slice_index_or}
use Rattle.std.specs.Prelude.{is_some}
use Rattle.jiff_core.specs.Calendar.{weekday_number}
use Rattle.jiff_core.proofs.CalendarLemmas.{weekday_number_bound}
use Rattle.smithy_instants.specs.Instant.{nanos_per_second, subsecond_of}
use Rattle.smithy_instants.specs.Calendar.{CivilDate, day_number, civil_date}
use Rattle.smithy_instants.specs.DateText.{begins_http_date, clock_seconds, is_weekday, month_named, instant_of, http_date_nanos, date_of}
use Rattle.smithy_instants.specs.WrittenDate.{padded_digits, clock_text, http_date_text, weekday_names, month_names, day_of, second_of_day, written_http_date, holds}
use Rattle.smithy_instants.specs.declared.format.Format.TheVariants.{HttpDate}
use Rattle.smithy_instants.proofs.CalendarLemmas.{IsDateOf, day_number_of, date_holds}
use Rattle.smithy_instants.proofs.LayoutLemmas.{http_date_is}
use Rattle.smithy_instants.proofs.DateRoundTrip.{digit, and_true, four, two, clock_is, month_short, instant_parts, second_below, text_or}

-- the three letters of a weekday
record IsWeekdayName (w : ℕ) : Type 0 where
  a : ℕ
  b : ℕ
  c : ℕ
  spelled : slice_index_or weekday_names w [] ≡ a ∷ b ∷ c ∷ []
  known : is_weekday (a ∷ b ∷ c ∷ []) ≡ true

weekday_letters : (w : ℕ) → w < 7 → IsWeekdayName w
weekday_letters zero h = record { a = 77; b = 111; c = 110; spelled = refl; known = refl }
weekday_letters (suc zero) h = record { a = 84; b = 117; c = 101; spelled = refl; known = refl }
weekday_letters (suc (suc zero)) h = record { a = 87; b = 101; c = 100; spelled = refl; known = refl }
weekday_letters (suc (suc (suc zero))) h = record { a = 84; b = 104; c = 117; spelled = refl; known = refl }
weekday_letters (suc (suc (suc (suc zero)))) h = record { a = 70; b = 114; c = 105; spelled = refl; known = refl }
weekday_letters (suc (suc (suc (suc (suc zero))))) h = record { a = 83; b = 97; c = 116; spelled = refl; known = refl }
weekday_letters (suc (suc (suc (suc (suc (suc zero)))))) h = record { a = 83; b = 117; c = 110; spelled = refl; known = refl }
weekday_letters (suc (suc (suc (suc (suc (suc (suc w))))))) h = absurd (omega arith)

-- the three letters of the month k + 1
record IsMonthName (k : ℕ) : Type 0 where
  a : ℕ
  b : ℕ
  c : ℕ
  spelled : slice_index_or month_names k [] ≡ a ∷ b ∷ c ∷ []
  known : month_named (a ∷ b ∷ c ∷ []) ≡ k + 1

month_letters : (k : ℕ) → k < 12 → IsMonthName k
month_letters zero h = record { a = 74; b = 97; c = 110; spelled = refl; known = refl }
month_letters (suc zero) h = record { a = 70; b = 101; c = 98; spelled = refl; known = refl }
month_letters (suc (suc zero)) h = record { a = 77; b = 97; c = 114; spelled = refl; known = refl }
month_letters (suc (suc (suc zero))) h = record { a = 65; b = 112; c = 114; spelled = refl; known = refl }
month_letters (suc (suc (suc (suc zero)))) h = record { a = 77; b = 97; c = 121; spelled = refl; known = refl }
month_letters (suc (suc (suc (suc (suc zero))))) h = record { a = 74; b = 117; c = 110; spelled = refl; known = refl }
month_letters (suc (suc (suc (suc (suc (suc zero)))))) h = record { a = 74; b = 117; c = 108; spelled = refl; known = refl }
month_letters (suc (suc (suc (suc (suc (suc (suc zero))))))) h = record { a = 65; b = 117; c = 103; spelled = refl; known = refl }
month_letters (suc (suc (suc (suc (suc (suc (suc (suc zero)))))))) h = record { a = 83; b = 101; c = 112; spelled = refl; known = refl }
month_letters (suc (suc (suc (suc (suc (suc (suc (suc (suc zero))))))))) h = record { a = 79; b = 99; c = 116; spelled = refl; known = refl }
month_letters (suc (suc (suc (suc (suc (suc (suc (suc (suc (suc zero)))))))))) h = record { a = 78; b = 111; c = 118; spelled = refl; known = refl }
month_letters (suc (suc (suc (suc (suc (suc (suc (suc (suc (suc (suc zero))))))))))) h = record { a = 68; b = 101; c = 99; spelled = refl; known = refl }
month_letters (suc (suc (suc (suc (suc (suc (suc (suc (suc (suc (suc (suc k)))))))))))) h = absurd (omega arith)

-- the text of these letters and numbers
abbrev http_front : (a b c d u v x y h m s : ℕ) → List ℕ
http_front a b c d u v x y h m s =
    a ∷ b ∷ c ∷ 44 ∷ 32 ∷ (48 + d / 10 % 10) ∷ (48 + d % 10) ∷ 32 ∷ u ∷ v ∷ x ∷ 32
    ∷ (48 + y / 10 / 10 / 10 % 10) ∷ (48 + y / 10 / 10 % 10) ∷ (48 + y / 10 % 10) ∷ (48 + y % 10) ∷ 32
    ∷ (48 + h / 10 % 10) ∷ (48 + h % 10) ∷ 58 ∷ (48 + m / 10 % 10) ∷ (48 + m % 10) ∷ 58 ∷ (48 + s / 10 % 10) ∷ (48 + s % 10) ∷ codes " GMT"

http_begins : (a b c d u v x y h m s : ℕ) → is_weekday (a ∷ b ∷ c ∷ []) ≡ true → begins_http_date (http_front a b c d u v x y h m s) ≡ true
http_begins a b c d u v x y h m s known =
    and_true _ _ (and_true _ _ (digit (d / 10)) (and_true _ _ (digit d) (and_true _ _ (digit (y / 10 / 10 / 10)) (and_true _ _ (digit (y / 10 / 10)) (and_true _ _ (digit (y / 10)) (and_true _ _ (digit y)
    (and_true _ _ (digit (h / 10)) (and_true _ _ (digit h) (and_true _ _ (digit (m / 10)) (and_true _ _ (digit m) (and_true _ _ (digit (s / 10)) (and_true _ _ (digit s) refl)))))))))))) known

http_shape : (c : CivilDate) (s a b e u v x : ℕ) → ((a ∷ b ∷ e ∷ []) ++ codes ", " ++ padded_digits 2 c.day ++ codes " " ++ (u ∷ v ∷ x ∷ []) ++ codes " " ++ padded_digits 4 c.year ++ codes " " ++ clock_text s ++ codes " GMT")
    ≡ http_front a b e c.day u v x c.year (s / 3600) (s / 60 % 60) (s % 60)
unfolding clock_text
http_shape c s a b e u v x = refl

pub http_date_reads : (day : ℤ) (c : CivilDate) (w s : ℕ) → IsDateOf day c → w < 7 → s < 86_400
    → http_date_nanos (http_date_text w c s) ≡ Some ((day *ℤ pos 86_400 +ℤ pos s -ℤ pos 0) *ℤ pos nanos_per_second +ℤ pos 0)
http_date_reads day c w s d known small =
    let name = weekday_letters w known in
    let month_in = d.date.1 in
    let month = month_letters (c.month - 1) (omega arith) in
    let text = http_front name.a name.b name.c c.day month.a month.b month.c c.year (s / 3600) (s / 60 % 60) (s % 60) in
    let same : http_date_text w c s ≡ text =
    ap (λ n. n ++ codes ", " ++ padded_digits 2 c.day ++ codes " " ++ slice_index_or month_names (c.month - 1) [] ++ codes " " ++ padded_digits 4 c.year ++ codes " " ++ clock_text s ++ codes " GMT") name.spelled
    ∙ ap (λ n. (name.a ∷ name.b ∷ name.c ∷ []) ++ codes ", " ++ padded_digits 2 c.day ++ codes " " ++ n ++ codes " " ++ padded_digits 4 c.year ++ codes " " ++ clock_text s ++ codes " GMT") month.spelled
    ∙ http_shape c s name.a name.b name.c month.a month.b month.c in
    let short = month_short (pos c.year) c.month c.day d.date in
    let month_is : c.month ≡ month_named (month.a ∷ month.b ∷ month.c ∷ []) = omega (arith, month.known) in
    let reads = http_date_is text c.year c.month c.day (s / 3600) (s / 60 % 60) (s % 60) 0
    (day_number c.year c.month c.day) (clock_seconds (s / 3600) (s / 60 % 60) (s % 60)) (Some 0) (Some (pos 0))
    (http_begins name.a name.b name.c c.day month.a month.b month.c c.year (s / 3600) (s / 60 % 60) (s % 60) name.known) (four c.year d.year) month_is (two c.day short.1)
    (two (s / 3600) (omega arith)) (two (s / 60 % 60) (omega arith)) (two (s % 60) (omega arith)) refl refl refl refl refl in
    ap http_date_nanos same ∙ sym reads
    ∙ ap (λ x. instant_of x (clock_seconds (s / 3600) (s / 60 % 60) (s % 60)) (Some 0) (Some (pos 0))) (day_number_of day c d)
    ∙ ap (λ x. instant_of (Some day) x (Some 0) (Some (pos 0))) (clock_is s small)

-- the written http-date of an instant that it holds is read as this instant
pub written_http_date_reads : (n : ℤ) (text : List ℕ) → holds HttpDate n ≡ true → written_http_date n ≡ Some text → date_of HttpDate text ≡ Some n
written_http_date_reads n text h written = by (civil_date (day_of n)) refl written
  where
    first : (t u : Bool) → (t && u) ≡ true → t ≡ true
    first true u e = refl
    first false u e = e

    by : (o : Option CivilDate) → civil_date (day_of n) ≡ o → option_map (λ d. http_date_text (weekday_number (day_of n)) d (second_of_day n)) o ≡ Some text → date_of HttpDate text ≡ Some n
    by None e w = let same : None ≡ Some text = w in absurd (cc)
    by (Some c) e w =
        let same : http_date_text (weekday_number (day_of n)) c (second_of_day n) ≡ text = ap (text_or []) w in
        let whole : subsecond_of n ≡ 0 = eqb-true _ 0 (first (nat_eq (subsecond_of n) 0) (is_some (civil_date (day_of n))) h) in
        let reads = http_date_reads (day_of n) c (weekday_number (day_of n)) (second_of_day n) (date_holds (day_of n) c e) (weekday_number_bound (day_of n)) (second_below n) in
        ap http_date_nanos (sym same) ∙ reads ∙ ap (λ k. Some ((day_of n *ℤ pos 86_400 +ℤ pos (second_of_day n) -ℤ pos 0) *ℤ pos nanos_per_second +ℤ pos k)) (sym whole) ∙ ap Some (instant_parts n)
