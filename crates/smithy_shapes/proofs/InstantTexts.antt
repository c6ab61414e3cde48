-- The texts of instants are ASCII.
use Rattle.std.proofs.Common.{◌≡◌, ◌<◌, ℕ, zero, suc, ℤ, List, [], ◌∷◌, ◌++◌, Bool, true, false, Some, refl, ◌∙◌, subst, arith, cond, codes, decimal, IsUtf8}
use Rattle.std.specs.Prelude.{◌+◌, ◌/◌, ◌%◌, ◌^◌, ◌-◌, nat_eq, unsigned_abs, slice_index_or}
use Rattle.std.specs.Char.{is_ascii, is_ascii_digit}
use Rattle.std.specs.Fmt.{sign_text}
use Rattle.std.specs.Int.{is_negative}
use Rattle.std.specs.List.{list_all, AllByRecursion}
use Rattle.std.specs.Str.{byte, all_ascii_digits, IsAscii}
use Rattle.std.proofs.lemmas.Bool.{and_parts}
use Rattle.std.proofs.lemmas.Bool.Decides.{nat_tests}
use Rattle.std.proofs.lemmas.List.Folds.{list_all-append}
use Rattle.std.proofs.lemmas.Str.{IsUtf8-from_ascii}
use Rattle.std.proofs.lemmas.Str.Ascii.{IsAscii-nil, IsAscii-cons}
use Rattle.jiff_core.proofs.SignedLemmas.{signed_arith}
use Rattle.jiff_core.specs.Calendar.{weekday_number}
use Rattle.smithy_texts.proofs.WrittenNumerals.{written_digits}
use Rattle.smithy_instants.specs.Instant.{nanos_per_second, subsecond_of, is_instant}
use Rattle.smithy_instants.specs.Calendar.{CivilDate, civil_date}
use Rattle.smithy_instants.specs.WrittenDate.{padded_digits, fraction_digits, fraction_text, epoch_text, day_of, second_of_day, clock_text, day_text, date_time_text, weekday_names, month_names, http_date_text, date_text}
use Rattle.smithy_instants.proofs.EpochRoundTrip.{wide_seconds}
use Rattle.smithy_instants.proofs.FractionTexts.{fraction_is}
use Rattle.smithy_declarations.specs.declared.shape_type.TimestampFormat.{TimestampFormat}
use Rattle.smithy_declarations.specs.declared.shape_type.TimestampFormat.TheVariants.{EpochSeconds, DateTime, HttpDate}
use Rattle.smithy_declarations.specs.TimeForms.{format_of}
use Rattle.smithy_shapes.specs.Lemmas.Options.{same_some, made}

abbrev IsAsciiText : List ℕ → Type 0
IsAsciiText t = list_all is_ascii t ≡ true

-- ---- parts of texts

joined : (xs ys : List ℕ) → IsAsciiText xs → IsAsciiText ys → IsAsciiText (xs ++ ys)
joined xs ys first second = list_all-append is_ascii xs ys ∙ rw (first, second) refl

one : (b : ℕ) → is_ascii b ≡ true → IsAsciiText (b ∷ [])
one b h = rw h refl

digit_is_ascii : (b : ℕ) → is_ascii_digit b ≡ true → is_ascii b ≡ true
digit_is_ascii b h = grind (arith, nat_tests)

small_digit : (x : ℕ) → x < 10 → is_ascii (48 + x) ≡ true
small_digit x h = grind (arith, nat_tests)

digits_are_ascii : (ds : List ℕ) → all_ascii_digits ds ≡ true → IsAsciiText ds
digits_are_ascii [] h = refl
digits_are_ascii (d ∷ ds) h =
    let both = and_parts (is_ascii_digit d) (all_ascii_digits ds) h in
    rw (digit_is_ascii d both.0, digits_are_ascii ds both.1) refl

padded : (width n : ℕ) → IsAsciiText (padded_digits width n)
padded zero n = refl
padded (suc width) n = joined (padded_digits width (n / 10)) ((48 + n % 10) ∷ []) (padded width (n / 10)) (one (48 + n % 10) (small_digit (n % 10) (omega arith)))

fraction : (width n : ℕ) → n < 10 ^ width → IsAsciiText (fraction_text width n)
unfolding fraction_text
fraction width n small = by (nat_eq n 0)
  where
    by : (t : Bool) → IsAsciiText (cond t [] (byte "." ∷ fraction_digits width n))
    by true = refl
    by false = digits_are_ascii (fraction_digits width n) (fraction_is width n small).digits

-- parts in turn
abbrev behind : List ℕ → List (List ℕ) → List ℕ
behind t [] = t
behind t (part ∷ parts) = behind (t ++ part) parts

in_turn : (t : List ℕ) (parts : List (List ℕ)) → IsAsciiText t → AllByRecursion IsAsciiText parts → IsAsciiText (behind t parts)
in_turn t [] first more = first
in_turn t (part ∷ parts) first more = in_turn (t ++ part) parts (joined t part first more.0) more.1

clock : (seconds : ℕ) → IsAsciiText (clock_text seconds)
unfolding clock_text
clock seconds =
    in_turn (padded_digits 2 (seconds / 3600)) (codes ":" ∷ padded_digits 2 (seconds / 60 % 60) ∷ codes ":" ∷ padded_digits 2 (seconds % 60) ∷ [])
    (padded 2 (seconds / 3600)) (refl, (padded 2 (seconds / 60 % 60), (refl, (padded 2 (seconds % 60), tt))))

day : (d : CivilDate) → IsAsciiText (day_text d)
unfolding day_text
day d =
    in_turn (padded_digits 4 d.year) (codes "-" ∷ padded_digits 2 d.month ∷ codes "-" ∷ padded_digits 2 d.day ∷ [])
    (padded 4 d.year) (refl, (padded 2 d.month, (refl, (padded 2 d.day, tt))))

-- a name of some, or nothing
name : (names : List (List ℕ)) (at : ℕ) → list_all (list_all is_ascii) names ≡ true → IsAsciiText (slice_index_or names at [])
name [] at h = refl
name (t ∷ names) zero h = (and_parts (list_all is_ascii t) (list_all (list_all is_ascii) names) h).0
name (t ∷ names) (suc at) h = name names at (and_parts (list_all is_ascii t) (list_all (list_all is_ascii) names) h).1

-- ---- whole texts

date_time : (d : CivilDate) (seconds nanos : ℕ) → nanos < nanos_per_second → IsAsciiText (date_time_text d seconds nanos)
date_time d seconds nanos small =
    in_turn (day_text d) (codes "T" ∷ clock_text seconds ∷ fraction_text 6 (nanos / 1000) ∷ codes "Z" ∷ [])
    (day d) (refl, (clock seconds, (fraction 6 (nanos / 1000) (omega (arith, small)), (refl, tt))))

weekday : (w : ℕ) → IsAsciiText (slice_index_or weekday_names w [])
weekday w = name weekday_names w refl

month : (m : ℕ) → IsAsciiText (slice_index_or month_names m [])
month m = name month_names m refl

http_date : (w : ℕ) (d : CivilDate) (seconds : ℕ) → IsAsciiText (http_date_text w d seconds)
http_date w d seconds =
    in_turn (slice_index_or weekday_names w [])
    (codes ", " ∷ padded_digits 2 d.day ∷ codes " " ∷ slice_index_or month_names (d.month - 1) [] ∷ codes " " ∷ padded_digits 4 d.year ∷ codes " " ∷ clock_text seconds ∷ codes " GMT" ∷ [])
    (weekday w) (refl, (padded 2 d.day, (refl, (month (d.month - 1), (refl, (padded 4 d.year, (refl, (clock seconds, (refl, tt)))))))))

short_fraction : (n : ℤ) → subsecond_of n < nanos_per_second
short_fraction n = omega (arith, signed_arith)

sign : (b : Bool) → IsAsciiText (sign_text b)
sign true = refl
sign false = refl

epoch : (n : ℤ) → is_instant n ≡ true → IsAsciiText (epoch_text n)
epoch n h =
    in_turn (sign_text (is_negative n)) (decimal (unsigned_abs n / nanos_per_second) ∷ fraction_text 9 (unsigned_abs n % nanos_per_second) ∷ [])
    (sign (is_negative n)) (
      digits_are_ascii (decimal (unsigned_abs n / nanos_per_second)) (written_digits (unsigned_abs n / nanos_per_second) (wide_seconds n h)).digits,
      (fraction 9 (unsigned_abs n % nanos_per_second) (omega arith), tt),
    )

ascii_is_utf8 : (t : List ℕ) → IsAsciiText t → IsUtf8 t
ascii_is_utf8 t h = IsUtf8-from_ascii t (each t h)
  where
    below : (b : ℕ) → is_ascii b ≡ true → b < 128
    below b h = grind (arith, nat_tests)

    each : (t : List ℕ) → IsAsciiText t → IsAscii t
    each [] h = IsAscii-nil
    each (b ∷ t) h =
        let both = and_parts (is_ascii b) (list_all is_ascii t) h in
        IsAscii-cons b t (below b both.0) (each t both.1)

-- in each form
pub instant_text_is_utf8 : (form : TimestampFormat) (n : ℤ) (t : List ℕ) → is_instant n ≡ true → date_text (format_of form) n ≡ Some t → IsUtf8 t
instant_text_is_utf8 EpochSeconds n t h is = subst IsUtf8 (same_some (epoch_text n) t is) (ascii_is_utf8 (epoch_text n) (epoch n h))
instant_text_is_utf8 DateTime n t h is =
    let date = made (λ d. date_time_text d (second_of_day n) (subsecond_of n)) (civil_date (day_of n)) t is in
    subst IsUtf8 date.2 (ascii_is_utf8 _ (date_time date.0 (second_of_day n) (subsecond_of n) (short_fraction n)))
instant_text_is_utf8 HttpDate n t h is =
    let date = made (λ d. http_date_text (weekday_number (day_of n)) d (second_of_day n)) (civil_date (day_of n)) t is in
    subst IsUtf8 date.2 (ascii_is_utf8 _ (http_date (weekday_number (day_of n)) date.0 (second_of_day n)))
