-- Texts that begin with a layout.
use Rattle.std.proofs.Common.{◌≡◌, ◌<◌, ◌≤◌, ◌+◌, ℕ, List, ◌∷◌, length, take, drop, slice_range, get_or, Bool, cond, true, false, Option, None, ℤ, sym, ap, ◌∙◌}
use Rattle.std.proofs.Math.ListN.{drop_of_length-le}
use Rattle.std.proofs.lemmas.List.{drop_more}
use Rattle.smithy_instants.specs.DateText.{begins_with_layout, begins_date_time, begins_http_date, two_digits, four_digits, clock_seconds, fraction_length, fraction_nanos, offset_of, gmt_offset, month_named, instant_of, date_time_nanos, http_date_nanos}
use Rattle.smithy_instants.specs.Calendar.{day_number}

-- a text that ends before the layout doesn't begin with it
pub layout_longer : (layout text : List ℕ) (at : ℕ) → at < length layout → length text ≤ at → begins_with_layout (drop at layout) (drop at text) ≡ false
layout_longer layout text at within past =
    ap (λ l. begins_with_layout l (drop at text)) (drop_more layout at 0 within)
    ∙ ap (λ t. begins_with_layout (get_or layout at 0 ∷ drop (at + 1) layout) t) (drop_of_length-le text past)

-- what stands in a date-time, part by part
pub date_time_is : (others : Bool) (text : List ℕ) (year month day hour minute second size : ℕ) (number : Option ℤ) (seconds nanos : Option ℕ) (offset : Option ℤ)
    → begins_date_time text ≡ true → year ≡ four_digits text 0 → month ≡ two_digits text 5 → day ≡ two_digits text 8
    → hour ≡ two_digits text 11 → minute ≡ two_digits text 14 → second ≡ two_digits text 17 → size ≡ fraction_length (drop 19 text)
    → number ≡ day_number year month day → seconds ≡ clock_seconds hour minute second → nanos ≡ fraction_nanos (take size (drop 19 text)) → offset ≡ offset_of others (drop size (drop 19 text))
    → instant_of number seconds nanos offset ≡ date_time_nanos (offset_of others) text
date_time_is others text year month day hour minute second size number seconds nanos offset begins y m d h mi s f a b c e =
    let rest = drop 19 text in
    let whole : date_time_nanos (offset_of others) text ≡ instant_of (day_number (four_digits text 0) (two_digits text 5) (two_digits text 8)) (clock_seconds (two_digits text 11) (two_digits text 14) (two_digits text 17)) (fraction_nanos (take (fraction_length rest) rest)) (offset_of others (drop (fraction_length rest) rest)) =
    ap (λ t. cond t (instant_of (day_number (four_digits text 0) (two_digits text 5) (two_digits text 8)) (clock_seconds (two_digits text 11) (two_digits text 14) (two_digits text 17)) (fraction_nanos (take (fraction_length rest) rest)) (offset_of others (drop (fraction_length rest) rest))) None) begins in
    let number_is = a ∙ ap (λ n. day_number n month day) y ∙ ap (λ n. day_number (four_digits text 0) n day) m ∙ ap (λ n. day_number (four_digits text 0) (two_digits text 5) n) d in
    let seconds_is = b ∙ ap (λ n. clock_seconds n minute second) h ∙ ap (λ n. clock_seconds (two_digits text 11) n second) mi ∙ ap (λ n. clock_seconds (two_digits text 11) (two_digits text 14) n) s in
    let nanos_is = c ∙ ap (λ n. fraction_nanos (take n rest)) f in
    let offset_is = e ∙ ap (λ n. offset_of others (drop n rest)) f in
    ap (λ x. instant_of x seconds nanos offset) number_is ∙ ap (λ x. instant_of (day_number (four_digits text 0) (two_digits text 5) (two_digits text 8)) x nanos offset) seconds_is
    ∙ ap (λ x. instant_of (day_number (four_digits text 0) (two_digits text 5) (two_digits text 8)) (clock_seconds (two_digits text 11) (two_digits text 14) (two_digits text 17)) x offset) nanos_is
    ∙ ap (λ x. instant_of (day_number (four_digits text 0) (two_digits text 5) (two_digits text 8)) (clock_seconds (two_digits text 11) (two_digits text 14) (two_digits text 17)) (fraction_nanos (take (fraction_length rest) rest)) x) offset_is ∙ sym whole

-- what stands in an http-date, part by part
pub http_date_is : (text : List ℕ) (year month day hour minute second size : ℕ) (number : Option ℤ) (seconds nanos : Option ℕ) (offset : Option ℤ)
    → begins_http_date text ≡ true → year ≡ four_digits text 12 → month ≡ month_named (slice_range text 8 11) → day ≡ two_digits text 5
    → hour ≡ two_digits text 17 → minute ≡ two_digits text 20 → second ≡ two_digits text 23 → size ≡ fraction_length (drop 25 text)
    → number ≡ day_number year month day → seconds ≡ clock_seconds hour minute second → nanos ≡ fraction_nanos (take size (drop 25 text)) → offset ≡ gmt_offset (drop size (drop 25 text))
    → instant_of number seconds nanos offset ≡ http_date_nanos text
http_date_is text year month day hour minute second size number seconds nanos offset begins y m d h mi s f a b c e =
    let rest = drop 25 text in
    let number_is = a ∙ ap (λ n. day_number n month day) y ∙ ap (λ n. day_number (four_digits text 12) n day) m ∙ ap (λ n. day_number (four_digits text 12) (month_named (slice_range text 8 11)) n) d in
    let seconds_is = b ∙ ap (λ n. clock_seconds n minute second) h ∙ ap (λ n. clock_seconds (two_digits text 17) n second) mi ∙ ap (λ n. clock_seconds (two_digits text 17) (two_digits text 20) n) s in
    let nanos_is = c ∙ ap (λ n. fraction_nanos (take n rest)) f in
    let offset_is = e ∙ ap (λ n. gmt_offset (drop n rest)) f in
    ap (λ x. instant_of x seconds nanos offset) number_is ∙ ap (λ x. instant_of (day_number (four_digits text 12) (month_named (slice_range text 8 11)) (two_digits text 5)) x nanos offset) seconds_is
    ∙ ap (λ x. instant_of (day_number (four_digits text 12) (month_named (slice_range text 8 11)) (two_digits text 5)) (clock_seconds (two_digits text 17) (two_digits text 20) (two_digits text 23)) x offset) nanos_is
    ∙ ap (λ x. instant_of (day_number (four_digits text 12) (month_named (slice_range text 8 11)) (two_digits text 5)) (clock_seconds (two_digits text 17) (two_digits text 20) (two_digits text 23)) (fraction_nanos (take (fraction_length rest) rest)) x) offset_is
    ∙ ap (λ t. cond t (instant_of (day_number (four_digits text 12) (month_named (slice_range text 8 11)) (two_digits text 5)) (clock_seconds (two_digits text 17) (two_digits text 20) (two_digits text 23)) (fraction_nanos (take (fraction_length rest) rest)) (gmt_offset (drop (fraction_length rest) rest))) None) (sym begins)
