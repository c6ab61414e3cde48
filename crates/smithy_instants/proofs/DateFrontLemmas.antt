-- Where a date ends at the front of a text.
use Rattle.std.proofs.Common.{◌≡◌, ◌+◌, ◌<◌, ◌≤◌, ◌&&◌, ◌||◌, ◌⊎◌, ℕ, suc, List, [], ◌∷◌, ◌++◌, length, take, drop, slice_range, Bool, cond, true, false, nat_eq, refl, sym, ap, ◌∙◌, arith, Option, Some, None, option_map, ℤ, pos, codes, inl, inr, eqb-true}
use Rattle.std.proofs.lemmas.List.{length-drop, drop-append-le}
use Rattle.std.proofs.lemmas.Slice.Eq.{bytes_eq-Decides}
use Rattle.std.specs.Char.{is_ascii_digit}
use Rattle.std.specs.List.{prefix_len}
use Rattle.std.specs.Option.{SomeIff}
use Rattle.std.specs.Str.{byte, bytes_eq}
use Rattle.smithy_texts.specs.Numeral.{signed}
use Rattle.smithy_texts.specs.Decimal.{is_point}
use Rattle.smithy_instants.specs.Calendar.{day_number}
use Rattle.smithy_instants.specs.DateText.{begins_with_layout, fits_layout, begins_date_time, begins_http_date, two_digits, four_digits, month_named, clock_seconds, fraction_length, fraction_nanos, utc_offset, is_short_clock, offset_of, gmt_offset, instant_of, date_time_nanos, http_date_nanos}
use Rattle.smithy_instants.specs.Private.FrontLength.{zone_length, date_time_length, http_date_length}

first_of : (t u : Bool) → (t && u) ≡ true → t ≡ true
first_of true u e = refl
first_of false u e = e

second_of : (t u : Bool) → (t && u) ≡ true → u ≡ true
second_of true u e = e
second_of false u e = absurd (cc)

-- what comes behind doesn't lengthen a front that ended before it
prefix_more : (p : ℕ → Bool) (xs ys : List ℕ) → prefix_len p xs < length xs → prefix_len p (xs ++ ys) ≡ prefix_len p xs
prefix_more p [] ys h = absurd (omega arith)
prefix_more p (x ∷ xs) ys h = by (p x) (prefix_more p xs ys) h
  where
    by : (t : Bool) → (prefix_len p xs < length xs → prefix_len p (xs ++ ys) ≡ prefix_len p xs) → cond t (1 + prefix_len p xs) 0 < suc (length xs)
        → cond t (1 + prefix_len p (xs ++ ys)) 0 ≡ cond t (1 + prefix_len p xs) 0
    by true ih h = ap (λ n. 1 + n) (ih (omega arith))
    by false ih h = refl

fraction_more : (xs ys : List ℕ) → fraction_length xs < length xs → fraction_length (xs ++ ys) ≡ fraction_length xs
fraction_more [] ys h = absurd (omega arith)
fraction_more (c ∷ xs) ys h = by (is_point c) h
  where
    by : (t : Bool) → cond t (1 + prefix_len is_ascii_digit xs) 0 < suc (length xs) → cond t (1 + prefix_len is_ascii_digit (xs ++ ys)) 0 ≡ cond t (1 + prefix_len is_ascii_digit xs) 0
    by true h = ap (λ n. 1 + n) (prefix_more is_ascii_digit xs ys (omega arith))
    by false h = refl

layout_fits : (layout text : List ℕ) → begins_with_layout layout text ≡ true → length layout ≤ length text
layout_fits [] text h = omega arith
layout_fits (l ∷ layout) [] h = absurd (cc)
layout_fits (l ∷ layout) (c ∷ text) h =
    let ih = layout_fits layout text (second_of (fits_layout l c) (begins_with_layout layout text) h) in omega arith

-- an instant has its zone
zone_there : (x : Option ℤ) (y z : Option ℕ) (o : Option ℤ) (d : ℤ) → instant_of x y z o ≡ Some d → (k : ℤ) × (o ≡ Some k)
zone_there None y z o d h = let same : None ≡ Some d = h in absurd (cc)
zone_there (Some a) None z o d h = let same : None ≡ Some d = h in absurd (cc)
zone_there (Some a) (Some b) None o d h = let same : None ≡ Some d = h in absurd (cc)
zone_there (Some a) (Some b) (Some c) None d h = let same : None ≡ Some d = h in absurd (cc)
zone_there (Some a) (Some b) (Some c) (Some k) d h = (k, refl)

-- `Z`, small or capital, alone
utc_is : (text : List ℕ) (k : ℤ) → utc_offset text ≡ Some k → (text ≡ codes "Z") ⊎ (text ≡ codes "z")
utc_is text k h = by (bytes_eq text (codes "Z")) (bytes_eq text (codes "z")) (bytes_eq-Decides text (codes "Z")).0 (bytes_eq-Decides text (codes "z")).0 h
  where
    by : (t u : Bool) → (t ≡ true → text ≡ codes "Z") → (u ≡ true → text ≡ codes "z") → cond (t || u) (Some (pos 0)) None ≡ Some k → (text ≡ codes "Z") ⊎ (text ≡ codes "z")
    by true u capital small e = inl (capital refl)
    by false true capital small e = inr (small refl)
    by false false capital small e = let same : None ≡ Some k = e in absurd (cc)

-- a zone has the length that its first byte tells
record IsWholeZone (others : Bool) (z : List ℕ) : Type 0 where
  size : length z ≡ zone_length others z
  some : 0 < length z

utc_whole : (others : Bool) (z : List ℕ) (k : ℤ) → utc_offset z ≡ Some k → zone_length others (codes "Z") ≡ 1 → zone_length others (codes "z") ≡ 1 → IsWholeZone others z
utc_whole others z k h capital small = by (utc_is z k h)
  where
    by : (z ≡ codes "Z") ⊎ (z ≡ codes "z") → IsWholeZone others z
    by (inl e) = rw e (record { size = sym capital; some = omega arith })
    by (inr e) = rw e (record { size = sym small; some = omega arith })

zone_whole : (others : Bool) (z : List ℕ) (k : ℤ) → offset_of others z ≡ Some k → IsWholeZone others z
zone_whole false z k h = utc_whole false z k h refl refl
zone_whole true [] k h = let same : None ≡ Some k = h in absurd (cc)
zone_whole true (sign ∷ clock) k h = by (nat_eq sign (byte "+") || nat_eq sign (byte "-")) refl (is_short_clock clock) refl h
  where
    by : (t : Bool) → (nat_eq sign (byte "+") || nat_eq sign (byte "-")) ≡ t → (u : Bool) → is_short_clock clock ≡ u
        → cond (t && u) (option_map (λ s. signed (nat_eq sign (byte "-")) s) (clock_seconds (two_digits clock 0) (two_digits clock 3) 0)) (utc_offset (sign ∷ clock)) ≡ Some k
        → IsWholeZone true (sign ∷ clock)
    by true is_sign true short e =
        let five : length clock ≡ 5 = eqb-true (length clock) 5 (second_of (begins_with_layout (codes "00:00") clock) (nat_eq (length clock) 5) short) in
        let six : zone_length true (sign ∷ clock) ≡ 6 = ap (λ b. cond b 6 1) is_sign in
        record { size = ap suc five ∙ sym six; some = omega arith }
    by true is_sign false short e = utc_whole true (sign ∷ clock) k e refl refl
    by false is_sign u short e = utc_whole true (sign ∷ clock) k e refl refl

zone_more : (others : Bool) (z ys : List ℕ) → 0 < length z → zone_length others (z ++ ys) ≡ zone_length others z
zone_more others [] ys h = absurd (omega arith)
zone_more others (c ∷ z) ys h = refl

-- a date-time ends where its length says, whatever comes behind
pub date_time_ends : (others : Bool) (front ys : List ℕ) (d : ℤ) → date_time_nanos (offset_of others) front ≡ Some d → date_time_length others (front ++ ys) ≡ length front
date_time_ends others front ys d means = by (begins_date_time front) refl means
  where
    by : (t : Bool) → begins_date_time front ≡ t
        → cond t (instant_of (day_number (four_digits front 0) (two_digits front 5) (two_digits front 8)) (clock_seconds (two_digits front 11) (two_digits front 14) (two_digits front 17)) (fraction_nanos (take (fraction_length (drop 19 front)) (drop 19 front))) (offset_of others (drop (fraction_length (drop 19 front)) (drop 19 front)))) None ≡ Some d
        → date_time_length others (front ++ ys) ≡ length front
    by false begins e = let same : None ≡ Some d = e in absurd (cc)
    by true begins e =
        let rest = drop 19 front in
        let size = fraction_length rest in
        let z = drop size rest in
        let long : 19 ≤ length front = layout_fits (codes "0000-00-00*00:00:00") front (first_of (begins_with_layout (codes "0000-00-00*00:00:00") front) _ begins) in
        let zone = zone_there _ _ _ (offset_of others z) d e in
        let whole = zone_whole others z zone.0 zone.1 in
        let rest_size = length-drop 19 front in
        let zone_size = length-drop size rest in
        let some = whole.some in
        let ends : size < length rest = omega arith in
        let first : drop 19 (front ++ ys) ≡ rest ++ ys = drop-append-le 19 front ys long in
        let second : fraction_length (rest ++ ys) ≡ size = fraction_more rest ys ends in
        let third : drop size (rest ++ ys) ≡ z ++ ys = drop-append-le size rest ys (omega arith) in
        ap (λ l. 19 + fraction_length l + zone_length others (drop (fraction_length l) l)) first
        ∙ ap (λ n. 19 + n + zone_length others (drop n (rest ++ ys))) second
        ∙ ap (λ l. 19 + size + zone_length others l) third
        ∙ ap (λ n. 19 + size + n) (zone_more others z ys some ∙ sym whole.size)
        ∙ omega arith

gmt_is : (text : List ℕ) (k : ℤ) → gmt_offset text ≡ Some k → length text ≡ 4
gmt_is text k h = by (bytes_eq text (codes " GMT")) (bytes_eq-Decides text (codes " GMT")).0 h
  where
    by : (t : Bool) → (t ≡ true → text ≡ codes " GMT") → cond t (Some (pos 0)) None ≡ Some k → length text ≡ 4
    by true same e = ap length (same refl)
    by false same e = let none : None ≡ Some k = e in absurd (cc)

-- an http-date does too
pub http_date_ends : (front ys : List ℕ) (d : ℤ) → http_date_nanos front ≡ Some d → http_date_length (front ++ ys) ≡ length front
http_date_ends front ys d means = by (begins_http_date front) refl means
  where
    by : (t : Bool) → begins_http_date front ≡ t
        → cond t (instant_of (day_number (four_digits front 12) (month_named (slice_range front 8 11)) (two_digits front 5)) (clock_seconds (two_digits front 17) (two_digits front 20) (two_digits front 23)) (fraction_nanos (take (fraction_length (drop 25 front)) (drop 25 front))) (gmt_offset (drop (fraction_length (drop 25 front)) (drop 25 front)))) None ≡ Some d
        → http_date_length (front ++ ys) ≡ length front
    by false begins e = let same : None ≡ Some d = e in absurd (cc)
    by true begins e =
        let rest = drop 25 front in
        let size = fraction_length rest in
        let z = drop size rest in
        let long : 25 ≤ length front = layout_fits (codes "***, 00 *** 0000 00:00:00") front (first_of (begins_with_layout (codes "***, 00 *** 0000 00:00:00") front) _ begins) in
        let zone = zone_there _ _ _ (gmt_offset z) d e in
        let four = gmt_is z zone.0 zone.1 in
        let rest_size = length-drop 25 front in
        let zone_size = length-drop size rest in
        let first : drop 25 (front ++ ys) ≡ rest ++ ys = drop-append-le 25 front ys long in
        let second : fraction_length (rest ++ ys) ≡ size = fraction_more rest ys (omega arith) in
        ap (λ l. 25 + fraction_length l + 4) first ∙ ap (λ n. 25 + n + 4) second ∙ omega arith

-- what stands before a zone and the zone are the text
pub zone_at : (start size : ℕ) (text rest zone : List ℕ) → start ≤ length text → rest ≡ drop start text → size ≤ length rest → zone ≡ drop size rest → length zone + size + start ≡ length text
zone_at start size text rest zone long rest_is within zone_is =
    let a = ap length rest_is ∙ length-drop start text in
    let b = ap length zone_is ∙ length-drop size rest in omega arith

pub some_iff_same : (r : Option ℕ) (P Q : Type 0) (v w : ℕ) → (P → Q) → (Q → P) → (P → v ≡ w) → SomeIff r P v → SomeIff r Q w
some_iff_same (Some x) P Q v w to from same h = (to h.0, h.1 ∙ same h.0)
some_iff_same None P Q v w to from same h = λ q. h (from q)
