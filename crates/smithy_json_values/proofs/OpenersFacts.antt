-- How many brackets some bytes have open at once, and that this is the greatest count of open brackets,
-- gone through from the left.
use Rattle.std.proofs.Common.{◌≡◌, ◌-◌, ◌||◌, ◌==◌, ℕ, zero, suc, List, [], ◌∷◌, take, Bool, true, false, ℤ, pos, negsuc, ◌+ℤ◌, ◌≤ℤ◌, if◌then◌else◌, refl, sym, ap, arith, ◌⊎◌, inl, inr}
use Rattle.std.specs.Prelude.{codes}
use Rattle.std.proofs.lemmas.Int.{ints}
use Rattle.smithy_json_grammar.specs.Ascii.{begin_array, end_array, begin_object, end_object}
use Rattle.smithy_json_values.specs.Openers.{Where, outside, inside, after_escape, where_next, rise_with, greatest_rise, json_openers}

-- an array in an array
pub nested : json_openers (codes "[[]]") ≡ 2
nested = refl

-- a string that doesn't end
pub in_string : json_openers (codes "\"[[[") ≡ 0
in_string = refl

-- closing brackets come first, and the count falls below 0
pub closed_first : json_openers (codes "]][") ≡ 0
closed_first = refl

-- objects and an array
pub of_each : json_openers (codes "{\"a\":[1,{\"b\":2}]}") ≡ 3
of_each = refl

-- a quotation mark behind a backslash doesn't end the string
pub behind_escape : json_openers (codes "\"\\\"[\" [") ≡ 1
behind_escape = refl

-- ---- from the left

-- what a byte adds to the count
abbrev pub change : Where → ℕ → ℤ
change outside b =
    if b == begin_object || b == begin_array then pos 1
    else (if b == end_object || b == end_array then negsuc 0 else pos 0)
change inside b = pos 0
change after_escape b = pos 0

-- the count behind these bytes, from 0 on; it may be below 0
abbrev pub count : Where → List ℕ → ℤ
count at [] = pos 0
count at (b ∷ bytes) = change at b +ℤ count (where_next at b) bytes

-- a change of the count, and how far it rises then
abbrev changed_by : Bool → Bool → ℤ
changed_by opens closes = if opens then pos 1 else (if closes then negsuc 0 else pos 0)

abbrev risen_by : Bool → Bool → ℕ → ℕ
risen_by opens closes rise = if opens then suc rise else (if closes then rise - 1 else rise)

most_by : (opens closes : Bool) (n : ℤ) (rise : ℕ) → n ≤ℤ pos rise → (changed_by opens closes +ℤ n) ≤ℤ pos (risen_by opens closes rise)
most_by true closes n rise h = omega (arith, ints)
most_by false true n rise h = omega (arith, ints)
most_by false false n rise h = omega (arith, ints)

most_with : (at : Where) (b : ℕ) (n : ℤ) (rise : ℕ) → n ≤ℤ pos rise → (change at b +ℤ n) ≤ℤ pos (rise_with at b rise)
most_with outside b n rise h = most_by (b == begin_object || b == begin_array) (b == end_object || b == end_array) n rise h
most_with inside b n rise h = omega (arith, ints)
most_with after_escape b n rise h = omega (arith, ints)

-- no count behind some of the bytes is greater
pub no_count_is_greater : (at : Where) (bytes : List ℕ) (n : ℕ) → count at (take n bytes) ≤ℤ pos (greatest_rise at bytes)
no_count_is_greater at [] zero = omega (arith, ints)
no_count_is_greater at [] (suc n) = omega (arith, ints)
no_count_is_greater at (b ∷ bytes) zero = omega (arith, ints)
no_count_is_greater at (b ∷ bytes) (suc n) =
    most_with at b (count (where_next at b) (take n bytes)) (greatest_rise (where_next at b) bytes) (no_count_is_greater (where_next at b) bytes n)

reached_by : (opens closes : Bool) (n : ℤ) (rise : ℕ) → n ≡ pos rise
    → ((changed_by opens closes +ℤ n) ≡ pos (risen_by opens closes rise)) ⊎ (risen_by opens closes rise ≡ 0)
reached_by true closes n rise h = inl (omega (arith, ints))
reached_by false true n zero h = inr refl
reached_by false true n (suc rise) h = inl (omega (arith, ints))
reached_by false false n rise h = inl (omega (arith, ints))

reached_with : (at : Where) (b : ℕ) (n : ℤ) (rise : ℕ) → n ≡ pos rise
    → ((change at b +ℤ n) ≡ pos (rise_with at b rise)) ⊎ (rise_with at b rise ≡ 0)
reached_with outside b n rise h = reached_by (b == begin_object || b == begin_array) (b == end_object || b == end_array) n rise h
reached_with inside b n rise h = inl (omega (arith, ints))
reached_with after_escape b n rise h = inl (omega (arith, ints))

reached_behind : (at : Where) (b : ℕ) (bytes : List ℕ) (n : ℕ)
    → (count at (take (suc n) (b ∷ bytes)) ≡ pos (greatest_rise at (b ∷ bytes))) ⊎ (greatest_rise at (b ∷ bytes) ≡ 0)
    → (m : ℕ) × (count at (take m (b ∷ bytes)) ≡ pos (greatest_rise at (b ∷ bytes)))
reached_behind at b bytes n (inl h) = (suc n, h)
reached_behind at b bytes n (inr h) = (0, ap pos (sym h))

-- and one is as great
pub some_count_is_as_great : (at : Where) (bytes : List ℕ) → (n : ℕ) × (count at (take n bytes) ≡ pos (greatest_rise at bytes))
some_count_is_as_great at [] = (0, refl)
some_count_is_as_great at (b ∷ bytes) =
    let more = some_count_is_as_great (where_next at b) bytes in
    reached_behind at b bytes more.0 (reached_with at b (count (where_next at b) (take more.0 bytes)) (greatest_rise (where_next at b) bytes) more.1)
