-- How many arrays and objects are open at once, by the bytes alone, which needn't be a JSON text.
use Rattle.std.specs.Prelude.{ℕ, suc, ◌-◌, List, [], ◌∷◌, ◌==◌, ◌||◌, if◌then◌else◌}
use Rattle.smithy_json_grammar.specs.Ascii.{quotation_mark, escape, begin_array, end_array, begin_object, end_object}

-- where a byte stands: outside a string, inside one, or inside one behind a backslash
pub data Where : Type 0 where
  outside inside after_escape : Where

-- where the next byte stands, behind the byte b
abbrev pub where_next : Where → ℕ → Where
where_next outside b = if b == quotation_mark then inside else outside
where_next inside b = if b == quotation_mark then outside else (if b == escape then after_escape else inside)
where_next after_escape b = inside

-- How far the count of open brackets rises from before the byte b on, where it rises by `rise` from behind b on. Outside of a
-- string an opening bracket adds one to the count, and a closing bracket takes one away. A rise is never below 0, since the count
-- that it starts from is one of those of which it takes the greatest.
abbrev pub rise_with : Where → ℕ → ℕ → ℕ
rise_with outside b rise =
    if b == begin_object || b == begin_array then suc rise
    else (if b == end_object || b == end_array then rise - 1 else rise)
rise_with _ b rise = rise

-- the most by which the count of open brackets rises in these bytes above what it is before them
abbrev pub greatest_rise : Where → List ℕ → ℕ
greatest_rise at [] = 0
greatest_rise at (b ∷ bytes) = rise_with at b (greatest_rise (where_next at b) bytes)

-- The greatest count of open brackets in these bytes, counted from 0 and from outside of a string on. A closing bracket takes one
-- away even where none is open, so the count may fall below 0 in between.
abbrev pub json_openers : List ℕ → ℕ
json_openers bytes = greatest_rise outside bytes
