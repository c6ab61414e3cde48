-- Where a container of a JSON text opens inside of 512, 513 bytes open one.
use Rattle.std.specs.Prelude.{◌≡◌, ◌≤◌, ◌+◌, ◌-◌, ◌==◌, ◌||◌, ℕ, zero, suc, length, drop, List, [], ◌∷◌, Bool, true, false, cond, if◌then◌else◌}
use Rattle.std.specs.List.{count_by}
use Rattle.std.proofs.Common.{ap, arith}
use Rattle.std.proofs.lemmas.List.Sums.{sum_by-cons}
use Rattle.smithy_json_grammar.specs.Ascii.{begin_array, begin_object, end_array, end_object}
use Rattle.smithy_json_values.specs.Deepest.{has_come, EntriesLie, IsDueInside, OpensTooDeep}
use Rattle.smithy_json_values.specs.LexicalGrammar.{LexicalGrammar, is_skipped_in}
use Rattle.smithy_json_values.specs.Openers.{Where, outside, inside, after_escape, where_next, rise_with, greatest_rise, json_openers}
use Rattle.smithy_json_values.specs.Scalar.{JsonScalar}
use Rattle.smithy_json_values.specs.Spans.{entry_mark}
use Rattle.smithy_json_values.specs.Private.Skipping.{form_of, ValueBegins}
use Rattle.smithy_json_values.specs.Private.Wire.{opening_adds, entry_takes_none}
use Rattle.smithy_json_values.proofs.OpenContainers.{begins_entry, inside_mark}
use Rattle.smithy_json_values.proofs.OpenersLemmas.{node_takes_none}

-- ---- the brackets that open, by what the walk through a value has come to

module _ (g : LexicalGrammar) (test : JsonScalar → Bool) (i : List ℕ) where
  abbrev from : ℕ → ℕ
  from a = json_openers (drop a i)

  begins_none : (k : Bool) (b c : ℕ) (entered : Bool) → ValueBegins test i b k entered c → from c ≤ from b
  begins_none k b c entered begins =
      let entry = begins_entry g test i b entered c k begins in
      entry_takes_none (form_of k) i b (inside_mark entered) entry.0 c entry_mark entry.1

  entries_none : (k : Bool) (count b p : ℕ) → EntriesLie g test k count i b p → from p ≤ from b
  entries_none k zero b p entries = let same = ap from entries in omega (arith, same)
  entries_none k (suc count) b p (q, c, x, entries, begins, lies) =
      omega (arith, entries_none k count b q entries, begins_none k q c (has_come count) begins, node_takes_none g test i 1 x c p lies.0 lies.1)

  due_adds : (ks : List Bool) (a p : ℕ) → IsDueInside g test ks i a p → length ks + from p ≤ from a
  due_adds [] a p due = let same = ap from due in omega (arith, same)
  due_adds (k ∷ ks) a p (q, b, count, r, outer, opens, entries, begins) =
      omega (arith, due_adds ks a q outer, opening_adds (form_of k) i q b opens, entries_none k count b r entries, begins_none k r p (has_come count) begins)

pub opens_more : (g : LexicalGrammar) (i : List ℕ) (greatest : ℕ) → OpensTooDeep g greatest 0 i 0 → suc greatest ≤ json_openers i
opens_more g i greatest deep =
    let due = due_adds g (is_skipped_in g) i deep.containers 0 deep.at deep.due in
    omega (arith, due, opening_adds (form_of deep.is_object) i deep.at deep.inside deep.opens, deep.deepest)

-- ---- and by the bytes alone

abbrev pub opens : ℕ → Bool
opens b = b == begin_object || b == begin_array

rises_at_most : (at : Where) (b rise n : ℕ) → rise ≤ n → rise_with at b rise ≤ cond (opens b) 1 0 + n
rises_at_most outside b rise n low = by (opens b) (b == end_object || b == end_array)
  where
    by : (up down : Bool) → (if up then suc rise else (if down then rise - 1 else rise)) ≤ cond up 1 0 + n
    by true down = omega (arith, low)
    by false true = omega (arith, low)
    by false false = omega (arith, low)
rises_at_most inside b rise n low = by (opens b)
  where
    by : (up : Bool) → rise ≤ cond up 1 0 + n
    by true = omega (arith, low)
    by false = omega (arith, low)
rises_at_most after_escape b rise n low = by (opens b)
  where
    by : (up : Bool) → rise ≤ cond up 1 0 + n
    by true = omega (arith, low)
    by false = omega (arith, low)

pub rise_is_counted : (at : Where) (bytes : List ℕ) → greatest_rise at bytes ≤ count_by opens bytes
rise_is_counted at [] = omega arith
rise_is_counted at (b ∷ bytes) =
    let one = rises_at_most at b (greatest_rise (where_next at b) bytes) (count_by opens bytes) (rise_is_counted (where_next at b) bytes) in
    let sum : count_by opens (b ∷ bytes) ≡ cond (opens b) 1 0 + count_by opens bytes = sum_by-cons (λ c. cond (opens c) 1 0) b bytes in
    omega (arith, one, sum)
