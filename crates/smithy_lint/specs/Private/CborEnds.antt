-- Where an item ends that nests within the limit, as private functions answer it.
use Rattle.std.specs.Prelude.{◌≡◌, ◌≤◌, ◌<◌, ◌+◌, ℕ, max, Bool, true, false, List, [], ◌∷◌, length, Option, Result, Ok, Err}
use Rattle.std.specs.List.{count_by}
use Rattle.std.specs.Int.{is_in_range}
use Rattle.cbor_item.specs.Item.{Item}
use Rattle.cbor_item.specs.WellFormed.{IsEncodingOf, IsItemAt, HoldsNoItem}
use Rattle.smithy_schema.specs.Reading.{Mark}
use Rattle.smithy_cbor_values.specs.Standing.{mark_with, HasEntry, IsOver}
use Rattle.smithy_lint.specs.declared.linting.LintError.{LintError}
use Rattle.smithy_lint.specs.declared.linting.LintError.TheVariants.{NotWellFormed, TooNested, NoMemory}
use Rattle.smithy_lint.specs.Nesting.{item_nesting}

-- how many bytes may open an array, a map or a tag
abbrev pub cbor_opening_bytes : List ℕ → ℕ
cbor_opening_bytes bytes = count_by (is_in_range 0x80 0xdb) bytes

-- how many arrays, maps and tags may be nested
abbrev pub most_nested : ℕ
most_nested = 512

-- from a place to e is an item that nests so deep
abbrev pub ItemNests : List ℕ → ℕ → ℕ → ℕ → Type 0
ItemNests input at n e = (x : Item) × IsItemAt x input at e × (n ≡ item_nesting x)

-- from a place to e are a key and its value; the deeper of them nests so deep
abbrev pub PairNests : List ℕ → ℕ → ℕ → ℕ → Type 0
PairNests input at n e =
    (c key value : ℕ) × ItemNests input at key c × ItemNests input c value e × (n ≡ max key value)

-- one entry: of a map a key and its value, of an array an item
abbrev pub EntryNests : Bool → List ℕ → ℕ → ℕ → ℕ → Type 0
EntryNests true = PairNests
EntryNests false = ItemNests

abbrev pub greatest : List ℕ → ℕ
greatest [] = 0
greatest (k ∷ ks) = max k (greatest ks)

-- from b on with a mark come entries that nest so deep each, and then the container ends at e
abbrev pub EntriesLie : Bool → List ℕ → Mark → List ℕ → ℕ → ℕ → Type 0
EntriesLie is_map [] m input b e = IsOver input b m e
EntriesLie is_map (k ∷ ks) m input b e =
    (n : Mark) × (f : ℕ) × HasEntry input b m n × EntryNests is_map input b k f × EntriesLie is_map ks n input f e

-- the entries that come from a place on, of which so many are due, nest so deep, and their container ends at e
abbrev pub EntriesNest : Bool → Option ℕ → List ℕ → ℕ → ℕ → ℕ → Type 0
EntriesNest is_map due input at n e = (ks : List ℕ) × EntriesLie is_map ks (mark_with due) input at e × (n ≡ greatest ks)

-- The answer to where something ends that begins where these bytes are left, inside so many arrays, maps and tags. P n e says that
-- it nests n deep and ends at e.
abbrev pub EndsWithin : (ℕ → ℕ → Type 0) → ℕ → List ℕ → Result ℕ LintError → Type 0
EndsWithin P outer rest (Ok e) = (n : ℕ) × P n e × (outer + n ≤ most_nested)
EndsWithin P outer rest (Err NotWellFormed) = (n e : ℕ) → P n e → ⊥
EndsWithin P outer rest (Err TooNested) =
    ((n e : ℕ) → P n e → most_nested < outer + n) × (most_nested < outer + cbor_opening_bytes rest)
EndsWithin P outer rest (Err NoMemory) = Unit {0}

-- The entries of a container begin at b with so many due, and a walk through them is at another place with so many left. What is
-- left there is what was left, by its end and by whether it nests within the limit.
pub record EntriesWalked (is_map : Bool) (due : Option ℕ) (input : List ℕ) (b : ℕ) (outer : ℕ) (now : Option ℕ) (at : ℕ) : Type 0 where
  pub ahead : b ≤ at
  pub within : at ≤ length input
  pub left : (n e : ℕ) → EntriesNest is_map due input b n e → (k : ℕ) × EntriesNest is_map now input at k e × (k ≤ n)
  pub back : (k e : ℕ) → EntriesNest is_map now input at k e → outer + k ≤ most_nested
      → (n : ℕ) × EntriesNest is_map due input b n e × (outer + n ≤ most_nested)

-- why no end was found, however deep an item may nest: no item is there, or an allocation failed
abbrev pub IsEndFault : List ℕ → ℕ → LintError → Type 0
IsEndFault input at NotWellFormed = HoldsNoItem input at
IsEndFault input at TooNested = ⊥
IsEndFault input at NoMemory = Unit {0}

-- the answer to whether the bytes are one item that nests within the limit
abbrev pub IsChecked : List ℕ → Result (Unit {0}) LintError → Type 0
IsChecked input (Ok _) = (x : Item) × IsEncodingOf x input × (item_nesting x ≤ most_nested)
IsChecked input (Err NotWellFormed) = (x : Item) → IsEncodingOf x input → ⊥
IsChecked input (Err TooNested) =
    ((x : Item) → IsEncodingOf x input → most_nested < item_nesting x) × (most_nested < cbor_opening_bytes input)
IsChecked input (Err NoMemory) = Unit {0}
