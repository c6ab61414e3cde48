-- Where an item ends that nests within the limit: by what its head opens, and entry by entry.
use Rattle.std.proofs.Common.{◌≡◌, ◌≤◌, ◌<◌, ◌+◌, ◌-◌, ℕ, suc, max, length, drop, List, [], ◌∷◌, ◌++◌, Bool, true, false, Option, Some, None, refl, ◌∙◌, sym, ap, subst, arith, inl, inr}
use Rattle.std.specs.Prelude.{slice_range, Result, Ok, Err, IfOk, IfErr}
use Rattle.std.specs.Int.{is_in_range}
use Rattle.std.proofs.lemmas.Bool.Decides.{nat_tests}
use Rattle.cbor_item.specs.declared.error.ItemError.{ItemError}
use Rattle.cbor_item.specs.declared.error.ItemError.TheVariants as faults
use Rattle.cbor_item.specs.declared.head.Head.{Head}
use Rattle.cbor_item.specs.Answer.{NoOtherFault, ReadsHead}
use Rattle.cbor_item.specs.Fault.{IsItemFault}
use Rattle.cbor_item.specs.Head.{HeadRead, BeginsWithHead}
use Rattle.cbor_item.specs.Item.{Item, unsigned, negative, byte_string, text_string, array, map as map_item, tag, simple, float, Extent, Items, no_items, item, Pairs, no_pairs, pair}
use Rattle.cbor_item.specs.WellFormed.{IsEncodingOf, IsItemAt, HoldsOneItem, HoldsNoItem}
use Rattle.cbor_item.proofs.FirstByte.{item_major, major_of, not_empty}
use Rattle.cbor_item.proofs.HeadLemmas.{head_is_only}
use Rattle.cbor_item.proofs.SkipLemmas.{fault_there}
use Rattle.cbor_item.proofs.SkipSteps.{head_fault}
use Rattle.smithy_schema.specs.Reading.{Mark}
use Rattle.smithy_cbor.specs.Reading.{OpensAt}
use Rattle.smithy_cbor.proofs.TaggedLemmas.{head_opens, tag_there}
use Rattle.smithy_cbor_values.specs.Standing.{mark_with, HasEntry, IsOver}
use Rattle.smithy_cbor_values.specs.Private.ArrayPlaces.{ItemsLie, items_array, array_items}
use Rattle.smithy_cbor_values.specs.Private.MapPlaces.{PairsLie, pairs_map, map_pairs}
use Rattle.smithy_cbor_values.specs.Private.ItemPlaces.{item_ahead, item_front, one_item}
use Rattle.smithy_cbor_values.specs.Private.Entries.{same_entry, entry_or_over}
use Rattle.smithy_cbor_values.specs.Private.ContainerBytes.{same_opens_at}
use Rattle.smithy_cbor_values.specs.Private.NextInContainer.{IsEntryOrEnd}
use Rattle.smithy_cbor_values.proofs.BigNumberPlaces.{tag_parts}
use Rattle.smithy_cbor_values.proofs.SpellingLemmas.{encoding_stands, standing_encodes}
use Rattle.smithy_lint.specs.declared.linting.LintError.{LintError}
use Rattle.smithy_lint.specs.declared.linting.LintError.TheVariants.{NotWellFormed, TooNested, NoMemory}
use Rattle.smithy_lint.specs.Nesting.{item_nesting, items_nesting, pairs_nesting}
use Rattle.smithy_lint.specs.Private.CborEnds.{cbor_opening_bytes, most_nested, ItemNests, PairNests, EntryNests, greatest, EntriesLie, EntriesNest, EndsWithin, EntriesWalked, IsEndFault, IsChecked}
use Rattle.smithy_lint.proofs.CborOpenings.{openings_fall, opening_adds}

-- ---- one item

-- where the head can't be read there is no item
head_fails : (input : List ℕ) (at : ℕ) (e : ItemError) → ReadsHead (drop at input) (Err e) → HoldsNoItem input at
head_fails input at e reads =
    of e reads.no_other_error (fault_there input at [] e (head_fault [] [] (drop at input) input e reads.truncated reads.not_well_formed reads.no_other_error))
  where
    of : (e : ItemError) → NoOtherFault {A = Head} (Err e) → IsItemFault input at e → HoldsNoItem input at
    of faults.Truncated other fault = fault.0
    of faults.NotWellFormed other fault = fault.0
    of faults.WrongType other fault = absurd other
    of faults.InvalidUtf8 other fault = absurd other
    of faults.NoMemory other fault = absurd other

pub no_head : (input : List ℕ) (at : ℕ) (r : Result Head ItemError) → ReadsHead (drop at input) r → ((h : Head) → r ≡ Ok h → ⊥) → HoldsNoItem input at
no_head input at (Ok h) reads other = absurd (other h refl)
no_head input at (Err e) reads other = head_fails input at e reads

-- the head's major type is that of the item
major_there : (x : Item) (input : List ℕ) (at e : ℕ) (h : HeadRead) → IsItemAt x input at e → BeginsWithHead (drop at input) h → h.major ≡ major_of x
major_there x input at e h there begins =
    go (slice_range input at e) there.1 (subst (λ (s : List ℕ). BeginsWithHead s h) (item_front x input at e there) begins)
  where
    go : (s : List ℕ) → IsEncodingOf x s → BeginsWithHead (s ++ drop e input) h → h.major ≡ major_of x
    go [] encoded begins = absurd (not_empty x encoded)
    go (b ∷ s) encoded begins = ap (λ (k : HeadRead). k.major) (head_is_only b (s ++ drop e input) h begins) ∙ item_major x b s encoded

-- what is no array, no map and no tag doesn't nest
flat : (x : Item) (major : ℕ) → major ≡ major_of x → is_in_range 4 6 major ≡ false → 0 ≡ item_nesting x
unfolding major_of
flat (array extent is) major type other = absurd (grind (arith, nat_tests))
flat (map_item extent ps) major type other = absurd (grind (arith, nat_tests))
flat (tag n i) major type other = absurd (grind (arith, nat_tests))
flat (unsigned n) major type other = refl
flat (negative n) major type other = refl
flat (byte_string extent chunks) major type other = refl
flat (text_string extent chunks) major type other = refl
flat (simple n) major type other = refl
flat (float digits) major type other = refl

-- an item that isn't a container ends where it is skipped to
pub skipped : (input : List ℕ) (at outer : ℕ) (h : HeadRead) (r : Result ℕ LintError) → outer ≤ most_nested → BeginsWithHead (drop at input) h → is_in_range 4 6 h.major ≡ false
    → IfOk r (HoldsOneItem input at) → IfErr r (IsEndFault input at) → EndsWithin (ItemNests input at) outer (drop at input) r
skipped input at outer h (Ok e) shallow begins other one fault =
    (0, (one.value, one.encoded, flat one.value h.major (major_there one.value input at e h one.encoded begins) other), omega (arith, shallow))
skipped input at outer h (Err NotWellFormed) shallow begins other one none = λ n e x. none x.0 e x.1
skipped input at outer h (Err TooNested) shallow begins other one never = absurd never
skipped input at outer h (Err NoMemory) shallow begins other one memory = tt

-- ---- what a head opens

-- which items are arrays, maps and tags
an_array : (x : Item) → 4 ≡ major_of x → (extent : Extent) × (is : Items) × (x ≡ array extent is)
unfolding major_of
an_array (array extent is) type = (extent, is, refl)
an_array (unsigned n) type = absurd (omega (arith, type))
an_array (negative n) type = absurd (omega (arith, type))
an_array (byte_string extent chunks) type = absurd (omega (arith, type))
an_array (text_string extent chunks) type = absurd (omega (arith, type))
an_array (map_item extent ps) type = absurd (omega (arith, type))
an_array (tag n i) type = absurd (omega (arith, type))
an_array (simple n) type = absurd (omega (arith, type))
an_array (float digits) type = absurd (omega (arith, type))

a_map : (x : Item) → 5 ≡ major_of x → (extent : Extent) × (ps : Pairs) × (x ≡ map_item extent ps)
unfolding major_of
a_map (map_item extent ps) type = (extent, ps, refl)
a_map (unsigned n) type = absurd (omega (arith, type))
a_map (negative n) type = absurd (omega (arith, type))
a_map (byte_string extent chunks) type = absurd (omega (arith, type))
a_map (text_string extent chunks) type = absurd (omega (arith, type))
a_map (array extent is) type = absurd (omega (arith, type))
a_map (tag n i) type = absurd (omega (arith, type))
a_map (simple n) type = absurd (omega (arith, type))
a_map (float digits) type = absurd (omega (arith, type))

a_tag : (x : Item) → 6 ≡ major_of x → (n : ℕ) × (i : Item) × (x ≡ tag n i)
unfolding major_of
a_tag (tag n i) type = (n, i, refl)
a_tag (unsigned n) type = absurd (omega (arith, type))
a_tag (negative n) type = absurd (omega (arith, type))
a_tag (byte_string extent chunks) type = absurd (omega (arith, type))
a_tag (text_string extent chunks) type = absurd (omega (arith, type))
a_tag (array extent is) type = absurd (omega (arith, type))
a_tag (map_item extent ps) type = absurd (omega (arith, type))
a_tag (simple n) type = absurd (omega (arith, type))
a_tag (float digits) type = absurd (omega (arith, type))

-- items are entries, and their nesting is the greatest of the entries
items_entries : (xs : Items) (m : Mark) (input : List ℕ) (b e : ℕ) → ItemsLie xs m input b e → (ks : List ℕ) × EntriesLie false ks m input b e × (items_nesting xs ≡ greatest ks)
items_entries no_items m input b e lie = ([], lie, refl)
items_entries (item x xs) m input b e (n, f, entry, there, lie) =
    let (ks, rest, is) = items_entries xs n input f e lie in
    (item_nesting x ∷ ks, (n, f, entry, (x, there, refl), rest), ap (max (item_nesting x)) is)

entries_items : (ks : List ℕ) (m : Mark) (input : List ℕ) (b e : ℕ) → EntriesLie false ks m input b e → (xs : Items) × ItemsLie xs m input b e × (greatest ks ≡ items_nesting xs)
entries_items [] m input b e lie = (no_items, lie, refl)
entries_items (k ∷ ks) m input b e (n, f, entry, (x, there, first), lie) =
    let (xs, rest, is) = entries_items ks n input f e lie in
    (item x xs, (n, f, entry, there, rest), rw (first, is) refl)

outwards : (a b c : ℕ) → max a (max b c) ≡ max (max a b) c
outwards a b c = omega arith

pairs_entries : (ps : Pairs) (m : Mark) (input : List ℕ) (b e : ℕ) → PairsLie ps m input b e → (ks : List ℕ) × EntriesLie true ks m input b e × (pairs_nesting ps ≡ greatest ks)
pairs_entries no_pairs m input b e lie = ([], lie, refl)
pairs_entries (pair k v ps) m input b e (n, c, f, entry, key, value, lie) =
    let (ks, rest, is) = pairs_entries ps n input f e lie in (
      max (item_nesting k) (item_nesting v) ∷ ks,
      (n, f, entry, (c, item_nesting k, item_nesting v, (k, key, refl), (v, value, refl), refl), rest),
      outwards (item_nesting k) (item_nesting v) (pairs_nesting ps) ∙ ap (max (max (item_nesting k) (item_nesting v))) is,
    )

entries_pairs : (ks : List ℕ) (m : Mark) (input : List ℕ) (b e : ℕ) → EntriesLie true ks m input b e → (ps : Pairs) × PairsLie ps m input b e × (greatest ks ≡ pairs_nesting ps)
entries_pairs [] m input b e lie = (no_pairs, lie, refl)
entries_pairs (k ∷ ks) m input b e (n, f, entry, (c, i, j, (key, first, key_is), (value, second, value_is), both), lie) =
    let (ps, rest, is) = entries_pairs ks n input f e lie in
    (pair key value ps, (n, c, f, entry, first, second, rest), rw (both, key_is, value_is, is) (sym (outwards (item_nesting key) (item_nesting value) (pairs_nesting ps))))

-- a tag has a number
tag_number : (h : HeadRead) (bytes : List ℕ) → BeginsWithHead bytes h → h.major ≡ 6 → (n : ℕ) × (h.argument ≡ Some n)
tag_number h bytes begins type = of h.major h.argument h.length begins type
  where
    of : (major : ℕ) (argument : Option ℕ) (len : ℕ) → BeginsWithHead bytes (record { major = major; argument = argument; length = len }) → major ≡ 6 → (n : ℕ) × (argument ≡ Some n)
    of major (Some n) len begins type = (n, refl)
    of major None len (within, (inl range, e)) type = absurd (omega (arith, range.1, type))
    of major None len (within, (inr seven, e)) type = absurd (omega (arith, seven, type))

-- arrays, maps and tags nest
nests : (x : Item) (major : ℕ) → major ≡ major_of x → is_in_range 4 6 major ≡ true → 0 < item_nesting x
unfolding major_of
nests (array extent is) major type other = omega arith
nests (map_item extent ps) major type other = omega arith
nests (tag n i) major type other = omega arith
nests (unsigned n) major type other = absurd (grind (arith, nat_tests))
nests (negative n) major type other = absurd (grind (arith, nat_tests))
nests (byte_string extent chunks) major type other = absurd (grind (arith, nat_tests))
nests (text_string extent chunks) major type other = absurd (grind (arith, nat_tests))
nests (simple n) major type other = absurd (grind (arith, nat_tests))
nests (float digits) major type other = absurd (grind (arith, nat_tests))

-- what is one deeper
pub record Deeper (P Q : ℕ → ℕ → Type 0) : Type 0 where
  pub out : (n e : ℕ) → P n e → Q (suc n) e
  pub into : (n e : ℕ) → Q n e → (k : ℕ) × (n ≡ suc k) × P k e

array_deeper : (input : List ℕ) (at inside : ℕ) (due : Option ℕ) → OpensAt 4 due input at inside → Deeper (EntriesNest false due input inside) (ItemNests input at)
array_deeper input at inside due opens = record { out = out; into = into }
  where
    out : (n e : ℕ) → EntriesNest false due input inside n e → ItemNests input at (suc n) e
    out n e (ks, lie, is) =
        let (xs, items, most) = entries_items ks (mark_with due) input inside e lie in
        let (extent, there) = items_array due xs input at inside e opens items in
        (array extent xs, there, ap suc (is ∙ most))

    into : (n e : ℕ) → ItemNests input at n e → (k : ℕ) × (n ≡ suc k) × EntriesNest false due input inside k e
    into n e (x, there, is) =
        let (extent, xs, same) = an_array x (major_there x input at e (record { major = 4; argument = due; length = inside - at }) there opens.1) in
        let (other, b, first, items) = array_items extent xs input at e (subst (λ (y : Item). IsItemAt y input at e) same there) in
        let place = same_opens_at 4 other due input at b inside first opens in
        let (ks, lie, most) = items_entries xs (mark_with other) input b e items in
        let P : ℕ → Option ℕ → Type 0 = λ c d. EntriesLie false ks (mark_with d) input c e in
        (items_nesting xs, is ∙ ap item_nesting same, (ks, subst (λ (c : ℕ). P c due) place.0 (subst (λ (d : Option ℕ). P b d) place.1 lie), most))

map_deeper : (input : List ℕ) (at inside : ℕ) (due : Option ℕ) → OpensAt 5 due input at inside → Deeper (EntriesNest true due input inside) (ItemNests input at)
map_deeper input at inside due opens = record { out = out; into = into }
  where
    out : (n e : ℕ) → EntriesNest true due input inside n e → ItemNests input at (suc n) e
    out n e (ks, lie, is) =
        let (ps, pairs, most) = entries_pairs ks (mark_with due) input inside e lie in
        let (extent, there) = pairs_map due ps input at inside e opens pairs in
        (map_item extent ps, there, ap suc (is ∙ most))

    into : (n e : ℕ) → ItemNests input at n e → (k : ℕ) × (n ≡ suc k) × EntriesNest true due input inside k e
    into n e (x, there, is) =
        let (extent, ps, same) = a_map x (major_there x input at e (record { major = 5; argument = due; length = inside - at }) there opens.1) in
        let (other, b, first, pairs) = map_pairs extent ps input at e (subst (λ (y : Item). IsItemAt y input at e) same there) in
        let place = same_opens_at 5 other due input at b inside first opens in
        let (ks, lie, most) = pairs_entries ps (mark_with other) input b e pairs in
        let P : ℕ → Option ℕ → Type 0 = λ c d. EntriesLie true ks (mark_with d) input c e in
        (pairs_nesting ps, is ∙ ap item_nesting same, (ks, subst (λ (c : ℕ). P c due) place.0 (subst (λ (d : Option ℕ). P b d) place.1 lie), most))

tag_deeper : (input : List ℕ) (at inside number : ℕ) → OpensAt 6 (Some number) input at inside → Deeper (ItemNests input inside) (ItemNests input at)
tag_deeper input at inside number opens = record { out = out; into = into }
  where
    out : (n e : ℕ) → ItemNests input inside n e → ItemNests input at (suc n) e
    out n e (x, there, is) = (tag number x, tag_there number x input at inside e opens there, ap suc is)

    into : (n e : ℕ) → ItemNests input at n e → (k : ℕ) × (n ≡ suc k) × ItemNests input inside k e
    into n e (x, there, is) =
        let (m, i, same) = a_tag x (major_there x input at e (record { major = 6; argument = Some number; length = inside - at }) there opens.1) in
        let (b, first, content) = tag_parts m i input at e (subst (λ (y : Item). IsItemAt y input at e) same there) in
        let place = same_opens_at 6 (Some m) (Some number) input at b inside first opens in
        (item_nesting i, is ∙ ap item_nesting same, (i, subst (λ (c : ℕ). IsItemAt i input c e) place.0 content, refl))

-- the answer to what is inside is that to the whole
one_less : (P Q : ℕ → ℕ → Type 0) (outer : ℕ) (inside whole : List ℕ) (r : Result ℕ LintError) → Deeper P Q → suc (cbor_opening_bytes inside) ≤ cbor_opening_bytes whole
    → EndsWithin P (outer + 1) inside r → EndsWithin Q outer whole r
one_less P Q outer inside whole (Ok e) deeper fewer (n, here, fits) = (suc n, deeper.out n e here, omega (arith, fits))
one_less P Q outer inside whole (Err NotWellFormed) deeper fewer none = λ n e there. let (k, is, here) = deeper.into n e there in none k e here
one_less P Q outer inside whole (Err TooNested) deeper fewer (deep, many) =
    (λ n e there. let (k, is, here) = deeper.into n e there in omega (arith, is, deep k e here), omega (arith, fewer, many))
one_less P Q outer inside whole (Err NoMemory) deeper fewer memory = tt

-- of an array, a map and a tag, by the head that was read
module _ (input : List ℕ) (at outer : ℕ) (h : HeadRead) (r : Result ℕ LintError) (inside : ℕ) (begins : BeginsWithHead (drop at input) h) (place : inside ≡ at + h.length) where
  fewer : is_in_range 4 6 h.major ≡ true → suc (cbor_opening_bytes (drop inside input)) ≤ cbor_opening_bytes (drop at input)
  fewer type = let adds = opening_adds input at h type begins in
      subst (λ (n : ℕ). suc (cbor_opening_bytes (drop n input)) ≤ cbor_opening_bytes (drop at input)) (sym place) adds

  pub array_ends : h.major ≡ 4 → EndsWithin (EntriesNest false h.argument input inside) (outer + 1) (drop inside input) r → EndsWithin (ItemNests input at) outer (drop at input) r
  array_ends type =
      one_less (EntriesNest false h.argument input inside) (ItemNests input at) outer (drop inside input) (drop at input) r
      (array_deeper input at inside h.argument (head_opens h 4 h.argument input at inside begins type refl place))
      (fewer (ap (is_in_range 4 6) type))

  pub map_ends : h.major ≡ 5 → EndsWithin (EntriesNest true h.argument input inside) (outer + 1) (drop inside input) r → EndsWithin (ItemNests input at) outer (drop at input) r
  map_ends type =
      one_less (EntriesNest true h.argument input inside) (ItemNests input at) outer (drop inside input) (drop at input) r
      (map_deeper input at inside h.argument (head_opens h 5 h.argument input at inside begins type refl place))
      (fewer (ap (is_in_range 4 6) type))

  pub tag_ends : h.major ≡ 6 → EndsWithin (ItemNests input inside) (outer + 1) (drop inside input) r → EndsWithin (ItemNests input at) outer (drop at input) r
  tag_ends type =
      let number = tag_number h (drop at input) begins type in
      one_less (ItemNests input inside) (ItemNests input at) outer (drop inside input) (drop at input) r
      (tag_deeper input at inside number.0 (head_opens h 6 (Some number.0) input at inside begins type number.1 place))
      (fewer (ap (is_in_range 4 6) type))

-- where as many are nested as may be, one more is too many
pub too_many : (input : List ℕ) (at outer : ℕ) (h : HeadRead) → BeginsWithHead (drop at input) h → is_in_range 4 6 h.major ≡ true → most_nested ≤ outer
    → EndsWithin (ItemNests input at) outer (drop at input) (Err TooNested)
too_many input at outer h begins type full = (
  λ n e (x, there, is). omega (arith, full, is, nests x h.major (major_there x input at e h there begins) type),
  omega (arith, full, opening_adds input at h type begins),
)

-- ---- entry by entry

-- an item is determined, and so are its end and how deep it nests
one_nested : (input : List ℕ) (at k j e f : ℕ) → ItemNests input at k e → ItemNests input at j f → (k ≡ j) × (e ≡ f)
one_nested input at k j e f (x, there, is) (y, other, same) =
    let one = one_item x y input at e f there other in (is ∙ ap item_nesting one.0 ∙ sym same, one.1)

-- and so is an entry
one_entry : (is_map : Bool) (input : List ℕ) (at k j e f : ℕ) → EntryNests is_map input at k e → EntryNests is_map input at j f → (k ≡ j) × (e ≡ f)
one_entry false input at k j e f here there = one_nested input at k j e f here there
one_entry true input at k j e f (c, key, value, first, second, is) (d, name, content, third, fourth, same) =
    let keys = one_nested input at key name c d first third in
    let values = one_nested input d value content e f (subst (λ (b : ℕ). ItemNests input b value e) keys.1 second) fourth in
    (is ∙ rw (keys.0, values.0) (sym same), values.1)

-- an entry takes a byte
nested_ahead : (input : List ℕ) (at k e : ℕ) → ItemNests input at k e → (at < e) × (e ≤ length input)
nested_ahead input at k e (x, there, is) = (item_ahead x input at e there, there.0)

entry_ahead : (is_map : Bool) (input : List ℕ) (at k e : ℕ) → EntryNests is_map input at k e → (at < e) × (e ≤ length input)
entry_ahead false input at k e here = nested_ahead input at k e here
entry_ahead true input at k e (c, key, value, first, second, is) =
    let keys = nested_ahead input at key c first in
    let values = nested_ahead input c value e second in (omega (arith, keys.0, values.0), values.1)

-- at the beginning all is left
pub half_begins : (is_map : Bool) (due : Option ℕ) (input : List ℕ) (b outer : ℕ) → b ≤ length input → EntriesWalked is_map due input b outer due b
half_begins is_map due input b outer within = record {
  ahead = omega arith;
  within = within;
  left = λ n e whole. (n, whole, omega arith);
  back = λ k e rest fits. (k, rest, fits);
}

-- where another entry comes, it is the first of those that are left, and the others are behind it
first_left : (is_map : Bool) (now : Option ℕ) (next : Mark) (input : List ℕ) (at j e : ℕ) → HasEntry input at (mark_with now) next → EntriesNest is_map now input at j e
    → (i f : ℕ) × (ks : List ℕ) × EntryNests is_map input at i f × EntriesLie is_map ks next input f e × (j ≡ max i (greatest ks))
first_left is_map now next input at j e entry ([], over, is) = absurd (entry_or_over input at (mark_with now) next e entry over)
first_left is_map now next input at j e entry (i ∷ ks, (m, f, other, here, rest), is) =
    let same = same_entry input at (mark_with now) m next other entry in
    (i, f, ks, here, subst (λ (n : Mark). EntriesLie is_map ks n input f e) same rest, is)

-- one entry further on
pub half_steps : (is_map : Bool) (due : Option ℕ) (input : List ℕ) (b outer : ℕ) (now next : Option ℕ) (at k f : ℕ) → EntriesWalked is_map due input b outer now at
    → HasEntry input at (mark_with now) (mark_with next) → EntryNests is_map input at k f → outer + k ≤ most_nested → EntriesWalked is_map due input b outer next f
half_steps is_map due input b outer now next at k f half entry here fits = record {
  ahead = omega (arith, half.ahead, (entry_ahead is_map input at k f here).0);
  within = (entry_ahead is_map input at k f here).1;
  left = left;
  back = λ j e (ks, lie, is) shallow. half.back (max k j) e (k ∷ ks, (mark_with next, f, entry, here, lie), ap (max k) is) (omega (arith, fits, shallow));
}
  where
    left : (n e : ℕ) → EntriesNest is_map due input b n e → (j : ℕ) × EntriesNest is_map next input f j e × (j ≤ n)
    left n e whole =
        let (j, rest, less) = half.left n e whole in
        let (i, g, ks, other, lie, is) = first_left is_map now (mark_with next) input at j e entry rest in
        let one = one_entry is_map input at i k g f other here in
        (greatest ks, (ks, subst (λ (c : ℕ). EntriesLie is_map ks (mark_with next) input c e) one.1 lie, refl), omega (arith, less, is))

pub half_smaller : (is_map : Bool) (input : List ℕ) (outer at f : ℕ) → EndsWithin (EntryNests is_map input at) outer (drop at input) (Ok f) → length input - f < length input - at
half_smaller is_map input outer at f (k, here, fits) = let up = entry_ahead is_map input at k f here in omega (arith, up.0, up.1)

-- the end
pub half_ends : (is_map : Bool) (due : Option ℕ) (input : List ℕ) (b outer : ℕ) (now : Option ℕ) (at e : ℕ) → outer ≤ most_nested → EntriesWalked is_map due input b outer now at
    → IsOver input at (mark_with now) e → EndsWithin (EntriesNest is_map due input b) outer (drop b input) (Ok e)
half_ends is_map due input b outer now at e shallow half over = half.back 0 e ([], over, refl) (omega (arith, shallow))

-- neither an entry nor the end
pub half_breaks : (is_map : Bool) (due : Option ℕ) (input : List ℕ) (b outer : ℕ) (now : Option ℕ) (at : ℕ) → EntriesWalked is_map due input b outer now at
    → IsEntryOrEnd input at now None → EndsWithin (EntriesNest is_map due input b) outer (drop b input) (Err NotWellFormed)
half_breaks is_map due input b outer now at half (no_entry, no_end) = λ n e whole. let (j, rest, less) = half.left n e whole in nothing j e rest
  where
    nothing : (j e : ℕ) → EntriesNest is_map now input at j e → ⊥
    nothing j e ([], over, is) = no_end e over
    nothing j e (i ∷ ks, (m, f, entry, here, rest), is) = no_entry m entry

-- an entry whose end isn't found
pub half_fails : (is_map : Bool) (due : Option ℕ) (input : List ℕ) (b outer : ℕ) (now next : Option ℕ) (at : ℕ) (fault : LintError) → EntriesWalked is_map due input b outer now at
    → HasEntry input at (mark_with now) (mark_with next) → EndsWithin (EntryNests is_map input at) outer (drop at input) (Err fault)
    → EndsWithin (EntriesNest is_map due input b) outer (drop b input) (Err fault)
half_fails is_map due input b outer now next at NotWellFormed half entry none = λ n e whole.
    let (j, rest, less) = half.left n e whole in
    let (i, f, ks, here, lie, is) = first_left is_map now (mark_with next) input at j e entry rest in none i f here
half_fails is_map due input b outer now next at TooNested half entry (deep, many) = (
  λ n e whole.
      let (j, rest, less) = half.left n e whole in
      let (i, f, ks, here, lie, is) = first_left is_map now (mark_with next) input at j e entry rest in omega (arith, deep i f here, less, is),
  omega (arith, many, openings_fall input b at half.ahead),
)
half_fails is_map due input b outer now next at NoMemory half entry memory = tt

-- ---- an entry

-- a key without an end is an entry without one
pub entry_fails : (is_map : Bool) (input : List ℕ) (at outer : ℕ) (fault : LintError) → EndsWithin (ItemNests input at) outer (drop at input) (Err fault)
    → EndsWithin (EntryNests is_map input at) outer (drop at input) (Err fault)
entry_fails false input at outer fault ends = ends
entry_fails true input at outer NotWellFormed none = λ n e (c, key, value, first, second, is). none key c first
entry_fails true input at outer TooNested (deep, many) = (λ n e (c, key, value, first, second, is). omega (arith, deep key c first, is), many)
entry_fails true input at outer NoMemory memory = tt

-- a key, and then the answer to its value
pub pair_ends : (input : List ℕ) (at outer c : ℕ) (r : Result ℕ LintError) → EndsWithin (ItemNests input at) outer (drop at input) (Ok c)
    → EndsWithin (ItemNests input c) outer (drop c input) r → EndsWithin (PairNests input at) outer (drop at input) r
pair_ends input at outer c (Ok e) (k, key, fits) (v, value, shallow) = (max k v, (c, k, v, key, value, refl), omega (arith, fits, shallow))
pair_ends input at outer c (Err NotWellFormed) (k, key, fits) none = λ n e (d, name, content, first, second, is).
    none content e (subst (λ (b : ℕ). ItemNests input b content e) (one_nested input at name k d c first key).1 second)
pair_ends input at outer c (Err TooNested) (k, key, fits) (deep, many) = (
  λ n e (d, name, content, first, second, is).
      omega (arith, is, deep content e (subst (λ (b : ℕ). ItemNests input b content e) (one_nested input at name k d c first key).1 second)),
  omega (arith, many, openings_fall input at c (omega (arith, (nested_ahead input at k c key).0))),
)
pair_ends input at outer c (Err NoMemory) key memory = tt

-- ---- the whole input

-- an item from its start to its end
pub whole_ends : (input : List ℕ) (e : ℕ) → length input ≤ e → EndsWithin (ItemNests input 0) 0 input (Ok e)
    → (x : Item) × IsEncodingOf x input × (item_nesting x ≤ most_nested)
whole_ends input e over (n, (x, there, is), fits) =
    (x, standing_encodes x input e there (omega (arith, over, there.0)), omega (arith, is, fits))

-- bytes behind an item
pub bytes_behind : (input : List ℕ) (e : ℕ) → e < length input → EndsWithin (ItemNests input 0) 0 input (Ok e) → (x : Item) → IsEncodingOf x input → ⊥
bytes_behind input e short (n, (y, there, is), fits) x encoded =
    omega (arith, short, (one_item x y input 0 (length input) e (encoding_stands x input encoded) there).1)

-- no end is found
pub whole_fails : (input : List ℕ) (fault : LintError) → EndsWithin (ItemNests input 0) 0 input (Err fault) → IsChecked input (Err fault)
whole_fails input NotWellFormed none = λ x encoded. none (item_nesting x) (length input) (x, encoding_stands x input encoded, refl)
whole_fails input TooNested (deep, many) =
    (λ x encoded. omega (arith, deep (item_nesting x) (length input) (x, encoding_stands x input encoded, refl)), omega (arith, many))
whole_fails input NoMemory memory = tt
