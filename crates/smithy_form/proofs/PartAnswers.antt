-- Refusals that go from a part to the whole, and values without parts.
use Rattle.std.proofs.Common.{◌≡◌, ◌≢◌, ◌<◌, ◌+◌, ◌^◌, ◌==◌, ℕ, suc, List, [], ◌∷◌, length, true, false, Some, Result, Ok, Err, refl, sym, ◌∙◌, ap, subst, arith}
use Rattle.std.proofs.lemmas.Bool.Decides.{nat_tests}
use Rattle.smithy_declarations.specs.Table.{Kind, structure_of, union_of, list_of, map_of, IsStructure, IsUnion, IsList, IsMap, type_of}
use Rattle.smithy_declarations.specs.Value.{Value, scalar_value, list, map, structure, union, null_element, document_value, Values, MapEntries}
use Rattle.smithy_shapes.specs.Site.{Site, kind_at}
use Rattle.smithy_query_codec.specs.Leaves.{Leaf, leaf, form_at, scalar_text}
use Rattle.smithy_query_codec.proofs.DistinctLemmas.{Differ}
use Rattle.smithy_query_codec.proofs.PairLemmas.{Pairwise}
use Rattle.smithy_value.specs.declared.value.Value as kept
use Rattle.smithy_form.specs.declared.pairs.Pair.{Pair}
use Rattle.smithy_form.specs.declared.error.FormError.{FormError}
use Rattle.smithy_form.specs.declared.error.FormError.TheVariants.{BadPair, NotForm, Repeated, NoValue, NoMemory}
use Rattle.smithy_form.specs.Lookup.{inside, text_at, AreSame}
use Rattle.smithy_form.specs.Private.Answers.{ReadsHere, ReadsElements, ReadsEntries, HasNoParts}
use Rattle.smithy_form.specs.Private.Kept.{kept_leaves}
use Rattle.smithy_form.specs.Private.Order.{LeavesAscend}
use Rattle.smithy_form.specs.Private.Reading.{TellHere, TellNothing, AreElements, AreEntries}
use Rattle.smithy_form.specs.Private.Scalars.{ReadsScalar}
use Rattle.smithy_form.proofs.ReadLemmas.{scalar_made, scalar_told, none_so_deep}
use Rattle.smithy_form.proofs.UniqueValues.{sort_of, sort_is, structure_sort, union_sort, list_sort, map_sort}

-- ---- refusals

-- of a part, by that of the whole
pub part_refused : (inner : Site) (left_inner : ℕ) (part : List Leaf) (site : Site) (left : ℕ) (ls : List Leaf) (e : FormError) → ReadsHere inner left_inner part (Err e)
    → (TellNothing inner left_inner part → TellNothing site left ls) → ReadsHere site left ls (Err e)
part_refused inner left_inner part site left ls NoValue h refuses = refuses h
part_refused inner left_inner part site left ls NoMemory h refuses = tt
part_refused inner left_inner part site left ls NotForm h refuses = h
part_refused inner left_inner part site left ls (BadPair n) h refuses = h
part_refused inner left_inner part site left ls (Repeated n) h refuses = h

pub elements_refused : (inner : Site) (left_inner : ℕ) (part : List Leaf) (site : Site) (left : ℕ) (ls : List Leaf) (e : FormError) → ReadsElements inner left_inner part (Err e)
    → (((ws : Values) → AreElements inner left_inner part ws → ⊥) → TellNothing site left ls) → ReadsHere site left ls (Err e)
elements_refused inner left_inner part site left ls NoValue h refuses = refuses h
elements_refused inner left_inner part site left ls NoMemory h refuses = tt
elements_refused inner left_inner part site left ls NotForm h refuses = h
elements_refused inner left_inner part site left ls (BadPair n) h refuses = h
elements_refused inner left_inner part site left ls (Repeated n) h refuses = h

pub entries_refused : (keys vals : List ℕ) (inner : Site) (left_inner : ℕ) (part : List Leaf) (site : Site) (left : ℕ) (ls : List Leaf) (e : FormError)
    → ReadsEntries keys vals inner left_inner part (Err e) → (((ws : MapEntries) → AreEntries keys vals inner left_inner part ws → ⊥) → TellNothing site left ls)
    → ReadsHere site left ls (Err e)
entries_refused keys vals inner left_inner part site left ls NoValue h refuses = refuses h
entries_refused keys vals inner left_inner part site left ls NoMemory h refuses = tt
entries_refused keys vals inner left_inner part site left ls NotForm h refuses = h
entries_refused keys vals inner left_inner part site left ls (BadPair n) h refuses = h
entries_refused keys vals inner left_inner part site left ls (Repeated n) h refuses = h

-- of an element, by that of all elements
pub element_refused : (site : Site) (left : ℕ) (inner ls : List Leaf) (e : FormError) → ReadsHere site left inner (Err e)
    → (TellNothing site left inner → (ws : Values) → AreElements site left ls ws → ⊥) → ReadsElements site left ls (Err e)
element_refused site left inner ls NoValue h refuses = refuses h
element_refused site left inner ls NoMemory h refuses = tt
element_refused site left inner ls NotForm h refuses = h
element_refused site left inner ls (BadPair n) h refuses = h
element_refused site left inner ls (Repeated n) h refuses = h

-- of an entry, by that of all entries
pub entry_refused : (keys vals : List ℕ) (inner : Site) (left_inner : ℕ) (part : List Leaf) (site : Site) (left : ℕ) (ls : List Leaf) (e : FormError) → ReadsHere inner left_inner part (Err e)
    → (TellNothing inner left_inner part → (ws : MapEntries) → AreEntries keys vals site left ls ws → ⊥) → ReadsEntries keys vals site left ls (Err e)
entry_refused keys vals inner left_inner part site left ls NoValue h refuses = refuses h
entry_refused keys vals inner left_inner part site left ls NoMemory h refuses = tt
entry_refused keys vals inner left_inner part site left ls NotForm h refuses = h
entry_refused keys vals inner left_inner part site left ls (BadPair n) h refuses = h
entry_refused keys vals inner left_inner part site left ls (Repeated n) h refuses = h

-- ---- depth

-- where no container may stand, none does
pub no_structure : (site : Site) (left : ℕ) (ls : List Leaf) → IsStructure (kind_at site) → left ≡ 0 → TellNothing site left ls
no_structure site left ls kind none v told =
    let flat = none_so_deep site ls v (subst (λ n. TellHere site n ls v) none told) in
    let sort = sym (sort_is site v told.whole) ∙ structure_sort (kind_at site) kind in omega (arith, flat, sort)

pub no_union : (site : Site) (left : ℕ) (ls : List Leaf) → IsUnion (kind_at site) → left ≡ 0 → TellNothing site left ls
no_union site left ls kind none v told =
    let flat = none_so_deep site ls v (subst (λ n. TellHere site n ls v) none told) in
    let sort = sym (sort_is site v told.whole) ∙ union_sort (kind_at site) kind in omega (arith, flat, sort)

pub no_list : (site : Site) (left : ℕ) (ls : List Leaf) → IsList (kind_at site) → left ≡ 0 → TellNothing site left ls
no_list site left ls kind none v told =
    let flat = none_so_deep site ls v (subst (λ n. TellHere site n ls v) none told) in
    let sort = sym (sort_is site v told.whole) ∙ list_sort (kind_at site) kind in omega (arith, flat, sort)

pub no_map : (site : Site) (left : ℕ) (ls : List Leaf) → IsMap (kind_at site) → left ≡ 0 → TellNothing site left ls
no_map site left ls kind none v told =
    let flat = none_so_deep site ls v (subst (λ n. TellHere site n ls v) none told) in
    let sort = sym (sort_is site v told.whole) ∙ map_sort (kind_at site) kind in omega (arith, flat, sort)

-- ---- pairs

pub none_kept : (next : ℕ) (xs : List Pair) → length xs ≡ 0 → kept_leaves next xs ≡ []
none_kept next [] h = refl
none_kept next (x ∷ xs) h = absurd (omega (arith, h))

pub some_kept : (next : ℕ) (xs : List Pair) → xs ≢ [] → kept_leaves next xs ≢ []
some_kept next [] h = absurd (h refl)
some_kept next (x ∷ xs) h = λ e. cc

pub length_kept : (next : ℕ) (xs : List Pair) → length (kept_leaves next xs) ≡ length xs
length_kept next [] = refl
length_kept next (x ∷ xs) = ap suc (length_kept next xs)

pub are_none : (xs : List Pair) → (length xs == 0) ≡ true → length xs ≡ 0
are_none xs h = grind (arith, nat_tests)

pub are_some : (xs : List Pair) → (length xs == 0) ≡ false → xs ≢ []
are_some xs h = λ e. let none = ap length e in grind (arith, nat_tests)

-- ---- the pairs with a segment, from the place behind it

module _ (at : ℕ) (segment name : List ℕ) (found : List Pair) (same : segment ≡ name) where
  place : at + suc (length segment) ≡ at + length name + 1
  place = let l = ap length same in omega (arith, l)

  pub found_inside : (pairs : List Pair) → kept_leaves (at + suc (length segment)) found ≡ inside segment (kept_leaves at pairs)
      → kept_leaves (at + length name + 1) found ≡ inside name (kept_leaves at pairs)
  found_inside pairs is = ap (λ n. kept_leaves n found) (sym place) ∙ is ∙ ap (λ s. inside s (kept_leaves at pairs)) same

  pub found_sorted : LeavesAscend (kept_leaves (at + suc (length segment)) found) → LeavesAscend (kept_leaves (at + length name + 1) found)
  found_sorted sorted = subst (λ n. LeavesAscend (kept_leaves n found)) place sorted

  pub found_room : (found ≢ [] → at + length segment < 2 ^ 63) → found ≢ [] → at + length name < 2 ^ 63
  found_room room some = let r = room some in let l = ap length same in omega (arith, r, l)

-- ---- values without parts

structure_has_parts : (k : Kind) → IsStructure k → HasNoParts (type_of k) → ⊥
structure_has_parts (structure_of members) h none = none
structure_has_parts _ h none = h

union_has_parts : (k : Kind) → IsUnion k → HasNoParts (type_of k) → ⊥
union_has_parts (union_of members) h none = none
union_has_parts _ h none = h

list_has_parts : (k : Kind) → IsList k → HasNoParts (type_of k) → ⊥
list_has_parts (list_of l) h none = none
list_has_parts _ h none = h

map_has_parts : (k : Kind) → IsMap k → HasNoParts (type_of k) → ⊥
map_has_parts (map_of m) h none = none
map_has_parts _ h none = h

-- where no container stands, a value that is told is a scalar
no_parts : (site : Site) (left : ℕ) (ls : List Leaf) (v : Value) → HasNoParts (type_of (kind_at site)) → TellHere site left ls v → sort_of v ≡ 0
no_parts site left ls (scalar_value x) none told = refl
no_parts site left ls (list vs) none told = absurd (list_has_parts (kind_at site) told.whole.0 none)
no_parts site left ls (map es) none told = absurd (map_has_parts (kind_at site) told.whole.0 none)
no_parts site left ls (structure ms) none told = absurd (structure_has_parts (kind_at site) told.whole.0 none)
no_parts site left ls (union n v) none told = absurd (union_has_parts (kind_at site) told.whole.0 none)
no_parts site left ls null_element none told = absurd told.whole
no_parts site left ls (document_value d) none told = absurd told.whole

module _ (site : Site) (left : ℕ) (ls : List Leaf) (none : HasNoParts (type_of (kind_at site))) (apart : Pairwise Differ ls) where
  -- no leaf stands there alone
  pub no_text : ((t : List ℕ) → AreSame ls (leaf t ∷ []) → ⊥) → TellNothing site left ls
  no_text alone v told =
      let x = scalar_told site left ls v 0 apart told (no_parts site left ls v none told) in
      alone (scalar_text (form_at site) x.0) (λ p. ap (text_at p) x.4)

  -- the text of the one leaf was read
  pub text_read : (t : List ℕ) (result : Result kept.Value FormError) → ls ≡ leaf t ∷ [] → ReadsScalar (kind_at site) (form_at site) t result → ReadsHere site left ls result
  text_read t (Ok v) is (x, shown, (fits, held, written)) =
      subst (TellHere site left ls) (sym shown) (scalar_made site left x ls fits held (is ∙ ap (λ u. leaf u ∷ []) (sym written)))
  text_read t (Err NoValue) is h =
      λ v told.
      let x = scalar_told site left ls v 0 apart told (no_parts site left ls v none told) in
      let same : Some (scalar_text (form_at site) x.0) ≡ Some t = ap (text_at []) (sym x.4 ∙ is) in h x.0 (x.2, x.3, cc)
  text_read t (Err NoMemory) is h = tt
  text_read t (Err NotForm) is h = h
  text_read t (Err (BadPair n)) is h = h
  text_read t (Err (Repeated n)) is h = h
