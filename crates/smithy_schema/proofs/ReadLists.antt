-- A list that is half read.
use Rattle.std.proofs.Common.{◌≡◌, ◌<◌, ◌&&◌, ℕ, List, [], ◌∷◌, ◌++◌, map, Option, Some, None, Bool, true, false, option_map, refl, sym, ◌∙◌, ap}
use Rattle.smithy_declarations.specs.declared.place.Place.{Place}
use Rattle.smithy_shapes.specs.declared.schema.Schema.{Schema}
use Rattle.smithy_shapes.specs.Site.{Site, site_of, inner_site, kind_at}
use Rattle.smithy_declarations.specs.Table.{Table, Kind, list_of, map_of, kind_of, place_in, IsList, IsSparse, is_sparse, IsContainer}
use Rattle.smithy_declarations.specs.Value.{Value, list, values_of, null_element}
use Rattle.smithy_shapes.specs.Container.{elements_from, container_of}
use Rattle.smithy_shapes.specs.Lemmas.Kinds.{no_list_and_structure}
use Rattle.smithy_shapes.specs.Lemmas.Options.{same_some}
use Rattle.smithy_schema.specs.Reading.{Cursor, in_list, depth, Relations, Child, child_value, child_unknown, child_null, entry_of, IsChild, IsLawful, IsBelow, Passes, Reads, Enters, Steps, StandsNot, NullsNot, null_is_due}
use Rattle.smithy_shapes.proofs.Inner.{inner_in}
use Rattle.smithy_schema.proofs.ReadContainers.{InContainer, worth_as, begin, child_read, no_child, no_null_begins, left_falls}

-- the list that more children make behind these values
abbrev pub list_value : Bool → List Value → List Child → Option Value
list_value sparse vs xs = option_map (λ us. list (values_of us)) (elements_from sparse vs (map entry_of xs))

list_folds : (k : Kind) → IsList k → (xs : List Child) → container_of k (map entry_of xs) ≡ list_value (is_sparse k) [] xs
list_folds (list_of l) h xs = refl
list_folds _ h xs = absurd h

pub list_contains : (k : Kind) → IsList k → IsContainer k
list_contains (list_of l) h = tt
list_contains _ h = absurd h

pub sparse_is : (k : Kind) → IsSparse k → is_sparse k ≡ true
sparse_is (list_of l) h = h
sparse_is (map_of m) h = h
sparse_is _ h = absurd h

null_folds : (sparse : Bool) → sparse ≡ true → (vs : List Value) (xs : List Child) → list_value sparse vs (child_null None ∷ xs) ≡ list_value sparse (vs ++ null_element ∷ []) xs
null_folds true h vs xs = refl
null_folds false h vs xs = cc

pub begin_list : (w u : Relations) (max : ℕ) → IsLawful w → IsLawful u → IsBelow w u → (s0 s : Cursor) (t : Table) (p : Place) → IsList (kind_of t p) → Enters w max s0 s t p in_list → InContainer w u max s0 s t p in_list (list_value (is_sparse (kind_of t p)) [])
begin_list w u max laws over below s0 s t p kind enters = worth_as w u max s0 s t p in_list _ _ (list_folds _ kind) (begin w u max laws over below s0 s t p in_list (list_contains _ kind) enters)

pub due_begins : (d b : Bool) → d ≡ true → (d && b) ≡ false → b ≡ false
due_begins true b due none = none
due_begins false b due none = cc

-- what is due in a sparse container doesn't begin as a null
abbrev pub IsNoNull : Relations → Cursor → Kind → Type 0
IsNoNull w s k = IsSparse k → null_is_due w s ≡ false

pub begins_as_value : (w : Relations) (s : Cursor) (k : Kind) → s.due ≡ true → IsNoNull w s k → IsSparse k → w.begins_null s.input s.at ≡ false
begins_as_value w s k due no_null sparse = due_begins s.due (w.begins_null s.input s.at) due (no_null sparse)

-- the child that is an element
pub element_child : (w : Relations) (s1 : Cursor) (t : Table) (p q : Place) (v : Value) (f : ℕ) → s1.due ≡ true → IsNoNull w s1 (kind_of t p) → place_in (kind_of t p) None ≡ Some q
    → w.stands s1.input t q (depth s1) s1.at v f → IsChild w s1.input t p (depth s1) None (child_value None None v) s1.at f
element_child w s1 t p q v f due no_null place stands = (refl, refl, (q, place, stands), begins_as_value w s1 (kind_of t p) due no_null)

pub null_read : (w u : Relations) (max : ℕ) → IsLawful u → IsBelow w u → (s0 s s1 s2 : Cursor) (t : Table) (p : Place) (vs : List Value)
    → InContainer w u max s0 s t p in_list (list_value (is_sparse (kind_of t p)) vs) → Steps w s s1 t p None → IsSparse (kind_of t p) → w.nulls s1.input (depth s1) s1.at s2.at → Passes s1 s2
    → InContainer w u max s0 s2 t p in_list (list_value (is_sparse (kind_of t p)) (vs ++ null_element ∷ []))
null_read w u max over below s0 s s1 s2 t p vs inside steps sparse nulls passes =
    worth_as w u max s0 s2 t p in_list _ _ (null_folds _ (sparse_is _ sparse) vs)
    (child_read w u max over below s0 s s1 s2 t p in_list (list_value (is_sparse (kind_of t p)) vs) None (child_null None) inside steps (refl, sparse, nulls) passes)

-- the place of the elements, as a schema of them tells it
pub list_place : (k : Kind) (t : Table) (e : Site) → IsList k → Some e ≡ inner_in t k → (e.table ≡ t) × (place_in k None ≡ Some e.place)
list_place (list_of l) t e h is = (ap (λ (x : Site). x.table) (same_some _ _ is), ap (λ (x : Site). Some x.place) (sym (same_some _ _ is)))
list_place _ t e h is = absurd h

pub element_place : (o e : Schema) → IsList (kind_at (site_of o)) → Some (site_of e) ≡ inner_site (site_of o) → (e.shapes.now ≡ o.shapes.now) × (place_in (kind_at (site_of o)) None ≡ Some e.place)
element_place o e h is = list_place (kind_at (site_of o)) o.shapes.now (site_of e) h is

element_only : (w : Relations) (s1 : Cursor) (t : Table) (p q : Place) → IsList (kind_of t p) → place_in (kind_of t p) None ≡ Some q
    → ((v : Value) (f : ℕ) → w.stands s1.input t q (depth s1) s1.at v f → (IsSparse (kind_of t p) → w.begins_null s1.input s1.at ≡ false) → ⊥)
    → (IsSparse (kind_of t p) → (f : ℕ) → w.nulls s1.input (depth s1) s1.at f → ⊥)
    → (x : Child) (f : ℕ) → IsChild w s1.input t p (depth s1) None x s1.at f → ⊥
element_only w s1 t p q kind place none no_null (child_value k n v) f child =
    let same : Some child.2.0 ≡ Some q = sym child.2.1 ∙ ap (place_in (kind_of t p)) child.1 ∙ place in
    let target : child.2.0 ≡ q = cc in
    none v f (rw (← target) child.2.2) child.3
element_only w s1 t p q kind place none no_null (child_null k) f child = no_null child.1 f child.2
element_only w s1 t p q kind place none no_null (child_unknown k) f child = no_list_and_structure _ kind child.1

-- a value that is due and refused, and no null either: the list can't be one
pub element_refused : (w u : Relations) (max : ℕ) → IsLawful u → IsBelow w u → (s0 s s1 : Cursor) (t : Table) (p q : Place) (worth : List Child → Option Value)
    → IsList (kind_of t p) → InContainer w u max s0 s t p in_list worth → Steps w s s1 t p None → place_in (kind_of t p) None ≡ Some q
    → StandsNot u s1 t q → IsNoNull w s1 (kind_of t p) → StandsNot u s0 t p
element_refused w u max over below s0 s s1 t p q worth kind inside steps place none no_null =
    no_child w u max over below s0 s s1 t p in_list worth None inside steps
    (element_only u s1 t p q kind place (λ v f stands value. none v f stands)
    (λ sparse f. no_null_begins u over s1.input (depth s1) s1.at f (sym (below.begins_null s1.input s1.at) ∙ begins_as_value w s1 (kind_of t p) steps.due no_null sparse)))

pub and_true : (d b : Bool) → (d && b) ≡ true → b ≡ true
and_true true b h = h
and_true false b h = cc

pub begins_otherwise : (w u : Relations) → IsBelow w u → (s1 : Cursor) → null_is_due w s1 ≡ true → u.begins_null s1.input s1.at ≡ false → ⊥
begins_otherwise w u below s1 begins value =
    let both : true ≡ false = sym (and_true s1.due (w.begins_null s1.input s1.at) begins) ∙ below.begins_null s1.input s1.at ∙ value in cc

-- what begins as a null in a sparse list, and is none
pub null_refused : (w u : Relations) (max : ℕ) → IsLawful u → IsBelow w u → (s0 s s1 : Cursor) (t : Table) (p q : Place) (worth : List Child → Option Value)
    → IsList (kind_of t p) → InContainer w u max s0 s t p in_list worth → Steps w s s1 t p None → place_in (kind_of t p) None ≡ Some q
    → IsSparse (kind_of t p) → null_is_due w s1 ≡ true → NullsNot u s1
    → StandsNot u s0 t p
null_refused w u max over below s0 s s1 t p q worth kind inside steps place sparse begins none =
    no_child w u max over below s0 s s1 t p in_list worth None inside steps
    (element_only u s1 t p q kind place (λ v e stands value. begins_otherwise w u below s1 begins (value sparse)) (λ sparse f nulls. none f nulls))

-- less is left to read behind an element
pub element_falls : (w u : Relations) (max : ℕ) → IsLawful w → (s0 s s1 s2 : Cursor) (t : Table) (p q : Place) (worth : List Child → Option Value) (v : Value)
    → InContainer w u max s0 s t p in_list worth → Steps w s s1 t p None → IsNoNull w s1 (kind_of t p) → place_in (kind_of t p) None ≡ Some q → Reads w s1 s2 t q v
    → w.left s2.input s2.at s2.inner.mark < w.left s.input s.at s.inner.mark
element_falls w u max laws s0 s s1 s2 t p q worth v inside steps no_null place reads =
    left_falls w u max laws s0 s s1 s2 t p in_list worth None (child_value None None v) inside steps (element_child w s1 t p q v s2.at steps.due no_null place reads.stands) reads.passes
