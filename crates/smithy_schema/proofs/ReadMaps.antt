-- A map that is half read.
use Rattle.std.proofs.Common.{◌≡◌, ◌<◌, ℕ, List, ◌∷◌, map as mapped, Option, Some, None, Bool, true, false, option_map, refl, sym, ◌∙◌, ap}
use Rattle.smithy_declarations.specs.declared.place.Place.{Place}
use Rattle.smithy_shapes.specs.declared.schema.Schema.{Schema}
use Rattle.smithy_shapes.specs.Site.{Site, site_of, inner_site, kind_at}
use Rattle.smithy_declarations.specs.Table.{Table, Kind, map_of, kind_of, place_in, IsMap, IsSparse, IsStructure, is_sparse, IsContainer}
use Rattle.smithy_declarations.specs.Value.{Value, map, null_element, MapEntries, no_map_entries, put_entry}
use Rattle.smithy_shapes.specs.Container.{entries_from, container_of}
use Rattle.smithy_shapes.specs.Lemmas.Options.{same_some}
use Rattle.smithy_schema.specs.Reading.{Cursor, in_map, depth, Relations, Child, child_value, child_unknown, child_null, entry_of, named, IsChild, IsLawful, IsBelow, Passes, Reads, Enters, Steps, StandsNot, NullsNot, null_is_due}
use Rattle.smithy_shapes.proofs.Inner.{inner_in}
use Rattle.smithy_schema.proofs.ReadContainers.{InContainer, worth_as, begin, child_read, no_child, no_null_begins, left_falls}
use Rattle.smithy_schema.proofs.ReadLists.{sparse_is, IsNoNull, begins_as_value, begins_otherwise}

-- the map that more children make of these entries
abbrev pub map_value : Bool → MapEntries → List Child → Option Value
map_value sparse es xs = option_map map (entries_from sparse es (mapped entry_of xs))

map_folds : (k : Kind) → IsMap k → (xs : List Child) → container_of k (mapped entry_of xs) ≡ map_value (is_sparse k) no_map_entries xs
map_folds (map_of m) h xs = refl
map_folds _ h xs = absurd h

pub map_contains : (k : Kind) → IsMap k → IsContainer k
map_contains (map_of m) h = tt
map_contains _ h = absurd h

not_structure : (k : Kind) → IsMap k → IsStructure k → ⊥
not_structure (map_of m) h l = l
not_structure _ h l = h

-- whatever a key names, its value is one of the map's
same_place : (k : Kind) → IsMap k → (n : Option ℕ) → place_in k n ≡ place_in k None
same_place (map_of m) h n = refl
same_place _ h n = absurd h

null_folds : (sparse : Bool) → sparse ≡ true → (key : List ℕ) (es : MapEntries) (xs : List Child) → map_value sparse es (child_null (Some key) ∷ xs) ≡ map_value sparse (put_entry key null_element es) xs
null_folds true h key es xs = refl
null_folds false h key es xs = cc

pub begin_map : (w u : Relations) (max : ℕ) → IsLawful w → IsLawful u → IsBelow w u → (s0 s : Cursor) (t : Table) (p : Place) → IsMap (kind_of t p) → Enters w max s0 s t p in_map
    → InContainer w u max s0 s t p in_map (map_value (is_sparse (kind_of t p)) no_map_entries)
begin_map w u max laws over below s0 s t p kind enters = worth_as w u max s0 s t p in_map _ _ (map_folds _ kind) (begin w u max laws over below s0 s t p in_map (map_contains _ kind) enters)

-- the child that a key leads to
pub value_child : (w : Relations) (s1 : Cursor) (t : Table) (p q : Place) (key : List ℕ) (v : Value) (f : ℕ) → IsMap (kind_of t p) → s1.due ≡ true → IsNoNull w s1 (kind_of t p) → place_in (kind_of t p) None ≡ Some q
    → w.stands s1.input t q (depth s1) s1.at v f → IsChild w s1.input t p (depth s1) (Some key) (child_value (Some key) (named w t p (Some key)) v) s1.at f
value_child w s1 t p q key v f kind due no_null place stands =
    (refl, refl, (q, same_place _ kind (named w t p (Some key)) ∙ place, stands), begins_as_value w s1 (kind_of t p) due no_null)

pub null_entry_read : (w u : Relations) (max : ℕ) → IsLawful u → IsBelow w u → (s0 s s1 s2 : Cursor) (t : Table) (p : Place) (es : MapEntries) (key : List ℕ)
    → InContainer w u max s0 s t p in_map (map_value (is_sparse (kind_of t p)) es) → Steps w s s1 t p (Some key) → IsSparse (kind_of t p) → w.nulls s1.input (depth s1) s1.at s2.at → Passes s1 s2
    → InContainer w u max s0 s2 t p in_map (map_value (is_sparse (kind_of t p)) (put_entry key null_element es))
null_entry_read w u max over below s0 s s1 s2 t p es key inside steps sparse nulls passes =
    worth_as w u max s0 s2 t p in_map _ _ (null_folds _ (sparse_is _ sparse) key es)
    (child_read w u max over below s0 s s1 s2 t p in_map (map_value (is_sparse (kind_of t p)) es) (Some key) (child_null (Some key)) inside steps (refl, sparse, nulls) passes)

-- the place of the values, as a schema of them tells it
pub map_place : (k : Kind) (t : Table) (e : Site) → IsMap k → Some e ≡ inner_in t k → (e.table ≡ t) × (place_in k None ≡ Some e.place)
map_place (map_of m) t e h is = (ap (λ (x : Site). x.table) (same_some _ _ is), ap (λ (x : Site). Some x.place) (sym (same_some _ _ is)))
map_place _ t e h is = absurd h

pub value_place : (o e : Schema) → IsMap (kind_at (site_of o)) → Some (site_of e) ≡ inner_site (site_of o) → (e.shapes.now ≡ o.shapes.now) × (place_in (kind_at (site_of o)) None ≡ Some e.place)
value_place o e h is = map_place (kind_at (site_of o)) o.shapes.now (site_of e) h is

entry_only : (w : Relations) (s1 : Cursor) (t : Table) (p q : Place) (key : List ℕ) → IsMap (kind_of t p) → place_in (kind_of t p) None ≡ Some q
    → ((v : Value) (f : ℕ) → w.stands s1.input t q (depth s1) s1.at v f → (IsSparse (kind_of t p) → w.begins_null s1.input s1.at ≡ false) → ⊥)
    → (IsSparse (kind_of t p) → (f : ℕ) → w.nulls s1.input (depth s1) s1.at f → ⊥)
    → (x : Child) (f : ℕ) → IsChild w s1.input t p (depth s1) (Some key) x s1.at f → ⊥
entry_only w s1 t p q key kind place none no_null (child_value k n v) f child =
    let same : Some child.2.0 ≡ Some q = sym child.2.1 ∙ same_place _ kind n ∙ place in
    let target : child.2.0 ≡ q = cc in
    none v f (rw (← target) child.2.2) child.3
entry_only w s1 t p q key kind place none no_null (child_null k) f child = no_null child.1 f child.2
entry_only w s1 t p q key kind place none no_null (child_unknown k) f child = not_structure _ kind child.1

-- a value that is due and refused, and no null either: the map can't be one
pub entry_refused : (w u : Relations) (max : ℕ) → IsLawful u → IsBelow w u → (s0 s s1 : Cursor) (t : Table) (p q : Place) (worth : List Child → Option Value) (key : List ℕ)
    → IsMap (kind_of t p) → InContainer w u max s0 s t p in_map worth → Steps w s s1 t p (Some key) → place_in (kind_of t p) None ≡ Some q
    → StandsNot u s1 t q → IsNoNull w s1 (kind_of t p) → StandsNot u s0 t p
entry_refused w u max over below s0 s s1 t p q worth key kind inside steps place none no_null =
    no_child w u max over below s0 s s1 t p in_map worth (Some key) inside steps
    (entry_only u s1 t p q key kind place (λ v f stands value. none v f stands)
    (λ sparse f. no_null_begins u over s1.input (depth s1) s1.at f (sym (below.begins_null s1.input s1.at) ∙ begins_as_value w s1 (kind_of t p) steps.due no_null sparse)))

-- what begins as a null in a sparse map, and is none
pub null_entry_refused : (w u : Relations) (max : ℕ) → IsLawful u → IsBelow w u → (s0 s s1 : Cursor) (t : Table) (p q : Place) (worth : List Child → Option Value) (key : List ℕ)
    → IsMap (kind_of t p) → InContainer w u max s0 s t p in_map worth → Steps w s s1 t p (Some key) → place_in (kind_of t p) None ≡ Some q
    → IsSparse (kind_of t p) → null_is_due w s1 ≡ true → NullsNot u s1
    → StandsNot u s0 t p
null_entry_refused w u max over below s0 s s1 t p q worth key kind inside steps place sparse begins none =
    no_child w u max over below s0 s s1 t p in_map worth (Some key) inside steps
    (entry_only u s1 t p q key kind place (λ v e stands value. begins_otherwise w u below s1 begins (value sparse)) (λ sparse f nulls. none f nulls))

-- less is left to read behind an entry
pub entry_falls : (w u : Relations) (max : ℕ) → IsLawful w → (s0 s s1 s2 : Cursor) (t : Table) (p q : Place) (worth : List Child → Option Value) (key : List ℕ) (v : Value)
    → IsMap (kind_of t p) → InContainer w u max s0 s t p in_map worth → Steps w s s1 t p (Some key) → IsNoNull w s1 (kind_of t p) → place_in (kind_of t p) None ≡ Some q → Reads w s1 s2 t q v
    → w.left s2.input s2.at s2.inner.mark < w.left s.input s.at s.inner.mark
entry_falls w u max laws s0 s s1 s2 t p q worth key v kind inside steps no_null place reads =
    left_falls w u max laws s0 s s1 s2 t p in_map worth (Some key) (child_value (Some key) (named w t p (Some key)) v) inside steps (value_child w s1 t p q key v s2.at kind steps.due no_null place reads.stands) reads.passes
