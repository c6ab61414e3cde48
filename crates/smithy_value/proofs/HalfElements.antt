-- A list or a map that is half read, in both readings.
use Rattle.std.proofs.Common.{◌≡◌, ℕ, List, [], ◌∷◌, ◌++◌, Option, Some, None, Bool, true, Ok, Err, IsErrOf, refl, sym, ◌∙◌, ap, subst}
use Rattle.smithy_declarations.specs.declared.place.Place.{Place}
use Rattle.smithy_schema.specs.declared.error.SerdeError.{SerdeError}
use Rattle.smithy_schema.specs.declared.error.SerdeError.TheVariants.{TooDeep}
use Rattle.smithy_declarations.specs.Table.{Kind, list_of, map_of, IsList, IsMap, IsUnion, IsSparse, is_sparse, place_in}
use Rattle.smithy_shapes.specs.Site.{Site, kind_at}
use Rattle.smithy_declarations.specs.Value.{Value, null_element, MapEntries, no_map_entries, put_entry}
use Rattle.smithy_schema.specs.Errors.{RefusesNoKind, IsFault, IsInvalid}
use Rattle.smithy_schema.specs.Reading.{Cursor, ContainerKind, in_list, in_map, Relations, Child, child_value, child_null, named, depth, Conducts, Enters, Steps, Passes, Reads, StandsNot, NullsNot, null_is_due}
use Rattle.smithy_schema.proofs.CountLemmas.{value_counted, null_counted}
use Rattle.smithy_value.specs.ReadValue.{ReadsValue}
use Rattle.smithy_schema.proofs.ReadContainers.{itself}
use Rattle.smithy_schema.proofs.ReadLists.{list_value, begin_list, IsNoNull, begins_as_value, and_true, element_child, element_refused, null_refused, null_read}
use Rattle.smithy_schema.proofs.ReadMaps.{map_value, begin_map, value_child, entry_refused, null_entry_refused, null_entry_read}
use Rattle.smithy_value.proofs.ReadWide.{StandsInside, inside_child}
use Rattle.smithy_value.specs.DuePlaces.{AgreesInside, as_null, at_once}
use Rattle.smithy_value.proofs.ReadTypes.{none_came, one_came, one_deeper, goes_on, agrees_behind}
use Rattle.smithy_value.proofs.ReadAnswers.{ObeysLaws, call_fails, inner_fails}
use Rattle.smithy_value.proofs.HalfRead.{HalfRead, entered, stepped_to, passed_by, child_passed, to_child}

list_or_union : (k : Kind) → IsList k → IsUnion k → ⊥
list_or_union (list_of l) h variant = variant
list_or_union _ h variant = h

map_or_union : (k : Kind) → IsMap k → IsUnion k → ⊥
map_or_union (map_of m) h variant = variant
map_or_union _ h variant = h

-- whatever a key names, its value is one of the map's
same_place : (k : Kind) → IsMap k → (n : Option ℕ) → place_in k n ≡ place_in k None
same_place (map_of m) h n = refl
same_place _ h n = absurd h

module _ (w u : Relations) (tells_without_limits : Type 0) (max : ℕ) (laws : ObeysLaws w u tells_without_limits) where
  -- where a null begins, no value is due
  null_agrees : (o : Site) (s0 s s1 : Cursor) (k : ContainerKind) (worth : List Child → Option Value) (key : Option (List ℕ)) → HalfRead w u tells_without_limits max s0 s o.table o.place k worth → Steps w s s1 o.table o.place key
      → IsSparse (kind_at o) → null_is_due w s1 ≡ true → AgreesInside w s0 s1 o.table o.place
  null_agrees o s0 s s1 k worth key half steps sparse begins =
      agrees_behind w s0 s1 o.table o.place (one_deeper w w max s0 s s1 o.table o.place k worth half.kept key steps)
      (as_null o.place s0.at half.came.any key at_once (goes_on w w max s0 s s1 o.table o.place k worth half.kept key steps half.came) sparse
      (ap (λ i. w.begins_null i s1.at) (sym (steps.input ∙ half.kept.input)) ∙ and_true s1.due (w.begins_null s1.input s1.at) begins))

  -- ---- lists

  pub list_entered : {A : Type 0} (o : Site) (s0 s : Cursor) (x : A) → IsList (kind_at o) → Conducts {A = A} s0 s (Ok x) → Enters w max s0 s o.table o.place in_list
      → HalfRead w u tells_without_limits max s0 s o.table o.place in_list (list_value (is_sparse (kind_at o)) [])
  list_entered {A} o s0 s x kind conduct enters = record {
    kept = begin_list w w max laws.kept laws.kept (itself w) s0 s o.table o.place kind enters;
    lifted = begin_list w u max laws.kept laws.lifted laws.below s0 s o.table o.place kind enters;
    reached = entered w u tells_without_limits max laws {A = A} s0 s o.table o.place in_list x conduct enters;
    came = none_came w max s0 s o.table o.place in_list enters;
  }

  -- the place of the elements stands in the list's table
  pub element_passed : (o child : Site) (s0 s s1 s2 : Cursor) (sparse : Bool) (vs : List Value) (v : Value) → (child.table ≡ o.table) × (place_in (kind_at o) None ≡ Some child.place)
      → HalfRead w u tells_without_limits max s0 s o.table o.place in_list (list_value sparse vs) → Steps w s s1 o.table o.place None → IsNoNull w s1 (kind_at o) → Reads w s1 s2 child.table child.place v
      → HalfRead w u tells_without_limits max s0 s2 o.table o.place in_list (list_value sparse (vs ++ v ∷ []))
  element_passed o child s0 s s1 s2 sparse vs v place half steps no_null reads =
      let here = subst (λ t. Reads w s1 s2 t child.place v) place.0 reads in
      child_passed w u tells_without_limits max laws s0 s s1 s2 o.table o.place in_list (list_value sparse vs) None (child_value None None v) half steps
      (element_child w s1 o.table o.place child.place v s2.at steps.due no_null place.1 here.stands) here.passes
      (λ strict. value_counted w (laws.counts strict) s1 s2 o.table child.place v here)

  pub null_passed : (o : Site) (s0 s s1 s2 : Cursor) (vs : List Value) → IsSparse (kind_at o)
      → HalfRead w u tells_without_limits max s0 s o.table o.place in_list (list_value (is_sparse (kind_at o)) vs) → Steps w s s1 o.table o.place None → w.nulls s1.input (depth s1) s1.at s2.at → Passes s1 s2
      → HalfRead w u tells_without_limits max s0 s2 o.table o.place in_list (list_value (is_sparse (kind_at o)) (vs ++ null_element ∷ []))
  null_passed o s0 s s1 s2 vs sparse half steps nulls passes = record {
    kept = null_read w w max laws.kept (itself w) s0 s s1 s2 o.table o.place vs half.kept steps sparse nulls passes;
    lifted = null_read w u max laws.lifted laws.below s0 s s1 s2 o.table o.place vs half.lifted steps sparse nulls passes;
    reached = passed_by w u tells_without_limits laws s0 s1 s2 (stepped_to w u tells_without_limits laws s0 s s1 o.table o.place None half.reached steps) passes
        (λ strict. null_counted w (laws.counts strict) s1 s2 nulls passes);
    came = one_came w w max s0 s s1 o.table o.place in_list (list_value (is_sparse (kind_at o)) vs) half.kept None steps s2 (child_null None) half.came (refl, sparse, nulls) passes;
  }

  -- an element is refused
  pub element_fails : {A B : Type 0} (inner : A → Value) (view : B → Value) (o child : Site) (s0 s s1 s2 : Cursor) (worth : List Child → Option Value) (e : SerdeError) → IsList (kind_at o)
      → (child.table ≡ o.table) × (place_in (kind_at o) None ≡ Some child.place)
      → HalfRead w u tells_without_limits max s0 s o.table o.place in_list worth → Steps w s s1 o.table o.place None → IsNoNull w s1 (kind_at o)
      → ReadsValue {A = A} w u tells_without_limits max s1 s2 child inner (Err e)
      → ReadsValue {A = B} w u tells_without_limits max s0 s2 o view (Err e)
  element_fails {A} {B} inner view o child s0 s s1 s2 worth e kind place half steps no_null reads =
      inner_fails w u tells_without_limits max {A = A} {B = B} inner view child o s0 s1 s2 e
      (stepped_to w u tells_without_limits laws s0 s s1 o.table o.place None half.reached steps) reads
      (λ none. element_refused w w max laws.kept (itself w) s0 s s1 o.table o.place child.place worth kind half.kept steps place.1 (subst (λ t. StandsNot w s1 t child.place) place.0 none) no_null)
      (λ none. element_refused w u max laws.lifted laws.below s0 s s1 o.table o.place child.place worth kind half.lifted steps place.1 (subst (λ t. StandsNot u s1 t child.place) place.0 none) no_null)
      (λ lies there. inside_child lies w w max s0 s s1 s2 o.table o.place child.place in_list worth None None half.kept steps place.1 (subst (λ t. StandsInside lies s1 s2 t child.place) place.0 there))
      (to_child w u tells_without_limits max laws s0 s s1 o.table child.table o.place child.place in_list worth None half steps place.0 place.1 (begins_as_value w s1 (kind_at o) steps.due no_null) (λ variant. absurd (list_or_union _ kind variant)))

  -- what begins as a null is none
  pub null_fails : {A B : Type 0} (view : B → Value) (o : Site) (q : Place) (s0 s s1 s2 : Cursor) (worth : List Child → Option Value) (e : SerdeError) → IsList (kind_at o) → place_in (kind_at o) None ≡ Some q → IsSparse (kind_at o)
      → HalfRead w u tells_without_limits max s0 s o.table o.place in_list worth → Steps w s s1 o.table o.place None → null_is_due w s1 ≡ true
      → Conducts {A = A} s1 s2 (Err e) → RefusesNoKind {A = A} (Err e) → (IsErrOf {T = A} {E = SerdeError} (Err e) TooDeep → ⊥)
      → (null_is_due w s1 ≡ true → IsFault e → NullsNot w s1) → (tells_without_limits → null_is_due w s1 ≡ true → IsInvalid {A = A} (Err e) → NullsNot u s1)
      → ReadsValue {A = B} w u tells_without_limits max s0 s2 o view (Err e)
  null_fails {A} {B} view o q s0 s s1 s2 worth e kind place sparse half steps begins conduct narrow shallow refused none_without_limits =
      call_fails w u tells_without_limits max {A = A} {B = B} view o s0 s1 s2 e
      (stepped_to w u tells_without_limits laws s0 s s1 o.table o.place None half.reached steps) conduct narrow (λ due. null_agrees o s0 s s1 in_list worth None half steps sparse begins) (λ is. absurd (shallow is)) (λ is. absurd (shallow is))
      (λ fault. null_refused w w max laws.kept (itself w) s0 s s1 o.table o.place q worth kind half.kept steps place sparse begins (refused begins fault))
      (λ strict invalid. null_refused w u max laws.lifted laws.below s0 s s1 o.table o.place q worth kind half.lifted steps place sparse begins (none_without_limits strict begins invalid))

  -- ---- maps

  pub map_entered : {A : Type 0} (o : Site) (s0 s : Cursor) (x : A) → IsMap (kind_at o) → Conducts {A = A} s0 s (Ok x) → Enters w max s0 s o.table o.place in_map
      → HalfRead w u tells_without_limits max s0 s o.table o.place in_map (map_value (is_sparse (kind_at o)) no_map_entries)
  map_entered {A} o s0 s x kind conduct enters = record {
    kept = begin_map w w max laws.kept laws.kept (itself w) s0 s o.table o.place kind enters;
    lifted = begin_map w u max laws.kept laws.lifted laws.below s0 s o.table o.place kind enters;
    reached = entered w u tells_without_limits max laws {A = A} s0 s o.table o.place in_map x conduct enters;
    came = none_came w max s0 s o.table o.place in_map enters;
  }

  pub entry_passed : (o child : Site) (s0 s s1 s2 : Cursor) (sparse : Bool) (es : MapEntries) (key : List ℕ) (v : Value) → IsMap (kind_at o) → (child.table ≡ o.table) × (place_in (kind_at o) None ≡ Some child.place)
      → HalfRead w u tells_without_limits max s0 s o.table o.place in_map (map_value sparse es) → Steps w s s1 o.table o.place (Some key) → IsNoNull w s1 (kind_at o) → Reads w s1 s2 child.table child.place v
      → HalfRead w u tells_without_limits max s0 s2 o.table o.place in_map (map_value sparse (put_entry key v es))
  entry_passed o child s0 s s1 s2 sparse es key v kind place half steps no_null reads =
      let here = subst (λ t. Reads w s1 s2 t child.place v) place.0 reads in
      child_passed w u tells_without_limits max laws s0 s s1 s2 o.table o.place in_map (map_value sparse es) (Some key) (child_value (Some key) (named w o.table o.place (Some key)) v) half steps
      (value_child w s1 o.table o.place child.place key v s2.at kind steps.due no_null place.1 here.stands) here.passes
      (λ strict. value_counted w (laws.counts strict) s1 s2 o.table child.place v here)

  pub null_entry_passed : (o : Site) (s0 s s1 s2 : Cursor) (es : MapEntries) (key : List ℕ) → IsSparse (kind_at o)
      → HalfRead w u tells_without_limits max s0 s o.table o.place in_map (map_value (is_sparse (kind_at o)) es) → Steps w s s1 o.table o.place (Some key) → w.nulls s1.input (depth s1) s1.at s2.at → Passes s1 s2
      → HalfRead w u tells_without_limits max s0 s2 o.table o.place in_map (map_value (is_sparse (kind_at o)) (put_entry key null_element es))
  null_entry_passed o s0 s s1 s2 es key sparse half steps nulls passes = record {
    kept = null_entry_read w w max laws.kept (itself w) s0 s s1 s2 o.table o.place es key half.kept steps sparse nulls passes;
    lifted = null_entry_read w u max laws.lifted laws.below s0 s s1 s2 o.table o.place es key half.lifted steps sparse nulls passes;
    reached = passed_by w u tells_without_limits laws s0 s1 s2 (stepped_to w u tells_without_limits laws s0 s s1 o.table o.place (Some key) half.reached steps) passes
        (λ strict. null_counted w (laws.counts strict) s1 s2 nulls passes);
    came = one_came w w max s0 s s1 o.table o.place in_map (map_value (is_sparse (kind_at o)) es) half.kept (Some key) steps s2 (child_null (Some key)) half.came (refl, sparse, nulls) passes;
  }

  -- a value is refused
  pub entry_fails : {A B : Type 0} (inner : A → Value) (view : B → Value) (o child : Site) (s0 s s1 s2 : Cursor) (worth : List Child → Option Value) (key : List ℕ) (e : SerdeError) → IsMap (kind_at o)
      → (child.table ≡ o.table) × (place_in (kind_at o) None ≡ Some child.place)
      → HalfRead w u tells_without_limits max s0 s o.table o.place in_map worth → Steps w s s1 o.table o.place (Some key) → IsNoNull w s1 (kind_at o)
      → ReadsValue {A = A} w u tells_without_limits max s1 s2 child inner (Err e)
      → ReadsValue {A = B} w u tells_without_limits max s0 s2 o view (Err e)
  entry_fails {A} {B} inner view o child s0 s s1 s2 worth key e kind place half steps no_null reads =
      inner_fails w u tells_without_limits max {A = A} {B = B} inner view child o s0 s1 s2 e
      (stepped_to w u tells_without_limits laws s0 s s1 o.table o.place (Some key) half.reached steps) reads
      (λ none. entry_refused w w max laws.kept (itself w) s0 s s1 o.table o.place child.place worth key kind half.kept steps place.1 (subst (λ t. StandsNot w s1 t child.place) place.0 none) no_null)
      (λ none. entry_refused w u max laws.lifted laws.below s0 s s1 o.table o.place child.place worth key kind half.lifted steps place.1 (subst (λ t. StandsNot u s1 t child.place) place.0 none) no_null)
      (λ lies there. inside_child lies w w max s0 s s1 s2 o.table o.place child.place in_map worth (Some key) None half.kept steps place.1 (subst (λ t. StandsInside lies s1 s2 t child.place) place.0 there))
      (to_child w u tells_without_limits max laws s0 s s1 o.table child.table o.place child.place in_map worth (Some key) half steps place.0 (same_place _ kind (named w o.table o.place (Some key)) ∙ place.1) (begins_as_value w s1 (kind_at o) steps.due no_null) (λ variant. absurd (map_or_union _ kind variant)))

  -- what begins as a null is none
  pub null_entry_fails : {A B : Type 0} (view : B → Value) (o : Site) (q : Place) (s0 s s1 s2 : Cursor) (worth : List Child → Option Value) (key : List ℕ) (e : SerdeError) → IsMap (kind_at o) → place_in (kind_at o) None ≡ Some q → IsSparse (kind_at o)
      → HalfRead w u tells_without_limits max s0 s o.table o.place in_map worth → Steps w s s1 o.table o.place (Some key) → null_is_due w s1 ≡ true
      → Conducts {A = A} s1 s2 (Err e) → RefusesNoKind {A = A} (Err e) → (IsErrOf {T = A} {E = SerdeError} (Err e) TooDeep → ⊥)
      → (null_is_due w s1 ≡ true → IsFault e → NullsNot w s1) → (tells_without_limits → null_is_due w s1 ≡ true → IsInvalid {A = A} (Err e) → NullsNot u s1)
      → ReadsValue {A = B} w u tells_without_limits max s0 s2 o view (Err e)
  null_entry_fails {A} {B} view o q s0 s s1 s2 worth key e kind place sparse half steps begins conduct narrow shallow refused none_without_limits =
      call_fails w u tells_without_limits max {A = A} {B = B} view o s0 s1 s2 e
      (stepped_to w u tells_without_limits laws s0 s s1 o.table o.place (Some key) half.reached steps) conduct narrow (λ due. null_agrees o s0 s s1 in_map worth (Some key) half steps sparse begins) (λ is. absurd (shallow is)) (λ is. absurd (shallow is))
      (λ fault. null_entry_refused w w max laws.kept (itself w) s0 s s1 o.table o.place q worth key kind half.kept steps place sparse begins (refused begins fault))
      (λ strict invalid. null_entry_refused w u max laws.lifted laws.below s0 s s1 o.table o.place q worth key kind half.lifted steps place sparse begins (none_without_limits strict begins invalid))
