-- What a read of a list or a map answers where an item of it was read, or was refused.
use Rattle.std.proofs.Common.{◌≡◌, ◌↔◌, ◌<◌, ℕ, List, [], ◌∷◌, ◌++◌, Option, Some, None, Bool, true, Result, Ok, Err, false, IsErrAnd, refl, sym, ◌∙◌, ap, subst}
use Rattle.smithy_schema.specs.declared.error.SerdeError.{SerdeError}
use Rattle.smithy_schema.specs.declared.error.SerdeError.TheVariants.{NoMemory}
use Rattle.smithy_schema.specs.declared.read.ShapeDeserializer as deserializer
use Rattle.smithy_declarations.specs.Table.{Table, IsList, IsMap, IsSparse, is_sparse, place_in}
use Rattle.smithy_declarations.specs.Value.{Value, MapEntries, put_entry, null_element}
use Rattle.smithy_shapes.specs.Site.{Site, kind_at}
use Rattle.smithy_schema.specs.Reading.{ContainerKind, in_list, in_map, Child, child_null, Reader, Cursor, Passes, Reads, depth}
use Rattle.smithy_schema.specs.Passing.{ReadsNull}
use Rattle.smithy_schema.proofs.CountLemmas.{null_counted}
use Rattle.smithy_schema.proofs.ReadContainers.{left_falls}
use Rattle.smithy_schema.proofs.ReadLists.{list_value, element_falls}
use Rattle.smithy_schema.proofs.ReadMaps.{map_value, entry_falls}
use Rattle.smithy_value.specs.ReadTree.{ReadsTree}
use Rattle.smithy_value.specs.ReadValue.{ReadsValue}
use Rattle.smithy_value.specs.Private.Items.{BeginsNull, ReadsAnyNull, IsItem, as_null, as_value, ReadsItem}
use Rattle.smithy_value.proofs.HalfRead.{stepped_to, passed_by, value_passed}
use Rattle.smithy_value.proofs.HalfElements.{element_passed, element_fails, null_passed, null_fails, entry_passed, entry_fails, null_entry_passed, null_entry_fails}
use Rattle.smithy_value.proofs.ReadTrees.{Obeys, HalfTree, ReachedBy, left_by, nearer_by, DueIn, memory_out}

-- the place of an item, whose schema is of the container's table
abbrev pub IsInner : Site → Site → Type 0
IsInner site child = (child.table ≡ site.table) × (place_in (kind_at site) None ≡ Some child.place)

-- what the read of an item says, by the settings that were there before
item_at : {D T : Type 0} (d : deserializer.Ghosts D) (old mid new : D) (sparse : Bool) (child : Site) (view : T → Value) (result : Result T SerdeError) → d.settings mid ≡ d.settings old
    → IsItem (d.reading (d.settings mid)) sparse (d.state mid) (d.state new) child view result → IsItem (d.reading (d.settings old)) sparse (d.state mid) (d.state new) child view result
item_at d old mid new sparse child view result same item = subst (λ (c : d.Settings). IsItem (d.reading c) sparse (d.state mid) (d.state new) child view result) same item

-- the error of a call is the answer
pub null_returned : {r : Reader} {sparse : Bool} {old new : Cursor} (result : Result Bool SerdeError) (e : SerdeError) → IsErrAnd result (λ x. x ≡ e) → BeginsNull r sparse old → ReadsNull r old new (Err e) → ReadsAnyNull r sparse old new result
null_returned (Ok b) e is begins nulls = absurd is
null_returned {r} {sparse} {old} {new} (Err x) e is begins nulls = subst (λ (y : SerdeError). ReadsAnyNull r sparse old new (Err y)) (sym is) (begins, nulls)

-- where no null was read, the reader is where it was
pub none_read : (r : Reader) (sparse : Bool) (old new : Cursor) (b : Bool) → b ≡ false → ReadsAnyNull r sparse old new (Ok b) → new ≡ old
none_read r sparse old new false is nulls = nulls.1
none_read r sparse old new true is nulls = cc

-- ---- after an item, and where it is refused

module _ {D : Type 0} {d : deserializer.Ghosts D} where
  null_reached : {old s mid : D} {site : Site} {k : ContainerKind} {worth : List Child → Option Value} {key : Option (List ℕ)} (new : D) → Obeys d → DueIn d old s mid site k worth key
      → (d.reading (d.settings old)).wire.nulls (d.state mid).input (depth (d.state mid)) (d.state mid).at (d.state new).at → Passes (d.state mid) (d.state new) → ReachedBy d old new
  null_reached {old} {s} {mid} {site} {k} {worth} {key} new laws due nulls passes =
      let r = d.reading (d.settings old) in
      let l = laws (d.settings old) in
      passed_by r.wire r.lifted r.tells_without_limits l (d.state old) (d.state mid) (d.state new)
      (stepped_to r.wire r.lifted r.tells_without_limits l (d.state old) (d.state s) (d.state mid) site.table site.place key due.half.reached due.steps) passes
      (λ strict. null_counted r.wire (l.counts strict) (d.state mid) (d.state new) nulls passes)

  null_nearer : {old s mid : D} {site : Site} {k : ContainerKind} {worth : List Child → Option Value} {key : Option (List ℕ)} (new : D) → Obeys d → IsSparse (kind_at site) → DueIn d old s mid site k worth key
      → (d.reading (d.settings old)).wire.nulls (d.state mid).input (depth (d.state mid)) (d.state mid).at (d.state new).at → Passes (d.state mid) (d.state new) → left_by d (d.settings old) new < left_by d (d.settings old) s
  null_nearer {old} {s} {mid} {site} {k} {worth} {key} new laws sparse due nulls passes =
      let r = d.reading (d.settings old) in
      left_falls r.wire r.wire r.max_depth (laws (d.settings old)).kept (d.state old) (d.state s) (d.state mid) (d.state new) site.table site.place k worth key (child_null key) due.half.kept due.steps (refl, sparse, nulls) passes

module _ {D T : Type 0} {d : deserializer.Ghosts D} where
  item_reached : {old s mid : D} {site child : Site} {k : ContainerKind} {worth : List Child → Option Value} {key : Option (List ℕ)} {sparse : Bool} {x : T} (new : D) (view : T → Value) → Obeys d → DueIn d old s mid site k worth key
      → IsItem (d.reading (d.settings old)) sparse (d.state mid) (d.state new) child view (Ok x) → ReachedBy d old new
  item_reached new view laws due (as_null begins nulls shown) = null_reached new laws due (nulls.ok begins.1) (nulls.passes begins.1)
  item_reached {old} {s} {mid} {site} {child} {k} {worth} {key} {sparse} {x} new view laws due (as_value none reads) =
      let r = d.reading (d.settings old) in
      value_passed r.wire r.lifted r.tells_without_limits r.max_depth (laws (d.settings old)) {A = T} view child (d.state old) (d.state mid) (d.state new) x
      (stepped_to r.wire r.lifted r.tells_without_limits (laws (d.settings old)) (d.state old) (d.state s) (d.state mid) site.table site.place key due.half.reached due.steps) reads

  element_is_refused : {old s mid : D} {site child : Site} {worth : List Child → Option Value} {sparse : Bool} {e : SerdeError} (new : D) (view view' : T → Value) → Obeys d → IsList (kind_at site) → IsInner site child → (sparse ≡ true) ↔ IsSparse (kind_at site)
      → DueIn d old s mid site in_list worth None → IsItem (d.reading (d.settings old)) sparse (d.state mid) (d.state new) child view (Err e)
      → ReadsValue {A = T} (d.reading (d.settings old)).wire (d.reading (d.settings old)).lifted (d.reading (d.settings old)).tells_without_limits (d.reading (d.settings old)).max_depth (d.state old) (d.state new) site view' (Err e)
  element_is_refused {old} {s} {mid} {site} {child} {worth} {sparse} {e} new view view' laws kind inner sparsely due (as_null begins nulls shown) =
      let r = d.reading (d.settings old) in
      null_fails r.wire r.lifted r.tells_without_limits r.max_depth (laws (d.settings old)) {A = Unit {0}} {B = T} view' site child.place (d.state old) (d.state s) (d.state mid) (d.state new) worth e kind inner.1 (sparsely.0 begins.0) due.half due.steps begins.1
      nulls.conduct nulls.narrow nulls.shallow nulls.refused nulls.none_without_limits
  element_is_refused {old} {s} {mid} {site} {child} {worth} {sparse} {e} new view view' laws kind inner sparsely due (as_value none reads) =
      let r = d.reading (d.settings old) in
      element_fails r.wire r.lifted r.tells_without_limits r.max_depth (laws (d.settings old)) {A = T} {B = T} view view' site child (d.state old) (d.state s) (d.state mid) (d.state new) worth e kind inner due.half due.steps (λ here. none (sparsely.1 here)) reads

  element_is_read : {old s mid : D} {site child : Site} {sparse : Bool} {x : T} (new : D) (view : T → Value) (vs : List Value) → Obeys d → IsInner site child → (sparse ≡ true) ↔ IsSparse (kind_at site)
      → DueIn d old s mid site in_list (list_value (is_sparse (kind_at site)) vs) None → IsItem (d.reading (d.settings old)) sparse (d.state mid) (d.state new) child view (Ok x)
      → HalfTree d old new site in_list (list_value (is_sparse (kind_at site)) (vs ++ view x ∷ []))
  element_is_read {old} {s} {mid} {site} {child} {sparse} {x} new view vs laws inner sparsely due (as_null begins nulls shown) =
      let r = d.reading (d.settings old) in
      subst (λ (v : Value). HalfTree d old new site in_list (list_value (is_sparse (kind_at site)) (vs ++ v ∷ []))) (sym shown)
      (null_passed r.wire r.lifted r.tells_without_limits r.max_depth (laws (d.settings old)) site (d.state old) (d.state s) (d.state mid) (d.state new) vs (sparsely.0 begins.0) due.half due.steps (nulls.ok begins.1) (nulls.passes begins.1))
  element_is_read {old} {s} {mid} {site} {child} {sparse} {x} new view vs laws inner sparsely due (as_value none reads) =
      let r = d.reading (d.settings old) in
      element_passed r.wire r.lifted r.tells_without_limits r.max_depth (laws (d.settings old)) site child (d.state old) (d.state s) (d.state mid) (d.state new) (is_sparse (kind_at site)) vs (view x) inner due.half due.steps (λ here. none (sparsely.1 here)) reads.ok

  element_is_nearer : {old s mid : D} {site child : Site} {worth : List Child → Option Value} {sparse : Bool} {x : T} (new : D) (view : T → Value) → Obeys d → IsInner site child → (sparse ≡ true) ↔ IsSparse (kind_at site)
      → DueIn d old s mid site in_list worth None → IsItem (d.reading (d.settings old)) sparse (d.state mid) (d.state new) child view (Ok x) → left_by d (d.settings old) new < left_by d (d.settings old) s
  element_is_nearer new view laws inner sparsely due (as_null begins nulls shown) = null_nearer new laws (sparsely.0 begins.0) due (nulls.ok begins.1) (nulls.passes begins.1)
  element_is_nearer {old} {s} {mid} {site} {child} {worth} {sparse} {x} new view laws inner sparsely due (as_value none reads) =
      let r = d.reading (d.settings old) in
      element_falls r.wire r.wire r.max_depth (laws (d.settings old)).kept (d.state old) (d.state s) (d.state mid) (d.state new) site.table site.place child.place worth (view x) due.half.kept due.steps (λ here. none (sparsely.1 here)) inner.1
      (subst (λ (t : Table). Reads r.wire (d.state mid) (d.state new) t child.place (view x)) inner.0 reads.ok)

  entry_is_refused : {old s mid : D} {site child : Site} {worth : List Child → Option Value} {key : List ℕ} {sparse : Bool} {e : SerdeError} (new : D) (view view' : T → Value) → Obeys d → IsMap (kind_at site) → IsInner site child → (sparse ≡ true) ↔ IsSparse (kind_at site)
      → DueIn d old s mid site in_map worth (Some key) → IsItem (d.reading (d.settings old)) sparse (d.state mid) (d.state new) child view (Err e)
      → ReadsValue {A = T} (d.reading (d.settings old)).wire (d.reading (d.settings old)).lifted (d.reading (d.settings old)).tells_without_limits (d.reading (d.settings old)).max_depth (d.state old) (d.state new) site view' (Err e)
  entry_is_refused {old} {s} {mid} {site} {child} {worth} {key} {sparse} {e} new view view' laws kind inner sparsely due (as_null begins nulls shown) =
      let r = d.reading (d.settings old) in
      null_entry_fails r.wire r.lifted r.tells_without_limits r.max_depth (laws (d.settings old)) {A = Unit {0}} {B = T} view' site child.place (d.state old) (d.state s) (d.state mid) (d.state new) worth key e kind inner.1 (sparsely.0 begins.0) due.half due.steps begins.1
      nulls.conduct nulls.narrow nulls.shallow nulls.refused nulls.none_without_limits
  entry_is_refused {old} {s} {mid} {site} {child} {worth} {key} {sparse} {e} new view view' laws kind inner sparsely due (as_value none reads) =
      let r = d.reading (d.settings old) in
      entry_fails r.wire r.lifted r.tells_without_limits r.max_depth (laws (d.settings old)) {A = T} {B = T} view view' site child (d.state old) (d.state s) (d.state mid) (d.state new) worth key e kind inner due.half due.steps (λ here. none (sparsely.1 here)) reads

  entry_is_read : {old s mid : D} {site child : Site} {key : List ℕ} {sparse : Bool} {x : T} (new : D) (view : T → Value) (es : MapEntries) → Obeys d → IsMap (kind_at site) → IsInner site child → (sparse ≡ true) ↔ IsSparse (kind_at site)
      → DueIn d old s mid site in_map (map_value (is_sparse (kind_at site)) es) (Some key) → IsItem (d.reading (d.settings old)) sparse (d.state mid) (d.state new) child view (Ok x)
      → HalfTree d old new site in_map (map_value (is_sparse (kind_at site)) (put_entry key (view x) es))
  entry_is_read {old} {s} {mid} {site} {child} {key} {sparse} {x} new view es laws kind inner sparsely due (as_null begins nulls shown) =
      let r = d.reading (d.settings old) in
      subst (λ (v : Value). HalfTree d old new site in_map (map_value (is_sparse (kind_at site)) (put_entry key v es))) (sym shown)
      (null_entry_passed r.wire r.lifted r.tells_without_limits r.max_depth (laws (d.settings old)) site (d.state old) (d.state s) (d.state mid) (d.state new) es key (sparsely.0 begins.0) due.half due.steps (nulls.ok begins.1) (nulls.passes begins.1))
  entry_is_read {old} {s} {mid} {site} {child} {key} {sparse} {x} new view es laws kind inner sparsely due (as_value none reads) =
      let r = d.reading (d.settings old) in
      entry_passed r.wire r.lifted r.tells_without_limits r.max_depth (laws (d.settings old)) site child (d.state old) (d.state s) (d.state mid) (d.state new) (is_sparse (kind_at site)) es key (view x) kind inner due.half due.steps (λ here. none (sparsely.1 here)) reads.ok

  entry_is_nearer : {old s mid : D} {site child : Site} {worth : List Child → Option Value} {key : List ℕ} {sparse : Bool} {x : T} (new : D) (view : T → Value) → Obeys d → IsMap (kind_at site) → IsInner site child → (sparse ≡ true) ↔ IsSparse (kind_at site)
      → DueIn d old s mid site in_map worth (Some key) → IsItem (d.reading (d.settings old)) sparse (d.state mid) (d.state new) child view (Ok x) → left_by d (d.settings old) new < left_by d (d.settings old) s
  entry_is_nearer new view laws kind inner sparsely due (as_null begins nulls shown) = null_nearer new laws (sparsely.0 begins.0) due (nulls.ok begins.1) (nulls.passes begins.1)
  entry_is_nearer {old} {s} {mid} {site} {child} {worth} {key} {sparse} {x} new view laws kind inner sparsely due (as_value none reads) =
      let r = d.reading (d.settings old) in
      entry_falls r.wire r.wire r.max_depth (laws (d.settings old)).kept (d.state old) (d.state s) (d.state mid) (d.state new) site.table site.place child.place worth key (view x) kind due.half.kept due.steps (λ here. none (sparsely.1 here)) inner.1
      (subst (λ (t : Table). Reads r.wire (d.state mid) (d.state new) t child.place (view x)) inner.0 reads.ok)

module _ {D P T : Type 0} {d : deserializer.Ghosts D} {keeps : P → P → Type 0} {stands : P → T → Type 0} {view : P → T → Value} where
  pub item_returned : {old new : D} {p q : P} {sparse : Bool} {site : Site} (result : Result T SerdeError) (e : SerdeError) → IsErrAnd result (λ x. x ≡ e)
      → ReadsItem d keeps stands view old new p q sparse site (Err e) → ReadsItem d keeps stands view old new p q sparse site result
  item_returned (Ok x) e is reads = absurd is
  item_returned {old} {new} {p} {q} {sparse} {site} (Err x) e is reads = subst (λ (y : SerdeError). ReadsItem d keeps stands view old new p q sparse site (Err y)) (sym is) reads

  -- a null was refused
  pub null_refused : {old new : D} {p q : P} {sparse : Bool} {site : Site} {e : SerdeError} → d.settings new ≡ d.settings old → ReadsAnyNull (d.reading (d.settings old)) sparse (d.state old) (d.state new) (Err e)
      → ReadsItem d keeps stands view old new p q sparse site (Err e)
  null_refused same nulls = record { same = same; reads = as_null nulls.0 nulls.1 tt; adds = tt }

  -- a null was read
  pub null_item : {old new : D} {p q : P} {sparse : Bool} {site : Site} {b : Bool} {x : T} → d.settings new ≡ d.settings old → ReadsAnyNull (d.reading (d.settings old)) sparse (d.state old) (d.state new) (Ok b) → b ≡ true
      → view q x ≡ null_element → keeps p q → stands q x → ReadsItem d keeps stands view old new p q sparse site (Ok x)
  null_item {b = true} same nulls is shown kept here = record { same = same; reads = as_null nulls.0 nulls.1 shown; adds = (kept, here) }
  null_item {b = false} same nulls is shown kept here = cc

  -- none was due, and a value was read
  pub value_item : {old mid new : D} {p q : P} {sparse : Bool} {site : Site} {b : Bool} {result : Result T SerdeError} → d.settings mid ≡ d.settings old → ReadsAnyNull (d.reading (d.settings old)) sparse (d.state old) (d.state mid) (Ok b) → b ≡ false
      → ReadsTree d keeps stands view mid new p q site result → ReadsItem d keeps stands view old new p q sparse site result
  value_item {old} {mid} {new} {p} {q} {sparse} {site} {b = false} {result} same nulls is tree =
      let at_old = subst (λ (c : d.Settings). ReadsValue (d.reading c).wire (d.reading c).lifted (d.reading c).tells_without_limits (d.reading c).max_depth (d.state mid) (d.state new) site (view q) result) same tree.reads in
      let r = d.reading (d.settings old) in
      record {
        same = tree.same ∙ same;
        reads = as_value nulls.0 (subst (λ (s : Cursor). ReadsValue r.wire r.lifted r.tells_without_limits r.max_depth s (d.state new) site (view q) result) nulls.1 at_old);
        adds = tree.adds;
      }
  value_item {b = true} same nulls is tree = cc

  -- memory ran out for it
  pub put_fails : {old s mid new : D} {p p' q q' : P} {site child : Site} {k : ContainerKind} {worth : List Child → Option Value} {key : Option (List ℕ)} {sparse : Bool} {x : T} {e : SerdeError} → Obeys d → DueIn d old s mid site k worth key
      → ReadsItem d keeps stands view mid new p q sparse child (Ok x) → e ≡ NoMemory → ReadsTree d keeps stands view old new p' q' site (Err e)
  put_fails {old} {s} {mid} {new} {p} {p'} {q} {q'} {site} {child} {k} {worth} {key} {sparse} {x} {e} laws due item is =
      memory_out (item.same ∙ due.same) (item_reached new (view q) laws due (item_at d old mid new sparse child (view q) (Ok x) due.same item.reads)) is

  -- ---- lists

  -- an element is refused
  pub element_refused : {old s mid new : D} {p p' q q' : P} {site child : Site} {worth : List Child → Option Value} {sparse : Bool} {e : SerdeError} → Obeys d → IsList (kind_at site) → IsInner site child → (sparse ≡ true) ↔ IsSparse (kind_at site)
      → DueIn d old s mid site in_list worth None → ReadsItem d keeps stands view mid new p q sparse child (Err e) → ReadsTree d keeps stands view old new p' q' site (Err e)
  element_refused {old} {s} {mid} {new} {p} {p'} {q} {q'} {site} {child} {worth} {sparse} {e} laws kind inner sparsely due item = record {
    same = item.same ∙ due.same;
    reads = element_is_refused new (view q) (view q') laws kind inner sparsely due (item_at d old mid new sparse child (view q) (Err e) due.same item.reads);
    adds = tt;
  }

  -- an element is read, and was put after the others
  pub element_put : {old s mid new : D} {p q : P} {site child : Site} {vs ws us : List Value} {sparse : Bool} {x : T} → Obeys d → IsInner site child → (sparse ≡ true) ↔ IsSparse (kind_at site)
      → DueIn d old s mid site in_list (list_value (is_sparse (kind_at site)) vs) None → ReadsItem d keeps stands view mid new p q sparse child (Ok x) → ws ≡ vs → us ≡ ws ++ view q x ∷ []
      → HalfTree d old new site in_list (list_value (is_sparse (kind_at site)) us)
  element_put {old} {s} {mid} {new} {p} {q} {site} {child} {vs} {ws} {us} {sparse} {x} laws inner sparsely due item kept put =
      subst (λ (xs : List Value). HalfTree d old new site in_list (list_value (is_sparse (kind_at site)) xs)) (sym (put ∙ ap (λ (xs : List Value). xs ++ view q x ∷ []) kept))
      (element_is_read new (view q) vs laws inner sparsely due (item_at d old mid new sparse child (view q) (Ok x) due.same item.reads))

  pub element_nearer : {old s mid new : D} {p q : P} {site child : Site} {worth : List Child → Option Value} {sparse : Bool} {x : T} → Obeys d → IsInner site child → (sparse ≡ true) ↔ IsSparse (kind_at site)
      → d.settings s ≡ d.settings old → DueIn d old s mid site in_list worth None → ReadsItem d keeps stands view mid new p q sparse child (Ok x) → left_by d (d.settings new) new < left_by d (d.settings s) s
  element_nearer {old} {s} {mid} {new} {p} {q} {site} {child} {worth} {sparse} {x} laws inner sparsely same due item =
      nearer_by d old s new (item.same ∙ due.same) same (element_is_nearer new (view q) laws inner sparsely due (item_at d old mid new sparse child (view q) (Ok x) due.same item.reads))

  -- ---- maps

  -- the value of an entry is refused
  pub entry_refused : {old s mid new : D} {p p' q q' : P} {site child : Site} {worth : List Child → Option Value} {key : List ℕ} {sparse : Bool} {e : SerdeError} → Obeys d → IsMap (kind_at site) → IsInner site child → (sparse ≡ true) ↔ IsSparse (kind_at site)
      → DueIn d old s mid site in_map worth (Some key) → ReadsItem d keeps stands view mid new p q sparse child (Err e) → ReadsTree d keeps stands view old new p' q' site (Err e)
  entry_refused {old} {s} {mid} {new} {p} {p'} {q} {q'} {site} {child} {worth} {key} {sparse} {e} laws kind inner sparsely due item = record {
    same = item.same ∙ due.same;
    reads = entry_is_refused new (view q) (view q') laws kind inner sparsely due (item_at d old mid new sparse child (view q) (Err e) due.same item.reads);
    adds = tt;
  }

  -- the value of an entry is read, and was put at its key
  pub entry_put : {old s mid new : D} {p q : P} {site child : Site} {es fs gs : MapEntries} {key : List ℕ} {sparse : Bool} {x : T} → Obeys d → IsMap (kind_at site) → IsInner site child → (sparse ≡ true) ↔ IsSparse (kind_at site)
      → DueIn d old s mid site in_map (map_value (is_sparse (kind_at site)) es) (Some key) → ReadsItem d keeps stands view mid new p q sparse child (Ok x) → fs ≡ es → gs ≡ put_entry key (view q x) fs
      → HalfTree d old new site in_map (map_value (is_sparse (kind_at site)) gs)
  entry_put {old} {s} {mid} {new} {p} {q} {site} {child} {es} {fs} {gs} {key} {sparse} {x} laws kind inner sparsely due item kept put =
      subst (λ (xs : MapEntries). HalfTree d old new site in_map (map_value (is_sparse (kind_at site)) xs)) (sym (put ∙ ap (put_entry key (view q x)) kept))
      (entry_is_read new (view q) es laws kind inner sparsely due (item_at d old mid new sparse child (view q) (Ok x) due.same item.reads))

  pub entry_nearer : {old s mid new : D} {p q : P} {site child : Site} {worth : List Child → Option Value} {key : List ℕ} {sparse : Bool} {x : T} → Obeys d → IsMap (kind_at site) → IsInner site child → (sparse ≡ true) ↔ IsSparse (kind_at site)
      → d.settings s ≡ d.settings old → DueIn d old s mid site in_map worth (Some key) → ReadsItem d keeps stands view mid new p q sparse child (Ok x) → left_by d (d.settings new) new < left_by d (d.settings s) s
  entry_nearer {old} {s} {mid} {new} {p} {q} {site} {child} {worth} {key} {sparse} {x} laws kind inner sparsely same due item =
      nearer_by d old s new (item.same ∙ due.same) same (entry_is_nearer new (view q) laws kind inner sparsely due (item_at d old mid new sparse child (view q) (Ok x) due.same item.reads))
