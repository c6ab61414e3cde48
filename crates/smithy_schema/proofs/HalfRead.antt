-- A value of a caller's own type that is half read by the reader's calls, and what its reading answers.
use Rattle.std.proofs.Common.{◌≡◌, ◌<◌, ◌⊎◌, inl, inr, length, ℕ, List, [], ◌∷◌, ◌++◌, Option, Some, None, Bool, true, false, Ok, Err, sym, subst}
use Rattle.smithy_schema.specs.declared.error.SerdeError.{SerdeError}
use Rattle.smithy_schema.specs.declared.error.SerdeError.TheVariants.{Failed, NoMemory}
use Rattle.smithy_declarations.specs.declared.place.Target.TheVariants.{Simple}
use Rattle.smithy_schema.specs.declared.step.Step.TheVariants.{Member as ToMember}
use Rattle.smithy_shapes.specs.declared.schema.Schema.{Schema}
use Rattle.smithy_declarations.specs.declared.shape_type.Scalar.{Scalar}
use Rattle.smithy_declarations.specs.Table.{place_in, IsContainer, IsList, IsMap, IsUnion, IsSparse}
use Rattle.smithy_shapes.specs.Site.{Site, site_of, kind_at}
use Rattle.smithy_declarations.specs.Value.{Value, ScalarValue, scalar_value, union, MapEntries, put_entry}
use Rattle.smithy_schema.specs.Errors.{IsFault}
use Rattle.smithy_schema.specs.Reading.{Cursor, ContainerKind, in_structure, in_list, in_map, Relations, Child, child_value, named, depth, IsLawful, Steps, Leaves, MatchStep, Reads, ReadsScalar, StandsNot, OpensNot, CannotGoOn, Conducts, IsBehind, Reader}
use Rattle.smithy_schema.specs.Consuming.{IsTaken}
use Rattle.smithy_schema.proofs.ReadContainers.{InContainer, itself, child_read, end, stuck}
use Rattle.smithy_schema.proofs.ReadLists.{list_value, IsNoNull, element_child, element_refused, element_falls}
use Rattle.smithy_schema.proofs.ReadMaps.{map_value, value_child, entry_refused, entry_falls}
use Rattle.smithy_schema.proofs.ReadStructures.{member_child, member_refused}
use Rattle.smithy_schema.proofs.ReadUnions.{union_value, union_has_members}
use Rattle.smithy_schema.proofs.ReadFields.{read_there, none_read_there}
use Rattle.smithy_schema.proofs.ConsumingLemmas.{is_error}
use Rattle.smithy_schema.proofs.AnsweredErrors.{broke_inside, read_sound, was_read, now_failed, same_failure, conducted, may_answer}
use Rattle.smithy_schema.specs.Typed.{FailsAsReader, ReadsAs, ReadsVariant}

-- a place inside of a list or a map that holds no nulls
pub record Inside (outer inner : Site) : Type 0 where
  pub table : inner.table ≡ outer.table
  pub place : place_in (kind_at outer) None ≡ Some inner.place
  pub dense : IsSparse (kind_at outer) → ⊥

-- a refusal
pub fails : {A : Type 0} (w : Relations) (view : A → Value) (site : Site) (s0 s1 : Cursor) (e : SerdeError) → FailsAsReader {A = A} s0 s1 (Err e) → (IsFault e → StandsNot w s0 site.table site.place) → ReadsAs {A = A} w s0 s1 site view (Err e)
fails w view site s0 s1 e answers refused = record { ok = tt; refused = refused; fails = answers }

-- there is no room for a value inside that was read
pub unkept : {A : Type 0} (w : Relations) (view : A → Value) (site : Site) (s0 s1 : Cursor) → s0.failed ≡ false → s1.failed ≡ true → ReadsAs {A = A} w s0 s1 site view (Err NoMemory)
unkept w view site s0 s1 sound broken = fails w view site s0 s1 NoMemory (broke_inside s0 s0 s1 NoMemory sound sound (tt, λ is. cc) broken) (λ fault. absurd fault)

module _ (w : Relations) (max : ℕ) (laws : IsLawful w) where
  -- the container doesn't open
  pub not_opened : {A : Type 0} (view : A → Value) (site : Site) (s0 s1 : Cursor) (e : SerdeError) → IsContainer (kind_at site) → s0.due ≡ true
      → Conducts {A = Unit {0}} s0 s1 (Err e) → (IsFault e → s0.due ≡ true → w.allows (depth s0) → OpensNot w s0 site.table site.place) → ReadsAs {A = A} w s0 s1 site view (Err e)
  not_opened view site s0 s1 e kind due conduct refused =
      fails w view site s0 s1 e (conducted s0 s1 e conduct)
      (λ fault v last stands. let found = laws.unfolded s0.input site.table site.place (depth s0) s0.at v last kind stands in refused fault due found.allowed found.inside found.mark found.opens)

  -- neither another entry nor the end comes
  pub goes_no_further : {A B : Type 0} (view : A → Value) (site : Site) (s0 s s1 : Cursor) (k : ContainerKind) (worth : List Child → Option Value) (e : SerdeError)
      → InContainer w w max s0 s site.table site.place k worth → s0.failed ≡ false → Conducts {A = B} s s1 (Err e) → (IsFault e → s.due ≡ false → CannotGoOn w s site.table site.place) → ReadsAs {A = A} w s0 s1 site view (Err e)
  goes_no_further {A} {B} view site s0 s s1 k worth e half sound conduct refused =
      fails w view site s0 s1 e (broke_inside s0 s s1 e sound half.failed (conduct.reading, λ is. conduct.failed.0 (is_error B e Failed is)) (now_failed s s1 conduct.stays)) (λ fault. stuck w w max s0 s site.table site.place k worth half (refused fault half.due))

  -- the container ends
  pub ends : {A : Type 0} (view : A → Value) (site : Site) (s0 s s1 : Cursor) (k : ContainerKind) (worth : List Child → Option Value) (x : A)
      → InContainer w w max s0 s site.table site.place k worth → s0.failed ≡ false → Leaves w s s1 site.table site.place → worth [] ≡ Some (view x) → ReadsAs {A = A} w s0 s1 site view (Ok x)
  ends view site s0 s s1 k worth x half sound leaves folds = record {
    ok = end w w max s0 s s1 site.table site.place k worth (view x) half leaves folds;
    refused = λ fault. absurd fault;
    fails = read_sound x s0 s1 sound;
  }

  -- a value inside wasn't read
  fails_inside : {A B : Type 0} (s0 s1 s2 : Cursor) (e : SerdeError) → s0.failed ≡ false → s1.failed ≡ false → FailsAsReader {A = A} s1 s2 (Err e) → FailsAsReader {A = B} s0 s2 (Err e)
  fails_inside s0 s1 s2 e sound here answers = broke_inside s0 s1 s2 e sound here (may_answer s1 s2 e answers) answers.broken

  no_null : (outer inner : Site) (s : Cursor) → Inside outer inner → IsNoNull w s (kind_at outer)
  no_null outer inner s inside sparse = absurd (inside.dense sparse)

  -- ---- lists

  pub element_passed : {A : Type 0} (view : A → Value) (outer inner : Site) (s0 s s1 s2 : Cursor) (sparse : Bool) (vs : List Value) (x : A) → Inside outer inner
      → InContainer w w max s0 s outer.table outer.place in_list (list_value sparse vs) → Steps w s s1 outer.table outer.place None → ReadsAs {A = A} w s1 s2 inner view (Ok x)
      → InContainer w w max s0 s2 outer.table outer.place in_list (list_value sparse (vs ++ view x ∷ []))
  element_passed view outer inner s0 s s1 s2 sparse vs x inside half steps reads =
      let here = subst (λ t. Reads w s1 s2 t inner.place (view x)) inside.table reads.ok in
      child_read w w max laws (itself w) s0 s s1 s2 outer.table outer.place in_list (list_value sparse vs) None (child_value None None (view x)) half steps
      (element_child w s1 outer.table outer.place inner.place (view x) s2.at steps.due (no_null outer inner s1 inside) inside.place here.stands) here.passes

  pub element_fails : {A B : Type 0} (view : A → Value) (all : B → Value) (outer inner : Site) (s0 s s1 s2 : Cursor) (worth : List Child → Option Value) (e : SerdeError) → IsList (kind_at outer) → Inside outer inner
      → InContainer w w max s0 s outer.table outer.place in_list worth → s0.failed ≡ false → Steps w s s1 outer.table outer.place None → ReadsAs {A = A} w s1 s2 inner view (Err e) → ReadsAs {A = B} w s0 s2 outer all (Err e)
  element_fails view all outer inner s0 s s1 s2 worth e kind inside half sound steps reads =
      fails w all outer s0 s2 e (fails_inside s0 s1 s2 e sound steps.failed reads.fails)
      (λ fault. element_refused w w max laws (itself w) s0 s s1 outer.table outer.place inner.place worth kind half steps inside.place (subst (λ t. StandsNot w s1 t inner.place) inside.table (reads.refused fault)) (no_null outer inner s1 inside))

  pub list_falls : {A : Type 0} (view : A → Value) (outer inner : Site) (s0 s s1 s2 : Cursor) (worth : List Child → Option Value) (x : A) → Inside outer inner
      → InContainer w w max s0 s outer.table outer.place in_list worth → Steps w s s1 outer.table outer.place None → ReadsAs {A = A} w s1 s2 inner view (Ok x)
      → w.left s2.input s2.at s2.inner.mark < w.left s.input s.at s.inner.mark
  list_falls view outer inner s0 s s1 s2 worth x inside half steps reads =
      element_falls w w max laws s0 s s1 s2 outer.table outer.place inner.place worth (view x) half steps (no_null outer inner s1 inside) inside.place (subst (λ t. Reads w s1 s2 t inner.place (view x)) inside.table reads.ok)

  -- ---- maps

  pub entry_passed : {A : Type 0} (view : A → Value) (outer inner : Site) (s0 s s1 s2 : Cursor) (sparse : Bool) (es fs : MapEntries) (key : List ℕ) (x : A) → IsMap (kind_at outer) → Inside outer inner
      → InContainer w w max s0 s outer.table outer.place in_map (map_value sparse es) → Steps w s s1 outer.table outer.place (Some key) → ReadsAs {A = A} w s1 s2 inner view (Ok x) → fs ≡ put_entry key (view x) es
      → InContainer w w max s0 s2 outer.table outer.place in_map (map_value sparse fs)
  entry_passed view outer inner s0 s s1 s2 sparse es fs key x kind inside half steps reads after =
      let here = subst (λ t. Reads w s1 s2 t inner.place (view x)) inside.table reads.ok in
      subst (λ z. InContainer w w max s0 s2 outer.table outer.place in_map (map_value sparse z)) (sym after)
      (child_read w w max laws (itself w) s0 s s1 s2 outer.table outer.place in_map (map_value sparse es) (Some key) (child_value (Some key) (named w outer.table outer.place (Some key)) (view x)) half steps
      (value_child w s1 outer.table outer.place inner.place key (view x) s2.at kind steps.due (no_null outer inner s1 inside) inside.place here.stands) here.passes)

  pub entry_fails : {A B : Type 0} (view : A → Value) (all : B → Value) (outer inner : Site) (s0 s s1 s2 : Cursor) (worth : List Child → Option Value) (key : List ℕ) (e : SerdeError) → IsMap (kind_at outer) → Inside outer inner
      → InContainer w w max s0 s outer.table outer.place in_map worth → s0.failed ≡ false → Steps w s s1 outer.table outer.place (Some key) → ReadsAs {A = A} w s1 s2 inner view (Err e) → ReadsAs {A = B} w s0 s2 outer all (Err e)
  entry_fails view all outer inner s0 s s1 s2 worth key e kind inside half sound steps reads =
      fails w all outer s0 s2 e (fails_inside s0 s1 s2 e sound steps.failed reads.fails)
      (λ fault. entry_refused w w max laws (itself w) s0 s s1 outer.table outer.place inner.place worth key kind half steps inside.place (subst (λ t. StandsNot w s1 t inner.place) inside.table (reads.refused fault)) (no_null outer inner s1 inside))

  pub map_falls : {A : Type 0} (view : A → Value) (outer inner : Site) (s0 s s1 s2 : Cursor) (worth : List Child → Option Value) (key : List ℕ) (x : A) → IsMap (kind_at outer) → Inside outer inner
      → InContainer w w max s0 s outer.table outer.place in_map worth → Steps w s s1 outer.table outer.place (Some key) → ReadsAs {A = A} w s1 s2 inner view (Ok x)
      → w.left s2.input s2.at s2.inner.mark < w.left s.input s.at s.inner.mark
  map_falls view outer inner s0 s s1 s2 worth key x kind inside half steps reads =
      entry_falls w w max laws s0 s s1 s2 outer.table outer.place inner.place worth key (view x) kind half steps (no_null outer inner s1 inside) inside.place (subst (λ t. Reads w s1 s2 t inner.place (view x)) inside.table reads.ok)

  -- ---- unions

  -- behind its member
  pub behind_variant : {A : Type 0} (view : A → Value) (outer : Site) (m : Schema) (s0 s s1 s2 : Cursor) (x : A)
      → InContainer w w max s0 s outer.table outer.place in_structure (union_value None) → MatchStep (ToMember m) w s s1 outer → ReadsVariant {A = A} w s1 s2 (site_of m) view (Ok x)
      → InContainer w w max s0 s2 outer.table outer.place in_structure (union_value (Some (view x)))
  behind_variant view outer m s0 s s1 s2 x half step reads =
      let (n, v, index, value, here) = reads.ok in
      subst (λ z. InContainer w w max s0 s2 outer.table outer.place in_structure (union_value (Some z))) (sym value)
      (child_read w w max laws (itself w) s0 s s1 s2 outer.table outer.place in_structure (union_value None) (Some step.0) (child_value (Some step.0) (Some n) v) half step.2
      (member_child w s s1 outer m n v s2.at step index here.stands) here.passes)

  pub variant_fails : {A : Type 0} (view : A → Value) (outer : Site) (m : Schema) (s0 s s1 s2 : Cursor) (worth : List Child → Option Value) (e : SerdeError) → IsUnion (kind_at outer)
      → InContainer w w max s0 s outer.table outer.place in_structure worth → s0.failed ≡ false → MatchStep (ToMember m) w s s1 outer → ReadsVariant {A = A} w s1 s2 (site_of m) view (Err e) → ReadsAs {A = A} w s0 s2 outer view (Err e)
  variant_fails view outer m s0 s s1 s2 worth e kind half sound step reads =
      fails w view outer s0 s2 e (fails_inside s0 s1 s2 e sound step.2.failed reads.fails) (λ fault. member_refused w w max laws (itself w) s0 s s1 outer m worth (union_has_members _ kind) half step (reads.refused fault))

-- ---- the members of a union

-- a scalar was read, of which the value was made
pub scalar_variant : {A B : Type 0} (kind : Scalar) (scalar : A → ScalarValue) (view : B → Value) (r : Reader) (c d : Cursor) (member : Site) (n : ℕ) (x : A) (made : B) → member.view.index ≡ Some n → member.place.target ≡ Simple kind
    → ReadsScalar {A = A} r c d member kind scalar (Ok x) → view made ≡ union n (scalar_value (scalar x)) → ReadsVariant {A = B} r.wire c d member view (Ok made)
scalar_variant kind scalar view r c d member n x made index target reads value = record {
  ok = (n, scalar_value (scalar x), index, value, read_there kind scalar r c d member x target reads);
  refused = λ fault. absurd fault;
  fails = read_sound made c d (was_read x c.failed reads.conduct.failed);
}

pub scalar_fails : {A B : Type 0} (kind : Scalar) (scalar : A → ScalarValue) (view : B → Value) (r : Reader) (c d : Cursor) (member : Site) (e : SerdeError) → member.place.target ≡ Simple kind → c.due ≡ true
    → ReadsScalar {A = A} r c d member kind scalar (Err e) → ReadsVariant {A = B} r.wire c d member view (Err e)
scalar_fails kind scalar view r c d member e target due reads = record {
  ok = tt;
  refused = λ fault. none_read_there kind scalar r c d member e target reads fault due;
  fails = conducted c d e reads.conduct;
}

-- a value of another type was read, of which the value was made
pub inner_variant : {A B : Type 0} (inner : A → Value) (view : B → Value) (w : Relations) (c d : Cursor) (member : Site) (n : ℕ) (x : A) (made : B) → member.view.index ≡ Some n → ReadsAs {A = A} w c d member inner (Ok x)
    → view made ≡ union n (inner x) → ReadsVariant {A = B} w c d member view (Ok made)
inner_variant inner view w c d member n x made index reads value = record {
  ok = (n, inner x, index, value, reads.ok);
  refused = λ fault. absurd fault;
  fails = read_sound made c d (was_read x c.failed reads.fails.failed);
}

pub inner_fails : {A B : Type 0} (inner : A → Value) (view : B → Value) (w : Relations) (c d : Cursor) (member : Site) (e : SerdeError) → ReadsAs {A = A} w c d member inner (Err e) → ReadsVariant {A = B} w c d member view (Err e)
inner_fails inner view w c d member e reads = record { ok = tt; refused = reads.refused; fails = same_failure c d e reads.fails }

-- a value that was read was taken whole
pub taken : {A : Type 0} (w : Relations) → IsLawful w → (view : A → Value) (site : Site) (c d : Cursor) (x : A) → ReadsAs {A = A} w c d site view (Ok x) → IsTaken c d
taken w laws view site c d x reads =
    let input : c.input ≡ d.input = sym reads.ok.passes.input in
    record {
      passes = reads.ok.passes;
      behind = subst (λ i. IsBehind i c.at d.at) input
          (passed (laws.stands_ahead c.input site.table site.place (depth c) c.at (view x) d.at reads.ok.stands), (laws.stands_within c.input site.table site.place (depth c) c.at (view x) d.at reads.ok.stands).1);
    }
  where
    passed : {P : Type 0} → (c.at < d.at) ⊎ ((c.at ≡ d.at) × (d.at ≡ length c.input) × P) → (c.at < d.at) ⊎ ((c.at ≡ d.at) × (d.at ≡ length c.input))
    passed (inl ahead) = inl ahead
    passed (inr (here, last, kind)) = inr (here, last)
