-- What a read of a map of texts says, by the calls along its entries.
use Rattle.std.proofs.Common.{◌≡◌, ℕ, List, [], ◌∷◌, Some, None, true, false, Result, Ok, Err, OnOk, String, Global, string_bytes, Ordering, Less, Equal, Greater, refl, sym, ◌∙◌, ap, subst, inl}
use Rattle.std.specs.BTreeMap.{insert_entry}
use Rattle.std.specs.Ordering.{nat_cmp, match_ordering}
use Rattle.std.specs.Cmp.Lexicographic.{slice_cmp}
use Rattle.smithy_schema.specs.declared.error.SerdeError.{SerdeError}
use Rattle.smithy_schema.specs.declared.error.SerdeError.TheVariants.{NoMemory}
use Rattle.smithy_declarations.specs.declared.place.Place.{Place}
use Rattle.smithy_declarations.specs.declared.place.Target.TheVariants.{Simple}
use Rattle.smithy_declarations.specs.declared.shape_type.Scalar.TheVariants as scalars
use Rattle.smithy_declarations.specs.Table.{Kind, MapShape, map_of, place_in, scalar_place, IsMap, IsSparse}
use Rattle.smithy_shapes.specs.Site.{Site, kind_at, inner_site}
use Rattle.smithy_declarations.specs.Value.{text, MapEntries, no_map_entries, map_entry, put_entry}
use Rattle.smithy_shapes.specs.Lemmas.Options.{same_some}
use Rattle.smithy_schema.specs.Errors.{IsFault}
use Rattle.smithy_schema.specs.Reading.{Cursor, Relations, in_map, IsLawful, IsBelow, Reads, ReadsScalar, StandsNot, Reader}
use Rattle.smithy_schema.specs.Consuming.{Consumes, by_key}
use Rattle.smithy_schema.specs.TextMaps.{IsMapOfTexts, text_value, text_entries, ReadsEntry, put, refused, no_room, read, broke, ReadsTexts}
use Rattle.smithy_schema.proofs.ConsumingLemmas.{same_error}
use Rattle.smithy_schema.proofs.ReadMaps.{map_place}
use Rattle.smithy_schema.proofs.Blame.{of_wire, of_lifted, IsInvalidBody}
use Rattle.smithy_schema.proofs.ConsumedLists.{NoElement}
use Rattle.smithy_schema.proofs.ConsumedMaps.{TakesEntry, map_read, map_refused}
use Rattle.smithy_schema.proofs.ReadElements.{consumes_through}

-- ---- a text at its key

abbrev key_order : String Global → String Global → Ordering
key_order x y = slice_cmp nat_cmp (string_bytes x) (string_bytes y)

put_by : (o : Ordering) (e : String Global × String Global) (es : List (String Global × String Global)) (key v : String Global)
    → text_entries (insert_entry key_order es key v) ≡ put_entry (string_bytes key) (text_value v) (text_entries es)
    → text_entries (match_ordering o ((key, v) ∷ e ∷ es) ((e.0, v) ∷ es) (e ∷ insert_entry key_order es key v))
    ≡ match_ordering o (map_entry (string_bytes key) (text_value v) (text_entries (e ∷ es))) (map_entry (string_bytes e.0) (text_value v) (text_entries es)) (map_entry (string_bytes e.0) (text_value e.1) (put_entry (string_bytes key) (text_value v) (text_entries es)))
put_by Less e es key v h = refl
put_by Equal e es key v h = refl
put_by Greater e es key v h = ap (map_entry (string_bytes e.0) (text_value e.1)) h

pub text_put : (es : List (String Global × String Global)) (key v : String Global) → text_entries (insert_entry key_order es key v) ≡ put_entry (string_bytes key) (text_value v) (text_entries es)
text_put [] key v = refl
text_put (e ∷ es) key v = put_by (key_order key e.0) e es key v (text_put es key v)

-- a consumer that keeps its site and its entries
pub through_entries : {E : Type 0} (r : Reader) (outer inner : Site) (entries : E → MapEntries) (site : E → Site)
    → (e f : E) (c g : Cursor) (result : Result (Unit {0}) SerdeError) → site e ≡ inner → entries e ≡ no_map_entries
    → Consumes r outer in_map (by_key r outer) (λ key a c result b d. ReadsEntry r (site a) key (entries a) c result (entries b) d × (site b ≡ site a)) e c result f g
    → Consumes r outer in_map (by_key r outer) (ReadsEntry r inner) no_map_entries c result (entries f) g
through_entries r outer inner entries site e f c g result there fresh consumes =
    subst (λ es. Consumes r outer in_map (by_key r outer) (ReadsEntry r inner) es c result (entries f) g) fresh
    (consumes_through entries (λ a. site a ≡ inner) r outer in_map (by_key r outer) (λ key a c result b d. ReadsEntry r (site a) key (entries a) c result (entries b) d × (site b ≡ site a)) (ReadsEntry r inner)
    (λ key a b c d result keeps called. (subst (λ x. ReadsEntry r x key (entries a) c result (entries b) d) keeps called.0, called.1 ∙ keeps))
    e f c g result there consumes)

-- ---- the place of the values

same_map : (k : Kind) (m : MapShape) → k ≡ map_of m → IsMap k
same_map k m is = subst IsMap (sym is) tt

never_sparse : (k : Kind) (m : MapShape) → k ≡ map_of m → m.is_sparse ≡ false → IsSparse k → ⊥
never_sparse k m is dense sparse = let both : true ≡ false = sym (subst IsSparse is sparse) ∙ dense in cc

text_place : (p : Place) → p.target ≡ Simple scalars.String → scalar_place scalars.String p.time ≡ p
text_place p h = ap (λ x. let q : Place = record { target = x; time = p.time } in q) (sym h)

-- what is known of the site of the values
record Inner (outer inner : Site) : Type 0 where
  pub is_map : IsMap (kind_at outer)
  pub dense : IsSparse (kind_at outer) → ⊥
  pub table : inner.table ≡ outer.table
  pub place : place_in (kind_at outer) None ≡ Some (scalar_place scalars.String inner.place.time)

inner_of : (outer inner : Site) → IsMapOfTexts outer → inner_site outer ≡ Some inner → Inner outer inner
inner_of outer inner of is =
    let told = map_place (kind_at outer) outer.table inner (same_map (kind_at outer) of.shape of.kind) (sym is) in
    let one : of.shape.place ≡ inner.place = same_some of.shape.place inner.place (ap (λ k. place_in k None) (sym of.kind) ∙ told.1) in
    record {
      is_map = same_map (kind_at outer) of.shape of.kind;
      dense = never_sparse (kind_at outer) of.shape of.kind of.dense;
      table = told.0;
      place = told.1 ∙ ap Some (sym (text_place inner.place (ap (λ (p : Place). p.target) (sym one) ∙ of.text)));
    }

module _ (r : Reader) (outer inner : Site) where
  taken : Inner outer inner → (q : Place) → place_in (kind_at outer) None ≡ Some q → (key : List ℕ) (es fs : MapEntries) (d f : Cursor) (result : Result (Unit {0}) SerdeError) → ReadsEntry r inner key es d result fs f
      → OnOk result (TakesEntry r outer q key es fs d f)
  taken within q place key es fs d f result (put x reads) =
      let here : q ≡ scalar_place scalars.String inner.place.time = same_some q (scalar_place scalars.String inner.place.time) (sym place ∙ within.place) in
      inl (
        text_value x,
        subst (λ p. Reads r.wire d f outer.table p (text_value x)) (sym here) (subst (λ t. Reads r.wire d f t (scalar_place scalars.String inner.place.time) (text_value x)) within.table reads.ok),
        (λ sparse. absurd (within.dense sparse)),
        refl,
      )
  taken within q place key es fs d f result (refused reads) = tt
  taken within q place key es fs d f result (no_room x reads) = tt

  none_there : (u : Relations) (Blames : SerdeError → Type 0) → (Blames NoMemory → ⊥)
      → ((d f : Cursor) (e : SerdeError) → ReadsScalar {A = String Global} r d f inner scalars.String (λ s. text (string_bytes s)) (Err e) → Blames e → d.due ≡ true
      → StandsNot u d inner.table (scalar_place scalars.String inner.place.time))
      → Inner outer inner → (q : Place) → place_in (kind_at outer) None ≡ Some q
      → (key : List ℕ) (es fs : MapEntries) (d f : Cursor) (result : Result (Unit {0}) SerdeError) → ReadsEntry r inner key es d result fs f → (e : SerdeError) → result ≡ Err e → Blames e → d.due ≡ true
      → NoElement r u outer q d
  none_there u Blames room says within q place key es fs d f result (put x reads) e is blame due = cc
  none_there u Blames room says within q place key es fs d f result (refused {e = h} reads) e is blame due =
      let here : q ≡ scalar_place scalars.String inner.place.time = same_some q (scalar_place scalars.String inner.place.time) (sym place ∙ within.place) in
      inl (
        subst (λ p. StandsNot u d outer.table p) (sym here)
            (subst (λ t. StandsNot u d t (scalar_place scalars.String inner.place.time)) within.table (says d f h reads (subst Blames (sym (same_error (Unit {0}) h e is)) blame) due)),
        (λ sparse. absurd (within.dense sparse)),
      )
  none_there u Blames room says within q place key es fs d f result (no_room x reads) e is blame due = absurd (room (subst Blames (sym (same_error (Unit {0}) NoMemory e is)) blame))

  module _ (laws : IsLawful r.wire) where
    pub all_read : inner_site outer ≡ Some inner → (es : MapEntries) (c g : Cursor) → Consumes r outer in_map (by_key r outer) (ReadsEntry r inner) no_map_entries c (Ok tt) es g → ReadsTexts r outer c (Ok es) g
    all_read is es c g consumes = record {
      turns = read inner is consumes;
      fails = tt;
      ok = λ of.
          let within = inner_of outer inner of is in
          map_read r outer laws within.is_map (ReadsEntry r inner) (λ fs. fs) (λ q place key xs zs d f called due. taken within q place key xs zs d f (Ok tt) called) no_map_entries es c g (Ok tt) refl consumes;
      refused = λ of fault due. absurd fault;
      none_without_limits = λ of strict invalid due. absurd invalid;
    }

    pub not_read : IsLawful r.lifted → IsBelow r.wire r.lifted → inner_site outer ≡ Some inner → (es : MapEntries) (c g : Cursor) (e : SerdeError) → g.failed ≡ true
        → Consumes r outer in_map (by_key r outer) (ReadsEntry r inner) no_map_entries c (Err e) es g → ReadsTexts r outer c (Err e) g
    not_read over below is es c g e failed consumes = record {
      turns = broke inner is consumes;
      fails = failed;
      ok = λ of. tt;
      refused = λ of fault due.
          let within = inner_of outer inner of is in
          map_refused r r.wire IsFault outer (of_wire r outer laws) laws within.is_map (ReadsEntry r inner) (λ fs. fs) (λ q place key xs zs d f called was. taken within q place key xs zs d f (Ok tt) called)
          (λ q place key xs zs d f h called blame was. none_there r.wire IsFault (λ no. no) (λ d f h reads blame was. reads.refused blame was) within q place key xs zs d f (Err h) called h refl blame was)
          no_map_entries es c g (Err e) refl consumes e refl fault due;
      none_without_limits = λ of strict invalid due.
          let within = inner_of outer inner of is in
          map_refused r r.lifted (IsInvalidBody r) outer (of_lifted r outer over below) laws within.is_map (ReadsEntry r inner) (λ fs. fs) (λ q place key xs zs d f called was. taken within q place key xs zs d f (Ok tt) called)
          (λ q place key xs zs d f h called blame was. none_there r.lifted (IsInvalidBody r) (λ no. no.1)
          (λ d f h reads blame was. reads.none_without_limits blame.0 blame.1 was) within q place key xs zs d f (Err h) called h refl blame was)
          no_map_entries es c g (Err e) refl consumes e refl (strict, invalid) due;
    }
