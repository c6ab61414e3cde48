-- What a read of a list of scalars of one kind says, by the calls along its elements.
use Rattle.std.proofs.Common.{◌≡◌, ◌⊎◌, ◌<◌, ◌≤◌, ◌+◌, ℕ, suc, List, [], ◌∷◌, map, length, Some, None, true, false, Result, Ok, Err, OnOk, refl, sym, ◌∙◌, ap, subst, arith, inl, inr}
use Rattle.std.proofs.lemmas.List.{map-append, length-append}
use Rattle.smithy_schema.specs.declared.error.SerdeError.{SerdeError}
use Rattle.smithy_schema.specs.declared.error.SerdeError.TheVariants.{NoMemory}
use Rattle.smithy_declarations.specs.declared.place.Place.{Place}
use Rattle.smithy_declarations.specs.declared.place.Target.TheVariants.{Simple}
use Rattle.smithy_declarations.specs.declared.shape_type.Scalar.{Scalar}
use Rattle.smithy_declarations.specs.Table.{Kind, ListShape, list_of, place_in, scalar_place, IsList, IsSparse}
use Rattle.smithy_shapes.specs.Site.{Site, kind_at, inner_site}
use Rattle.smithy_declarations.specs.Value.{ScalarValue, Value, scalar_value}
use Rattle.smithy_shapes.specs.Lemmas.Options.{same_some}
use Rattle.smithy_schema.specs.Errors.{IsFault}
use Rattle.smithy_schema.specs.Reading.{Cursor, ContainerKind, Relations, depth, in_list, IsLawful, IsBelow, Reads, ReadsScalar, StandsNot, failed_at, Reader}
use Rattle.smithy_schema.specs.Consuming.{Call, Route, Along, ended, refused as stops, stopped, went, Consumes, unopened, entered, by_element}
use Rattle.smithy_schema.specs.Elements.{IsListOf, ReadsElement, put, refused, no_room, no_memory, read, broke, ReadsList}
use Rattle.smithy_schema.proofs.ConsumingLemmas.{same_error}
use Rattle.smithy_schema.proofs.ReadLists.{list_place}
use Rattle.smithy_schema.proofs.Blame.{of_wire, of_lifted, IsInvalidBody}
use Rattle.smithy_schema.proofs.ConsumedLists.{TakesElement, NoElement, list_read, list_refused}

-- ---- the same calls, seen through a part of the consumer

along_through : {K C D : Type 0} (part : C → D) (Keeps : C → Type 0) (route : Route K) (call : Call K C) (seen : Call K D)
    → ((k : K) (s t : C) (c d : Cursor) (result : Result (Unit {0}) SerdeError) → Keeps s → call k s c result t d → seen k (part s) c result (part t) d × Keeps t)
    → (s t : C) (c d : Cursor) (result : Result (Unit {0}) SerdeError) → Keeps s → Along route call s c result t d → Along route seen (part s) c result (part t) d
along_through part Keeps route call seen through s t c d result keeps (ended leaves) = ended leaves
along_through part Keeps route call seen through s t c d result keeps (stops why) = stops why
along_through part Keeps route call seen through s t c d result keeps (stopped {d = f} {f = g} {e = e} k goes called) = stopped k goes (through k s t f g (Err e) keeps called).0
along_through part Keeps route call seen through s t c d result keeps (went {t = u} {d = f} {f = g} k goes called rests more) =
    let one = through k s u f g (Ok tt) keeps called in
    went k goes one.0 rests (along_through part Keeps route call seen through u t g d result one.1 more)

pub consumes_through : {K C D : Type 0} (part : C → D) (Keeps : C → Type 0) (r : Reader) (site : Site) (within : ContainerKind) (route : Route K) (call : Call K C) (seen : Call K D)
    → ((k : K) (s t : C) (c d : Cursor) (result : Result (Unit {0}) SerdeError) → Keeps s → call k s c result t d → seen k (part s) c result (part t) d × Keeps t)
    → (s t : C) (c d : Cursor) (result : Result (Unit {0}) SerdeError) → Keeps s → Consumes r site within route call s c result t d → Consumes r site within route seen (part s) c result (part t) d
consumes_through part Keeps r site within route call seen through s t c d result keeps (unopened why) = unopened why
consumes_through part Keeps r site within route call seen through s t c d result keeps (entered {d = f} live due enters along) =
    entered live due enters (along_through part Keeps route call seen through s t f d result keeps along)

-- a consumer that keeps its site and its elements
pub through_items : {E A : Type 0} (s : Scalar) (scalar : A → ScalarValue) (r : Reader) (outer inner : Site) (items : E → List A) (site : E → Site)
    → (e f : E) (c g : Cursor) (result : Result (Unit {0}) SerdeError) → site e ≡ inner → items e ≡ []
    → Consumes r outer in_list (by_element r outer) (λ element a c result b d. ReadsElement s scalar r (site a) (items a) c result (items b) d × (site b ≡ site a)) e c result f g
    → Consumes r outer in_list (by_element r outer) (λ element. ReadsElement s scalar r inner) [] c result (items f) g
through_items s scalar r outer inner items site e f c g result there fresh consumes =
    subst (λ xs. Consumes r outer in_list (by_element r outer) (λ element. ReadsElement s scalar r inner) xs c result (items f) g) fresh
    (consumes_through items (λ a. site a ≡ inner) r outer in_list (by_element r outer) (λ element a c result b d. ReadsElement s scalar r (site a) (items a) c result (items b) d × (site b ≡ site a)) (λ element. ReadsElement s scalar r inner)
    (λ k a b c d result keeps called. (subst (λ x. ReadsElement s scalar r x (items a) c result (items b) d) keeps called.0, called.1 ∙ keeps))
    e f c g result there consumes)

-- ---- the place of the elements

same_list : (k : Kind) (l : ListShape) → k ≡ list_of l → IsList k
same_list k l is = subst IsList (sym is) tt

never_sparse : (k : Kind) (l : ListShape) → k ≡ list_of l → l.is_sparse ≡ false → IsSparse k → ⊥
never_sparse k l is dense sparse = let both : true ≡ false = sym (subst IsSparse is sparse) ∙ dense in cc

its_own_place : (s : Scalar) (p : Place) → p.target ≡ Simple s → scalar_place s p.time ≡ p
its_own_place s p h = ap (λ x. let q : Place = record { target = x; time = p.time } in q) (sym h)

-- what is known of the site of the elements
record Inner (s : Scalar) (outer inner : Site) : Type 0 where
  pub is_list : IsList (kind_at outer)
  pub dense : IsSparse (kind_at outer) → ⊥
  pub table : inner.table ≡ outer.table
  pub place : place_in (kind_at outer) None ≡ Some (scalar_place s inner.place.time)

inner_of : (s : Scalar) (outer inner : Site) → IsListOf s outer → inner_site outer ≡ Some inner → Inner s outer inner
inner_of s outer inner of is =
    let told = list_place (kind_at outer) outer.table inner (same_list (kind_at outer) of.shape of.kind) (sym is) in
    let one : of.shape.place ≡ inner.place = same_some of.shape.place inner.place (ap (λ k. place_in k None) (sym of.kind) ∙ told.1) in
    record {
      is_list = same_list (kind_at outer) of.shape of.kind;
      dense = never_sparse (kind_at outer) of.shape of.kind of.dense;
      table = told.0;
      place = told.1 ∙ ap Some (sym (its_own_place s inner.place (ap (λ (p : Place). p.target) (sym one) ∙ of.element)));
    }

module _ {A : Type 0} (s : Scalar) (scalar : A → ScalarValue) (r : Reader) (outer inner : Site) where
  abbrev values : List A → List Value
  values = map (λ x. scalar_value (scalar x))

  abbrev call : Call (Unit {0}) (List A)
  call = λ element. ReadsElement s scalar r inner

  -- ---- an element is read, or none stands there

  taken : Inner s outer inner → (q : Place) → place_in (kind_at outer) None ≡ Some q → (xs ys : List A) (d f : Cursor) (result : Result (Unit {0}) SerdeError) → ReadsElement s scalar r inner xs d result ys f
      → OnOk result (TakesElement r outer q (values xs) (values ys) d f)
  taken within q place xs ys d f result (put x reads) =
      let here : q ≡ scalar_place s inner.place.time = same_some q (scalar_place s inner.place.time) (sym place ∙ within.place) in
      inl (
        scalar_value (scalar x),
        subst (λ p. Reads r.wire d f outer.table p (scalar_value (scalar x))) (sym here) (subst (λ t. Reads r.wire d f t (scalar_place s inner.place.time) (scalar_value (scalar x))) within.table reads.ok),
        (λ sparse. absurd (within.dense sparse)),
        map-append (λ y. scalar_value (scalar y)) xs (x ∷ []),
      )
  taken within q place xs ys d f result (refused reads) = tt
  taken within q place xs ys d f result (no_room x reads) = tt

  none_there : (u : Relations) (Blames : SerdeError → Type 0) → (Blames NoMemory → ⊥)
      → ((d f : Cursor) (e : SerdeError) → ReadsScalar {A = A} r d f inner s scalar (Err e) → Blames e → d.due ≡ true → StandsNot u d inner.table (scalar_place s inner.place.time))
      → Inner s outer inner → (q : Place) → place_in (kind_at outer) None ≡ Some q
      → (xs ys : List A) (d f : Cursor) (result : Result (Unit {0}) SerdeError) → ReadsElement s scalar r inner xs d result ys f → (e : SerdeError) → result ≡ Err e → Blames e → d.due ≡ true
      → NoElement r u outer q d
  none_there u Blames room says within q place xs ys d f result (put x reads) e is blame due = cc
  none_there u Blames room says within q place xs ys d f result (refused {e = h} reads) e is blame due =
      let here : q ≡ scalar_place s inner.place.time = same_some q (scalar_place s inner.place.time) (sym place ∙ within.place) in
      inl (
        subst (λ p. StandsNot u d outer.table p) (sym here)
            (subst (λ t. StandsNot u d t (scalar_place s inner.place.time)) within.table (says d f h reads (subst Blames (sym (same_error (Unit {0}) h e is)) blame) due)),
        (λ sparse. absurd (within.dense sparse)),
      )
  none_there u Blames room says within q place xs ys d f result (no_room x reads) e is blame due = absurd (room (subst Blames (sym (same_error (Unit {0}) NoMemory e is)) blame))

  -- ---- how many elements

  module _ (laws : IsLawful r.wire) where
    counted : (xs ys : List A) (d f : Cursor) (result : Result (Unit {0}) SerdeError) → ReadsElement s scalar r inner xs d result ys f → OnOk result ((length ys ≡ suc (length xs)) × (d.at < f.at))
    counted xs ys d f result (put x reads) = (length-append xs (x ∷ []) ∙ plus_one (length xs), ahead (laws.stands_ahead d.input inner.table (scalar_place s inner.place.time) (depth d) d.at (scalar_value (scalar x)) f.at reads.ok.stands))
      where
        plus_one : (n : ℕ) → n + 1 ≡ suc n
        plus_one n = omega arith

        ahead : {B : Type 0} {m n : ℕ} → (m < n) ⊎ ((m ≡ n) × B × ⊥) → m < n
        ahead (inl h) = h
        ahead (inr same) = absurd same.2
    counted xs ys d f result (refused reads) = tt
    counted xs ys d f result (no_room x reads) = tt

    few_along : (xs ys : List A) (c g : Cursor) (result : Result (Unit {0}) SerdeError) → Along (by_element r outer) call xs c result ys g → OnOk result (length ys + c.at ≤ length xs + g.at)
    few_along xs ys c g result (ended leaves) = let up = leaves.ahead in omega (arith, up)
    few_along xs ys c g result (stops why) = tt
    few_along xs ys c g result (stopped k goes called) = tt
    few_along xs ys c g result (went {t = zs} {d = d} {f = f} k goes called rests more) = one_more result (few_along zs ys f g result more)
      where
        one_more : (result : Result (Unit {0}) SerdeError) → OnOk result (length ys + f.at ≤ length zs + g.at) → OnOk result (length ys + c.at ≤ length xs + g.at)
        one_more (Ok done) h =
            let one = counted xs zs d f (Ok tt) called in
            let here = goes.ahead in
            let longer = one.0 in
            let up = one.1 in
            omega (arith, h, here, longer, up)
        one_more (Err e) h = tt

    few : (ys : List A) (c g : Cursor) (result : Result (Unit {0}) SerdeError) → Consumes r outer in_list (by_element r outer) call [] c result ys g → OnOk result (c.at + length ys ≤ g.at)
    few ys c g result (unopened why) = tt
    few ys c g result (entered {d = d} live due enters along) = whole result (few_along [] ys d g result along)
      where
        inside : {B C : Type 0} {m n : ℕ} → (m < n) ⊎ ((m ≡ n) × B × C) → m ≤ n
        inside (inl h) = omega (arith, h)
        inside (inr same) = let here = same.0 in omega (arith, here)

        whole : (result : Result (Unit {0}) SerdeError) → OnOk result (length ys + d.at ≤ 0 + g.at) → OnOk result (c.at + length ys ≤ g.at)
        whole (Ok done) h = let up = inside (laws.opens_ahead c.input outer.table outer.place (depth c) c.at d.at d.inner.mark enters.opens) in omega (arith, h, up)
        whole (Err e) h = tt

    -- ---- the answers

    pub all_read : inner_site outer ≡ Some inner → (ys : List A) (c g : Cursor) → Consumes r outer in_list (by_element r outer) call [] c (Ok tt) ys g → ReadsList s scalar r outer c (Ok ys) g
    all_read is ys c g consumes = record {
      turns = read inner is consumes;
      fails = tt;
      few = few ys c g (Ok tt) consumes;
      ok = λ of.
          let within = inner_of s outer inner of is in
          list_read r outer laws within.is_list call values (λ q place xs zs d f called due. taken within q place xs zs d f (Ok tt) called) [] ys c g (Ok tt) refl consumes;
      refused = λ of fault due. absurd fault;
      none_without_limits = λ of strict invalid due. absurd invalid;
    }

    pub not_read : IsLawful r.lifted → IsBelow r.wire r.lifted → inner_site outer ≡ Some inner → (ys : List A) (c g : Cursor) (e : SerdeError) → g.failed ≡ true
        → Consumes r outer in_list (by_element r outer) call [] c (Err e) ys g → ReadsList s scalar r outer c (Err e) g
    not_read over below is ys c g e failed consumes = record {
      turns = broke inner is consumes;
      fails = failed;
      few = tt;
      ok = λ of. tt;
      refused = λ of fault due.
          let within = inner_of s outer inner of is in
          list_refused r r.wire IsFault outer (of_wire r outer laws) laws within.is_list call values (λ q place xs zs d f called was. taken within q place xs zs d f (Ok tt) called)
          (λ q place xs zs d f h called blame was. none_there r.wire IsFault (λ no. no) (λ d f h reads blame was. reads.refused blame was) within q place xs zs d f (Err h) called h refl blame was)
          [] ys c g (Err e) refl consumes e refl fault due;
      none_without_limits = λ of strict invalid due.
          let within = inner_of s outer inner of is in
          list_refused r r.lifted (IsInvalidBody r) outer (of_lifted r outer over below) laws within.is_list call values (λ q place xs zs d f called was. taken within q place xs zs d f (Ok tt) called)
          (λ q place xs zs d f h called blame was. none_there r.lifted (IsInvalidBody r) (λ no. no.1) (λ d f h reads blame was. reads.none_without_limits blame.0 blame.1 was)
          within q place xs zs d f (Err h) called h refl blame was)
          [] ys c g (Err e) refl consumes e refl (strict, invalid) due;
    }

    pub no_memory_for_it : (c : Cursor) → c.due ≡ true → c.failed ≡ false → ReadsList s scalar r outer c (Err NoMemory) (failed_at c)
    no_memory_for_it c due live = record {
      turns = no_memory live due;
      fails = refl;
      few = tt;
      ok = λ of. tt;
      refused = λ of fault was. absurd fault;
      none_without_limits = λ of strict invalid was. absurd invalid;
    }
