-- What a consumer that keeps fields has read.
use Rattle.std.proofs.Common.{◌≡◌, ◌<◌, ◌+◌, ℕ, zero, suc, List, [], ◌∷◌, length, true, false, Option, Some, None, Result, Ok, Err, OnOk, refl, sym, ◌∙◌, ap, subst, arith, inl, inr}
use Rattle.std.proofs.lemmas.Bool.{and_parts}
use Rattle.std.specs.declared.cmp.Ordering.{Ordering}
use Rattle.std.specs.declared.cmp.Ordering.TheVariants.{Less, Equal, Greater}
use Rattle.std.specs.Ordering.{MatchOrdering, nat_cmp, match_ordering}
use Rattle.std.proofs.lemmas.Cmp.{ranked}
use Rattle.smithy_schema.specs.declared.error.SerdeError.{SerdeError}
use Rattle.smithy_schema.specs.declared.error.SerdeError.TheVariants.{Failed}
use Rattle.smithy_declarations.specs.declared.place.Place.{Place}
use Rattle.smithy_declarations.specs.declared.place.Target.{Target}
use Rattle.smithy_declarations.specs.declared.place.Target.TheVariants.{Simple}
use Rattle.smithy_declarations.specs.declared.shape_type.Scalar.{Scalar}
use Rattle.smithy_declarations.specs.declared.shape_type.ShapeType.TheVariants as types
use Rattle.smithy_shapes.specs.Declares.{Declares}
use Rattle.smithy_declarations.specs.Table.{Table, scalar_place, kind_of, place_in, is_document_target, HasMembers, IsDocument, IsStructure}
use Rattle.smithy_shapes.specs.Lemmas.Kinds.{document_place_is}
use Rattle.smithy_shapes.specs.Site.{Site, kind_at, member_site}
use Rattle.smithy_declarations.specs.Value.{Value, ScalarValue, scalar_value, MemberValues, no_member_values, member_value, put_member}
use Rattle.smithy_shapes.specs.Lemmas.Options.{same_some}
use Rattle.smithy_schema.specs.Errors.{IsFault}
use Rattle.smithy_schema.specs.Reading.{Cursor, Relations, depth, in_structure, IsLawful, Reads, ReadsScalar, StandsNot, Reader, null_is_due}
use Rattle.smithy_schema.specs.Nulls.{DropsNulls}
use Rattle.smithy_schema.specs.Consuming.{Consumes, by_member, IsTaken, ToMember}
use Rattle.smithy_schema.specs.Fields.{members_at, structure_with, TakesField, took, null_passed, passed, broke, FillsField, filled, absent, refused}
use Rattle.smithy_schema.proofs.ConsumingLemmas.{same_error, is_error}
use Rattle.smithy_schema.proofs.DeclaredMembers.{structure_type}
use Rattle.smithy_schema.proofs.ReadStructures.{site_told}
use Rattle.smithy_schema.proofs.ReadContainers.{structure_has_members}
use Rattle.smithy_schema.proofs.ConsumedStructures.{TakesMembers, structure_read}
use Rattle.smithy_schema.proofs.RefusedStructures.{RefusesMembers, structure_refused}

-- ---- setting a field

-- the fields with this value at a position
abbrev pub set_field : List (Option Value) → ℕ → Value → List (Option Value)
set_field [] i v = []
set_field (f ∷ fs) zero v = Some v ∷ fs
set_field (f ∷ fs) (suc i) v = f ∷ set_field fs i v

placed : (n m : ℕ) (v w : Value) (rest more : MemberValues) (order : Ordering) → MatchOrdering order (n < m) (n ≡ m) (m < n) → m < n
    → match_ordering order (member_value n v (member_value m w rest)) (member_value m v rest) (member_value m w more) ≡ member_value m w more
placed n m v w rest more Less is behind = absurd (omega arith)
placed n m v w rest more Equal is behind = absurd (omega arith)
placed n m v w rest more Greater is behind = refl

here_is : (n : ℕ) (v w : Value) (rest more : MemberValues) (order : Ordering) → MatchOrdering order (n < n) (n ≡ n) (n < n)
    → match_ordering order (member_value n v (member_value n w rest)) (member_value n v rest) (member_value n w more) ≡ member_value n v rest
here_is n v w rest more Less is = absurd (omega arith)
here_is n v w rest more Equal is = refl
here_is n v w rest more Greater is = absurd (omega arith)

before_is : (n m : ℕ) (v w : Value) (rest more : MemberValues) (order : Ordering) → MatchOrdering order (n < m) (n ≡ m) (m < n) → n < m
    → match_ordering order (member_value n v (member_value m w rest)) (member_value m v rest) (member_value m w more) ≡ member_value n v (member_value m w rest)
before_is n m v w rest more Less is behind = refl
before_is n m v w rest more Equal is behind = absurd (omega arith)
before_is n m v w rest more Greater is behind = absurd (omega arith)

put_first : (n m : ℕ) (v : Value) (fs : List (Option Value)) → n < m → put_member n v (members_at m fs) ≡ member_value n v (members_at m fs)
put_first n m v [] up = refl
put_first n m v (None ∷ fs) up = put_first n (suc m) v fs (omega (arith, up))
put_first n m v (Some w ∷ fs) up = before_is n m v w (members_at (suc m) fs) (put_member n v (members_at (suc m) fs)) (nat_cmp n m) (ranked n m (nat_cmp n m) refl) up

pub field_set : (n i : ℕ) (v : Value) (fs : List (Option Value)) → i < length fs → members_at n (set_field fs i v) ≡ put_member (n + i) v (members_at n fs)
field_set n i v [] within = absurd (omega (arith, within))
field_set n zero v (None ∷ fs) within = let here : n + 0 ≡ n = omega arith in rw here (sym (put_first n (suc n) v fs (omega arith)))
field_set n zero v (Some w ∷ fs) within =
    let here : n + 0 ≡ n = omega arith in
    subst (λ k. member_value n v (members_at (suc n) fs) ≡ put_member k v (member_value n w (members_at (suc n) fs))) (sym here)
    (sym (here_is n v w (members_at (suc n) fs) (put_member n v (members_at (suc n) fs)) (nat_cmp n n) (ranked n n (nat_cmp n n) refl)))
field_set n (suc i) v (None ∷ fs) within =
    let up : suc n + i ≡ n + suc i = omega arith in
    subst (λ k. members_at (suc n) (set_field fs i v) ≡ put_member k v (members_at (suc n) fs)) up (field_set (suc n) i v fs (omega (arith, within)))
field_set n (suc i) v (Some w ∷ fs) within =
    let up : suc n + i ≡ n + suc i = omega arith in
    ap (member_value n w) (subst (λ k. members_at (suc n) (set_field fs i v) ≡ put_member k v (members_at (suc n) fs)) up (field_set (suc n) i v fs (omega (arith, within))))
    ∙ sym (placed (n + suc i) n v w (members_at (suc n) fs) (put_member (n + suc i) v (members_at (suc n) fs)) (nat_cmp (n + suc i) n) (ranked (n + suc i) n (nat_cmp (n + suc i) n) refl) (omega arith))

-- ---- the calls

pub has_structure : (rows : List (List ℕ × Target)) (outer : Site) → Declares types.Structure rows outer → IsStructure (kind_at outer)
has_structure rows outer declared = structure_type (kind_at outer) declared.kind

same_position : (m n : ℕ) → Some m ≡ Some n → m ≡ n
same_position m n h = cc

-- a step goes to no null, unless it is that of a document
null_of_document : (w : Relations) (outer site : Site) → DropsNulls w → HasMembers (kind_at outer) → (c d : Cursor) (e : ℕ) → ToMember w outer (Some site) c d → w.nulls d.input (depth d) d.at e
    → IsDocument (kind_at site)
null_of_document w outer site drops members c d e goes null =
    let from = goes.from in
    let here : w.nulls from.input (depth from) d.at e = subst (λ o. w.nulls from.input (length o) d.at e) goes.steps.outer (subst (λ i. w.nulls i (depth d) d.at e) goes.steps.input null) in
    let (q, place, document) = drops from.input outer.table outer.place (depth from) from.at from.inner.mark goes.key d.at d.inner.mark e members goes.steps.steps here in
    let told = site_told outer goes.names.0 site goes.names.2 in
    let same : q ≡ site.place = same_some q site.place (sym place ∙ ap (place_in (kind_at outer)) goes.names.1 ∙ told.1) in
    subst (λ t. IsDocument (kind_of t site.place)) (sym told.0) (subst (λ p. IsDocument (kind_of outer.table p)) same document)

fields_take : {C : Type 0} (fields : C → List (Option Value)) (r : Reader) (outer : Site) → DropsNulls r.wire → HasMembers (kind_at outer)
    → TakesMembers r outer (TakesField fields r) (λ s. members_at 0 (fields s))
fields_take {C} fields r outer drops members = record {
  unknown = λ s t d f called. left None s t d f (Ok tt) called refl;
  member = λ n site s t c d f told goes called. set n site (Some site) s t c d f (Ok tt) told goes called refl refl;
}
  where
    left : (m : Option Site) (s t : C) (d f : Cursor) (result : Result (Unit {0}) SerdeError) → TakesField fields r m s d result t f → m ≡ None → OnOk result ((f ≡ d) × (members_at 0 (fields t) ≡ members_at 0 (fields s)))
    left m s t d f result (took n v index reads after) none = absurd (let h : m ≡ None = none in cc)
    left m s t d f result (null_passed {site = at} declared due reads) none = absurd (let h : Some at ≡ None = none in cc)
    left m s t d f result passed none = (refl, refl)
    left m s t d f result (broke may why) none = tt

    set : (n : ℕ) (site : Site) (m : Option Site) (s t : C) (c d f : Cursor) (result : Result (Unit {0}) SerdeError) → member_site outer n ≡ Some site → ToMember r.wire outer (Some site) c d
        → TakesField fields r m s d result t f → m ≡ Some site → result ≡ Ok tt
        → (v : Value) × Reads r.wire d f site.table site.place v × (members_at 0 (fields t) ≡ put_member n v (members_at 0 (fields s)))
    set n site m s t c d f result told goes (took {site = at} k v index reads after) is ok =
        let same : at ≡ site = same_some at site is in
        let position : k ≡ n = same_position k n (sym index ∙ ap (λ (x : Site). x.view.index) same ∙ (site_told outer n site told).2) in (
          v,
          subst (λ (x : Site). Reads r.wire d f x.table x.place v) same reads,
          subst (λ x. members_at 0 (fields t) ≡ put_member x v (members_at 0 (fields s))) position after,
        )
    set n site m s t c d f result told goes (null_passed {site = at} declared due reads) is ok =
        let null : OnOk result (r.wire.nulls d.input (depth d) d.at f.at) = reads.ok due in
        absurd (declared (subst (λ (x : Site). IsDocument (kind_at x)) (sym (same_some at site is)) (null_of_document r.wire outer site drops members c d f.at goes (rw ok at null))))
    set n site m s t c d f result told goes passed is ok = absurd (let h : None ≡ Some site = is in cc)
    set n site m s t c d f result told goes (broke {e = e} may why) is ok = absurd (let h : Err e ≡ Ok tt = ok in cc)

fields_refuse : {C : Type 0} (fields : C → List (Option Value)) (r : Reader) (outer : Site) → IsLawful r.wire → RefusesMembers r outer (TakesField fields r)
fields_refuse {C} fields r outer laws = record {
  unknown = λ s t d f e called fault. fine None s t d f (Err e) called refl refl;
  member = λ n site s t d f e told called fault due. none_there site (Some site) s t d f (Err e) called refl refl fault due;
}
  where
    fine : {e : SerdeError} (m : Option Site) (s t : C) (d f : Cursor) (result : Result (Unit {0}) SerdeError) → TakesField fields r m s d result t f → m ≡ None → result ≡ Err e → ⊥
    fine m s t d f result (took n v index reads after) none is = cc
    fine m s t d f result (null_passed {site = at} declared due reads) none is = absurd (let h : Some at ≡ None = none in cc)
    fine m s t d f result passed none is = cc
    fine m s t d f result (broke may why) none is = cc

    no_value_there : (site : Site) → (IsDocument (kind_at site) → ⊥) → (d : Cursor) → null_is_due r.wire d ≡ true → StandsNot r.wire d site.table site.place
    no_value_there site declared d null v e stands = elim (laws.value_begins d.input site.table site.place (depth d) d.at v e stands) [
      | inl document ↦ declared document
      | inr other ↦ let begins : r.wire.begins_null d.input d.at ≡ true = (and_parts d.due (r.wire.begins_null d.input d.at) null).1 in let clash : true ≡ false = sym begins ∙ other in cc
    ]

    none_there : {e : SerdeError} (site : Site) (m : Option Site) (s t : C) (d f : Cursor) (result : Result (Unit {0}) SerdeError) → TakesField fields r m s d result t f → m ≡ Some site → result ≡ Err e → IsFault e → d.due ≡ true
        → StandsNot r.wire d site.table site.place
    none_there site m s t d f result (took n v index reads after) is fails fault due = cc
    none_there site m s t d f result (null_passed {site = at} declared null reads) is fails fault due = λ v e stands.
        no_value_there site (subst (λ (x : Site). IsDocument (kind_at x) → ⊥) (same_some at site is) declared) d null v e stands
    none_there site m s t d f result passed is fails fault due = cc
    none_there {e} site m s t d f result (broke {site = at} {e = h} may why) is fails fault due =
        let same : at ≡ site = same_some at site is in
        subst (λ (x : Site). StandsNot r.wire d x.table x.place) same (why (subst IsFault (sym (same_error (Unit {0}) h e fails)) fault) due)

-- a fresh consumer has the structure that stood there
pub members_read : {C : Type 0} (fields : C → List (Option Value)) (r : Reader) (outer : Site) → IsLawful r.wire → DropsNulls r.wire → IsStructure (kind_at outer)
    → (s t : C) (c g : Cursor) (result : Result (Unit {0}) SerdeError) → members_at 0 (fields s) ≡ no_member_values → Consumes r outer in_structure (by_member r outer) (TakesField fields r) s c result t g
    → OnOk result (IsTaken c g) → OnOk result (Reads r.wire c g outer.table outer.place (structure_with (fields t)))
members_read fields r outer laws drops is_structure s t c g result fresh consumes taken =
    both result (structure_read r outer (TakesField fields r) (λ s. members_at 0 (fields s)) laws is_structure (fields_take fields r outer drops (structure_has_members (kind_at outer) is_structure)) s t c g result fresh consumes) taken
  where
    both : (result : Result (Unit {0}) SerdeError) → OnOk result (r.wire.stands c.input outer.table outer.place (depth c) c.at (structure_with (fields t)) g.at) → OnOk result (IsTaken c g)
        → OnOk result (Reads r.wire c g outer.table outer.place (structure_with (fields t)))
    both (Ok done) stands taken = record { stands = stands; passes = taken.passes }
    both (Err e) stands taken = tt

-- where the call finds fault, no structure stands there
pub members_refused : {C : Type 0} (fields : C → List (Option Value)) (r : Reader) (outer : Site) → IsLawful r.wire → DropsNulls r.wire → IsStructure (kind_at outer)
    → (s t : C) (c g : Cursor) (result : Result (Unit {0}) SerdeError) → Consumes r outer in_structure (by_member r outer) (TakesField fields r) s c result t g
    → (e : SerdeError) → result ≡ Err e → IsFault e → c.due ≡ true → StandsNot r.wire c outer.table outer.place
members_refused fields r outer laws drops is_structure s t c g result consumes =
    structure_refused r outer (TakesField fields r) (λ s. members_at 0 (fields s)) laws is_structure (fields_take fields r outer drops (structure_has_members (kind_at outer) is_structure)) (fields_refuse fields r outer laws) s t c g result consumes

-- the same of structures whose members are told by their names and targets
pub fields_read : {C : Type 0} (fields : C → List (Option Value)) (rows : List (List ℕ × Target)) (r : Reader) (outer : Site) → IsLawful r.wire → DropsNulls r.wire → Declares types.Structure rows outer
    → (s t : C) (c g : Cursor) (result : Result (Unit {0}) SerdeError) → members_at 0 (fields s) ≡ no_member_values → Consumes r outer in_structure (by_member r outer) (TakesField fields r) s c result t g
    → OnOk result (IsTaken c g) → OnOk result (Reads r.wire c g outer.table outer.place (structure_with (fields t)))
fields_read fields rows r outer laws drops declared = members_read fields r outer laws drops (has_structure rows outer declared)

pub fields_refused : {C : Type 0} (fields : C → List (Option Value)) (rows : List (List ℕ × Target)) (r : Reader) (outer : Site) → IsLawful r.wire → DropsNulls r.wire → Declares types.Structure rows outer
    → (s t : C) (c g : Cursor) (result : Result (Unit {0}) SerdeError) → Consumes r outer in_structure (by_member r outer) (TakesField fields r) s c result t g
    → (e : SerdeError) → result ≡ Err e → IsFault e → c.due ≡ true → StandsNot r.wire c outer.table outer.place
fields_refused fields rows r outer laws drops declared = members_refused fields r outer laws drops (has_structure rows outer declared)

-- ---- a member that is a scalar

simple_place : (s : Scalar) (p : Place) → p.target ≡ Simple s → scalar_place s p.time ≡ p
simple_place s p h = ap (λ x. let q : Place = record { target = x; time = p.time } in q) (sym h)

-- so a read of its kind is one of its place
pub read_there : {A : Type 0} (s : Scalar) (scalar : A → ScalarValue) (r : Reader) (d f : Cursor) (site : Site) (x : A) → site.place.target ≡ Simple s → ReadsScalar {A = A} r d f site s scalar (Ok x)
    → Reads r.wire d f site.table site.place (scalar_value (scalar x))
read_there s scalar r d f site x is reads = subst (λ p. Reads r.wire d f site.table p (scalar_value (scalar x))) (simple_place s site.place is) reads.ok

pub none_read_there : {A : Type 0} (s : Scalar) (scalar : A → ScalarValue) (r : Reader) (d f : Cursor) (site : Site) (e : SerdeError) → site.place.target ≡ Simple s
    → ReadsScalar {A = A} r d f site s scalar (Err e) → IsFault e → d.due ≡ true → StandsNot r.wire d site.table site.place
none_read_there s scalar r d f site e is reads fault due = subst (λ p. StandsNot r.wire d site.table p) (simple_place s site.place is) (reads.refused fault due)

no_document : (t : Table) (s : Scalar) (p : Place) → p.target ≡ Simple s → IsDocument (kind_of t p) → ⊥
no_document t s p is document = let clash : is_document_target p.target ≡ true = document_place_is t p document in let other : is_document_target p.target ≡ false = ap is_document_target is in let both : true ≡ false = sym clash ∙ other in cc

-- a member was read into its field, or couldn't be read
pub filled_field : {C A : Type 0} (fields : C → List (Option Value)) (kind : Scalar) (scalar : A → ScalarValue) (r : Reader) (site : Site) (put : Option A → C) (old new : Option A) (c d : Cursor) (i : ℕ)
    (result : Result (Unit {0}) SerdeError) → site.view.index ≡ Some i → site.place.target ≡ Simple kind → i < length (fields (put old))
    → ((x : A) → fields (put (Some x)) ≡ set_field (fields (put old)) i (scalar_value (scalar x))) → FillsField kind scalar r site old c result new d
    → TakesField fields r (Some site) (put old) c result (put new) d
filled_field fields kind scalar r site put old new c d i result index here within sets (filled x reads) =
    let same : 0 + i ≡ i = omega arith in
    took i (scalar_value (scalar x)) index (read_there kind scalar r c d site x here reads)
    (ap (members_at 0) (sets x) ∙ field_set 0 i (scalar_value (scalar x)) (fields (put old)) within ∙ ap (λ k. put_member k (scalar_value (scalar x)) (members_at 0 (fields (put old)))) same)
filled_field {A = A} fields kind scalar r site put old new c d i result index here within sets (refused {e = e} reads) =
    broke (reads.conduct.reading, λ is. reads.conduct.failed.0 (is_error A e Failed is)) (none_read_there kind scalar r c d site e here reads)
filled_field fields kind scalar r site put old new c d i result index here within sets (absent due reads) = null_passed (λ document. no_document site.table kind site.place here document) due reads

-- a member whose value was read whole, and is set
pub field_taken : {C : Type 0} (fields : C → List (Option Value)) (r : Reader) (site : Site) (before after : C) (c d : Cursor) (i : ℕ) (v : Value)
    → site.view.index ≡ Some i → i < length (fields before) → fields after ≡ set_field (fields before) i v → Reads r.wire c d site.table site.place v
    → TakesField fields r (Some site) before c (Ok tt) after d
field_taken fields r site before after c d i v index within set reads =
    let same : 0 + i ≡ i = omega arith in
    took i v index reads (ap (members_at 0) set ∙ field_set 0 i v (fields before) within ∙ ap (λ k. put_member k v (members_at 0 (fields before))) same)
