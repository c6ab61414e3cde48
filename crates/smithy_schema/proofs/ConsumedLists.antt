-- What the calls of a consumer along a list have read together, and where they find fault.
use Rattle.std.proofs.Common.{◌≡◌, ◌⊎◌, List, [], ◌∷◌, ◌++◌, Some, None, true, Result, Ok, Err, OnOk, refl, sym, subst, inl, inr}
use Rattle.smithy_schema.specs.declared.error.SerdeError.{SerdeError}
use Rattle.smithy_declarations.specs.declared.place.Place.{Place}
use Rattle.smithy_declarations.specs.Table.{Kind, list_of, place_in, IsList, IsSparse, is_sparse}
use Rattle.smithy_shapes.specs.Site.{Site, kind_at}
use Rattle.smithy_declarations.specs.Value.{Value, list, values_of, null_element}
use Rattle.smithy_schema.specs.Errors.{IsFault}
use Rattle.smithy_schema.specs.Reading.{Cursor, Relations, depth, in_list, child_value, IsLawful, Reads, Passes, StandsNot, NullsNot, null_is_due, Reader}
use Rattle.smithy_schema.specs.Consuming.{Call, Along, ended, refused, stopped, went, Consumes, unopened, entered, by_element, ToEntry}
use Rattle.smithy_schema.proofs.ConsumingLemmas.{same_error}
use Rattle.smithy_schema.proofs.ReadContainers.{InContainer, itself, child_read, end, stuck}
use Rattle.smithy_schema.proofs.ReadLists.{list_value, list_contains, begin_list, null_read, IsNoNull, element_child, element_refused, null_refused}
use Rattle.smithy_schema.proofs.Blame.{Speaks, of_wire, not_opened}

-- an element of the place q was read, or a null of a sparse list, and it comes behind those so far
abbrev pub TakesElement : Reader → Site → Place → List Value → List Value → Cursor → Cursor → Type 0
TakesElement r outer q before after d f =
    ((v : Value) × Reads r.wire d f outer.table q v × IsNoNull r.wire d (kind_at outer) × (after ≡ before ++ v ∷ []))
    ⊎ (IsSparse (kind_at outer) × r.wire.nulls d.input (depth d) d.at f.at × Passes d f × (after ≡ before ++ null_element ∷ []))

-- what an Ok call of a consumer of a list did for the elements that it has
abbrev pub TakesElements : {C : Type 0} → Reader → Site → Call (Unit {0}) C → (C → List Value) → Type 0
TakesElements {C} r outer call values =
    (q : Place) → place_in (kind_at outer) None ≡ Some q → (s t : C) (d f : Cursor) → call tt s d (Ok tt) t f → d.due ≡ true
    → TakesElement r outer q (values s) (values t) d f

-- why such a call finds fault: neither an element of the place q stands there, nor a null that a sparse list may have
abbrev pub NoElement : Reader → Relations → Site → Place → Cursor → Type 0
NoElement r u outer q d =
    (StandsNot u d outer.table q × IsNoNull r.wire d (kind_at outer))
    ⊎ (IsSparse (kind_at outer) × (null_is_due r.wire d ≡ true) × NullsNot u d)

abbrev pub RefusesElements : {C : Type 0} → Reader → Relations → (SerdeError → Type 0) → Site → Call (Unit {0}) C → Type 0
RefusesElements {C} r u Blames outer call =
    (q : Place) → place_in (kind_at outer) None ≡ Some q → (s t : C) (d f : Cursor) (e : SerdeError) → call tt s d (Err e) t f → Blames e → d.due ≡ true
    → NoElement r u outer q d

element_place_of : (k : Kind) → IsList k → (q : Place) × (place_in k None ≡ Some q)
element_place_of (list_of l) h = (l.place, refl)
element_place_of _ h = absurd h

module _ (r : Reader) (u : Relations) (Blames : SerdeError → Type 0) (outer : Site) (speaks : Speaks r u Blames outer) (laws : IsLawful r.wire) (kind : IsList (kind_at outer))
    {C : Type 0} (call : Call (Unit {0}) C) (values : C → List Value) (takes : TakesElements r outer call values) (s0 : Cursor) where
  abbrev Half : C → Cursor → Type 0
  Half s c = InContainer r.wire u r.max_depth s0 c outer.table outer.place in_list (list_value (is_sparse (kind_at outer)) (values s))

  one_more_by : (q : Place) → place_in (kind_at outer) None ≡ Some q → (s t : C) (c d f : Cursor) → Half s c → ToEntry r.wire outer None c d → TakesElement r outer q (values s) (values t) d f → Half t f
  one_more_by q place s t c d f half goes (inl (v, reads, no_null, after)) =
      subst (λ vs. InContainer r.wire u r.max_depth s0 f outer.table outer.place in_list (list_value (is_sparse (kind_at outer)) vs)) (sym after)
      (child_read r.wire u r.max_depth speaks.laws speaks.below s0 c d f outer.table outer.place in_list (list_value (is_sparse (kind_at outer)) (values s)) None (child_value None None v) half goes.steps
      (element_child r.wire d outer.table outer.place q v f.at goes.steps.due no_null place reads.stands) reads.passes)
  one_more_by q place s t c d f half goes (inr (sparse, nulls, passes, after)) =
      subst (λ vs. InContainer r.wire u r.max_depth s0 f outer.table outer.place in_list (list_value (is_sparse (kind_at outer)) vs)) (sym after)
      (null_read r.wire u r.max_depth speaks.laws speaks.below s0 c d f outer.table outer.place (values s) half goes.steps sparse nulls passes)

  one_more : (s t : C) (c d f : Cursor) → Half s c → ToEntry r.wire outer None c d → call tt s d (Ok tt) t f → Half t f
  one_more s t c d f half goes called =
      let q = element_place_of (kind_at outer) kind in
      one_more_by q.0 q.1 s t c d f half goes (takes q.0 q.1 s t d f called goes.steps.due)

  elements_read : (s : C) (c : Cursor) (result : Result (Unit {0}) SerdeError) (t : C) (g : Cursor) → Along (by_element r outer) call s c result t g → Half s c
      → OnOk result (Reads r.wire s0 g outer.table outer.place (list (values_of (values t))))
  elements_read s c result t g (ended leaves) half = end r.wire u r.max_depth s0 c g outer.table outer.place in_list (list_value (is_sparse (kind_at outer)) (values s)) (list (values_of (values s))) half leaves.leaves refl
  elements_read s c result t g (refused why) half = tt
  elements_read s c result t g (stopped k goes called) half = tt
  elements_read s c result t g (went {t = t1} {d = d} {f = f} k goes called rests more) half = elements_read t1 f result t g more (one_more s t1 c d f half goes called)

  module _ (refuses : RefusesElements r u Blames outer call) where
    no_element_by : (q : Place) → place_in (kind_at outer) None ≡ Some q → (s : C) (c d : Cursor) → Half s c → ToEntry r.wire outer None c d → NoElement r u outer q d → StandsNot u s0 outer.table outer.place
    no_element_by q place s c d half goes (inl (none, no_null)) =
        element_refused r.wire u r.max_depth speaks.laws speaks.below s0 c d outer.table outer.place q (list_value (is_sparse (kind_at outer)) (values s)) kind half goes.steps place none no_null
    no_element_by q place s c d half goes (inr (sparse, begins, none)) =
        null_refused r.wire u r.max_depth speaks.laws speaks.below s0 c d outer.table outer.place q (list_value (is_sparse (kind_at outer)) (values s)) kind half goes.steps place sparse begins none

    no_list_along : (s : C) (c : Cursor) (result : Result (Unit {0}) SerdeError) (t : C) (g : Cursor) → Along (by_element r outer) call s c result t g → Half s c
        → (e : SerdeError) → result ≡ Err e → Blames e → StandsNot u s0 outer.table outer.place
    no_list_along s c result t g (ended leaves) half e is blame = cc
    no_list_along s c result t g (refused {e = h} why) half e is blame =
        stuck r.wire u r.max_depth s0 c outer.table outer.place in_list (list_value (is_sparse (kind_at outer)) (values s)) half
        (speaks.entry c h why.0 (subst Blames (sym (same_error (Unit {0}) h e is)) blame) half.due)
    no_list_along s c result t g (stopped {d = d} {f = f} {e = h} k goes called) half e is blame =
        let q = element_place_of (kind_at outer) kind in
        no_element_by q.0 q.1 s c d half goes (refuses q.0 q.1 s t d f h called (subst Blames (sym (same_error (Unit {0}) h e is)) blame) goes.steps.due)
    no_list_along s c result t g (went {t = t1} {d = d} {f = f} k goes called rests more) half e is blame =
        no_list_along t1 f result t g more (one_more s t1 c d f half goes called) e is blame

-- the consumer has the list that stood there
pub list_read : {C : Type 0} (r : Reader) (outer : Site) → IsLawful r.wire → IsList (kind_at outer) → (call : Call (Unit {0}) C) (values : C → List Value) → TakesElements r outer call values
    → (s t : C) (c g : Cursor) (result : Result (Unit {0}) SerdeError) → values s ≡ [] → Consumes r outer in_list (by_element r outer) call s c result t g
    → OnOk result (Reads r.wire c g outer.table outer.place (list (values_of (values t))))
list_read r outer laws kind call values takes s t c g result fresh (unopened why) = tt
list_read r outer laws kind call values takes s t c g result fresh (entered {d = d} live was enters along) =
    elements_read r r.wire IsFault outer (of_wire r outer laws) laws kind call values takes c s d result t g along
    (subst (λ vs. InContainer r.wire r.wire r.max_depth c d outer.table outer.place in_list (list_value (is_sparse (kind_at outer)) vs)) (sym fresh)
    (begin_list r.wire r.wire r.max_depth laws laws (itself r.wire) c d outer.table outer.place kind enters))

-- where the call finds fault, no list stands there
pub list_refused : {C : Type 0} (r : Reader) (u : Relations) (Blames : SerdeError → Type 0) (outer : Site) → Speaks r u Blames outer → IsLawful r.wire → IsList (kind_at outer)
    → (call : Call (Unit {0}) C) (values : C → List Value) → TakesElements r outer call values → RefusesElements r u Blames outer call
    → (s t : C) (c g : Cursor) (result : Result (Unit {0}) SerdeError) → values s ≡ [] → Consumes r outer in_list (by_element r outer) call s c result t g
    → (e : SerdeError) → result ≡ Err e → Blames e → c.due ≡ true → StandsNot u c outer.table outer.place
list_refused r u Blames outer speaks laws kind call values takes refuses s t c g result fresh (unopened {e = h} why) e is blame due =
    not_opened r u Blames outer speaks (list_contains (kind_at outer) kind) c h why (subst Blames (sym (same_error (Unit {0}) h e is)) blame) due
list_refused r u Blames outer speaks laws kind call values takes refuses s t c g result fresh (entered {d = d} live was enters along) e is blame due =
    no_list_along r u Blames outer speaks laws kind call values takes c refuses s d result t g along
    (subst (λ vs. InContainer r.wire u r.max_depth c d outer.table outer.place in_list (list_value (is_sparse (kind_at outer)) vs)) (sym fresh)
    (begin_list r.wire u r.max_depth laws speaks.laws speaks.below c d outer.table outer.place kind enters)) e is blame
