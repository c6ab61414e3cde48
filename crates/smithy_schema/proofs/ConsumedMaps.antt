-- What the calls of a consumer along a map have read together, and where they find fault.
use Rattle.std.proofs.Common.{◌≡◌, ◌⊎◌, ℕ, List, Some, None, true, Result, Ok, Err, OnOk, refl, sym, subst, inl, inr}
use Rattle.smithy_schema.specs.declared.error.SerdeError.{SerdeError}
use Rattle.smithy_declarations.specs.declared.place.Place.{Place}
use Rattle.smithy_declarations.specs.Table.{Kind, map_of, place_in, IsMap, IsSparse, is_sparse}
use Rattle.smithy_shapes.specs.Site.{Site, kind_at}
use Rattle.smithy_declarations.specs.Value.{Value, map, null_element, MapEntries, no_map_entries, put_entry}
use Rattle.smithy_schema.specs.Errors.{IsFault}
use Rattle.smithy_schema.specs.Reading.{Cursor, Relations, depth, in_map, child_value, named, IsLawful, Reads, Passes, StandsNot, Reader}
use Rattle.smithy_schema.specs.Consuming.{Call, Along, ended, refused, stopped, went, Consumes, unopened, entered, by_key, ToEntry}
use Rattle.smithy_schema.proofs.ConsumingLemmas.{same_error}
use Rattle.smithy_schema.proofs.ReadContainers.{InContainer, itself, child_read, end, stuck}
use Rattle.smithy_schema.proofs.ReadLists.{IsNoNull}
use Rattle.smithy_schema.proofs.ReadMaps.{map_value, map_contains, begin_map, null_entry_read, value_child, entry_refused, null_entry_refused}
use Rattle.smithy_schema.proofs.Blame.{Speaks, of_wire, not_opened}
use Rattle.smithy_schema.proofs.ConsumedLists.{NoElement}

-- a value of the place q was read, or a null of a sparse map, and it stands at the key, in place of any before
abbrev pub TakesEntry : Reader → Site → Place → List ℕ → MapEntries → MapEntries → Cursor → Cursor → Type 0
TakesEntry r outer q key before after d f =
    ((v : Value) × Reads r.wire d f outer.table q v × IsNoNull r.wire d (kind_at outer) × (after ≡ put_entry key v before))
    ⊎ (IsSparse (kind_at outer) × r.wire.nulls d.input (depth d) d.at f.at × Passes d f × (after ≡ put_entry key null_element before))

-- what an Ok call of a consumer of a map did for the entries that it has
abbrev pub TakesEntries : {C : Type 0} → Reader → Site → Call (List ℕ) C → (C → MapEntries) → Type 0
TakesEntries {C} r outer call entries =
    (q : Place) → place_in (kind_at outer) None ≡ Some q → (key : List ℕ) (s t : C) (d f : Cursor) → call key s d (Ok tt) t f → d.due ≡ true
    → TakesEntry r outer q key (entries s) (entries t) d f

-- why such a call finds fault
abbrev pub RefusesEntries : {C : Type 0} → Reader → Relations → (SerdeError → Type 0) → Site → Call (List ℕ) C → Type 0
RefusesEntries {C} r u Blames outer call =
    (q : Place) → place_in (kind_at outer) None ≡ Some q → (key : List ℕ) (s t : C) (d f : Cursor) (e : SerdeError) → call key s d (Err e) t f → Blames e → d.due ≡ true
    → NoElement r u outer q d

value_place_of : (k : Kind) → IsMap k → (q : Place) × (place_in k None ≡ Some q)
value_place_of (map_of m) h = (m.place, refl)
value_place_of _ h = absurd h

module _ (r : Reader) (u : Relations) (Blames : SerdeError → Type 0) (outer : Site) (speaks : Speaks r u Blames outer) (laws : IsLawful r.wire) (kind : IsMap (kind_at outer))
    {C : Type 0} (call : Call (List ℕ) C) (entries : C → MapEntries) (takes : TakesEntries r outer call entries) (s0 : Cursor) where
  abbrev Half : C → Cursor → Type 0
  Half s c = InContainer r.wire u r.max_depth s0 c outer.table outer.place in_map (map_value (is_sparse (kind_at outer)) (entries s))

  one_more_by : (q : Place) → place_in (kind_at outer) None ≡ Some q → (key : List ℕ) (s t : C) (c d f : Cursor) → Half s c → ToEntry r.wire outer (Some key) c d → TakesEntry r outer q key (entries s) (entries t) d f → Half t f
  one_more_by q place key s t c d f half goes (inl (v, reads, no_null, after)) =
      subst (λ es. InContainer r.wire u r.max_depth s0 f outer.table outer.place in_map (map_value (is_sparse (kind_at outer)) es)) (sym after)
      (child_read r.wire u r.max_depth speaks.laws speaks.below s0 c d f outer.table outer.place in_map (map_value (is_sparse (kind_at outer)) (entries s)) (Some key) (child_value (Some key) (named r.wire outer.table outer.place (Some key)) v) half goes.steps
      (value_child r.wire d outer.table outer.place q key v f.at kind goes.steps.due no_null place reads.stands) reads.passes)
  one_more_by q place key s t c d f half goes (inr (sparse, nulls, passes, after)) =
      subst (λ es. InContainer r.wire u r.max_depth s0 f outer.table outer.place in_map (map_value (is_sparse (kind_at outer)) es)) (sym after)
      (null_entry_read r.wire u r.max_depth speaks.laws speaks.below s0 c d f outer.table outer.place (entries s) key half goes.steps sparse nulls passes)

  one_more : (key : List ℕ) (s t : C) (c d f : Cursor) → Half s c → ToEntry r.wire outer (Some key) c d → call key s d (Ok tt) t f → Half t f
  one_more key s t c d f half goes called =
      let q = value_place_of (kind_at outer) kind in
      one_more_by q.0 q.1 key s t c d f half goes (takes q.0 q.1 key s t d f called goes.steps.due)

  entries_read : (s : C) (c : Cursor) (result : Result (Unit {0}) SerdeError) (t : C) (g : Cursor) → Along (by_key r outer) call s c result t g → Half s c
      → OnOk result (Reads r.wire s0 g outer.table outer.place (map (entries t)))
  entries_read s c result t g (ended leaves) half = end r.wire u r.max_depth s0 c g outer.table outer.place in_map (map_value (is_sparse (kind_at outer)) (entries s)) (map (entries s)) half leaves.leaves refl
  entries_read s c result t g (refused why) half = tt
  entries_read s c result t g (stopped k goes called) half = tt
  entries_read s c result t g (went {t = t1} {d = d} {f = f} k goes called rests more) half = entries_read t1 f result t g more (one_more k s t1 c d f half goes called)

  module _ (refuses : RefusesEntries r u Blames outer call) where
    no_entry_by : (q : Place) → place_in (kind_at outer) None ≡ Some q → (key : List ℕ) (s : C) (c d : Cursor) → Half s c → ToEntry r.wire outer (Some key) c d → NoElement r u outer q d → StandsNot u s0 outer.table outer.place
    no_entry_by q place key s c d half goes (inl (none, no_null)) =
        entry_refused r.wire u r.max_depth speaks.laws speaks.below s0 c d outer.table outer.place q (map_value (is_sparse (kind_at outer)) (entries s)) key kind half goes.steps place none no_null
    no_entry_by q place key s c d half goes (inr (sparse, begins, none)) =
        null_entry_refused r.wire u r.max_depth speaks.laws speaks.below s0 c d outer.table outer.place q (map_value (is_sparse (kind_at outer)) (entries s)) key kind half goes.steps place sparse begins none

    no_map_along : (s : C) (c : Cursor) (result : Result (Unit {0}) SerdeError) (t : C) (g : Cursor) → Along (by_key r outer) call s c result t g → Half s c
        → (e : SerdeError) → result ≡ Err e → Blames e → StandsNot u s0 outer.table outer.place
    no_map_along s c result t g (ended leaves) half e is blame = cc
    no_map_along s c result t g (refused {e = h} why) half e is blame =
        stuck r.wire u r.max_depth s0 c outer.table outer.place in_map (map_value (is_sparse (kind_at outer)) (entries s)) half
        (speaks.entry c h why (subst Blames (sym (same_error (Unit {0}) h e is)) blame) half.due)
    no_map_along s c result t g (stopped {d = d} {f = f} {e = h} k goes called) half e is blame =
        let q = value_place_of (kind_at outer) kind in
        no_entry_by q.0 q.1 k s c d half goes (refuses q.0 q.1 k s t d f h called (subst Blames (sym (same_error (Unit {0}) h e is)) blame) goes.steps.due)
    no_map_along s c result t g (went {t = t1} {d = d} {f = f} k goes called rests more) half e is blame =
        no_map_along t1 f result t g more (one_more k s t1 c d f half goes called) e is blame

-- the consumer has the map that stood there
pub map_read : {C : Type 0} (r : Reader) (outer : Site) → IsLawful r.wire → IsMap (kind_at outer) → (call : Call (List ℕ) C) (entries : C → MapEntries) → TakesEntries r outer call entries
    → (s t : C) (c g : Cursor) (result : Result (Unit {0}) SerdeError) → entries s ≡ no_map_entries → Consumes r outer in_map (by_key r outer) call s c result t g
    → OnOk result (Reads r.wire c g outer.table outer.place (map (entries t)))
map_read r outer laws kind call entries takes s t c g result fresh (unopened why) = tt
map_read r outer laws kind call entries takes s t c g result fresh (entered {d = d} live was enters along) =
    entries_read r r.wire IsFault outer (of_wire r outer laws) laws kind call entries takes c s d result t g along
    (subst (λ es. InContainer r.wire r.wire r.max_depth c d outer.table outer.place in_map (map_value (is_sparse (kind_at outer)) es)) (sym fresh)
    (begin_map r.wire r.wire r.max_depth laws laws (itself r.wire) c d outer.table outer.place kind enters))

-- where the call finds fault, no map stands there
pub map_refused : {C : Type 0} (r : Reader) (u : Relations) (Blames : SerdeError → Type 0) (outer : Site) → Speaks r u Blames outer → IsLawful r.wire → IsMap (kind_at outer)
    → (call : Call (List ℕ) C) (entries : C → MapEntries) → TakesEntries r outer call entries → RefusesEntries r u Blames outer call
    → (s t : C) (c g : Cursor) (result : Result (Unit {0}) SerdeError) → entries s ≡ no_map_entries → Consumes r outer in_map (by_key r outer) call s c result t g
    → (e : SerdeError) → result ≡ Err e → Blames e → c.due ≡ true → StandsNot u c outer.table outer.place
map_refused r u Blames outer speaks laws kind call entries takes refuses s t c g result fresh (unopened {e = h} why) e is blame due =
    not_opened r u Blames outer speaks (map_contains (kind_at outer) kind) c h why (subst Blames (sym (same_error (Unit {0}) h e is)) blame) due
map_refused r u Blames outer speaks laws kind call entries takes refuses s t c g result fresh (entered {d = d} live was enters along) e is blame due =
    no_map_along r u Blames outer speaks laws kind call entries takes c refuses s d result t g along
    (subst (λ es. InContainer r.wire u r.max_depth c d outer.table outer.place in_map (map_value (is_sparse (kind_at outer)) es)) (sym fresh)
    (begin_map r.wire u r.max_depth laws speaks.laws speaks.below c d outer.table outer.place kind enters)) e is blame
