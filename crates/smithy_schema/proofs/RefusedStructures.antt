-- Where calls of a consumer along the entries of a structure end with a fault, no value of the structure stands there.
use Rattle.std.proofs.Common.{◌≡◌, ℕ, suc, List, [], ◌∷◌, length, Option, Some, None, true, false, Result, Ok, Err, refl, sym, ◌∙◌, ap, subst}
use Rattle.smithy_schema.specs.declared.error.SerdeError.{SerdeError}
use Rattle.smithy_declarations.specs.declared.place.Place.{Place}
use Rattle.smithy_declarations.specs.Table.{Kind, structure_of, place_in, IsStructure}
use Rattle.smithy_shapes.specs.Site.{Site, member_site, kind_at}
use Rattle.smithy_declarations.specs.Value.{Value, MemberValues}
use Rattle.smithy_schema.specs.Errors.{IsFault}
use Rattle.smithy_schema.specs.Reading.{Cursor, in_structure, depth, Relations, Child, child_value, child_null, child_unknown, IsChild, Chain, Contains, IsLawful, StandsNot, CannotGoOn, passed_to, Reader}
use Rattle.smithy_shapes.specs.Lemmas.Options.{same_some}
use Rattle.smithy_schema.specs.Consuming.{Call, Cleared, nothing_due, skipped, Along, ended, refused, stopped, went, Consumes, unopened, entered, by_member, ToMember}
use Rattle.smithy_schema.proofs.ConsumingLemmas.{cleared_input, cleared_outer, same_error}
use Rattle.smithy_schema.proofs.ReadStructures.{site_told}
use Rattle.smithy_schema.proofs.ConsumedStructures.{TakesMembers, structure_not_sparse, contains_members, rest_input, rest_depth}

-- Why a consumer for a structure finds fault: with a member, of whose place no value stands there, and never with another entry.
pub record RefusesMembers {C : Type 0} (r : Reader) (outer : Site) (call : Call (Option Site) C) : Type 0 where
  pub unknown : (s t : C) (d f : Cursor) (e : SerdeError) → call None s d (Err e) t f → IsFault e → ⊥
  pub member : (n : ℕ) (site : Site) (s t : C) (d f : Cursor) (e : SerdeError) → member_site outer n ≡ Some site → call (Some site) s d (Err e) t f → IsFault e → d.due ≡ true
      → StandsNot r.wire d site.table site.place

-- where the reader goes on from is determined
cleared_once : (w : Relations) → IsLawful w → (c a b : Cursor) → Cleared w c a → Cleared w c b → a ≡ b
cleared_once w laws c a b (nothing_due none) (nothing_due also) = refl
cleared_once w laws c a b (nothing_due none) (skipped e due skips) = absurd (let h : true ≡ false = sym due ∙ none in cc)
cleared_once w laws c a b (skipped e due skips) (nothing_due none) = absurd (let h : true ≡ false = sym due ∙ none in cc)
cleared_once w laws c a b (skipped e due skips) (skipped f also others) = ap (passed_to c) (laws.same_skip c.input (depth c) c.at e f skips others)

no_unnamed_place : (k : Kind) → IsStructure k → (q : Place) → place_in k None ≡ Some q → ⊥
no_unnamed_place (structure_of ms) h q e = cc
no_unnamed_place _ h q e = h

module _ (r : Reader) (outer : Site) (laws : IsLawful r.wire) (is_structure : IsStructure (kind_at outer)) (i : List ℕ) (dd : ℕ) where
  -- what stands in the input at this depth, as the cursor has it
  at_cursor : (P : List ℕ → ℕ → Type 0) (c : Cursor) → c.input ≡ i → depth c ≡ dd → P i dd → P c.input (depth c)
  at_cursor P c input deep h = subst (λ x. P c.input x) (sym deep) (subst (λ x. P x dd) (sym input) h)

  from_cursor : (P : List ℕ → ℕ → Type 0) (c : Cursor) → c.input ≡ i → depth c ≡ dd → P c.input (depth c) → P i dd
  from_cursor P c input deep h = subst (λ x. P i x) deep (subst (λ x. P x (depth c)) input h)

  stuck : (from : Cursor) (xs : List Child) (e : ℕ) → from.input ≡ i → depth from ≡ dd → CannotGoOn r.wire from outer.table outer.place
      → Chain r.wire i outer.table outer.place dd from.at from.inner.mark xs e → ⊥
  stuck from [] e input deep cannot chain = cannot.1 e (at_cursor (λ x d. r.wire.closes x outer.table outer.place d from.at from.inner.mark e) from input deep chain)
  stuck from (x ∷ xs) e input deep cannot chain =
      cannot.0 chain.0 chain.1 chain.2 (at_cursor (λ y d. r.wire.steps y outer.table outer.place d from.at from.inner.mark chain.0 chain.1 chain.2) from input deep chain.4)

  -- behind the step, the children begin with one of the step's key
  first_child : (key : Option (List ℕ)) (from d : Cursor) (xs : List Child) (e : ℕ) → r.wire.steps i outer.table outer.place dd from.at from.inner.mark key d.at d.inner.mark
      → Chain r.wire i outer.table outer.place dd from.at from.inner.mark xs e
      → (y : Child) × (ys : List Child) × (f : ℕ) × IsChild r.wire i outer.table outer.place dd key y d.at f × Chain r.wire i outer.table outer.place dd f d.inner.mark ys e
  first_child key from d [] e steps chain = absurd (laws.step_or_close i outer.table outer.place dd from.at from.inner.mark key d.at d.inner.mark e steps chain)
  first_child key from d (y ∷ ys) e steps chain =
      let same = laws.same_step i outer.table outer.place dd from.at from.inner.mark chain.0 key chain.1 d.at chain.2 d.inner.mark chain.4 steps in (
        y,
        ys,
        chain.3,
        subst (λ k. IsChild r.wire i outer.table outer.place dd k y d.at chain.3) same.0 (subst (λ x. IsChild r.wire i outer.table outer.place dd chain.0 y x chain.3) same.1 chain.5),
        subst (λ m. Chain r.wire i outer.table outer.place dd chain.3 m ys e) same.2 chain.6,
      )

  -- the child of a member is a value of the member's place
  member_value_there : (site : Site) (n : ℕ) (key : List ℕ) (y : Child) (a f : ℕ) → r.wire.position outer.table outer.place key ≡ Some n → member_site outer n ≡ Some site
      → IsChild r.wire i outer.table outer.place dd (Some key) y a f → (v : Value) × r.wire.stands i site.table site.place dd a v f
  member_value_there site n key (child_value k m v) a f position told child =
      let here = site_told outer n site told in
      let same : Some child.2.0 ≡ Some site.place = sym child.2.1 ∙ ap (place_in (kind_at outer)) (child.1 ∙ position) ∙ here.1 in
      let place : child.2.0 ≡ site.place = same_some child.2.0 site.place same in
      (v, subst (λ x. r.wire.stands i x site.place dd a v f) (sym here.0) (subst (λ q. r.wire.stands i outer.table q dd a v f) place child.2.2))
  member_value_there site n key (child_null k) a f position told child = absurd (structure_not_sparse (kind_at outer) is_structure child.1)
  member_value_there site n key (child_unknown k) a f position told child = absurd (let h : Some n ≡ None = sym position ∙ child.2 in cc)

  -- the child of an entry whose key names no member is skipped
  unknown_skipped : (key : List ℕ) (y : Child) (a f : ℕ) → r.wire.position outer.table outer.place key ≡ None → IsChild r.wire i outer.table outer.place dd (Some key) y a f → r.wire.skips i dd a f
  unknown_skipped key (child_value k m v) a f none child = absurd (no_unnamed_place (kind_at outer) is_structure child.2.0 (ap (place_in (kind_at outer)) (sym (child.1 ∙ none)) ∙ child.2.1))
  unknown_skipped key (child_null k) a f none child = absurd (structure_not_sparse (kind_at outer) is_structure child.1)
  unknown_skipped key (child_unknown k) a f none child = child.3

  module _ {C : Type 0} (call : Call (Option Site) C) (members : C → MemberValues) (takes : TakesMembers r outer call members) (refuses : RefusesMembers r outer call) where
    -- the children from the step on
    behind : (k : Option Site) (c d from : Cursor) (xs : List Child) (e : ℕ) (goes : ToMember r.wire outer k c d) → c.input ≡ i → depth c ≡ dd → Cleared r.wire c from
        → Chain r.wire i outer.table outer.place dd from.at from.inner.mark xs e
        → (y : Child) × (ys : List Child) × (f : ℕ) × IsChild r.wire i outer.table outer.place dd (Some goes.key) y d.at f × Chain r.wire i outer.table outer.place dd f d.inner.mark ys e
    behind k c d from xs e goes input deep cleared chain =
        let one : from ≡ goes.from = cleared_once r.wire laws c from goes.from cleared goes.cleared in
        let start = cleared_input r.wire c goes.from goes.cleared ∙ input in
        let inside : depth goes.from ≡ dd = ap length (cleared_outer r.wire c goes.from goes.cleared) ∙ deep in
        first_child (Some goes.key) goes.from d xs e
        (from_cursor (λ y n. r.wire.steps y outer.table outer.place n goes.from.at goes.from.inner.mark (Some goes.key) d.at d.inner.mark) goes.from start inside goes.steps.steps)
        (subst (λ x. Chain r.wire i outer.table outer.place dd x.at x.inner.mark xs e) one chain)

    step_input : (k : Option Site) (c d : Cursor) → ToMember r.wire outer k c d → c.input ≡ i → d.input ≡ i
    step_input k c d goes input = goes.steps.input ∙ cleared_input r.wire c goes.from goes.cleared ∙ input

    step_depth : (k : Option Site) (c d : Cursor) → ToMember r.wire outer k c d → depth c ≡ dd → depth d ≡ dd
    step_depth k c d goes deep = ap length goes.steps.outer ∙ ap length (cleared_outer r.wire c goes.from goes.cleared) ∙ deep

    -- the consumer found fault with this entry
    fault_there : (k : Option Site) (s t : C) (c d f from : Cursor) (e : SerdeError) (xs : List Child) (end : ℕ) → ToMember r.wire outer k c d → call k s d (Err e) t f → IsFault e → c.input ≡ i → depth c ≡ dd
        → Cleared r.wire c from → Chain r.wire i outer.table outer.place dd from.at from.inner.mark xs end → ⊥
    fault_there None s t c d f from e xs end goes called fault input deep cleared chain = refuses.unknown s t d f e called fault
    fault_there (Some site) s t c d f from e xs end goes called fault input deep cleared chain =
        let child = behind (Some site) c d from xs end goes input deep cleared chain in
        let there = member_value_there site goes.names.0 goes.key child.0 d.at child.2 goes.names.1 goes.names.2 child.3 in
        refuses.member goes.names.0 site s t d f e goes.names.2 called fault goes.steps.due there.0 child.2
        (at_cursor (λ x n. r.wire.stands x site.table site.place n d.at there.0 child.2) d (step_input (Some site) c d goes input) (step_depth (Some site) c d goes deep) there.1)

    -- what follows behind an entry that was taken, or left unread
    goes_on : (k : Option Site) (s t : C) (c d f from : Cursor) (xs : List Child) (end : ℕ) → ToMember r.wire outer k c d → call k s d (Ok tt) t f → c.input ≡ i → depth c ≡ dd
        → Cleared r.wire c from → Chain r.wire i outer.table outer.place dd from.at from.inner.mark xs end
        → (next : Cursor) × Cleared r.wire f next × (ys : List Child) × Chain r.wire i outer.table outer.place dd next.at next.inner.mark ys end
    goes_on None s t c d f from xs end goes called input deep cleared chain =
        let child = behind None c d from xs end goes input deep cleared chain in
        let skips = unknown_skipped goes.key child.0 d.at child.2 goes.names child.3 in
        let left = takes.unknown s t d f called in (
          passed_to d child.2,
          subst (λ x. Cleared r.wire x (passed_to d child.2)) (sym left.0)
              (skipped child.2 goes.steps.due (at_cursor (λ x n. r.wire.skips x n d.at child.2) d (step_input None c d goes input) (step_depth None c d goes deep) skips)),
          child.1,
          child.4,
        )
    goes_on (Some site) s t c d f from xs end goes called input deep cleared chain =
        let child = behind (Some site) c d from xs end goes input deep cleared chain in
        let there = member_value_there site goes.names.0 goes.key child.0 d.at child.2 goes.names.1 goes.names.2 child.3 in
        let took = takes.member goes.names.0 site s t c d f goes.names.2 goes called in
        let read = from_cursor (λ x n. r.wire.stands x site.table site.place n d.at took.0 f.at) d (step_input (Some site) c d goes input) (step_depth (Some site) c d goes deep) took.1.stands in
        let ends : child.2 ≡ f.at = laws.same_end i site.table site.place dd d.at there.0 took.0 child.2 f.at there.1 read in (
          f,
          nothing_due took.1.passes.due,
          child.1,
          subst (λ m. Chain r.wire i outer.table outer.place dd f.at m child.1 end) (ap (λ x. x.mark) (sym took.1.passes.inner))
              (subst (λ x. Chain r.wire i outer.table outer.place dd x d.inner.mark child.1 end) ends child.4),
        )

    no_children : (s : C) (c : Cursor) (result : Result (Unit {0}) SerdeError) (u : C) (g : Cursor) → Along (by_member r outer) call s c result u g → (e : SerdeError) → result ≡ Err e → IsFault e → c.input ≡ i → depth c ≡ dd
        → (from : Cursor) (xs : List Child) (end : ℕ) → Cleared r.wire c from → Chain r.wire i outer.table outer.place dd from.at from.inner.mark xs end → ⊥
    no_children s c result u g (ended leaves) e is fault input deep from xs end cleared chain = cc
    no_children s c result u g (refused {e = h} why) e is fault input deep from xs end cleared chain =
        let same : h ≡ e = same_error (Unit {0}) h e is in
        stuck from xs end (cleared_input r.wire c from cleared ∙ input) (ap length (cleared_outer r.wire c from cleared) ∙ deep) (why.refused (subst IsFault (sym same) fault) from cleared) chain
    no_children s c result u g (stopped {d = d} {f = f} {e = h} k goes called) e is fault input deep from xs end cleared chain =
        let same : h ≡ e = same_error (Unit {0}) h e is in
        fault_there k s u c d f from h xs end goes called (subst IsFault (sym same) fault) input deep cleared chain
    no_children s c result u g (went {t = t} {d = d} {f = f} k goes called rests more) e is fault input deep from xs end cleared chain =
        let next = goes_on k s t c d f from xs end goes called input deep cleared chain in
        no_children t f result u g more e is fault (rest_input r outer is_structure i dd call members takes k c d f goes rests input) (rest_depth r outer is_structure i dd call members takes k c d f goes rests deep)
        next.0 next.2 end next.1 next.3

-- a fault comes only where no value of the structure stands
pub structure_refused : {C : Type 0} (r : Reader) (outer : Site) (call : Call (Option Site) C) (members : C → MemberValues) → IsLawful r.wire → IsStructure (kind_at outer)
    → TakesMembers r outer call members → RefusesMembers r outer call
    → (s u : C) (c g : Cursor) (result : Result (Unit {0}) SerdeError) → Consumes r outer in_structure (by_member r outer) call s c result u g
    → (e : SerdeError) → result ≡ Err e → IsFault e → c.due ≡ true → StandsNot r.wire c outer.table outer.place
structure_refused r outer call members laws kind takes refuses s u c g result (unopened {e = h} why) e is fault due = λ v end stands.
    let inside : Contains r.wire c.input outer.table outer.place (depth c) c.at v end = laws.unfolded c.input outer.table outer.place (depth c) c.at v end (contains_members (kind_at outer) kind) stands in
    let same : h ≡ e = same_error (Unit {0}) h e is in
    why.refused (subst IsFault (sym same) fault) due inside.allowed inside.inside inside.mark inside.opens
structure_refused r outer call members laws kind takes refuses s u c g result (entered {d = d} live was enters along) e is fault due = λ v end stands.
    let inside : Contains r.wire c.input outer.table outer.place (depth c) c.at v end = laws.unfolded c.input outer.table outer.place (depth c) c.at v end (contains_members (kind_at outer) kind) stands in
    let same = laws.same_opening c.input outer.table outer.place (depth c) c.at inside.inside d.at inside.mark d.inner.mark inside.opens enters.opens in
    no_children r outer laws kind c.input (suc (depth c)) call members takes refuses s d result u g along e is fault enters.input (ap length enters.outer)
    d inside.children end (nothing_due enters.due)
    (subst (λ m. Chain r.wire c.input outer.table outer.place (suc (depth c)) d.at m inside.children end) same.1
    (subst (λ x. Chain r.wire c.input outer.table outer.place (suc (depth c)) x inside.mark inside.children end) same.0 inside.chain))
