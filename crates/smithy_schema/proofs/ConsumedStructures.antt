-- What calls of a consumer along the entries of a structure have read together.
use Rattle.std.proofs.Common.{◌≡◌, ℕ, suc, List, [], ◌∷◌, map, length, Option, Some, None, true, false, option_map, Result, Ok, Err, OnOk, refl, sym, ◌∙◌, ap, subst, inl, inr}
use Rattle.smithy_schema.specs.declared.error.SerdeError.{SerdeError}
use Rattle.smithy_declarations.specs.Table.{Kind, structure_of, IsStructure, IsSparse, IsContainer}
use Rattle.smithy_shapes.specs.Site.{Site, member_site, kind_at}
use Rattle.smithy_declarations.specs.Value.{Value, MemberValues, no_member_values, put_member, structure}
use Rattle.smithy_shapes.specs.Container.{members_from, container_of}
use Rattle.smithy_schema.specs.Reading.{Cursor, in_structure, depth, Relations, Child, child_value, child_unknown, entry_of, Chain, IsLawful, Reads, Enters, Reader}
use Rattle.smithy_schema.specs.Consuming.{Call, Rests, Cleared, nothing_due, skipped, Along, ended, refused, stopped, went, Consumes, unopened, entered, by_member, ToMember}
use Rattle.smithy_schema.proofs.ConsumingLemmas.{cleared_input, cleared_outer}
use Rattle.smithy_schema.proofs.ReadStructures.{site_told}

pub structure_not_sparse : (k : Kind) → IsStructure k → IsSparse k → ⊥
structure_not_sparse (structure_of ms) h sparse = sparse
structure_not_sparse _ h sparse = h

pub contains_members : (k : Kind) → IsStructure k → IsContainer k
contains_members (structure_of ms) h = tt
contains_members _ h = absurd h

folds_members : (k : Kind) → IsStructure k → (xs : List Child) (ms : MemberValues) → members_from no_member_values (map entry_of xs) ≡ Some ms → container_of k (map entry_of xs) ≡ Some (structure ms)
folds_members (structure_of members) h xs ms folds = ap (option_map structure) folds
folds_members _ h xs ms folds = absurd h

on_ok : {A : Type 0} (P Q : Type 0) (r : Result A SerdeError) → (P → Q) → OnOk r P → OnOk r Q
on_ok P Q (Ok x) f h = f h
on_ok P Q (Err e) f h = tt

-- ---- along the entries

-- What an Ok call of a consumer for a structure did for the members that it has: an entry whose key names none is left unread, and
-- of a member it read a value, which is set.
pub record TakesMembers {C : Type 0} (r : Reader) (outer : Site) (call : Call (Option Site) C) (members : C → MemberValues) : Type 0 where
  pub unknown : (s t : C) (d f : Cursor) → call None s d (Ok tt) t f → (f ≡ d) × (members t ≡ members s)
  pub member : (n : ℕ) (site : Site) (s t : C) (c d f : Cursor) → member_site outer n ≡ Some site → ToMember r.wire outer (Some site) c d → call (Some site) s d (Ok tt) t f
      → (v : Value) × Reads r.wire d f site.table site.place v × (members t ≡ put_member n v (members s))

-- what follows from here on, to the container's end at e
abbrev Rest : Relations → List ℕ → Site → ℕ → Cursor → MemberValues → MemberValues → ℕ → Type 0
Rest w i outer d c before after e =
    (from : Cursor) × Cleared w c from × (xs : List Child) × Chain w i outer.table outer.place d from.at from.inner.mark xs e
    × (members_from before (map entry_of xs) ≡ Some after)

module _ (r : Reader) (outer : Site) (is_structure : IsStructure (kind_at outer)) (i : List ℕ) (dd : ℕ) where
  steps_there : (key : Option (List ℕ)) (c d : Cursor) → c.input ≡ i → depth c ≡ dd → r.wire.steps c.input outer.table outer.place (depth c) c.at c.inner.mark key d.at d.inner.mark
      → r.wire.steps i outer.table outer.place dd c.at c.inner.mark key d.at d.inner.mark
  steps_there key c d input deep steps =
      subst (λ x. r.wire.steps i outer.table outer.place x c.at c.inner.mark key d.at d.inner.mark) deep
      (subst (λ x. r.wire.steps x outer.table outer.place (depth c) c.at c.inner.mark key d.at d.inner.mark) input steps)

  closes_there : (c : Cursor) (e : ℕ) → c.input ≡ i → depth c ≡ dd → r.wire.closes c.input outer.table outer.place (depth c) c.at c.inner.mark e
      → r.wire.closes i outer.table outer.place dd c.at c.inner.mark e
  closes_there c e input deep closes =
      subst (λ x. r.wire.closes i outer.table outer.place x c.at c.inner.mark e) deep
      (subst (λ x. r.wire.closes x outer.table outer.place (depth c) c.at c.inner.mark e) input closes)

  -- an entry whose key names no member, which was left unread and is skipped
  past_unknown : (c d from : Cursor) (before after : MemberValues) (e : ℕ) (goes : ToMember r.wire outer None c d) → c.input ≡ i → depth c ≡ dd → Cleared r.wire d from
      → (xs : List Child) → Chain r.wire i outer.table outer.place dd from.at from.inner.mark xs e → members_from before (map entry_of xs) ≡ Some after
      → Rest r.wire i outer dd c before after e
  past_unknown c d from before after e goes input deep (nothing_due none) xs chain folds = absurd (let h : true ≡ false = sym goes.steps.due ∙ none in cc)
  past_unknown c d from before after e goes input deep (skipped a due skips) xs chain folds =
      let start = cleared_input r.wire c goes.from goes.cleared ∙ input in
      let inside : depth goes.from ≡ dd = ap length (cleared_outer r.wire c goes.from goes.cleared) ∙ deep in
      let there : d.input ≡ i = goes.steps.input ∙ start in
      let same : depth d ≡ dd = ap length goes.steps.outer ∙ inside in
      let skipped_there : r.wire.skips i dd d.at a = subst (λ x. r.wire.skips i x d.at a) same (subst (λ x. r.wire.skips x (depth d) d.at a) there skips) in (
        goes.from,
        goes.cleared,
        child_unknown (Some goes.key) ∷ xs,
        (Some goes.key, d.at, d.inner.mark, a, steps_there (Some goes.key) goes.from d start inside goes.steps.steps, (refl, is_structure, goes.names, skipped_there), chain),
        folds,
      )

  -- a member that was read
  past_member : (site : Site) (c d f from : Cursor) (v : Value) (before after : MemberValues) (e : ℕ) (goes : ToMember r.wire outer (Some site) c d) → c.input ≡ i → depth c ≡ dd
      → Reads r.wire d f site.table site.place v → Cleared r.wire f from
      → (xs : List Child) → Chain r.wire i outer.table outer.place dd from.at from.inner.mark xs e → members_from (put_member goes.names.0 v before) (map entry_of xs) ≡ Some after
      → Rest r.wire i outer dd c before after e
  past_member site c d f from v before after e goes input deep reads (skipped a due skips) xs chain folds = absurd (let h : true ≡ false = sym due ∙ reads.passes.due in cc)
  past_member site c d f from v before after e goes input deep reads (nothing_due none) xs chain folds =
      let start = cleared_input r.wire c goes.from goes.cleared ∙ input in
      let inside : depth goes.from ≡ dd = ap length (cleared_outer r.wire c goes.from goes.cleared) ∙ deep in
      let there : d.input ≡ i = goes.steps.input ∙ start in
      let same : depth d ≡ dd = ap length goes.steps.outer ∙ inside in
      let told = site_told outer goes.names.0 site goes.names.2 in
      let stands : r.wire.stands i outer.table site.place dd d.at v f.at =
      subst (λ x. r.wire.stands i x site.place dd d.at v f.at) told.0
      (subst (λ x. r.wire.stands i site.table site.place x d.at v f.at) same (subst (λ x. r.wire.stands x site.table site.place (depth d) d.at v f.at) there reads.stands)) in
      let more : Chain r.wire i outer.table outer.place dd f.at d.inner.mark xs e =
      subst (λ m. Chain r.wire i outer.table outer.place dd f.at m xs e) (ap (λ x. x.mark) reads.passes.inner) chain in (
        goes.from,
        goes.cleared,
        child_value (Some goes.key) (Some goes.names.0) v ∷ xs,
        (
          Some goes.key,
          d.at,
          d.inner.mark,
          f.at,
          steps_there (Some goes.key) goes.from d start inside goes.steps.steps,
          (refl, sym goes.names.1, (site.place, told.1, stands), λ sparse. absurd (structure_not_sparse (kind_at outer) is_structure sparse)),
          more,
        ),
        folds,
      )

  module _ {C : Type 0} (call : Call (Option Site) C) (members : C → MemberValues) (takes : TakesMembers r outer call members) where
    one_more : (k : Option Site) (s t u : C) (c d f g : Cursor) → ToMember r.wire outer k c d → call k s d (Ok tt) t f → c.input ≡ i → depth c ≡ dd
        → Rest r.wire i outer dd f (members t) (members u) g.at → Rest r.wire i outer dd c (members s) (members u) g.at
    one_more None s t u c d f g goes called input deep (from, cleared, xs, chain, folds) =
        let left = takes.unknown s t d f called in
        past_unknown c d from (members s) (members u) g.at goes input deep (subst (λ x. Cleared r.wire x from) left.0 cleared) xs chain
        (subst (λ m. members_from m (map entry_of xs) ≡ Some (members u)) left.1 folds)
    one_more (Some site) s t u c d f g goes called input deep (from, cleared, xs, chain, folds) =
        let took = takes.member goes.names.0 site s t c d f goes.names.2 goes called in
        past_member site c d f from took.0 (members s) (members u) g.at goes input deep took.1 cleared xs chain
        (subst (λ m. members_from m (map entry_of xs) ≡ Some (members u)) took.2 folds)

    pub rest_input : (k : Option Site) (c d f : Cursor) → ToMember r.wire outer k c d → Rests d f → c.input ≡ i → f.input ≡ i
    rest_input k c d f goes (inl is) input = ap (λ x. x.input) is ∙ goes.steps.input ∙ cleared_input r.wire c goes.from goes.cleared ∙ input
    rest_input k c d f goes (inr taken) input = taken.passes.input ∙ goes.steps.input ∙ cleared_input r.wire c goes.from goes.cleared ∙ input

    pub rest_depth : (k : Option Site) (c d f : Cursor) → ToMember r.wire outer k c d → Rests d f → depth c ≡ dd → depth f ≡ dd
    rest_depth k c d f goes (inl is) deep = ap (λ (x : Cursor). length x.outer) is ∙ ap length goes.steps.outer ∙ ap length (cleared_outer r.wire c goes.from goes.cleared) ∙ deep
    rest_depth k c d f goes (inr taken) deep = ap length taken.passes.outer ∙ ap length goes.steps.outer ∙ ap length (cleared_outer r.wire c goes.from goes.cleared) ∙ deep

    entries : (s : C) (c : Cursor) (result : Result (Unit {0}) SerdeError) (u : C) (g : Cursor) → Along (by_member r outer) call s c result u g → c.input ≡ i → depth c ≡ dd
        → OnOk result (Rest r.wire i outer dd c (members s) (members u) g.at)
    entries s c result u g (ended leaves) input deep = (
      leaves.from,
      leaves.cleared,
      [],
      closes_there leaves.from g.at (cleared_input r.wire c leaves.from leaves.cleared ∙ input) (ap length (cleared_outer r.wire c leaves.from leaves.cleared) ∙ deep) leaves.leaves.closes,
      refl,
    )
    entries s c result u g (refused e) input deep = tt
    entries s c result u g (stopped k goes called) input deep = tt
    entries s c result u g (went {t = t} {d = d} {f = f} k goes called rests more) input deep =
        on_ok _ _ result (one_more k s t u c d f g goes called input deep)
        (entries t f result u g more (rest_input k c d f goes rests input) (rest_depth k c d f goes rests deep))

whole_structure : (r : Reader) (outer : Site) → IsLawful r.wire → IsStructure (kind_at outer) → (c d : Cursor) (before after : MemberValues) (e : ℕ) → before ≡ no_member_values
    → Enters r.wire r.max_depth c d outer.table outer.place in_structure → Rest r.wire c.input outer (suc (depth c)) d before after e
    → r.wire.stands c.input outer.table outer.place (depth c) c.at (structure after) e
whole_structure r outer laws kind c d before after e fresh enters (from, skipped a due skips, xs, chain, folds) = absurd (let h : true ≡ false = sym due ∙ enters.due in cc)
whole_structure r outer laws kind c d before after e fresh enters (from, nothing_due none, xs, chain, folds) =
    laws.folded c.input outer.table outer.place (depth c) c.at (structure after) e (contains_members (kind_at outer) kind)
    (record {
      inside = d.at;
      mark = d.inner.mark;
      children = xs;
      allowed = enters.allowed;
      opens = enters.opens;
      chain = chain;
      means = folds_members (kind_at outer) kind xs after (subst (λ m. members_from m (map entry_of xs) ≡ Some after) fresh folds);
    })

-- what the consumer has after an Ok call is the structure that stands there
pub structure_read : {C : Type 0} (r : Reader) (outer : Site) (call : Call (Option Site) C) (members : C → MemberValues) → IsLawful r.wire → IsStructure (kind_at outer) → TakesMembers r outer call members
    → (s u : C) (c g : Cursor) (result : Result (Unit {0}) SerdeError) → members s ≡ no_member_values → Consumes r outer in_structure (by_member r outer) call s c result u g
    → OnOk result (r.wire.stands c.input outer.table outer.place (depth c) c.at (structure (members u)) g.at)
structure_read r outer call members laws kind takes s u c g result fresh (unopened why) = tt
structure_read r outer call members laws kind takes s u c g result fresh (entered {d = d} live was enters along) =
    on_ok _ _ result (λ rest. whole_structure r outer laws kind c d (members s) (members u) g.at fresh enters rest)
    (entries r outer kind c.input (suc (depth c)) call members takes s d result u g along enters.input (ap length enters.outer))
