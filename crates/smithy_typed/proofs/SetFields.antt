-- Fields, one type inside another, and the members that they are read from.
use Rattle.std.proofs.Common.{◌≡◌, ◌<◌, ◌+◌, ℕ, zero, suc, List, [], ◌∷◌, map, length, Option, Some, None, option_map, Result, Ok, Err, OnOk, refl, sym, ◌∙◌, ap, subst, arith, ◌≤◌, ◌⊎◌, slice_get, inl, inr}
use Rattle.std.specs.List.{enumerate_from}
use Rattle.smithy_declarations.specs.Table.{Table, Member, members_of}
use Rattle.smithy_declarations.specs.Value.{Value}
use Rattle.smithy_shapes.specs.Site.{Site, kind_at, member_site, member_sites, site_of_member}
use Rattle.smithy_shapes.specs.Lemmas.Options.{same_some}
use Rattle.smithy_schema.specs.declared.error.SerdeError.{SerdeError}
use Rattle.smithy_schema.specs.Reading.{Cursor, Reader, Relations, Reads, IsLawful}
use Rattle.smithy_schema.specs.Consuming.{Rests}
use Rattle.smithy_schema.specs.Fields.{TakesField, broke}
use Rattle.smithy_schema.specs.Typed.{ReadsAs}
use Rattle.smithy_schema.proofs.AnsweredErrors.{same_success, same_failure, may_answer}
use Rattle.smithy_schema.proofs.HalfRead.{taken}
use Rattle.smithy_schema.proofs.ReadFields.{set_field, field_taken}
use Rattle.smithy_typed.specs.Places.{named_first, named_none, IsAnyMemberAt, IsAnyStructure}
use Rattle.smithy_typed.specs.Values.{SetsField}

-- ---- what a field is set to

module _ {A : Type 0} (view : A → Value) (w : Relations) (site : Site) (c d : Cursor) (f : Option Value) (fs : List (Option Value)) where
  -- the first field was read
  pub first_set : (x : A) → ReadsAs {A = A} w c d site view (Ok x) → SetsField w (f ∷ fs) (Some (view x) ∷ fs) 0 site c d (Ok tt)
  first_set x reads = record {
    ok = (view x, reads.ok, omega arith, refl);
    refused = λ fault. absurd fault;
    fails = same_success x tt c d reads.fails;
  }

  -- it wasn't
  pub first_not_set : (after : List (Option Value)) (e : SerdeError) → ReadsAs {A = A} w c d site view (Err e) → SetsField w (f ∷ fs) after 0 site c d (Err e)
  first_not_set after e reads = record { ok = tt; refused = reads.refused; fails = same_failure c d e reads.fails }

-- one after the first
pub later_set : (w : Relations) (site : Site) (c d : Cursor) (f : Option Value) (fs gs : List (Option Value)) (n m : ℕ) (result : Result (Unit {0}) SerdeError) → m ≡ suc n
    → SetsField w fs gs n site c d result → SetsField w (f ∷ fs) (f ∷ gs) m site c d result
later_set w site c d f fs gs n m result next sets = record { ok = both result sets.ok; refused = sets.refused; fails = sets.fails }
  where
    both : (result : Result (Unit {0}) SerdeError) → OnOk result ((v : Value) × Reads w c d site.table site.place v × (n < length fs) × (gs ≡ set_field fs n v))
        → OnOk result ((v : Value) × Reads w c d site.table site.place v × (m < length (f ∷ fs)) × (f ∷ gs ≡ set_field (f ∷ fs) m v))
    both (Ok done) (v, reads, within, same) = (v, reads, omega (arith, within, next), subst (λ k. f ∷ gs ≡ set_field (f ∷ fs) k v) (sym next) (ap (λ xs. f ∷ xs) same))
    both (Err e) h = tt

-- what a consumer of fields says
pub field_takes : {C : Type 0} (fields : C → List (Option Value)) (r : Reader) (site : Site) (s t : C) (c d : Cursor) (n : ℕ) (result : Result (Unit {0}) SerdeError) → site.view.index ≡ Some n
    → SetsField r.wire (fields s) (fields t) n site c d result → TakesField fields r (Some site) s c result t d
field_takes fields r site s t c d n (Ok tt) index sets =
    let (v, reads, within, same) = sets.ok in
    field_taken fields r site s t c d n v index within same reads
field_takes fields r site s t c d n (Err e) index sets = broke (may_answer c d e sets.fails) (λ fault due. sets.refused fault)

-- ---- which member it is

pub first_there : (place : Site → Type 0) (rest : List (List ℕ) → List Site → Type 0) (n : ℕ) (site : Site) → IsAnyMemberAt (named_first place rest) n site → n ≡ 0 → place site
first_there place rest n site ([], (sites, none, got)) first = absurd none
first_there place rest n site (name ∷ names, ([], none, got)) first = absurd none
first_there place rest n site (name ∷ names, (here ∷ sites, (named, is, more), got)) first =
    subst place (same_some here site (subst (λ k. slice_get (here ∷ sites) k ≡ Some site) first got)) is

pub later_there : (place : Site → Type 0) (rest : List (List ℕ) → List Site → Type 0) (n m : ℕ) (site : Site) → IsAnyMemberAt (named_first place rest) m site → m ≡ suc n → IsAnyMemberAt rest n site
later_there place rest n m site ([], (sites, none, got)) next = absurd none
later_there place rest n m site (name ∷ names, ([], none, got)) next = absurd none
later_there place rest n m site (name ∷ names, (here ∷ sites, (named, is, more), got)) next =
    (names, (sites, more, subst (λ k. slice_get (here ∷ sites) k ≡ Some site) next got))

-- a position that is a member's, or past the fields
pub first_due : (place : Site → Type 0) (rest : List (List ℕ) → List Site → Type 0) (k n : ℕ) (site : Site) → IsAnyMemberAt (named_first place rest) n site ⊎ (suc k ≤ n)
    → n ≡ 0 → place site
first_due place rest k n site (inl there) first = first_there place rest n site there first
first_due place rest k n site (inr past) first = absurd (omega (arith, past, first))

pub later_due : (place : Site → Type 0) (rest : List (List ℕ) → List Site → Type 0) (k n m : ℕ) (site : Site) → IsAnyMemberAt (named_first place rest) m site ⊎ (suc k ≤ m)
    → m ≡ suc n → IsAnyMemberAt rest n site ⊎ (k ≤ n)
later_due place rest k n m site (inl there) next = inl (later_there place rest n m site there next)
later_due place rest k n m site (inr past) next = inr (omega (arith, past, next))

pub none_there : (n : ℕ) (site : Site) → IsAnyMemberAt named_none n site → ⊥
none_there n site ([], ([], none, got)) = absurd (let h : None ≡ Some site = got in cc)
none_there n site ([], (here ∷ sites, none, got)) = none
none_there n site (name ∷ names, (sites, none, got)) = none

-- ---- the members of a structure by their positions

sites_get : (table : Table) (k n : ℕ) (ms : List Member)
    → slice_get (map (λ (m : ℕ × Member). site_of_member table m.0 m.1) (enumerate_from k ms)) n ≡ option_map (site_of_member table (k + n)) (slice_get ms n)
sites_get table k n [] = refl
sites_get table k zero (m ∷ ms) = let same : k ≡ k + 0 = omega arith in ap (λ i. Some (site_of_member table i m)) same
sites_get table k (suc n) (m ∷ ms) =
    let same : (k + 1) + n ≡ k + suc n = omega arith in
    sites_get table (k + 1) n ms ∙ ap (λ i. option_map (site_of_member table i) (slice_get ms n)) same

pub member_there : (outer : Site) (n : ℕ) (site : Site) → member_site outer n ≡ Some site → slice_get (member_sites outer) n ≡ Some site
member_there outer n site told =
    let members = members_of (kind_at outer) in
    let same : 0 + n ≡ n = omega arith in
    sites_get outer.table 0 n members ∙ ap (λ i. option_map (site_of_member outer.table i) (slice_get members n)) same ∙ told

-- a member of a structure is at its position among the fields
pub any_there : (members : List (List ℕ) → List Site → Type 0) (outer site : Site) (n m : ℕ) → IsAnyStructure members outer → member_site outer n ≡ Some site → n ≡ m
    → IsAnyMemberAt members m site
any_there members outer site n m (names, shape) told same =
    (names, (member_sites outer, shape.all, subst (λ k. slice_get (member_sites outer) k ≡ Some site) same (member_there outer n site told)))

-- the field's value was taken whole
pub field_rests : (w : Relations) → IsLawful w → (fields after : List (Option Value)) (n : ℕ) (site : Site) (c d : Cursor) (result : Result (Unit {0}) SerdeError) → SetsField w fields after n site c d result → OnOk result (Rests c d)
field_rests w laws fields after n site c d (Ok done) sets =
    let (v, reads, within, same) = sets.ok in
    inr (taken w laws (λ x. x) site c d v (record { ok = reads; refused = λ fault. absurd fault; fails = same_success done v c d sets.fails }))
field_rests w laws fields after n site c d (Err e) sets = tt

pub on_ok : {P : Type 0} (result : Result (Unit {0}) SerdeError) → P → OnOk result P
on_ok (Ok done) holds = holds
on_ok (Err e) holds = tt
