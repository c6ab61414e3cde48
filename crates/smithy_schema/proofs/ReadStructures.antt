-- A structure that is half read.
use Rattle.std.proofs.Common.{◌≡◌, ℕ, List, [], map, Option, Some, None, option_map, refl, sym, ◌∙◌, ap, arith}
use Rattle.std.specs.List.{slice_get}
use Rattle.std.proofs.lemmas.Option.{slice_get_past}
use Rattle.smithy_declarations.specs.declared.place.Place.{Place}
use Rattle.smithy_shapes.specs.declared.schema.Schema.{Schema}
use Rattle.smithy_schema.specs.declared.step.Step.TheVariants.{Member as ToMember, Unknown}
use Rattle.smithy_declarations.specs.Table.{Table, Kind, structure_of, union_of, kind_of, place_in, members_of, Member, IsStructure, HasMembers, IsSparse, IsContainer}
use Rattle.smithy_shapes.specs.Site.{Site, site_of, site_of_member, member_site, kind_at}
use Rattle.smithy_declarations.specs.Value.{Value, MemberValues, no_member_values, structure}
use Rattle.smithy_shapes.specs.Container.{members_from, container_of}
use Rattle.smithy_schema.specs.Reading.{Cursor, in_structure, depth, Relations, Child, child_value, child_unknown, child_null, entry_of, IsChild, IsLawful, IsBelow, Enters, MatchStep}
use Rattle.smithy_schema.proofs.ReadContainers.{InContainer, worth_as, begin, named_above, no_child, no_place, not_both, structure_has_members}

-- the structure that more children make of these fields
abbrev pub structure_value : MemberValues → List Child → Option Value
structure_value fs xs = option_map structure (members_from fs (map entry_of xs))

structure_folds : (k : Kind) → IsStructure k → (xs : List Child) → container_of k (map entry_of xs) ≡ structure_value no_member_values xs
structure_folds (structure_of members) h xs = refl
structure_folds _ h xs = absurd h

pub structure_contains : (k : Kind) → IsStructure k → IsContainer k
structure_contains (structure_of members) h = tt
structure_contains _ h = absurd h

pub begin_structure : (w u : Relations) (max : ℕ) → IsLawful w → IsLawful u → IsBelow w u → (s0 s : Cursor) (t : Table) (p : Place) → IsStructure (kind_of t p) → Enters w max s0 s t p in_structure → InContainer w u max s0 s t p in_structure (structure_value no_member_values)
begin_structure w u max laws over below s0 s t p kind enters = worth_as w u max s0 s t p in_structure _ _ (structure_folds _ kind) (begin w u max laws over below s0 s t p in_structure (structure_contains _ kind) enters)

-- what the site of a member tells of it
member_told : (m : Option Member) (t : Table) (n : ℕ) (s : Site) → option_map (site_of_member t n) m ≡ Some s
    → (s.table ≡ t) × (option_map (λ (x : Member). x.place) m ≡ Some s.place) × (s.view.index ≡ Some n)
member_told None t n s h = absurd (let e : None ≡ Some s = h in cc)
member_told (Some m) t n s h =
    let e : site_of_member t n m ≡ s = cc in
    (ap (λ (x : Site). x.table) (sym e), ap (λ (x : Site). Some x.place) e, ap (λ (x : Site). x.view.index) (sym e))

no_member : (t : Table) (n : ℕ) (s : Site) → option_map (site_of_member t n) (slice_get [] n) ≡ Some s → ⊥
no_member t n s h = let e : None ≡ Some s = sym (ap (option_map (site_of_member t n)) (slice_get_past [] n (omega arith))) ∙ h in cc

told_in : (k : Kind) (t : Table) (n : ℕ) (s : Site) → option_map (site_of_member t n) (slice_get (members_of k) n) ≡ Some s
    → (s.table ≡ t) × (place_in k (Some n) ≡ Some s.place) × (s.view.index ≡ Some n)
told_in (structure_of ms) t n s h = member_told (slice_get ms n) t n s h
told_in (union_of ms) t n s h = member_told (slice_get ms n) t n s h
told_in _ t n s h = absurd (no_member t n s h)

pub site_told : (o : Site) (n : ℕ) (s : Site) → member_site o n ≡ Some s
    → (s.table ≡ o.table) × (place_in (kind_at o) (Some n) ≡ Some s.place) × (s.view.index ≡ Some n)
site_told o n s h = told_in (kind_at o) o.table n s h

-- what has members isn't sparse
not_sparse : (k : Kind) (t : Table) (n : ℕ) (s : Site) → option_map (site_of_member t n) (slice_get (members_of k) n) ≡ Some s → IsSparse k → ⊥
not_sparse (structure_of ms) t n s h sparse = sparse
not_sparse (union_of ms) t n s h sparse = sparse
not_sparse _ t n s h sparse = no_member t n s h

-- the child that a member step leads to
pub member_child : (w : Relations) (s s1 : Cursor) (o : Site) (m : Schema) (n : ℕ) (v : Value) (f : ℕ) → (step : MatchStep (ToMember m) w s s1 o) → (site_of m).view.index ≡ Some n
    → w.stands s1.input m.shapes.now m.place (depth s1) s1.at v f → IsChild w s1.input o.table o.place (depth s1) (Some step.0) (child_value (Some step.0) (Some n) v) s1.at f
member_child w s s1 o m n v f step index stands =
    let told = site_told o step.1 (site_of m) step.4 in
    let same : Some step.1 ≡ Some n = sym told.2 ∙ index in
    (refl, sym same ∙ sym step.3, (m.place, rw same at told.1, rw told.0 at stands), λ sparse. absurd (not_sparse (kind_at o) o.table step.1 (site_of m) step.4 sparse))

-- a member's child is a value, and an unknown entry's child is skipped
member_only : (w u : Relations) → IsBelow w u → (s s1 : Cursor) (o : Site) (m : Schema) → HasMembers (kind_at o) → (step : MatchStep (ToMember m) w s s1 o) (x : Child) (f : ℕ)
    → IsChild u s1.input o.table o.place (depth s1) (Some step.0) x s1.at f → (v : Value) × u.stands s1.input m.shapes.now m.place (depth s1) s1.at v f
member_only w u below s s1 o m kind step (child_value k n v) f child =
    let told = site_told o step.1 (site_of m) step.4 in
    let named_so : n ≡ Some step.1 = child.1 ∙ sym (named_above w u below o.table o.place (Some step.0)) ∙ step.3 in
    let same : Some child.2.0 ≡ Some m.place = sym child.2.1 ∙ ap (place_in (kind_at o)) named_so ∙ told.1 in
    let target : child.2.0 ≡ m.place = cc in
    (v, rw (told.0, ← target) child.2.2)
member_only w u below s s1 o m kind step (child_null k) f child = absurd (not_both _ kind child.1)
member_only w u below s s1 o m kind step (child_unknown k) f child =
    absurd (let e : Some step.1 ≡ None = sym step.3 ∙ named_above w u below o.table o.place (Some step.0) ∙ child.2 in cc)

-- nothing stands where no value of the member does
pub member_refused : (w u : Relations) (max : ℕ) → IsLawful u → IsBelow w u → (s0 s s1 : Cursor) (o : Site) (m : Schema) (worth : List Child → Option Value)
    → HasMembers (kind_at o) → InContainer w u max s0 s o.table o.place in_structure worth → MatchStep (ToMember m) w s s1 o
    → ((v : Value) (e : ℕ) → u.stands s1.input m.shapes.now m.place (depth s1) s1.at v e → ⊥)
    → (v : Value) (e : ℕ) → u.stands s0.input o.table o.place (depth s0) s0.at v e → ⊥
member_refused w u max over below s0 s s1 o m worth kind inside step none =
    no_child w u max over below s0 s s1 o.table o.place in_structure worth (Some step.0) inside step.2
    (λ x f child. let found = member_only w u below s s1 o m kind step x f child in none found.0 f found.1)

unknown_only : (w u : Relations) → IsBelow w u → (s s1 : Cursor) (o : Site) → IsStructure (kind_at o) → (step : MatchStep Unknown w s s1 o) (x : Child) (f : ℕ)
    → IsChild u s1.input o.table o.place (depth s1) (Some step.0) x s1.at f → u.skips s1.input (depth s1) s1.at f
unknown_only w u below s s1 o kind step (child_value k n v) f child =
    absurd (no_place _ (structure_has_members _ kind) child.2.0 (ap (place_in (kind_at o)) (sym (child.1 ∙ sym (named_above w u below o.table o.place (Some step.0)) ∙ step.2)) ∙ child.2.1))
unknown_only w u below s s1 o kind step (child_null k) f child = absurd (not_both _ (structure_has_members _ kind) child.1)
unknown_only w u below s s1 o kind step (child_unknown k) f child = child.3

pub unknown_refused : (w u : Relations) (max : ℕ) → IsLawful u → IsBelow w u → (s0 s s1 : Cursor) (o : Site) (fs : MemberValues)
    → IsStructure (kind_at o) → InContainer w u max s0 s o.table o.place in_structure (structure_value fs) → MatchStep Unknown w s s1 o
    → ((e : ℕ) → u.skips s1.input (depth s1) s1.at e → ⊥)
    → (v : Value) (e : ℕ) → u.stands s0.input o.table o.place (depth s0) s0.at v e → ⊥
unknown_refused w u max over below s0 s s1 o fs kind inside step none =
    no_child w u max over below s0 s s1 o.table o.place in_structure (structure_value fs) (Some step.0) inside step.1 (λ x f child. none f (unknown_only w u below s s1 o kind step x f child))

-- a member that is stepped to has a position
pub has_index : (w : Relations) (s s1 : Cursor) (o : Site) (m : Schema) → MatchStep (ToMember m) w s s1 o → (site_of m).view.index ≡ None → ⊥
has_index w s s1 o m step none = let e : Some step.1 ≡ None = sym (site_told o step.1 (site_of m) step.4).2 ∙ none in cc
