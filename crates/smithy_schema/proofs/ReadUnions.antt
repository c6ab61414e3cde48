-- A union that is half read.
use Rattle.std.proofs.Common.{◌≡◌, ℕ, List, ◌∷◌, map, Option, Some, None, option_and_then, refl, sym, ◌∙◌, ap}
use Rattle.smithy_declarations.specs.declared.place.Place.{Place}
use Rattle.smithy_shapes.specs.declared.schema.Schema.{Schema}
use Rattle.smithy_schema.specs.declared.step.Step.{Step}
use Rattle.smithy_schema.specs.declared.step.Step.TheVariants.{Member as ToMember, Unknown, End}
use Rattle.smithy_declarations.specs.Table.{Table, Kind, union_of, kind_of, place_in, IsStructure, IsUnion, HasMembers, IsContainer}
use Rattle.smithy_shapes.specs.Site.{Site, kind_at}
use Rattle.smithy_declarations.specs.Value.{Value}
use Rattle.smithy_shapes.specs.Container.{folded, container_of}
use Rattle.smithy_shapes.specs.Lemmas.Variants.{variant_step, variants_folded}
use Rattle.smithy_schema.specs.Reading.{Cursor, in_structure, depth, Relations, Child, child_value, child_unknown, child_null, entry_of, IsChild, IsLawful, IsBelow, Enters, MatchStep, StandsNot}
use Rattle.smithy_schema.proofs.ReadContainers.{InContainer, worth_as, begin, named_above, no_child, no_worth, ends_early, no_place, not_both}

-- the union that more children make behind this variant, or behind none
abbrev pub union_value : Option Value → List Child → Option Value
union_value variant xs = option_and_then (λ v. v) (folded variant_step variant (map entry_of xs))

union_folds : (k : Kind) → IsUnion k → (xs : List Child) → container_of k (map entry_of xs) ≡ union_value None xs
union_folds (union_of members) h xs = variants_folded (map entry_of xs)
union_folds _ h xs = absurd h

pub union_contains : (k : Kind) → IsUnion k → IsContainer k
union_contains (union_of members) h = tt
union_contains _ h = absurd h

pub union_has_members : (k : Kind) → IsUnion k → HasMembers k
union_has_members (union_of members) h = tt
union_has_members _ h = absurd h

not_structure : (k : Kind) → IsUnion k → IsStructure k → ⊥
not_structure (union_of members) h l = l
not_structure _ h l = h

pub begin_union : (w u : Relations) (max : ℕ) → IsLawful w → IsLawful u → IsBelow w u → (s0 s : Cursor) (t : Table) (p : Place) → IsUnion (kind_of t p) → Enters w max s0 s t p in_structure
    → InContainer w u max s0 s t p in_structure (union_value None)
begin_union w u max laws over below s0 s t p kind enters = worth_as w u max s0 s t p in_structure _ _ (union_folds _ kind) (begin w u max laws over below s0 s t p in_structure (union_contains _ kind) enters)

-- no variant came
pub no_variant : (w u : Relations) (max : ℕ) → IsLawful u → IsBelow w u → (s0 s s1 : Cursor) (o : Site)
    → InContainer w u max s0 s o.table o.place in_structure (union_value None) → MatchStep End w s s1 o → StandsNot u s0 o.table o.place
no_variant w u max over below s0 s s1 o inside leaves = ends_early w u max over below s0 s s1 o.table o.place in_structure (union_value None) inside leaves refl

-- an entry that names no member is no child of a union
unknown_never : (w u : Relations) → IsBelow w u → (s s1 : Cursor) (o : Site) → IsUnion (kind_at o) → (step : MatchStep Unknown w s s1 o) (x : Child) (f : ℕ)
    → IsChild u s1.input o.table o.place (depth s1) (Some step.0) x s1.at f → ⊥
unknown_never w u below s s1 o kind step (child_value k n v) f child =
    no_place _ (union_has_members _ kind) child.2.0 (ap (place_in (kind_at o)) (sym (child.1 ∙ sym (named_above w u below o.table o.place (Some step.0)) ∙ step.2)) ∙ child.2.1)
unknown_never w u below s s1 o kind step (child_null k) f child = not_both _ (union_has_members _ kind) child.1
unknown_never w u below s s1 o kind step (child_unknown k) f child = not_structure _ kind child.1

pub unknown_variant : (w u : Relations) (max : ℕ) → IsLawful u → IsBelow w u → (s0 s s1 : Cursor) (o : Site) (worth : List Child → Option Value)
    → IsUnion (kind_at o) → InContainer w u max s0 s o.table o.place in_structure worth → MatchStep Unknown w s s1 o → StandsNot u s0 o.table o.place
unknown_variant w u max over below s0 s s1 o worth kind inside step =
    no_child w u max over below s0 s s1 o.table o.place in_structure worth (Some step.0) inside step.1 (unknown_never w u below s s1 o kind step)

-- a second variant is too many
too_many : (first : Value) (key : Option (List ℕ)) (n : ℕ) (v : Value) (xs : List Child) → union_value (Some first) (child_value key (Some n) v ∷ xs) ≡ None
too_many first None n v xs = refl
too_many first (Some key) n v xs = refl

second_only : (w u : Relations) → IsBelow w u → (s s1 : Cursor) (o : Site) (m : Schema) (first : Value) → IsUnion (kind_at o) → (step : MatchStep (ToMember m) w s s1 o) (x : Child) (f : ℕ)
    → IsChild u s1.input o.table o.place (depth s1) (Some step.0) x s1.at f → (xs : List Child) → union_value (Some first) (x ∷ xs) ≡ None
second_only w u below s s1 o m first kind step (child_value k n v) f child xs =
    let named_so : n ≡ Some step.1 = child.1 ∙ sym (named_above w u below o.table o.place (Some step.0)) ∙ step.3 in
    ap (λ z. union_value (Some first) (child_value k z v ∷ xs)) named_so ∙ too_many first k step.1 v xs
second_only w u below s s1 o m first kind step (child_null k) f child xs = absurd (not_both _ (union_has_members _ kind) child.1)
second_only w u below s s1 o m first kind step (child_unknown k) f child xs = absurd (not_structure _ kind child.1)

pub second_variant : (w u : Relations) (max : ℕ) → IsLawful u → IsBelow w u → (s0 s s1 : Cursor) (o : Site) (m : Schema) (first : Value)
    → IsUnion (kind_at o) → InContainer w u max s0 s o.table o.place in_structure (union_value (Some first)) → MatchStep (ToMember m) w s s1 o → StandsNot u s0 o.table o.place
second_variant w u max over below s0 s s1 o m first kind inside step =
    no_worth w u max over below s0 s s1 o.table o.place in_structure (union_value (Some first)) (Some step.0) inside step.2 (second_only w u below s s1 o m first kind step)

-- where the first step goes to no member, there is no variant
pub no_first : (w u : Relations) (max : ℕ) → IsLawful u → IsBelow w u → (s0 s s1 : Cursor) (o : Site) (step : Step) → ((m : Schema) → step ≡ ToMember m → ⊥)
    → IsUnion (kind_at o) → InContainer w u max s0 s o.table o.place in_structure (union_value None) → MatchStep step w s s1 o → StandsNot u s0 o.table o.place
no_first w u max over below s0 s s1 o (ToMember m) other kind inside step = absurd (other m refl)
no_first w u max over below s0 s s1 o Unknown other kind inside step = unknown_variant w u max over below s0 s s1 o (union_value None) kind inside step
no_first w u max over below s0 s s1 o End other kind inside step = no_variant w u max over below s0 s s1 o inside step

-- where the second goes on, there is more than one
pub no_end : (w u : Relations) (max : ℕ) → IsLawful u → IsBelow w u → (s0 s s1 : Cursor) (o : Site) (first : Value) (step : Step) → (step ≡ End → ⊥)
    → IsUnion (kind_at o) → InContainer w u max s0 s o.table o.place in_structure (union_value (Some first)) → MatchStep step w s s1 o → StandsNot u s0 o.table o.place
no_end w u max over below s0 s s1 o first (ToMember m) other kind inside step = second_variant w u max over below s0 s s1 o m first kind inside step
no_end w u max over below s0 s s1 o first Unknown other kind inside step = unknown_variant w u max over below s0 s s1 o (union_value (Some first)) kind inside step
no_end w u max over below s0 s s1 o first End other kind inside step = absurd (other refl)

-- a step stays in its input
pub step_input : (w : Relations) (s s1 : Cursor) (o : Site) (step : Step) → MatchStep step w s s1 o → s1.input ≡ s.input
step_input w s s1 o (ToMember m) step = step.2.input
step_input w s s1 o Unknown step = step.1.input
step_input w s s1 o End step = step.input
