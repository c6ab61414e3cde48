-- A structure or a union that is half read, in both readings.
use Rattle.std.proofs.Common.{◌≡◌, ℕ, List, Option, Some, None, true, false, Ok, Err, IsErrOf, refl, ◌∙◌, ap, subst}
use Rattle.smithy_shapes.specs.declared.schema.Schema.{Schema}
use Rattle.smithy_schema.specs.declared.error.SerdeError.{SerdeError}
use Rattle.smithy_schema.specs.declared.error.SerdeError.TheVariants.{InvalidInput, TooDeep}
use Rattle.smithy_schema.specs.declared.step.Step.{Step}
use Rattle.smithy_schema.specs.declared.step.Step.TheVariants.{Member as ToMember, Unknown, End}
use Rattle.smithy_declarations.specs.Table.{Kind, structure_of, IsStructure, IsUnion, HasMembers, place_in}
use Rattle.smithy_shapes.specs.Site.{Site, site_of, kind_at}
use Rattle.smithy_declarations.specs.Value.{Value, MemberValues, no_member_values, put_member, union}
use Rattle.smithy_schema.specs.Errors.{RefusesNoKind, IsFault, IsInvalid}
use Rattle.smithy_schema.specs.Reading.{Cursor, in_structure, Relations, Child, child_value, child_unknown, depth, Conducts, Enters, Steps, MatchStep, Passes, Reads, SkipsNot, ReachesDepth, failed_at}
use Rattle.smithy_schema.proofs.CountLemmas.{value_counted, skip_counted, member_counted}
use Rattle.smithy_value.specs.ReadValue.{ReadsValue}
use Rattle.smithy_schema.proofs.ReadContainers.{itself, not_both, structure_has_members}
use Rattle.smithy_schema.proofs.ReadStructures.{structure_value, begin_structure, site_told, member_child, member_refused, unknown_refused}
use Rattle.smithy_schema.proofs.ReadUnions.{union_value, begin_union, union_has_members, no_first, no_end, step_input}
use Rattle.smithy_value.proofs.ReadWide.{inside_member}
use Rattle.smithy_value.specs.DuePlaces.{GoesOnAt, AgreesInside, as_unknown, as_second, at_once}
use Rattle.smithy_value.proofs.ReadTypes.{none_came, one_deeper, goes_on, agrees_behind}
use Rattle.smithy_value.proofs.ReadAnswers.{ObeysLaws, Reached, call_fails, inner_fails, made_to_fail}
use Rattle.smithy_value.proofs.HalfRead.{HalfRead, entered, stepped_to, child_passed, to_child, had_not, not_due}

-- a step that was taken had not failed
step_going : (w : Relations) (s s1 : Cursor) (o : Site) (step : Step) → MatchStep step w s s1 o → s1.failed ≡ true → ⊥
step_going w s s1 o (ToMember m) step = had_not s1 step.2.failed
step_going w s s1 o Unknown step = had_not s1 step.1.failed
step_going w s s1 o End step = had_not s1 step.failed

pub structure_or_union : (k : Kind) → IsStructure k → IsUnion k → ⊥
structure_or_union (structure_of members) h variant = variant
structure_or_union _ h variant = h

module _ (w u : Relations) (tells_without_limits : Type 0) (max : ℕ) (laws : ObeysLaws w u tells_without_limits) where
  -- the value of a member is refused
  pub member_fails : {A B : Type 0} (inner : A → Value) (view : B → Value) (o : Site) (m : Schema) (s0 s s1 s2 : Cursor) (worth : List Child → Option Value) (e : SerdeError) → HasMembers (kind_at o)
      → (half : HalfRead w u tells_without_limits max s0 s o.table o.place in_structure worth) → (IsUnion (kind_at o) → half.came.any ≡ false) → MatchStep (ToMember m) w s s1 o
      → ReadsValue {A = A} w u tells_without_limits max s1 s2 (site_of m) inner (Err e)
      → ReadsValue {A = B} w u tells_without_limits max s0 s2 o view (Err e)
  member_fails {A} {B} inner view o m s0 s s1 s2 worth e kind half variant step reads =
      let told = site_told o step.1 (site_of m) step.4 in
      inner_fails w u tells_without_limits max {A = A} {B = B} inner view (site_of m) o s0 s1 s2 e
      (stepped_to w u tells_without_limits laws s0 s s1 o.table o.place (Some step.0) half.reached step.2) reads
      (λ none. member_refused w w max laws.kept (itself w) s0 s s1 o m worth kind half.kept step none)
      (λ none. member_refused w u max laws.lifted laws.below s0 s s1 o m worth kind half.lifted step none)
      (λ lies there. inside_member lies w w max s0 s s1 s2 o m in_structure worth half.kept step there)
      (to_child w u tells_without_limits max laws s0 s s1 o.table m.shapes.now o.place m.place in_structure worth (Some step.0) half step.2 told.0 (ap (place_in (kind_at o)) step.3 ∙ told.1) (λ sparse. absurd (not_both _ kind sparse)) variant)

  -- where a key names no member, no value is due
  unknown_agrees : (o : Site) (s0 s s1 : Cursor) (worth : List Child → Option Value) → HasMembers (kind_at o) → HalfRead w u tells_without_limits max s0 s o.table o.place in_structure worth → MatchStep Unknown w s s1 o
      → AgreesInside w s0 s1 o.table o.place
  unknown_agrees o s0 s s1 worth kind half step =
      agrees_behind w s0 s1 o.table o.place (one_deeper w w max s0 s s1 o.table o.place in_structure worth half.kept (Some step.0) step.1)
      (as_unknown o.place s0.at half.came.any (Some step.0) at_once (goes_on w w max s0 s s1 o.table o.place in_structure worth half.kept (Some step.0) step.1 half.came) kind step.2)

  -- ---- structures

  pub structure_entered : {A : Type 0} (o : Site) (s0 s : Cursor) (x : A) → IsStructure (kind_at o) → Conducts {A = A} s0 s (Ok x) → Enters w max s0 s o.table o.place in_structure
      → HalfRead w u tells_without_limits max s0 s o.table o.place in_structure (structure_value no_member_values)
  structure_entered {A} o s0 s x kind conduct enters = record {
    kept = begin_structure w w max laws.kept laws.kept (itself w) s0 s o.table o.place kind enters;
    lifted = begin_structure w u max laws.kept laws.lifted laws.below s0 s o.table o.place kind enters;
    reached = entered w u tells_without_limits max laws {A = A} s0 s o.table o.place in_structure x conduct enters;
    came = none_came w max s0 s o.table o.place in_structure enters;
  }

  pub member_passed : (o : Site) (m : Schema) (s0 s s1 s2 : Cursor) (fs : MemberValues) (n : ℕ) (v : Value)
      → HalfRead w u tells_without_limits max s0 s o.table o.place in_structure (structure_value fs) → MatchStep (ToMember m) w s s1 o → (site_of m).view.index ≡ Some n → Reads w s1 s2 m.shapes.now m.place v
      → HalfRead w u tells_without_limits max s0 s2 o.table o.place in_structure (structure_value (put_member n v fs))
  member_passed o m s0 s s1 s2 fs n v half step index reads =
      child_passed w u tells_without_limits max laws s0 s s1 s2 o.table o.place in_structure (structure_value fs) (Some step.0) (child_value (Some step.0) (Some n) v) half step.2
      (member_child w s s1 o m n v s2.at step index reads.stands) reads.passes
      (λ strict. value_counted w (laws.counts strict) s1 s2 m.shapes.now m.place v reads)

  pub unknown_passed : (o : Site) (s0 s s1 s2 : Cursor) (fs : MemberValues) → IsStructure (kind_at o)
      → HalfRead w u tells_without_limits max s0 s o.table o.place in_structure (structure_value fs) → MatchStep Unknown w s s1 o → w.skips s1.input (depth s1) s1.at s2.at → Passes s1 s2
      → HalfRead w u tells_without_limits max s0 s2 o.table o.place in_structure (structure_value fs)
  unknown_passed o s0 s s1 s2 fs kind half step skips passes =
      child_passed w u tells_without_limits max laws s0 s s1 s2 o.table o.place in_structure (structure_value fs) (Some step.0) (child_unknown (Some step.0)) half step.1
      (refl, kind, step.2, skips) passes
      (λ strict. skip_counted w (laws.counts strict) s1 s2 skips passes)

  -- an unknown entry can't be skipped
  pub unknown_fails : {A B : Type 0} (view : B → Value) (o : Site) (s0 s s1 s2 : Cursor) (fs : MemberValues) (e : SerdeError) → IsStructure (kind_at o)
      → HalfRead w u tells_without_limits max s0 s o.table o.place in_structure (structure_value fs) → MatchStep Unknown w s s1 o
      → Conducts {A = A} s1 s2 (Err e) → RefusesNoKind {A = A} (Err e) → (IsErrOf {T = A} {E = SerdeError} (Err e) TooDeep → ReachesDepth w max s1) → (IsErrOf {T = A} {E = SerdeError} (Err e) TooDeep → w.limits_skips ≡ true)
      → (IsFault e → s1.due ≡ true → SkipsNot w s1) → (tells_without_limits → IsInvalid {A = A} (Err e) → s1.due ≡ true → SkipsNot u s1)
      → ReadsValue {A = B} w u tells_without_limits max s0 s2 o view (Err e)
  unknown_fails {A} {B} view o s0 s s1 s2 fs e kind half step conduct narrow deep limited refused none_without_limits =
      call_fails w u tells_without_limits max {A = A} {B = B} view o s0 s1 s2 e
      (stepped_to w u tells_without_limits laws s0 s s1 o.table o.place (Some step.0) half.reached step.1) conduct narrow (λ due. unknown_agrees o s0 s s1 (structure_value fs) (structure_has_members _ kind) half step) deep limited
      (λ fault. unknown_refused w w max laws.kept (itself w) s0 s s1 o fs kind half.kept step (refused fault step.1.due))
      (λ strict invalid. unknown_refused w u max laws.lifted laws.below s0 s s1 o fs kind half.lifted step (none_without_limits strict invalid step.1.due))

  -- ---- unions

  abbrev pub union_entered : {A : Type 0} (o : Site) (s0 s : Cursor) (x : A) → IsUnion (kind_at o) → Conducts {A = A} s0 s (Ok x) → Enters w max s0 s o.table o.place in_structure
      → HalfRead w u tells_without_limits max s0 s o.table o.place in_structure (union_value None)
  union_entered {A} o s0 s x kind conduct enters = record {
    kept = begin_union w w max laws.kept laws.kept (itself w) s0 s o.table o.place kind enters;
    lifted = begin_union w u max laws.kept laws.lifted laws.below s0 s o.table o.place kind enters;
    reached = entered w u tells_without_limits max laws {A = A} s0 s o.table o.place in_structure x conduct enters;
    came = none_came w max s0 s o.table o.place in_structure enters;
  }

  abbrev pub variant_passed : (o : Site) (m : Schema) (s0 s s1 s2 : Cursor) (n : ℕ) (v : Value)
      → HalfRead w u tells_without_limits max s0 s o.table o.place in_structure (union_value None) → MatchStep (ToMember m) w s s1 o → (site_of m).view.index ≡ Some n → Reads w s1 s2 m.shapes.now m.place v
      → HalfRead w u tells_without_limits max s0 s2 o.table o.place in_structure (union_value (Some (union n v)))
  variant_passed o m s0 s s1 s2 n v half step index reads =
      child_passed w u tells_without_limits max laws s0 s s1 s2 o.table o.place in_structure (union_value None) (Some step.0) (child_value (Some step.0) (Some n) v) half step.2
      (member_child w s s1 o m n v s2.at step index reads.stands) reads.passes
      (λ strict. value_counted w (laws.counts strict) s1 s2 m.shapes.now m.place v reads)

  -- whatever a step went to, the reader is behind it
  went_to : (o : Site) (s0 s s1 : Cursor) (step : Step) → Reached w tells_without_limits s0 s → MatchStep step w s s1 o → Reached w tells_without_limits s0 s1
  went_to o s0 s s1 step reached told = record {
    input = step_input w s s1 o step told ∙ reached.input;
    fresh = reached.fresh;
    going = step_going w s s1 o step told;
    counted = λ strict before. member_counted w (laws.counts strict) step s s1 o told (reached.counted strict before);
  }

  -- where the first step goes to no member, no value is due
  first_agrees : (o : Site) (s0 s s1 : Cursor) (step : Step) → ((m : Schema) → step ≡ ToMember m → ⊥) → IsUnion (kind_at o) → HalfRead w u tells_without_limits max s0 s o.table o.place in_structure (union_value None) → MatchStep step w s s1 o
      → s1.due ≡ true → AgreesInside w s0 s1 o.table o.place
  first_agrees o s0 s s1 (ToMember m) other kind half told due = absurd (other m refl)
  first_agrees o s0 s s1 Unknown other kind half told due = unknown_agrees o s0 s s1 (union_value None) (union_has_members _ kind) half told
  first_agrees o s0 s s1 End other kind half told due = absurd (not_due s1 told.due due)

  -- nor at a second entry
  second_here : (o : Site) (s0 s s1 : Cursor) (worth : List Child → Option Value) (key : Option (List ℕ)) → IsUnion (kind_at o) → (half : HalfRead w u tells_without_limits max s0 s o.table o.place in_structure worth) → half.came.any ≡ true
      → Steps w s s1 o.table o.place key → AgreesInside w s0 s1 o.table o.place
  second_here o s0 s s1 worth key kind half came steps =
      agrees_behind w s0 s1 o.table o.place (one_deeper w w max s0 s s1 o.table o.place in_structure worth half.kept key steps)
      (as_second o.place s0.at key at_once (subst (λ any. GoesOnAt w s0.input o.table o.place (depth s0) s0.at any key s1.at) came (goes_on w w max s0 s s1 o.table o.place in_structure worth half.kept key steps half.came)) kind)

  second_agrees : (o : Site) (s0 s s1 : Cursor) (worth : List Child → Option Value) (step : Step) → (step ≡ End → ⊥) → IsUnion (kind_at o) → (half : HalfRead w u tells_without_limits max s0 s o.table o.place in_structure worth) → half.came.any ≡ true
      → MatchStep step w s s1 o → AgreesInside w s0 s1 o.table o.place
  second_agrees o s0 s s1 worth (ToMember m) other kind half came told = second_here o s0 s s1 worth (Some told.0) kind half came told.2
  second_agrees o s0 s s1 worth Unknown other kind half came told = second_here o s0 s s1 worth (Some told.0) kind half came told.1
  second_agrees o s0 s s1 worth End other kind half came told = absurd (other refl)

  -- the first step goes to no member
  pub no_variant_fails : {B : Type 0} (view : B → Value) (o : Site) (s0 s s1 s2 : Cursor) (step : Step) → ((m : Schema) → step ≡ ToMember m → ⊥) → IsUnion (kind_at o)
      → HalfRead w u tells_without_limits max s0 s o.table o.place in_structure (union_value None) → MatchStep step w s s1 o → s2 ≡ failed_at s1
      → ReadsValue {A = B} w u tells_without_limits max s0 s2 o view (Err InvalidInput)
  no_variant_fails {B} view o s0 s s1 s2 step other kind half told stays =
      made_to_fail w u tells_without_limits max {B = B} view o s0 s1 s2 (went_to o s0 s s1 step half.reached told) stays (first_agrees o s0 s s1 step other kind half told)
      (no_first w w max laws.kept (itself w) s0 s s1 o step other kind half.kept told)
      (no_first w u max laws.lifted laws.below s0 s s1 o step other kind half.lifted told)

  -- the second goes on
  pub second_variant_fails : {B : Type 0} (view : B → Value) (o : Site) (s0 s s1 s2 : Cursor) (first : Value) (step : Step) → (step ≡ End → ⊥) → IsUnion (kind_at o)
      → (half : HalfRead w u tells_without_limits max s0 s o.table o.place in_structure (union_value (Some first))) → half.came.any ≡ true → MatchStep step w s s1 o → s2 ≡ failed_at s1
      → ReadsValue {A = B} w u tells_without_limits max s0 s2 o view (Err InvalidInput)
  second_variant_fails {B} view o s0 s s1 s2 first step other kind half came told stays =
      made_to_fail w u tells_without_limits max {B = B} view o s0 s1 s2 (went_to o s0 s s1 step half.reached told) stays (λ due. second_agrees o s0 s s1 (union_value (Some first)) step other kind half came told)
      (no_end w w max laws.kept (itself w) s0 s s1 o first step other kind half.kept told)
      (no_end w u max laws.lifted laws.below s0 s s1 o first step other kind half.lifted told)
