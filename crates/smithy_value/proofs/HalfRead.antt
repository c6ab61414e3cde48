-- A container that is half read, of any kind, in both readings: how it goes on, and what its reading answers.
use Rattle.std.proofs.Common.{◌≡◌, ℕ, List, [], ◌∷◌, Option, Some, true, false, Result, Ok, Err, IfOk, IfErr, IsErrOf, sym, ◌∙◌, ap}
use Rattle.smithy_declarations.specs.declared.place.Place.{Place}
use Rattle.smithy_schema.specs.declared.error.SerdeError.{SerdeError}
use Rattle.smithy_schema.specs.declared.error.SerdeError.TheVariants.{TooDeep, NoMemory}
use Rattle.smithy_declarations.specs.Table.{Table, kind_of, place_in, IsSparse, IsUnion}
use Rattle.smithy_shapes.specs.Site.{Site}
use Rattle.smithy_declarations.specs.Value.{Value}
use Rattle.smithy_schema.specs.Errors.{RefusesNoKind, IsFault, IsInvalid}
use Rattle.smithy_schema.specs.Reading.{Cursor, ContainerKind, Relations, Child, depth, IsCounted, Conducts, Enters, Steps, Leaves, Passes, CannotGoOn, ReachesDepth, IsChild, named}
use Rattle.smithy_schema.proofs.CountLemmas.{entry_counted, step_counted}
use Rattle.smithy_value.specs.ReadValue.{ReadsValue}
use Rattle.smithy_schema.proofs.ReadContainers.{InContainer, child_read, itself, end, stuck}
use Rattle.smithy_value.proofs.ReadTypes.{CameTo, ToChild, one_came, one_deeper, goes_on}
use Rattle.smithy_value.proofs.ReadAnswers.{ObeysLaws, Reached, not_failed, call_fails, tree_made}

-- by the relations w and with the limits lifted, the container at s0 is read up to s
pub record HalfRead (w u : Relations) (tells_without_limits : Type 0) (max : ℕ) (s0 s : Cursor) (t : Table) (p : Place) (k : ContainerKind) (worth : List Child → Option Value) : Type 0 where
  pub kept : InContainer w w max s0 s t p k worth
  pub lifted : InContainer w u max s0 s t p k worth
  pub reached : Reached w tells_without_limits s0 s
  pub came : CameTo w s0 s t p

pub had_not : (s : Cursor) → s.failed ≡ false → s.failed ≡ true → ⊥
had_not s none failed = let both : true ≡ false = sym failed ∙ none in cc

pub not_due : (s : Cursor) → s.due ≡ false → s.due ≡ true → ⊥
not_due s none due = let both : true ≡ false = sym due ∙ none in cc

module _ (w u : Relations) (tells_without_limits : Type 0) (laws : ObeysLaws w u tells_without_limits) where
  -- a step was taken
  pub stepped_to : (s0 s s1 : Cursor) (t : Table) (p : Place) (key : Option (List ℕ)) → Reached w tells_without_limits s0 s → Steps w s s1 t p key → Reached w tells_without_limits s0 s1
  stepped_to s0 s s1 t p key reached steps = record {
    input = steps.input ∙ reached.input;
    fresh = reached.fresh;
    going = had_not s1 steps.failed;
    counted = λ strict before. step_counted w (laws.counts strict) s s1 t p key steps (reached.counted strict before);
  }

  -- what was due is passed
  pub passed_by : (s0 s1 s2 : Cursor) → Reached w tells_without_limits s0 s1 → Passes s1 s2 → (tells_without_limits → IsCounted w s1 → IsCounted w s2) → Reached w tells_without_limits s0 s2
  passed_by s0 s1 s2 reached passes counted = record {
    input = passes.input ∙ reached.input;
    fresh = reached.fresh;
    going = had_not s2 passes.failed;
    counted = λ strict before. counted strict (reached.counted strict before);
  }

module _ (w u : Relations) (tells_without_limits : Type 0) (max : ℕ) (laws : ObeysLaws w u tells_without_limits) where
  -- a container was entered
  pub entered : {A : Type 0} (s0 s : Cursor) (t : Table) (p : Place) (k : ContainerKind) (x : A) → Conducts {A = A} s0 s (Ok x) → Enters w max s0 s t p k → Reached w tells_without_limits s0 s
  entered {A} s0 s t p k x conduct enters = record {
    input = enters.input;
    fresh = not_failed {A = A} s0 s x conduct;
    going = had_not s enters.failed;
    counted = λ strict. entry_counted w (laws.counts strict) max s0 s t p k enters;
  }

  -- a value was read
  pub value_passed : {A : Type 0} (inner : A → Value) (child : Site) (s0 s1 s2 : Cursor) (x : A) → Reached w tells_without_limits s0 s1 → ReadsValue {A = A} w u tells_without_limits max s1 s2 child inner (Ok x) → Reached w tells_without_limits s0 s2
  value_passed {A} inner child s0 s1 s2 x reached reads = record {
    input = reads.input ∙ reached.input;
    fresh = reached.fresh;
    going = had_not s2 reads.ok.passes.failed;
    counted = λ strict before. reads.counted strict (reached.counted strict before);
  }

  -- a child was read
  abbrev pub child_passed : (s0 s s1 s2 : Cursor) (t : Table) (p : Place) (k : ContainerKind) (worth : List Child → Option Value) (key : Option (List ℕ)) (x : Child)
      → HalfRead w u tells_without_limits max s0 s t p k worth → Steps w s s1 t p key → IsChild w s1.input t p (depth s1) key x s1.at s2.at → Passes s1 s2
      → (tells_without_limits → IsCounted w s1 → IsCounted w s2)
      → HalfRead w u tells_without_limits max s0 s2 t p k (λ xs. worth (x ∷ xs))
  child_passed s0 s s1 s2 t p k worth key x half steps child passes counted = record {
    kept = child_read w w max laws.kept (itself w) s0 s s1 s2 t p k worth key x half.kept steps child passes;
    lifted = child_read w u max laws.lifted laws.below s0 s s1 s2 t p k worth key x half.lifted steps child passes;
    reached = passed_by w u tells_without_limits laws s0 s1 s2 (stepped_to w u tells_without_limits laws s0 s s1 t p key half.reached steps) passes counted;
    came = one_came w w max s0 s s1 t p k worth half.kept key steps s2 x half.came child passes;
  }

  -- behind a step a child is due
  pub to_child : (s0 s s1 : Cursor) (t v : Table) (p r : Place) (k : ContainerKind) (worth : List Child → Option Value) (key : Option (List ℕ)) (half : HalfRead w u tells_without_limits max s0 s t p k worth) → Steps w s s1 t p key
      → v ≡ t → place_in (kind_of t p) (named w t p key) ≡ Some r → (IsSparse (kind_of t p) → w.begins_null s1.input s1.at ≡ false) → (IsUnion (kind_of t p) → half.came.any ≡ false)
      → ToChild w s0 s1 t v p r
  to_child s0 s s1 t v p r k worth key half steps table place value variant = record {
    input = steps.input ∙ half.kept.input;
    table = table;
    level = one_deeper w w max s0 s s1 t p k worth half.kept key steps;
    any = half.came.any;
    key = key;
    goes = goes_on w w max s0 s s1 t p k worth half.kept key steps half.came;
    place = place;
    value = λ sparse. ap (λ i. w.begins_null i s1.at) (sym (steps.input ∙ half.kept.input)) ∙ value sparse;
    variant = variant;
  }

  -- neither another child nor the end comes
  pub goes_no_further : {A B : Type 0} (view : B → Value) (site : Site) (s0 s s1 : Cursor) (k : ContainerKind) (worth : List Child → Option Value) (e : SerdeError)
      → HalfRead w u tells_without_limits max s0 s site.table site.place k worth
      → Conducts {A = A} s s1 (Err e) → RefusesNoKind {A = A} (Err e) → (IsErrOf {T = A} {E = SerdeError} (Err e) TooDeep → ReachesDepth w max s) → (IsErrOf {T = A} {E = SerdeError} (Err e) TooDeep → w.limits_skips ≡ true)
      → (IsFault e → s.due ≡ false → CannotGoOn w s site.table site.place)
      → (tells_without_limits → IsInvalid {A = A} (Err e) → s.due ≡ false → CannotGoOn u s site.table site.place)
      → ReadsValue {A = B} w u tells_without_limits max s0 s1 site view (Err e)
  goes_no_further {A} {B} view site s0 s s1 k worth e half conduct narrow deep limited refused none_without_limits =
      call_fails w u tells_without_limits max {A = A} {B = B} view site s0 s s1 e half.reached conduct narrow (λ due. absurd (not_due s half.kept.due due)) deep limited
      (λ fault. stuck w w max s0 s site.table site.place k worth half.kept (refused fault half.kept.due))
      (λ strict invalid. stuck w u max s0 s site.table site.place k worth half.lifted (none_without_limits strict invalid half.kept.due))

  -- the container ends, and a tree is made of it
  pub ends_whole : {B : Type 0} (view : B → Value) (site : Site) (s0 s s1 : Cursor) (k : ContainerKind) (worth : List Child → Option Value) (v : Value) (result : Result B SerdeError)
      → HalfRead w u tells_without_limits max s0 s site.table site.place k worth → Leaves w s s1 site.table site.place → worth [] ≡ Some v
      → IfOk result (λ x. view x ≡ v) → IfErr result (λ e. e ≡ NoMemory)
      → ReadsValue {A = B} w u tells_without_limits max s0 s1 site view result
  ends_whole {B} view site s0 s s1 k worth v result half leaves folds made err =
      tree_made w u tells_without_limits max {B = B} view site s0 s1 v result laws.counts half.reached.fresh
      (end w w max s0 s s1 site.table site.place k worth v half.kept leaves folds) made err
