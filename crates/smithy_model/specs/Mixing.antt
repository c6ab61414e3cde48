-- Shapes whose mixins are taken in one after the other.
use Rattle.std.specs.Prelude.{◌≡◌, ◌⊎◌, ◌≤◌, ℕ, ◌+◌, List, [], ◌∷◌, length, MatchBool, Bool, true, false, Some, Result, OnOk, IfErr, if◌then◌else◌, slice_get}
use Rattle.std.specs.List.{AllZip}
use Rattle.smithy_model.specs.Model.{Shape}
use Rattle.smithy_model.specs.declared.fault.ModelFault.{ModelFault}
use Rattle.smithy_model.specs.declared.fault.ModelFault.TheVariants as faults
use Rattle.smithy_model.specs.Mixins.{takes_mixins, gathered, IsMixed, LeadsOn, uses_of, MissesMixin, is_done, IsDone, Disagrees}

-- the shape of this number, which was this one, has its mixins, or stays as it was
abbrev pub IsHalfMixed : List Shape → List Bool → ℕ → Shape → Type 0
IsHalfMixed shapes done number own =
    (s : Shape) × (slice_get shapes number ≡ Some s)
    × MatchBool (is_done done number) (IsMixed (IsDone shapes done) own s) ((s ≡ own) × (takes_mixins own ≡ true))

-- what was taken in so far
pub record AreHalfMixed (own shapes : List Shape) (done : List Bool) : Type 0 where
  pub long : length shapes ≡ length own
  pub marked : length done ≡ length shapes
  pub each : (number : ℕ) (o : Shape) → slice_get own number ≡ Some o → IsHalfMixed shapes done number o
  pub free : (ids : List ℕ → Bool) → LeadsOn own ids → (number : ℕ) (o : Shape) → slice_get own number ≡ Some o
      → is_done done number ≡ true → ids o.id ≡ false

-- a shape of this id waits for its mixins
abbrev pub IsWaiting : List Shape → List Bool → List ℕ → Type 0
IsWaiting shapes done id =
    (number : ℕ) × (s : Shape) × (slice_get shapes number ≡ Some s) × (is_done done number ≡ false) × (s.id ≡ id)

-- the shape takes in one that waits
abbrev pub IsHeldUp : List Shape → List Bool → Shape → Type 0
IsHeldUp shapes done s =
    (place : ℕ) × (id : List ℕ) × (slice_get s.mixins place ≡ Some id) × IsWaiting shapes done id

-- the shape of this number doesn't wait, or takes in one that waits
abbrev pub IsSettledAt : List Shape → List Bool → ℕ → Type 0
IsSettledAt shapes done number =
    length done ≡ length shapes → (s : Shape) → slice_get shapes number ≡ Some s → is_done done number ≡ false → IsHeldUp shapes done s

-- whatever the shapes were at first, what was taken in so far stays
abbrev pub TakesIn : (old new : List Shape) → (before behind : List Bool) → Type 0
TakesIn old new before behind = (own : List Shape) → AreHalfMixed own old before → AreHalfMixed own new behind

-- how many shapes wait
abbrev pub count_of_waiting : List Bool → ℕ
count_of_waiting [] = 0
count_of_waiting (d ∷ done) = (if d then 0 else 1) + count_of_waiting done

-- Shapes whose mixins were taken in one after the other; the order grew by no more than there were of these.
pub record TakesInMore (old : List Shape) (before : List Bool) (order : List ℕ) (new : List Shape) (behind : List Bool) (new_order : List ℕ) : Type 0 where
  pub mixed : TakesIn old new before behind
  pub uses : uses_of new ≡ uses_of old
  pub fit : count_of_waiting behind + length new_order ≤ count_of_waiting before + length order

-- the mixins of this shape are done, and its members and theirs don't agree
abbrev pub IsAtOdds : List Shape → List Bool → Shape → List ℕ → Type 0
IsAtOdds shapes done s id =
    (mixins : List Shape) × AllZip (IsDone shapes done) s.mixins mixins × ((gathered s mixins).agrees ≡ false) × (s.id ≡ id)

-- why the mixins of one shape aren't taken in
abbrev pub RefusesOne : List Shape → List Bool → Shape → ModelFault → Type 0
RefusesOne shapes done s (faults.BadMixin id) = MissesMixin (uses_of shapes) id.now ⊎ IsAtOdds shapes done s id.now
RefusesOne shapes done s faults.NoMemory = Unit {0}
RefusesOne shapes done s _ = ⊥

-- why mixins aren't taken in, before all are looked at: whatever the shapes were at first
abbrev pub RefusesHere : List Shape → List Bool → ModelFault → Type 0
RefusesHere shapes done (faults.BadMixin id) =
    MissesMixin (uses_of shapes) id.now ⊎ ((own : List Shape) → AreHalfMixed own shapes done → Disagrees own id.now)
RefusesHere shapes done faults.NoMemory = Unit {0}
RefusesHere shapes done _ = ⊥

-- Mixins were taken in, one shape after the other, and ids and the mixins of each stayed; or one shape refuses.
pub record TakesMixins {A : Type 0} (old new : List Shape) (before behind : List Bool) (result : Result A ModelFault) : Type 0 where
  pub mixed : OnOk result (TakesIn old new before behind)
  pub uses : OnOk result (uses_of new ≡ uses_of old)
  pub refused : IfErr result (RefusesHere old before)
