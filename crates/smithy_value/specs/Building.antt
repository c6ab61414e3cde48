-- How trees are built in a store that only grows.
use Rattle.std.specs.Prelude.{◌≡◌, ℕ, List}
use Rattle.smithy_declarations.specs.Value.{Value}

-- a tree that was made, by which the store p has become q, and the value that it stands for
pub record IsMade {Store T : Type 0} (keeps : Store → Store → Type 0) (stands : Store → T → Type 0) (view : Store → T → Value) (p q : Store) (v : Value) (x : T) : Type 0 where
  pub grown : keeps p q
  pub here : stands q x
  pub shown : view q x ≡ v

-- a store has grown from itself; growing twice is growing; and a store of an input that grows is one of that input still
pub record KeepsLawfully {Store : Type 0} (sound : Store → List ℕ → Type 0) (keeps : Store → Store → Type 0) : Type 0 where
  pub itself : (p : Store) (i : List ℕ) → sound p i → keeps p p
  pub twice : (p q r : Store) → keeps p q → keeps q r → keeps p r
  pub sound_still : (p q : Store) (i : List ℕ) → sound p i → keeps p q → sound q i

-- a container that is half built since p is as it was, where the store has grown by other trees
pub record GrowsLawfully {Store Half Shown : Type 0} (sound : Store → List ℕ → Type 0) (keeps : Store → Store → Type 0) (begun : Store → Store → Half → Type 0) (view : Store → Half → Shown) : Type 0 where
  pub sound_still : (p q : Store) (i : List ℕ) (h : Half) → sound p i → begun p q h → sound q i
  pub begun_still : (p q r : Store) (h : Half) → begun p q h → keeps q r → begun p r h
  pub shown_still : (p q r : Store) (h : Half) → begun p q h → keeps q r → view r h ≡ view q h
