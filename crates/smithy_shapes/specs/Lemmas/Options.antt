-- What is known of the parts where an optional value is there.
use Rattle.std.specs.Prelude.{◌≡◌, Option, Some, None, Bool, true, false, cond, refl, option_and_then, option_map}

-- `Some` is injective
pub same_some : {A : Type 0} (a b : A) → Some a ≡ Some b → a ≡ b
same_some a b h = cc

-- two steps that give something, taken apart
pub step_apart : {A B : Type 0} (o : Option A) (f : A → Option B) (us : B) → option_and_then f o ≡ Some us
    → (v : A) × (o ≡ Some v) × (f v ≡ Some us)
step_apart (Some v) f us h = (v, refl, h)
step_apart None f us h = cc

-- a choice that gives something
pub chosen : {A : Type 0} (b : Bool) (x : Option A) (v : A) → cond b x None ≡ Some v → (b ≡ true) × (x ≡ Some v)
chosen true x v h = (refl, h)
chosen false x v h = cc

-- a map that gives something
pub made : {A B : Type 0} (f : A → B) (o : Option A) (v : B) → option_map f o ≡ Some v → (u : A) × (o ≡ Some u) × (f u ≡ v)
made f (Some u) v h = (u, refl, same_some _ _ h)
made f None v h = cc
