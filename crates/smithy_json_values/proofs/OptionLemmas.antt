-- What an answer says, said in other words.
use Rattle.std.proofs.Common.{◌≡◌, Bool, true, false, IfSome, IfNone, refl}
use Rattle.std.specs.Bool.{then_some}

-- an answer that is given where a test holds
pub some_where : {A : Type 0} (test : Bool) (x : A) (P : A → Type 0) → (test ≡ true → P x) → IfSome (then_some test x) P
some_where true x P h = h refl
some_where false x P h = tt

pub none_where : {A : Type 0} (test : Bool) (x : A) (P : Type 0) → (test ≡ false → P) → IfNone (then_some test x) P
none_where true x P h = tt
none_where false x P h = h refl
