-- What is said of an answer, said of it otherwise.
use Rattle.std.proofs.Common.{Result, Ok, Err}
use Rattle.std.specs.Result.{IfOk, IfErr}

pub mapped_ok : {A E : Type 0} (r : Result A E) (P Q : A → Type 0) → ((x : A) → P x → Q x) → IfOk r P → IfOk r Q
mapped_ok (Ok x) P Q f h = f x h
mapped_ok (Err e) P Q f h = tt

pub mapped_err : {A E : Type 0} (r : Result A E) (P Q : E → Type 0) → ((x : E) → P x → Q x) → IfErr r P → IfErr r Q
mapped_err (Ok x) P Q f h = tt
mapped_err (Err e) P Q f h = f e h
