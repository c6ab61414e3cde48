-- Bytes that were written part by part.
use Rattle.std.proofs.Common.{◌∙◌, ℕ, List, [], ◌++◌, Result, Ok, Err, IsErrAnd, ap, sym, subst, append_assoc, append-nil}
use Rattle.smithy_outside.specs.Outside.{Shown, IsCounted, MetOneFault, MetNoFault, Took, Begins, TookPrefix, IsWritten}
use Rattle.smithy_outside.proofs.Moved.{took_more}
use Rattle.smithy_outside.proofs.Faults.{no_fault_after, fault_after}

begins_behind : (xs ys front : List ℕ) → Begins front ys → Begins (xs ++ front) (xs ++ ys)
begins_behind xs ys front b = (b.0, ap (λ zs. xs ++ zs) b.1 ∙ sym (append_assoc xs front b.0))

begins_before : (xs ys front : List ℕ) → Begins front xs → Begins front (xs ++ ys)
begins_before xs ys front b = (b.0 ++ ys, ap (λ zs. zs ++ ys) b.1 ∙ append_assoc front b.0 ys)

-- behind what was taken whole
pub written_more : {T E : Type 0} (xs ys : List ℕ) (r : Result T E) (a b c : Shown) → MetNoFault a b → Took xs a b → IsWritten ys r b c
    → IsWritten (xs ++ ys) r a c
written_more xs ys (Ok x) a b c no_fault took then = (no_fault_after a b c no_fault then.0, took_more xs ys a b c took then.1)
written_more xs ys (Err e) a b c no_fault took then =
    (fault_after a b c no_fault then.0, (xs ++ then.1.0, begins_behind xs ys then.1.0 then.1.1, took_more xs then.1.0 a b c took then.1.2))

-- what was taken whole, and then passed on
pub written_and_finished : {T E : Type 0} (xs : List ℕ) (r : Result T E) (a b c : Shown) → MetNoFault a b → Took xs a b → Took [] b c → IsCounted r b c
    → IsWritten xs r a c
written_and_finished xs (Ok x) a b c no_fault took more counts =
    (no_fault_after a b c no_fault counts, subst (λ (bytes : List ℕ). Took bytes a c) (append-nil xs) (took_more xs [] a b c took more))
written_and_finished xs (Err e) a b c no_fault took more counts =
    (fault_after a b c no_fault counts, (xs, ([], sym (append-nil xs)), subst (λ (bytes : List ℕ). Took bytes a c) (append-nil xs) (took_more xs [] a b c took more)))

-- what was cut short, whatever was to come behind it
pub cut_short : {T E : Type 0} (Q : E → Type 0) (xs ys : List ℕ) (r : Result T E) (a b : Shown) → IsErrAnd r Q → MetOneFault a b → TookPrefix xs a b → IsWritten (xs ++ ys) r a b
cut_short Q xs ys (Ok x) a b failed fault took = absurd failed
cut_short Q xs ys (Err e) a b failed fault took = (fault, (took.0, begins_before xs ys took.0 took.1, took.2))
