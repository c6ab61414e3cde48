-- How a container goes on is determined, entry by entry, and where it goes on it doesn't end.
use Rattle.std.specs.Prelude.{◌≡◌, ◌≤◌, ℕ, suc, drop, List, Option, Some, None, Bool, true, false}
use Rattle.std.proofs.Common.{sym, ◌∙◌, ap, arith, inl, inr}
use Rattle.smithy_schema.specs.Reading.{Mark}
use Rattle.smithy_shapes.specs.Lemmas.Options.{same_some}
use Rattle.cbor_item.specs.WellFormed.{break}
use Rattle.smithy_cbor_values.specs.Standing.{begins_with, mark_with, HasEntry, IsOver}

-- ---- one entry, or the end

-- how many are due, if it is told, is determined
pub no_due : (due : Option ℕ) (count : ℕ) → due ≡ Some count → due ≡ None → ⊥
no_due due count h k = cc

pub same_due : (due : Option ℕ) (n k : ℕ) → due ≡ Some n → due ≡ Some k → n ≡ k
same_due due n k h j = same_some n k (sym h ∙ j)

-- what comes next is determined
pub same_entry : (i : List ℕ) (b : ℕ) (m n n' : Mark) → HasEntry i b m n → HasEntry i b m n' → n ≡ n'
same_entry i b m n n' (some, inl h) (left, inl k) =
    let same : suc h.0 ≡ suc k.0 = same_due m.due (suc h.0) (suc k.0) h.1 k.1 in
    let count : h.0 ≡ k.0 = omega (arith, same) in
    h.2 ∙ ap (λ x. mark_with (Some x)) count ∙ sym k.2
same_entry i b m n n' (some, inl h) (left, inr k) = absurd (no_due m.due (suc h.0) h.1 k.0)
same_entry i b m n n' (some, inr h) (left, inl k) = absurd (no_due m.due (suc k.0) k.1 h.0)
same_entry i b m n n' (some, inr h) (left, inr k) = h.2 ∙ sym k.2

pub same_over : (i : List ℕ) (b : ℕ) (m : Mark) (e f : ℕ) → IsOver i b m e → IsOver i b m f → e ≡ f
same_over i b m e f (inl h) (inl k) = h.1 ∙ sym k.1
same_over i b m e f (inl h) (inr k) = absurd (no_due m.due 0 h.0 k.0)
same_over i b m e f (inr h) (inl k) = absurd (no_due m.due 0 k.0 h.0)
same_over i b m e f (inr h) (inr k) = h.2 ∙ sym k.2

not_both : (b : Bool) → b ≡ false → b ≡ true → ⊥
not_both b h k = cc

-- an entry and the end exclude one another
pub entry_or_over : (i : List ℕ) (b : ℕ) (m n : Mark) (e : ℕ) → HasEntry i b m n → IsOver i b m e → ⊥
entry_or_over i b m n e (some, inl h) (inl k) =
    let same : suc h.0 ≡ 0 = same_due m.due (suc h.0) 0 h.1 k.0 in omega (arith, same)
entry_or_over i b m n e (some, inl h) (inr k) = no_due m.due (suc h.0) h.1 k.0
entry_or_over i b m n e (some, inr h) (inl k) = no_due m.due 0 k.0 h.0
entry_or_over i b m n e (some, inr h) (inr k) = not_both (begins_with break (drop b i)) h.1 k.1

-- an end is not before its start
pub over_ahead : (i : List ℕ) (b : ℕ) (m : Mark) (e : ℕ) → IsOver i b m e → (b ≤ e) × (e ≤ suc b)
over_ahead i b m e (inl h) = (omega (arith, h.1), omega (arith, h.1))
over_ahead i b m e (inr h) = (omega (arith, h.2), omega (arith, h.2))
