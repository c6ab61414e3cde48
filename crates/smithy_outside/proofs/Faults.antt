-- Counts of faults.
use Rattle.std.proofs.Common.{◌≡◌, ◌<◌, ◌≤◌, ◌+◌, ◌^◌, ◌⊎◌, ◌∙◌, inl, inr, ℕ, min, Result, Ok, Err, leb, true, false, ap, refl, sym, arith}
use Rattle.std.proofs.Math.Nat.{min-eq_left, min-eq_right, le_of_lt}
use Rattle.std.proofs.lemmas.Bool.Decides.{leb_tells}
use Rattle.smithy_outside.specs.declared.outside.LoadFault.{LoadFault}
use Rattle.smithy_outside.specs.declared.outside.LoadFault.TheVariants.{Failed, TooLong, NoMemory}
use Rattle.smithy_outside.specs.Outside.{Shown, last_count, counted, HasFailed, MetOneFault, MetNoFault, IsCountedLoad}
use Rattle.smithy_outside.specs.Os.{only_counts}

rises_or_stays : (n m : ℕ) → m ≡ counted n → ((leb (n + 1) last_count ≡ true) × (n + 1 ≤ last_count)) ⊎ ((leb (n + 1) last_count ≡ false) × (last_count < n + 1))
    → (n < m) ⊎ (m ≡ last_count)
rises_or_stays n m one (inl below) = let rose = one ∙ min-eq_left below.1 in inl (omega (arith, rose))
rises_or_stays n m one (inr above) = inr (one ∙ min-eq_right (le_of_lt above.1))

-- a fault that was counted shows in the count
pub has_failed : (a b : Shown) → MetOneFault a b → HasFailed a b
has_failed a b one = rises_or_stays a.faults b.faults one.0 (leb_tells (a.faults + 1) last_count)

none_added : (n s m : ℕ) → n < 2 ^ 64 → m ≡ min (n + s) last_count → s ≡ 0 → m ≡ n
none_added n s m bound sum none =
    let same : min (n + s) last_count ≡ n + s = min-eq_left (omega (arith, bound, none)) in omega (arith, sum ∙ same, none)

-- the faults of a load, added to those that were there
pub added_faults : {T : Type 0} (r : Result T LoadFault) (n s m : ℕ) → n < 2 ^ 64 → m ≡ min (n + s) last_count
    → IsCountedLoad r (only_counts 0) (only_counts s)
    → IsCountedLoad r (only_counts n) (only_counts m)
added_faults (Ok x) n s m bound sum none = (none_added n s m bound sum none.0, refl)
added_faults (Err Failed) n s m bound sum one = (sum ∙ ap (λ (k : ℕ). min (n + k) last_count) one.0, refl)
added_faults (Err TooLong) n s m bound sum none = (none_added n s m bound sum none.0, refl)
added_faults (Err NoMemory) n s m bound sum none = (none_added n s m bound sum none.0, refl)

-- no fault, and then none
pub no_fault_after : (a b c : Shown) → MetNoFault a b → MetNoFault b c → MetNoFault a c
no_fault_after a b c first then = (then.0 ∙ first.0, then.1 ∙ first.1)

-- no fault, and then one
pub fault_after : (a b c : Shown) → MetNoFault a b → MetOneFault b c → MetOneFault a c
fault_after a b c first then = (then.0 ∙ ap counted first.0, sym first.1 ∙ then.1)

-- a steady object meets no fault
pub steady_meets_none : (a b : Shown) → a.is_steady ≡ true → MetOneFault a b → ⊥
steady_meets_none a b steady one = let unsteady = one.1 in absurd (cc (steady, unsteady))
