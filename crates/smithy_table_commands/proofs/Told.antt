-- Texts that are written one after the other.
use Rattle.std.proofs.Common.{◌≡◌, ◌<◌, ◌≤◌, ◌+◌, ◌∙◌, ℕ, suc, List, [], ◌∷◌, ◌++◌, Result, IsErrAnd, length, map, take, drop, take_all, get_or, refl, sym, ap, subst, append-nil}
use Rattle.std.specs.Prelude.{flat_map}
use Rattle.std.proofs.lemmas.List.{take_more, take-append-drop}
use Rattle.std.proofs.lemmas.Grind.{flat_map-append}
use Rattle.std.proofs.Math.Seq.{drop-cons}
use Rattle.smithy_outside.specs.Outside.{Shown, MetOneFault, MetNoFault, Took, TookPrefix, IsWritten}
use Rattle.smithy_outside.proofs.Moved.{took_more}
use Rattle.smithy_outside.proofs.Written.{written_more, cut_short}

-- what was taken whole
abbrev pub TookWhole : List ℕ → Shown → Shown → Type 0
TookWhole bytes old new = MetNoFault old new × Took bytes old new

pub took_none : (s : Shown) → TookWhole [] s s
took_none s = ((refl, refl), λ after shows. (after, shows, sym (append-nil after)))

-- one more text
pub one_more : {W : Type 0} (f : W → List ℕ) (ws : List W) (i : ℕ) (d : W) → i < length ws → (a b c : Shown) → TookWhole (flat_map f (take i ws)) a b
    → TookWhole (f (get_or ws i d)) b c → TookWhole (flat_map f (take (i + 1) ws)) a c
one_more f ws i d within a b c so_far one = (
  (one.0.0 ∙ so_far.0.0, one.0.1 ∙ so_far.0.1),
  rw (take_more ws i d within, flat_map-append f (take i ws) (get_or ws i d ∷ []), append-nil (f (get_or ws i d)))
      (took_more (flat_map f (take i ws)) (f (get_or ws i d)) a b c so_far.1 one.1),
)

-- a text that was cut short
pub one_failed : {W T E : Type 0} (f : W → List ℕ) (ws : List W) (i : ℕ) (d : W) (Q : E → Type 0) (r : Result T E) → i < length ws → (a b c : Shown)
    → TookWhole (flat_map f (take i ws)) a b → IsErrAnd r Q → MetOneFault b c → TookPrefix (f (get_or ws i d)) b c → IsWritten (flat_map f ws) r a c
one_failed f ws i d Q r within a b c so_far failed fault front =
    subst (λ xs. IsWritten (flat_map f xs) r a c) (take-append-drop i ws)
    (rw (flat_map-append f (take i ws) (drop i ws))
    (written_more (flat_map f (take i ws)) (flat_map f (drop i ws)) r a b c so_far.0 so_far.1
    (rw (drop-cons ws i d within) (cut_short Q (f (get_or ws i d)) (flat_map f (drop (suc i) ws)) r b c failed fault front))))

-- all of them
pub all_told : {W : Type 0} (f : W → List ℕ) (ws : List W) (i : ℕ) → length ws ≤ i → (a b : Shown) → TookWhole (flat_map f (take i ws)) a b
    → TookWhole (flat_map f ws) a b
all_told f ws i all a b so_far = subst (λ xs. TookWhole (flat_map f xs) a b) (take_all i ws all) so_far

pub over_map : {W X : Type 0} (f : X → List ℕ) (v : W → X) (ws : List W) → flat_map (λ w. f (v w)) ws ≡ flat_map f (map v ws)
over_map f v [] = refl
over_map f v (w ∷ ws) = ap (λ xs. f (v w) ++ xs) (over_map f v ws)
