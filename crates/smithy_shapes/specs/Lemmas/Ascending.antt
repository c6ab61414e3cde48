-- The members that entries set ascend, whatever their order was.
use Rattle.std.specs.Prelude.{◌≡◌, ◌≤◌, ◌<◌, ℕ, suc, List, [], ◌∷◌, Option, Some, None, Bool, true, false, refl, option_and_then}
use Rattle.std.specs.declared.cmp.Ordering.{Ordering}
use Rattle.std.specs.declared.cmp.Ordering.TheVariants.{Less, Equal, Greater}
use Rattle.std.specs.Ordering.{MatchOrdering, nat_cmp, match_ordering}
use Rattle.std.proofs.Common.{arith, subst}
use Rattle.std.proofs.lemmas.Cmp.{ranked}
use Rattle.smithy_declarations.specs.Value.{Value, MemberValues, no_member_values, member_value, put_member}
use Rattle.smithy_shapes.specs.Container.{Entry, member_step, members_from}
use Rattle.smithy_shapes.specs.Fits.{AscendFrom}
use Rattle.smithy_shapes.specs.Lemmas.Entries.{entry_with}

-- members that ascend from one position ascend from each smaller one
ascend_from_less : (least less : ℕ) (ms : MemberValues) → less ≤ least → AscendFrom least ms → AscendFrom less ms
ascend_from_less least less no_member_values h from = tt
ascend_from_less least less (member_value n v ms) h from = let at = from.0 in (omega (arith, h, at), from.1)

placed_ascends : (least n at : ℕ) (v w : Value) (rest more : MemberValues) (order : Ordering) → MatchOrdering order (n < at) (n ≡ at) (at < n)
    → least ≤ n → least ≤ at → AscendFrom (suc at) rest → (at < n → AscendFrom (suc at) more)
    → AscendFrom least (match_ordering order (member_value n v (member_value at w rest)) (member_value at v rest) (member_value at w more))
placed_ascends least n at v w rest more Less is low from rises next = (low, (is, rises))
placed_ascends least n at v w rest more Equal is low from rises next = (from, rises)
placed_ascends least n at v w rest more Greater is low from rises next = (from, next is)

-- members that ascend still do with one more
pub put_ascends : (n : ℕ) (v : Value) (least : ℕ) (ms : MemberValues) → least ≤ n → AscendFrom least ms → AscendFrom least (put_member n v ms)
put_ascends n v least no_member_values low h = (low, tt)
put_ascends n v least (member_value at w rest) low h =
    placed_ascends least n at v w rest (put_member n v rest) (nat_cmp n at) (ranked n at (nat_cmp n at) refl) low h.0 h.1
    (λ above. put_ascends n v (suc at) rest above h.1)

-- an entry by its fields
set_ascends : (key : Option (List ℕ)) (named : Option ℕ) (mean : Option Value) (absent skippable nil : Bool) (fs us : MemberValues)
    → AscendFrom 0 fs
    → member_step (entry_with key named mean absent skippable nil) fs ≡ Some us
    → AscendFrom 0 us
set_ascends None named mean absent skippable nil fs us h set = absurd (let e : None ≡ Some us = set in cc)
set_ascends (Some key) named mean true skippable nil fs us h set = let same : fs ≡ us = cc in subst (AscendFrom 0) same h
set_ascends (Some key) None mean false true nil fs us h set = let same : fs ≡ us = cc in subst (AscendFrom 0) same h
set_ascends (Some key) None mean false false nil fs us h set = absurd (let e : None ≡ Some us = set in cc)
set_ascends (Some key) (Some n) None false skippable nil fs us h set = absurd (let e : None ≡ Some us = set in cc)
set_ascends (Some key) (Some n) (Some v) false skippable nil fs us h set =
    let same : put_member n v fs ≡ us = cc in subst (AscendFrom 0) same (put_ascends n v 0 fs (omega arith) h)

step_ascends : (o : Option MemberValues) (xs : List Entry) (us : MemberValues) → ((gs : MemberValues) → o ≡ Some gs → AscendFrom 0 gs)
    → ((gs : MemberValues) → AscendFrom 0 gs → members_from gs xs ≡ Some us → AscendFrom 0 us)
    → option_and_then (λ more. members_from more xs) o ≡ Some us → AscendFrom 0 us
step_ascends None xs us each next folds = absurd (let e : None ≡ Some us = folds in cc)
step_ascends (Some gs) xs us each next folds = next gs (each gs refl) folds

-- the members that entries leave ascend, where those before them do
pub folded_ascend : (xs : List Entry) (fs us : MemberValues) → AscendFrom 0 fs → members_from fs xs ≡ Some us → AscendFrom 0 us
folded_ascend [] fs us h folds = let same : fs ≡ us = cc in subst (AscendFrom 0) same h
folded_ascend (e ∷ xs) fs us h folds =
    step_ascends (member_step e fs) xs us
    (λ gs set. set_ascends e.key e.position e.meaning e.is_absent e.is_skippable e.is_null fs gs h set)
    (λ gs from more. folded_ascend xs gs us from more) folds
