-- Members that are put among others.
use Rattle.std.proofs.Common.{◌≡◌, ◌<◌, ◌+◌, ◌∙◌, ℕ, zero, suc, List, [], ◌∷◌, ◌++◌, length, map, set, take, get_or, bytes_eq, refl, sym, ap, subst, arith}
use Rattle.std.specs.Prelude.{Bool, true, false, ◌||◌, ◌&&◌, not}
use Rattle.std.specs.List.{fold, list_any}
use Rattle.std.proofs.lemmas.List.{take_more, map-append}
use Rattle.smithy_model.specs.Model.{Member}
use Rattle.smithy_model.specs.Mixins.{redefined, with_member, has_other_target, agree}

-- a member of this name
abbrev pub has_name : List ℕ → Member → Bool
has_name name m = bytes_eq m.name name

first_of : (a b : Bool) → (a || b) ≡ false → a ≡ false
first_of true b is = cc (is)
first_of false b is = refl

second_of : (a b : Bool) → (a || b) ≡ false → b ≡ false
second_of true b is = cc (is)
second_of false b is = is

-- it takes the place of the first one of its name
pub put_at : {W : Type 0} (v : W → Member) (ws : List W) (i : ℕ) (d new : W) (given : Member) → i < length ws
    → list_any (has_name given.name) (map v (take i ws)) ≡ false → bytes_eq (v (get_or ws i d)).name given.name ≡ true
    → v new ≡ redefined (v (get_or ws i d)) given → map v (set ws i new) ≡ with_member (map v ws) given
put_at v [] i d new given within before same made = absurd (omega (arith, within))
put_at v (w ∷ ws) zero d new given within before same made = rw (same, made) refl
put_at v (w ∷ ws) (suc i) d new given within before same made =
    rw (first_of (has_name given.name (v w)) (list_any (has_name given.name) (map v (take i ws))) before)
    (ap (λ ms. v w ∷ ms) (put_at v ws i d new given (omega (arith, within))
    (second_of (has_name given.name (v w)) (list_any (has_name given.name) (map v (take i ws))) before) same made))

-- or stands behind all
pub put_behind : (ms : List Member) (given : Member) → list_any (has_name given.name) ms ≡ false → with_member ms given ≡ ms ++ given ∷ []
put_behind [] given none = refl
put_behind (m ∷ ms) given none =
    rw (first_of (has_name given.name m) (list_any (has_name given.name) ms) none)
    (ap (λ more. m ∷ more) (put_behind ms given (second_of (has_name given.name m) (list_any (has_name given.name) ms) none)))

fold_behind : {A B : Type 0} (f : B → A → B) (b : B) (xs ys : List A) → fold f b (xs ++ ys) ≡ fold f (fold f b xs) ys
fold_behind f b [] ys = refl
fold_behind f b (x ∷ xs) ys = fold_behind f (f b x) xs ys

-- one more of a list that is gone through
pub fold_more : {W A B : Type 0} (f : B → A → B) (v : W → A) (b so_far : B) (ws : List W) (i : ℕ) (d : W) → i < length ws
    → so_far ≡ fold f b (map v (take i ws)) → f so_far (v (get_or ws i d)) ≡ fold f b (map v (take (i + 1) ws))
fold_more f v b so_far ws i d within is =
    rw (is, take_more ws i d within, map-append v (take i ws) (get_or ws i d ∷ [])) (sym (fold_behind f b (map v (take i ws)) (v (get_or ws i d) ∷ [])))

pub fold_last : {A B : Type 0} (f : B → A → B) (b so_far : B) (xs : List A) (x : A) → so_far ≡ fold f b xs → f so_far x ≡ fold f b (xs ++ x ∷ [])
fold_last f b so_far xs x is = rw (is) (sym (fold_behind f b xs (x ∷ [])))

-- what is looked at twice is the same
pub got_same : {W : Type 0} (ws : List W) (i : ℕ) (u w : W) → i < length ws → u ≡ get_or ws i u → w ≡ get_or ws i w → u ≡ w
got_same [] i u w within first next = absurd (omega (arith, within))
got_same (x ∷ ws) zero u w within first next = first ∙ sym next
got_same (x ∷ ws) (suc i) u w within first next = got_same ws i u w (omega (arith, within)) first next

-- it takes the place of the one that was looked at
pub put_there : {W : Type 0} (v : W → Member) (ws : List W) (i : ℕ) (u w new : W) (given : Member) → i < length ws → u ≡ get_or ws i u → w ≡ get_or ws i w
    → list_any (has_name given.name) (map v (take i ws)) ≡ false → bytes_eq (v u).name given.name ≡ true
    → v new ≡ redefined (v w) given → map v (set ws i new) ≡ with_member (map v ws) given
put_there v ws i u w new given within first next before same made =
    put_at v ws i u new given within before (subst (λ x. bytes_eq (v x).name given.name ≡ true) first same)
    (subst (λ x. v new ≡ redefined (v x) given) (sym (got_same ws i u w within first next) ∙ first) made)

other_at : {W : Type 0} (v : W → Member) (ws : List W) (i : ℕ) (d : W) (given : Member) → i < length ws → list_any (has_name given.name) (map v (take i ws)) ≡ false
    → bytes_eq (v (get_or ws i d)).name given.name ≡ true → not (bytes_eq (v (get_or ws i d)).target given.target) ≡ has_other_target (map v ws) given
other_at v [] i d given within before same = absurd (omega (arith, within))
other_at v (w ∷ ws) zero d given within before same = rw (same) refl
other_at v (w ∷ ws) (suc i) d given within before same =
    rw (first_of (has_name given.name (v w)) (list_any (has_name given.name) (map v (take i ws))) before)
    (other_at v ws i d given (omega (arith, within)) (second_of (has_name given.name (v w)) (list_any (has_name given.name) (map v (take i ws))) before) same)

twice : (b : Bool) → b ≡ not (not b)
twice true = refl
twice false = refl

-- whether the one that was looked at has the target
pub other_there : {W : Type 0} (v : W → Member) (ws : List W) (i : ℕ) (u w : W) (given : Member) (agrees : Bool) → i < length ws → u ≡ get_or ws i u → w ≡ get_or ws i w
    → list_any (has_name given.name) (map v (take i ws)) ≡ false → bytes_eq (v u).name given.name ≡ true
    → agrees ≡ bytes_eq (v w).target given.target → agrees ≡ not (has_other_target (map v ws) given)
other_there v ws i u w given agrees within first next before same is =
    is ∙ twice (bytes_eq (v w).target given.target)
    ∙ ap not (ap (λ x. not (bytes_eq (v x).target given.target)) next
    ∙ other_at v ws i w given within before
    (subst (λ x. bytes_eq (v x).name given.name ≡ true) (got_same ws i u w within first next ∙ next) same))

-- where none has the name, none has another target
pub none_other : (ms : List Member) (given : Member) → list_any (has_name given.name) ms ≡ false → true ≡ not (has_other_target ms given)
none_other [] given none = refl
none_other (m ∷ ms) given none =
    rw (first_of (has_name given.name m) (list_any (has_name given.name) ms) none)
    (none_other ms given (second_of (has_name given.name m) (list_any (has_name given.name) ms) none))

and_true : (b : Bool) → (b && true) ≡ b
and_true true = refl
and_true false = refl

and_all : (a b c : Bool) → ((a && b) && c) ≡ (a && (b && c))
and_all true b c = refl
and_all false b c = refl

agree_more : (earlier ms : List Member) (m : Member) → agree earlier (ms ++ m ∷ []) ≡ (agree earlier ms && not (has_other_target (fold with_member earlier ms) m))
agree_more earlier [] m = and_true (not (has_other_target earlier m))
agree_more earlier (x ∷ ms) m =
    ap (λ b. not (has_other_target earlier x) && b) (agree_more (with_member earlier x) ms m)
    ∙ sym (and_all (not (has_other_target earlier x)) (agree (with_member earlier x) ms) (not (has_other_target (fold with_member (with_member earlier x) ms) m)))

-- one more of a list that is gone through
pub agree_next : {W : Type 0} (v : W → Member) (earlier so_far : List Member) (ws : List W) (i : ℕ) (d : W) (before now put : Bool) → i < length ws
    → so_far ≡ fold with_member earlier (map v (take i ws)) → before ≡ agree earlier (map v (take i ws))
    → put ≡ not (has_other_target so_far (v (get_or ws i d))) → now ≡ (before && put) → now ≡ agree earlier (map v (take (i + 1) ws))
agree_next v earlier so_far ws i d before now put within is agreed one both =
    both ∙ ap (λ b. b && put) agreed ∙ ap (λ b. agree earlier (map v (take i ws)) && b) (one ∙ ap (λ ms. not (has_other_target ms (v (get_or ws i d)))) is)
    ∙ sym (agree_more earlier (map v (take i ws)) (v (get_or ws i d)))
    ∙ ap (agree earlier) (sym (ap (map v) (take_more ws i d within) ∙ map-append v (take i ws) (get_or ws i d ∷ [])))
