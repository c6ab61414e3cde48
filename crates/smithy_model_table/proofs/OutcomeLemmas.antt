-- One more member that is declared or left out, and one more shape.
use Rattle.std.proofs.Common.{◌≡◌, ◌<◌, ◌+◌, ℕ, List, [], ◌∷◌, ◌++◌, length, map, take, get_or, refl, sym, ◌∙◌, ap, subst, append-nil, append_assoc}
use Rattle.std.specs.Prelude.{Bool}
use Rattle.std.specs.List.{AllZip}
use Rattle.std.proofs.lemmas.List.{take_more, map-append}
use Rattle.std.proofs.lemmas.Grind.{flat_map-append}
use Rattle.smithy_model.specs.Model.{Member, Model}
use Rattle.smithy_declarations.specs.Decl.{MemberDecl, Decl}
use Rattle.smithy_model_table.specs.Declaring.{Names}
use Rattle.smithy_model_table.specs.Bindings.{Bindings}
use Rattle.smithy_model_table.specs.Outcomes.{Outcome, declared, left_out, LeftOut, declared_of, left_of, IsOutcome, AreEach, AreOutcomes, Part, IsPartAt, AreParts}

zip_more : {A B : Type 0} (R : A → B → Type 0) (xs : List A) (ys : List B) (x : A) (y : B) → AllZip R xs ys → R x y → AllZip R (xs ++ x ∷ []) (ys ++ y ∷ [])
zip_more R [] [] x y all one = (one, tt)
zip_more R [] (w ∷ ys) x y all one = absurd all
zip_more R (v ∷ xs) [] x y all one = absurd all
zip_more R (v ∷ xs) (w ∷ ys) x y all one = (all.0, zip_more R xs ys x y all.1 one)

-- one more pair of a list that is gone through
zip_at : {W A B : Type 0} (R : A → B → Type 0) (v : W → A) (ws : List W) (i : ℕ) (d : W) (ys : List B) (y : B) → i < length ws
    → AllZip R (map v (take i ws)) ys → R (v (get_or ws i d)) y → AllZip R (map v (take (i + 1) ws)) (ys ++ y ∷ [])
zip_at R v ws i d ys y within all one =
    rw (take_more ws i d within, map-append v (take i ws) (get_or ws i d ∷ [])) (zip_more R (map v (take i ws)) ys (v (get_or ws i d)) y all one)

pub zip_next : {W A B : Type 0} (R : A → B → Type 0) (v : W → A) (ws : List W) (i : ℕ) (w : W) (ys : List B) (y : B) → i < length ws → w ≡ get_or ws i w
    → AllZip R (map v (take i ws)) ys → R (v w) y → AllZip R (map v (take (i + 1) ws)) (ys ++ y ∷ [])
zip_next R v ws i w ys y within is all one = zip_at R v ws i w ys y within all (subst (λ x. R (v x) y) is one)

declared_behind : (outs more : List Outcome) → declared_of (outs ++ more) ≡ declared_of outs ++ declared_of more
declared_behind [] more = refl
declared_behind (declared e ∷ outs) more = ap (λ ds. e ∷ ds) (declared_behind outs more)
declared_behind (left_out name reason ∷ outs) more = declared_behind outs more

left_behind : (shape : List ℕ) (outs more : List Outcome) → left_of shape (outs ++ more) ≡ left_of shape outs ++ left_of shape more
left_behind shape [] more = refl
left_behind shape (declared e ∷ outs) more = left_behind shape outs more
left_behind shape (left_out name reason ∷ outs) more =
    ap (λ ls. record { shape = shape; member = name; reason = reason } ∷ ls) (left_behind shape outs more)

each_more : (m : Model) (marks : List Bool) (names : Names) (counting : Bindings) (earlier : List MemberDecl) (xs : List Member) (outs : List Outcome)
    (x : Member) (o : Outcome) → AreEach m marks names counting earlier xs outs → IsOutcome m marks names counting (earlier ++ declared_of outs) x o
    → AreEach m marks names counting earlier (xs ++ x ∷ []) (outs ++ o ∷ [])
each_more m marks names counting earlier [] outs x o none one = (
  o,
  [],
  ap (λ ps. ps ++ o ∷ []) none,
  subst (λ ds. IsOutcome m marks names counting ds x o) (append-nil earlier) (subst (λ ps. IsOutcome m marks names counting (earlier ++ declared_of ps) x o) none one),
  refl,
)
each_more m marks names counting earlier (y ∷ xs) outs x o (p, rest, is, first, behind) one = (
  p,
  rest ++ o ∷ [],
  ap (λ ps. ps ++ o ∷ []) is,
  first,
  each_more m marks names counting (earlier ++ declared_of (p ∷ [])) xs rest x o behind
      (subst (λ ds. IsOutcome m marks names counting ds x o)
      (ap (λ ds. earlier ++ ds) (declared_behind (p ∷ []) rest) ∙ sym (append_assoc earlier (declared_of (p ∷ [])) (declared_of rest)))
      (subst (λ ps. IsOutcome m marks names counting (earlier ++ declared_of ps) x o) is one)),
)

-- what becomes of one more member
outcome_more : {W : Type 0} (m : Model) (marks : List Bool) (names : Names) (counting : Bindings) (shape : List ℕ) (v : W → Member) (ws : List W) (i : ℕ) (d : W)
    (o : Outcome) (ds : List MemberDecl) (ls : List LeftOut) → i < length ws → AreOutcomes m marks names counting shape (map v (take i ws)) ds ls
    → IsOutcome m marks names counting ds (v (get_or ws i d)) o
    → AreOutcomes m marks names counting shape (map v (take (i + 1) ws)) (ds ++ declared_of (o ∷ [])) (ls ++ left_of shape (o ∷ []))
outcome_more m marks names counting shape v ws i d o ds ls within (outs, each, made, told) one = (
  outs ++ o ∷ [],
  rw (take_more ws i d within, map-append v (take i ws) (get_or ws i d ∷ []))
      (each_more m marks names counting [] (map v (take i ws)) outs (v (get_or ws i d)) o each
      (subst (λ es. IsOutcome m marks names counting es (v (get_or ws i d)) o) made one)),
  rw (made, declared_behind outs (o ∷ [])) refl,
  rw (told, left_behind shape outs (o ∷ [])) refl,
)

-- the same behind those that were left out before
pub outcome_kept : {W : Type 0} (m : Model) (marks : List Bool) (names : Names) (counting : Bindings) (shape : List ℕ) (v : W → Member) (ws : List W) (i : ℕ) (d : W)
    (o : Outcome) (before left left_behind : List LeftOut) (ds seen ds_behind : List MemberDecl) → i < length ws
    → (added : List LeftOut) × (left ≡ before ++ added) × AreOutcomes m marks names counting shape (map v (take i ws)) ds added
    → seen ≡ ds → IsOutcome m marks names counting seen (v (get_or ws i d)) o → ds_behind ≡ ds ++ declared_of (o ∷ []) → left_behind ≡ left ++ left_of shape (o ∷ [])
    → (added : List LeftOut) × (left_behind ≡ before ++ added) × AreOutcomes m marks names counting shape (map v (take (i + 1) ws)) ds_behind added
outcome_kept m marks names counting shape v ws i d o before left left_behind ds seen ds_behind within (added, is, so_far) same one made more = (
  added ++ left_of shape (o ∷ []),
  rw (more, is) (append_assoc before added (left_of shape (o ∷ []))),
  rw (made) (outcome_more m marks names counting shape v ws i d o ds added within so_far
      (subst (λ es. IsOutcome m marks names counting es (v (get_or ws i d)) o) same one)),
)

-- what becomes of one more shape
part_more : (m : Model) (marks : List Bool) (names : Names) (order : List ℕ) (i : ℕ) (p : Part) (ds : List Decl) (ls : List LeftOut)
    → i < length order → AreParts m marks names (take i order) ds ls → IsPartAt m marks names (get_or order i 0) p
    → AreParts m marks names (take (i + 1) order) (ds ++ p.decls) (ls ++ p.left)
part_more m marks names order i p ds ls within so_far one = (
  so_far.0 ++ p ∷ [],
  rw (take_more order i 0 within) (zip_more (IsPartAt m marks names) (take i order) so_far.0 (get_or order i 0) p so_far.1 one),
  rw (so_far.2, flat_map-append (λ (q : Part). q.decls) so_far.0 (p ∷ []), append-nil p.decls) refl,
  rw (so_far.3, flat_map-append (λ (q : Part). q.left) so_far.0 (p ∷ []), append-nil p.left) refl,
)

-- the same behind those that were left out before
pub part_kept : (m : Model) (marks : List Bool) (names : Names) (order : List ℕ) (i : ℕ) (ds ds_behind more : List Decl) (ls ls_behind : List LeftOut)
    → i < length order → AreParts m marks names (take i order) ds ls
    → (added : List LeftOut) × (ls_behind ≡ ls ++ added) × IsPartAt m marks names (get_or order i 0) (record { decls = more; left = added })
    → ds_behind ≡ ds ++ more → AreParts m marks names (take (i + 1) order) ds_behind ls_behind
part_kept m marks names order i ds ds_behind more ls ls_behind within so_far (added, is, one) made =
    rw (made, is) (part_more m marks names order i (record { decls = more; left = added }) ds ls within so_far one)
