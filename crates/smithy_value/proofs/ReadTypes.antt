-- Where a reader fails for the type of what comes, or for no type: the way that it went to there, from child to child.
use Rattle.std.proofs.Common.{◌≡◌, ℕ, suc, List, length, Option, Some, Bool, true, false, sym, ◌∙◌, ap, subst}
use Rattle.smithy_declarations.specs.declared.place.Place.{Place}
use Rattle.smithy_schema.specs.declared.error.SerdeError.{SerdeError}
use Rattle.smithy_schema.specs.declared.error.SerdeError.TheVariants.{InvalidInput, TypeMismatch}
use Rattle.smithy_declarations.specs.Table.{Table, kind_of, place_in, IsUnion, IsSparse}
use Rattle.smithy_declarations.specs.Value.{Value}
use Rattle.smithy_schema.specs.Errors.{TellsType}
use Rattle.smithy_schema.specs.Reading.{Cursor, ContainerKind, depth, Relations, Mark, Child, IsChild, named, Enters, Steps, Passes, failed_at}
use Rattle.smithy_schema.proofs.ReadContainers.{InContainer}
use Rattle.smithy_value.specs.DuePlaces.{Came, none_yet, one_more, GoesOnAt, at_once, through, IsOtherType, IsNoOtherType, as_due, as_document, as_null, as_unknown, as_second, MismatchesInside, AgreesInside}

-- ---- the children that came

-- the container that was due at s0 opened, and children came in it up to s, any or none
pub record CameTo (w : Relations) (s0 s : Cursor) (t : Table) (p : Place) : Type 0 where
  pub any : Bool
  pub inside : ℕ
  pub first : Mark
  pub opens : w.opens s0.input t p (depth s0) s0.at inside first
  pub came : Came w s0.input t p (suc (depth s0)) inside first any s.at s.inner.mark

-- none yet, where it was entered
abbrev pub none_came : (w : Relations) (max : ℕ) (s0 s : Cursor) (t : Table) (p : Place) (k : ContainerKind) → Enters w max s0 s t p k → CameTo w s0 s t p
none_came w max s0 s t p k enters = record { any = false; inside = s.at; first = s.inner.mark; opens = enters.opens; came = none_yet }

module _ (w u : Relations) (max : ℕ) (s0 s s1 : Cursor) (t : Table) (p : Place) (k : ContainerKind) (worth : List Child → Option Value) (inside : InContainer w u max s0 s t p k worth) (key : Option (List ℕ)) (steps : Steps w s s1 t p key) where
  pub step_here : w.steps s0.input t p (suc (depth s0)) s.at s.inner.mark key s1.at s1.inner.mark
  step_here = rw (inside.input, inside.outer) at steps.steps

  pub one_deeper : depth s1 ≡ suc (depth s0)
  one_deeper = ap length (steps.outer ∙ inside.outer)

  -- one more came
  abbrev pub one_came : (s2 : Cursor) (x : Child) → CameTo w s0 s t p → IsChild w s1.input t p (depth s1) key x s1.at s2.at → Passes s1 s2 → CameTo w s0 s2 t p
  one_came s2 x came child passes =
      let here : IsChild w s0.input t p (suc (depth s0)) key x s1.at s2.at = rw (steps.input, inside.input, steps.outer, inside.outer) at child in
      record {
        any = true;
        inside = came.inside;
        first = came.first;
        opens = came.opens;
        came = subst (λ f. Came w s0.input t p (suc (depth s0)) came.inside came.first true s2.at f.mark) (sym passes.inner) (one_more key x came.came step_here here);
      }

  -- the container goes on
  pub goes_on : (came : CameTo w s0 s t p) → GoesOnAt w s0.input t p (depth s0) s0.at came.any key s1.at
  goes_on came = record {
    inside = came.inside;
    first = came.first;
    end = s.at;
    last = s.inner.mark;
    next = s1.inner.mark;
    opens = came.opens;
    came = came.came;
    steps = step_here;
  }

-- ---- through a container to a child

module _ (w : Relations) (i : List ℕ) (t : Table) (p r : Place) (d a b : ℕ) (any : Bool) (key : Option (List ℕ)) (goes : GoesOnAt w i t p d a any key b) (place : place_in (kind_of t p) (named w t p key) ≡ Some r)
    (value : IsSparse (kind_of t p) → w.begins_null i b ≡ false) (variant : IsUnion (kind_of t p) → any ≡ false) where
  other_through : (e c : ℕ) → IsOtherType w i t r (suc d) b e c → IsOtherType w i t p d a e c
  other_through e c (q, leads, is) = (q, through r any key b goes place value variant leads, is)

  agrees_through : (e c : ℕ) → IsNoOtherType w i t r (suc d) b e c → IsNoOtherType w i t p d a e c
  agrees_through e c (as_due q leads is) = as_due q (through r any key b goes place value variant leads) is
  agrees_through e c (as_document q leads is) = as_document q (through r any key b goes place value variant leads) is
  agrees_through e c (as_null q f before name leads on sparse begins) = as_null q f before name (through r any key b goes place value variant leads) on sparse begins
  agrees_through e c (as_unknown q f before name leads on kind none) = as_unknown q f before name (through r any key b goes place value variant leads) on kind none
  agrees_through e c (as_second q f name leads on kind) = as_second q f name (through r any key b goes place value variant leads) on kind

-- what a read of the child says, it says of the container
pub record ToChild (w : Relations) (s0 s1 : Cursor) (t u : Table) (p r : Place) : Type 0 where
  pub input : s1.input ≡ s0.input
  pub table : u ≡ t
  pub level : depth s1 ≡ suc (depth s0)
  pub any : Bool
  pub key : Option (List ℕ)
  pub goes : GoesOnAt w s0.input t p (depth s0) s0.at any key s1.at
  pub place : place_in (kind_of t p) (named w t p key) ≡ Some r
  pub value : IsSparse (kind_of t p) → w.begins_null s0.input s1.at ≡ false
  pub variant : IsUnion (kind_of t p) → any ≡ false

-- the same by the container's input and table, at the child's depth
moved : (P : List ℕ → Table → ℕ → Type 0) (i j : List ℕ) (t u : Table) (d e : ℕ) → j ≡ i → u ≡ t → e ≡ d → P j u e → P i t d
moved P i j t u d e input table level here = subst (λ x. P i t x) level (subst (λ x. P i x e) table (subst (λ x. P x u e) input here))

pub mismatch_above : (w : Relations) (s0 s1 s2 : Cursor) (t u : Table) (p r : Place) → ToChild w s0 s1 t u p r → MismatchesInside w s1 s2 u r → MismatchesInside w s0 s2 t p
mismatch_above w s0 s1 s2 t u p r to there =
    other_through w s0.input t p r (depth s0) s0.at s1.at to.any to.key to.goes to.place to.value to.variant (depth s2) s2.at
    (moved (λ i t d. IsOtherType w i t r d s1.at (depth s2) s2.at) s0.input s1.input t u (suc (depth s0)) (depth s1) to.input to.table to.level there)

pub agrees_above : (w : Relations) (s0 s1 s2 : Cursor) (t u : Table) (p r : Place) → ToChild w s0 s1 t u p r → AgreesInside w s1 s2 u r → AgreesInside w s0 s2 t p
agrees_above w s0 s1 s2 t u p r to there =
    agrees_through w s0.input t p r (depth s0) s0.at s1.at to.any to.key to.goes to.place to.value to.variant (depth s2) s2.at
    (moved (λ i t d. IsNoOtherType w i t r d s1.at (depth s2) s2.at) s0.input s1.input t u (suc (depth s0)) (depth s1) to.input to.table to.level there)

-- ---- where a call refuses

-- an opening or a scalar that was due tells whether what comes is of another type
pub mismatch_told : (w : Relations) (s : Cursor) (t : Table) (p : Place) (e : SerdeError) → TellsType (w.mismatches s.input t p s.at) e → e ≡ TypeMismatch → MismatchesInside w s s t p
mismatch_told w s t p e told is = (p, at_once, subst (TellsType (w.mismatches s.input t p s.at)) is told)

pub agrees_told : (w : Relations) (s : Cursor) (t : Table) (p : Place) (e : SerdeError) → TellsType (w.mismatches s.input t p s.at) e → e ≡ InvalidInput → AgreesInside w s s t p
agrees_told w s t p e told is = as_due p at_once (subst (TellsType (w.mismatches s.input t p s.at)) is told)

-- a call that refuses leaves the reader where it is
pub stays_mismatching : (w : Relations) (s0 s s1 : Cursor) (t : Table) (p : Place) → s1 ≡ failed_at s → MismatchesInside w s0 s t p → MismatchesInside w s0 s1 t p
stays_mismatching w s0 s s1 t p stays there = subst (λ (c : Cursor). MismatchesInside w s0 c t p) (sym stays) there

pub stays_agreeing : (w : Relations) (s0 s s1 : Cursor) (t : Table) (p : Place) → s1 ≡ failed_at s → (s.due ≡ true → AgreesInside w s0 s t p) → s1.due ≡ true → AgreesInside w s0 s1 t p
stays_agreeing w s0 s s1 t p stays there = subst (λ (c : Cursor). c.due ≡ true → AgreesInside w s0 c t p) (sym stays) there

-- behind a step, where no value is due
pub agrees_behind : (w : Relations) (s0 s1 : Cursor) (t : Table) (p : Place) → depth s1 ≡ suc (depth s0) → IsNoOtherType w s0.input t p (depth s0) s0.at (suc (depth s0)) s1.at → AgreesInside w s0 s1 t p
agrees_behind w s0 s1 t p level there = subst (λ e. IsNoOtherType w s0.input t p (depth s0) s0.at e s1.at) (sym level) there
