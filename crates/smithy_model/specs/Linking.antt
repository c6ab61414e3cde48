-- What calls say that give targets their numbers.
use Rattle.std.specs.Prelude.{ℕ, List, Bool, false, Option, Result, OnOk, IfErr}
use Rattle.std.specs.Borrow.{Bor}
use Rattle.std.specs.List.{list_any, AllZip}
use Rattle.std.specs.Option.{option_map_or}
use Rattle.smithy_model.specs.Model.{Shape, Reference}
use Rattle.smithy_model.specs.Faults.{IsMissing, has_target, refers_to}

-- What became of something has, by the relation, the numbers that its targets have among these ids; or the answer is a target of it, by the
-- test, and none of the ids.
pub record Links {A : Type 0} (ids : List (List ℕ)) (IsNumbered : List (List ℕ) → A → A → Type 0) (is_target : List ℕ → A → Bool) (old new : A) (result : Result (Unit {0}) (Bor (List ℕ))) : Type 0 where
  pub linked : OnOk result (IsNumbered ids old new)
  pub refused : IfErr result (λ id. IsMissing ids (λ other. is_target other old) id.now)

-- the same of each of a list
abbrev pub LinksAll : {A : Type 0} → List (List ℕ) → (List (List ℕ) → A → A → Type 0) → (List ℕ → A → Bool) → (olds news : List A)
    → Result (Unit {0}) (Bor (List ℕ)) → Type 0
LinksAll ids IsNumbered is_target olds news result =
    Links ids (λ known. AllZip (IsNumbered known)) (λ id. list_any (is_target id)) olds news result

-- a member of the shape has this target
abbrev pub is_target_of : List ℕ → Shape → Bool
is_target_of id s = has_target id s.kind

-- there is a reference, and it is to this id
abbrev pub refers_if : List ℕ → Option Reference → Bool
refers_if id given = option_map_or (refers_to id) given false
