-- Names that two shapes have.
use Rattle.std.proofs.Common.{◌≡◌, ◌<◌, ◌+◌, ◌∙◌, ℕ, List, [], ◌∷◌, ◌++◌, Bor, BTreeSet, if◌then◌else◌, length, map, take, get_or, bytes_eq, refl, sym, ap, subst}
use Rattle.std.specs.Prelude.{Bool, true, false, ◌||◌, ◌&&◌}
use Rattle.std.specs.List.{list_any}
use Rattle.std.proofs.lemmas.List.{take_more, map-append}
use Rattle.std.proofs.lemmas.List.Folds.{list_any-append}
use Rattle.std.proofs.lemmas.Slice.Eq.{bytes_eq-Decides}
use Rattle.smithy_model.specs.Model.{Shape, Model}
use Rattle.smithy_declarations.specs.Names.{is_reserved}
use Rattle.smithy_model_table.specs.Naming.{name_in, is_declared, is_declared_as, is_shared, name_of_shape}
use Rattle.smithy_model_table.specs.Roles.{has_id, Gains, AreShared}

turned : (a b c d : Bool) → ((a && (c || (b || false))) || ((b && c) || d)) ≡ ((b && (a || c)) || ((a && c) || d))
turned true true true d = refl
turned true true false d = refl
turned true false true d = refl
turned true false false d = refl
turned false true true d = refl
turned false true false d = refl
turned false false true d = refl
turned false false false d = refl

shared_more : (shapes : List Shape) (s : Shape) (name : List ℕ)
    → is_shared (shapes ++ s ∷ []) name ≡ ((is_declared_as name s && list_any (is_declared_as name) shapes) || is_shared shapes name)
shared_more [] s name = refl
shared_more (t ∷ shapes) s name =
    rw (list_any-append (is_declared_as name) shapes (s ∷ []), shared_more shapes s name)
    (turned (is_declared_as name t) (is_declared_as name s) (list_any (is_declared_as name) shapes) (is_shared shapes name))

any_more : (shapes : List Shape) (s : Shape) (name : List ℕ)
    → list_any (is_declared_as name) (shapes ++ s ∷ []) ≡ (list_any (is_declared_as name) shapes || is_declared_as name s)
any_more shapes s name = list_any-append (is_declared_as name) shapes (s ∷ []) ∙ ap (λ b. list_any (is_declared_as name) shapes || b) (or_false (is_declared_as name s))
  where
    or_false : (b : Bool) → (b || false) ≡ b
    or_false true = refl
    or_false false = refl

without : (a b : Bool) → b ≡ false → a ≡ (a || b)
without true b none = refl
without false b none = sym none

none_and : (a b c : Bool) → a ≡ false → c ≡ ((a && b) || c)
none_and true b c none = cc (none)
none_and false b c none = refl

not_named : (s : Shape) (name : List ℕ) → is_declared s.kind ≡ false → is_declared_as name s ≡ false
not_named s name none = rw (none) refl

-- one without a declaration
pub undeclared_more : {names shared : _} (before : List Shape) (s : Shape) → is_declared s.kind ≡ false → AreShared before names shared
    → AreShared (before ++ s ∷ []) names shared
undeclared_more before s none so_far = record {
  there = λ name. so_far.there name ∙ without (list_any (is_declared_as name) before) (is_declared_as name s) (not_named s name none) ∙ sym (any_more before s name);
  twice = λ name. so_far.twice name
      ∙ none_and (is_declared_as name s) (list_any (is_declared_as name) before) (is_shared before name) (not_named s name none) ∙ sym (shared_more before s name);
}

same_named : (s : Shape) (name : List ℕ) → is_declared s.kind ≡ true → is_declared_as name s ≡ bytes_eq (name_in s.id) name
same_named s name declared = rw (declared) refl

-- what holds of one name holds where another is equal to it
where_equal : (own name : List ℕ) (P : List ℕ → Bool → Type 0) → P own true → P name false → P name (bytes_eq own name)
where_equal own name P same other = by (bytes_eq own name) refl
  where
    by : (b : Bool) → bytes_eq own name ≡ b → P name b
    by true is = subst (λ n. P n true) ((bytes_eq-Decides own name).0 is) same
    by false is = other

there_still : (a : Bool) → a ≡ true → a ≡ (a || true)
there_still true is = refl
there_still false is = is

there_false : (a : Bool) → a ≡ (a || false)
there_false true = refl
there_false false = refl

turned_or : (a b : Bool) → (a || b) ≡ (b || a)
turned_or true true = refl
turned_or true false = refl
turned_or false true = refl
turned_or false false = refl

-- one whose name is there
pub shared_name : {names shared now : _} (before : List Shape) (s : Shape) → is_declared s.kind ≡ true → has_id names (name_in s.id) ≡ true
    → Gains (λ other. bytes_eq (name_in s.id) other) (has_id shared) (has_id now) → AreShared before names shared → AreShared (before ++ s ∷ []) names now
shared_name {names} {shared} {now} before s declared is gains so_far =
    let known = sym (so_far.there (name_in s.id)) ∙ is in
    record {
      there = λ name. so_far.there name
          ∙ where_equal (name_in s.id) name (λ n b. list_any (is_declared_as n) before ≡ (list_any (is_declared_as n) before || b))
          (there_still (list_any (is_declared_as (name_in s.id)) before) known) (there_false (list_any (is_declared_as name) before))
          ∙ sym (ap (λ b. list_any (is_declared_as name) before || b) (same_named s name declared)) ∙ sym (any_more before s name);
      twice = λ name. gains name ∙ ap (λ b. bytes_eq (name_in s.id) name || b) (so_far.twice name)
          ∙ ap (λ b. b || is_shared before name)
          (where_equal (name_in s.id) name (λ n b. b ≡ (b && list_any (is_declared_as n) before)) (sym known) refl
          ∙ sym (ap (λ b. b && list_any (is_declared_as name) before) (same_named s name declared)))
          ∙ sym (shared_more before s name);
    }

-- one whose name isn't there
pub new_name : {names shared now : _} (before : List Shape) (s : Shape) → is_declared s.kind ≡ true → has_id names (name_in s.id) ≡ false
    → Gains (λ other. bytes_eq (name_in s.id) other) (has_id names) (has_id now) → AreShared before names shared → AreShared (before ++ s ∷ []) now shared
new_name {names} {shared} {now} before s declared is gains so_far =
    let unknown = sym (so_far.there (name_in s.id)) ∙ is in
    record {
      there = λ name. gains name ∙ ap (λ b. bytes_eq (name_in s.id) name || b) (so_far.there name)
          ∙ turned_or (bytes_eq (name_in s.id) name) (list_any (is_declared_as name) before)
          ∙ sym (ap (λ b. list_any (is_declared_as name) before || b) (same_named s name declared)) ∙ sym (any_more before s name);
      twice = λ name. so_far.twice name
          ∙ ap (λ b. b || is_shared before name)
          (where_equal (name_in s.id) name (λ n b. false ≡ (b && list_any (is_declared_as n) before)) (sym unknown) refl
          ∙ sym (ap (λ b. b && list_any (is_declared_as name) before) (same_named s name declared)))
          ∙ sym (shared_more before s name);
    }

-- one more of a list that is gone through
pub front_more : {W : Type 0} {A : Type 0} (v : W → A) (ws : List W) (i : ℕ) (d : W) → i < length ws → map v (take i ws) ++ v (get_or ws i d) ∷ [] ≡ map v (take (i + 1) ws)
front_more v ws i d within = sym (ap (map v) (take_more ws i d within) ∙ map-append v (take i ws) (get_or ws i d ∷ []))

pub next_of : {W A : Type 0} (v : W → A) (ws : List W) (i : ℕ) (w : W) → i < length ws → w ≡ get_or ws i w → map v (take i ws) ++ v w ∷ [] ≡ map v (take (i + 1) ws)
next_of v ws i w within is = ap (λ x. map v (take i ws) ++ v x ∷ []) is ∙ front_more v ws i w within

-- the name of a shape
pub name_is : (m : Model) (s : Shape) (shared : BTreeSet (Bor (List ℕ))) (name : List ℕ) → ((n : List ℕ) → has_id shared n ≡ is_shared m.shapes n)
    → name ≡ (if is_reserved (name_in s.id) || has_id shared (name_in s.id) then s.id else name_in s.id) → name ≡ name_of_shape m s
name_is m s shared name known is =
    is ∙ ap (λ b. if is_reserved (name_in s.id) || b then s.id else name_in s.id) (known (name_in s.id))
