-- How lists and objects go on.
use Rattle.std.proofs.Common.{◌≡◌, ◌≢◌, ◌+◌, ℕ, List, [], drop, Bool, true, false, None, IsTrue, ◌↔◌, refl, sym, ◌∙◌, arith, subst}
use Rattle.std.specs.Bool.{then_some}
use Rattle.smithy_json_grammar.specs.Ascii.{value_separator, end_array, end_object}
use Rattle.smithy_json_values.specs.declared.places.InList.TheVariants.{End as EndOfList}
use Rattle.smithy_json_values.specs.LexicalGrammar.{LexicalGrammar}
use Rattle.smithy_json_values.specs.Spans.{Lies, IsByte, IsSeparated, without_ws}
use Rattle.smithy_json_values.specs.Tokens.{BoundaryBy, EndsInside, IsNameToken, NameTokens}
use Rattle.smithy_json_grammar.specs.Grammar.{IsWs}
use Rattle.smithy_json_values.specs.Private.BytePlaces.{same_separated}
use Rattle.smithy_json_values.specs.Private.TokenPlaces.{past_name, names_or_end}
use Rattle.smithy_json_values.specs.Private.NextInContainer.{IsFirstByte, IsNotFirst, ClosesIn, ElementBegins, GoesOnInArray, NameIsDue, GoesOnToName}
use Rattle.smithy_json_values.proofs.FirstBytePlaces.{first_lies, same_first, not_first, nothing_first, without_all}

-- ---- closing

module _ (g : LexicalGrammar) (i : List ℕ) (at b start depth : ℕ) (here : IsFirstByte i at b start) where
  closes : EndsInside (BoundaryBy g.is_strict) depth (drop (start + 1) i) → ClosesIn g b i at depth (start + 1)
  closes follows = (first_lies i at b start here, follows)

  closes_not : (EndsInside (BoundaryBy g.is_strict) depth (drop (start + 1) i) → ⊥) → (e : ℕ) → ClosesIn g b i at depth e → ⊥
  closes_not none e h =
      let same = (same_first i at b start here b e here.plain h.0).1 in
      none (subst (λ x. EndsInside (BoundaryBy g.is_strict) depth (drop x i)) same h.1)

-- ---- lists

-- where the closing bracket comes, no element begins
no_element : (i : List ℕ) (at start : ℕ) (entered : Bool) → IsFirstByte i at end_array start → (c : ℕ) → ElementBegins i at entered c → ⊥
no_element i at start false here c h =
    h.1 (start + 1) (subst (λ x. Lies (IsByte end_array) i x (start + 1)) (sym h.0) (first_lies i at end_array start here))
no_element i at start true here c h =
    let same = (same_first i at end_array start here value_separator c refl h.0).0 in let no : ◌≡◌ {A = ℕ} value_separator end_array = same in omega arith

pub list_closes : (g : LexicalGrammar) (i : List ℕ) (at start : ℕ) (entered : Bool) (depth : ℕ) → IsFirstByte i at end_array start
    → (ends : Bool) → (IsTrue ends ↔ EndsInside (BoundaryBy g.is_strict) depth (drop (start + 1) i))
    → GoesOnInArray g i at entered depth (then_some ends (EndOfList (start + 1)))
list_closes g i at start entered depth here true ends = closes g i at end_array start depth here (ends.0 refl)
list_closes g i at start entered depth here false ends =
    (no_element i at start entered here, closes_not g i at end_array start depth here (λ follows. let no : false ≡ true = ends.1 follows in cc))

module _ (g : LexicalGrammar) (i : List ℕ) (at start : ℕ) (entered : Bool) (depth : ℕ) (here : IsFirstByte i at value_separator start) (is : entered ≡ true) where
  pub element_behind : IsNotFirst end_array i (start + 1) → ElementBegins i at entered (start + 1)
  element_behind none = rw is (first_lies i at value_separator start here, none)

  pub comma_hangs : (e : ℕ) → Lies (IsByte end_array) i (start + 1) e → GoesOnInArray g i at entered depth None
  comma_hangs e lies = (
    λ c h.
        let comma : Lies (IsByte value_separator) i at c = subst (λ m. IsSeparated m i at c) is h.0 in
        let same = (same_first i at value_separator start here value_separator c refl comma).1 in
        h.1 e (subst (λ x. Lies (IsByte end_array) i x e) (sym same) lies),
    λ f h. not_first i at value_separator start here end_array refl (λ same. let no : ◌≡◌ {A = ℕ} end_array value_separator = same in omega arith) f h.0,
  )

pub nothing_in_list : (g : LexicalGrammar) (i : List ℕ) (at : ℕ) (entered : Bool) (depth : ℕ) → entered ≡ true → IsNotFirst end_array i at → IsNotFirst value_separator i at
    → GoesOnInArray g i at entered depth None
nothing_in_list g i at entered depth is shut none = (λ c h. none c (subst (λ m. IsSeparated m i at c) is h.0), λ e h. shut e h.0)

pub element_first : (i : List ℕ) (at : ℕ) (entered : Bool) → entered ≡ false → IsNotFirst end_array i at → ElementBegins i at entered at
element_first i at entered is none = rw is (refl, none)

-- ---- names of objects

-- with the closing bracket the object ends, where it may
pub object_closes : (g : LexicalGrammar) (i : List ℕ) (at start : ℕ) (entered : Bool) (depth : ℕ) → IsFirstByte i at end_object start
    → (ends : Bool) → (IsTrue ends ↔ EndsInside (BoundaryBy g.is_strict) depth (drop (start + 1) i))
    → GoesOnToName g i at entered depth (then_some ends (EndOfList (start + 1)))
object_closes g i at start entered depth here true ends = closes g i at end_object start depth here (ends.0 refl)
object_closes g i at start entered depth here false ends = (
  λ raw c names. names_or_end i entered at raw c (start + 1) names (first_lies i at end_object start here),
  closes_not g i at end_object start depth here (λ follows. let no : false ≡ true = ends.1 follows in cc),
)

module _ (i : List ℕ) (at b start : ℕ) (entered : Bool) (here : IsFirstByte i at b start) (other : b ≢ end_object) where
  no_end : IsNotFirst end_object i at
  no_end = not_first i at b start here end_object refl (λ same. other (sym same))

  -- the first name is due at once
  pub name_at_once : entered ≡ false → NameIsDue i at entered at
  name_at_once is = rw is (refl, no_end)

  -- another one is due behind a comma
  pub name_behind : entered ≡ true → b ≡ value_separator → NameIsDue i at entered (start + 1)
  name_behind is comma = rw is (subst (λ x. Lies (IsByte x) i at (start + 1)) comma (first_lies i at b start here), no_end)

  pub no_name_place : (g : LexicalGrammar) (depth : ℕ) → entered ≡ true → b ≢ value_separator → GoesOnToName g i at entered depth None
  no_name_place g depth is none = (
    λ raw c names.
        let comma = subst (λ m. IsSeparated m i at names.0) is names.1 in
        none (sym (same_first i at b start here value_separator names.0 refl comma).0),
    λ e h. no_end e h.0,
  )

-- where only white space is left, there is nothing
name_solid : (i : List ℕ) (at : ℕ) → IsWs (drop at i) → (raw : List ℕ) (e : ℕ) → Lies (IsNameToken raw) i at e → ⊥
name_solid i at ws raw e h =
    let none : without_ws (drop at i) ≡ [] = without_all (drop at i) ws in
    let both = sym none ∙ past_name raw (drop at i) (drop e i) h.2 in cc

pub nothing_in_object : (g : LexicalGrammar) (i : List ℕ) (at : ℕ) (entered : Bool) (depth : ℕ) → IsWs (drop at i) → GoesOnToName g i at entered depth None
nothing_in_object g i at false depth ws =
    (λ raw c h. name_solid i at ws raw c (subst (λ x. Lies (IsNameToken raw) i x c) h.1 h.2), λ e h. nothing_first i at end_object ws refl e h.0)
nothing_in_object g i at true depth ws =
    (λ raw c h. nothing_first i at value_separator ws refl h.0 h.1, λ e h. nothing_first i at end_object ws refl e h.0)

-- a name lies where it is due
pub name_there : (i : List ℕ) (at : ℕ) (entered : Bool) (place : ℕ) → NameIsDue i at entered place → (raw : List ℕ) (e : ℕ) → NameTokens entered i at raw e → Lies (IsNameToken raw) i place e
name_there i at entered place due raw e names =
    subst (λ x. Lies (IsNameToken raw) i x e) (same_separated i entered at names.0 place names.1 due.0) names.2
