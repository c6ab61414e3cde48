-- Where the first byte behind white space lies.
use Rattle.std.proofs.Common.{◌≡◌, ◌+◌, ◌==◌, ℕ, List, [], ◌∷◌, ◌++◌, length, drop, slice_range, false, refl, sym, ap, ◌∙◌, arith, subst, append-nil}
use Rattle.std.proofs.lemmas.List.{length-drop, drop_more, take_rest}
use Rattle.std.proofs.lemmas.Bool.Decides.{nat_tests}
use Rattle.smithy_json_grammar.specs.Ascii.{is_ws}
use Rattle.smithy_json_grammar.specs.Grammar.{IsWs}
use Rattle.smithy_json_grammar.specs.Standing.{IsRunAt}
use Rattle.smithy_json_grammar.proofs.SliceLemmas.{drop-slice}
use Rattle.smithy_json_values.specs.Standing.{Lies, IsByte, without_ws}
use Rattle.smithy_json_values.specs.TypeMismatch.{begins_by}
use Rattle.smithy_json_values.specs.Private.Lexical.{past_ws}
use Rattle.smithy_json_values.specs.Private.BytePlaces.{same_byte, past_byte}
use Rattle.smithy_json_values.specs.Private.NextInContainer.{IsFirstByte, IsNotFirst}
use Rattle.smithy_json_values.proofs.ScannedPlaces.{ws_before, rest_behind}

module _ (i : List ℕ) (at b start : ℕ) (here : IsFirstByte i at b start) where
  -- it lies there
  pub first_lies : Lies (IsByte b) i at (start + 1)
  first_lies =
      let byte : drop start i ≡ b ∷ drop (start + 1) i = drop_more i start 0 here.within ∙ ap (λ x. x ∷ drop (start + 1) i) here.is in
      let whole = drop-slice i at start here.ordered ∙ ap (λ rest. slice_range i at start ++ rest) byte in
      (omega (arith, here.ordered), omega (arith, here.within), (slice_range i at start, b ∷ [], whole, here.ws, refl))

  -- and no other does
  pub same_first : (x e : ℕ) → is_ws x ≡ false → Lies (IsByte x) i at e → (x ≡ b) × (e ≡ start + 1)
  same_first x e plain h = same_byte i at e (start + 1) x b plain here.plain h first_lies

  pub not_first : (x : ℕ) → is_ws x ≡ false → (x ≡ b → ⊥) → IsNotFirst x i at
  not_first x plain differs e h = differs (same_first x e plain h).0

-- another byte comes first
pub first_differs : (i : List ℕ) (at b start : ℕ) → IsFirstByte i at b start → (x : ℕ) → (b ≡ x → ⊥) → begins_by (λ y. y == x) (without_ws (drop at i)) ≡ false
first_differs i at b start here x differs =
    let other : (b == x) ≡ false = grind (arith, nat_tests) in
    rw (past_byte b (drop at i) (drop (start + 1) i) here.plain (first_lies i at b start here).2) other

pub without_all : (s : List ℕ) → IsWs s → without_ws s ≡ []
without_all s h = ap without_ws (sym (append-nil s)) ∙ past_ws s [] h tt

-- where only white space is left, no byte comes first
pub none_differs : (i : List ℕ) (at x : ℕ) → IsWs (drop at i) → begins_by (λ y. y == x) (without_ws (drop at i)) ≡ false
none_differs i at x ws = rw (without_all (drop at i) ws) refl

pub nothing_first : (i : List ℕ) (at x : ℕ) → IsWs (drop at i) → is_ws x ≡ false → IsNotFirst x i at
nothing_first i at x ws plain e h =
    let same : ◌≡◌ {A = List ℕ} [] (x ∷ drop e i) = sym (without_all (drop at i) ws) ∙ past_byte x (drop at i) (drop e i) plain h.2 in cc

-- the white space reaches the end exactly where nothing else is left
pub reaches_end : (i : List ℕ) (at start : ℕ) → IsRunAt is_ws i at start → start ≡ length i → IsWs (drop at i)
reaches_end i at start run end =
    let rest : slice_range i at start ≡ drop at i = ap (slice_range i at) end ∙ take_rest i at in
    subst IsWs rest (ws_before i at start run)

pub ends_there : (i : List ℕ) (at start : ℕ) → IsRunAt is_ws i at start → IsWs (drop at i) → start ≡ length i
ends_there i at start run ws =
    let none : drop start i ≡ [] = sym (rest_behind i at start run) ∙ without_all (drop at i) ws in
    omega (arith, length-drop start i, ap length none, run.within)
