-- What lies from the first byte behind white space on, and that a value begins with this byte.
use Rattle.std.proofs.Common.{append_assoc, ◌≤◌, ◌≡◌, ◌+◌, ◌∙◌, ℕ, List, [], ◌∷◌, ◌++◌, drop, false, length, slice_range, sym, ap, arith, subst, take, ◌-◌}
use Rattle.std.proofs.lemmas.List.{drop_more, length-drop, length-append}
use Rattle.smithy_json_grammar.proofs.SliceLemmas.{drop-slice}
use Rattle.smithy_json_grammar.specs.Ascii.{is_ws}
use Rattle.smithy_json_grammar.specs.Grammar.{IsWs}
use Rattle.smithy_json_grammar.specs.Tree.{Json, null, boolean, number, string, array, object, nesting}
use Rattle.smithy_json_values.specs.Standing.{Lies, IsByte, Follows, TreeLies, without_ws}
use Rattle.smithy_json_values.specs.Private.Lexical.{first, value_begins}
use Rattle.smithy_json_values.specs.Private.BytePlaces.{past_byte}
use Rattle.smithy_json_values.specs.Private.ValuePlaces.{past_value}
use Rattle.smithy_json_values.specs.Private.NextInContainer.{IsFirstByte}
use Rattle.smithy_json_values.proofs.FirstBytes.{BeginsWith, tree_begins_with}
use Rattle.smithy_json_values.proofs.FirstBytePlaces.{first_lies, without_all}

-- where this byte comes first, each value that lies there begins with it
pub begins_with_byte : (i : List ℕ) (at b inside : ℕ) → is_ws b ≡ false → Lies (IsByte b) i at inside
    → (d : ℕ) (x : Json) (e : ℕ) → TreeLies d x i at e → BeginsWith x b
begins_with_byte i at b inside plain here d x e h =
    subst (λ s. BeginsWith x (first s)) (past_byte b (drop at i) (drop inside i) plain here.2) (tree_begins_with d i at e x h)

-- what follows a value that is no container depends on no depth
pub follows_flat : (d d' : ℕ) (x : Json) (rest : List ℕ) → nesting x ≡ 0 → Follows d x rest → Follows d' x rest
follows_flat d d' null rest flat h = h
follows_flat d d' (boolean b) rest flat h = h
follows_flat d d' (number raw) rest flat h = h
follows_flat d d' (string raw) rest flat h = h
follows_flat d d' (array es) rest flat h = absurd (omega (arith, flat))
follows_flat d d' (object ms) rest flat h = absurd (omega (arith, flat))

-- ---- from the first byte on

ws_both : (s r : List ℕ) → IsWs s → IsWs r → IsWs (s ++ r)
ws_both [] r h k = k
ws_both (b ∷ s) r h k = (h.0, ws_both s r h.1 k)

module _ (i : List ℕ) (at b start : ℕ) (here : IsFirstByte i at b start) where
  pub byte_itself : IsFirstByte i start b start
  byte_itself =
      let none : start - start ≡ 0 = omega arith in
      let empty : slice_range i start start ≡ [] = ap (λ n. take n (drop start i)) none in
      record {
        ordered = omega arith;
        within = here.within;
        ws = subst IsWs (sym empty) tt;
        is = here.is;
        plain = here.plain;
      }

  pub rest_there : without_ws (drop at i) ≡ drop start i
  rest_there =
      let byte = first_lies i at b start here in
      past_byte b (drop at i) (drop (start + 1) i) here.plain byte.2
      ∙ sym (drop_more i start 0 here.within ∙ ap (λ x. x ∷ drop (start + 1) i) here.is)

  -- what lies from there on lies from before the white space on
  pub lies_before : (P : List ℕ → Type 0) (e : ℕ) → Lies P i start e → Lies P i at e
  lies_before P e h =
      let whole = drop-slice i at start here.ordered ∙ ap (λ r. slice_range i at start ++ r) h.2.2 ∙ sym (append_assoc (slice_range i at start) h.2.0 (h.2.1 ++ drop e i)) in
      (omega (arith, here.ordered, h.0), h.1, (slice_range i at start ++ h.2.0, h.2.1, whole, ws_both (slice_range i at start) h.2.0 here.ws h.2.3, h.2.4))

  -- and a value back
  pub value_behind : (d : ℕ) (x : Json) (e : ℕ) → TreeLies d x i at e → TreeLies d x i start e
  value_behind d x e h =
      let left : drop start i ≡ h.0.2.1 ++ drop e i = sym rest_there ∙ past_value x (drop at i) (drop e i) h.0.2 in
      let n = ap length left in
      let ordered : start ≤ e = omega (arith, n, length-append h.0.2.1 (drop e i), length-drop start i, length-drop e i, h.0.1, here.within) in
      ((ordered, h.0.1, ([], h.0.2.1, left, tt, h.0.2.4)), h.1)

-- where only white space is left, no value lies
pub nothing_lies : (i : List ℕ) (at : ℕ) → IsWs (drop at i) → (d : ℕ) (x : Json) (e : ℕ) → TreeLies d x i at e → ⊥
nothing_lies i at ws d x e h =
    let begins = value_begins x h.0.2.1 h.0.2.4 in
    let none : [] ≡ h.0.2.1 ++ drop e i = sym (without_all (drop at i) ws) ∙ past_value x (drop at i) (drop e i) h.0.2 in
    let both : ◌≡◌ {A = List ℕ} [] (begins.byte ∷ (begins.more ++ drop e i)) = none ∙ ap (λ t. t ++ drop e i) begins.is in cc
