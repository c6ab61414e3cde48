-- From the places that scanners find to what lies behind white space.
use Rattle.std.proofs.Common.{◌≡◌, ◌+◌, ◌-◌, ◌<◌, ◌≤◌, ℕ, suc, List, [], ◌∷◌, ◌++◌, length, drop, get_or, slice_range, true, false, sym, ap, ◌∙◌, arith, subst}
use Rattle.std.proofs.lemmas.List.{length-drop, length-append, get_or-drop, get_or-take}
use Rattle.smithy_json_grammar.specs.Ascii.{is_ws}
use Rattle.smithy_json_grammar.specs.Grammar.{IsWs}
use Rattle.smithy_json_grammar.specs.Standing.{IsRunAt}
use Rattle.smithy_json_grammar.proofs.SliceLemmas.{drop-slice, length-slice, slice_between}
use Rattle.smithy_json_values.specs.Standing.{Lies, without_ws}
use Rattle.smithy_json_values.specs.Private.Lexical.{Stops, past_ws}

all_ws : (s : List ℕ) → ((k : ℕ) → k < length s → is_ws (get_or s k 0) ≡ true) → IsWs s
all_ws [] h = tt
all_ws (b ∷ s) h = (h 0 (omega arith), all_ws s (λ k l. h (suc k) (omega arith)))

stops_first : (s : List ℕ) → (0 < length s → is_ws (get_or s 0 0) ≡ false) → Stops is_ws s
stops_first [] h = tt
stops_first (b ∷ s) h = h (omega arith)

-- the text of P begins with another byte than white space
abbrev pub IsPlain : (List ℕ → Type 0) → Type 0
IsPlain P = (text rest : List ℕ) → P text → Stops is_ws (text ++ rest)

module _ (i : List ℕ) (at start : ℕ) (run : IsRunAt is_ws i at start) where
  pub ws_before : IsWs (slice_range i at start)
  ws_before = all_ws (slice_range i at start) (λ k l.
      let size = length-slice i at start run.ordered run.within in
      let short : k < start - at = omega (arith, size, l) in
      let same : get_or (slice_range i at start) k 0 ≡ get_or i (at + k) 0 = get_or-take (start - at) (drop at i) k 0 short ∙ get_or-drop at i k 0 in
      ap is_ws same ∙ run.pass (at + k) (omega arith) (omega arith))

  pub plain_behind : Stops is_ws (drop start i)
  plain_behind = stops_first (drop start i) (λ l.
      let here : start + 0 ≡ start = omega arith in
      let same : get_or (drop start i) 0 0 ≡ get_or i start 0 = get_or-drop start i 0 0 ∙ ap (λ n. get_or i n 0) here in
      ap is_ws same ∙ run.stops (omega (arith, l, length-drop start i)))

  pub rest_behind : without_ws (drop at i) ≡ drop start i
  rest_behind = ap without_ws (drop-slice i at start run.ordered) ∙ past_ws (slice_range i at start) (drop start i) ws_before plain_behind

  -- what stands behind the white space lies there
  pub stands_lies : (P : List ℕ → Type 0) (e : ℕ) → start ≤ e → e ≤ length i → P (slice_range i start e) → Lies P i at e
  stands_lies P e ordered within text =
      let whole : drop at i ≡ slice_range i at start ++ (slice_range i start e ++ drop e i) =
      drop-slice i at start run.ordered ∙ ap (λ rest. slice_range i at start ++ rest) (drop-slice i start e ordered) in
      (omega (arith, run.ordered), within, (slice_range i at start, slice_range i start e, whole, ws_before, text))

  -- and what lies there stands behind the white space
  pub lies_behind : (P : List ℕ → Type 0) (e : ℕ) → IsPlain P → (h : Lies P i at e) → drop start i ≡ h.2.1 ++ drop e i
  lies_behind P e plain h =
      sym rest_behind ∙ ap without_ws h.2.2 ∙ past_ws h.2.0 (h.2.1 ++ drop e i) h.2.3 (plain h.2.1 (drop e i) h.2.4)

  pub lies_ordered : (P : List ℕ → Type 0) (e : ℕ) → IsPlain P → Lies P i at e → start ≤ e
  lies_ordered P e plain h =
      let n = ap length (lies_behind P e plain h) in
      omega (arith, n, length-append h.2.1 (drop e i), length-drop start i, length-drop e i, h.1, run.within)

  pub lies_stands : (P : List ℕ → Type 0) (e : ℕ) → IsPlain P → Lies P i at e → P (slice_range i start e)
  lies_stands P e plain h =
      let ordered = lies_ordered P e plain h in
      let same = slice_between i start e h.2.1 ordered h.1 (lies_behind P e plain h) in
      subst P (sym same) h.2.4
