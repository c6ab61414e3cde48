-- What comes behind blanks.
use Rattle.std.proofs.Common.{◌≡◌, ◌+◌, ◌-◌, ◌≤◌, ◌<◌, ℕ, List, [], ◌∷◌, length, drop, get_or, refl, sym, ap, ◌∙◌, arith, subst, reverse, ◌++◌, Result, Ok, Err, IfOk, OnOk, cond, false, slice_index}
use Rattle.std.proofs.lemmas.List.{drop-drop, length-drop, drop_more, get_or-drop, reverse-append}
use Rattle.std.proofs.lemmas.Bool.Decides.{nat_tests}
use Rattle.std.proofs.lemmas.List.Sums.{prefix_len_is}
use Rattle.std.specs.List.{prefix_len}
use Rattle.smithy_json_grammar.specs.Ascii.{is_ws}
use Rattle.smithy_json_grammar.specs.Standing.{IsRunAt}
use Rattle.smithy_json_tokens.specs.declared.token_turn.State.{State}
use Rattle.smithy_json_tokens.specs.declared.token_turn.State.TheVariants.{Initial}
use Rattle.smithy_json_tokens.specs.TokenRules as rules
use Rattle.smithy_json_tokens.specs.TokenRules.{skip_ws, state_turn, value_turn, scanned, ends, scans, found, behind, turn_answer}
use Rattle.smithy_json_tokens.specs.TokenView.{token_view, token_offset}
use Rattle.smithy_json_tokens.specs.Private.Turns.{HasScan, IsInTurn}
use Rattle.smithy_json_tokens.specs.declared.token_turn.Turn.{Turn}

-- blanks that stand at an offset
pub past_blanks : (input : List ℕ) (at end : ℕ) → IsRunAt is_ws input at end → drop end input ≡ skip_ws (drop at input)
past_blanks input at end run =
    let n = end - at in
    let place : at + n ≡ end = omega (arith, run.ordered) in
    let len : n ≤ length (drop at input) = omega (arith, length-drop at input, run.ordered, run.within) in
    let count = prefix_len_is is_ws (drop at input) n 0 len
    (λ k small. ap is_ws (get_or-drop at input k 0) ∙ run.pass (at + k) (omega arith) (omega (arith, run.ordered)))
    (λ more. ap is_ws (get_or-drop at input n 0 ∙ ap (λ k. get_or input k 0) place) ∙ run.stops (omega (arith, length-drop at input, run.ordered))) in
    ap (λ k. drop k input) (sym place) ∙ sym (drop-drop n at input) ∙ ap (λ k. drop k (drop at input)) (sym count)

-- a value outside every container
pub initial_turn : (input : List ℕ) (at : ℕ) → at < length input → state_turn Initial (drop at input) ≡ value_turn Initial (drop at input)
initial_turn input at within =
    let front = drop_more input at 0 within in
    ap (state_turn Initial) front ∙ ap (value_turn Initial) (sym front)

-- ---- the states that an iterator comes back to

pub enters : (old : List State) (s : State) → reverse (old ++ s ∷ []) ≡ s ∷ reverse old
enters old s = reverse-append old (s ∷ [])

-- ---- a token of a turn

pub record InTurn (input : List ℕ) (at : ℕ) (t : Turn) (turn : rules.Turn) : Type 0 where
  pub same : turn ≡ scans t.after (drop (token_offset t.scanned.token) input) (scanned (token_view t.scanned.token) (drop t.scanned.end input))
  pub ordered : at ≤ token_offset t.scanned.token
  pub some : token_offset t.scanned.token < t.scanned.end
  pub within : t.scanned.end ≤ length input

pub in_turn : (input : List ℕ) (at : ℕ) (t : Turn) (turn : rules.Turn) → HasScan input (Ok t) turn → IsInTurn input at t turn → InTurn input at t turn
in_turn input at t ends h k = absurd h
in_turn input at t (scans after here scan) h k = record {
  same = rw (← k.0, ← k.1, ← h) refl;
  ordered = k.2;
  some = k.3;
  within = k.4;
}

-- the answer of such a turn
pub token_answer : (input : List ℕ) (at : ℕ) (outer : List State) (t : Turn) (turn : rules.Turn) → InTurn input at t turn
    → turn_answer outer turn ≡ found (token_view t.scanned.token) (drop (token_offset t.scanned.token) input) (behind (token_view t.scanned.token) t.after outer (drop t.scanned.end input))
token_answer input at outer t turn h = ap (turn_answer outer) h.same

-- ---- what a result has where it is Ok

pub if_ok : {A E : Type 0} (r : Result A E) (x : A) (X : Type 0) (P : A → Type 0) → IfOk r (λ y. y ≡ x) → OnOk r X → (X → P x) → IfOk r P
if_ok (Ok y) x X P h k f = subst P (sym h) (f k)
if_ok (Err e) x X P h k f = tt

pub on_ok : {A E : Type 0} (r : Result A E) (X Y : Type 0) → OnOk r X → (X → Y) → OnOk r Y
on_ok (Ok y) X Y k f = f k
on_ok (Err e) X Y k f = tt

-- ---- where no blank comes

no_blank : (b : ℕ) → 32 < b → is_ws b ≡ false
no_blank b h = grind (arith, nat_tests)

pub stays : (input : List ℕ) (at : ℕ) → at < length input → 32 < slice_index input at → drop at input ≡ skip_ws (drop at input)
stays input at within high =
    let front = drop_more input at 0 within in
    let none : prefix_len is_ws (slice_index input at ∷ drop (at + 1) input) ≡ 0 =
    ap (λ w. cond w (1 + prefix_len is_ws (drop (at + 1) input)) 0) (no_blank (slice_index input at) high) in
    sym (ap (λ n. drop n (drop at input)) (ap (prefix_len is_ws) front ∙ none))
