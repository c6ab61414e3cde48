-- Skipping over the tokens of a tree: it ends with the tree.
use Rattle.std.proofs.Common.{◌≡◌, ◌+◌, ◌≤◌, ◌<◌, ℕ, suc, List, [], ◌∷◌, ◌++◌, false, ◌==◌, cond, Option, Some, None, Result, Ok, Err, MatchResult, ◌⊎◌, inl, inr, refl, sym, ap, ◌∙◌, arith, subst}
use Rattle.std.proofs.lemmas.Bool.Decides.{nat_tests}
use Rattle.std.specs.Option.{option_map_or}
use Rattle.smithy_json_grammar.specs.Tree.{Json, null, boolean, number, string, array, object, Elements, no_elements, element, Members, no_members, member, nesting, elements_nesting, members_nesting}
use Rattle.smithy_json_grammar.specs.HeldNumber.{number_of}
use Rattle.smithy_json_tokens.specs.Tokens.{JsonToken, tokens, element_tokens, member_tokens, number_token, start_array, end_array, start_object, end_object, value_number, value_uncarried}
use Rattle.smithy_json_tokens.specs.TokenView.{token_view, token_offset}
use Rattle.smithy_json_tokens.specs.TokenRules.{Cursor, next_answer}
use Rattle.smithy_json_tokens.specs.TokenRuns.{Finds, Leads}
use Rattle.smithy_json_tokens.specs.IteratorView.{cursor_of, GivesNext, GivesError}
use Rattle.smithy_json_tokens.specs.Skipping.{skip_token, SkipEnds, SkipStops, Skips}
use Rattle.smithy_json_tokens.specs.declared.skip.Skip.TheVariants.{On, Done, Wrong}
use Rattle.smithy_json_tokens.specs.declared.token.Token.{Token}
use Rattle.smithy_json_tokens.specs.declared.token_iter.JsonTokenIterator.{JsonTokenIterator}
use Rattle.smithy_json_tokens.specs.declared.error.DeserializeError.{DeserializeError}
use Rattle.smithy_json_tokens.specs.declared.error.DeserializeErrorKind.TheVariants.{NoMemory}

-- ---- over tokens alone

-- the tokens are passed, and lead from n open containers to m
abbrev pub SkipRun : ℕ → ℕ → List JsonToken → ℕ → Type 0
SkipRun limit n [] m = n ≡ m
SkipRun limit n (t ∷ ts) m = (k : ℕ) × (skip_token limit n t ≡ On k) × SkipRun limit k ts m

-- the tokens are passed, and the last of them ends it
pub record SkipAll (limit n : ℕ) (ts : List JsonToken) : Type 0 where
  pub passed : List JsonToken
  pub last : JsonToken
  pub before : ℕ
  pub split : ts ≡ passed ++ last ∷ []
  pub run : SkipRun limit n passed before
  pub done : skip_token limit before last ≡ Done

run_on : (limit n m k : ℕ) (ts us : List JsonToken) → SkipRun limit n ts m → SkipRun limit m us k → SkipRun limit n (ts ++ us) k
run_on limit n m k [] us h r = subst (λ x. SkipRun limit x us k) (sym h) r
run_on limit n m k (t ∷ ts) us h r = (h.0, h.1, run_on limit h.0 m k ts us h.2 r)

module _ (limit : ℕ) where
  started : (n : ℕ) → n < limit → cond (n == limit) Wrong (On (suc n)) ≡ On (suc n)
  started n h = let other : (n == limit) ≡ false = grind (arith, nat_tests) in ap (λ full. cond full Wrong (On (suc n))) other

  number_run : (n : ℕ) (raw : List ℕ) → skip_token limit (suc n) (number_token raw) ≡ On (suc n)
  number_run n raw = go (number_of raw)
    where
      go : (m : Option _) → skip_token limit (suc n) (option_map_or value_number m (value_uncarried raw)) ≡ On (suc n)
      go (Some m) = refl
      go None = refl

  mutual
    -- inside a container a tree is passed
    pub tree_run : (tree : Json) (n : ℕ) → suc n + nesting tree ≤ limit → SkipRun limit (suc n) (tokens tree) (suc n)
    tree_run null n h = (suc n, refl, refl)
    tree_run (boolean b) n h = (suc n, refl, refl)
    tree_run (number raw) n h = (suc n, number_run n raw, refl)
    tree_run (string raw) n h = (suc n, refl, refl)
    tree_run (array es) n h =
        (suc (suc n), started (suc n) (omega arith), run_on limit (suc (suc n)) (suc (suc n)) (suc n) (element_tokens es) (end_array ∷ []) (elements_run es (suc n) (omega arith)) (suc n, refl, refl))
    tree_run (object ms) n h =
        (suc (suc n), started (suc n) (omega arith), run_on limit (suc (suc n)) (suc (suc n)) (suc n) (member_tokens ms) (end_object ∷ []) (members_run ms (suc n) (omega arith)) (suc n, refl, refl))

    pub elements_run : (es : Elements) (n : ℕ) → suc n + elements_nesting es ≤ limit → SkipRun limit (suc n) (element_tokens es) (suc n)
    elements_run no_elements n h = refl
    elements_run (element j es) n h =
        run_on limit (suc n) (suc n) (suc n) (tokens j) (element_tokens es) (tree_run j n (omega arith)) (elements_run es n (omega arith))

    pub members_run : (ms : Members) (n : ℕ) → suc n + members_nesting ms ≤ limit → SkipRun limit (suc n) (member_tokens ms) (suc n)
    members_run no_members n h = refl
    members_run (member name j ms) n h =
        (suc n, refl, run_on limit (suc n) (suc n) (suc n) (tokens j) (member_tokens ms) (tree_run j n (omega arith)) (members_run ms n (omega arith)))

  number_done : (raw : List ℕ) → skip_token limit 0 (number_token raw) ≡ Done
  number_done raw = go (number_of raw)
    where
      go : (m : Option _) → skip_token limit 0 (option_map_or value_number m (value_uncarried raw)) ≡ Done
      go (Some m) = refl
      go None = refl

  -- outside, a tree that doesn't nest too deep is passed whole
  pub tree_skipped : (tree : Json) → nesting tree ≤ limit → SkipAll limit 0 (tokens tree)
  tree_skipped null h = record { passed = []; last = _; before = 0; split = refl; run = refl; done = refl }
  tree_skipped (boolean b) h = record { passed = []; last = _; before = 0; split = refl; run = refl; done = refl }
  tree_skipped (number raw) h = record { passed = []; last = number_token raw; before = 0; split = refl; run = refl; done = number_done raw }
  tree_skipped (string raw) h = record { passed = []; last = _; before = 0; split = refl; run = refl; done = refl }
  tree_skipped (array es) h = record {
    passed = start_array ∷ element_tokens es;
    last = end_array;
    before = 1;
    split = refl;
    run = (1, started 0 (omega arith), elements_run es 0 (omega arith));
    done = refl;
  }
  tree_skipped (object ms) h = record {
    passed = start_object ∷ member_tokens ms;
    last = end_object;
    before = 1;
    split = refl;
    run = (1, started 0 (omega arith), members_run ms 0 (omega arith));
    done = refl;
  }

-- ---- over the iterator

abbrev pub IsOutOfMemory : Result (Unit {0}) DeserializeError → Type 0
IsOutOfMemory result = MatchResult result (λ done. ⊥) (λ e. e.kind ≡ NoMemory)

-- an error where the rules find a token is the want of memory
pub error_is : (s t : JsonTokenIterator) (e : DeserializeError) (u : JsonToken) (d : Cursor) → GivesError s e t → Finds (next_answer (cursor_of s)) u d → e.kind ≡ NoMemory
error_is s t e u d (spent, inl h) f = absurd (subst (λ a. Finds a u d) h.0 f)
error_is s t e u d (spent, inr h) f = h.0

-- what one item is, where the rules find a token
pub none_is : (s t : JsonTokenIterator) (u : JsonToken) (e : Cursor) → GivesNext s None t → Finds (next_answer (cursor_of s)) u e → ⊥
none_is s t u e step f = subst (λ a. Finds a u e) step.1.0 f

pub token_is : (s t : JsonTokenIterator) (token : Token) (u : JsonToken) (e : Cursor) → GivesNext s (Some (Ok token)) t → Finds (next_answer (cursor_of s)) u e → (token_view token ≡ u) × (cursor_of t ≡ e)
token_is s t token u e step f = subst (λ a. Finds a u e) step.1.0 f

module _ (limit : ℕ) (last : JsonToken) (d : Cursor) where
  abbrev Outcome : Result (Unit {0}) DeserializeError → JsonTokenIterator → Type 0
  Outcome result t = ((result ≡ Ok tt) × (cursor_of t ≡ d)) ⊎ IsOutOfMemory result

  -- the last token comes
  stops_at_last : (n : ℕ) (s t : JsonTokenIterator) (item : Option (Result Token DeserializeError)) (result : Result (Unit {0}) DeserializeError) → skip_token limit n last ≡ Done
      → Leads (cursor_of s) (last ∷ []) d → GivesNext s item t → SkipStops token_view token_offset GivesNext limit n item result → Outcome result t
  stops_at_last n s t None result done leads step stops = absurd (none_is s t last leads.0 step leads.1)
  stops_at_last n s t (Some (Ok token)) result done leads step stops =
      let is = token_is s t token last leads.0 step leads.1 in
      let ends : skip_token limit n (token_view token) ≡ Done = ap (skip_token limit n) is.0 ∙ done in
      inl (subst (λ x. SkipEnds x (token_offset token) result) ends stops, is.1 ∙ leads.2)
  stops_at_last n s t (Some (Err e)) result done leads step stops =
      inr (subst IsOutOfMemory (sym stops) (error_is s t e last leads.0 step.1 leads.1))

  -- a token comes behind which it goes on
  stops_early : (n k : ℕ) (s t : JsonTokenIterator) (u : JsonToken) (e : Cursor) (item : Option (Result Token DeserializeError)) (result : Result (Unit {0}) DeserializeError) → skip_token limit n u ≡ On k
      → Finds (next_answer (cursor_of s)) u e → GivesNext s item t → SkipStops token_view token_offset GivesNext limit n item result → Outcome result t
  stops_early n k s t u e None result on f step stops = absurd (none_is s t u e step f)
  stops_early n k s t u e (Some (Ok token)) result on f step stops =
      let is = token_is s t token u e step f in
      absurd (subst (λ x. SkipEnds x (token_offset token) result) (ap (skip_token limit n) is.0 ∙ on) stops)
  stops_early n k s t u e (Some (Err x)) result on f step stops =
      inr (subst IsOutOfMemory (sym stops) (error_is s t x u e step.1 f))

  pub skip_follows : (init : List JsonToken) (n m : ℕ) (s : JsonTokenIterator) (passed : List Token) (result : Result (Unit {0}) DeserializeError) (t : JsonTokenIterator)
      → SkipRun limit n init m → skip_token limit m last ≡ Done → Leads (cursor_of s) (init ++ last ∷ []) d → Skips token_view token_offset GivesNext limit passed n s result t → Outcome result t
  skip_follows [] n m s [] result t run done leads h =
      stops_at_last n s t h.0 result (ap (λ k. skip_token limit k last) run ∙ done) leads h.1 h.2
  skip_follows [] n m s (p ∷ ps) result t run done leads h =
      let j = h.2.0 in
      let is = token_is s j p last leads.0 h.2.1 leads.1 in
      let bad : On h.0 ≡ Done = sym h.1 ∙ ap (skip_token limit n) is.0 ∙ ap (λ k. skip_token limit k last) run ∙ done in cc
  skip_follows (u ∷ us) n m s [] result t run done leads h =
      stops_early n run.0 s t u leads.0 h.0 result run.1 leads.1 h.1 h.2
  skip_follows (u ∷ us) n m s (p ∷ ps) result t run done leads h =
      let j = h.2.0 in
      let is = token_is s j p u leads.0 h.2.1 leads.1 in
      let both : On h.0 ≡ On run.0 = sym h.1 ∙ ap (skip_token limit n) is.0 ∙ run.1 in
      let same : h.0 ≡ run.0 = cc in
      skip_follows us run.0 m j ps result t run.2 done (subst (λ c. Leads c (us ++ last ∷ []) d) (sym is.1) leads.2)
      (subst (λ k. Skips token_view token_offset GivesNext limit ps k j result t) same h.2.2)

-- where the next calls give a tree's tokens, which nests no deeper than allowed, the skip passes exactly them
pub skips_tree : (limit : ℕ) (tree : Json) (d : Cursor) (s : JsonTokenIterator) (passed : List Token) (result : Result (Unit {0}) DeserializeError) (t : JsonTokenIterator) → nesting tree ≤ limit
    → Leads (cursor_of s) (tokens tree) d → Skips token_view token_offset GivesNext limit passed 0 s result t
    → ((result ≡ Ok tt) × (cursor_of t ≡ d)) ⊎ IsOutOfMemory result
skips_tree limit tree d s passed result t shallow leads h =
    let all = tree_skipped limit tree shallow in
    skip_follows limit all.last d all.passed 0 all.before s passed result t all.run all.done (subst (λ ts. Leads (cursor_of s) ts d) all.split leads) h
