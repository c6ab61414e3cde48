-- A run of bytes of numbers that stands behind ws is the token of a number that lies there, and a number of a grammar is such a run.
use Rattle.std.proofs.Common.{◌≡◌, ◌+◌, ◌-◌, ◌<◌, ◌≤◌, ℕ, zero, suc, List, [], ◌∷◌, length, drop, get_or, slice_range, Bool, true, false, refl, sym, ap, ◌∙◌, arith, inl, inr, IsUtf8}
use Rattle.std.proofs.lemmas.Bool.Decides.{nat_tests}
use Rattle.std.proofs.lemmas.List.{length-append, length-drop, get_or-drop, get_or-take}
use Rattle.std.proofs.lemmas.Str.{IsUtf8-from_ascii}
use Rattle.std.specs.List.{AllByRecursion}
use Rattle.smithy_json_grammar.specs.Ascii.{is_ws, is_numeric}
use Rattle.smithy_json_grammar.specs.Grammar.{IsInt}
use Rattle.smithy_json_grammar.specs.NumberGrammar.{IsIntOf, IsNumberOf}
use Rattle.smithy_json_grammar.specs.NumberText.{is_number_of}
use Rattle.smithy_json_grammar.specs.Standing.{IsRunAt, StandsAt}
use Rattle.smithy_json_grammar.specs.declared.number_grammar.NumberGrammar.{NumberGrammar}
use Rattle.smithy_json_grammar.proofs.AllowedNumberLemmas.{tells_numbers_of}
use Rattle.smithy_json_grammar.proofs.NumberRunLemmas.{number_is_run}
use Rattle.smithy_json_grammar.proofs.SliceLemmas.{length-slice}
use Rattle.smithy_json_values.specs.Settings.{Settings}
use Rattle.smithy_json_values.specs.Scalar.{a_number}
use Rattle.smithy_json_values.specs.Tokens.{IsNumberRun, EndsRun, IsToken}
use Rattle.smithy_json_values.specs.LexicalGrammar.{number_test}
use Rattle.smithy_json_values.specs.Private.NumberAtPlace.{NumberStands, NumberLies}
use Rattle.smithy_json_values.specs.Private.Wire.{tokens_are_wire}
use Rattle.smithy_json_values.proofs.NumberTexts.{pass_is_ascii}
use Rattle.smithy_json_values.proofs.ScannedPlaces.{IsPlain, stands_lies, lies_stands, lies_ordered}

-- ---- bytes of numbers

abbrev AreNumeric : List ℕ → Type 0
AreNumeric s = AllByRecursion (λ b. is_numeric b ≡ true) s

all_numeric : (s : List ℕ) → ((k : ℕ) → k < length s → is_numeric (get_or s k 0) ≡ true) → AreNumeric s
all_numeric [] h = tt
all_numeric (b ∷ s) h = (h 0 (omega arith), all_numeric s (λ k l. h (suc k) (omega arith)))

numeric_at : (s : List ℕ) (k : ℕ) → AreNumeric s → k < length s → is_numeric (get_or s k 0) ≡ true
numeric_at [] k are short = absurd (omega (arith, short))
numeric_at (b ∷ s) zero are short = are.0
numeric_at (b ∷ s) (suc k) are short = numeric_at s k are.1 (omega (arith, short))

some_run : (s : List ℕ) → 0 < length s → AreNumeric s → IsNumberRun s
some_run [] some are = absurd (omega (arith, some))
some_run (b ∷ s) some are = are

run_numeric : (s : List ℕ) → IsNumberRun s → (0 < length s) × AreNumeric s
run_numeric [] run = absurd run
run_numeric (b ∷ s) run = (omega arith, run)

ends_run : (s : List ℕ) → (0 < length s → is_numeric (get_or s 0 0) ≡ false) → EndsRun s
ends_run [] h = tt
ends_run (b ∷ s) h = h (omega arith)

run_ends : (s : List ℕ) → EndsRun s → 0 < length s → is_numeric (get_or s 0 0) ≡ false
run_ends [] h some = absurd (omega (arith, some))
run_ends (b ∷ s) h some = h

numeric_plain : (b : ℕ) → is_numeric b ≡ true → is_ws b ≡ false
numeric_plain b h = grind (arith, nat_tests)

plain_number : (raw : List ℕ) → IsPlain (IsToken (a_number raw))
plain_number [] text rest h = absurd h.1
plain_number (b ∷ raw) text rest h = rw h.0 (numeric_plain b h.1.0)

-- ---- a run between two places

module _ (i : List ℕ) (start e : ℕ) (run : IsRunAt is_numeric i start e) where
  byte_is : (k : ℕ) → k < e - start → get_or (slice_range i start e) k 0 ≡ get_or i (start + k) 0
  byte_is k short = get_or-take (e - start) (drop start i) k 0 short ∙ get_or-drop start i k 0

  pub run_is_numeric : AreNumeric (slice_range i start e)
  run_is_numeric = all_numeric (slice_range i start e) (λ k l.
      let size = length-slice i start e run.ordered run.within in
      let short : k < e - start = omega (arith, size, l) in
      ap is_numeric (byte_is k short) ∙ run.pass (start + k) (omega arith) (omega (arith, short)))

  pub run_is_utf8 : IsUtf8 (slice_range i start e)
  run_is_utf8 = IsUtf8-from_ascii (slice_range i start e) (pass_is_ascii (slice_range i start e) run_is_numeric)

  behind_run : EndsRun (drop e i)
  behind_run = ends_run (drop e i) (λ l.
      let here : e + 0 ≡ e = omega arith in
      ap is_numeric (get_or-drop e i 0 0 ∙ ap (λ n. get_or i n 0) here) ∙ run.stops (omega (arith, l, length-drop e i)))

  -- the longest run is determined
  no_longer : (f : ℕ) → IsRunAt is_numeric i start f → e < f → ⊥
  no_longer f other longer =
      let within = other.within in
      let stops = run.stops (omega (arith, longer, within)) in
      let passes = other.pass e run.ordered longer in
      let both : true ≡ false = sym passes ∙ stops in cc

pub same_run : (i : List ℕ) (start e f : ℕ) → IsRunAt is_numeric i start e → IsRunAt is_numeric i start f → e ≡ f
same_run i start e f run other = omega (arith, no_longer i start e run f other, no_longer i start f other e run)

-- ---- behind ws

module _ (i : List ℕ) (at start : ℕ) (ws : IsRunAt is_ws i at start) (strict : Bool) (test : List ℕ → Bool) where
  pub number_lies : (e : ℕ) → NumberStands strict test i start e → NumberLies strict test i at (slice_range i start e) e
  number_lies e n =
      let raw = slice_range i start e in
      let size = length-slice i start e n.run.ordered n.run.within in
      let some = n.some in
      let token = some_run raw (omega (arith, size, some)) (run_is_numeric i start e n.run) in
      ((stands_lies i at start ws (IsToken (a_number raw)) e n.run.ordered n.run.within (refl, token), behind_run i start e n.run, n.boundary), n.passes)

  pub number_stands : (raw : List ℕ) (e : ℕ) → NumberLies strict test i at raw e → (slice_range i start e ≡ raw) × NumberStands strict test i start e
  number_stands raw e h =
      let lies = h.0.0 in
      let token = lies_stands i at start ws (IsToken (a_number raw)) e (plain_number raw) lies in
      let ordered = lies_ordered i at start ws (IsToken (a_number raw)) e (plain_number raw) lies in
      let are = run_numeric raw token.1 in
      let within = lies.1 in
      let size = length-slice i start e ordered within in
      let long : length (slice_range i start e) ≡ length raw = ap length token.0 in (
        token.0,
        record {
          run = record {
            ordered = ordered;
            within = within;
            pass = λ k from to.
                let there : start + (k - start) ≡ k = omega (arith, from) in
                let short : k - start < e - start = omega (arith, from, to) in
                let same : get_or (slice_range i start e) (k - start) 0 ≡ get_or i k 0 =
                get_or-take (e - start) (drop start i) (k - start) 0 short ∙ get_or-drop start i (k - start) 0 ∙ ap (λ n. get_or i n 0) there in
                sym (ap is_numeric same) ∙ ap (λ s. is_numeric (get_or s (k - start) 0)) token.0 ∙ numeric_at raw (k - start) are.1 (omega (arith, short, size, long));
            stops = λ l.
                let here : e + 0 ≡ e = omega arith in
                sym (ap is_numeric (get_or-drop e i 0 0 ∙ ap (λ n. get_or i n 0) here)) ∙ run_ends (drop e i) h.0.1 (omega (arith, l, length-drop e i));
          };
          some = let positive = are.0 in omega (arith, size, long, positive);
          passes = ap test token.0 ∙ h.1;
          boundary = h.0.2;
        },
      )

-- one number lies at a place
pub one_number : (strict : Bool) (i : List ℕ) (a e f : ℕ) (raw other : List ℕ) (test : List ℕ → Bool) → NumberLies strict test i a raw e → NumberLies strict test i a other f → raw ≡ other
one_number strict i a e f raw other test h k =
    let same = ((tokens_are_wire strict).same_scalar i 0 (a_number raw) (a_number other) a e f h.0 k.0).0 in cc

-- ---- numbers of a grammar

no_int : (int : List ℕ) → length int ≡ 0 → IsInt int → ⊥
no_int [] none is = is
no_int (d ∷ int) none is = omega (arith, none)

no_number : (g : NumberGrammar) (raw : List ℕ) → length raw ≡ 0 → IsNumberOf g raw → ⊥
no_number g raw none n = by n.is_int
  where
    size : length n.minus + (length n.int + (length n.frac + length n.exp)) ≡ 0
    size = sym (ap length n.parts ∙ simp length-append) ∙ none

    by : IsIntOf g n.minus n.int n.frac → ⊥
    by (inl is) = no_int n.int (omega (arith, size)) is
    by (inr (inl are)) = let some = are.1.0 in omega (arith, size, some)
    by (inr (inr is)) = let some = is.4 in omega (arith, size, some)

pub grammar_stands : (g : NumberGrammar) (i : List ℕ) (start e : ℕ) → StandsAt (IsNumberOf g) i start e → NumberStands true (is_number_of g) i start e
grammar_stands g i start e n =
    let size = length-slice i start e n.ordered n.within in
    let ordered = n.ordered in record {
      run = number_is_run g i start e n;
      some = by_length size ordered;
      passes = (tells_numbers_of g (slice_range i start e)).1 n.text;
      boundary = n.boundary;
    }
  where
    by_length : length (slice_range i start e) ≡ e - start → start ≤ e → start < e
    by_length size ordered = omega (arith, λ (none : length (slice_range i start e) ≡ 0). no_number g (slice_range i start e) none n.text, size, ordered)

pub stands_grammar : (g : NumberGrammar) (i : List ℕ) (start e : ℕ) → NumberStands true (is_number_of g) i start e → StandsAt (IsNumberOf g) i start e
stands_grammar g i start e n = record {
  ordered = n.run.ordered;
  within = n.run.within;
  text = (tells_numbers_of g (slice_range i start e)).0 n.passes;
  boundary = n.boundary;
}

-- ---- by strictness

module _ (c : Settings) (lenient : List ℕ → Bool) (i : List ℕ) (start e : ℕ) where
  pub of_strict : c.enforce_strictness ≡ true → NumberStands true (is_number_of c.numbers) i start e → NumberStands c.enforce_strictness (number_test c lenient) i start e
  of_strict strict n = record { run = n.run; some = n.some; passes = rw strict n.passes; boundary = rw strict n.boundary }

  pub strict_of : c.enforce_strictness ≡ true → NumberStands c.enforce_strictness (number_test c lenient) i start e → NumberStands true (is_number_of c.numbers) i start e
  strict_of strict n = record { run = n.run; some = n.some; passes = rw strict at n.passes; boundary = rw strict at n.boundary }

  pub of_lenient : c.enforce_strictness ≡ false → NumberStands false lenient i start e → NumberStands c.enforce_strictness (number_test c lenient) i start e
  of_lenient loose n = record { run = n.run; some = n.some; passes = rw loose n.passes; boundary = rw loose n.boundary }

  pub lenient_of : c.enforce_strictness ≡ false → NumberStands c.enforce_strictness (number_test c lenient) i start e → NumberStands false lenient i start e
  lenient_of loose n = record { run = n.run; some = n.some; passes = rw loose at n.passes; boundary = tt }
