-- Where a literal comes first behind white space, it lies there, and back.
use Rattle.std.proofs.Common.{◌≡◌, ◌+◌, ◌≤◌, ℕ, List, [], ◌∷◌, ◌++◌, length, drop, Bool, true, false, codes, refl, sym, ap, ◌∙◌, arith, subst}
use Rattle.std.specs.Prelude.{◌==◌, ◌&&◌, not}
use Rattle.std.proofs.lemmas.Bool.{and_parts}
use Rattle.std.proofs.lemmas.Bool.Decides.{nat_tests}
use Rattle.std.proofs.lemmas.List.{length-drop, length-append, drop-drop}
use Rattle.smithy_json_grammar.specs.Ascii.{is_ws}
use Rattle.smithy_json_grammar.specs.Standing.{IsRunAt}
use Rattle.smithy_json_grammar.proofs.SliceLemmas.{slice_between}
use Rattle.smithy_json_values.specs.Scalar.{a_boolean}
use Rattle.smithy_json_values.specs.Spans.{Lies, begins_with_alphanumeric, begins_with_null}
use Rattle.smithy_json_values.specs.Tokens.{BoundaryBy, IsToken, token_frames}
use Rattle.smithy_json_values.specs.TypeMismatch.{begins_with_true, begins_with_false}
use Rattle.smithy_json_values.specs.Private.TokenPlaces.{one_token, past_token, null_token_begins, one_null}
use Rattle.smithy_json_values.proofs.ScannedPlaces.{stands_lies, rest_behind}

is_byte : (b c : ℕ) → (b == c) ≡ true → b ≡ c
is_byte b c h = grind (arith, nat_tests)

-- ---- what comes first

null_first : (s : List ℕ) → begins_with_null s ≡ true → (s ≡ codes "null" ++ drop 4 s) × (begins_with_alphanumeric (drop 4 s) ≡ false)
null_first [] h = cc
null_first (a ∷ []) h = cc
null_first (a ∷ b ∷ []) h = cc
null_first (a ∷ b ∷ c ∷ []) h = cc
null_first (n ∷ u ∷ l ∷ k ∷ rest) h =
    let p = and_parts ((n == 0x6e && u == 0x75) && l == 0x6c && k == 0x6c) (not (begins_with_alphanumeric rest)) h in
    let q = and_parts (n == 0x6e && u == 0x75 && l == 0x6c) (k == 0x6c) p.0 in
    let r = and_parts (n == 0x6e && u == 0x75) (l == 0x6c) q.0 in
    let t = and_parts (n == 0x6e) (u == 0x75) r.0 in
    (rw (is_byte n 0x6e t.0, is_byte u 0x75 t.1, is_byte l 0x6c r.1, is_byte k 0x6c q.1) refl, denied (begins_with_alphanumeric rest) p.1)
  where
    denied : (b : Bool) → not b ≡ true → b ≡ false
    denied true h = cc
    denied false h = refl

true_first : (s : List ℕ) → begins_with_true s ≡ true → s ≡ codes "true" ++ drop 4 s
true_first [] h = cc
true_first (a ∷ []) h = cc
true_first (a ∷ b ∷ []) h = cc
true_first (a ∷ b ∷ c ∷ []) h = cc
true_first (t ∷ r ∷ u ∷ e ∷ rest) h =
    let p = and_parts (t == 0x74 && r == 0x72 && u == 0x75) (e == 0x65) h in
    let q = and_parts (t == 0x74 && r == 0x72) (u == 0x75) p.0 in
    let o = and_parts (t == 0x74) (r == 0x72) q.0 in
    rw (is_byte t 0x74 o.0, is_byte r 0x72 o.1, is_byte u 0x75 q.1, is_byte e 0x65 p.1) refl

false_first : (s : List ℕ) → begins_with_false s ≡ true → s ≡ codes "false" ++ drop 5 s
false_first [] h = cc
false_first (a ∷ []) h = cc
false_first (a ∷ b ∷ []) h = cc
false_first (a ∷ b ∷ c ∷ []) h = cc
false_first (a ∷ b ∷ c ∷ d ∷ []) h = cc
false_first (f ∷ a ∷ l ∷ s ∷ e ∷ rest) h =
    let p = and_parts (f == 0x66 && a == 0x61 && l == 0x6c && s == 0x73) (e == 0x65) h in
    let q = and_parts (f == 0x66 && a == 0x61 && l == 0x6c) (s == 0x73) p.0 in
    let r = and_parts (f == 0x66 && a == 0x61) (l == 0x6c) q.0 in
    let o = and_parts (f == 0x66) (a == 0x61) r.0 in
    rw (is_byte f 0x66 o.0, is_byte a 0x61 o.1, is_byte l 0x6c r.1, is_byte s 0x73 q.1, is_byte e 0x65 p.1) refl

-- the bytes of a boolean, and whether they come first
abbrev pub word : Bool → List ℕ
word true = codes "true"
word false = codes "false"

abbrev pub comes : Bool → List ℕ → Bool
comes true s = begins_with_true s
comes false s = begins_with_false s

pub neither : (s : List ℕ) → begins_with_true s ≡ false → begins_with_false s ≡ false → (b : Bool) → comes b s ≡ true → ⊥
neither s no_true no_false true first = cc
neither s no_true no_false false first = cc

-- ---- behind white space

module _ (i : List ℕ) (at start : ℕ) (run : IsRunAt is_ws i at start) where
  literal_lies : (bytes : List ℕ) → drop start i ≡ bytes ++ drop (length bytes) (drop start i) → Lies (λ s. s ≡ bytes) i at (start + length bytes)
  literal_lies bytes front =
      let n = length bytes in
      let whole : drop start i ≡ bytes ++ drop (start + n) i = front ∙ ap (λ r. bytes ++ r) (drop-drop n start i) in
      let within : start + n ≤ length i = omega (arith, length-drop start i, ap length whole, length-append bytes (drop (start + n) i), run.within) in
      let slice = slice_between i start (start + n) bytes (omega arith) within whole in
      stands_lies i at start run (λ s. s ≡ bytes) (start + n) (omega arith) within slice

  -- ---- null

  module _ (first : begins_with_null (drop start i) ≡ true) where
    null_token : Lies (λ s. s ≡ codes "null") i at (start + 4)
    null_token = literal_lies (codes "null") (null_first (drop start i) first).0

    pub null_within : start + 4 ≤ length i
    null_within = null_token.1

    pub null_lies : (strict : Bool) → BoundaryBy strict (drop (start + 4) i) → (token_frames strict).null i 0 at (start + 4)
    null_lies strict boundary =
        (null_token, subst (λ s. begins_with_alphanumeric s ≡ false) (drop-drop 4 start i) (null_first (drop start i) first).1, boundary)

    -- each null that lies there ends with it
    pub null_boundary : (strict : Bool) (e : ℕ) → (token_frames strict).null i 0 at e → BoundaryBy strict (drop (start + 4) i)
    null_boundary strict e h = subst (λ n. BoundaryBy strict (drop n i)) (one_null i at e (start + 4) h.0 null_token) h.2

  pub null_comes : (strict : Bool) (e : ℕ) → (token_frames strict).null i 0 at e → begins_with_null (drop start i) ≡ true
  null_comes strict e h = ap begins_with_null (sym (rest_behind i at start run)) ∙ null_token_begins i at e h.0 h.1

  -- ---- booleans

  boolean_token : (b : Bool) → comes b (drop start i) ≡ true → Lies (IsToken (a_boolean b)) i at (start + length (word b))
  boolean_token true first = literal_lies (codes "true") (true_first (drop start i) first)
  boolean_token false first = literal_lies (codes "false") (false_first (drop start i) first)

  pub boolean_within : (b : Bool) → comes b (drop start i) ≡ true → start + length (word b) ≤ length i
  boolean_within b first = (boolean_token b first).1

  module _ (b : Bool) (first : comes b (drop start i) ≡ true) (strict : Bool) where
    pub boolean_lies : BoundaryBy strict (drop (start + length (word b)) i) → (token_frames strict).scalar i 0 (a_boolean b) at (start + length (word b))
    boolean_lies boundary = (boolean_token b first, tt, boundary)

    -- each boolean that lies there ends with it
    pub boolean_boundary : (other : Bool) (e : ℕ) → (token_frames strict).scalar i 0 (a_boolean other) at e → BoundaryBy strict (drop (start + length (word b)) i)
    boolean_boundary other e h =
        subst (λ n. BoundaryBy strict (drop n i)) (one_token i (a_boolean other) (a_boolean b) at e (start + length (word b)) h.0 tt (boolean_token b first) tt).1 h.2

  pub boolean_comes : (strict b : Bool) (e : ℕ) → (token_frames strict).scalar i 0 (a_boolean b) at e → comes b (drop start i) ≡ true
  boolean_comes strict true e h = rw (sym (rest_behind i at start run) ∙ past_token (a_boolean true) (drop at i) (drop e i) h.0.2, h.0.2.4) refl
  boolean_comes strict false e h = rw (sym (rest_behind i at start run) ∙ past_token (a_boolean false) (drop at i) (drop e i) h.0.2, h.0.2.4) refl
