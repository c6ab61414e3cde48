-- What lies at a place of the input behind white space is determined with its end: any text, a byte, and a
-- separator or an end.
use Rattle.std.specs.Prelude.{◌≡◌, ℕ, ◌+◌, ◌<◌, ◌≤◌, length, drop, List, [], ◌∷◌, ◌++◌, Bool, true, false, refl}
use Rattle.std.proofs.Common.{sym, ◌∙◌, ap, arith, subst, length-drop, length-append, append_assoc}
use Rattle.std.proofs.Math.Seq.{drop-append_seam}
use Rattle.std.proofs.lemmas.List.{drop-drop}
use Rattle.smithy_json_grammar.specs.Ascii.{value_separator, end_array, is_ws}
use Rattle.smithy_json_grammar.specs.Grammar.{IsWs}
use Rattle.smithy_json_values.specs.Standing.{IsFront, Lies, IsByte, IsSeparated, without_ws}
use Rattle.smithy_json_values.specs.Private.Lexical.{past_ws}

-- ---- positions and what is left there

-- positions are equal where equal bytes of the input are left from them on
pub same_end : (i : List ℕ) (e f : ℕ) → e ≤ length i → f ≤ length i → drop e i ≡ drop f i → e ≡ f
same_end i e f h k same = let n = ap length same in omega (arith, length-drop e i, length-drop f i, n, h, k)

-- a text that has bytes ends further on
pub ends_ahead : (P : List ℕ → Type 0) (i : List ℕ) (a e : ℕ) → (h : Lies P i a e) → 0 < length h.2.1 → a < e
ends_ahead P i a e h k =
    let l : length h.2.0 + (length h.2.1 + length (drop e i)) ≡ length (drop a i) = sym (ap length h.2.2 ∙ simp length-append) in
    omega (arith, length-drop a i, length-drop e i, l, h.0, h.1, k)

-- a text that comes next in what is left, as one that lies in the input
pub record Settled (P : List ℕ → Type 0) (i : List ℕ) (a : ℕ) (r : List ℕ) : Type 0 where
  pub at : ℕ
  pub lies : Lies P i a at
  pub rest : drop at i ≡ r

-- a text that comes first behind white space lies in the input, and where it ends, the rest is left
pub settle : (P : List ℕ → Type 0) (i : List ℕ) (a : ℕ) (before text r : List ℕ) → a ≤ length i
    → drop a i ≡ before ++ (text ++ r) → IsWs before → P text → Settled P i a r
settle P i a before text r w h b p =
    let flat : drop a i ≡ (before ++ text) ++ r = h ∙ sym (append_assoc before text r) in
    let n = length (before ++ text) in
    let rest : drop (a + n) i ≡ r = sym (drop-drop n a i) ∙ (ap (drop n) flat ∙ drop-append_seam (before ++ text) r) in
    let l : length (drop a i) ≡ n + length r = ap length flat ∙ length-append (before ++ text) r in
    record {
      at = a + n;
      lies = (omega arith, omega (arith, l, length-drop a i, w), (before, text, rw rest h, b, p));
      rest = rest;
    }

-- a text that comes first behind white space, and behind which stands what the input has from e on, lies from a to e
pub settle_at : (P : List ℕ → Type 0) (i : List ℕ) (a e : ℕ) (before text : List ℕ) → a ≤ length i → e ≤ length i
    → drop a i ≡ before ++ (text ++ drop e i) → IsWs before → P text → Lies P i a e
settle_at P i a e before text w u h b p =
    let s = settle P i a before text (drop e i) w h b p in
    subst (Lies P i a) (same_end i s.at e s.lies.1 u s.rest) s.lies

-- ---- single bytes

-- behind the white space come the byte and the rest
pub past_byte : (x : ℕ) (s r : List ℕ) → is_ws x ≡ false → IsFront (IsByte x) s r → without_ws s ≡ x ∷ r
past_byte x s r plain h = rw (h.2, h.4) (past_ws h.0 (x ∷ r) h.3 plain)

-- two bytes that stand at one place are one
pub same_byte : (i : List ℕ) (a e f x y : ℕ) → is_ws x ≡ false → is_ws y ≡ false → Lies (IsByte x) i a e → Lies (IsByte y) i a f
    → (x ≡ y) × (e ≡ f)
same_byte i a e f x y plain plain' h k =
    let both : x ∷ drop e i ≡ y ∷ drop f i = sym (past_byte x (drop a i) (drop e i) plain h.2) ∙ past_byte y (drop a i) (drop f i) plain' k.2 in
    (cc, same_end i e f h.1 k.1 (cc))

-- a byte ends past its start
pub byte_ahead : (x : ℕ) (i : List ℕ) (a e : ℕ) → Lies (IsByte x) i a e → a < e
byte_ahead x i a e h = ends_ahead (IsByte x) i a e h (rw h.2.4 (omega arith))

-- where an element or a member begins is determined
pub same_separated : (i : List ℕ) (entered : Bool) (b c c' : ℕ) → IsSeparated entered i b c → IsSeparated entered i b c' → c ≡ c'
same_separated i false b c c' h j = h ∙ sym j
same_separated i true b c c' h j = (same_byte i b c c' value_separator value_separator refl refl h j).1

-- an element or a member doesn't begin before the place where it is looked for
pub separated_ahead : (i : List ℕ) (entered : Bool) (b c : ℕ) → IsSeparated entered i b c → b ≤ c
separated_ahead i false b c h = omega (arith, h)
separated_ahead i true b c h = h.0

-- ---- an empty input, and an element or an end

-- no byte stands in an empty input
pub no_byte : (x : ℕ) (i : List ℕ) (a e : ℕ) → i ≡ [] → Lies (IsByte x) i a e → ⊥
no_byte x i a e empty h = omega (arith, ap length empty, byte_ahead x i a e h, h.1)

-- where another element is due, no array ends
pub element_or_end : (i : List ℕ) (entered : Bool) (b c e : ℕ) → IsSeparated entered i b c → ((f : ℕ) → Lies (IsByte end_array) i c f → ⊥)
    → Lies (IsByte end_array) i b e → ⊥
element_or_end i false b c e h none close = none e (subst (λ x. Lies (IsByte end_array) i x e) (sym h) close)
element_or_end i true b c e h none close =
    let same : ◌≡◌ {A = ℕ} value_separator end_array = (same_byte i b c e value_separator end_array refl refl h close).0 in omega arith
