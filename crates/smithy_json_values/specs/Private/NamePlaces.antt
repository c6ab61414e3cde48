-- The name of a member that lies at a place of the input is determined, with its end.
use Rattle.std.specs.Prelude.{◌≡◌, ℕ, ◌<◌, length, drop, List, [], ◌∷◌, ◌++◌, Bool, true, false, refl}
use Rattle.std.proofs.Common.{sym, ◌∙◌, ap, arith, subst, append_assoc}
use Rattle.smithy_json_grammar.specs.Ascii.{quotation_mark, value_separator, name_separator, end_object}
use Rattle.smithy_json_values.specs.Standing.{IsFront, Lies, IsByte, IsName, Names, without_ws}
use Rattle.smithy_json_values.specs.Private.Lexical.{first, run_text, behind_text, past_ws, text_all}
use Rattle.smithy_json_values.specs.Private.BytePlaces.{same_end, ends_ahead, past_byte, same_byte, same_separated, separated_ahead}

-- a name with what follows its colon
pub name_parts : (raw middle r : List ℕ)
    → (quotation_mark ∷ (raw ++ (quotation_mark ∷ (middle ++ name_separator ∷ [])))) ++ r
    ≡ quotation_mark ∷ (raw ++ (quotation_mark ∷ (middle ++ (name_separator ∷ r))))
name_parts raw middle r = simp append_assoc

-- behind the white space come the quotation mark, the raw text and so on
pub past_name_front : (raw s r : List ℕ) → (h : IsFront (IsName raw) s r)
    → without_ws s ≡ quotation_mark ∷ (raw ++ (quotation_mark ∷ (h.4.0 ++ (name_separator ∷ r))))
past_name_front raw s r h =
    let t = quotation_mark ∷ (raw ++ (quotation_mark ∷ (h.4.0 ++ (name_separator ∷ r)))) in
    rw (h.2, h.4.1, name_parts raw h.4.0 r) (past_ws h.0 t h.3 refl)

-- the raw text of a name is what stands between its quotation marks
pub raw_is : (raw s r : List ℕ) → IsFront (IsName raw) s r → run_text (drop 1 (without_ws s)) ≡ raw
raw_is raw s r h = rw (past_name_front raw s r h) (text_all raw (h.4.0 ++ (name_separator ∷ r)) h.4.2.1).0

-- the rest behind a name is what follows its colon
pub colon_is : (raw s r : List ℕ) → IsFront (IsName raw) s r → drop 1 (without_ws (drop 1 (behind_text (drop 1 (without_ws s))))) ≡ r
colon_is raw s r h =
    rw (past_name_front raw s r h) (rw ((text_all raw (h.4.0 ++ (name_separator ∷ r)) h.4.2.1).1)
    (rw (past_ws h.4.0 (name_separator ∷ r) h.4.3 refl) refl))

same_name : (i raw raw' : List ℕ) (d c c' : ℕ) → Lies (IsName raw) i d c → Lies (IsName raw') i d c' → (raw ≡ raw') × (c ≡ c')
same_name i raw raw' d c c' h k = (
  sym (raw_is raw (drop d i) (drop c i) h.2) ∙ raw_is raw' (drop d i) (drop c' i) k.2,
  same_end i c c' h.1 k.1 (sym (colon_is raw (drop d i) (drop c i) h.2) ∙ colon_is raw' (drop d i) (drop c' i) k.2),
)

-- the name at a place and its end are determined
pub same_names : (i : List ℕ) (m : Bool) (b : ℕ) (raw raw' : List ℕ) (c c' : ℕ) → Names m i b raw c → Names m i b raw' c' → (raw ≡ raw') × (c ≡ c')
same_names i m b raw raw' c c' h k =
    let there = same_separated i m b h.0 k.0 h.1 k.1 in
    same_name i raw raw' h.0 c c' h.2 (subst (λ y. Lies (IsName raw') i y c') (sym there) k.2)

no_name_end : (i raw : List ℕ) (d c e : ℕ) → Lies (IsName raw) i d c → Lies (IsByte end_object) i d e → ⊥
no_name_end i raw d c e h k =
    let one : without_ws (drop d i) ≡ end_object ∷ drop e i = past_byte end_object (drop d i) (drop e i) refl k.2 in
    let two : ◌≡◌ {A = ℕ} quotation_mark end_object = ap first (sym (past_name_front raw (drop d i) (drop c i) h.2) ∙ one) in
    omega arith

-- where a member begins, no object ends
pub names_or_end : (i : List ℕ) (m : Bool) (b : ℕ) (raw : List ℕ) (c e : ℕ) → Names m i b raw c → Lies (IsByte end_object) i b e → ⊥
names_or_end i false b raw c e h k = no_name_end i raw h.0 c e h.2 (subst (λ x. Lies (IsByte end_object) i x e) (sym h.1) k)
names_or_end i true b raw c e h k =
    let same : ◌≡◌ {A = ℕ} value_separator end_object = (same_byte i b h.0 e value_separator end_object refl refl h.1 k).0 in omega arith

-- a name ends past its start
pub names_ahead : (i : List ℕ) (m : Bool) (b : ℕ) (raw : List ℕ) (c : ℕ) → Names m i b raw c → b < c
names_ahead i m b raw c h =
    let k = ends_ahead (IsName raw) i h.0 c h.2 (rw h.2.2.4.1 (omega arith)) in
    omega (arith, k, separated_ahead i m b h.0 h.1)

-- no name stands in an empty input
pub no_names : (i : List ℕ) (m : Bool) (b : ℕ) (raw : List ℕ) (c : ℕ) → i ≡ [] → Names m i b raw c → ⊥
no_names i m b raw c empty h = omega (arith, ap length empty, names_ahead i m b raw c h, h.2.1)
