-- The value that lies at a place of the input is determined, with its end.
use Rattle.std.specs.Prelude.{◌≡◌, ℕ, ◌<◌, length, drop, List, ◌∷◌, ◌++◌, true, refl}
use Rattle.std.proofs.Common.{sym, ◌∙◌, ap, arith}
use Rattle.smithy_json_grammar.specs.Ascii.{end_array}
use Rattle.smithy_json_grammar.specs.Tree.{Json}
use Rattle.smithy_json_grammar.specs.Grammar.{IsValue}
use Rattle.smithy_json_values.specs.Standing.{IsFront, Lies, TreeLies, IsByte, without_ws}
use Rattle.smithy_json_values.specs.Private.Lexical.{first, begins_value, Begins, past_ws, value_begins, begins_stops, begins_first}
use Rattle.smithy_json_values.specs.Private.OneTree.{same_tree}
use Rattle.smithy_json_values.specs.Private.BytePlaces.{same_end, ends_ahead, past_byte}

-- behind the white space come the value and the rest
pub past_value : (x : Json) (s r : List ℕ) → (h : IsFront (IsValue x) s r) → without_ws s ≡ h.1 ++ r
past_value x s r h = ap without_ws h.2 ∙ past_ws h.0 (h.1 ++ r) h.3 (begins_stops h.1 r (value_begins x h.1 h.4))

-- a value that lies behind white space begins there with a byte that begins a value
pub value_first : (x : Json) (s r : List ℕ) → IsFront (IsValue x) s r → begins_value (first (without_ws s)) ≡ true
value_first x s r h = rw (past_value x s r h) (begins_first h.1 r (value_begins x h.1 h.4))

-- the tree at a place and its end are determined
pub one_tree : (d d' : ℕ) (x y : Json) (i : List ℕ) (a e f : ℕ) → TreeLies d x i a e → TreeLies d' y i a f → (x ≡ y) × (e ≡ f)
one_tree d d' x y i a e f h k =
    let left : h.0.2.1 ++ drop e i ≡ k.0.2.1 ++ drop f i =
    sym (past_value x (drop a i) (drop e i) h.0.2) ∙ past_value y (drop a i) (drop f i) k.0.2 in
    let both = same_tree d d' x y h.0.2.1 k.0.2.1 (drop e i) (drop f i) h.0.2.4 k.0.2.4 h.1 k.1 left in
    (both.0, same_end i e f h.0.1 k.0.1 both.1)

fills : (s : List ℕ) → Begins s → 0 < length s
fills s h = rw h.is (omega arith)

-- a value ends past its start
pub tree_ahead : (d : ℕ) (x : Json) (i : List ℕ) (a e : ℕ) → TreeLies d x i a e → a < e
tree_ahead d x i a e h = ends_ahead (IsValue x) i a e h.0 (fills h.0.2.1 (value_begins x h.0.2.1 h.0.2.4))

-- no value begins as an array ends
pub no_end : (i : List ℕ) (x : Json) (c f : ℕ) → Lies (IsValue x) i c f → (e : ℕ) → Lies (IsByte end_array) i c e → ⊥
no_end i x c f h e k =
    let begin = value_first x (drop c i) (drop f i) h.2 in
    let no : begins_value (first (end_array ∷ drop e i)) ≡ true =
    sym (ap (λ t. begins_value (first t)) (past_byte end_array (drop c i) (drop e i) refl k.2)) ∙ begin in
    cc
