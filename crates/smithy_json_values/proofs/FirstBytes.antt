-- The first byte behind its white space tells what lies at a place.
use Rattle.std.proofs.Common.{◌≡◌, ℕ, List, [], ◌∷◌, ◌++◌, drop, true, false, refl, arith}
use Rattle.smithy_json_grammar.specs.Ascii.{quotation_mark, begin_array, begin_object}
use Rattle.smithy_json_grammar.specs.Tree.{Json, null, boolean, number, string, array, object, Elements, no_elements, element, Members, no_members, member}
use Rattle.smithy_json_grammar.specs.Grammar.{IsNumber, IsValue}
use Rattle.smithy_json_values.specs.Standing.{TreeLies, without_ws}
use Rattle.smithy_json_values.specs.Private.Lexical.{first, is_numeric, number_pass, number_fills}
use Rattle.smithy_json_values.specs.Private.ValuePlaces.{past_value}

-- a text of the tree begins with this byte
abbrev pub BeginsWith : Json → ℕ → Type 0
BeginsWith null b = b ≡ 0x6e
BeginsWith (boolean true) b = b ≡ 0x74
BeginsWith (boolean false) b = b ≡ 0x66
BeginsWith (number raw) b = is_numeric b ≡ true
BeginsWith (string raw) b = b ≡ quotation_mark
BeginsWith (array es) b = b ≡ begin_array
BeginsWith (object ms) b = b ≡ begin_object

numeric_first : (raw r : List ℕ) → IsNumber raw → is_numeric (first (raw ++ r)) ≡ true
numeric_first [] r h = absurd (number_fills h)
numeric_first (b ∷ raw) r h = (number_pass (b ∷ raw) h).0

value_begins_with : (x : Json) (s r : List ℕ) → IsValue x s → BeginsWith x (first (s ++ r))
value_begins_with null s r h = rw h refl
value_begins_with (boolean true) s r h = rw h refl
value_begins_with (boolean false) s r h = rw h refl
value_begins_with (number raw) s r h = rw h.0 (numeric_first raw r h.1)
value_begins_with (string raw) s r h = rw h.0 refl
value_begins_with (array no_elements) s r h = rw h.1 refl
value_begins_with (array (element x es)) s r h = rw h.1 refl
value_begins_with (object no_members) s r h = rw h.1 refl
value_begins_with (object (member name x ms)) s r h = rw h.1 refl

module _ (d : ℕ) (i : List ℕ) (a e : ℕ) where
  -- what lies at a place can be told by its first byte; 0 stands for the end of the input
  pub tree_begins_with : (x : Json) → TreeLies d x i a e → BeginsWith x (first (without_ws (drop a i)))
  tree_begins_with x h = let l = h.0.2 in rw (past_value x (drop a i) (drop e i) l) (value_begins_with x l.1 (drop e i) l.4)

-- behind a bracket an array
pub array_only : (x : Json) → BeginsWith x begin_array → (es : Elements) × (x ≡ array es)
array_only null h = let no : ◌≡◌ {A = ℕ} begin_array 0x6e = h in absurd (omega arith)
array_only (boolean true) h = let no : ◌≡◌ {A = ℕ} begin_array 0x74 = h in absurd (omega arith)
array_only (boolean false) h = let no : ◌≡◌ {A = ℕ} begin_array 0x66 = h in absurd (omega arith)
array_only (number raw) h = cc
array_only (string raw) h = let no : ◌≡◌ {A = ℕ} begin_array quotation_mark = h in absurd (omega arith)
array_only (array es) h = (es, refl)
array_only (object ms) h = let no : ◌≡◌ {A = ℕ} begin_array begin_object = h in absurd (omega arith)

-- behind a brace an object
pub object_only : (x : Json) → BeginsWith x begin_object → (ms : Members) × (x ≡ object ms)
object_only null h = let no : ◌≡◌ {A = ℕ} begin_object 0x6e = h in absurd (omega arith)
object_only (boolean true) h = let no : ◌≡◌ {A = ℕ} begin_object 0x74 = h in absurd (omega arith)
object_only (boolean false) h = let no : ◌≡◌ {A = ℕ} begin_object 0x66 = h in absurd (omega arith)
object_only (number raw) h = cc
object_only (string raw) h = let no : ◌≡◌ {A = ℕ} begin_object quotation_mark = h in absurd (omega arith)
object_only (array es) h = let no : ◌≡◌ {A = ℕ} begin_object begin_array = h in absurd (omega arith)
object_only (object ms) h = (ms, refl)
