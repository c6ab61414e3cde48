-- A tree and its end are determined by the text: a reader that checks nothing gives the tree of each text,
-- and what follows the text.
use Rattle.std.specs.Prelude.{◌≡◌, ℕ, zero, suc, ◌+◌, ◌≤◌, ◌==◌, List, [], ◌∷◌, ◌++◌, drop, true, false, if◌then◌else◌, refl}
use Rattle.std.proofs.Common.{sym, ◌∙◌, ap, arith, append_assoc}
use Rattle.smithy_json_grammar.specs.Ascii.{quotation_mark, value_separator, name_separator, begin_array, end_array, begin_object, end_object, is_ws}
use Rattle.smithy_json_grammar.specs.Tree.{Json, null, boolean, number, string, array, object, Elements, no_elements, element, Members, no_members, member}
use Rattle.smithy_json_grammar.specs.Grammar.{IsWs, IsNumber, AreChars, IsBoundary, IsValue, AreMoreElements, AreMoreMembers}
use Rattle.smithy_json_values.specs.Standing.{without_ws, Follows}
use Rattle.smithy_json_values.specs.Private.Lexical.{is_numeric, begins_value, run, behind, run_text, behind_text, first, Stops, run_all, behind_all, past_ws, ws_boundary, text_all, number_pass, boundary_stops, number_fills, Begins, value_begins, begins_stops, begins_first, elements_boundary, members_boundary}
use Rattle.smithy_json_values.specs.Private.TextParts.{member_parts, element_parts, bracketed_parts, follows_inside}

-- what is left behind a value separator, if there is one
abbrev pub past_separator : List ℕ → List ℕ
past_separator s = if first s == value_separator then drop 1 s else s

-- what is left from the value of a member on, where its name comes first
abbrev pub past_name : List ℕ → List ℕ
past_name s = without_ws (drop 1 (without_ws (drop 1 (behind_text (drop 1 s)))))

-- The number says how often the reader may turn.
abbrev mutual
  pub read_value : ℕ → List ℕ → Json × List ℕ
  read_value zero s = (null, s)
  read_value (suc n) s =
      if is_numeric (first s) then (number (run is_numeric s), behind is_numeric s)
      else (if first s == 0x6e then (null, drop 4 s)
      else (if first s == 0x74 then (boolean true, drop 4 s)
      else (if first s == 0x66 then (boolean false, drop 5 s)
      else (if first s == quotation_mark then (string (run_text (drop 1 s)), drop 1 (behind_text (drop 1 s)))
      else (if first s == begin_array then (array (read_elements n (drop 1 s)).0, (read_elements n (drop 1 s)).1)
      else (object (read_members n (drop 1 s)).0, (read_members n (drop 1 s)).1))))))

  pub read_elements : ℕ → List ℕ → Elements × List ℕ
  read_elements zero s = (no_elements, s)
  read_elements (suc n) s =
      if begins_value (first (without_ws s))
      then (let x = read_value n (without_ws s) in
      let rest = read_elements n (past_separator (without_ws x.1)) in
      (element x.0 rest.0, rest.1))
      else (no_elements, drop 1 (without_ws s))

  pub read_members : ℕ → List ℕ → Members × List ℕ
  read_members zero s = (no_members, s)
  read_members (suc n) s =
      if first (without_ws s) == quotation_mark
      then (let x = read_value n (past_name (without_ws s)) in
      let rest = read_members n (past_separator (without_ws x.1)) in
      (member (run_text (drop 1 (without_ws s))) x.0 rest.0, rest.1))
      else (no_members, drop 1 (without_ws s))

-- how often the reader that checks nothing turns at a tree
abbrev mutual
  pub size : Json → ℕ
  size null = 0
  size (boolean b) = 0
  size (number raw) = 0
  size (string raw) = 0
  size (array es) = suc (elements_size es)
  size (object ms) = suc (members_size ms)

  pub elements_size : Elements → ℕ
  elements_size no_elements = 0
  elements_size (element x es) = suc (size x + elements_size es)

  pub members_size : Members → ℕ
  members_size no_members = 0
  members_size (member name x ms) = suc (size x + members_size ms)

-- ---- one turn

number_turn : (n : ℕ) (raw r : List ℕ) → IsNumber raw → IsBoundary r → read_value (suc n) (raw ++ r) ≡ (number raw, r)
number_turn n [] r h b = absurd (number_fills h)
number_turn n (c ∷ s) r h b =
    let p = number_pass (c ∷ s) h in
    rw (p.0, run_all is_numeric s r p.1 (boundary_stops r b), behind_all is_numeric s r p.1 (boundary_stops r b)) refl

string_turn : (n : ℕ) (raw r : List ℕ) → AreChars raw
    → read_value (suc n) (quotation_mark ∷ (raw ++ quotation_mark ∷ r)) ≡ (string raw, r)
string_turn n raw r h = rw ((text_all raw r h).0, (text_all raw r h).1) refl

array_turn : (n : ℕ) (s r : List ℕ) (es : Elements) → read_elements n s ≡ (es, r) → read_value (suc n) (begin_array ∷ s) ≡ (array es, r)
array_turn n s r es h = rw h refl

object_turn : (n : ℕ) (s r : List ℕ) (ms : Members) → read_members n s ≡ (ms, r) → read_value (suc n) (begin_object ∷ s) ≡ (object ms, r)
object_turn n s r ms h = rw h refl

element_turn : (n : ℕ) (s t u : List ℕ) (x : Json) (es : Elements) (r : List ℕ) → without_ws s ≡ t → begins_value (first t) ≡ true
    → read_value n t ≡ (x, u) → read_elements n (past_separator (without_ws u)) ≡ (es, r) → read_elements (suc n) s ≡ (element x es, r)
element_turn n s t u x es r h k l m = rw (h, k, l, m) refl

member_turn : (n : ℕ) (s t u w name : List ℕ) (x : Json) (ms : Members) (r : List ℕ) → without_ws s ≡ t → first t ≡ quotation_mark
    → run_text (drop 1 t) ≡ name → past_name t ≡ w → read_value n w ≡ (x, u) → read_members n (past_separator (without_ws u)) ≡ (ms, r)
    → read_members (suc n) s ≡ (member name x ms, r)
member_turn n s t u w name x ms r h k l m o q = rw (h, k, l, m, o, q) refl

elements_end : (n : ℕ) (s r : List ℕ) → without_ws s ≡ end_array ∷ r → read_elements (suc n) s ≡ (no_elements, r)
elements_end n s r h = rw h refl

members_end : (n : ℕ) (s r : List ℕ) → without_ws s ≡ end_object ∷ r → read_members (suc n) s ≡ (no_members, r)
members_end n s r h = rw h refl

-- a name and what stands behind its colon
past_name_is : (name middle before t : List ℕ) → AreChars name → IsWs middle → IsWs before → Stops is_ws t
    → past_name (quotation_mark ∷ (name ++ (quotation_mark ∷ (middle ++ (name_separator ∷ (before ++ t)))))) ≡ t
past_name_is name middle before t h k l stop =
    rw ((text_all name (middle ++ (name_separator ∷ (before ++ t))) h).1, past_ws middle (name_separator ∷ (before ++ t)) k refl)
    (past_ws before t l stop)

element_from : (n : ℕ) (x : Json) (es : Elements) (before s u r : List ℕ) → IsWs before → Begins s → read_value n (s ++ u) ≡ (x, u)
    → read_elements n (past_separator (without_ws u)) ≡ (es, r) → read_elements (suc n) (before ++ (s ++ u)) ≡ (element x es, r)
element_from n x es before s u r b h k l =
    element_turn n (before ++ (s ++ u)) (s ++ u) u x es r (past_ws before (s ++ u) b (begins_stops s u h)) (begins_first s u h) k l

member_from : (n : ℕ) (name : List ℕ) (x : Json) (ms : Members) (before middle inner s u r : List ℕ)
    → IsWs before → AreChars name → IsWs middle → IsWs inner → Begins s
    → read_value n (s ++ u) ≡ (x, u) → read_members n (past_separator (without_ws u)) ≡ (ms, r)
    → read_members (suc n) (before ++ (quotation_mark ∷ (name ++ (quotation_mark ∷ (middle ++ (name_separator ∷ (inner ++ (s ++ u))))))))
    ≡ (member name x ms, r)
member_from n name x ms before middle inner s u r b chars m i h k l =
    let behind = middle ++ (name_separator ∷ (inner ++ (s ++ u))) in
    let t = quotation_mark ∷ (name ++ (quotation_mark ∷ behind)) in
    member_turn n (before ++ t) t u (s ++ u) name x ms r (past_ws before t b refl) refl (text_all name behind chars).0
    (past_name_is name middle inner (s ++ u) chars m i (begins_stops s u h)) k l

-- ---- on a text of a tree the reader gives the tree, and what follows
mutual
  pub read_all : (n d : ℕ) (x : Json) (s r : List ℕ) → IsValue x s → Follows d x r → size x ≤ n → read_value (suc n) (s ++ r) ≡ (x, r)
  read_all n d null s r h b k = rw h refl
  read_all n d (boolean true) s r h b k = rw h refl
  read_all n d (boolean false) s r h b k = rw h refl
  read_all n d (number raw) s r h b k = rw h.0 (number_turn n raw r h.1 b)
  read_all n d (string raw) s r h b k = rw h.0 (rw append_assoc (string_turn n raw r h.1.1))
  read_all zero d (array es) s r h b k = absurd (omega arith)
  read_all zero d (object ms) s r h b k = absurd (omega arith)
  read_all (suc n) d (array no_elements) s r h b k =
      rw h.1 (rw append_assoc (array_turn (suc n) (h.0 ++ (end_array ∷ r)) r no_elements
      (elements_end n (h.0 ++ (end_array ∷ r)) r (past_ws h.0 (end_array ∷ r) h.2 refl))))
  read_all (suc zero) d (array (element x es)) s r h b k = absurd (omega arith)
  read_all (suc (suc n)) d (array (element x es)) s r h b k =
      let one = h.2.3 in
      let tail = h.2.1 ++ end_array ∷ r in
      let u = one.2 ++ tail in
      let follows = follows_inside 0 x u (ws_boundary one.2 tail one.6 (elements_boundary es h.2.1 r h.2.4)) in
      let inner = element_from (suc n) x es one.0 one.1 u r one.4 (value_begins x one.1 one.5)
      (read_all n 1 x one.1 u one.5 follows (omega arith)) (more_elements n es one.2 h.2.1 r one.6 h.2.4 (omega arith)) in
      let same : s ++ r ≡ begin_array ∷ (one.0 ++ (one.1 ++ u)) =
      bracketed_parts begin_array end_array s h.0 r _ h.1 (rw h.2.2 (element_parts h.2.0 one.0 one.1 one.2 h.2.1 (end_array ∷ r) one.3)) in
      rw same (array_turn (suc (suc n)) (one.0 ++ (one.1 ++ u)) r (element x es) inner)
  read_all (suc n) d (object no_members) s r h b k =
      rw h.1 (rw append_assoc (object_turn (suc n) (h.0 ++ (end_object ∷ r)) r no_members
      (members_end n (h.0 ++ (end_object ∷ r)) r (past_ws h.0 (end_object ∷ r) h.2 refl))))
  read_all (suc zero) d (object (member name x ms)) s r h b k = absurd (omega arith)
  read_all (suc (suc n)) d (object (member name x ms)) s r h b k =
      let pair = h.2.3 in
      let one = pair.7 in
      let tail = h.2.1 ++ end_object ∷ r in
      let u = one.2 ++ tail in
      let follows = follows_inside 0 x u (ws_boundary one.2 tail one.6 (members_boundary ms h.2.1 r h.2.4)) in
      let inner = member_from (suc n) name x ms pair.0 pair.1 one.0 one.1 u r pair.4 pair.5.1 pair.6 one.4 (value_begins x one.1 one.5)
      (read_all n 1 x one.1 u one.5 follows (omega arith)) (more_members n ms one.2 h.2.1 r one.6 h.2.4 (omega arith)) in
      let t = pair.0 ++ (quotation_mark ∷ (name ++ (quotation_mark ∷ (pair.1 ++ (name_separator ∷ (one.0 ++ (one.1 ++ u))))))) in
      let same : s ++ r ≡ begin_object ∷ t = bracketed_parts begin_object end_object s h.0 r _ h.1
      (rw h.2.2 (member_parts h.2.0 pair.0 name pair.1 pair.2 one.0 one.1 one.2 h.2.1 (end_object ∷ r) pair.3 one.3)) in
      rw same (object_turn (suc (suc n)) t r (member name x ms) inner)

  more_elements : (n : ℕ) (es : Elements) (after more r : List ℕ) → IsWs after → AreMoreElements es more → elements_size es ≤ n
      → read_elements (suc n) (past_separator (without_ws (after ++ (more ++ end_array ∷ r)))) ≡ (es, r)
  more_elements n no_elements after more r a h k =
      rw h (rw (past_ws after (end_array ∷ r) a refl) (elements_end n (end_array ∷ r) r refl))
  more_elements n (element x es) after [] r a h k = absurd h
  more_elements zero (element x es) after (c ∷ more) r a h k = absurd (omega arith)
  more_elements (suc n) (element x es) after (c ∷ more) r a h k =
      let one = h.1.3 in
      let tail = h.1.1 ++ end_array ∷ r in
      let u = one.2 ++ tail in
      let follows = follows_inside 0 x u (ws_boundary one.2 tail one.6 (elements_boundary es h.1.1 r h.1.4)) in
      let inner = element_from (suc n) x es one.0 one.1 u r one.4 (value_begins x one.1 one.5)
      (read_all n 1 x one.1 u one.5 follows (omega arith)) (more_elements n es one.2 h.1.1 r one.6 h.1.4 (omega arith)) in
      rw h.0 (rw (past_ws after (value_separator ∷ (more ++ end_array ∷ r)) a refl)
      (rw (h.1.2, element_parts h.1.0 one.0 one.1 one.2 h.1.1 (end_array ∷ r) one.3) inner))

  more_members : (n : ℕ) (ms : Members) (after more r : List ℕ) → IsWs after → AreMoreMembers ms more → members_size ms ≤ n
      → read_members (suc n) (past_separator (without_ws (after ++ (more ++ end_object ∷ r)))) ≡ (ms, r)
  more_members n no_members after more r a h k =
      rw h (rw (past_ws after (end_object ∷ r) a refl) (members_end n (end_object ∷ r) r refl))
  more_members n (member name x ms) after [] r a h k = absurd h
  more_members zero (member name x ms) after (c ∷ more) r a h k = absurd (omega arith)
  more_members (suc n) (member name x ms) after (c ∷ more) r a h k =
      let pair = h.1.3 in
      let one = pair.7 in
      let tail = h.1.1 ++ end_object ∷ r in
      let u = one.2 ++ tail in
      let follows = follows_inside 0 x u (ws_boundary one.2 tail one.6 (members_boundary ms h.1.1 r h.1.4)) in
      let inner = member_from (suc n) name x ms pair.0 pair.1 one.0 one.1 u r pair.4 pair.5.1 pair.6 one.4 (value_begins x one.1 one.5)
      (read_all n 1 x one.1 u one.5 follows (omega arith)) (more_members n ms one.2 h.1.1 r one.6 h.1.4 (omega arith)) in
      rw h.0 (rw (past_ws after (value_separator ∷ (more ++ end_object ∷ r)) a refl)
      (rw (h.1.2, member_parts h.1.0 pair.0 name pair.1 pair.2 one.0 one.1 one.2 h.1.1 (end_object ∷ r) pair.3 one.3) inner))

-- the tree of a text is determined, and so is what follows the text
pub same_tree : (d d' : ℕ) (x y : Json) (s t q r : List ℕ) → IsValue x s → IsValue y t → Follows d x q → Follows d' y r → s ++ q ≡ t ++ r
    → (x ≡ y) × (q ≡ r)
same_tree d d' x y s t q r h k b c e =
    let n = size x + size y in
    let one : read_value (suc n) (s ++ q) ≡ (x, q) = read_all n d x s q h b (omega arith) in
    let two : read_value (suc n) (t ++ r) ≡ (y, r) = read_all n d' y t r k c (omega arith) in
    let both : ◌≡◌ {A = Json × List ℕ} (x, q) (y, r) = sym one ∙ (ap (read_value (suc n)) e ∙ two) in
    (ap (λ (p : Json × List ℕ). p.0) both, ap (λ (p : Json × List ℕ). p.1) both)
