-- The bytes that JSON writes for nodes, and that they lie as it frames them.
use Rattle.std.specs.Prelude.{◌≡◌, ℕ, zero, suc, drop, List, [], ◌∷◌, ◌++◌, Bool, true, false, Option, Some, None, refl, codes}
use Rattle.std.proofs.Common.{sym, ap, ◌∙◌, arith, subst, inl, inr, append_assoc}
use Rattle.std.proofs.lemmas.List.{append-nil}
use Rattle.smithy_schema.specs.Reading.{Mark}
use Rattle.smithy_json_grammar.specs.Ascii.{quotation_mark, value_separator, name_separator, begin_array, end_array, begin_object}
use Rattle.smithy_json_grammar.specs.Tree.{null}
use Rattle.smithy_json_grammar.specs.Grammar.{IsBoundary, IsStringText, IsValue}
use Rattle.smithy_json_values.specs.Scalar.{JsonScalar, a_boolean, a_number, a_string, tree_of}
use Rattle.smithy_json_values.specs.Standing.{Lies, IsByte, IsSeparated, FollowsInside, fresh_mark, entry_mark, without_ws, opening, closing, json_frames}
use Rattle.smithy_json_values.specs.Tokens.{IsNameToken}
use Rattle.smithy_json_values.specs.Private.Lexical.{first, begins_value, Begins, value_begins, begins_plain, begins_first}
use Rattle.smithy_json_values.specs.Private.TextParts.{follows_inside}
use Rattle.smithy_json_values.specs.Private.BytePlaces.{past_byte}
use Rattle.smithy_json_grammar.proofs.LenientTextLemmas.{chars_are_quoted}
use Rattle.smithy_json_values.specs.Private.TokenGrammar.{tree_is_token, null_token}
use Rattle.smithy_wire.specs.Node.{Form, as_array, as_object}
use Rattle.smithy_wire.specs.Writes.{Writes, IsKeyOf, Stand, Follows, WritesFrames}
use Rattle.smithy_wire.proofs.WrittenPlaces.{parts}

-- ---- bytes

abbrev pub leaf_bytes : JsonScalar → List ℕ
leaf_bytes (a_boolean true) = codes "true"
leaf_bytes (a_boolean false) = codes "false"
leaf_bytes (a_number raw) = raw
leaf_bytes (a_string raw) = quotation_mark ∷ (raw ++ quotation_mark ∷ [])

-- a comma, but before the first entry
abbrev pub separator : Bool → List ℕ
separator true = []
separator false = value_separator ∷ []

-- a name and a colon
abbrev pub name_bytes : Option JsonScalar → List ℕ
name_bytes None = []
name_bytes (Some x) = leaf_bytes x ++ name_separator ∷ []

abbrev mark_at : Bool → Mark
mark_at true = fresh_mark
mark_at false = entry_mark

abbrev pub json_writes : Writes JsonScalar
json_writes = record {
  null_bytes = codes "null";
  leaf_bytes = leaf_bytes;
  opening = λ f. opening f ∷ [];
  entry_bytes = λ f is_first key. separator is_first ++ name_bytes key;
  ending = λ f. closing f ∷ [];
  mark_at = mark_at;
  IsScalar = λ x. IsValue (tree_of x) (leaf_bytes x);
  IsKey = λ x. (raw : List ℕ) × (x ≡ a_string raw) × IsStringText raw;
  IsBody = λ i. Unit {0};
  MayBegin = λ r. begins_value (first r) ≡ true;
  MayFollow = IsBoundary;
}

-- ---- where they lie

-- a text without white space before it
stand_lies : (P : List ℕ → Type 0) (bytes i : List ℕ) (a e : ℕ) → P bytes → Stand bytes i a e → Lies P i a e
stand_lies P bytes i a e is (front, end, within) = (omega (arith, end), within, ([], bytes, front, tt, is))

boundary : (d : ℕ) (s : List ℕ) → Follows json_writes d s → IsBoundary s
boundary zero s h = rw h tt
boundary (suc d) s h = h

scalar_lies : (x : JsonScalar) (d : ℕ) (i : List ℕ) (a e : ℕ) → IsValue (tree_of x) (leaf_bytes x) → Stand (leaf_bytes x) i a e → Follows json_writes d (drop e i)
    → json_frames.scalar i d x a e
scalar_lies x d i a e is stand follows =
    let front = stand_lies (IsValue (tree_of x)) (leaf_bytes x) i a e is stand in
    (tree_is_token x i d a e (front, follows_inside 0 (tree_of x) (drop e i) (boundary d (drop e i) follows))).0

null_lies : (d : ℕ) (i : List ℕ) (a e : ℕ) → Stand (codes "null") i a e → Follows json_writes d (drop e i) → json_frames.null i d a e
null_lies d i a e stand follows = null_token i d a e (stand_lies (IsValue null) (codes "null") i a e refl stand, boundary d (drop e i) follows)

separated : (is_first : Bool) (i : List ℕ) (b c : ℕ) → Stand (separator is_first) i b c → IsSeparated (mark_at is_first).entered i b c
separated true i b c stand = omega (arith, stand.1)
separated false i b c stand = stand_lies (IsByte value_separator) (value_separator ∷ []) i b c refl stand

-- no white space stands before what begins a value
begins_at_once : (s : List ℕ) → begins_value (first s) ≡ true → without_ws s ≡ s
begins_at_once [] h = refl
begins_at_once (b ∷ s) h = rw (begins_plain b h) refl

no_end : (i : List ℕ) (c e : ℕ) → begins_value (first (drop c i)) ≡ true → Lies (IsByte end_array) i c e → ⊥
no_end i c e begin h =
    let end : drop c i ≡ end_array ∷ drop e i = sym (begins_at_once (drop c i) begin) ∙ past_byte end_array (drop c i) (drop e i) refl h.2 in
    let clash : begins_value (first (end_array ∷ drop e i)) ≡ true = sym (ap (λ s. begins_value (first s)) end) ∙ begin in
    cc

entry_lies : (f : Form) (is_first : Bool) (key : Option JsonScalar) (i : List ℕ) (b c : ℕ) → IsKeyOf json_writes f key
    → Stand (separator is_first ++ name_bytes key) i b c → begins_value (first (drop c i)) ≡ true → json_frames.entry f i b (mark_at is_first) key c entry_mark
entry_lies as_array is_first None i b c is stand begin =
    (refl, refl, separated is_first i b c (subst (λ s. Stand s i b c) (append-nil (separator is_first)) stand), λ e. no_end i c e begin)
entry_lies as_array is_first (Some k) i b c is stand begin = absurd is
entry_lies as_object is_first None i b c is stand begin = absurd is
entry_lies as_object is_first (Some k) i b c (raw, is, chars) stand begin =
    let part = parts (separator is_first) (name_bytes (Some k)) i b c stand in
    let name : name_bytes (Some k) ≡ quotation_mark ∷ (raw ++ (quotation_mark ∷ (name_separator ∷ []))) =
    ap (λ x. leaf_bytes x ++ name_separator ∷ []) is ∙ simp append_assoc in (
      raw,
      ap Some is,
      refl,
      (
        part.middle,
        separated is_first i b part.middle part.front,
        stand_lies (IsNameToken raw) (name_bytes (Some k)) i part.middle c ([], name, chars_are_quoted raw chars.1, tt) part.back,
      ),
    )

follows_lie : (d : ℕ) (s : List ℕ) → Follows json_writes d s → FollowsInside (suc d) s
follows_lie zero s h = rw h tt
follows_lie (suc d) s h = h

front_begins : (bytes i : List ℕ) (a e : ℕ) → Begins bytes → Stand bytes i a e → begins_value (first (drop a i)) ≡ true
front_begins bytes i a e begin stand = rw stand.0 (begins_first bytes (drop e i) begin)

opening_begins : (f : Form) → Begins (opening f ∷ [])
opening_begins as_array = record { byte = begin_array; more = []; is = refl; begins = refl }
opening_begins as_object = record { byte = begin_object; more = []; is = refl; begins = refl }

ending_follows : (f : Form) (r : List ℕ) → IsBoundary (closing f ∷ r)
ending_follows as_array r = inr (inr (inl refl))
ending_follows as_object r = inr (inr (inr refl))

pub json_writes_frames : WritesFrames json_writes json_frames
json_writes_frames = record {
  null_lies = λ i d a e stand follows. null_lies d i a e stand follows;
  scalar_lies = λ i d x a e is is_body stand follows. scalar_lies x d i a e is stand follows;
  opens_lie = λ f i a b stand. (refl, stand_lies (IsByte (opening f)) (opening f ∷ []) i a b refl stand);
  entry_lies = λ f is_first key i b c is is_body stand begin. entry_lies f is_first key i b c is stand begin;
  ends_lie = λ f is_first i b e stand. stand_lies (IsByte (closing f)) (closing f ∷ []) i b e refl stand;
  follows_lie = λ i d e within follows. follows_lie d (drop e i) follows;
  null_begins = λ i a e stand. front_begins (codes "null") i a e (value_begins null (codes "null") refl) stand;
  scalar_begins = λ i x a e is is_body stand. front_begins (leaf_bytes x) i a e (value_begins (tree_of x) (leaf_bytes x) is) stand;
  opening_begins = λ f i a b stand. front_begins (opening f ∷ []) i a b (opening_begins f) stand;
  entry_follows = λ f key r. inr (inl refl);
  ending_follows = ending_follows;
}
