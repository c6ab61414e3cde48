-- Where JSON lies in an input by its tokens alone. Which text is a number or a string of the grammar is for the rules of a
-- reader to say, by kind and settings: here a number is the longest run of its bytes, and a string ends at the first quotation
-- mark that no backslash takes. So a node is determined by the bytes, whatever the settings. Of these only strictness is a parameter:
-- it decides what may follow a value, and where the input is over.
use Rattle.std.specs.Prelude.{◌≡◌, ◌≤◌, ℕ, ◌-◌, ◌+◌, zero, suc, length, drop, List, [], ◌∷◌, ◌++◌, Option, Some, None, Bool, true, false, if◌then◌else◌, codes}
use Rattle.std.specs.List.{AllByRecursion}
use Rattle.smithy_schema.specs.Reading.{Mark}
use Rattle.smithy_json_grammar.specs.Ascii.{quotation_mark, name_separator, end_array}
pub use Rattle.smithy_json_grammar.specs.Ascii.{is_numeric}
pub use Rattle.smithy_json_grammar.specs.StringText.{IsQuoted}
use Rattle.smithy_json_grammar.specs.Grammar.{IsWs, IsBoundary}
use Rattle.smithy_json_values.specs.Scalar.{JsonScalar, a_boolean, a_number, a_string}
use Rattle.smithy_json_values.specs.Spans.{Lies, IsByte, IsSeparated, fresh_mark, end_mark, entry_mark, opening, closing, begins_with_alphanumeric, begins_with_null, without_ws}
use Rattle.smithy_json_values.specs.Openers.{json_openers}
use Rattle.smithy_wire.specs.Node.{Form, as_array, as_object}
use Rattle.smithy_wire.specs.Frames.{Frames}

-- at least one byte that a number may have
abbrev pub IsNumberRun : List ℕ → Type 0
IsNumberRun [] = ⊥
IsNumberRun (b ∷ raw) = AllByRecursion (λ b. is_numeric b ≡ true) (b ∷ raw)

-- no number goes on with these bytes
abbrev pub EndsRun : List ℕ → Type 0
EndsRun [] = Unit {0}
EndsRun (b ∷ rest) = is_numeric b ≡ false

abbrev pub IsToken : JsonScalar → List ℕ → Type 0
IsToken (a_boolean true) bytes = bytes ≡ codes "true"
IsToken (a_boolean false) bytes = bytes ≡ codes "false"
IsToken (a_number raw) bytes = (bytes ≡ raw) × IsNumberRun raw
IsToken (a_string raw) bytes = (bytes ≡ quotation_mark ∷ (raw ++ quotation_mark ∷ [])) × IsQuoted raw

-- a token isn't the front of a longer one
abbrev pub EndsToken : JsonScalar → List ℕ → Type 0
EndsToken (a_number raw) rest = EndsRun rest
EndsToken _ rest = Unit {0}

-- a name and a colon
abbrev pub IsNameToken : List ℕ → List ℕ → Type 0
IsNameToken raw bytes =
    (middle : List ℕ)
    × (bytes ≡ quotation_mark ∷ (raw ++ (quotation_mark ∷ (middle ++ name_separator ∷ []))))
    × IsQuoted raw × IsWs middle

-- from b to c a member begins
abbrev pub NameTokens : Bool → List ℕ → ℕ → List ℕ → ℕ → Type 0
NameTokens entered input b raw c = (d : ℕ) × IsSeparated entered input b d × Lies (IsNameToken raw) input d c

-- another element, whatever it is, or another member with its name
abbrev pub EntryTokens : Form → List ℕ → ℕ → Mark → Option JsonScalar → ℕ → Mark → Type 0
EntryTokens as_array input b m key c n =
    (key ≡ None) × (n ≡ entry_mark) × IsSeparated m.entered input b c
    × ((e : ℕ) → Lies (IsByte end_array) input c e → ⊥)
EntryTokens as_object input b m key c n =
    (raw : List ℕ) × (key ≡ Some (a_string raw)) × (n ≡ entry_mark) × NameTokens m.entered input b raw c

-- what may follow a container that stands inside so many others: outside of all others only ws
abbrev pub EndsContainer : (List ℕ → Type 0) → ℕ → List ℕ → Type 0
EndsContainer Boundary zero rest = IsWs rest
EndsContainer Boundary (suc depth) rest = Boundary rest

-- what may follow the innermost of so many open containers
abbrev pub EndsInside : (List ℕ → Type 0) → ℕ → List ℕ → Type 0
EndsInside Boundary zero rest = ⊥
EndsInside Boundary (suc depth) rest = EndsContainer Boundary depth rest

-- what may follow a value: strictly a boundary, and else anything
abbrev pub BoundaryBy : Bool → List ℕ → Type 0
BoundaryBy true = IsBoundary
BoundaryBy false = λ rest. Unit {0}

-- from a to e the input is over, and a structure may be missing there: strictly the whole input is empty, and else nothing but ws is
-- left
abbrev pub IsOverBy : Bool → List ℕ → ℕ → ℕ → Type 0
IsOverBy true input a e = ((input ≡ []) × (a ≡ 0)) × (e ≡ a)
IsOverBy false input a e = (a ≤ e) × (e ≡ length input) × IsWs (drop a input)

-- the framing, where that is strict and where not
abbrev pub token_frames : Bool → Frames JsonScalar
token_frames strict = record {
  null = λ input depth a e.
      Lies (λ bytes. bytes ≡ codes "null") input a e × (begins_with_alphanumeric (drop e input) ≡ false) × BoundaryBy strict (drop e input);
  scalar = λ input depth x a e. Lies (IsToken x) input a e × EndsToken x (drop e input) × BoundaryBy strict (drop e input);
  opens = λ form input a b m. (m ≡ fresh_mark) × Lies (IsByte (opening form)) input a b;
  entry = EntryTokens;
  ends = λ form input b m e. Lies (IsByte (closing form)) input b e;
  follows = λ input depth e. EndsInside (BoundaryBy strict) depth (drop e input);
  is_over = IsOverBy strict;
  over_mark = end_mark;
  left = λ input b m. length input - b + (if m.entered then 0 else 1);
  begins_null = λ input a. begins_with_null (without_ws (drop a input));
  openers = json_openers;
}
