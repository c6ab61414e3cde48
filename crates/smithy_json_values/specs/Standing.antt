-- Where JSON of RFC 8259 lies in an input, for the clauses of scanners, and the relations of reading it, by its tokens.
use Rattle.std.specs.Prelude.{◌≡◌, ℕ, drop, List, [], ◌∷◌, ◌++◌, Bool, true}
use Rattle.smithy_schema.specs.Reading.{Relations, Reader, reader}
use Rattle.smithy_json_grammar.specs.Ascii.{quotation_mark, name_separator}
use Rattle.smithy_json_grammar.specs.Tree.{Json, null, boolean, number, string, array, object}
use Rattle.smithy_json_grammar.specs.Grammar.{IsWs, IsStringText, IsValue, IsBoundary}
use Rattle.smithy_json_values.specs.Settings.{Settings, without_limits}
use Rattle.smithy_json_values.specs.Scalar.{JsonScalar}
use Rattle.smithy_json_values.specs.Tokens.{EndsContainer, EndsInside, token_frames}
use Rattle.smithy_json_values.specs.LexicalGrammar.{LexicalGrammar, grammar_of, rfc_8259, token_rules, token_relations}
use Rattle.smithy_wire.specs.Rules.{Rules}
use Rattle.smithy_wire.specs.Frames.{Frames}
pub use Rattle.smithy_json_values.specs.Spans.{IsFront, Lies, IsByte, fresh_mark, end_mark, entry_mark, IsSeparated, without_ws, begins_with_alphanumeric, begins_with_null, opening, closing}

-- ---- relations of reading

-- the grammar by which JSON is read under some settings
abbrev pub json_grammar : Settings → LexicalGrammar
json_grammar c = grammar_of c

-- the rules and the relations of JSON by that grammar
abbrev pub json_rules : Settings → Rules JsonScalar
json_rules c = token_rules (json_grammar c) c

abbrev pub json_relations : Settings → Relations
json_relations c = token_relations (json_grammar c) c

-- what the calls of a reader of JSON are told by; what its refusals say of the lifted relations, they say where reading is strict
abbrev pub json_reader : Settings → Reader
json_reader c = reader (json_relations c) (json_relations (without_limits c)) (c.enforce_strictness ≡ true) c.max_depth

-- the framing, the rules and the relations by the grammar of RFC 8259
abbrev pub json_frames : Frames JsonScalar
json_frames = token_frames true

abbrev pub standard_rules : Settings → Rules JsonScalar
standard_rules c = token_rules rfc_8259 c

abbrev pub standard_relations : Settings → Relations
standard_relations c = token_relations rfc_8259 c

-- ---- trees

-- what may follow a container that stands inside so many others: outside of all others only ws
abbrev pub FollowsContainer : ℕ → List ℕ → Type 0
FollowsContainer = EndsContainer IsBoundary

-- what may follow the innermost of so many open containers
abbrev pub FollowsInside : ℕ → List ℕ → Type 0
FollowsInside = EndsInside IsBoundary

-- what may follow a value
abbrev pub Follows : ℕ → Json → List ℕ → Type 0
Follows depth null rest = IsBoundary rest
Follows depth (boolean b) rest = IsBoundary rest
Follows depth (number raw) rest = IsBoundary rest
Follows depth (string raw) rest = IsBoundary rest
Follows depth (array es) rest = FollowsContainer depth rest
Follows depth (object ms) rest = FollowsContainer depth rest

-- from a to e lies a text of the tree
abbrev pub TreeLies : ℕ → Json → List ℕ → ℕ → ℕ → Type 0
TreeLies depth x input a e = Lies (IsValue x) input a e × Follows depth x (drop e input)

-- a name and a colon
abbrev pub IsName : List ℕ → List ℕ → Type 0
IsName raw bytes =
    (middle : List ℕ)
    × (bytes ≡ quotation_mark ∷ (raw ++ (quotation_mark ∷ (middle ++ name_separator ∷ []))))
    × IsStringText raw × IsWs middle

-- from b to c a member begins: a comma unless it is the first, a name and a colon
abbrev pub Names : Bool → List ℕ → ℕ → List ℕ → ℕ → Type 0
Names entered input b raw c = (d : ℕ) × IsSeparated entered input b d × Lies (IsName raw) input d c
