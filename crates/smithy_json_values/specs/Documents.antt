-- Which documents lie in an input, and what it means that none is read.
use Rattle.std.specs.Prelude.{◌≡◌, ◌⊎◌, ◌+◌, ℕ, length, drop, List, Bool, Option, Some, None, if◌then◌else◌}
use Rattle.smithy_types.specs.Document.{Document}
use Rattle.smithy_types.specs.declared.number.Number.{Number}
use Rattle.smithy_declarations.specs.declared.shape_type.Scalar.TheVariants as scalars
use Rattle.smithy_json_grammar.specs.Tree.{Json}
use Rattle.smithy_json_grammar.specs.HeldNumber.{number_of}
use Rattle.smithy_json.specs.DocumentMeaning.{document_meaning}
use Rattle.smithy_json_values.specs.Settings.{Settings, Limits, kept, lifted}
use Rattle.smithy_json_values.specs.Scalar.{JsonScalar, a_number, document_says}
use Rattle.smithy_json_values.specs.Spans.{Lies, IsByte}
use Rattle.smithy_json_values.specs.Standing.{TreeLies, FollowsContainer}
use Rattle.smithy_json_values.specs.Tokens.{BoundaryBy, EndsContainer}
use Rattle.smithy_json_values.specs.LexicalGrammar.{LexicalGrammar, in_grammar, frames_of, token_rules, LiesInGrammar}
use Rattle.smithy_json_values.specs.Deepest.{IsDueInside}
use Rattle.smithy_json_values.specs.Private.Skipping.{ScalarLies, opening}
use Rattle.smithy_wire.specs.Documents.{document_of}
use Rattle.smithy_wire.specs.Frames.{Lies as LiesAsNode}
use Rattle.smithy_wire.specs.Node.{Node}
use Rattle.smithy_wire.specs.Rules.{Answer, no_meaning}

-- a token that may be read as a part of a document, or as a name
abbrev pub is_read_in : LexicalGrammar → JsonScalar → Bool
is_read_in g x = in_grammar g scalars.BigDecimal x

-- what a token is as a document, where it is in the grammar
abbrev pub says_in : LexicalGrammar → JsonScalar → Answer (Document Number)
says_in g x = if in_grammar g scalars.BigDecimal x then document_says x else no_meaning

-- the document of a node inside so many containers, in a grammar and under some settings
abbrev pub document_in : LexicalGrammar → Settings → ℕ → Node JsonScalar → Option (Document Number)
document_in g c depth x = document_of (token_rules g c) (says_in g) depth x

-- from a to e lies a node that means the document inside so many containers
pub record DocumentLies (g : LexicalGrammar) (c : Settings) (depth : ℕ) (input : List ℕ) (a : ℕ) (d : Document Number) (e : ℕ) : Type 0 where
  pub node : Node JsonScalar
  pub lies : LiesAsNode (frames_of g) input 1 node a e
  pub means : document_in g c depth node ≡ Some d

-- the greatest depth of documents, if there is one
abbrev pub depth_limit : Limits → ℕ → Option ℕ
depth_limit kept greatest = Some greatest
depth_limit lifted greatest = None

-- from a on lies no document
abbrev pub NoDocumentLies : LexicalGrammar → Settings → ℕ → List ℕ → ℕ → Type 0
NoDocumentLies g c depth input a =
    (d : Document Number) (e : ℕ) → DocumentLies g c depth input a d e → ⊥

-- from a on lies a number of the grammar that no document holds
pub record OtherNumberLies (g : LexicalGrammar) (input : List ℕ) (a : ℕ) : Type 0 where
  pub raw : List ℕ
  pub e : ℕ
  pub lies : LiesInGrammar g scalars.BigDecimal (a_number raw) input a e
  pub not_held : number_of raw ≡ None

-- an array or an object opens at a, or a scalar lies there whose token passes the test
abbrev pub ValueOpens : LexicalGrammar → (JsonScalar → Bool) → List ℕ → ℕ → Type 0
ValueOpens g test input a =
    ((is_object : Bool) × (inside : ℕ) × Lies (IsByte (opening is_object)) input a inside)
    ⊎ ((e : ℕ) × ScalarLies g test input a e)

-- a value comes inside of as many containers as may be open, in the document that begins at a inside of `depth` containers
pub record OpensDocumentTooDeep (g : LexicalGrammar) (greatest depth : ℕ) (input : List ℕ) (a : ℕ) : Type 0 where
  -- the containers of the document around the value that comes too deep, the innermost first: true for an object, false for an
  -- array
  pub containers : List Bool
  pub at : ℕ
  pub due : IsDueInside g (is_read_in g) containers input a at
  pub opens : ValueOpens g (is_read_in g) input at
  pub deepest : depth + length containers ≡ greatest

-- a number that no document holds comes as a value, in the document that begins at a
pub record MeetsOtherNumber (g : LexicalGrammar) (input : List ℕ) (a : ℕ) : Type 0 where
  -- the containers of the document around the number, the innermost first: true for an object, false for an array
  pub containers : List Bool
  pub at : ℕ
  pub due : IsDueInside g (is_read_in g) containers input a at
  pub other : OtherNumberLies g input at

-- ---- documents at a place

-- a document lies from a to e, and behind it comes what may follow a container
abbrev pub DocumentStands : LexicalGrammar → Settings → ℕ → List ℕ → ℕ → Document Number → ℕ → Type 0
DocumentStands g c depth input a d e =
    DocumentLies g c depth input a d e × EndsContainer (BoundaryBy g.is_strict) depth (drop e input)

-- from a on no document lies behind which comes what may follow a container
abbrev pub NoDocumentStands : LexicalGrammar → Settings → ℕ → List ℕ → ℕ → Type 0
NoDocumentStands g c depth input a =
    (d : Document Number) (e : ℕ) → DocumentStands g c depth input a d e → ⊥

-- ---- documents at a place, by the grammar of RFC 8259

-- from a to e lies a tree that means the document inside so many containers, and behind it comes what may follow a container
pub record TreeDocumentStands (limits : Option ℕ) (depth : ℕ) (input : List ℕ) (a : ℕ) (d : Document Number) (e : ℕ) : Type 0 where
  pub tree : Json
  pub lies : TreeLies 1 tree input a e
  pub means : document_meaning limits depth tree ≡ Some d
  pub follows : FollowsContainer depth (drop e input)

-- from a on no tree lies that means a document so
abbrev pub NoTreeDocumentStands : Option ℕ → ℕ → List ℕ → ℕ → Type 0
NoTreeDocumentStands limits depth input a =
    (d : Document Number) (e : ℕ) → TreeDocumentStands limits depth input a d e → ⊥
