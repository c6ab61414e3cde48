-- A value that is skipped, and what is open on the way through it.
use Rattle.std.specs.Prelude.{◌≡◌, ◌≤◌, ◌+◌, ◌⊎◌, ℕ, List, Bool, true, false, Option, Some, None}
use Rattle.smithy_schema.specs.declared.error.SerdeError.{SerdeError}
use Rattle.smithy_schema.specs.declared.error.SerdeError.TheVariants as errors
use Rattle.smithy_json_values.specs.declared.places.InList.{InList}
use Rattle.smithy_json_values.specs.declared.places.InList.TheVariants.{Element, End}
use Rattle.smithy_json_values.specs.declared.skip.Beginning.{Beginning}
use Rattle.smithy_json_values.specs.declared.skip.Beginning.TheVariants.{Container, Scalar}
use Rattle.smithy_json_values.specs.declared.skip.SkipFault.{SkipFault}
use Rattle.smithy_json_values.specs.declared.skip.SkipFault.TheVariants.{NoValue, TooDeep}
use Rattle.smithy_json_values.specs.declared.skip.Step.{Step}
use Rattle.smithy_json_values.specs.declared.skip.Step.TheVariants.{PastScalar, IntoContainer, ToValue, OutOfContainer}
use Rattle.smithy_json_values.specs.Scalar.{JsonScalar, a_string}
use Rattle.smithy_json_values.specs.Spans.{Lies, IsByte, opening as opening_of, closing as closing_of}
use Rattle.smithy_json_values.specs.Tokens.{NameTokens}
use Rattle.smithy_json_values.specs.LexicalGrammar.{LexicalGrammar, is_skipped_in, NodeLies}
use Rattle.smithy_json_values.specs.Private.NextInContainer.{ElementBegins, ClosesIn}
use Rattle.smithy_wire.specs.Node.{Form, as_array, as_object, Node, nesting}

-- from at to e lies a value of the grammar inside so many containers, and it goes no deeper than the greatest depth
pub record SkipsTo (g : LexicalGrammar) (greatest depth : ℕ) (input : List ℕ) (at e : ℕ) : Type 0 where
  pub node : Node JsonScalar
  pub lies : NodeLies g (is_skipped_in g) depth node input at e
  pub shallow : depth + nesting node ≤ greatest

-- a value lies at the place that is neither an array nor an object, and its token passes the test
pub record ScalarLies (g : LexicalGrammar) (test : JsonScalar → Bool) (input : List ℕ) (at e : ℕ) : Type 0 where
  pub node : Node JsonScalar
  pub lies : NodeLies g test 1 node input at e
  pub flat : nesting node ≡ 0

abbrev pub NoValueLies : LexicalGrammar → (JsonScalar → Bool) → List ℕ → ℕ → Type 0
NoValueLies g test input at = (depth : ℕ) (x : Node JsonScalar) (e : ℕ) → NodeLies g test depth x input at e → ⊥

-- an object is told from an array
abbrev pub form_of : Bool → Form
form_of true = as_object
form_of false = as_array

-- the brackets of an object or of an array
abbrev pub opening : Bool → ℕ
opening is_object = opening_of (form_of is_object)

abbrev pub closing : Bool → ℕ
closing is_object = closing_of (form_of is_object)

-- how the value begins that lies there
abbrev pub BeginsAs : LexicalGrammar → List ℕ → ℕ → Option Beginning → Type 0
BeginsAs g input at (Some (Container is_object inside)) = Lies (IsByte (opening is_object)) input at inside
BeginsAs g input at (Some (Scalar e)) = ScalarLies g (is_skipped_in g) input at e
BeginsAs g input at None = NoValueLies g (is_skipped_in g) input at

-- another value of the object or the array is due at c, in an object behind a name that passes the test
abbrev pub ValueBegins : (JsonScalar → Bool) → List ℕ → ℕ → Bool → Bool → ℕ → Type 0
ValueBegins test input at true entered c = (raw : List ℕ) × NameTokens entered input at raw c × (test (a_string raw) ≡ true)
ValueBegins test input at false entered c = ElementBegins input at entered c

-- how an object or an array goes on, exactly
abbrev pub GoesOnInside : LexicalGrammar → List ℕ → ℕ → Bool → Bool → ℕ → Option InList → Type 0
GoesOnInside g input at is_object entered depth (Some (Element c)) = ValueBegins (is_skipped_in g) input at is_object entered c
GoesOnInside g input at is_object entered depth (Some (End e)) = ClosesIn g (closing is_object) input at depth e
GoesOnInside g input at is_object entered depth None =
    ((c : ℕ) → ValueBegins (is_skipped_in g) input at is_object entered c → ⊥)
    × ((e : ℕ) → ClosesIn g (closing is_object) input at depth e → ⊥)

-- the next step, exactly: a value is due, or else the innermost container goes on
abbrev pub IsNextStep : LexicalGrammar → List ℕ → ℕ → Bool → Bool → Bool → ℕ → Option Step → Type 0
IsNextStep g input at due is_object entered depth (Some (PastScalar e)) = (due ≡ true) × ScalarLies g (is_skipped_in g) input at e
IsNextStep g input at due is_object entered depth (Some (IntoContainer kind inside)) = (due ≡ true) × Lies (IsByte (opening kind)) input at inside
IsNextStep g input at due is_object entered depth (Some (ToValue c)) = (due ≡ false) × ValueBegins (is_skipped_in g) input at is_object entered c
IsNextStep g input at due is_object entered depth (Some (OutOfContainer e)) = (due ≡ false) × ClosesIn g (closing is_object) input at depth e
IsNextStep g input at due is_object entered depth None =
    ((due ≡ true) × NoValueLies g (is_skipped_in g) input at) ⊎ ((due ≡ false) × GoesOnInside g input at is_object entered depth None)

-- the error of a reader that refuses where nothing is skipped
abbrev pub skip_refusal : SkipFault → SerdeError
skip_refusal NoValue = errors.InvalidInput
skip_refusal TooDeep = errors.TooDeep
