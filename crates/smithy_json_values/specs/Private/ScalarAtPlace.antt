-- The scalar that lies at a place, in a grammar and under some settings, as private functions answer it.
use Rattle.std.specs.Prelude.{◌≡◌, ℕ, ℤ, List, Option, Some, MatchOption, true}
use Rattle.smithy_texts.specs.Ranges.{fits_signed}
use Rattle.smithy_json_grammar.specs.Unescape.{unescaped}
use Rattle.smithy_declarations.specs.declared.shape_type.Scalar.{Scalar}
use Rattle.smithy_declarations.specs.declared.shape_type.Scalar.TheVariants as scalars
use Rattle.smithy_declarations.specs.declared.shape_type.TimestampFormat.{TimestampFormat}
use Rattle.smithy_declarations.specs.Value.{ScalarValue, instant, scalar_value}
use Rattle.smithy_json_values.specs.Settings.{Settings}
use Rattle.smithy_json_values.specs.Scalar.{JsonScalar, a_number, a_string, bytes_of, number_text, integer_of, number_says, timestamp_says}
use Rattle.smithy_json_values.specs.LexicalGrammar.{LexicalGrammar, LiesInGrammar}
use Rattle.smithy_wire.specs.declared.found.Found.{Found}
use Rattle.smithy_wire.specs.Finding.{MatchFound}
use Rattle.smithy_wire.specs.Rules.{means, no_meaning, wide, uncarried}

-- a search found what stands there, as this shows it, with its end, or nothing where nothing does
abbrev pub Finds : {A : Type 0} {V : Type 0} → (V → ℕ → Type 0) → (A → V) → Option (A × ℕ) → Type 0
Finds found_at shown found = MatchOption found ((x : _) (e : ℕ) → found_at x e → ⊥) (λ r. found_at (shown r.0) r.1)

-- a string that has this text lies there
pub record TextLies (g : LexicalGrammar) (input : List ℕ) (at : ℕ) (text : List ℕ) (e : ℕ) : Type 0 where
  pub raw : List ℕ
  pub lies : LiesInGrammar g scalars.String (a_string raw) input at e
  pub is : unescaped raw ≡ Some text

-- a string whose text is the base64 of these bytes lies there
pub record BlobLies (g : LexicalGrammar) (input : List ℕ) (at : ℕ) (blob : List ℕ) (e : ℕ) : Type 0 where
  pub raw : List ℕ
  pub lies : LiesInGrammar g scalars.String (a_string raw) input at e
  pub is : bytes_of (a_string raw) ≡ Some blob

-- an integer of so many bits lies there
pub record IntegerLies (g : LexicalGrammar) (c : Settings) (bits : ℕ) (input : List ℕ) (at : ℕ) (n : ℤ) (e : ℕ) : Type 0 where
  pub raw : List ℕ
  pub lies : LiesInGrammar g scalars.Long (a_number raw) input at e
  pub is : integer_of c raw ≡ Some n
  pub fits : fits_signed bits n ≡ true

-- a number or a string lies at the place whose text is this value as the kind of big numbers
pub record MeansAt (g : LexicalGrammar) (s : Scalar) (input : List ℕ) (at : ℕ) (v : ScalarValue) (e : ℕ) : Type 0 where
  pub found : JsonScalar
  pub lies : LiesInGrammar g s found input at e
  pub is : number_says s (number_text found) ≡ means (scalar_value v)

-- one lies at the place that leaves the limits of the kind
pub record ExceedsAt (g : LexicalGrammar) (s : Scalar) (input : List ℕ) (at : ℕ) : Type 0 where
  pub found : JsonScalar
  pub e : ℕ
  pub lies : LiesInGrammar g s found input at e
  pub is : number_says s (number_text found) ≡ wide

-- whatever scalar lies at the place, it means nothing as the kind
abbrev pub NothingAt : LexicalGrammar → Scalar → List ℕ → ℕ → Type 0
NothingAt g s input at = (x : JsonScalar) (e : ℕ) → LiesInGrammar g s x input at e → number_says s (number_text x) ≡ no_meaning

-- a search for a number of this kind found what lies there, as this shows it, with its end; or that none lies there; or one that
-- leaves the limits of the kind
abbrev pub FindsWithin : {A : Type 0} → LexicalGrammar → Scalar → (A → ScalarValue) → List ℕ → ℕ → Found (A × ℕ) → Type 0
FindsWithin g s shown input at found =
    MatchFound found (λ r. MeansAt g s input at (shown r.0) r.1) (NothingAt g s input at) (ExceedsAt g s input at)

-- a scalar lies at the place that is this instant, where instants have this form or none
pub record InstantLies (g : LexicalGrammar) (c : Settings) (time : Option TimestampFormat) (input : List ℕ) (at : ℕ) (n : ℤ) (e : ℕ) : Type 0 where
  pub found : JsonScalar
  pub lies : LiesInGrammar g scalars.Timestamp found input at e
  pub is : timestamp_says c time found ≡ means (scalar_value (instant n))

-- a scalar lies at the place that isn't carried as an instant
pub record UncarriedLies (g : LexicalGrammar) (c : Settings) (time : Option TimestampFormat) (input : List ℕ) (at : ℕ) : Type 0 where
  pub found : JsonScalar
  pub e : ℕ
  pub lies : LiesInGrammar g scalars.Timestamp found input at e
  pub is : timestamp_says c time found ≡ uncarried

-- no scalar that is an instant lies at the place
abbrev pub NoInstantLies : LexicalGrammar → Settings → Option TimestampFormat → List ℕ → ℕ → Type 0
NoInstantLies g c time input at =
    (x : JsonScalar) (e : ℕ) → LiesInGrammar g scalars.Timestamp x input at e → timestamp_says c time x ≡ no_meaning
