-- What comes next in a container, as private functions answer it.
use Rattle.std.specs.Prelude.{◌≡◌, ◌<◌, ◌≤◌, ℕ, List, length, drop, slice_index, slice_range, Bool, true, false, Option, Some, None}
use Rattle.smithy_json_grammar.specs.Ascii.{end_array, end_object, is_ws}
use Rattle.smithy_json_grammar.specs.Grammar.{IsWs}
use Rattle.smithy_json_grammar.specs.Unescape.{has_escape}
use Rattle.smithy_json_values.specs.declared.places.InList.{InList}
use Rattle.smithy_json_values.specs.declared.places.InList.TheVariants.{Element, End as EndOfList}
use Rattle.smithy_json_values.specs.declared.places.InObject.{InObject}
use Rattle.smithy_json_values.specs.declared.places.InObject.TheVariants.{Member, End as EndOfObject}
use Rattle.smithy_json_values.specs.declared.places.Name.{Name}
use Rattle.smithy_json_values.specs.Spans.{Lies, IsByte, IsSeparated}
use Rattle.smithy_json_values.specs.Tokens.{BoundaryBy, EndsInside, NameTokens}
use Rattle.smithy_json_values.specs.LexicalGrammar.{LexicalGrammar}
use Rattle.smithy_json_values.specs.Private.PlacedTexts.{StandsFrom}

-- at `start` stands the first byte from `at` on that is no white space
pub record IsFirstByte (input : List ℕ) (at byte start : ℕ) : Type 0 where
  pub ordered : at ≤ start
  pub within : start < length input
  pub ws : IsWs (slice_range input at start)
  pub is : slice_index input start ≡ byte
  pub plain : is_ws byte ≡ false

-- the byte doesn't come first behind white space
abbrev pub IsNotFirst : ℕ → List ℕ → ℕ → Type 0
IsNotFirst byte input at = (e : ℕ) → Lies (IsByte byte) input at e → ⊥

-- the innermost of `depth` open containers closes by this byte and ends at e, where it may end
abbrev pub ClosesIn : LexicalGrammar → ℕ → List ℕ → ℕ → ℕ → ℕ → Type 0
ClosesIn g byte input at depth e = Lies (IsByte byte) input at e × EndsInside (BoundaryBy g.is_strict) depth (drop e input)

-- another element of an array is due at c
abbrev pub ElementBegins : List ℕ → ℕ → Bool → ℕ → Type 0
ElementBegins input at entered c = IsSeparated entered input at c × IsNotFirst end_array input c

-- how a list goes on, exactly
abbrev pub GoesOnInArray : LexicalGrammar → List ℕ → ℕ → Bool → ℕ → Option InList → Type 0
GoesOnInArray g input at entered depth (Some (Element c)) = ElementBegins input at entered c
GoesOnInArray g input at entered depth (Some (EndOfList e)) = ClosesIn g end_array input at depth e
GoesOnInArray g input at entered depth None =
    ((c : ℕ) → ElementBegins input at entered c → ⊥) × ((e : ℕ) → ClosesIn g end_array input at depth e → ⊥)

-- another name of an object is due at c
abbrev pub NameIsDue : List ℕ → ℕ → Bool → ℕ → Type 0
NameIsDue input at entered c = IsSeparated entered input at c × IsNotFirst end_object input at

-- where the name of a member is due, or the object ends, or neither
abbrev pub GoesOnToName : LexicalGrammar → List ℕ → ℕ → Bool → ℕ → Option InList → Type 0
GoesOnToName g input at entered depth (Some (Element c)) = NameIsDue input at entered c
GoesOnToName g input at entered depth (Some (EndOfList e)) = ClosesIn g end_object input at depth e
GoesOnToName g input at entered depth None =
    ((raw : List ℕ) (c : ℕ) → NameTokens entered input at raw c → ⊥) × ((e : ℕ) → ClosesIn g end_object input at depth e → ⊥)

-- from at to c a member begins whose name is in the grammar
abbrev pub NamesIn : LexicalGrammar → Bool → List ℕ → ℕ → List ℕ → ℕ → Type 0
NamesIn g entered input at raw c = NameTokens entered input at raw c × (g.is_text raw ≡ true)

-- a member's name stands there, from its own place on, whether it holds an escape or not
pub record NameStands (g : LexicalGrammar) (input : List ℕ) (at : ℕ) (entered : Bool) (name : Name) : Type 0 where
  pub names : NamesIn g entered input at name.raw.now name.end
  pub stands : StandsFrom input at name.end name.at name.raw.now
  pub has_escape : name.has_escape ≡ has_escape name.raw.now

-- how an object goes on, exactly
abbrev pub GoesOnInObject : LexicalGrammar → List ℕ → ℕ → Bool → ℕ → Option InObject → Type 0
GoesOnInObject g input at entered depth (Some (Member name)) = NameStands g input at entered name
GoesOnInObject g input at entered depth (Some (EndOfObject e)) = ClosesIn g end_object input at depth e
GoesOnInObject g input at entered depth None =
    ((raw : List ℕ) (c : ℕ) → NamesIn g entered input at raw c → ⊥) × ((e : ℕ) → ClosesIn g end_object input at depth e → ⊥)
