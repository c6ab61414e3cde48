-- What the open arrays and objects of a document hold so far, and one step of the walk through it.
use Rattle.std.specs.Prelude.{◌≡◌, ◌⊎◌, ◌<◌, ◌≤◌, ◌+◌, ℕ, suc, List, drop, Bool, true, false, map, reverse, string_bytes, Option, Some, None, Result, Ok, Err, if◌then◌else◌}
use Rattle.smithy_schema.specs.declared.error.SerdeError.{SerdeError}
use Rattle.smithy_schema.specs.declared.error.SerdeError.TheVariants as errors
use Rattle.smithy_types.specs.Document.{Document, array, object, Documents, no_documents, item, Properties, no_properties, put_property}
use Rattle.smithy_types.specs.DocumentView.{document_view, elements_view, properties_view}
use Rattle.smithy_types.specs.declared.number.Number.{Number}
use Rattle.smithy_json_grammar.specs.HeldNumber.{number_of}
use Rattle.smithy_json_grammar.specs.Unescape.{unescaped}
use Rattle.smithy_json_values.specs.declared.documents.Open.{Open}
use Rattle.smithy_json_values.specs.declared.documents.Open.TheVariants.{Array, Object}
use Rattle.smithy_json_values.specs.declared.documents.Frame.{Frame}
use Rattle.smithy_json_values.specs.declared.documents.Frame.TheVariants.{InArray, BehindName}
use Rattle.smithy_json_values.specs.declared.documents.DocumentFault.{DocumentFault}
use Rattle.smithy_json_values.specs.declared.documents.DocumentFault.TheVariants.{NoDocument, TooDeep, NotCarried, NoMemory}
use Rattle.smithy_json_values.specs.declared.documents.scalars.BeginFault.{BeginFault}
use Rattle.smithy_json_values.specs.declared.documents.scalars.BeginFault.TheVariants as begin_faults
use Rattle.smithy_json_values.specs.declared.documents.scalars.Begun.{Begun}
use Rattle.smithy_json_values.specs.declared.documents.scalars.Begun.TheVariants.{Scalar, Container}
use Rattle.smithy_json_values.specs.declared.documents.Step.{Step}
use Rattle.smithy_json_values.specs.declared.documents.Step.TheVariants.{Inside, Opens, Ends}
use Rattle.smithy_json_values.specs.Openers.{json_openers}
use Rattle.smithy_json_values.specs.Settings.{Settings, without_limits}
use Rattle.smithy_declarations.specs.declared.shape_type.Scalar.TheVariants as scalars
use Rattle.smithy_json_values.specs.Scalar.{JsonScalar, a_number}
use Rattle.smithy_json_values.specs.Spans.{Lies, IsByte}
use Rattle.smithy_json_values.specs.Tokens.{NameTokens}
use Rattle.smithy_json_values.specs.LexicalGrammar.{LexicalGrammar, token_rules, LiesInGrammar, NodeLies}
use Rattle.smithy_json_values.specs.Documents.{is_read_in, document_in, OtherNumberLies, NoDocumentLies, NoDocumentStands, OpensDocumentTooDeep, MeetsOtherNumber}
use Rattle.smithy_json_values.specs.Private.NextInContainer.{ElementBegins, ClosesIn}
use Rattle.smithy_json_values.specs.Private.Skipping.{opening, closing}
use Rattle.smithy_wire.specs.Node.{Node, nesting}
use Rattle.smithy_wire.specs.Rules.{at_depth}

-- ---- what is open

-- an open container: an array with its elements so far, or an object with its properties so far
pub data OpenContainer : Type 0 where
  open_array : Documents Number → OpenContainer
  open_object : Properties Number → OpenContainer

-- an open container in which a value is due: the next element of an array, or the value of a name of an object
pub data Waiting : Type 0 where
  waiting_array : Documents Number → Waiting
  waiting_object : Properties Number → List ℕ → Waiting

-- the elements with one more at the end
abbrev pub add_element : Documents Number → Document Number → Documents Number
add_element no_documents d = item d no_documents
add_element (item e ds) d = item e (add_element ds d)

-- the container with the value that was due in it
abbrev pub with_value : Waiting → Document Number → OpenContainer
with_value (waiting_array ds) d = open_array (add_element ds d)
with_value (waiting_object ps name) d = open_object (put_property name d ps)

-- a container that has just opened
abbrev pub fresh : Bool → OpenContainer
fresh false = open_array no_documents
fresh true = open_object no_properties

-- the document that a container is where it ends
abbrev pub document_of : OpenContainer → Document Number
document_of (open_array ds) = array ds
document_of (open_object ps) = object ps

abbrev pub is_object : OpenContainer → Bool
is_object (open_array ds) = false
is_object (open_object ps) = true

-- an open container, by what the code keeps of it
abbrev pub open_view : Open → OpenContainer
open_view (Array v) = open_array (elements_view v.items)
open_view (Object m) = open_object (properties_view m.entries)

abbrev pub frame_view : Frame → Waiting
frame_view (InArray v) = waiting_array (elements_view v.items)
frame_view (BehindName m name) = waiting_object (properties_view m.entries) (string_bytes name)

-- the containers that wait for a value, by the stack of the code, the innermost first
abbrev pub frames_view : List Frame → List Waiting
frames_view frames = map frame_view (reverse frames)

-- ---- a value is due

-- from a to e lies a scalar of the grammar that means the document wherever the depth allows it
pub record ScalarMeans (g : LexicalGrammar) (input : List ℕ) (a : ℕ) (d : Document Number) (e : ℕ) : Type 0 where
  pub node : Node JsonScalar
  pub lies : NodeLies g (is_read_in g) 1 node input a e
  pub flat : nesting node ≡ 0
  pub means : (c : Settings) (depth : ℕ) → document_in g c depth node ≡ at_depth (token_rules g c) (suc depth) (Some d)

-- from a on lies this number of the grammar, as a document holds it
pub record HeldNumberLies (g : LexicalGrammar) (input : List ℕ) (a : ℕ) (n : Number) (e : ℕ) : Type 0 where
  pub raw : List ℕ
  pub lies : LiesInGrammar g scalars.BigDecimal (a_number raw) input a e
  pub is : number_of raw ≡ Some n

-- from a on lies no number of the grammar
abbrev pub NoNumberLies : LexicalGrammar → List ℕ → ℕ → Type 0
NoNumberLies g input a =
    (raw : List ℕ) (e : ℕ) → LiesInGrammar g scalars.BigDecimal (a_number raw) input a e → ⊥

-- how a value begins at a: a scalar is read, with its end, or a container opens; or no document lies there, whatever
-- the settings, or a number that none holds
abbrev pub BeginsDocument : LexicalGrammar → List ℕ → ℕ → Result Begun BeginFault → Type 0
BeginsDocument g input a (Ok (Scalar d e)) = ScalarMeans g input a (document_view d) e
BeginsDocument g input a (Ok (Container kind inside)) = Lies (IsByte (opening kind)) input a inside
BeginsDocument g input a (Err begin_faults.NoValue) =
    (c : Settings) (depth : ℕ) → NoDocumentLies g c depth input a
BeginsDocument g input a (Err begin_faults.NotCarried) = OtherNumberLies g input a
BeginsDocument g input a (Err begin_faults.NoMemory) = Unit {0}

-- ---- refusals

-- What a fault says where a document was refused at the place a, inside of `depth` containers. `Absent` says that no document
-- is there under some settings: that holds with each fault, and with `NoDocument` also without limits. Want of memory says
-- nothing.
abbrev pub Refuses : (Settings → Type 0) → LexicalGrammar → Settings → ℕ → List ℕ → ℕ → DocumentFault → Type 0
Refuses Absent g c depth input a NoDocument = Absent (without_limits c) × Absent c
Refuses Absent g c depth input a TooDeep =
    OpensDocumentTooDeep g c.max_depth depth input a × (c.max_depth ≤ depth + json_openers (drop a input))
    × Absent c
Refuses Absent g c depth input a NotCarried = MeetsOtherNumber g input a × Absent c
Refuses Absent g c depth input a NoMemory = Unit {0}

-- what a fault says where a document was refused because none lies at the place a
abbrev pub RefusesDocument : LexicalGrammar → Settings → ℕ → List ℕ → ℕ → DocumentFault → Type 0
RefusesDocument g c depth input a f =
    Refuses (λ o. NoDocumentLies g o depth input a) g c depth input a f

-- what a fault says where a document was refused because none lies at the place a with what may follow a container behind it
abbrev pub RefusesStanding : LexicalGrammar → Settings → ℕ → List ℕ → ℕ → DocumentFault → Type 0
RefusesStanding g c depth input a f =
    Refuses (λ o. NoDocumentStands g o depth input a) g c depth input a f

-- why no document is read where none begins
abbrev pub begin_fault : BeginFault → DocumentFault
begin_fault begin_faults.NoValue = NoDocument
begin_fault begin_faults.NotCarried = NotCarried
begin_fault begin_faults.NoMemory = NoMemory

-- the error of a reader that refuses where no document is read
abbrev pub document_refusal : DocumentFault → SerdeError
document_refusal NoDocument = errors.InvalidInput
document_refusal TooDeep = errors.TooDeep
document_refusal NotCarried = errors.NotCarried
document_refusal NoMemory = errors.NoMemory

-- ---- a container goes on

-- the text of a name that is in the grammar
abbrev pub name_text : LexicalGrammar → List ℕ → Option (List ℕ)
name_text g raw = if g.is_text raw then unescaped raw else None

-- at c the value of another entry is due, which this container then waits for
abbrev pub EntryBegins : LexicalGrammar → List ℕ → ℕ → Bool → OpenContainer → Waiting → ℕ → Type 0
EntryBegins g input at entered (open_array ds) w c =
    (w ≡ waiting_array ds) × ElementBegins input at entered c
EntryBegins g input at entered (open_object ps) w c =
    (raw name : List ℕ) × (w ≡ waiting_object ps name) × NameTokens entered input at raw c
    × (name_text g raw ≡ Some name)

-- at the place neither another entry of the container begins nor does the container end
abbrev pub NoEntry : LexicalGrammar → List ℕ → ℕ → Bool → OpenContainer → Type 0
NoEntry g input at entered o =
    ((w : Waiting) (c : ℕ) → EntryBegins g input at entered o w c → ⊥)
    × ((e : ℕ) → ClosesIn g (closing (is_object o)) input at 2 e → ⊥)

-- what is made of the value that is due at p inside so many containers
abbrev pub TakesValue : LexicalGrammar → Settings → ℕ → List ℕ → ℕ → Waiting → Result Step DocumentFault → Type 0
TakesValue g c depth input p w (Ok (Inside more e)) =
    (depth < c.max_depth)
    × ((d : Document Number) × ScalarMeans g input p d e × (open_view more ≡ with_value w d))
TakesValue g c depth input p w (Ok (Opens frame kind inside)) =
    (depth < c.max_depth) × Lies (IsByte (opening kind)) input p inside × (frame_view frame ≡ w)
TakesValue g c depth input p w (Ok (Ends d e)) = ⊥
TakesValue g c depth input p w (Err e) = RefusesDocument g c depth input p e

-- at the place another entry of the container begins, and the step is what is made of the entry's value
abbrev pub TakesEntry : LexicalGrammar → Settings → ℕ → List ℕ → ℕ → Bool → OpenContainer → Result Step DocumentFault → Type 0
TakesEntry g c depth input at entered o r =
    (w : Waiting) × (p : ℕ) × EntryBegins g input at entered o w p
    × TakesValue g c depth input p w r

-- the next step inside of a container that is the innermost of so many
abbrev pub TakesStep : LexicalGrammar → Settings → ℕ → List ℕ → ℕ → Bool → OpenContainer → Result Step DocumentFault → Type 0
TakesStep g c depth input at entered o (Ok (Inside more e)) =
    TakesEntry g c depth input at entered o (Ok (Inside more e))
TakesStep g c depth input at entered o (Ok (Opens frame kind inside)) =
    TakesEntry g c depth input at entered o (Ok (Opens frame kind inside))
TakesStep g c depth input at entered o (Ok (Ends d e)) =
    ClosesIn g (closing (is_object o)) input at 2 e × (document_view d ≡ document_of o)
TakesStep g c depth input at entered o (Err e) =
    TakesEntry g c depth input at entered o (Err e)
    ⊎ (((e ≡ NoDocument) × NoEntry g input at entered o) ⊎ (e ≡ NoMemory))
