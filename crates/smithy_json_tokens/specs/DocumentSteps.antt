-- The document that tokens make, one after another, with the containers that are open.
use Rattle.std.specs.Prelude.{◌≡◌, ◌≤◌, ◌⊎◌, ℕ, suc, nat_le, List, [], ◌∷◌, length, Option, Some, None, Result, Ok, Err, if◌then◌else◌}
use Rattle.smithy_types.specs.Document.{Document, null, boolean, number, text, array, object, Documents, no_documents, item, Properties, no_properties, put_property}
use Rattle.smithy_types.specs.DocumentView.{document_view}
use Rattle.smithy_types.specs.declared.number.Number.{Number}
use Rattle.smithy_types.specs.declared.document.Document as kept
use Rattle.smithy_json_grammar.specs.Tree.{Json}
use Rattle.smithy_json_grammar.specs.Unescape.{unescape}
use Rattle.smithy_json.specs.DocumentMeaning.{document_meaning}
use Rattle.smithy_json_grammar.specs.declared.escape_error.EscapeError.{EscapeError}
use Rattle.smithy_json_tokens.specs.Tokens.{JsonToken, start_array, end_array, start_object, end_object, value_null, value_bool, value_number, value_string, object_key, tokens}
use Rattle.smithy_json_tokens.specs.Faults.{error_at, IsCustomKind, IsCustomAt}
use Rattle.smithy_json_tokens.specs.TokenSteps.{Takes, SurelyGives}
use Rattle.smithy_json_tokens.specs.declared.error.DeserializeError.{DeserializeError}
use Rattle.smithy_json_tokens.specs.declared.error.DeserializeErrorKind.TheVariants.{UnescapeFailed, NoMemory}

-- an open container: an array with its elements so far; an object with its properties so far, where a name or the object's end is
-- due; or an object with its properties so far and the name whose value is due
pub data Frame : Type 0 where
  in_array : Documents Number → Frame
  in_object : Properties Number → Frame
  behind_name : Properties Number → List ℕ → Frame

-- what a token makes of the open containers, the innermost first: these containers are open then; the document is whole; a bad
-- escape; or the token may not come
pub data Step : Type 0 where
  goes_on : List Frame → Step
  whole : Document Number → Step
  bad_escape : EscapeError → Step
  wrong : Step

-- the elements with one more at the end
abbrev pub add_element : Documents Number → Document Number → Documents Number
add_element no_documents d = item d no_documents
add_element (item e ds) d = item e (add_element ds d)

-- what a value makes of the open containers where it ends
abbrev pub put_value : Document Number → List Frame → Step
put_value d [] = whole d
put_value d (in_array ds ∷ frames) = goes_on (in_array (add_element ds d) ∷ frames)
put_value d (behind_name ps name ∷ frames) = goes_on (in_object (put_property name d ps) ∷ frames)
put_value d (in_object ps ∷ frames) = wrong

-- where a value may begin: not where a name is due, and inside fewer than 256 values
abbrev pub where_value : List Frame → Step → Step
where_value (in_object ps ∷ frames) step = wrong
where_value frames step = if nat_le (suc (length frames)) 256 then step else wrong

-- a string's text as a value, and as a name
abbrev pub text_step : List Frame → Result (List ℕ) EscapeError → Step
text_step frames (Ok s) = put_value (text s) frames
text_step frames (Err fault) = bad_escape fault

abbrev pub name_step : Properties Number → List Frame → Result (List ℕ) EscapeError → Step
name_step ps frames (Ok name) = goes_on (behind_name ps name ∷ frames)
name_step ps frames (Err fault) = bad_escape fault

-- what one token makes of the open containers
abbrev pub document_step : List Frame → JsonToken → Step
document_step frames value_null = where_value frames (put_value null frames)
document_step frames (value_bool b) = where_value frames (put_value (boolean b) frames)
document_step frames (value_number n) = where_value frames (put_value (number n) frames)
document_step frames (value_string raw) = where_value frames (text_step frames (unescape raw))
document_step frames start_array = where_value frames (goes_on (in_array no_documents ∷ frames))
document_step frames start_object = where_value frames (goes_on (in_object no_properties ∷ frames))
document_step (in_array ds ∷ frames) end_array = put_value (array ds) frames
document_step (in_object ps ∷ frames) end_object = put_value (object ps) frames
document_step (in_object ps ∷ frames) (object_key raw) = name_step ps frames (unescape raw)
document_step _ _ = wrong

-- the error that a step is, at the offset of its token
abbrev pub IsStepError : Step → ℕ → DeserializeError → Type 0
IsStepError (bad_escape fault) at e = e ≡ error_at (UnescapeFailed fault) at
IsStepError wrong at e = (e.offset ≡ Some at) × IsCustomKind e.kind
IsStepError _ at e = ⊥

-- memory may run out: not at a token that may not come
abbrev pub TakesMemory : Step → Type 0
TakesMemory wrong = ⊥
TakesMemory _ = Unit {0}

-- what a call answers at a step that ends its document: the document, or the error of the step; or memory ran out
abbrev pub EndsWith : Step → ℕ → Result kept.Document DeserializeError → Type 0
EndsWith step at (Ok d) = step ≡ whole (document_view d)
EndsWith step at (Err e) = IsStepError step at e ⊎ ((e ≡ error_at NoMemory at) × TakesMemory step)

-- the call answers this document, or the want of memory
abbrev pub IsDocument : Document Number → Result kept.Document DeserializeError → Type 0
IsDocument d (Ok x) = document_view x ≡ d
IsDocument d (Err e) = e.kind ≡ NoMemory

-- For tokens of a type T: `view` is what a token is, `place` its offset, and `steps` what a call of an iterator over them gives.
module _ {T S : Type 0} (view : T → JsonToken) (place : T → ℕ) (steps : S → Option (Result T DeserializeError) → S → Type 0) where
  -- what the last item makes of the document: the tokens end too early, an error is passed on, or the token ends it
  abbrev pub DocumentStops : List Frame → Option (Result T DeserializeError) → Result kept.Document DeserializeError → Type 0
  DocumentStops frames None result = IsCustomAt None result
  DocumentStops frames (Some (Err e)) result = result ≡ Err e
  DocumentStops frames (Some (Ok token)) result =
      EndsWith (document_step frames (view token)) (place token) result

  -- from s, these tokens are taken, and then an item stops it, with t left
  abbrev pub MakesDocument : List T → S → Result kept.Document DeserializeError → S → Type 0
  MakesDocument taken s result t =
      Takes steps (λ frames token more. document_step frames (view token) ≡ goes_on more) DocumentStops
      taken [] s result t

  -- where calls from s surely give the tokens of a tree that means a document under a greatest depth of at most
  -- 256, it is this document, or the want of memory
  abbrev pub MakesMeaning : S → Result kept.Document DeserializeError → Type 0
  MakesMeaning s result =
      (tree : Json) (greatest : ℕ) (d : Document Number) → greatest ≤ 256
      → document_meaning (Some greatest) 0 tree ≡ Some d → SurelyGives view steps (tokens tree) s
      → IsDocument d result
