-- What each call of a serializer makes of its state.
use Rattle.std.specs.Prelude.{ℕ, List, [], ◌∷◌, ◌++◌, Bool, true, false, if◌then◌else◌, Result, Ok, Err, Option, is_some, unwrap_or, codes}
use Rattle.std.specs.Option.{option_map_or}
use Rattle.smithy_schema.specs.declared.error.SerdeError.{SerdeError}
use Rattle.smithy_schema.specs.declared.error.SerdeError.TheVariants.{Unwritable}
use Rattle.smithy_declarations.specs.declared.shape_type.TimestampFormat.{TimestampFormat}
use Rattle.smithy_shapes.specs.Site.{Site, View}
use Rattle.smithy_declarations.specs.Value.{ScalarValue, text_in}
use Rattle.smithy_schema.specs.Writing.{Event, Writer, begin_structure, end_structure, begin_list, end_list, begin_map, end_map, null_of, scalar_of, big_integer_of, big_decimal_of, document_of, Open, open_structure, open_map_at_key, open_after, after_value}
use Rattle.smithy_json_grammar.specs.Ascii.{value_separator, begin_array, end_array, begin_object, end_object}
use Rattle.smithy_json_codec.specs.Canonical.{key_text, written_form, scalar_text, document_text, can_write}
use Rattle.smithy_json.specs.ValueTexts.{name_text}
use Rattle.smithy_json_values.specs.Settings.{Settings}
use Rattle.smithy_json_codec.specs.WrittenNumber.{written_number}

pub record JsonState : Type 0 where
  pub settings : Settings
  -- the bytes so far
  pub out : List ℕ
  -- a comma stands before whatever comes next but an end: an entry has come in the innermost container or, outside
  -- of all, a value, and no key behind it
  pub needs_comma : Bool
  -- the open containers, innermost first
  pub frames : List Open

-- nothing is written yet
abbrev pub fresh_state : Settings → JsonState
fresh_state settings = record { settings = settings; out = []; needs_comma = false; frames = [] }

abbrev pub comma_text : Bool → List ℕ
comma_text needs_comma = if needs_comma then value_separator ∷ [] else []

-- the name of a member stands everywhere but in a list or a map
abbrev pub key_in : List Open → List ℕ → List ℕ
key_in [] key = key
key_in (open_structure ∷ frames) key = key
key_in _ key = []

-- the innermost container is a map in which a key is due
abbrev pub is_key_due : List Open → Bool
is_key_due (open_map_at_key ∷ frames) = true
is_key_due _ = false

-- what stands before a value
abbrev pub lead : JsonState → View → List ℕ
lead s view = comma_text s.needs_comma ++ key_in s.frames (key_text s.settings.use_json_name view)

-- the text of a value that is no container
abbrev pub wrote : JsonState → View → List ℕ → List Open → JsonState
wrote s view bytes frames =
    record s { out = s.out ++ (lead s view ++ bytes); needs_comma = true; frames = frames }

-- the state that is made of the open containers, unless the call is refused
abbrev pub where_taken : (List Open → JsonState) → Result (List Open) SerdeError → Result JsonState SerdeError
where_taken make (Ok frames) = Ok (make frames)
where_taken make (Err e) = Err e

-- a value of these bytes that is no container, unless there are none: then it can't be written
abbrev pub wrote_any : JsonState → View → Option (List ℕ) → Result JsonState SerdeError
wrote_any s view bytes =
    if is_some bytes then where_taken (wrote s view (unwrap_or bytes [])) (after_value s.frames) else Err Unwritable

-- the key of a map's entry, with its colon; no comma comes between it and its value
abbrev pub key_wrote : JsonState → List ℕ → List Open → JsonState
key_wrote s key frames = record s {
  out = s.out ++ (comma_text s.needs_comma ++ name_text key);
  needs_comma = false;
  frames = frames;
}

-- the form of instants at a site
abbrev pub form_at : JsonState → Site → TimestampFormat
form_at s site = written_form s.settings site.place.time

-- a scalar: a text is a key where one is due
abbrev pub scalar_wrote : JsonState → Site → ScalarValue → List Open → JsonState
scalar_wrote s site x frames =
    let bytes = scalar_text (form_at s site) x in
    option_map_or (λ key. if is_key_due s.frames then key_wrote s key frames else wrote s site.view bytes frames)
    (text_in x) (wrote s site.view bytes frames)

-- the opening bracket of a container
abbrev pub opened : JsonState → View → ℕ → List Open → JsonState
opened s view bracket frames =
    record s { out = s.out ++ (lead s view ++ bracket ∷ []); needs_comma = false; frames = frames }

-- the closing bracket of a container
abbrev pub closed : JsonState → ℕ → List Open → JsonState
closed s bracket frames = record s { out = s.out ++ bracket ∷ []; needs_comma = true; frames = frames }

-- the bytes of a big number: where it can't be written, they count as none
abbrev pub big_number_text : Settings → List ℕ → List ℕ
big_number_text c written = unwrap_or (written_number c written) []

-- what a call makes of the state, with the containers that are open behind it
abbrev pub made : Event → JsonState → List Open → JsonState
made (begin_structure site) s frames = opened s site.view begin_object frames
made end_structure s frames = closed s end_object frames
made (begin_list site length) s frames = opened s site.view begin_array frames
made end_list s frames = closed s end_array frames
made (begin_map site length) s frames = opened s site.view begin_object frames
made end_map s frames = closed s end_object frames
made (null_of site) s frames = wrote s site.view (codes "null") frames
made (scalar_of site x) s frames = scalar_wrote s site x frames
made (big_integer_of site written) s frames = wrote s site.view (big_number_text s.settings written) frames
made (big_decimal_of site written) s frames = wrote s site.view (big_number_text s.settings written) frames
made (document_of site d) s frames = wrote s site.view (document_text d) frames

-- a big number has to be one that can be written under the settings, and an instant one that the form of its site can write
abbrev pub is_writable : JsonState → Event → Bool
is_writable s (scalar_of site x) = (can_write s.settings).scalar site.place.time x
is_writable s (big_integer_of site written) = is_some (written_number s.settings written)
is_writable s (big_decimal_of site written) = is_some (written_number s.settings written)
is_writable s _ = true

-- a call is refused where no serializer takes it, and where JSON can't have its text
abbrev pub json_after : Writer JsonState
json_after e s = if is_writable s e then where_taken (made e s) (open_after e s.frames) else Err Unwritable
