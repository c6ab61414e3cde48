-- What a call makes of the open containers and of the text.
use Rattle.std.specs.Prelude.{◌≡◌, ℕ, List, [], ◌∷◌, ◌++◌, Bool, true, false, Option, Some, None, Result, Ok, Err, codes, refl, if◌then◌else◌}
use Rattle.std.specs.Option.{option_map_or}
use Rattle.std.proofs.Common.{sym, ◌∙◌, ap}
use Rattle.smithy_schema.specs.declared.error.SerdeError.{SerdeError}
use Rattle.smithy_shapes.specs.Site.{View}
use Rattle.smithy_declarations.specs.Value.{text_in}
use Rattle.smithy_schema.specs.Writing.{Event, begin_structure, end_structure, begin_list, end_list, begin_map, end_map, null_of, scalar_of, big_integer_of, big_decimal_of, document_of, Open}
use Rattle.smithy_json_grammar.specs.Ascii.{begin_array, end_array, begin_object, end_object}
use Rattle.smithy_json_codec.specs.Canonical.{scalar_text, document_text}
use Rattle.smithy_json.specs.ValueTexts.{name_text}
use Rattle.smithy_json_codec.specs.Writing.{JsonState, comma_text, lead, form_at, key_wrote, wrote, is_key_due, made, where_taken, big_number_text}

-- a scalar has the containers that it is told of, as a key and as a value
scalar_frames : (key : Option (List ℕ)) (due : Bool) (s : JsonState) (view : View) (bytes : List ℕ) (frames : List Open)
    → (option_map_or (λ key. if due then key_wrote s key frames else wrote s view bytes frames) key (wrote s view bytes frames)).frames ≡ frames
scalar_frames None due s view bytes frames = refl
scalar_frames (Some key) true s view bytes frames = refl
scalar_frames (Some key) false s view bytes frames = refl

scalar_grows : (key : Option (List ℕ)) (due : Bool) (s : JsonState) (view : View) (bytes : List ℕ) (frames : List Open)
    → (more : List ℕ) × ((option_map_or (λ key. if due then key_wrote s key frames else wrote s view bytes frames) key (wrote s view bytes frames)).out ≡ s.out ++ more)
scalar_grows None due s view bytes frames = (lead s view ++ bytes, refl)
scalar_grows (Some key) true s view bytes frames = (comma_text s.needs_comma ++ name_text key, refl)
scalar_grows (Some key) false s view bytes frames = (lead s view ++ bytes, refl)

-- a state that a call makes has the open containers that the call is told of
made_frames : (e : Event) (s : JsonState) (frames : List Open) → (made e s frames).frames ≡ frames
made_frames (begin_structure site) s frames = refl
made_frames end_structure s frames = refl
made_frames (begin_list site length) s frames = refl
made_frames end_list s frames = refl
made_frames (begin_map site length) s frames = refl
made_frames end_map s frames = refl
made_frames (null_of site) s frames = refl
made_frames (big_integer_of site written) s frames = refl
made_frames (big_decimal_of site written) s frames = refl
made_frames (document_of site d) s frames = refl
made_frames (scalar_of site x) s frames = scalar_frames (text_in x) (is_key_due s.frames) s site.view (scalar_text (form_at s site) x) frames

-- the text of a state that a call makes begins with the text before the call
made_grows : (e : Event) (s : JsonState) (frames : List Open) → (more : List ℕ) × ((made e s frames).out ≡ s.out ++ more)
made_grows (begin_structure site) s frames = (lead s site.view ++ begin_object ∷ [], refl)
made_grows end_structure s frames = (end_object ∷ [], refl)
made_grows (begin_list site length) s frames = (lead s site.view ++ begin_array ∷ [], refl)
made_grows end_list s frames = (end_array ∷ [], refl)
made_grows (begin_map site length) s frames = (lead s site.view ++ begin_object ∷ [], refl)
made_grows end_map s frames = (end_object ∷ [], refl)
made_grows (null_of site) s frames = (lead s site.view ++ codes "null", refl)
made_grows (big_integer_of site written) s frames = (lead s site.view ++ big_number_text s.settings written, refl)
made_grows (big_decimal_of site written) s frames = (lead s site.view ++ big_number_text s.settings written, refl)
made_grows (document_of site d) s frames = (lead s site.view ++ document_text d, refl)
made_grows (scalar_of site x) s frames = scalar_grows (text_in x) (is_key_due s.frames) s site.view (scalar_text (form_at s site) x) frames

-- where a call is taken, the state that it makes has the open containers that the call is told of
pub taken_frames : (e : Event) (s t : JsonState) (frames : Result (List Open) SerdeError) → where_taken (made e s) frames ≡ Ok t → frames ≡ Ok t.frames
taken_frames e s t (Ok frames) h = let is : made e s frames ≡ t = cc in ap Ok (sym (made_frames e s frames) ∙ ap (λ (x : JsonState). x.frames) is)
taken_frames e s t (Err error) h = absurd (let no : ◌≡◌ {A = Result JsonState SerdeError} (Err error) (Ok t) = h in cc)

-- where a call is taken, the text of the state that it makes begins with the text before the call
pub taken_grows : (e : Event) (s t : JsonState) (frames : Result (List Open) SerdeError) → where_taken (made e s) frames ≡ Ok t → (more : List ℕ) × (t.out ≡ s.out ++ more)
taken_grows e s t (Ok frames) h =
    let is : t ≡ made e s frames = cc in
    let more = made_grows e s frames in
    (more.0, ap (λ (x : JsonState). x.out) is ∙ more.1)
taken_grows e s t (Err error) h = absurd (let no : ◌≡◌ {A = Result JsonState SerdeError} (Err error) (Ok t) = h in cc)
