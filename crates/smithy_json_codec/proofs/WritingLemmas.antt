-- A value that can be written adds its canonical text, whatever stands before it.
use Rattle.std.proofs.Common.{◌≡◌, ℕ, List, [], ◌∷◌, ◌++◌, Bool, true, false, Option, Some, None, Result, Ok, Err, refl, if◌then◌else◌, sym, ap, ◌∙◌, append_assoc, codes}
use Rattle.std.proofs.lemmas.List.{append-nil}
use Rattle.std.proofs.lemmas.Bool.{and_parts}
use Rattle.std.specs.Option.{option_map_or}
use Rattle.smithy_schema.specs.declared.error.SerdeError.{SerdeError}
use Rattle.smithy_schema.specs.declared.error.SerdeError.TheVariants.{Unwritable}
use Rattle.smithy_shapes.specs.ScalarTest.{scalars_pass, elements_pass, entries_pass, members_pass}
use Rattle.smithy_shapes.specs.Site.{Site, element_of, key_of, value_of, member_of}
use Rattle.smithy_declarations.specs.Value.{ScalarValue, text, text_in, Value, scalar_value, list, map, structure, union, null_element, document_value, Values, no_values, value, MapEntries, no_map_entries, map_entry, MemberValues, no_member_values, member_value}
use Rattle.smithy_schema.specs.Writing.{Event, run, write, and_run, events, element_events, entry_events, member_events, scalar_of, end_list, end_map, end_structure, after_value, after_text, after_begin, Open, open_structure, open_list, open_map_at_key, open_map_at_value}
use Rattle.smithy_schema.proofs.WritingLemmas.{child_written}
use Rattle.smithy_json_grammar.specs.Ascii.{value_separator, begin_array, end_array, begin_object, end_object}
use Rattle.smithy_json_codec.specs.Canonical.{scalar_text, document_text, can_write, key_text, canonical_json, element_texts, entry_texts, member_texts}
use Rattle.smithy_json.specs.DocumentText.{comma as separator}
use Rattle.smithy_json.specs.ValueTexts.{name_text}
use Rattle.smithy_json_values.specs.Settings.{Settings}
use Rattle.smithy_json_codec.specs.Writing.{JsonState, lead, form_at, is_key_due, key_wrote, wrote, opened, where_taken, json_after}

abbrev pub state : Settings → List ℕ → Bool → List Open → JsonState
state settings out needs_comma frames = record {
  settings = settings;
  out = out;
  needs_comma = needs_comma;
  frames = frames;
}

-- the calls of a first part, and then of a second
step : (xs ys : List Event) (s s' : JsonState) (r : Result JsonState SerdeError)
    → run json_after xs s ≡ Ok s' → run json_after ys s' ≡ r → run json_after (xs ++ ys) s ≡ r
step xs ys s s' r first rest = child_written json_after xs ys s s' first ∙ rest

-- the same bytes, in another grouping
regroup : (c : Settings) (o p : List ℕ) (frames : List Open) (r : Result JsonState SerdeError)
    → r ≡ Ok (state c o true frames) → o ≡ p → r ≡ Ok (state c p true frames)
regroup c o p frames r is same = rw (← same) is

-- the first call, and then the others
first : (es : List Event) (s' : JsonState) (made r : Result JsonState SerdeError) → made ≡ Ok s' → run json_after es s' ≡ r → and_run (run json_after es) made ≡ r
first es s' made r is rest = ap (and_run (run json_after es)) is ∙ rest

group_empty : (o l : List ℕ) (c d : ℕ) → (o ++ (l ++ c ∷ [])) ++ d ∷ [] ≡ o ++ (l ++ c ∷ d ∷ [])
group_empty o l c d = simp append_assoc

group_list : (o l x more : List ℕ) (c d : ℕ)
    → (((o ++ (l ++ c ∷ [])) ++ x) ++ more) ++ d ∷ [] ≡ o ++ (l ++ c ∷ ((x ++ more) ++ d ∷ []))
group_list o l x more c d = simp append_assoc

group_structure : (o l key x more : List ℕ) (c d : ℕ)
    → (((o ++ (l ++ c ∷ [])) ++ (key ++ x)) ++ more) ++ d ∷ [] ≡ o ++ (l ++ c ∷ ((key ++ (x ++ more)) ++ d ∷ []))
group_structure o l key x more c d = simp append_assoc

group_entry : (o l key x more : List ℕ) (c d : ℕ)
    → ((((o ++ (l ++ c ∷ [])) ++ key) ++ x) ++ more) ++ d ∷ [] ≡ o ++ (l ++ c ∷ ((key ++ (x ++ more)) ++ d ∷ []))
group_entry o l key x more c d = simp append_assoc

group_union : (o l key x : List ℕ) (c d : ℕ)
    → ((o ++ (l ++ c ∷ [])) ++ (key ++ x)) ++ d ∷ [] ≡ o ++ (l ++ c ∷ (key ++ (x ++ d ∷ [])))
group_union o l key x c d = simp append_assoc

group_element : (o x more : List ℕ) (c : ℕ) → (o ++ c ∷ x) ++ more ≡ o ++ c ∷ (x ++ more)
group_element o x more c = simp append_assoc

group_more : (o key x more : List ℕ) (c : ℕ) → ((o ++ c ∷ key) ++ x) ++ more ≡ o ++ c ∷ (key ++ (x ++ more))
group_more o key x more c = simp append_assoc

group_member : (o key x more : List ℕ) (c : ℕ) → (o ++ c ∷ (key ++ x)) ++ more ≡ o ++ c ∷ (key ++ (x ++ more))
group_member o key x more c = simp append_assoc

text_adds : (c : Settings) (out : List ℕ) (next after : List Open) → ◌≡◌ {A = Result (List Open) SerdeError} (Ok next) (Ok after)
    → ◌≡◌ {A = Result JsonState SerdeError} (Ok (state c out true next)) (Ok (state c out true after))
text_adds c out next after same = ap (where_taken (state c out true)) same

-- a scalar that can be written is, where a value is due
scalar_adds : (site : Site) (x : ScalarValue) (c : Settings) (o : List ℕ) (comma : Bool) (frames after : List Open) → (can_write c).scalar site.place.time x ≡ true → after_value frames ≡ Ok after
    → json_after (scalar_of site x) (state c o comma frames)
    ≡ Ok (state c (o ++ (lead (state c o comma frames) site.view ++ scalar_text (form_at (state c o comma frames) site) x)) true after)
scalar_adds site x c o comma frames after can due =
    ap (λ can. if can then where_taken (makes (text_in x) frames) (option_map_or (λ key. after_text frames) (text_in x) (after_value frames)) else Err Unwritable) can ∙ from (text_in x) frames due
  where
    -- the state that it makes, by the text that it is
    makes : Option (List ℕ) → List Open → List Open → JsonState
    makes key frames next =
        let s = state c o comma frames in
        let bytes = scalar_text (form_at s site) x in
        option_map_or (λ key. if is_key_due frames then key_wrote s key next else wrote s site.view bytes next) key (wrote s site.view bytes next)

    from : (key : Option (List ℕ)) (frames : List Open) → after_value frames ≡ Ok after
        → where_taken (makes key frames) (option_map_or (λ key. after_text frames) key (after_value frames))
        ≡ Ok (state c (o ++ (lead (state c o comma frames) site.view ++ scalar_text (form_at (state c o comma frames) site) x)) true after)
    from None frames due = ap (where_taken (wrote (state c o comma frames) site.view (scalar_text (form_at (state c o comma frames) site) x))) due
    from (Some key) [] due = text_adds c _ [] after due
    from (Some key) (open_structure ∷ frames) due = text_adds c _ (open_structure ∷ frames) after due
    from (Some key) (open_list ∷ frames) due = text_adds c _ (open_list ∷ frames) after due
    from (Some key) (open_map_at_key ∷ frames) due = cc
    from (Some key) (open_map_at_value ∷ frames) due = text_adds c _ (open_map_at_key ∷ frames) after due

-- a container begins where a value is due
begins : (kind : Open) (make : List Open → JsonState) (frames after : List Open) → after_value frames ≡ Ok after
    → where_taken make (after_begin kind frames) ≡ Ok (make (kind ∷ after))
begins kind make frames after due = ap (λ r. where_taken make (and_run (λ outer. Ok (kind ∷ outer)) r)) due

mutual
  -- where a value is due, it adds what stands before it, and its canonical text
  pub value_adds : (site : Site) (v : Value) (c : Settings) (o : List ℕ) (comma : Bool) (frames after : List Open) → scalars_pass (can_write c) site v ≡ true → after_value frames ≡ Ok after
      → write json_after site v (state c o comma frames)
      ≡ Ok (state c (o ++ (lead (state c o comma frames) site.view ++ canonical_json c site v)) true after)
  value_adds site (scalar_value x) c o comma frames after can due = ap (and_run (run json_after [])) (scalar_adds site x c o comma frames after can due)
  value_adds site null_element c o comma frames after can due = ap (λ r. and_run (run json_after []) (where_taken (wrote (state c o comma frames) site.view (codes "null")) r)) due
  value_adds site (document_value d) c o comma frames after can due = ap (λ r. and_run (run json_after []) (where_taken (wrote (state c o comma frames) site.view (document_text d)) r)) due
  value_adds site (list no_values) c o comma frames after can due =
      let before = lead (state c o comma frames) site.view in
      regroup c _ _ after _
      (first (end_list ∷ []) (state c (o ++ (before ++ begin_array ∷ [])) false (open_list ∷ after)) _ _ (begins open_list (opened (state c o comma frames) site.view begin_array) frames after due) refl)
      (group_empty o before begin_array end_array)
  value_adds site (list (value v vs)) c o comma frames after can due =
      let before = lead (state c o comma frames) site.view in
      let child = element_of site in
      let front = o ++ (before ++ begin_array ∷ []) in
      let parts = and_parts (scalars_pass (can_write c) child v) (elements_pass (can_write c) child vs) can in
      regroup c _ _ after _
      (first ((events child v ++ element_events child vs) ++ end_list ∷ []) (state c front false (open_list ∷ after)) _ _ (begins open_list (opened (state c o comma frames) site.view begin_array) frames after due)
      (step (events child v ++ element_events child vs) (end_list ∷ []) _ _ _
      (step (events child v) (element_events child vs) _ _ _
      (value_adds child v c front false (open_list ∷ after) (open_list ∷ after) parts.0 refl)
      (elements_add child vs c (front ++ canonical_json c child v) after parts.1))
      refl))
      (group_list o before (canonical_json c child v) (element_texts c child separator vs) begin_array end_array)
  value_adds site (map no_map_entries) c o comma frames after can due =
      let before = lead (state c o comma frames) site.view in
      regroup c _ _ after _
      (first (end_map ∷ []) (state c (o ++ (before ++ begin_object ∷ [])) false (open_map_at_key ∷ after)) _ _ (begins open_map_at_key (opened (state c o comma frames) site.view begin_object) frames after due) refl)
      (group_empty o before begin_object end_object)
  value_adds site (map (map_entry key v es)) c o comma frames after can due =
      let before = lead (state c o comma frames) site.view in
      let child = value_of site in
      let front = o ++ (before ++ begin_object ∷ []) in
      let parts = and_parts (scalars_pass (can_write c) child v) (entries_pass (can_write c) child es) can in
      regroup c _ _ after _
      (first ((scalar_of (key_of site) (text key) ∷ (events child v ++ entry_events (key_of site) child es)) ++ end_map ∷ []) (state c front false (open_map_at_key ∷ after)) _ _ (begins open_map_at_key (opened (state c o comma frames) site.view begin_object) frames after due)
      (step (scalar_of (key_of site) (text key) ∷ (events child v ++ entry_events (key_of site) child es)) (end_map ∷ []) (state c front false (open_map_at_key ∷ after)) _ _
      (first (events child v ++ entry_events (key_of site) child es) (state c (front ++ name_text key) false (open_map_at_value ∷ after)) _ _ refl
      (step (events child v) (entry_events (key_of site) child es) _ _ _
      (value_adds child v c (front ++ name_text key) false (open_map_at_value ∷ after) (open_map_at_key ∷ after) parts.0 refl)
      (entries_add (key_of site) child es c ((front ++ name_text key) ++ canonical_json c child v) after parts.1)))
      refl))
      (group_entry o before (name_text key) (canonical_json c child v) (entry_texts c child separator es) begin_object end_object)
  value_adds site (structure no_member_values) c o comma frames after can due =
      let before = lead (state c o comma frames) site.view in
      regroup c _ _ after _
      (first (end_structure ∷ []) (state c (o ++ (before ++ begin_object ∷ [])) false (open_structure ∷ after)) _ _ (begins open_structure (opened (state c o comma frames) site.view begin_object) frames after due) refl)
      (group_empty o before begin_object end_object)
  value_adds site (structure (member_value n v ms)) c o comma frames after can due =
      let before = lead (state c o comma frames) site.view in
      let child = member_of site n in
      let key = key_text c.use_json_name child.view in
      let front = o ++ (before ++ begin_object ∷ []) in
      let parts = and_parts (scalars_pass (can_write c) child v) (members_pass (can_write c) site ms) can in
      regroup c _ _ after _
      (first ((events child v ++ member_events site ms) ++ end_structure ∷ []) (state c front false (open_structure ∷ after)) _ _ (begins open_structure (opened (state c o comma frames) site.view begin_object) frames after due)
      (step (events child v ++ member_events site ms) (end_structure ∷ []) _ _ _
      (step (events child v) (member_events site ms) _ _ _
      (value_adds child v c front false (open_structure ∷ after) (open_structure ∷ after) parts.0 refl)
      (members_add site ms c (front ++ (key ++ canonical_json c child v)) after parts.1))
      refl))
      (group_structure o before key (canonical_json c child v) (member_texts c site separator ms) begin_object end_object)
  value_adds site (union n v) c o comma frames after can due =
      let before = lead (state c o comma frames) site.view in
      let child = member_of site n in
      let front = o ++ (before ++ begin_object ∷ []) in
      regroup c _ _ after _
      (first (events child v ++ end_structure ∷ []) (state c front false (open_structure ∷ after)) _ _ (begins open_structure (opened (state c o comma frames) site.view begin_object) frames after due)
      (step (events child v) (end_structure ∷ []) _ _ _
      (value_adds child v c front false (open_structure ∷ after) (open_structure ∷ after) can refl)
      refl))
      (group_union o before (key_text c.use_json_name child.view) (canonical_json c child v) begin_object end_object)

  -- further elements add their texts, each behind a comma
  pub elements_add : (site : Site) (vs : Values) (c : Settings) (o : List ℕ) (frames : List Open) → elements_pass (can_write c) site vs ≡ true
      → run json_after (element_events site vs) (state c o true (open_list ∷ frames))
      ≡ Ok (state c (o ++ element_texts c site separator vs) true (open_list ∷ frames))
  elements_add site no_values c o frames can = regroup c _ _ (open_list ∷ frames) _ refl (sym (append-nil o))
  elements_add site (value v vs) c o frames can =
      let parts = and_parts (scalars_pass (can_write c) site v) (elements_pass (can_write c) site vs) can in
      regroup c _ _ (open_list ∷ frames) _
      (step (events site v) (element_events site vs) _ _ _
      (value_adds site v c o true (open_list ∷ frames) (open_list ∷ frames) parts.0 refl)
      (elements_add site vs c (o ++ value_separator ∷ canonical_json c site v) frames parts.1))
      (group_element o (canonical_json c site v) (element_texts c site separator vs) value_separator)

  -- further entries add their keys and texts, each behind a comma
  pub entries_add : (key_site site : Site) (es : MapEntries) (c : Settings) (o : List ℕ) (frames : List Open) → entries_pass (can_write c) site es ≡ true
      → run json_after (entry_events key_site site es) (state c o true (open_map_at_key ∷ frames))
      ≡ Ok (state c (o ++ entry_texts c site separator es) true (open_map_at_key ∷ frames))
  entries_add key_site site no_map_entries c o frames can = regroup c _ _ (open_map_at_key ∷ frames) _ refl (sym (append-nil o))
  entries_add key_site site (map_entry key v es) c o frames can =
      let parts = and_parts (scalars_pass (can_write c) site v) (entries_pass (can_write c) site es) can in
      regroup c _ _ (open_map_at_key ∷ frames) _
      (first (events site v ++ entry_events key_site site es) (state c (o ++ value_separator ∷ name_text key) false (open_map_at_value ∷ frames)) _ _ refl
      (step (events site v) (entry_events key_site site es) _ _ _
      (value_adds site v c (o ++ value_separator ∷ name_text key) false (open_map_at_value ∷ frames) (open_map_at_key ∷ frames) parts.0 refl)
      (entries_add key_site site es c ((o ++ value_separator ∷ name_text key) ++ canonical_json c site v) frames parts.1)))
      (group_more o (name_text key) (canonical_json c site v) (entry_texts c site separator es) value_separator)

  -- further members add their names and texts, each behind a comma
  pub members_add : (site : Site) (ms : MemberValues) (c : Settings) (o : List ℕ) (frames : List Open) → members_pass (can_write c) site ms ≡ true
      → run json_after (member_events site ms) (state c o true (open_structure ∷ frames))
      ≡ Ok (state c (o ++ member_texts c site separator ms) true (open_structure ∷ frames))
  members_add site no_member_values c o frames can =
      regroup c _ _ (open_structure ∷ frames) _ refl (sym (append-nil o))
  members_add site (member_value n v ms) c o frames can =
      let child = member_of site n in
      let key = key_text c.use_json_name child.view in
      let parts = and_parts (scalars_pass (can_write c) child v) (members_pass (can_write c) site ms) can in
      regroup c _ _ (open_structure ∷ frames) _
      (step (events child v) (member_events site ms) _ _ _
      (value_adds child v c o true (open_structure ∷ frames) (open_structure ∷ frames) parts.0 refl)
      (members_add site ms c (o ++ value_separator ∷ (key ++ canonical_json c child v)) frames parts.1))
      (group_member o key (canonical_json c child v) (member_texts c site separator ms) value_separator)
