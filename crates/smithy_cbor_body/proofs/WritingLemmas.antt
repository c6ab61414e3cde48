-- A value that CBOR holds adds its canonical encoding, whatever stands before it, with or without the lengths of lists and maps.
use Rattle.std.proofs.Common.{◌≡◌, ◌==◌, ◌-◌, cond, ℕ, suc, List, [], ◌∷◌, ◌++◌, Bool, true, false, Some, Result, Ok, refl, sym, ap, ◌∙◌, append_assoc, arith}
use Rattle.std.proofs.lemmas.List.{append-nil}
use Rattle.smithy_schema.specs.declared.error.SerdeError.{SerdeError}
use Rattle.std.proofs.lemmas.Bool.{and_parts}
use Rattle.std.proofs.lemmas.Bool.Decides.{nat_tests}
use Rattle.smithy_shapes.specs.ScalarTest.{scalars_pass, elements_pass, entries_pass, members_pass}
use Rattle.smithy_shapes.specs.Site.{Site, element_of, key_of, value_of, member_of}
use Rattle.smithy_declarations.specs.Value.{ScalarValue, text, Value, scalar_value, list, map, structure, union, null_element, document_value, Values, no_values, value, MapEntries, no_map_entries, map_entry, MemberValues, no_member_values, member_value}
use Rattle.smithy_schema.specs.Writing.{Event, run, write, and_run, events, element_events, entry_events, member_events, count_of, entry_count, begin_list, begin_map, begin_structure, null_of, scalar_of, end_list, end_map, end_structure, after_value, Open, open_structure, open_list, open_map_at_key, open_map_at_value}
use Rattle.smithy_schema.proofs.WritingLemmas.{child_written}
use Rattle.smithy_schema.proofs.OpenLemmas.{scalar_taken}
use Rattle.cbor_item.specs.Head.{shortest_head}
use Rattle.cbor_item.specs.WellFormed.{break}
use Rattle.smithy_cbor.specs.Scalar.{null_value}
use Rattle.smithy_cbor.specs.Written.{text_bytes, opening_bytes}
use Rattle.smithy_cbor_body.specs.Canonical.{scalar_bytes, cbor_holds, key_bytes, canonical_cbor, element_bytes, entry_bytes, member_bytes}
use Rattle.smithy_cbor_body.specs.Lengths.{told_length, head_of, begun, counted, counted_in, ending_of}
use Rattle.smithy_cbor_values.specs.Settings.{Settings}
use Rattle.smithy_cbor_body.specs.declared.lengths.Length.{Length}
use Rattle.smithy_cbor_body.specs.declared.lengths.Length.TheVariants.{Unwritten, Due, Surplus}
use Rattle.smithy_cbor_body.specs.Writing.{BodyState, lead, body_after}

abbrev pub state : Settings → List ℕ → List Open → List Length → BodyState
state c out frames lengths = record { settings = c; out = out; frames = frames; lengths = lengths }

-- the calls of a first part, and then of a second
step : (xs ys : List Event) (s s' : BodyState) (r : Result BodyState SerdeError)
    → run body_after xs s ≡ Ok s' → run body_after ys s' ≡ r → run body_after (xs ++ ys) s ≡ r
step xs ys s s' r first then = child_written body_after xs ys s s' first ∙ then

-- the same bytes, in another grouping
regroup : (c : Settings) (o p : List ℕ) (frames : List Open) (lengths : List Length) (r : Result BodyState SerdeError)
    → r ≡ Ok (state c o frames lengths) → o ≡ p → r ≡ Ok (state c p frames lengths)
regroup c o p frames lengths r is same = rw (← same) is

-- the first call, and then the others
first : (e : Event) (es : List Event) (s s' : BodyState) (r : Result BodyState SerdeError)
    → body_after e s ≡ Ok s' → run body_after es s' ≡ r → run body_after (e ∷ es) s ≡ r
first e es s s' r begins rest = ap (and_run (run body_after es)) begins ∙ rest

group_container : (o l opening inside end : List ℕ)
    → ((o ++ (l ++ opening)) ++ inside) ++ end ≡ o ++ (l ++ (opening ++ (inside ++ end)))
group_container o l opening inside end = simp append_assoc

group_entry : (o key x more : List ℕ) → ((o ++ key) ++ x) ++ more ≡ o ++ (key ++ (x ++ more))
group_entry o key x more = simp append_assoc

group_member : (o key x more : List ℕ) → (o ++ (key ++ x)) ++ more ≡ o ++ (key ++ (x ++ more))
group_member o key x more = simp append_assoc

-- ---- lengths

-- what is known of the length of a list or a map of which so many elements or entries are still to come
abbrev left : Bool → ℕ → Length
left definite n = begun (told_length definite n)

-- one comes
one_fewer : (definite : Bool) (n : ℕ) → counted (left definite (suc n)) ≡ left definite n
one_fewer true n =
    let some : (suc n == 0) ≡ false = grind (arith, nat_tests) in
    let fewer : suc n - 1 ≡ n = omega arith in
    ap (λ none. cond none Surplus (Due (suc n - 1))) some ∙ ap Due fewer
one_fewer false n = refl

-- where none is to come, the container ends as its head says
list_ends : (c : Settings) (definite : Bool) (n : ℕ) (o : List ℕ) (frames : List Open) (ls : List Length)
    → run body_after (end_list ∷ []) (state c o (open_list ∷ frames) (left definite 0 ∷ ls)) ≡ Ok (state c (o ++ ending_of (told_length definite n)) frames ls)
list_ends c true n o frames ls = refl
list_ends c false n o frames ls = refl

map_ends : (c : Settings) (definite : Bool) (n : ℕ) (o : List ℕ) (frames : List Open) (ls : List Length)
    → run body_after (end_map ∷ []) (state c o (open_map_at_key ∷ frames) (left definite 0 ∷ ls)) ≡ Ok (state c (o ++ ending_of (told_length definite n)) frames ls)
map_ends c true n o frames ls = refl
map_ends c false n o frames ls = refl

-- ---- values

-- a scalar that CBOR holds is written where a value is due
scalar_adds : (c : Settings) (site : Site) (x : ScalarValue) (o : List ℕ) (frames after : List Open) (ls : List Length) → cbor_holds.scalar site.place.time x ≡ true → after_value frames ≡ Ok after
    → body_after (scalar_of site x) (state c o frames ls) ≡ Ok (state c (o ++ (lead (state c o frames ls) site.view ++ scalar_bytes x)) after (counted_in frames ls))
scalar_adds c site x o frames after ls held due = rw (held, scalar_taken x frames after due) refl

mutual
  -- where a value is due, it adds what stands before it, and its canonical encoding
  pub value_adds : (c : Settings) (definite : Bool) → c.use_definite_lengths ≡ definite → (site : Site) (v : Value) (o : List ℕ) (frames after : List Open) (ls : List Length) → scalars_pass cbor_holds site v ≡ true
      → after_value frames ≡ Ok after → write body_after site v (state c o frames ls)
      ≡ Ok (state c (o ++ (lead (state c o frames ls) site.view ++ canonical_cbor definite site v)) after (counted_in frames ls))
  value_adds c definite is site (scalar_value x) o frames after ls held due =
      first (scalar_of site x) [] (state c o frames ls) (state c (o ++ (lead (state c o frames ls) site.view ++ scalar_bytes x)) after (counted_in frames ls)) _ (scalar_adds c site x o frames after ls held due) refl
  value_adds c definite is site (document_value d) o frames after ls held due = cc
  value_adds c definite is site null_element o frames after ls held due =
      first (null_of site) [] (state c o frames ls) (state c (o ++ (lead (state c o frames ls) site.view ++ shortest_head 7 null_value)) after (counted_in frames ls)) _ (rw due refl) refl
  value_adds c definite is site (list vs) o frames after ls held due =
      let before = lead (state c o frames ls) site.view in
      let n = count_of vs in
      let head = head_of 4 (told_length definite n) in
      let child = element_of site in
      let front = o ++ (before ++ head) in
      regroup c _ _ after (counted_in frames ls) _
      (first (begin_list site (Some n)) (element_events child vs ++ end_list ∷ []) (state c o frames ls) (state c front (open_list ∷ after) (left definite n ∷ counted_in frames ls)) _ (rw (due, is) refl)
      (step (element_events child vs) (end_list ∷ []) _ _ _
      (elements_add c definite is child vs front after (counted_in frames ls) held)
      (list_ends c definite n (front ++ element_bytes definite child vs) after (counted_in frames ls))))
      (group_container o before head (element_bytes definite child vs) (ending_of (told_length definite n)))
  value_adds c definite is site (map es) o frames after ls held due =
      let before = lead (state c o frames ls) site.view in
      let n = entry_count es in
      let head = head_of 5 (told_length definite n) in
      let child = value_of site in
      let front = o ++ (before ++ head) in
      regroup c _ _ after (counted_in frames ls) _
      (first (begin_map site (Some n)) (entry_events (key_of site) child es ++ end_map ∷ []) (state c o frames ls) (state c front (open_map_at_key ∷ after) (left definite n ∷ counted_in frames ls)) _ (rw (due, is) refl)
      (step (entry_events (key_of site) child es) (end_map ∷ []) _ _ _
      (entries_add c definite is (key_of site) child es front after (counted_in frames ls) held)
      (map_ends c definite n (front ++ entry_bytes definite child es) after (counted_in frames ls))))
      (group_container o before head (entry_bytes definite child es) (ending_of (told_length definite n)))
  value_adds c definite is site (structure ms) o frames after ls held due =
      let before = lead (state c o frames ls) site.view in
      let inner = Unwritten ∷ counted_in frames ls in
      let front = o ++ (before ++ opening_bytes 5) in
      regroup c _ _ after (counted_in frames ls) _
      (first (begin_structure site) (member_events site ms ++ end_structure ∷ []) (state c o frames ls) (state c front (open_structure ∷ after) inner) _ (rw due refl)
      (step (member_events site ms) (end_structure ∷ []) _ _ _
      (members_add c definite is site ms front after (counted_in frames ls) held)
      refl))
      (group_container o before (opening_bytes 5) (member_bytes definite site ms) (break ∷ []))
  value_adds c definite is site (union n v) o frames after ls held due =
      let before = lead (state c o frames ls) site.view in
      let inner = Unwritten ∷ counted_in frames ls in
      let child = member_of site n in
      let front = o ++ (before ++ opening_bytes 5) in
      regroup c _ _ after (counted_in frames ls) _
      (first (begin_structure site) (events child v ++ end_structure ∷ []) (state c o frames ls) (state c front (open_structure ∷ after) inner) _ (rw due refl)
      (step (events child v) (end_structure ∷ []) _ _ _
      (value_adds c definite is child v front (open_structure ∷ after) (open_structure ∷ after) inner held refl)
      refl))
      (group_container o before (opening_bytes 5) (key_bytes child.view ++ canonical_cbor definite child v) (break ∷ []))

  -- elements add their encodings, and each is one fewer that is to come
  pub elements_add : (c : Settings) (definite : Bool) → c.use_definite_lengths ≡ definite → (site : Site) (vs : Values) (o : List ℕ) (frames : List Open) (ls : List Length) → elements_pass cbor_holds site vs ≡ true
      → run body_after (element_events site vs) (state c o (open_list ∷ frames) (left definite (count_of vs) ∷ ls))
      ≡ Ok (state c (o ++ element_bytes definite site vs) (open_list ∷ frames) (left definite 0 ∷ ls))
  elements_add c definite is site no_values o frames ls held = regroup c _ _ (open_list ∷ frames) (left definite 0 ∷ ls) _ refl (sym (append-nil o))
  elements_add c definite is site (value v vs) o frames ls held =
      let parts = and_parts (scalars_pass cbor_holds site v) (elements_pass cbor_holds site vs) held in
      let n = count_of vs in
      regroup c _ _ (open_list ∷ frames) (left definite 0 ∷ ls) _
      (step (events site v) (element_events site vs) (state c o (open_list ∷ frames) (left definite (suc n) ∷ ls)) (state c (o ++ canonical_cbor definite site v) (open_list ∷ frames) (left definite n ∷ ls)) _
      (value_adds c definite is site v o (open_list ∷ frames) (open_list ∷ frames) (left definite (suc n) ∷ ls) parts.0 refl
      ∙ ap (λ l. Ok (state c (o ++ canonical_cbor definite site v) (open_list ∷ frames) (l ∷ ls))) (one_fewer definite n))
      (elements_add c definite is site vs (o ++ canonical_cbor definite site v) frames ls parts.1))
      (append_assoc o (canonical_cbor definite site v) (element_bytes definite site vs))

  -- entries add their keys and encodings
  pub entries_add : (c : Settings) (definite : Bool) → c.use_definite_lengths ≡ definite → (key_site site : Site) (es : MapEntries) (o : List ℕ) (frames : List Open) (ls : List Length) → entries_pass cbor_holds site es ≡ true
      → run body_after (entry_events key_site site es) (state c o (open_map_at_key ∷ frames) (left definite (entry_count es) ∷ ls))
      ≡ Ok (state c (o ++ entry_bytes definite site es) (open_map_at_key ∷ frames) (left definite 0 ∷ ls))
  entries_add c definite is key_site site no_map_entries o frames ls held = regroup c _ _ (open_map_at_key ∷ frames) (left definite 0 ∷ ls) _ refl (sym (append-nil o))
  entries_add c definite is key_site site (map_entry key v es) o frames ls held =
      let parts = and_parts (scalars_pass cbor_holds site v) (entries_pass cbor_holds site es) held in
      let n = entry_count es in
      let keyed = o ++ text_bytes key in
      regroup c _ _ (open_map_at_key ∷ frames) (left definite 0 ∷ ls) _
      (first (scalar_of key_site (text key)) (events site v ++ entry_events key_site site es) (state c o (open_map_at_key ∷ frames) (left definite (suc n) ∷ ls)) (state c keyed (open_map_at_value ∷ frames) (left definite (suc n) ∷ ls)) _ refl
      (step (events site v) (entry_events key_site site es) (state c keyed (open_map_at_value ∷ frames) (left definite (suc n) ∷ ls)) (state c (keyed ++ canonical_cbor definite site v) (open_map_at_key ∷ frames) (left definite n ∷ ls)) _
      (value_adds c definite is site v keyed (open_map_at_value ∷ frames) (open_map_at_key ∷ frames) (left definite (suc n) ∷ ls) parts.0 refl
      ∙ ap (λ l. Ok (state c (keyed ++ canonical_cbor definite site v) (open_map_at_key ∷ frames) (l ∷ ls))) (one_fewer definite n))
      (entries_add c definite is key_site site es (keyed ++ canonical_cbor definite site v) frames ls parts.1)))
      (group_entry o (text_bytes key) (canonical_cbor definite site v) (entry_bytes definite site es))

  -- members add their names and encodings
  pub members_add : (c : Settings) (definite : Bool) → c.use_definite_lengths ≡ definite → (site : Site) (ms : MemberValues) (o : List ℕ) (frames : List Open) (ls : List Length) → members_pass cbor_holds site ms ≡ true
      → run body_after (member_events site ms) (state c o (open_structure ∷ frames) (Unwritten ∷ ls))
      ≡ Ok (state c (o ++ member_bytes definite site ms) (open_structure ∷ frames) (Unwritten ∷ ls))
  members_add c definite is site no_member_values o frames ls held = regroup c _ _ (open_structure ∷ frames) (Unwritten ∷ ls) _ refl (sym (append-nil o))
  members_add c definite is site (member_value n v ms) o frames ls held =
      let child = member_of site n in
      let key = key_bytes child.view in
      let parts = and_parts (scalars_pass cbor_holds child v) (members_pass cbor_holds site ms) held in
      regroup c _ _ (open_structure ∷ frames) (Unwritten ∷ ls) _
      (step (events child v) (member_events site ms) _ _ _
      (value_adds c definite is child v o (open_structure ∷ frames) (open_structure ∷ frames) (Unwritten ∷ ls) parts.0 refl)
      (members_add c definite is site ms (o ++ (key ++ canonical_cbor definite child v)) frames ls parts.1))
      (group_member o key (canonical_cbor definite child v) (member_bytes definite site ms))
