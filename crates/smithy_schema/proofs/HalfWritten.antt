-- A value of a caller's own type that is half written by the serializer's calls.
use Rattle.std.proofs.Common.{arith, ◌≡◌, ◌↔◌, ◌≤◌, max, ℕ, List, [], ◌∷◌, ◌++◌, map as mapped, length, Some, Bool, true, false, Result, Ok, Err, IsErrOf, refl, sym, ◌∙◌, ap, subst, append_assoc}
use Rattle.std.proofs.Math.Nat.{le-max_left, le-max_right}
use Rattle.smithy_schema.specs.declared.error.SerdeError.{SerdeError}
use Rattle.smithy_schema.specs.declared.error.SerdeError.TheVariants.{Failed}
use Rattle.smithy_shapes.specs.Site.{Site, member_of, element_of, key_of, value_of}
use Rattle.smithy_declarations.specs.Value.{Value, text, list, map, union, values_of, MapEntries, map_entry, nesting, entries_nesting}
use Rattle.smithy_schema.specs.Errors.{IsFault}
use Rattle.smithy_schema.specs.Writing.{Event, Writer, events, element_events, entry_events, entry_count, begin_structure, end_structure, begin_list, end_list, begin_map, end_map, scalar_of}
use Rattle.smithy_schema.specs.Written.{Runs, ran, broke}
use Rattle.smithy_schema.proofs.WritingLemmas.{call_made, call_refused, child_written, child_refused}
use Rattle.smithy_schema.proofs.WrittenFields.{runs_ok}
use Rattle.smithy_schema.proofs.WrittenLists.{count-elements, told as counted}

other_error : {S : Type 0} (e f : SerdeError) → ◌≡◌ {A = Result S SerdeError} (Err e) (Err f) → e ≡ f
other_error e f h = cc

module _ {S : Type 0} (after : Writer S) where
  -- the calls of a child came to an error, and so does all
  runs_err : (xs ys : List Event) (s : S) (r : Result S SerdeError) → Runs after xs s r → (e : SerdeError) → r ≡ Err e → Runs after (xs ++ ys) s (Err e)
  runs_err xs ys s r (ran {t = u} is) e same = cc
  runs_err xs ys s r (broke {e = f} sound fault) e same = subst (λ x. Runs after (xs ++ ys) s (Err x)) (other_error f e same) (broke sound (λ h. child_refused after xs ys s f (fault h)))

  -- calls that go on behind others
  runs_on : (xs ys : List Event) (s t : S) (r : Result S SerdeError) → Runs after xs s (Ok t) → Runs after ys t r → Runs after (xs ++ ys) s r
  runs_on xs ys s t r first (ran {t = u} is) = ran (child_written after xs ys s t (runs_ok after xs s (Ok t) first t refl) ∙ is)
  runs_on xs ys s t r first (broke sound fault) = broke sound (λ h. child_written after xs ys s t (runs_ok after xs s (Ok t) first t refl) ∙ fault h)

  runs_first : (x : Event) (xs : List Event) (s t : S) (r : Result S SerdeError) → after x s ≡ Ok t → Runs after xs t r → Runs after (x ∷ xs) s r
  runs_first x xs s t r first (ran is) = ran (call_made after x xs s t first ∙ is)
  runs_first x xs s t r first (broke sound fault) = broke sound (λ h. call_made after x xs s t first ∙ fault h)

  -- the first call is refused
  pub first_fails : (x : Event) (xs : List Event) (s : S) (had : Bool) (e : SerdeError) → had ≡ false → IsErrOf {T = Unit {0}} {E = SerdeError} (Err e) Failed ↔ (had ≡ true) → (IsFault e → after x s ≡ Err e) → Runs after (x ∷ xs) s (Err e)
  first_fails x xs s had e sound failed refused =
      broke (λ is. let clash : true ≡ false = sym (failed.0 (ap Err is)) ∙ sound in cc) (λ fault. call_refused after x xs s e (refused fault))

  -- ---- the union

  pub union_fails : (site : Site) (n : ℕ) (v : Value) (s t : S) (e : SerdeError) → after (begin_structure site) s ≡ Ok t → Runs after (events (member_of site n) v) t (Err e) → Runs after (events site (union n v)) s (Err e)
  union_fails site n v s t e begun fails =
      runs_first (begin_structure site) (events (member_of site n) v ++ end_structure ∷ []) s t (Err e) begun (runs_err (events (member_of site n) v) (end_structure ∷ []) t (Err e) fails e refl)

  pub union_ends : (site : Site) (n : ℕ) (v : Value) (s t u : S) (r : Result S SerdeError) → after (begin_structure site) s ≡ Ok t → Runs after (events (member_of site n) v) t (Ok u) → Runs after (end_structure ∷ []) u r
      → Runs after (events site (union n v)) s r
  union_ends site n v s t u r begun written ends =
      runs_first (begin_structure site) (events (member_of site n) v ++ end_structure ∷ []) s t r begun (runs_on (events (member_of site n) v) (end_structure ∷ []) t u r written ends)

  -- ---- lists

  pub list_fails : {A : Type 0} (view : A → Value) (site : Site) (vs : List A) (n : ℕ) (s : S) (had : Bool) (e : SerdeError) → n ≡ length vs → had ≡ false → IsErrOf {T = Unit {0}} {E = SerdeError} (Err e) Failed ↔ (had ≡ true) → (IsFault e → after (begin_list site (Some n)) s ≡ Err e)
      → Runs after (events site (list (values_of (mapped view vs)))) s (Err e)
  list_fails view site vs n s had e told sound failed refused =
      rw (count-elements (mapped view vs), ← counted view vs, ← told) (first_fails (begin_list site (Some n)) (element_events (element_of site) (values_of (mapped view vs)) ++ end_list ∷ []) s had e sound failed refused)

  pub list_begun : {A : Type 0} (view : A → Value) (site : Site) (vs : List A) (n : ℕ) (s t : S) (r : Result S SerdeError) → n ≡ length vs → after (begin_list site (Some n)) s ≡ Ok t
      → Runs after (element_events (element_of site) (values_of (mapped view vs)) ++ end_list ∷ []) t r → Runs after (events site (list (values_of (mapped view vs)))) s r
  list_begun view site vs n s t r told begun rest =
      rw (count-elements (mapped view vs), ← counted view vs, ← told) (runs_first (begin_list site (Some n)) (element_events (element_of site) (values_of (mapped view vs)) ++ end_list ∷ []) s t r begun rest)

  pub element_fails : (site : Site) (v : Value) (vs ws : List Value) (s : S) (e : SerdeError) → vs ≡ v ∷ ws → Runs after (events site v) s (Err e)
      → Runs after (element_events site (values_of vs) ++ end_list ∷ []) s (Err e)
  element_fails site v vs ws s e next fails = rw (next, append_assoc) (runs_err (events site v) (element_events site (values_of ws) ++ end_list ∷ []) s (Err e) fails e refl)

  pub element_goes : (site : Site) (v : Value) (vs ws : List Value) (s t : S) (r : Result S SerdeError) → vs ≡ v ∷ ws → Runs after (events site v) s (Ok t) → Runs after (element_events site (values_of ws) ++ end_list ∷ []) t r
      → Runs after (element_events site (values_of vs) ++ end_list ∷ []) s r
  element_goes site v vs ws s t r next first rest = rw (next, append_assoc) (runs_on (events site v) (element_events site (values_of ws) ++ end_list ∷ []) s t r first rest)

  -- ---- maps

  pub map_fails : (site : Site) (es : MapEntries) (n : ℕ) (s : S) (had : Bool) (e : SerdeError) → n ≡ entry_count es → had ≡ false → IsErrOf {T = Unit {0}} {E = SerdeError} (Err e) Failed ↔ (had ≡ true)
      → (IsFault e → after (begin_map site (Some n)) s ≡ Err e) → Runs after (events site (map es)) s (Err e)
  map_fails site es n s had e told sound failed refused =
      rw (← told) (first_fails (begin_map site (Some n)) (entry_events (key_of site) (value_of site) es ++ end_map ∷ []) s had e sound failed refused)

  pub map_begun : (site : Site) (es : MapEntries) (n : ℕ) (s t : S) (r : Result S SerdeError) → n ≡ entry_count es → after (begin_map site (Some n)) s ≡ Ok t
      → Runs after (entry_events (key_of site) (value_of site) es ++ end_map ∷ []) t r → Runs after (events site (map es)) s r
  map_begun site es n s t r told begun rest =
      rw (← told) (runs_first (begin_map site (Some n)) (entry_events (key_of site) (value_of site) es ++ end_map ∷ []) s t r begun rest)

  pub key_fails : (keys values : Site) (key : List ℕ) (v : Value) (es rest : MapEntries) (s : S) (had : Bool) (e : SerdeError) → es ≡ map_entry key v rest → had ≡ false → IsErrOf {T = Unit {0}} {E = SerdeError} (Err e) Failed ↔ (had ≡ true)
      → (IsFault e → after (scalar_of keys (text key)) s ≡ Err e) → Runs after (entry_events keys values es ++ end_map ∷ []) s (Err e)
  key_fails keys values key v es rest s had e next sound failed refused =
      rw next (first_fails (scalar_of keys (text key)) ((events values v ++ entry_events keys values rest) ++ end_map ∷ []) s had e sound failed refused)

  pub value_fails : (keys values : Site) (key : List ℕ) (v : Value) (es rest : MapEntries) (s t : S) (e : SerdeError) → es ≡ map_entry key v rest → after (scalar_of keys (text key)) s ≡ Ok t → Runs after (events values v) t (Err e)
      → Runs after (entry_events keys values es ++ end_map ∷ []) s (Err e)
  value_fails keys values key v es rest s t e next begun fails =
      rw (next, append_assoc) (runs_first (scalar_of keys (text key)) (events values v ++ (entry_events keys values rest ++ end_map ∷ [])) s t (Err e) begun (runs_err (events values v) (entry_events keys values rest ++ end_map ∷ []) t (Err e) fails e refl))

  pub entry_goes : (keys values : Site) (key : List ℕ) (v : Value) (es rest : MapEntries) (s t u : S) (r : Result S SerdeError) → es ≡ map_entry key v rest → after (scalar_of keys (text key)) s ≡ Ok t → Runs after (events values v) t (Ok u)
      → Runs after (entry_events keys values rest ++ end_map ∷ []) u r → Runs after (entry_events keys values es ++ end_map ∷ []) s r
  entry_goes keys values key v es rest s t u r next begun written more =
      rw (next, append_assoc) (runs_first (scalar_of keys (text key)) (events values v ++ (entry_events keys values rest ++ end_map ∷ [])) s t r begun (runs_on (events values v) (entry_events keys values rest ++ end_map ∷ []) t u r written more))

-- the first of what is left nests no deeper than all
pub entry_nests : (all es : MapEntries) (key : List ℕ) (v : Value) (rest : MapEntries) → es ≡ map_entry key v rest → entries_nesting es ≤ entries_nesting all
    → (nesting v ≤ entries_nesting all) × (entries_nesting rest ≤ entries_nesting all)
entry_nests all es key v rest next deep =
    let most : max (nesting v) (entries_nesting rest) ≤ entries_nesting all = rw next at deep in
    let left = le-max_left (nesting v) (entries_nesting rest) in
    let right = le-max_right (nesting v) (entries_nesting rest) in
    (omega (arith, left, most), omega (arith, right, most))
