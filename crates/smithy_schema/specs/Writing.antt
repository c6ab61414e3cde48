-- What is written, call by call, and what a value adds.
use Rattle.std.specs.Prelude.{◌≡◌, ◌↔◌, ℕ, ℤ, suc, List, [], ◌∷◌, ◌++◌, Bool, true, Option, Some, Result, Ok, Err, OnOk, IfErr, IsErr, IsErrOf}
use Rattle.std.specs.Option.{option_map_or}
use Rattle.smithy_types.specs.Document.{Document}
use Rattle.smithy_schema.specs.declared.error.SerdeError.{SerdeError}
use Rattle.smithy_schema.specs.declared.error.SerdeError.TheVariants.{Unwritable, Failed}
use Rattle.smithy_schema.specs.Errors.{IsFault}
use Rattle.smithy_shapes.specs.Site.{Site, element_of, key_of, value_of, member_of}
use Rattle.smithy_declarations.specs.Value.{ScalarValue, text, text_in, Value, scalar_value, list, map, structure, union, null_element, document_value, Values, no_values, value, MapEntries, no_map_entries, map_entry, MemberValues, no_member_values, member_value}

-- one call of a serializer, with what its schema tells
pub data Event : Type 0 where
  -- a structure or a union
  begin_structure : Site → Event
  end_structure : Event
  -- with the number of elements or entries, where it is told
  begin_list : Site → Option ℕ → Event
  end_list : Event
  begin_map : Site → Option ℕ → Event
  end_map : Event
  null_of : Site → Event
  -- where a map's key is due, a text is that key
  scalar_of : Site → ScalarValue → Event
  -- by the text that the number keeps
  big_integer_of : Site → List ℕ → Event
  big_decimal_of : Site → List ℕ → Event
  -- a document, each of whose numbers is its whole number alone
  document_of : Site → Document ℤ → Event

-- what an event makes of a serializer's state, or why it can't be written there
abbrev pub Writer : Type 0 → Type 0
Writer S = Event → S → Result S SerdeError

-- what follows is done where nothing was refused
abbrev pub and_run : {S : Type 0} → (S → Result S SerdeError) → Result S SerdeError → Result S SerdeError
and_run f (Ok s) = f s
and_run f (Err e) = Err e

-- what events make of a state, one after the other
abbrev pub run : {S : Type 0} → Writer S → List Event → S → Result S SerdeError
run after [] s = Ok s
run after (e ∷ es) s = and_run (run after es) (after e s)

-- the number of elements
abbrev pub count_of : Values → ℕ
count_of no_values = 0
count_of (value v vs) = suc (count_of vs)

-- the number of entries
abbrev pub entry_count : MapEntries → ℕ
entry_count no_map_entries = 0
entry_count (map_entry key v es) = suc (entry_count es)

-- the calls that write a value: a container is what it begins with, its children, and its end
abbrev mutual
  -- a scalar is one call, and so is a document
  pub events : Site → Value → List Event
  events site (scalar_value x) = scalar_of site x ∷ []
  events site (list vs) =
      begin_list site (Some (count_of vs)) ∷ (element_events (element_of site) vs ++ end_list ∷ [])
  events site (map es) =
      begin_map site (Some (entry_count es)) ∷ (entry_events (key_of site) (value_of site) es ++ end_map ∷ [])
  events site (structure ms) = begin_structure site ∷ (member_events site ms ++ end_structure ∷ [])
  events site (union n v) = begin_structure site ∷ (events (member_of site n) v ++ end_structure ∷ [])
  events site null_element = null_of site ∷ []
  events site (document_value d) = document_of site d ∷ []

  -- the elements in order, each at the same site
  pub element_events : Site → Values → List Event
  element_events site no_values = []
  element_events site (value v vs) = events site v ++ element_events site vs

  -- the entries in order, of each its key and then its value
  pub entry_events : Site → Site → MapEntries → List Event
  entry_events key_site site no_map_entries = []
  entry_events key_site site (map_entry key v es) =
      scalar_of key_site (text key) ∷ (events site v ++ entry_events key_site site es)

  -- the members in order, each at its own site
  pub member_events : Site → MemberValues → List Event
  member_events site no_member_values = []
  member_events site (member_value n v ms) = events (member_of site n) v ++ member_events site ms

-- what a value makes of a state
abbrev pub write : {S : Type 0} → Writer S → Site → Value → S → Result S SerdeError
write after site v = run after (events site v)

-- ---- open containers

-- an open container, and of a map what is due in it
pub data Open : Type 0 where
  -- a structure or a union
  open_structure : Open
  open_list : Open
  open_map_at_key : Open
  open_map_at_value : Open

-- the open containers once a value has come: none comes in a key's place, and behind a map's value a key is due
abbrev pub after_value : List Open → Result (List Open) SerdeError
after_value (open_map_at_key ∷ os) = Err Unwritable
after_value (open_map_at_value ∷ os) = Ok (open_map_at_key ∷ os)
after_value os = Ok os

-- the open containers once a text has come: it is a key where one is due, and else a value
abbrev pub after_text : List Open → Result (List Open) SerdeError
after_text (open_map_at_key ∷ os) = Ok (open_map_at_value ∷ os)
after_text os = after_value os

-- the open containers once a scalar has come: a text is a key where one is due, and any other scalar is a value
abbrev pub after_scalar : ScalarValue → List Open → Result (List Open) SerdeError
after_scalar x os = option_map_or (λ key. after_text os) (text_in x) (after_value os)

-- the open containers once a container has begun, which is a value where it stands
abbrev pub after_begin : Open → List Open → Result (List Open) SerdeError
after_begin o os = and_run (λ outer. Ok (o ∷ outer)) (after_value os)

-- the open containers once the structure or union has ended that is innermost
abbrev pub after_end_structure : List Open → Result (List Open) SerdeError
after_end_structure (open_structure ∷ os) = Ok os
after_end_structure _ = Err Unwritable

-- the open containers once the list has ended that is innermost
abbrev pub after_end_list : List Open → Result (List Open) SerdeError
after_end_list (open_list ∷ os) = Ok os
after_end_list _ = Err Unwritable

-- the open containers once the map has ended that is innermost: none ends behind a key whose value hasn't come
abbrev pub after_end_map : List Open → Result (List Open) SerdeError
after_end_map (open_map_at_key ∷ os) = Ok os
after_end_map _ = Err Unwritable

-- what a call makes of the open containers of any serializer, innermost first, or that none takes it there
abbrev pub open_after : Writer (List Open)
open_after (begin_structure site) os = after_begin open_structure os
open_after end_structure os = after_end_structure os
open_after (begin_list site n) os = after_begin open_list os
open_after end_list os = after_end_list os
open_after (begin_map site n) os = after_begin open_map_at_key os
open_after end_map os = after_end_map os
open_after (null_of site) os = after_value os
open_after (scalar_of site x) os = after_scalar x os
open_after (big_integer_of site written) os = after_value os
open_after (big_decimal_of site written) os = after_value os
open_after (document_of site d) os = after_value os

-- Each wire keeps its open containers by its calls, and refuses what no serializer takes.
pub record IsNested {S : Type 0} (after : Writer S) (open_in : S → List Open) : Type 0 where
  pub goes : (e : Event) (s t : S) → after e s ≡ Ok t → open_after e (open_in s) ≡ Ok (open_in t)
  pub stops : (e : Event) (s : S) → open_after e (open_in s) ≡ Err Unwritable → after e s ≡ Err Unwritable

-- What a call of a serializer says of its answer that makes this of the state, or refuses by this fault.
pub record Makes {S : Type 0} (made : Result S SerdeError) (had_failed : Bool) (new : S) (has_failed : Bool) (result : Result (Unit {0}) SerdeError) : Type 0 where
  -- `Failed` comes exactly after a failure
  pub failed : IsErrOf result Failed ↔ (had_failed ≡ true)
  -- after an error, and only then, the serializer has failed
  pub broken : IsErr result ↔ (has_failed ≡ true)
  pub ok : OnOk result (made ≡ Ok new)
  pub refused : IfErr result (λ e. IsFault e → made ≡ Err e)

-- The call makes this event of the state, and a fault is that of this event.
abbrev pub WritesEvent : {S : Type 0} → Writer S → Event → S → Bool → S → Bool → Result (Unit {0}) SerdeError → Type 0
WritesEvent after event old had_failed new has_failed result = Makes (after event old) had_failed new has_failed result
