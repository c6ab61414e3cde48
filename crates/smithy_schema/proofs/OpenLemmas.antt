-- A value that is written leaves the containers open as any value does, whatever it is made of.
use Rattle.std.proofs.Common.{◌≡◌, ℕ, List, [], ◌∷◌, ◌++◌, Option, Some, None, Result, Ok, Err, refl, ◌∙◌, ap}
use Rattle.std.specs.Option.{option_map_or}
use Rattle.smithy_schema.specs.declared.error.SerdeError.{SerdeError}
use Rattle.smithy_shapes.specs.Site.{Site, element_of, key_of, value_of, member_of}
use Rattle.smithy_declarations.specs.Value.{ScalarValue, text_in, Value, scalar_value, list, map, structure, union, null_element, document_value, Values, no_values, value, MapEntries, no_map_entries, map_entry, MemberValues, no_member_values, member_value}
use Rattle.smithy_schema.specs.Writing.{Event, Open, open_structure, open_list, open_map_at_key, open_map_at_value, end_structure, end_list, end_map, after_value, after_text, after_scalar, after_begin, open_after, and_run, run, events, element_events, entry_events, member_events}
use Rattle.smithy_schema.proofs.WritingLemmas.{child_written}

-- what a begin, its children and an end come to, where the children leave the container as it is
around : (o : Open) (end : Event) (children : List Event) (os : List Open) → ((outer : List Open) → run open_after children (o ∷ outer) ≡ Ok (o ∷ outer))
    → ((outer : List Open) → open_after end (o ∷ outer) ≡ Ok outer)
    → and_run (run open_after (children ++ end ∷ [])) (after_begin o os) ≡ after_value os
around o end children os stays ends = from (after_value os)
  where
    from : (r : Result (List Open) SerdeError) → and_run (run open_after (children ++ end ∷ [])) (and_run (λ outer. Ok (o ∷ outer)) r) ≡ r
    from (Ok outer) = child_written open_after children (end ∷ []) (o ∷ outer) (o ∷ outer) (stays outer) ∙ ap (and_run (λ os. Ok os)) (ends outer)
    from (Err e) = refl

-- a text is taken where a value is due
pub text_taken : (os next : List Open) → after_value os ≡ Ok next → after_text os ≡ Ok next
text_taken [] next h = h
text_taken (open_structure ∷ os) next h = h
text_taken (open_list ∷ os) next h = h
text_taken (open_map_at_key ∷ os) next h = cc
text_taken (open_map_at_value ∷ os) next h = h

-- and so is any scalar
pub scalar_taken : (x : ScalarValue) (os next : List Open) → after_value os ≡ Ok next → after_scalar x os ≡ Ok next
scalar_taken x os next h = from (text_in x)
  where
    from : (key : Option (List ℕ)) → option_map_or (λ key. after_text os) key (after_value os) ≡ Ok next
    from None = h
    from (Some key) = text_taken os next h

mutual
  -- where a value is due, the calls of one leave the containers as one value does
  pub value_leaves : (v : Value) (site : Site) (os next : List Open) → after_value os ≡ Ok next → run open_after (events site v) os ≡ Ok next
  value_leaves (scalar_value x) site os next h = ap (and_run (λ os. Ok os)) (scalar_taken x os next h)
  value_leaves null_element site os next h = ap (and_run (λ os. Ok os)) h
  value_leaves (document_value d) site os next h = ap (and_run (λ os. Ok os)) h
  value_leaves (list vs) site os next h =
      around open_list end_list (element_events (element_of site) vs) os (λ outer. elements_leave vs (element_of site) outer) (λ outer. refl) ∙ h
  value_leaves (map es) site os next h =
      around open_map_at_key end_map (entry_events (key_of site) (value_of site) es) os (λ outer. entries_leave es (key_of site) (value_of site) outer) (λ outer. refl) ∙ h
  value_leaves (structure ms) site os next h =
      around open_structure end_structure (member_events site ms) os (λ outer. members_leave ms site outer) (λ outer. refl) ∙ h
  value_leaves (union n v) site os next h =
      around open_structure end_structure (events (member_of site n) v) os
      (λ outer. value_leaves v (member_of site n) (open_structure ∷ outer) (open_structure ∷ outer) refl) (λ outer. refl) ∙ h

  elements_leave : (vs : Values) (site : Site) (outer : List Open) → run open_after (element_events site vs) (open_list ∷ outer) ≡ Ok (open_list ∷ outer)
  elements_leave no_values site outer = refl
  elements_leave (value v vs) site outer =
      child_written open_after (events site v) (element_events site vs) (open_list ∷ outer) (open_list ∷ outer)
      (value_leaves v site (open_list ∷ outer) (open_list ∷ outer) refl) ∙ elements_leave vs site outer

  -- behind each entry a key is due again
  entries_leave : (es : MapEntries) (key_site site : Site) (outer : List Open)
      → run open_after (entry_events key_site site es) (open_map_at_key ∷ outer) ≡ Ok (open_map_at_key ∷ outer)
  entries_leave no_map_entries key_site site outer = refl
  entries_leave (map_entry key v es) key_site site outer =
      child_written open_after (events site v) (entry_events key_site site es) (open_map_at_value ∷ outer) (open_map_at_key ∷ outer)
      (value_leaves v site (open_map_at_value ∷ outer) (open_map_at_key ∷ outer) refl) ∙ entries_leave es key_site site outer

  members_leave : (ms : MemberValues) (site : Site) (outer : List Open)
      → run open_after (member_events site ms) (open_structure ∷ outer) ≡ Ok (open_structure ∷ outer)
  members_leave no_member_values site outer = refl
  members_leave (member_value n v ms) site outer =
      child_written open_after (events (member_of site n) v) (member_events site ms) (open_structure ∷ outer) (open_structure ∷ outer)
      (value_leaves v (member_of site n) (open_structure ∷ outer) (open_structure ∷ outer) refl) ∙ members_leave ms site outer
