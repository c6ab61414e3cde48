-- The calls of a serializer nest, and its text grows.
use Rattle.std.specs.Prelude.{◌≡◌, List, ℕ, ◌++◌, Ok}
use Rattle.smithy_schema.specs.Writing.{Event, IsNested, open_after}
use Rattle.smithy_query_codec.specs.Writing.{QueryState, made, allowed, can_take, where_taken, is_supported, query_after}
use Rattle.smithy_query_codec.specs.Private.MadeStates.{taken_opens, taken_grows, not_taken, was_supported, supported_or_not}

-- what a call makes is what is made of the open containers
made_there : (e : Event) (s t : QueryState) → query_after e s ≡ Ok t → where_taken (made e s) (allowed (can_take e s) (open_after e s.opens)) ≡ Ok t
made_there e s t h = was_supported (is_supported e) (where_taken (made e s) (allowed (can_take e s) (open_after e s.opens))) t h

-- the open containers are those of any serializer, and where none takes a call this one refuses it
pub query_nests : IsNested query_after (λ (s : QueryState). s.opens)
query_nests = record {
  goes = λ e s t h. taken_opens e s t (can_take e s) (open_after e s.opens) (made_there e s t h);
  stops = λ e s h.
      supported_or_not (is_supported e) (where_taken (made e s) (allowed (can_take e s) (open_after e s.opens)))
      (not_taken e s (can_take e s) (open_after e s.opens) h);
}

-- no call takes back a byte
pub query_grows : (e : Event) (s t : QueryState) → query_after e s ≡ Ok t → (more : List ℕ) × (t.out ≡ s.out ++ more)
query_grows e s t h = taken_grows e s t (can_take e s) (open_after e s.opens) (made_there e s t h)
