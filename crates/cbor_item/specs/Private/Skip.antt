-- The states of skipping an item, and what each becomes when one more head is read.
use Rattle.std.specs.Prelude.{◌≡◌, ◌≤◌, ◌+◌, ℕ, suc, zero, ◌==◌, ◌||◌, nat_lt, ⊤, if◌then◌else◌, List, [], ◌∷◌, length, drop, reverse, Option, Some, None, is_some, Result, Ok, Err}
use Rattle.std.specs.Option.{option_map_or}
use Rattle.cbor_item.specs.declared.error.ItemError.{ItemError}
use Rattle.cbor_item.specs.declared.error.ItemError.TheVariants.{Truncated, NotWellFormed, WrongType, InvalidUtf8, NoMemory}
use Rattle.cbor_item.specs.declared.skip.Due.{Due}
use Rattle.cbor_item.specs.declared.skip.Due.TheVariants.{Items, Pairs, ValueAndPairs, ItemsUntilBreak, PairsUntilBreak, ValueUntilBreak, ChunksUntilBreak}
use Rattle.cbor_item.specs.declared.skip.Part.{Part}
use Rattle.cbor_item.specs.declared.skip.Part.TheVariants.{Ended, Item, Chunk}
use Rattle.cbor_item.specs.Private.Chunk.{HeadAnswer, whole, cut_head, broken_head, IsHeadAnswer, begins_with_break}

-- how skipping ends: with these bytes left, or at a fault
pub data Outcome : Type 0 where
  ended : List ℕ → Outcome
  cut : Outcome
  broken : Outcome

-- where skipping stands: what is due, the innermost first, and the bytes that are left
pub data State : Type 0 where
  between : List Due → List ℕ → State
  at_item : List Due → List ℕ → State
  at_chunk : ℕ → List Due → List ℕ → State
  stopped : Outcome → State

-- what becomes of the innermost that is due: it ends, or one more part of it comes next
abbrev pub next : List Due → List ℕ → State
next [] bytes = stopped (ended bytes)
next (Items zero ∷ due) bytes = between due bytes
next (Items (suc n) ∷ due) bytes = at_item (Items n ∷ due) bytes
next (Pairs zero ∷ due) bytes = between due bytes
next (Pairs (suc n) ∷ due) bytes = at_item (ValueAndPairs n ∷ due) bytes
next (ValueAndPairs n ∷ due) bytes = at_item (Pairs n ∷ due) bytes
next (ItemsUntilBreak ∷ due) bytes =
    if begins_with_break bytes then between due (drop 1 bytes)
    else at_item (ItemsUntilBreak ∷ due) bytes
next (PairsUntilBreak ∷ due) bytes =
    if begins_with_break bytes then between due (drop 1 bytes)
    else at_item (ValueUntilBreak ∷ due) bytes
next (ValueUntilBreak ∷ due) bytes = at_item (PairsUntilBreak ∷ due) bytes
next (ChunksUntilBreak major ∷ due) bytes =
    if begins_with_break bytes then between due (drop 1 bytes)
    else at_chunk major (ChunksUntilBreak major ∷ due) bytes

-- the state at what comes next where d is the innermost
abbrev pub part_state : Part → Due → List Due → List ℕ → ℕ → State
part_state (Ended end) d due input at = between due (drop end input)
part_state (Item then_due) d due input at = at_item (then_due ∷ due) (drop at input)
part_state (Chunk major) d due input at = at_chunk major (d ∷ due) (drop at input)

-- a break ends what is due, one byte on
abbrev pub part_unless_break : List ℕ → ℕ → Part → Part
part_unless_break bytes at part = if begins_with_break bytes then Ended (at + 1) else part

-- where what is due has ended, that is no further back and within the input
abbrev pub EndsWithin : ℕ → ℕ → Part → Type 0
EndsWithin at limit (Ended end) = (at ≤ end) × (end ≤ limit)
EndsWithin at limit _ = ⊤

-- after the head of a definite string: so many bytes
abbrev pub after_payload : ℕ → List Due → List ℕ → State
after_payload n due bytes =
    if nat_lt (length bytes) n then stopped cut else between due (drop n bytes)

-- after a string's head
abbrev pub in_string_of : ℕ → Option ℕ → List Due → List ℕ → State
in_string_of major (Some n) due bytes = after_payload n due bytes
in_string_of major None due bytes = between (ChunksUntilBreak major ∷ due) bytes

-- after an item's head
abbrev pub after_head : ℕ → Option ℕ → List Due → List ℕ → State
after_head major argument due bytes =
    if (major == 2) || (major == 3) then in_string_of major argument due bytes
    else if major == 4 then between (option_map_or Items argument ItemsUntilBreak ∷ due) bytes
    else if major == 5 then between (option_map_or Pairs argument PairsUntilBreak ∷ due) bytes
    else if major == 6 then between (Items 1 ∷ due) bytes
    else if is_some argument then between due bytes
    else stopped broken

-- after a chunk's head
abbrev pub after_chunk_head : ℕ → ℕ → Option ℕ → List Due → List ℕ → State
after_chunk_head major m (Some n) due bytes =
    if m == major then after_payload n due bytes else stopped broken
after_chunk_head major m None due bytes = stopped broken

-- what the bytes at a due item or chunk begin with decides
abbrev pub item_state : HeadAnswer → List Due → List ℕ → State
item_state (whole h) due bytes = after_head h.major h.argument due (drop h.length bytes)
item_state cut_head due bytes = stopped cut
item_state broken_head due bytes = stopped broken

abbrev pub chunk_state : ℕ → HeadAnswer → List Due → List ℕ → State
chunk_state major (whole h) due bytes =
    after_chunk_head major h.major h.argument due (drop h.length bytes)
chunk_state major cut_head due bytes = stopped cut
chunk_state major broken_head due bytes = stopped broken

-- what a state becomes when it is gone on from
abbrev pub Becomes : State → State → Type 0
Becomes (between due bytes) s = s ≡ next due bytes
Becomes (at_item due bytes) s =
    (a : HeadAnswer) × IsHeadAnswer bytes a × (s ≡ item_state a due bytes)
Becomes (at_chunk major due bytes) s =
    (a : HeadAnswer) × IsHeadAnswer bytes a × (s ≡ chunk_state major a due bytes)
Becomes (stopped o) s = ⊥

-- how skipping ends that goes on from a state
pub data Leads : State → Outcome → Type 0 where
  at_end : {o : Outcome} → Leads (stopped o) o
  goes_on : {s t : State} {o : Outcome} → Becomes s t → Leads t o → Leads s o

-- skipping that goes on from the state s ends as skipping from t does
abbrev pub Reaches : State → State → Type 0
Reaches s t = (o : Outcome) → Leads t o → Leads s o

-- the stack as a list: the innermost first
abbrev pub stack_of : List Due → List Due
stack_of due = reverse due

-- the call went on from the state: to the place between two items that it answers, or to a fault
abbrev pub IsStepAnswer : State → List Due → List ℕ → Result ℕ ItemError → Type 0
IsStepAnswer s due input (Ok end) =
    (end ≤ length input) × Reaches s (between (stack_of due) (drop end input))
IsStepAnswer s due input (Err Truncated) = Reaches s (stopped cut)
IsStepAnswer s due input (Err NotWellFormed) = Reaches s (stopped broken)
IsStepAnswer s due input (Err WrongType) = ⊥
IsStepAnswer s due input (Err InvalidUtf8) = ⊥
IsStepAnswer s due input (Err NoMemory) = ⊤
