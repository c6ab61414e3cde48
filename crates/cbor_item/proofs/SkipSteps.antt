-- The functions of skipping go from state to state.
use Rattle.std.proofs.Common.{◌≡◌, ◌≢◌, ◌⊎◌, inl, inr, ℕ, ◌+◌, ◌-◌, ◌≤◌, List, ◌∷◌, length, drop, sym, ◌∙◌, ap, subst, arith, refl, Bool, true, false, Option, Some, None, eq-eqb, length-drop}
use Rattle.std.specs.Prelude.{◌==◌, ◌↔◌, nat_lt, if◌then◌else◌, Result, Ok, Err, IsErrOf, IsNone}
use Rattle.std.proofs.lemmas.Bool.Decides.{nat_tests}
use Rattle.std.proofs.lemmas.List.{drop-drop}
use Rattle.cbor_item.specs.declared.error.ItemError.{ItemError}
use Rattle.cbor_item.specs.declared.error.ItemError.TheVariants.{Truncated, NotWellFormed, WrongType, InvalidUtf8, NoMemory}
use Rattle.cbor_item.specs.declared.chunk.Chunk.{Chunk}
use Rattle.cbor_item.specs.declared.head.Head.{Head}
use Rattle.cbor_item.specs.declared.skip.Due.{Due}
use Rattle.cbor_item.specs.declared.skip.Part.{Part}
use Rattle.cbor_item.specs.declared.skip.Part.TheVariants.{Ended}
use Rattle.cbor_item.specs.Head.{HeadRead, BeginsWithHead, IsCutHead, IsBrokenHead}
use Rattle.cbor_item.specs.Answer.{NoOtherFault}
use Rattle.cbor_item.specs.Private.Chunk.{whole, cut_head, broken_head, begins_with_break, IsChunkAnswer}
use Rattle.cbor_item.specs.Private.Skip.{broken, State, between, at_item, at_chunk, stopped, next, part_state, part_unless_break, after_head, after_chunk_head, Reaches, IsStepAnswer, stack_of}
use Rattle.cbor_item.proofs.Passing.{through, reaches_same, step_to, at_head, at_chunk_head}

-- an answer from a later state is one from an earlier state
pub step_through : (s t : State) (due : List Due) (input : List ℕ) (r : Result ℕ ItemError) → Reaches s t → IsStepAnswer t due input r → IsStepAnswer s due input r
step_through s t due input (Ok end) p (within, q) = (within, through s t _ p q)
step_through s t due input (Err Truncated) p q = through s t _ p q
step_through s t due input (Err NotWellFormed) p q = through s t _ p q
step_through s t due input (Err WrongType) p q = absurd q
step_through s t due input (Err InvalidUtf8) p q = absurd q
step_through s t due input (Err NoMemory) p q = q

-- past a head that was read
pub past_read_head : (h : HeadRead) (due : List Due) (input : List ℕ) (at : ℕ) → BeginsWithHead (drop at input) h
    → Reaches (at_item due (drop at input)) (after_head h.major h.argument due (drop (at + h.length) input))
past_read_head h due input at begins =
    subst (λ (bytes : List ℕ). Reaches (at_item due (drop at input)) (after_head h.major h.argument due bytes)) (drop-drop h.length at input)
    (at_head due (drop at input) (whole h) begins)

-- at the fault of a head
pub head_fault : (due new : List Due) (bytes input : List ℕ) (e : ItemError) → IsErrOf {T = Head} (Err e) Truncated ↔ IsCutHead bytes
    → IsErrOf {T = Head} (Err e) NotWellFormed ↔ IsBrokenHead bytes → NoOtherFault {A = Head} (Err e) → IsStepAnswer (at_item due bytes) new input (Err e)
head_fault due new bytes input Truncated p q r = at_head due bytes cut_head (p.0 refl)
head_fault due new bytes input NotWellFormed p q r = at_head due bytes broken_head (q.0 refl)
head_fault due new bytes input WrongType p q r = absurd r
head_fault due new bytes input InvalidUtf8 p q r = absurd r
head_fault due new bytes input NoMemory p q r = absurd r

-- what comes next, unless a break does
pub next_unless_break : (d : Due) (due : List Due) (input : List ℕ) (at : ℕ) (part : Part)
    → next (d ∷ due) (drop at input) ≡ (if begins_with_break (drop at input) then between due (drop 1 (drop at input)) else part_state part d due input at)
    → next (d ∷ due) (drop at input) ≡ part_state (part_unless_break (drop at input) at part) d due input at
next_unless_break d due input at part e = e ∙ go (begins_with_break (drop at input))
  where
    go : (b : Bool) → (if b then between due (drop 1 (drop at input)) else part_state part d due input at) ≡ part_state (if b then Ended (at + 1) else part) d due input at
    go true = ap (between due) (drop-drop 1 at input)
    go false = refl

-- a chunk, or its fault
pub chunk_step : (major : ℕ) (due : List Due) (input : List ℕ) (at : ℕ) (chunk : Chunk) → IsChunkAnswer major input at (Ok chunk)
    → Reaches (at_chunk major due (drop at input)) (between due (drop chunk.end input))
chunk_step major due input at chunk (longer, ordered, within, begins) =
    through _ _ _ (at_chunk_head major due (drop at input) (whole (record { major = major; argument = Some (chunk.end - chunk.start); length = chunk.start - at })) begins)
    (reaches_same _ _ (rw (eq-eqb major major refl, enough) (ap (between due) place)))
  where
    place : drop (chunk.end - chunk.start) (drop (chunk.start - at) (drop at input)) ≡ drop chunk.end input
    place =
        let sum : at + ((chunk.start - at) + (chunk.end - chunk.start)) ≡ chunk.end = omega arith in
        drop-drop (chunk.end - chunk.start) (chunk.start - at) (drop at input) ∙ drop-drop ((chunk.start - at) + (chunk.end - chunk.start)) at input
        ∙ ap (λ n. drop n input) sum

    enough : nat_lt (length (drop (chunk.start - at) (drop at input))) (chunk.end - chunk.start) ≡ false
    enough =
        let size : length (drop (chunk.start - at) (drop at input)) ≡ length input - at - (chunk.start - at) = omega (arith, length-drop (chunk.start - at) (drop at input), length-drop at input) in
        let most : chunk.end - chunk.start ≤ length (drop (chunk.start - at) (drop at input)) = omega arith in
        grind (arith, nat_tests)

pub chunk_fault : (major : ℕ) (due new : List Due) (input : List ℕ) (at : ℕ) (e : ItemError) → IsChunkAnswer major input at (Err e)
    → IsStepAnswer (at_chunk major due (drop at input)) new input (Err e)
chunk_fault major due new input at Truncated (inl short) = at_chunk_head major due (drop at input) cut_head short
chunk_fault major due new input at Truncated (inr (announced, len, begins, short)) =
    through _ _ _ (at_chunk_head major due (drop at input) (whole (record { major = major; argument = Some announced; length = len })) begins)
    (reaches_same _ _ (rw (eq-eqb major major refl, less) refl))
  where
    less : nat_lt (length (drop len (drop at input))) announced ≡ true
    less = grind (arith, nat_tests)
chunk_fault major due new input at NotWellFormed (inl wrong) = at_chunk_head major due (drop at input) broken_head wrong
chunk_fault major due new input at NotWellFormed (inr (h, begins, other)) =
    through _ _ _ (at_chunk_head major due (drop at input) (whole h) begins) (reaches_same _ _ (go h.major h.argument h.length other))
  where
    go : (m : ℕ) (argument : Option ℕ) (len : ℕ) → (m ≢ major) ⊎ IsNone argument → after_chunk_head major m argument due (drop len (drop at input)) ≡ stopped broken
    go m None len other = refl
    go m (Some n) len (inl differs) = let test : (m == major) ≡ false = grind (arith, nat_tests) in rw test refl
    go m (Some n) len (inr never) = absurd (cc)
chunk_fault major due new input at WrongType never = absurd never
chunk_fault major due new input at InvalidUtf8 never = absurd never
chunk_fault major due new input at NoMemory never = absurd never

-- a chunk, with what was due put back
pub chunk_then : (major : ℕ) (d : Due) (due new : List Due) (input : List ℕ) (at : ℕ) (chunk : Chunk) → next (d ∷ due) (drop at input) ≡ at_chunk major (d ∷ due) (drop at input)
    → stack_of new ≡ d ∷ due → IsChunkAnswer major input at (Ok chunk) → IsStepAnswer (between (d ∷ due) (drop at input)) new input (Ok chunk.end)
chunk_then major d due new input at chunk goes pushed answer = (
  answer.2,
  through _ _ _ (step_to (d ∷ due) (drop at input) (at_chunk major (d ∷ due) (drop at input)) goes)
      (through _ _ _ (chunk_step major (d ∷ due) input at chunk answer) (reaches_same _ _ (ap (λ l. between l (drop chunk.end input)) (sym pushed)))),
)

pub chunk_fails : (major : ℕ) (d : Due) (due new : List Due) (input : List ℕ) (at : ℕ) (e : ItemError) → next (d ∷ due) (drop at input) ≡ at_chunk major (d ∷ due) (drop at input)
    → IsChunkAnswer major input at (Err e) → IsStepAnswer (between (d ∷ due) (drop at input)) new input (Err e)
chunk_fails major d due new input at e goes answer =
    step_through _ _ new input (Err e) (step_to (d ∷ due) (drop at input) (at_chunk major (d ∷ due) (drop at input)) goes) (chunk_fault major (d ∷ due) new input at e answer)
