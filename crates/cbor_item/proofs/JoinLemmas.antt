-- Chunks, one after another, up to a break.
use Rattle.std.proofs.Common.{◌≡◌, ℕ, suc, zero, ◌+◌, ◌-◌, ◌≤◌, List, [], ◌∷◌, ◌++◌, length, take, drop, sym, ◌∙◌, ap, subst, arith, refl, append_assoc, append-nil, true, false, length-take, length-drop}
use Rattle.std.specs.Prelude.{All, IsUtf8, slice_range, Ok, Err}
use Rattle.std.specs.List.{concat}
use Rattle.std.proofs.lemmas.List.{drop-drop, append_cancel_right}
use Rattle.std.proofs.lemmas.List.Elements.{All-append}
use Rattle.std.proofs.lemmas.List.Folds.{drop_split}
use Rattle.cbor_item.specs.declared.error.ItemError.{ItemError}
use Rattle.cbor_item.specs.declared.error.ItemError.TheVariants.{Truncated, NotWellFormed, WrongType, InvalidUtf8, NoMemory}
use Rattle.cbor_item.specs.declared.chunk.Chunk.{Chunk}
use Rattle.cbor_item.specs.declared.skip.Due.TheVariants.{ChunksUntilBreak}
use Rattle.cbor_item.specs.Head.{IsHead}
use Rattle.cbor_item.specs.WellFormed.{break, HeadThen, AreChunks}
use Rattle.cbor_item.specs.Private.Chunk.{IsChunkAnswer, begins_with_break}
use Rattle.cbor_item.specs.Private.Joined.{AreChunksAt, AreClosedAt, chunks_due, IsJoinFault, IsTextJoinFault}
use Rattle.cbor_item.specs.Private.Skip.{between, at_chunk, Reaches, IsStepAnswer}
use Rattle.cbor_item.proofs.Passing.{through, along, past_chunks, step_to}
use Rattle.cbor_item.proofs.Ending.{break_there}
use Rattle.cbor_item.proofs.SkipSteps.{chunk_fault}

-- a range in two parts
pub range_parts : (input : List ℕ) (at middle end : ℕ) → at ≤ middle → middle ≤ end → end ≤ length input
    → slice_range input at end ≡ slice_range input at middle ++ slice_range input middle end
range_parts input at middle end first second within =
    let whole : at ≤ end = omega arith in
    append_cancel_right (slice_range input at end) (slice_range input at middle ++ slice_range input middle end) (drop end input)
    (sym (drop_split input at end whole) ∙ drop_split input at middle first ∙ ap (λ l. slice_range input at middle ++ l) (drop_split input middle end second)
    ∙ sym (append_assoc (slice_range input at middle) (slice_range input middle end) (drop end input)))

-- a chunk that was read
pub chunk_there : (major : ℕ) (input : List ℕ) (at : ℕ) (chunk : Chunk) → IsChunkAnswer major input at (Ok chunk)
    → HeadThen major (length (slice_range input chunk.start chunk.end)) (slice_range input chunk.start chunk.end) (slice_range input at chunk.end)
chunk_there major input at chunk (longer, ordered, within, (fits, (type, spelled, long))) =
    let size : length (slice_range input chunk.start chunk.end) ≡ chunk.end - chunk.start =
    omega (arith, length-take (chunk.end - chunk.start) (drop chunk.start input), length-drop chunk.start input) in
    (slice_range input at chunk.start, subst (λ (n : ℕ). IsHead major n (slice_range input at chunk.start)) (sym size) spelled, range_parts input at chunk.start chunk.end (omega arith) ordered within)

-- one more chunk after those that were passed
chunks_append : (major : ℕ) (chunks : List (List ℕ)) (chunk body first : List ℕ) → AreChunks major chunks body → HeadThen major (length chunk) chunk first
    → AreChunks major (chunks ++ chunk ∷ []) (body ++ first)
chunks_append major [] chunk body first none h = (first, [], h, refl, ap (λ l. l ++ first) none ∙ sym (append-nil first))
chunks_append major (c ∷ chunks) chunk body first (here, more, k, p, e) h =
    (here, more ++ first, k, chunks_append major chunks chunk more first p h, ap (λ l. l ++ first) e ∙ append_assoc here more first)

pub more_chunk : (major : ℕ) (chunks : List (List ℕ)) (input : List ℕ) (at end : ℕ) (chunk : Chunk) → AreChunksAt major chunks input at end → IsChunkAnswer major input end (Ok chunk)
    → AreChunksAt major (chunks ++ slice_range input chunk.start chunk.end ∷ []) input at chunk.end
more_chunk major chunks input at end chunk (ordered, inside, p) answer =
    let rest : end ≤ chunk.end = omega (arith, answer.0, answer.1) in
    let both = chunks_append major chunks (slice_range input chunk.start chunk.end) (slice_range input at end) (slice_range input end chunk.end) p (chunk_there major input end chunk answer) in
    (omega arith, answer.2, subst (λ (l : List ℕ). AreChunks major (chunks ++ slice_range input chunk.start chunk.end ∷ []) l) (sym (range_parts input at end chunk.end ordered rest answer.2)) both)

pub concat_more : (chunks : List (List ℕ)) (chunk : List ℕ) → concat (chunks ++ chunk ∷ []) ≡ concat chunks ++ chunk
concat_more [] chunk = append-nil chunk
concat_more (c ∷ chunks) chunk = ap (λ l. c ++ l) (concat_more chunks chunk) ∙ sym (append_assoc c (concat chunks) chunk)

-- no chunk was passed yet
pub no_chunks : (major : ℕ) (input : List ℕ) (at : ℕ) → at ≤ length input → AreChunksAt major [] input at at
no_chunks major input at inside = let none : at - at ≡ 0 = omega arith in (omega arith, inside, ap (λ n. take n (drop at input)) none)

-- a break after the chunks
pub closed : (major : ℕ) (chunks : List (List ℕ)) (input : List ℕ) (at stop : ℕ) → AreChunksAt major chunks input at stop → true ≡ begins_with_break (drop stop input)
    → AreClosedAt major chunks input at (stop + 1)
closed major chunks input at stop there e =
    (stop, refl, there, break_there (drop stop input) (sym e) ∙ ap (λ l. break ∷ l) (drop-drop 1 stop input))

-- past the chunks
pub past_these : (major : ℕ) (chunks : List (List ℕ)) (input : List ℕ) (at end : ℕ) → major ≤ 6 → AreChunksAt major chunks input at end
    → Reaches (chunks_due major input at) (chunks_due major input end)
past_these major chunks input at end low (ordered, inside, p) =
    along (between (ChunksUntilBreak major ∷ [])) (drop at input) (slice_range input at end ++ drop end input) (chunks_due major input end) (drop_split input at end ordered)
    (past_chunks major chunks (slice_range input at end) (drop end input) [] low p)

-- the fault of a chunk after those that were passed
pub join_fault : (major : ℕ) (chunks : List (List ℕ)) (input : List ℕ) (at end : ℕ) (e : ItemError) → major ≤ 6 → AreChunksAt major chunks input at end
    → false ≡ begins_with_break (drop end input) → IsChunkAnswer major input end (Err e) → IsJoinFault major input at e
join_fault major chunks input at end e low there other answer = go e (chunk_fault major (ChunksUntilBreak major ∷ []) [] input end e answer)
  where
    to_chunk : Reaches (chunks_due major input at) (at_chunk major (ChunksUntilBreak major ∷ []) (drop end input))
    to_chunk = through _ _ _ (past_these major chunks input at end low there) (step_to (ChunksUntilBreak major ∷ []) (drop end input) (at_chunk major (ChunksUntilBreak major ∷ []) (drop end input)) (rw (sym other) refl))

    go : (f : ItemError) → IsStepAnswer (at_chunk major (ChunksUntilBreak major ∷ []) (drop end input)) [] input (Err f) → IsJoinFault major input at f
    go Truncated reaches = through _ _ _ to_chunk reaches
    go NotWellFormed reaches = through _ _ _ to_chunk reaches
    go WrongType never = never
    go InvalidUtf8 never = never
    go NoMemory anything = anything

-- each of the chunks and one more
pub all_more : (chunks : List (List ℕ)) (chunk : List ℕ) → All IsUtf8 chunks → IsUtf8 chunk → All IsUtf8 (chunks ++ chunk ∷ [])
all_more chunks chunk all last = All-append IsUtf8 chunks (chunk ∷ []) all one
  where
    one : All IsUtf8 (chunk ∷ [])
    one zero d inside = last
    one (suc k) d inside = absurd (omega arith)

pub all_but_one : (chunks : List (List ℕ)) (chunk : List ℕ) → All IsUtf8 (chunks ++ chunk ∷ []) → All IsUtf8 chunks × IsUtf8 chunk
all_but_one [] chunk all = (λ k d inside. absurd (omega arith), all 0 [] (omega arith))
all_but_one (c ∷ chunks) chunk all =
    let rest = all_but_one chunks chunk (λ k d inside. all (suc k) d (omega arith)) in
    (front (all 0 [] (omega arith)) rest.0, rest.1)
  where
    front : IsUtf8 c → All IsUtf8 chunks → All IsUtf8 (c ∷ chunks)
    front first more zero d inside = first
    front first more (suc k) d inside = more k d (omega arith)

pub text_join : (input : List ℕ) (at : ℕ) (e : ItemError) → IsJoinFault 3 input at e → IsTextJoinFault input at e
text_join input at Truncated fault = fault
text_join input at NotWellFormed fault = fault
text_join input at WrongType fault = fault
text_join input at InvalidUtf8 fault = absurd fault
text_join input at NoMemory fault = fault
