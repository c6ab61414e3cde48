-- Strings that stand at a place, and why none does.
use Rattle.std.proofs.Common.{◌≡◌, ◌≢◌, inl, inr, ℕ, suc, zero, ◌+◌, ◌-◌, ◌<◌, ◌≤◌, List, [], ◌∷◌, ◌++◌, length, take, drop, sym, ◌∙◌, ap, subst, arith, refl, Option, Some, None, length-drop}
use Rattle.std.specs.Prelude.{◌↔◌, slice_range, All, IsUtf8, IsErrOf, Result, Ok, Err}
use Rattle.cbor_item.specs.declared.error.ItemError.{ItemError}
use Rattle.cbor_item.specs.declared.error.ItemError.TheVariants.{Truncated, NotWellFormed, WrongType, InvalidUtf8, NoMemory}
use Rattle.cbor_item.specs.declared.chunk.Chunk.{Chunk}
use Rattle.cbor_item.specs.declared.head.Head.{Head}
use Rattle.cbor_item.specs.declared.strings.Start.{Start}
use Rattle.cbor_item.specs.declared.strings.Start.TheVariants.{Whole, Chunks}
use Rattle.cbor_item.specs.Head.{initial_byte, HeadRead, BeginsWithHead, IsCutHead, IsBrokenHead}
use Rattle.cbor_item.specs.Item.{definite, indefinite}
use Rattle.cbor_item.specs.WellFormed.{break, IsString}
use Rattle.cbor_item.specs.Answer.{NoOtherFault}
use Rattle.cbor_item.specs.Fault.{BeginsOtherwise, IsStringFault}
use Rattle.cbor_item.specs.Strings.{IsTextFault}
use Rattle.cbor_item.specs.Private.Chunk.{HeadAnswer, whole, cut_head, broken_head, IsHeadAnswer, IsChunkAnswer, BeginsWithChunk}
use Rattle.cbor_item.specs.Private.Joined.{AreClosedAt, chunks_due, IsJoinFault, IsTextJoinFault}
use Rattle.cbor_item.specs.Private.Start.{IsStringType, IsStartAnswer, IsWholeAnswer}
use Rattle.cbor_item.specs.Private.Skip.{at_item, cut, broken, at_end, Reaches, after_payload}
use Rattle.cbor_item.proofs.HeadLemmas.{one_answer}
use Rattle.cbor_item.proofs.ChunkLemmas.{chunk_answer}
use Rattle.cbor_item.proofs.Passing.{through, at_head, reaches_same}
use Rattle.cbor_item.proofs.Cutting.{cut_payload}
use Rattle.cbor_item.proofs.Ending.{one_chunk}
use Rattle.cbor_item.proofs.JoinLemmas.{chunk_there, range_parts}
use Rattle.cbor_item.proofs.SkipLemmas.{found_cut, found_broken}
use Rattle.cbor_item.proofs.SkipSteps.{past_read_head}

-- bytes with a head of the type begin with no other
not_otherwise : (major : ℕ) (bytes : List ℕ) (h : HeadRead) → BeginsWithHead bytes h → h.major ≡ major → ¬ (BeginsOtherwise major bytes)
not_otherwise major bytes h begins type (k, other, differs) =
    let same : whole h ≡ whole k = one_answer bytes (whole h) (whole k) begins other in
    let heads : h ≡ k = cc in differs (sym (ap (λ (r : HeadRead). r.major) heads) ∙ type)

no_head : (major : ℕ) (bytes : List ℕ) (a : HeadAnswer) → ((h : HeadRead) → whole h ≢ a) → IsHeadAnswer bytes a → ¬ (BeginsOtherwise major bytes)
no_head major bytes a other here (k, begins, differs) = other k (one_answer bytes (whole k) a begins here)

-- the fault of a head
pub head_string_fault : (major : ℕ) (input : List ℕ) (at : ℕ) (e : ItemError) → IsErrOf {T = Head} (Err e) Truncated ↔ IsCutHead (drop at input)
    → IsErrOf {T = Head} (Err e) NotWellFormed ↔ IsBrokenHead (drop at input) → NoOtherFault {A = Head} (Err e) → IsStartAnswer major input at (Err e)
head_string_fault major input at Truncated p q r =
    (no_head major (drop at input) cut_head (λ h e. cc) (p.0 refl), found_cut input at (at_head [] (drop at input) cut_head (p.0 refl) cut at_end))
head_string_fault major input at NotWellFormed p q r =
    (no_head major (drop at input) broken_head (λ h e. cc) (q.0 refl), found_broken input at (at_head [] (drop at input) broken_head (q.0 refl) broken at_end))
head_string_fault major input at WrongType p q r = absurd r
head_string_fault major input at InvalidUtf8 p q r = absurd r
head_string_fault major input at NoMemory p q r = absurd r

-- past the head of a string
past_string_head : (major n : ℕ) (input : List ℕ) (at len : ℕ) → IsStringType major → BeginsWithChunk major n len (drop at input)
    → Reaches (at_item [] (drop at input)) (after_payload n [] (drop (at + len) input))
past_string_head major n input at len (inl e) begins =
    past_read_head (record { major = 2; argument = Some n; length = len }) [] input at (subst (λ (m : ℕ). BeginsWithChunk m n len (drop at input)) e begins)
past_string_head major n input at len (inr e) begins =
    past_read_head (record { major = 3; argument = Some n; length = len }) [] input at (subst (λ (m : ℕ). BeginsWithChunk m n len (drop at input)) e begins)

-- a definite string that is cut off
pub whole_cut : (major n : ℕ) (input : List ℕ) (at len : ℕ) → IsStringType major → BeginsWithChunk major n len (drop at input) → length input < at + len + n
    → at ≤ length input → IsStringFault major input at Truncated
whole_cut major n input at len type begins short inside =
    let size : length (drop (at + len) input) < n = omega (arith, length-drop (at + len) input, length-drop at input, begins.0) in (
      not_otherwise major (drop at input) (record { major = major; argument = Some n; length = len }) begins refl,
      found_cut input at (through _ _ _ (past_string_head major n input at len type begins) (reaches_same _ _ (cut_payload n (drop (at + len) input) [] size)) cut at_end),
    )

-- the same head, by what its parts are known to be
pub head_is : (h : HeadRead) (major : ℕ) (argument : Option ℕ) (bytes : List ℕ) → BeginsWithHead bytes h → h.argument ≡ argument → h.major ≡ major
    → BeginsWithHead bytes (record { major = major; argument = argument; length = h.length })
head_is h major argument bytes begins same type = go h.major h.argument h.length begins same type
  where
    go : (m : ℕ) (a : Option ℕ) (len : ℕ) → BeginsWithHead bytes (record { major = m; argument = a; length = len }) → a ≡ argument → m ≡ major
        → BeginsWithHead bytes (record { major = major; argument = argument; length = len })
    go m a len begins same type =
        let P : ℕ → Option ℕ → Type 0 = λ k o. BeginsWithHead bytes (record { major = k; argument = o; length = len }) in
        subst (λ (k : ℕ). P k argument) type (subst (P m) same begins)

pub whole_start : (major : ℕ) (input : List ℕ) (at : ℕ) (h : HeadRead) (n : ℕ) (r : Result Start ItemError) → IsStringType major → at ≤ length input
    → BeginsWithHead (drop at input) h → h.argument ≡ Some n → h.major ≡ major → IsWholeAnswer input (at + h.length) n r → IsStartAnswer major input at r
whole_start major input at h n (Ok (Whole chunk)) type inside begins argument same there = chunk_answer major input at h n (Ok chunk) inside begins argument same there tt
whole_start major input at h n (Ok (Chunks body)) type inside begins argument same never = absurd never
whole_start major input at h n (Err Truncated) type inside begins argument same short =
    whole_cut major n input at h.length type (head_is h major (Some n) (drop at input) begins argument same) short inside
whole_start major input at h n (Err NotWellFormed) type inside begins argument same never = absurd never
whole_start major input at h n (Err WrongType) type inside begins argument same never = absurd never
whole_start major input at h n (Err InvalidUtf8) type inside begins argument same never = absurd never
whole_start major input at h n (Err NoMemory) type inside begins argument same never = absurd never

-- a definite string stands there
pub whole_stands : (major : ℕ) (input : List ℕ) (at : ℕ) (chunk : Chunk) → IsChunkAnswer major input at (Ok chunk)
    → IsString major definite (slice_range input chunk.start chunk.end ∷ []) (slice_range input at chunk.end)
whole_stands major input at chunk answer = (refl, one_chunk major (slice_range input chunk.start chunk.end) (slice_range input at chunk.end) (chunk_there major input at chunk answer))

-- a string in chunks stands there
pub chunks_stand : (major : ℕ) (input : List ℕ) (at body end : ℕ) (chunks : List (List ℕ)) → at < body
    → BeginsWithHead (drop at input) (record { major = major; argument = None; length = body - at }) → AreClosedAt major chunks input body end
    → (end ≤ length input) × IsString major indefinite chunks (slice_range input at end)
chunks_stand major input at body end chunks longer (fits, (may, opening)) (stop, after, (ordered, inside, p), closing) =
    let within : end ≤ length input = omega (arith, ap length closing, length-drop stop input, length-drop end input) in
    let last : slice_range input stop end ≡ break ∷ [] = one_byte within in
    let split : slice_range input at end ≡ slice_range input at body ++ (slice_range input body stop ++ slice_range input stop end) =
    range_parts input at body end (omega arith) (omega arith) within ∙ ap (λ l. slice_range input at body ++ l) (range_parts input body stop end ordered (omega arith) within) in
    (within, (slice_range input body stop, p, split ∙ ap (λ l. l ++ (slice_range input body stop ++ slice_range input stop end)) opening ∙ ap (λ l. initial_byte major 31 ∷ (slice_range input body stop ++ l)) last))
  where
    one_byte : end ≤ length input → slice_range input stop end ≡ break ∷ []
    one_byte within = let size : end - stop ≡ 1 = omega arith in ap (λ n. take n (drop stop input)) size ∙ ap (take 1) closing

-- the chunks after a head have a fault
pub chunks_fault : (major : ℕ) (input : List ℕ) (at body : ℕ) (e : ItemError) → IsStringType major → at < body
    → BeginsWithHead (drop at input) (record { major = major; argument = None; length = body - at }) → IsJoinFault major input body e → IsStringFault major input at e
chunks_fault major input at body e type longer begins fault = go e fault
  where
    place : at + (body - at) ≡ body
    place = omega arith

    here : (m : ℕ) → Reaches (at_item [] (drop at input)) (chunks_due m input (at + (body - at))) → Reaches (at_item [] (drop at input)) (chunks_due m input body)
    here m reaches = subst (λ (k : ℕ). Reaches (at_item [] (drop at input)) (chunks_due m input k)) place reaches

    opened : (m : ℕ) → IsStringType m → BeginsWithHead (drop at input) (record { major = m; argument = None; length = body - at }) → Reaches (at_item [] (drop at input)) (chunks_due m input body)
    opened m (inl e) begins =
        subst (λ (k : ℕ). Reaches (at_item [] (drop at input)) (chunks_due k input body)) (sym e)
        (here 2 (past_read_head (record { major = 2; argument = None; length = body - at }) [] input at (subst (λ (k : ℕ). BeginsWithHead (drop at input) (record { major = k; argument = None; length = body - at })) e begins)))
    opened m (inr e) begins =
        subst (λ (k : ℕ). Reaches (at_item [] (drop at input)) (chunks_due k input body)) (sym e)
        (here 3 (past_read_head (record { major = 3; argument = None; length = body - at }) [] input at (subst (λ (k : ℕ). BeginsWithHead (drop at input) (record { major = k; argument = None; length = body - at })) e begins)))

    go : (f : ItemError) → IsJoinFault major input body f → IsStringFault major input at f
    go Truncated reaches = (not_otherwise major (drop at input) (record { major = major; argument = None; length = body - at }) begins refl, found_cut input at (through _ _ _ (opened major type begins) reaches cut at_end))
    go NotWellFormed reaches = (not_otherwise major (drop at input) (record { major = major; argument = None; length = body - at }) begins refl, found_broken input at (through _ _ _ (opened major type begins) reaches broken at_end))
    go WrongType never = absurd never
    go InvalidUtf8 never = absurd never
    go NoMemory anything = anything

-- how a string begins, by what it is known to be
pub start_is : (major : ℕ) (input : List ℕ) (at : ℕ) (s t : Start) → s ≡ t → IsStartAnswer major input at (Ok s) → IsStartAnswer major input at (Ok t)
start_is major input at s t e answer = subst (λ (u : Start). IsStartAnswer major input at (Ok u)) e answer

-- the chunks of a text have a fault
pub text_chunks_fault : (input : List ℕ) (at body : ℕ) (e : ItemError) → at < body
    → BeginsWithHead (drop at input) (record { major = 3; argument = None; length = body - at }) → IsTextJoinFault input body e → IsTextFault input at e
text_chunks_fault input at body Truncated longer begins fault = chunks_fault 3 input at body Truncated (inr refl) longer begins fault
text_chunks_fault input at body NotWellFormed longer begins fault = chunks_fault 3 input at body NotWellFormed (inr refl) longer begins fault
text_chunks_fault input at body WrongType longer begins fault = absurd fault
text_chunks_fault input at body InvalidUtf8 longer begins (chunks, end, closed, bad) =
    (indefinite, chunks, end, chunks_stand 3 input at body end chunks longer begins closed, bad)
text_chunks_fault input at body NoMemory longer begins fault = chunks_fault 3 input at body NoMemory (inr refl) longer begins fault

-- one chunk that is UTF-8, or is not
pub one_utf8 : (chunk : List ℕ) → IsUtf8 chunk → All IsUtf8 (chunk ∷ [])
one_utf8 chunk u zero d inside = u
one_utf8 chunk u (suc k) d inside = absurd (omega arith)

pub not_one_utf8 : (chunk : List ℕ) → ¬ (IsUtf8 chunk) → ¬ (All IsUtf8 (chunk ∷ []))
not_one_utf8 chunk bad all = bad (all 0 [] (omega arith))
