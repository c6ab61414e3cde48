-- A head of a definite string begins a chunk, or one that the end cuts off.
use Rattle.std.proofs.Common.{◌≡◌, ℕ, ◌+◌, ◌-◌, ◌<◌, ◌≤◌, List, length, drop, sym, subst, arith, inr, Option, Some, length-drop}
use Rattle.std.specs.Prelude.{Result, Ok, Err, IfOk, IfErr}
use Rattle.cbor_item.specs.declared.error.ItemError.{ItemError}
use Rattle.cbor_item.specs.declared.error.ItemError.TheVariants.{Truncated}
use Rattle.cbor_item.specs.declared.chunk.Chunk.{Chunk}
use Rattle.cbor_item.specs.Head.{HeadRead, BeginsWithHead}
use Rattle.cbor_item.specs.Private.Chunk.{BeginsWithChunk, IsChunkAnswer}
use Rattle.cbor_item.proofs.HeadLemmas.{head_is_some}

-- the same head, by what its parts are known to be
as_chunk : (h : HeadRead) (major n : ℕ) (bytes : List ℕ) → BeginsWithHead bytes h → h.argument ≡ Some n → h.major ≡ major → BeginsWithChunk major n h.length bytes
as_chunk h major n bytes begins argument type = go h.major h.argument h.length begins argument type
  where
    go : (m : ℕ) (a : Option ℕ) (len : ℕ) → BeginsWithHead bytes (record { major = m; argument = a; length = len }) → a ≡ Some n → m ≡ major → BeginsWithChunk major n len bytes
    go m a len begins argument type =
        let P : ℕ → Option ℕ → Type 0 = λ k o. BeginsWithHead bytes (record { major = k; argument = o; length = len }) in
        subst (λ (k : ℕ). P k (Some n)) type (subst (P m) argument begins)

pub chunk_answer : (major : ℕ) (input : List ℕ) (at : ℕ) (h : HeadRead) (n : ℕ) (r : Result Chunk ItemError) → at ≤ length input → BeginsWithHead (drop at input) h
    → h.argument ≡ Some n → h.major ≡ major
    → IfOk r (λ chunk. (chunk.start ≡ at + h.length) × (chunk.end ≡ at + h.length + n) × (chunk.end ≤ length input))
    → IfErr r (λ e. (e ≡ Truncated) × (length input < at + h.length + n)) → IsChunkAnswer major input at r
chunk_answer major input at h n (Ok chunk) inside begins argument type (start, end, within) err =
    let some = head_is_some (drop at input) h begins in
    let size : n ≡ chunk.end - chunk.start = omega arith in
    let head : h.length ≡ chunk.start - at = omega arith in
    let P : ℕ → ℕ → Type 0 = λ k l. BeginsWithChunk major k l (drop at input) in
    (omega arith, omega arith, within, subst (λ (k : ℕ). P k (chunk.start - at)) size (subst (P n) head (as_chunk h major n (drop at input) begins argument type)))
chunk_answer major input at h n (Err e) inside begins argument type ok (fault, short) =
    let size : length (drop h.length (drop at input)) < n = omega (arith, length-drop h.length (drop at input), length-drop at input, begins.0) in
    subst (λ (f : ItemError). IsChunkAnswer major input at (Err f)) (sym fault) (inr (n, h.length, as_chunk h major n (drop at input) begins argument type, size))
