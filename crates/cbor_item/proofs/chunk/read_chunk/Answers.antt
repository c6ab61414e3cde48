-- A head of the type with an argument begins a chunk.
use Rattle.std.proofs.Common.{◌≡◌, ◌<◌, ◌≤◌, ◌+◌, ℕ, length, subst, arith}
use Rattle.std.proofs.lemmas.Grind.{common_steps}
use Rattle.std.specs.Prelude.{IfOk, IfErr}
use Rattle.cbor_item.specs.declared.error.ItemError.TheVariants.{Truncated}
use Rattle.cbor_item.specs.HeadView.{head_read}
use Rattle.cbor_item.proofs.ChunkLemmas.{chunk_answer}
use Rattle.cbor_item.proofs.chunk.read_chunk.Goals as goal

pub returns-in-Some : goal.returns-in-Some
returns-in-Some c =
    let r = c.chunk_from.result in
    let n = c.in-Some.announced in
    let Ok_at : ℕ → Type 0 = λ l. IfOk r (λ chunk. (chunk.start ≡ c.args.at + l) × (chunk.end ≡ c.args.at + l + n) × (chunk.end ≤ length c.args.input.now)) in
    let Err_at : ℕ → Type 0 = λ l. IfErr r (λ e. (e ≡ Truncated) × (length c.args.input.now < c.args.at + l + n)) in
    chunk_answer c.args.major c.args.input.now c.args.at (head_read c.in_ok-head.head) n r c.requires c.in_ok-head.ensures.found c.in-Some.is c.if-head-major.true
    (subst Ok_at c.from.ensures c.chunk_from.ensures.ok) (subst Err_at c.from.ensures c.chunk_from.ensures.err)

pub chunk_from-requires : goal.chunk_from-requires
chunk_from-requires c = grind (arith, common_steps)
