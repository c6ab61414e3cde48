-- A byte string, whole or in chunks.
use Rattle.std.proofs.Common.{◌∷◌, [], sym, refl, inl, append-nil}
use Rattle.std.specs.Prelude.{slice_range}
use Rattle.std.proofs.lemmas.Result.{err_from_is_err_and}
use Rattle.cbor_item.specs.declared.strings.Start.TheVariants.{Whole, Chunks}
use Rattle.cbor_item.specs.Item.{definite, indefinite}
use Rattle.cbor_item.proofs.StringLemmas.{start_is, whole_stands, chunks_stand, chunks_fault}
use Rattle.cbor_item.proofs.strings.byte_chunks.Goals as goal

pub returns-in_err-bytes-in-Chunks-clause-fault : goal.returns-in_err-bytes-in-Chunks-clause-fault
returns-in_err-bytes-in-Chunks-clause-fault c =
    let r = c.from_residual-in_err-bytes-in-Chunks in
    let p = err_from_is_err_and r.result r.ensures.1 in
    let start = start_is 2 c.args.input.now c.args.at c.in_ok-chunk.field-0 (Chunks c.in-Chunks.body) c.in-Chunks.is c.in_ok-chunk.ensures in
    rw (p.1, p.2) (chunks_fault 2 c.args.input.now c.args.at c.in-Chunks.body c.in_err-bytes-in-Chunks.field-0.0 (inl refl) start.0 start.2 c.in_err-bytes-in-Chunks.ensures.fault)

pub returns-in-Whole-clause-found : goal.returns-in-Whole-clause-found
returns-in-Whole-clause-found c =
    let chunk = c.in-Whole.chunk in
    let start = start_is 2 c.args.input.now c.args.at c.in_ok-chunk.field-0 (Whole chunk) c.in-Whole.is c.in_ok-chunk.ensures in
    let bytes = slice_range c.args.input.now chunk.start chunk.end in
    record {
      extent = definite;
      chunks = bytes ∷ [];
      stands = (start.2, whole_stands 2 c.args.input.now c.args.at chunk start);
      joined = sym (append-nil bytes);
      borrowed = (λ yes. refl, λ same. tt);
    }

pub returns-in_ok-bytes-in-Chunks-clause-found : goal.returns-in_ok-bytes-in-Chunks-clause-found
returns-in_ok-bytes-in-Chunks-clause-found c =
    let start = start_is 2 c.args.input.now c.args.at c.in_ok-chunk.field-0 (Chunks c.in-Chunks.body) c.in-Chunks.is c.in_ok-chunk.ensures in
    let joined = c.in_ok-bytes-in-Chunks.ensures.joined in
    record {
      extent = indefinite;
      chunks = joined.0;
      stands = chunks_stand 2 c.args.input.now c.args.at c.in-Chunks.body c.in_ok-bytes-in-Chunks.end joined.0 start.0 start.2 joined.1;
      joined = joined.2;
      borrowed = (λ never. absurd never, λ same. absurd (cc));
    }
