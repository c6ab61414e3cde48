use Rattle.std.proofs.Common.{◌≡◌, true, false, Some, sym, ap, subst, ◌∙◌}
use Rattle.cbor_item.specs.Item.{byte_string}
use Rattle.smithy_cbor_values.specs.Standing.{Follows}
use Rattle.smithy_cbor_values.proofs.TextLemmas.{no_blob_at, same_blob_end}
use Rattle.smithy_cbor_values.proofs.values.bytes_piece_at.Goals as goal

pub returns-then-not-may_end-clause-found : goal.returns-then-not-may_end-clause-found
returns-then-not-may_end-clause-found c = λ blob e h.
    let found = c.in-Ok.ensures.found in
    let same = same_blob_end c.args.input.now c.args.at blob (byte_string found.extent found.chunks) c.args.depth e _ h found.stands in
    let may : c.may_end.result ≡ true = c.may_end.ensures.1 (subst (Follows c.args.depth c.args.input.now) same h.follows) in
    let both : true ≡ false = sym may ∙ c.if-not-may_end.true in cc

pub returns-else-not-may_end-clause-found : goal.returns-else-not-may_end-clause-found
returns-else-not-may_end-clause-found c =
    let found = c.in-Ok.ensures.found in
    record {
      found = byte_string found.extent found.chunks;
      stands = found.stands;
      is = ap Some (sym found.joined);
      bytes = c.cow_holds_bytes.ensures;
      follows = c.may_end.ensures.0 c.if-not-may_end.false;
    }

pub returns-in_default-clause-found : goal.returns-in_default-clause-found
returns-in_default-clause-found c = λ blob e. no_blob_at c.args.input.now c.args.at c.in-Err.error c.in_default.not-NoMemory c.in-Err.ensures.fault blob c.args.depth e
