use Rattle.std.proofs.Common.{◌≡◌, ◌∙◌, length, sym, ap, rules}
use Rattle.std.specs.Vec.{vec_len}
use Rattle.smithy_commands.proofs.GenLemmas.{same_bytes}
use Rattle.smithy_commands.proofs.commands.generate.lengths_of.Goals as goal

pub body_in-requires-2-clause-fit : goal.body_in-requires-2-clause-fit
body_in-requires-2-clause-fit c =
    let e = c.requires.expressible in
    let told = c.in_ok-in_cbor.ensures.body e.0 e.1 in
    (e.0, rw c.deref.ensures.value told.1.0, e.3)

pub returns-clause-lengths : goal.returns-clause-lengths
returns-clause-lengths c =
    let e = c.requires.expressible in
    let in_cbor = c.in_ok-in_cbor.ensures.body e.0 e.1 in
    let by_cbor = c.in_ok-by_cbor.ensures.body e.0 (rw c.deref.ensures.value in_cbor.1.0) in
    let in_json = c.in_ok-in_json.ensures.body e.0 e.1 in
    let same : c.in_ok-by_cbor.by_cbor.items ≡ c.in_ok-in_json.in_json.items = by_cbor.0 ∙ sym in_json.0 in
    let cbor_size : vec_len c.in_ok-in_cbor.in_cbor ≡ length c.in_ok-in_cbor.in_cbor.items = search rules in
    let json_size : vec_len c.in_ok-in_json.in_json ≡ length c.in_ok-in_json.in_json.items = search rules in (
      (e.0, e.1, c.len.ensures ∙ (cbor_size ∙ ap length in_cbor.0), c.len-2.ensures ∙ (json_size ∙ ap length in_json.0)),
      c.eq.ensures ∙ same_bytes c.in_ok-by_cbor.by_cbor.items c.in_ok-in_json.in_json.items same,
    )
