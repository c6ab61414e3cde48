use Rattle.std.proofs.Common.{◌++◌, ◌∙◌, ap, map}
use Rattle.std.proofs.lemmas.Result.{on_ok_weaker}
use Rattle.smithy_declarations.specs.Value.{scalar_value, whole, values_of}
use Rattle.smithy_cbor_body.specs.Canonical.{element_bytes}
use Rattle.smithy_cbor_body.specs.Lengths.{head_of, begun, end_of}
use Rattle.smithy_cbor_body.proofs.LongLists.{whole_container}
use Rattle.smithy_cbor_body.proofs.whole_numbers.write_whole_numbers.Goals as goal

pub returns : goal.returns
returns c = λ definite site.
    let out = c.args.encoder.now in
    let length = c.args.length in
    let inside = element_bytes definite site (values_of (map (λ n. scalar_value (whole n)) c.args.numbers.now)) in
    on_ok_weaker c.write_end.result
    (λ is. is ∙ ap (λ l. c.write_elements.new.encoder ++ end_of l) c.begun.ensures
    ∙ ap (λ o. o ++ end_of (begun length)) (c.in_ok-write_elements.ensures definite site ∙ ap (λ o. o ++ inside) c.in_ok-begin_array.ensures)
    ∙ whole_container out (head_of 4 length) inside length)
    c.write_end.ensures
