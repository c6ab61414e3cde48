use Rattle.std.proofs.Common.{◌≡◌, ◌++◌, ◌∙◌, ◌+◌, ℤ, List, map, drop, get_or, pos, to_z, of_z, refl, sym, ap, append_assoc, rules}
use Rattle.std.specs.Int.{w64}
use Rattle.std.proofs.lemmas.List.{append-nil, drop_all}
use Rattle.smithy_declarations.specs.Value.{Value, scalar_value, whole, values_of}
use Rattle.smithy_schema.proofs.WrittenLists.{next_number}
use Rattle.smithy_cbor.specs.Written.{big_integer_bytes}
use Rattle.smithy_cbor_body.specs.Canonical.{element_bytes}
use Rattle.smithy_cbor_body.proofs.whole_numbers.write_elements.Goals as goal

pub loop-number-init : goal.loop-number-init
loop-number-init c = record { rest = λ definite site. refl }

pub loop-number-preserved : goal.loop-number-preserved
loop-number-preserved c =
    let ns = c.args.numbers.now in
    let i = c.loop-number.number-index in
    let n = get_or ns i (pos 0) in
    let number : to_z w64 (of_z w64 n) ≡ n = search rules in
    let next = next_number (λ n. scalar_value (whole n)) ns i (pos 0) c.loop-number-test.true in
    let out = c.loop-number.encoder in
    record {
      rest = λ definite site.
          let more = element_bytes definite site (values_of (map (λ n. scalar_value (whole n)) (drop (i + 1) ns))) in
          c.loop-number.invariant.rest definite site
          ∙ ap (λ (vs : List Value). out ++ element_bytes definite site (values_of vs)) next
          ∙ sym (append_assoc out (big_integer_bytes n) more)
          ∙ ap (λ (z : ℤ). (out ++ big_integer_bytes z) ++ more) (sym number)
          ∙ ap (λ o. o ++ more) (sym c.in_ok-write_whole_number.ensures);
    }

pub returns : goal.returns
returns c =
    let ns = c.args.numbers.now in
    let over = drop_all c.loop-number.number-index ns c.loop-number-test.false in
    λ definite site.
    let rest = ap (λ (ms : List ℤ). c.loop-number.encoder ++ element_bytes definite site (values_of (map (λ n. scalar_value (whole n)) ms))) over in
    sym (c.loop-number.invariant.rest definite site ∙ rest ∙ append-nil c.loop-number.encoder)
