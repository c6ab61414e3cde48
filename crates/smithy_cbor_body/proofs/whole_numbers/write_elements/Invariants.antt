use Rattle.std.proofs.Common.{◌≡◌, ◌++◌, drop, map, Bool}
use Rattle.smithy_declarations.specs.Value.{scalar_value, whole, values_of}
use Rattle.smithy_shapes.specs.Site.{Site}
use Rattle.smithy_cbor_body.specs.Canonical.{element_bytes}
use Rattle.smithy_cbor_body.proofs.whole_numbers.write_elements.Given as goal

-- what is written, with the encodings of the rest, is all of them
abbrev pub invariant-loop-number : goal.invariant-loop-number
invariant-loop-number l = record {
  rest : (definite : Bool) (site : Site) → l.fn.encoder ++ element_bytes definite site (values_of (map (λ n. scalar_value (whole n)) l.numbers))
      ≡ l.encoder ++ element_bytes definite site (values_of (map (λ n. scalar_value (whole n)) (drop l.number-index l.numbers)));
}
