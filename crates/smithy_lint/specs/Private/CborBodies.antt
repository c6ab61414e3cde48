-- How a body of CBOR holds its nodes.
use Rattle.std.specs.Prelude.{◌≡◌, ◌≤◌, ◌<◌, ◌-◌, ◌^◌, ℕ, length, List, true}
use Rattle.std.proofs.Common.{arith}
use Rattle.cbor_item.specs.Item.{Item}
use Rattle.cbor_item.specs.WellFormed.{IsItemAt}
use Rattle.smithy_cbor_values.specs.Standing.{cbor_frames}
use Rattle.smithy_wire.specs.Frames.{Lies, NodesLie}
use Rattle.smithy_wire.specs.Node.{missing, all_pass, nodes_pass}
use Rattle.smithy_wire.specs.Walking.{mark_of}
use Rattle.smithy_lint.specs.declared.cbor_body.CborBody.{CborBody}
use Rattle.smithy_lint.specs.Private.Bodies.{Holding}

-- nodes lie as they are framed, with nothing missing, and keys are items; what is left of a container is counted in bytes
abbrev pub cbor_holding : List ℕ → Holding Item
cbor_holding input = record {
  value = λ depth x at e. Lies (cbor_frames true) input depth x at e × (all_pass (λ _. true) x ≡ true);
  rest = λ f depth xs at m e.
      (at ≤ length input) × NodesLie (cbor_frames true) f input depth xs at (mark_of m) e × (nodes_pass (λ _. true) xs ≡ true);
  key = λ k at. (e : ℕ) × IsItemAt k input at e;
  left = λ at m. length input - at;
}

-- ---- laws of bodies

pub cbor_whole : (input : List ℕ) (depth at e : ℕ) → (cbor_holding input).value depth missing at e → ⊥
cbor_whole input depth at e (lies, pass) = cc

pub cbor_bounded : (b : CborBody) (at : ℕ) → length b.bytes.now - at < 2 ^ 64
cbor_bounded b at = omega (arith, b.bound)
