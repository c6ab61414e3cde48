-- What is found in a scalar of CBOR, as a private function answers it.
use Rattle.std.specs.Prelude.{◌≡◌, ℕ, List, Option, None}
use Rattle.smithy_declarations.specs.declared.shape_type.Scalar.{Scalar}
use Rattle.cbor_item.specs.Item.{Item}
use Rattle.smithy_cbor_values.specs.Scalar.{says}
use Rattle.smithy_cbor_values.specs.Standing.{IsScalarAt}
use Rattle.smithy_lint.specs.declared.finding.Kind.{Kind}
use Rattle.smithy_lint.specs.Private.Bodies.{verdict}

-- what is found in the scalar at the place, where one of the kind is due
abbrev pub IsFinding : Scalar → List ℕ → ℕ → ℕ → Option Kind → Type 0
IsFinding s input at depth found = (x : Item) (e : ℕ) → IsScalarAt input depth x at e → found ≡ verdict (says s None x)
