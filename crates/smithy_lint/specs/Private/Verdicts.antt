-- What is found in a scalar, as private functions answer it.
use Rattle.std.specs.Prelude.{Bool, true, false, Option, Some, None}
use Rattle.smithy_wire.specs.declared.found.Found.{Found}
use Rattle.smithy_wire.specs.declared.found.Found.TheVariants.{Value, Nothing, Beyond}
use Rattle.smithy_lint.specs.declared.finding.Kind.{Kind}
use Rattle.smithy_lint.specs.declared.finding.Kind.TheVariants.{Mismatch}

-- that it is no value of its kind, unless it is one
abbrev pub unless : Bool → Option Kind
unless true = None
unless false = Some Mismatch

-- by what a search answered
abbrev pub finding_of : {A : Type 0} → Found A → Kind → Option Kind
finding_of (Value v) beyond = None
finding_of Nothing beyond = Some Mismatch
finding_of Beyond beyond = Some beyond
