-- Whether a wire that numbers the parts of lists and maps has a number for each part of a value.
use Rattle.smithy_declarations.specs.Value.{Value}
use Rattle.smithy_query_codec.specs.Counts.{HasPositions}
use Rattle.smithy_transcode.specs.Wires.{Wire, query}

abbrev pub CanCount : Wire → Value → Type 0
CanCount (query action version) v = HasPositions v
CanCount _ v = Unit {0}
