use Rattle.std.proofs.Common.{◌≡◌, map, drop}
use Rattle.smithy_model.specs.Reading.{has_protocol}
use Rattle.smithy_model.specs.Views.{entry_view}
use Rattle.smithy_model.proofs.protocol.has_protocol.Given as goal

abbrev pub invariant-loop-spec : goal.invariant-loop-spec
invariant-loop-spec l = has_protocol l.name (map entry_view (drop l.spec-index l.entries)) ≡ has_protocol l.name (map entry_view l.entries)
