use Rattle.std.proofs.Common.{◌≡◌, map, drop}
use Rattle.std.specs.List.{list_any}
use Rattle.json.specs.Value.{value_view}
use Rattle.smithy_model.specs.Shapes.{is_text}
use Rattle.smithy_model.proofs.shapes.is_local.Given as goal

abbrev pub invariant-loop-given : goal.invariant-loop-given
invariant-loop-given l = list_any (is_text l.name) (map value_view (drop l.given-index l.names)) ≡ list_any (is_text l.name) (map value_view l.names)
