use Rattle.std.proofs.Common.{[], ◌∷◌, map, codes, append_assoc}
use Rattle.std.proofs.lemmas.List.{map-append}
use Rattle.smithy_model.specs.Model.{structure}
use Rattle.smithy_model.specs.Prelude.{scalar_names, plain, scalar_shape}
use Rattle.smithy_model.specs.Views.{shape_view}
use Rattle.smithy_model.proofs.prelude.add_prelude.Goals as goal

pub returns : goal.returns
returns c =
    rw (c.in_ok-push.ensures.items, map-append shape_view c.add_scalars.new.shapes.items (c.unit.result ∷ []), c.in_ok-add_scalars.ensures, c.unit.ensures)
    (append_assoc (map shape_view c.args.shapes.now.items) (map scalar_shape scalar_names) (plain (codes "smithy.api#Unit") (structure []) ∷ []))
