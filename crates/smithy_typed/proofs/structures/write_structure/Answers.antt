use Rattle.smithy_typed.proofs.Made.{whole_written}
use Rattle.smithy_typed.proofs.structures.write_structure.Goals as goal

pub returns : goal.returns
returns g c =
    let s = g.S.ShapeSerializer in
    record { writes = whole_written s.after s.open_in _ _ _ _ _ c.write_root.result c.requires.sound c.write_root.ensures }
