use Rattle.std.proofs.Common.{◌≡◌, ◌↔◌, map, drop}
use Rattle.smithy_shapes.specs.Declares.{row_of, row_told}
use Rattle.smithy_shapes.specs.Views.{member_of}
use Rattle.smithy_shapes.proofs.declares.are_members.Given as goal

abbrev pub invariant-loop-name : goal.invariant-loop-name
invariant-loop-name l = record {
  same : (map row_of (map member_of l.left.rest.now) ≡ map row_told (drop l.name-index l.rows)) ↔ (map row_of (map member_of l.members) ≡ map row_told l.rows);
}
