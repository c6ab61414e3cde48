use Rattle.std.proofs.Common.{refl, map, rules}
use Rattle.smithy_declarations.specs.Table.{structure, union, shape_place, shape_declared}
use Rattle.smithy_shapes.specs.Views.{member_of}
use Rattle.smithy_shapes.proofs.Closed.{few_if_declared, members_known, declared_members}
use Rattle.smithy_shapes.proofs.shapes.Shapes.members_at.Goals as goal

pub returns-in-Some-Structure : goal.returns-in-Some-Structure
returns-in-Some-Structure c =
    let items = c.in-Some-Structure.members.items.items in
    let found = rw c.in-Some-Structure.field-0-is at c.in-Some-Structure.ensures.found in
    record {
      few = few_if_declared member_of items (structure (map member_of items)) (shape_declared c.args.self.now c.args.at.0) 65535 refl found
          (c.shape_at.ensures.accepted.members_are_accepted (shape_place c.args.at.0)).are_few;
      members = search rules;
      known = members_known member_of c.args.self.now c.args.at.0 items c.shape_at.ensures.accepted.is_closed
          (declared_members (structure (map member_of items)) c.args.self.now c.args.at.0 found);
    }

pub returns-in-Some-Union : goal.returns-in-Some-Union
returns-in-Some-Union c =
    let items = c.in-Some-Union.members.items.items in
    let found = rw c.in-Some-Union.field-0-is at c.in-Some-Union.ensures.found in
    record {
      few = few_if_declared member_of items (union (map member_of items)) (shape_declared c.args.self.now c.args.at.0) 65535 refl found
          (c.shape_at.ensures.accepted.members_are_accepted (shape_place c.args.at.0)).are_few;
      members = search rules;
      known = members_known member_of c.args.self.now c.args.at.0 items c.shape_at.ensures.accepted.is_closed
          (declared_members (union (map member_of items)) c.args.self.now c.args.at.0 found);
    }
