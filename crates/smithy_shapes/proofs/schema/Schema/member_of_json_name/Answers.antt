use Rattle.std.proofs.Common.{Some, None, ap}
use Rattle.std.specs.Option.{option_map}
use Rattle.smithy_declarations.specs.Table.{members_of, json_name_of}
use Rattle.smithy_shapes.specs.Site.{site_of, kind_at}
use Rattle.smithy_shapes.specs.Views.{member_of}
use Rattle.smithy_declarations.proofs.Positions.{position-seen}
use Rattle.smithy_shapes.proofs.schema.Schema.member_of_json_name.Goals as goal

pub returns-in_err-position : goal.returns-in_err-position
returns-in_err-position c =
    rw (position-seen member_of json_name_of c.in_ok-members.members.now.items.items (members_of (kind_at (site_of c.args.self.now))) c.args.name.now None c.in_ok-members.ensures.members c.in_err-position.ensures)
    (ap (option_map site_of) c.from_residual-in_err-position.ensures)

pub returns : goal.returns
returns c =
    rw (position-seen member_of json_name_of c.in_ok-members.members.now.items.items (members_of (kind_at (site_of c.args.self.now))) c.args.name.now (Some c.in_ok-position.position) c.in_ok-members.ensures.members c.in_ok-position.ensures)
    c.member_among.ensures
