-- What an iterator over members has still to yield.
use Rattle.std.specs.Prelude.{List, drop}
use Rattle.smithy_shapes.specs.declared.members_iter.Members.{Members}
use Rattle.smithy_shapes.specs.Site.{Site, site_of, member_sites}

-- the sites of the members that are left
abbrev pub members_left : Members → List Site
members_left m = drop m.position (member_sites (site_of m.schema))
