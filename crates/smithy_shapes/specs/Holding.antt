-- What may stand in a value of a site.
use Rattle.std.specs.Prelude.{◌||◌, Bool}
use Rattle.smithy_declarations.specs.declared.place.Target.{Target}
use Rattle.smithy_shapes.specs.Site.{Site}
use Rattle.smithy_shapes.specs.Targets.{table_has}

-- a target that passes the test: the site has one, or some place of its table does
abbrev pub may_hold : (Target → Bool) → Site → Bool
may_hold test site = test site.place.target || table_has test site.table
