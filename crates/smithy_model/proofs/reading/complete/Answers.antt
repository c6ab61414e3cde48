use Rattle.std.proofs.Common.{map, refl, sym, append-nil}
use Rattle.smithy_model.specs.Views.{shape_view}
use Rattle.smithy_model.proofs.reading.complete.Goals as goal

pub returns-in_ok-add_prelude-in-Smithy-clause-whole :
    goal.returns-in_ok-add_prelude-in-Smithy-clause-whole
returns-in_ok-add_prelude-in-Smithy-clause-whole c = (
  map shape_view c.take_in_mixins.new.shapes.items,
  rw (c.in-Smithy.is) c.in_ok-take_in_mixins-in-Smithy.ensures.mixed,
  rw (c.in_ok-add_prelude-in-Smithy.ensures, c.in-Smithy.is) refl,
)

pub returns-in-Json-clause-whole : goal.returns-in-Json-clause-whole
returns-in-Json-clause-whole c =
    (map shape_view c.args.shapes.now.items, rw (c.in-Json.is) refl, rw (c.in-Json.is) (sym (append-nil (map shape_view c.args.shapes.now.items))))

pub returns-in-Xml-clause-whole : goal.returns-in-Xml-clause-whole
returns-in-Xml-clause-whole c =
    (map shape_view c.args.shapes.now.items, rw (c.in-Xml.is) refl, rw (c.in-Xml.is) (sym (append-nil (map shape_view c.args.shapes.now.items))))

pub returns-in-Ec2-clause-whole : goal.returns-in-Ec2-clause-whole
returns-in-Ec2-clause-whole c =
    (map shape_view c.args.shapes.now.items, rw (c.in-Ec2.is) refl, rw (c.in-Ec2.is) (sym (append-nil (map shape_view c.args.shapes.now.items))))
