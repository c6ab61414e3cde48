use Rattle.std.proofs.Common.{arith}
use Rattle.smithy_shapes.specs.Site.{site_of}
use Rattle.smithy_schema.proofs.WrittenLists as lists
use Rattle.smithy_tree.specs.Items.{whole_value, whole_values}
use Rattle.smithy_transcode.proofs.Children.{numbers_answer}
use Rattle.smithy_transcode.proofs.value_test.numbers_pass.Goals as goal

pub returns : goal.returns
returns c =
    let told = lists.told whole_value c.args.numbers.now in
    let counted = lists.count-elements (whole_values c.args.numbers.now) in
    numbers_answer c.args.test.now (site_of c.args.schema.now) c.args.numbers.now (omega (arith, told, counted, c.count-count.ensures, c.count-count.type_inv))
