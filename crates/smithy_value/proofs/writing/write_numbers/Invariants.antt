use Rattle.std.proofs.Common.{◌≡◌, false, drop}
use Rattle.smithy_shapes.specs.Fits.{ElementsFit}
use Rattle.smithy_shapes.specs.Site.{site_of, kind_at}
use Rattle.smithy_declarations.specs.Value.{list, values_of}
use Rattle.smithy_schema.specs.Writing.{write, run}
use Rattle.smithy_tree.specs.Items.{whole_values}
use Rattle.smithy_schema.proofs.WrittenLists.{list_rest}
use Rattle.smithy_value.proofs.writing.write_numbers.Given as goal

-- what the list adds is what the rest of it adds
abbrev pub invariant-loop-number : goal.invariant-loop-number
invariant-loop-number g l =
    let sink = g.S.ShapeSerializer in
    let site = site_of l.schema in
    let now = whole_values (drop l.number-index l.numbers) in
    record {
      before : sink.failed l.fn.sink ≡ false;
      failed : sink.failed l.sink ≡ false;
      rest : write sink.after site (list (values_of (whole_values l.numbers))) (sink.state l.fn.sink)
          ≡ run sink.after (list_rest site now) (sink.state l.sink);
      fits : ElementsFit site.table (kind_at site) (values_of now);
    }
