use Rattle.smithy_schema.proofs.WrittenByHand.{entry_stays}
use Rattle.reader_rows.proofs.numbers.write_entry.Goals as goal

pub returns-clause-nests : goal.returns-clause-nests
returns-clause-nests g c =
    let s = g.S.ShapeSerializer in
    entry_stays s.after s.open_in g.met.S.ShapeSerializer.nested _ _ _ _ (s.state c.args.sink.now) _ _ c.write_long.result c.requires.inside c.in_ok-write_string.ensures.ok c.write_long.ensures.ok
