use Rattle.std.proofs.Common.{refl, arith}
use Rattle.smithy_schema.specs.Spans.{IsTextIn}
use Rattle.smithy_tree.proofs.Growing.{part_stays}
use Rattle.smithy_tree.proofs.Seeing.{grows_self}
use Rattle.smithy_value.proofs.placing.place_text.Goals as goal

pub returns-else-size-clause-ok : goal.returns-else-size-clause-ok
returns-else-size-clause-ok c =
    let p = c.args.pool.now in
    let at = c.in-Placed.at in
    let size = c.in-Placed.size in
    let placed : IsTextIn p.input.now at size = rw c.in-Placed.is at c.requires.placed in
    let bytes = part_stays at size p.input.now p.side.items placed.within in
    rw c.in-Placed.is (record {
      grows = grows_self p c.requires.sound;
      waiting = refl;
      span = record {
        part = record {
          within = omega (arith, placed.within);
          apart = λ past. omega (arith, placed.within, past);
        };
        text = rw bytes placed.text;
      };
      bytes = bytes;
    })
