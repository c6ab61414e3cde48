use Rattle.std.proofs.Common.{◌++◌, arith}
use Rattle.std.proofs.lemmas.Grind.{common_steps}
use Rattle.std.proofs.lemmas.Grind.{common_steps}
use Rattle.smithy_outside.proofs.Moved.{gave_more}
use Rattle.smithy_outside.proofs.streams.read_to_end.Goals as goal

pub returns-in_err-read_piece-clause-no_further : goal.returns-in_err-read_piece-clause-no_further
returns-in_err-read_piece-clause-no_further g c =
    let told = g.S.Source.told in
    let piece = c.in_err-read_piece.ensures.piece in (
      c.loop-buffer.bytes.items ++ piece.0,
      gave_more _ _ (told c.args.source.now) (told c.loop-buffer.source) (told c.read_piece.new.source) c.loop-buffer.invariant.gave piece.1,
      grind (arith, common_steps),
    )

pub returns-then-branch-eq0-clause-no_further : goal.returns-then-branch-eq0-clause-no_further
returns-then-branch-eq0-clause-no_further g c =
    let told = g.S.Source.told in
    let piece = c.in_ok-read_piece.ensures.piece in (
      c.loop-buffer.bytes.items ++ piece.0,
      gave_more _ _ (told c.args.source.now) (told c.loop-buffer.source) (told c.read_piece.new.source) c.loop-buffer.invariant.gave piece.1,
      grind (arith, common_steps),
    )

pub returns-then-branch-eq0-clause-within : goal.returns-then-branch-eq0-clause-within
returns-then-branch-eq0-clause-within g c = grind (arith, common_steps)

pub loop-buffer-smaller : goal.loop-buffer-smaller
loop-buffer-smaller g c = grind (arith, common_steps)

pub loop-buffer-preserved : goal.loop-buffer-preserved
loop-buffer-preserved g c = grind (arith, common_steps)
