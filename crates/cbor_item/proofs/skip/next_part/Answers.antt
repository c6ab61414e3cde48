-- A break decides what comes next, where one may come.
use Rattle.std.proofs.Common.{refl}
use Rattle.cbor_item.specs.declared.skip.Due.TheVariants.{ItemsUntilBreak, PairsUntilBreak, ValueUntilBreak, ChunksUntilBreak}
use Rattle.cbor_item.specs.declared.skip.Part.TheVariants.{Item, Chunk}
use Rattle.cbor_item.proofs.SkipSteps.{next_unless_break}
use Rattle.cbor_item.proofs.skip.next_part.Goals as goal

pub returns-in-ItemsUntilBreak-clause-next : goal.returns-in-ItemsUntilBreak-clause-next
returns-in-ItemsUntilBreak-clause-next c due =
    rw (c.in-ItemsUntilBreak.is, c.unless_break.ensures.next)
    (next_unless_break ItemsUntilBreak due c.args.input.now c.args.at (Item ItemsUntilBreak) refl)

pub returns-in-PairsUntilBreak-clause-next : goal.returns-in-PairsUntilBreak-clause-next
returns-in-PairsUntilBreak-clause-next c due =
    rw (c.in-PairsUntilBreak.is, c.unless_break-in-PairsUntilBreak.ensures.next)
    (next_unless_break PairsUntilBreak due c.args.input.now c.args.at (Item ValueUntilBreak) refl)

pub returns-in-ChunksUntilBreak-clause-next : goal.returns-in-ChunksUntilBreak-clause-next
returns-in-ChunksUntilBreak-clause-next c due =
    rw (c.in-ChunksUntilBreak.is, c.unless_break-in-ChunksUntilBreak.ensures.next)
    (next_unless_break (ChunksUntilBreak c.in-ChunksUntilBreak.major) due c.args.input.now c.args.at (Chunk c.in-ChunksUntilBreak.major) refl)
