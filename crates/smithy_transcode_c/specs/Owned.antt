-- What a table that C keeps owns.
use base.Fml.{Fml, ftrue}
use denote.RawPtr.{Ptr}
use Rattle.std.specs.Prelude.{Option, Some, None}
use Rattle.std.specs.Box.Ownership.{box_owns}
use Rattle.std.specs.Global.{Global}
use Rattle.std_heap.specs.contracts.GlobalAllocator.TheImpl.{ghosts}
use Rattle.smithy_transcode_c.specs.contracts.kept.Kept.{the_row}

-- the same as a `Box<Kept>`
abbrev pub handle_owns : Global → Ptr → the_row.Denot → Fml
handle_owns alloc = box_owns (ghosts.dealloc_token alloc) the_row

-- what a handle owns, where there is a table
abbrev pub place_owns : Global → Ptr → Option the_row.Denot → Fml
place_owns alloc p (Some kept) = handle_owns alloc p kept
place_owns alloc p None = ftrue
