-- The size of a container that a reader tells before it is read.
use Rattle.std.specs.Prelude.{◌≡◌, ℕ, List, Option, None, true, false}
use Rattle.smithy_schema.specs.Reading.{Cursor}

-- the greatest number of elements for which room is made before any was read
abbrev pub greatest_room : ℕ
greatest_room = 10000

-- Of an input and a position: how many elements or entries the wire tells of the container that begins there, or none.
abbrev pub Sizes : Type 1
Sizes = List ℕ → ℕ → Option ℕ → Type 0

-- The reader tells the size where a value is due, and else none.
pub record TellsSize (sizes : Sizes) (c : Cursor) (size : Option ℕ) : Type 0 where
  pub told : c.due ≡ true → c.failed ≡ false → sizes c.input c.at size
  pub undue : c.due ≡ false → size ≡ None
  pub failed : c.failed ≡ true → size ≡ None
