-- A value that is skipped.
use Rattle.std.specs.Prelude.{ℕ, List}
use Rattle.cbor_item.specs.Item.{Item}
use Rattle.cbor_item.specs.WellFormed.{IsItemAt}
use Rattle.smithy_cbor_values.specs.Standing.{Follows}

-- an item stands there, where a value may end behind it
pub record SkipsTo (input : List ℕ) (at depth e : ℕ) : Type 0 where
  pub found : Item
  pub stands : IsItemAt found input at e
  pub follows : Follows depth input e
