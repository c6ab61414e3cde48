-- How deep an item of CBOR nests.
use Rattle.std.specs.Prelude.{ℕ, suc, max}
use Rattle.cbor_item.specs.Item.{Item, array, map, tag, Items, no_items, item, Pairs, no_pairs, pair}

abbrev mutual
  -- how many arrays, maps and tags stand inside one another (RFC 8949, section 3.1: major types 4, 5 and 6)
  pub item_nesting : Item → ℕ
  item_nesting (array extent is) = suc (items_nesting is)
  item_nesting (map extent ps) = suc (pairs_nesting ps)
  item_nesting (tag n i) = suc (item_nesting i)
  item_nesting _ = 0

  -- the greatest of the items
  pub items_nesting : Items → ℕ
  items_nesting no_items = 0
  items_nesting (item i is) = max (item_nesting i) (items_nesting is)

  -- the greatest of the keys and the values
  pub pairs_nesting : Pairs → ℕ
  pairs_nesting no_pairs = 0
  pairs_nesting (pair k v ps) = max (item_nesting k) (max (item_nesting v) (pairs_nesting ps))
