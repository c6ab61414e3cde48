-- The table that directs generated inputs, and the value of such an input.
use Rattle.std.specs.Prelude.{ℕ, zero, suc, ◌*◌, ◌/◌, ◌%◌, List, [], ◌∷◌, ◌++◌, false, None, codes, decimal, pos}
use Rattle.smithy_declarations.specs.declared.place.Place.{Place}
use Rattle.smithy_declarations.specs.declared.shape_type.Scalar.TheVariants.{Long, String, Timestamp}
use Rattle.smithy_declarations.specs.Table as shapes
use Rattle.smithy_declarations.specs.Table.{Table, Member, ListShape, MapShape, scalar_place, shape_place}
use Rattle.smithy_declarations.specs.Value.{whole, text, instant, Value, scalar_value, list, map, structure, values_of, map_entry, no_map_entries, member_value, no_member_values}
use Rattle.smithy_instants.specs.Instant.{nanos_per_second}
use Rattle.smithy_generator.specs.Generated.{number_at}

abbrev plain_member : List ℕ → Place → Member
plain_member name place = record { name = name; json_name = None; xml_name = None; is_flat = false; place = place }

-- map Tags string, structure Item, list Items Item, structure S
abbrev pub generated_shapes : Table
generated_shapes =
    record {
      name = codes "Tags";
      shape = shapes.map (record { place = scalar_place String None; is_sparse = false; key_name = None; value_name = None });
    }
    ∷ record {
      name = codes "Item";
      shape = shapes.structure (plain_member (codes "id") (scalar_place Long None)
          ∷ plain_member (codes "name") (scalar_place String None)
          ∷ plain_member (codes "at") (scalar_place Timestamp None)
          ∷ plain_member (codes "tags") (shape_place 0) ∷ []);
    }
    ∷ record {
      name = codes "Items";
      shape = shapes.list (record { place = shape_place 1; is_sparse = false; xml_name = None });
    }
    ∷ record { name = codes "S"; shape = shapes.structure (plain_member (codes "items") (shape_place 2) ∷ []) }
    ∷ []

-- the number of the root
abbrev pub generated_root : ℕ
generated_root = 3

-- the value of the item that a number gives
abbrev pub item_value : ℕ → Value
item_value x =
    structure (member_value 0 (scalar_value (whole (pos (x % 1000))))
    (member_value 1 (scalar_value (text (codes "n" ++ decimal (x / 1000 % 1000))))
    (member_value 2 (scalar_value (instant (pos (x / 1000000 % 1000000 * nanos_per_second))))
    (member_value 3 (map (map_entry (codes "a") (scalar_value (text (decimal (x % 1000 % 10))))
    (map_entry (codes "b") (scalar_value (text (codes "x"))) no_map_entries))) no_member_values))))

-- the values of so many items behind the n-th
unfoldable pub item_values : ℕ → ℕ → ℕ → List Value
item_values seed n zero = []
item_values seed n (suc more) = item_value (number_at seed (suc n)) ∷ item_values seed (suc n) more

-- the value of an input
abbrev pub generated_value : ℕ → ℕ → Value
generated_value seed count =
    structure (member_value 0 (list (values_of (item_values seed 0 count))) no_member_values)
