-- A generated input as a JSON value.
use Rattle.std.specs.Prelude.{ℕ, zero, suc, ◌/◌, ◌%◌, ◌++◌, codes, decimal}
use Rattle.smithy_json_grammar.specs.Tree.{Json, number, string, array, object, Elements, no_elements, element, no_members, member}
use Rattle.smithy_generator.specs.Generated.{number_at}

-- the item that a number gives
abbrev pub item_tree : ℕ → Json
item_tree x =
    object (member (codes "id") (number (decimal (x % 1000)))
    (member (codes "name") (string (codes "n" ++ decimal (x / 1000 % 1000)))
    (member (codes "at") (number (decimal (x / 1000000 % 1000000)))
    (member (codes "tags") (object (member (codes "b") (string (codes "x")) (member (codes "a") (string (decimal (x % 1000 % 10))) no_members))) no_members))))

-- so many items behind the n-th
unfoldable pub items_behind : ℕ → ℕ → ℕ → Elements
items_behind seed n zero = no_elements
items_behind seed n (suc more) = element (item_tree (number_at seed (suc n))) (items_behind seed (suc n) more)

-- the input
abbrev pub generated_tree : ℕ → ℕ → Json
generated_tree seed count = object (member (codes "items") (array (items_behind seed 0 count)) no_members)
