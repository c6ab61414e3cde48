-- The input that a number generates: a JSON text of items, and the text of the table that directs it.
use Rattle.std.specs.Prelude.{ℕ, zero, suc, ◌+◌, ◌*◌, ◌/◌, ◌%◌, ◌^◌, List, [], ◌++◌, codes, decimal}

-- the number behind x
abbrev pub next_number : ℕ → ℕ
next_number x = (x * 6364136223846793005 + 1442695040888963407) % 2 ^ 64

-- the i-th number: the seed is the one before the first
unfoldable pub number_at : ℕ → ℕ → ℕ
number_at seed zero = seed
number_at seed (suc i) = next_number (number_at seed i)

-- the item that a number gives
abbrev pub item_of : ℕ → List ℕ
item_of x =
    codes "{\"id\": " ++ decimal (x % 1000)
    ++ codes ", \"name\":\"n" ++ decimal (x / 1000 % 1000)
    ++ codes "\", \"at\":" ++ decimal (x / 1000000 % 1000000)
    ++ codes ", \"tags\":{\"b\":\"x\",\"a\":\"" ++ decimal (x % 1000 % 10) ++ codes "\"}}"

-- a comma stands before each item but the first
abbrev pub comma_before : ℕ → List ℕ
comma_before zero = []
comma_before (suc earlier) = codes ","

-- the items 1 to n
unfoldable pub items_to : ℕ → ℕ → List ℕ
items_to seed zero = []
items_to seed (suc n) = items_to seed n ++ (comma_before n ++ item_of (number_at seed (suc n)))

-- the input
abbrev pub generated : ℕ → ℕ → List ℕ
generated seed count = codes "{\"items\":[" ++ items_to seed count ++ codes "]}"

-- the table's text; the root is `S`
abbrev pub generated_table : List ℕ
generated_table =
    codes "map Tags string\nstructure Item\nmember id long\nmember name string\nmember at timestamp\nmember tags Tags\nlist Items Item\nstructure S\nmember items Items\n"
