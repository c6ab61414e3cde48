-- How many entries a container has, by the tokens from its first one on.
use Rattle.std.specs.Prelude.{◌≡◌, ℕ, zero, suc, List, [], ◌∷◌, Option, Some, None, option_map}
use Rattle.smithy_json_tokens.specs.Tokens.{JsonToken, start_array, end_array, start_object, end_object, object_key}
use Rattle.smithy_json_tokens.specs.TokenRules.{Cursor}
use Rattle.smithy_json_tokens.specs.TokenRuns.{start, Leads}
use Rattle.smithy_json_tokens.specs.declared.counting.Part.{Part}
use Rattle.smithy_json_tokens.specs.declared.counting.Part.TheVariants.{Begins, Ends, Names, Stands}

-- what a token is: it begins a container, ends one, names a member, or is a value without parts
abbrev pub part_of : JsonToken → Part
part_of start_array = Begins
part_of start_object = Begins
part_of end_array = Ends
part_of end_object = Ends
part_of (object_key key) = Names
part_of _ = Stands

-- one more, where no further container is open
abbrev pub counted : ℕ → Option ℕ → Option ℕ
counted zero n = option_map suc n
counted (suc within) n = n

-- by one token, and by the number of values from the next on, for however many further containers are open then
abbrev pub values_by : Part → ℕ → (ℕ → Option ℕ) → Option ℕ
values_by Begins within rest = counted within (rest (suc within))
values_by Ends zero rest = Some 0
values_by Ends (suc within) rest = rest within
values_by Names within rest = rest within
values_by Stands within rest = counted within (rest within)

-- In a container, so many further ones deep: how many values begin in itself before the token that ends it, which has to come. An
-- object has as many members.
abbrev pub values_inside : ℕ → List JsonToken → Option ℕ
values_inside within [] = None
values_inside within (t ∷ ts) = values_by (part_of t) within (λ more. values_inside more ts)

abbrev pub size_by : Part → Option ℕ → Option ℕ
size_by Begins size = size
size_by _ size = None

-- the number of elements or members of the container that the first token begins
abbrev pub size_of : List JsonToken → Option ℕ
size_of [] = None
size_of (t ∷ ts) = size_by (part_of t) (values_inside 0 ts)

-- such a number of the tokens that calls from c give, or none of whichever they give
abbrev pub Tells : (List JsonToken → Option ℕ) → Cursor → Option ℕ → Type 0
Tells size c (Some n) = (ts : List JsonToken) × (d : Cursor) × Leads c ts d × (size ts ≡ Some n)
Tells size c None = (ts : List JsonToken) (d : Cursor) → Leads c ts d → size ts ≡ None

-- The input begins with a container of so many elements or members, by the tokens that an iterator gives from its first byte on; or
-- with none that ends.
abbrev pub HasSize : List ℕ → Option ℕ → Type 0
HasSize input = Tells size_of (start input)
