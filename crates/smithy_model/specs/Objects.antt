-- Looking into JSON values. Names of equal members don't come: a text that has a name twice in an object is refused.
use Rattle.std.specs.Prelude.{ℕ, List, [], ◌∷◌, ◌&&◌, Bool, false, Option, option_map, option_and_then, is_some, is_none, unwrap_or, codes, bytes_eq}
use Rattle.std.specs.Option.{option_map_or}
use Rattle.json.specs.Json.{Json, Items, no_items, item, Members, no_members, member}
use Rattle.json.specs.Find.{get, as_str, as_bool, as_array, as_object}

-- a member of an object: its name and its value
abbrev pub Entry : Type 0
Entry = List ℕ × Json

-- the members of an object, in order
abbrev pub entries_of : Members → List Entry
entries_of no_members = []
entries_of (member name value rest) = (name, value) ∷ entries_of rest

-- the items of an array, in order
abbrev pub items_of : Items → List Json
items_of no_items = []
items_of (item value rest) = value ∷ items_of rest

-- the members of a value that is an object
abbrev pub entries : Json → Option (List Entry)
entries value = option_map entries_of (as_object value)

-- the items of a value that is an array
abbrev pub items : Json → Option (List Json)
items value = option_map items_of (as_array value)

-- the member of this name, where it is a text
abbrev pub text_in : List ℕ → Json → Option (List ℕ)
text_in name spec = option_and_then as_str (get name spec)

-- the member of this name is this text
abbrev pub has_text : List ℕ → List ℕ → Json → Bool
has_text name wanted spec = option_map_or (λ given. bytes_eq given wanted) (text_in name spec) false

-- there is a member of this name
abbrev pub is_there : List ℕ → Json → Bool
is_there name spec = is_some (get name spec)

-- the member of this name is `true`
abbrev pub is_set : List ℕ → Json → Bool
is_set name spec = unwrap_or (option_and_then as_bool (get name spec)) false

-- the members of the member of this name, where it is an object
abbrev pub entries_in : List ℕ → Json → Option (List Entry)
entries_in name spec = option_and_then entries (get name spec)

-- the items of the member of this name, where it is an array
abbrev pub items_in : List ℕ → Json → Option (List Json)
items_in name spec = option_and_then items (get name spec)

-- there is a member of this name, and it is no object
abbrev pub is_no_object : List ℕ → Json → Bool
is_no_object name spec = is_there name spec && is_none (entries_in name spec)

-- there is one, and it is no array
abbrev pub is_no_array : List ℕ → Json → Bool
is_no_array name spec = is_there name spec && is_none (items_in name spec)

-- the text of a trait, and whether one is given (Smithy 2.0, "JSON AST", "Shapes": the member `traits`)
abbrev pub trait_text : List ℕ → Json → Option (List ℕ)
trait_text name spec = option_and_then (text_in name) (get (codes "traits") spec)

abbrev pub has_trait : List ℕ → Json → Bool
has_trait name spec = is_some (option_and_then (get name) (get (codes "traits") spec))

-- the text under `key` in the member of this name
abbrev pub inner_text : List ℕ → List ℕ → Json → Option (List ℕ)
inner_text name key spec = option_and_then (text_in key) (get name spec)
