-- What a body says that is CBOR (the Smithy RPC v2 CBOR protocol of Smithy 2.0, "Operation error serialization").
use Rattle.std.specs.Prelude.{◌≡◌, ◌&&◌, ◌||◌, ℕ, List, [], ◌∷◌, Bool, true, false, Option, Some, None, if◌then◌else◌}
use Rattle.std.specs.List.{concat, list_all}
use Rattle.std.specs.Str.{is_utf8}
use Rattle.cbor_item.specs.Item.{Extent, Item, text_string, map, Pairs, no_pairs, pair}
use Rattle.cbor_item.specs.WellFormed.{IsItemAt}
use Rattle.smithy_error_bodies.specs.Said.{Said, nothing_said, is_type, is_message, first_of}

-- a text string of UTF-8 chunks, which a key has to be
abbrev pub is_key : Item → Bool
is_key (text_string extent chunks) = list_all is_utf8 chunks
is_key _ = false

-- a key is a text that passes a test
abbrev pub is_under : (List ℕ → Bool) → Item → Bool
is_under wanted (text_string extent chunks) = wanted (concat chunks)
is_under wanted _ = false

-- the text that stands under a key, if it is one
abbrev pub text_of : Item → Option (List ℕ)
text_of (text_string extent chunks) = Some (concat chunks)
text_of _ = None

-- what is no text isn't looked at, and a text that is looked at is UTF-8 in each chunk
abbrev pub is_readable : Item → Bool
is_readable (text_string extent chunks) = list_all is_utf8 chunks
is_readable _ = true

abbrev pub is_looked_at : Item → Bool
is_looked_at k = is_under is_type k || is_under is_message k

abbrev pub is_pair : Item → Item → Bool
is_pair k v = is_key k && (if is_looked_at k then is_readable v else true)

abbrev pub are_pairs : Pairs → Bool
are_pairs no_pairs = true
are_pairs (pair k v ps) = is_pair k v && are_pairs ps

-- the last text that the map itself has under the keys of a test
abbrev pub last_under : (List ℕ → Bool) → Pairs → Option (List ℕ)
last_under wanted no_pairs = None
last_under wanted (pair k v ps) = first_of (last_under wanted ps) (if is_under wanted k then text_of v else None)

-- what a map of these keys and values says, if it can be read
abbrev pub map_says : Pairs → Option Said
map_says ps = if are_pairs ps then Some (record { code = last_under is_type ps; message = last_under is_message ps }) else None

-- An empty body says nothing. Another has at its start a map of which this is said; or, where nothing can be read, none of which
-- anything is said.
abbrev pub CborSays : List ℕ → Option Said → Type 0
CborSays [] said = said ≡ Some nothing_said
CborSays (b ∷ body) (Some said) =
    (extent : Extent) × (ps : Pairs) × (end : ℕ) × IsItemAt (map extent ps) (b ∷ body) 0 end × (map_says ps ≡ Some said)
CborSays (b ∷ body) None = (extent : Extent) (ps : Pairs) (end : ℕ) → IsItemAt (map extent ps) (b ∷ body) 0 end → map_says ps ≡ None
