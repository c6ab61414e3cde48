-- The form of a value: Action, Version and its leaves.
use Rattle.std.specs.Prelude.{ℕ, List, ◌∷◌, codes, map as mapped}
use Rattle.std.specs.List.{join_with_byte}
use Rattle.std.specs.Str.{byte}
use Rattle.smithy_shapes.specs.Site.{Site}
use Rattle.smithy_declarations.specs.Value.{Value}
use Rattle.smithy_query.specs.Form.{Pair, form}
use Rattle.smithy_query_codec.specs.Leaves.{Path, Leaf, neither, leaves}

-- the segments, with a point between each two
abbrev pub path_text : Path → List ℕ
path_text path = join_with_byte (byte ".") path

abbrev pub pair_of_leaf : Leaf → Pair
pair_of_leaf l = record { path = path_text l.path; text = l.text }

-- the form of these leaves
abbrev pub leaves_form : List ℕ → List ℕ → List Leaf → List ℕ
leaves_form action version ls = form action version (mapped pair_of_leaf ls)

-- the one form of a value that is no member's
abbrev pub canonical_query : List ℕ → List ℕ → Site → Value → List ℕ
canonical_query action version site v = leaves_form action version (leaves site neither v)

-- the pairs that the form of these leaves is read as
abbrev pub leaves_pairs : List ℕ → List ℕ → List Leaf → List (List ℕ × List ℕ)
leaves_pairs action version ls =
    (codes "Action", action) ∷ (codes "Version", version) ∷ mapped (λ (l : Leaf). (path_text l.path, l.text)) ls
