-- The texts at paths, among leaves in any order.
use Rattle.std.specs.Prelude.{◌≡◌, ℕ, List, [], ◌∷◌, ◌++◌, Option, Some, None, if◌then◌else◌, bytes_eq}
use Rattle.smithy_query_codec.specs.Leaves.{Path, Leaf}

-- the leaf without its first segment, where this is it
abbrev pub behind : List ℕ → Path → List ℕ → List Leaf
behind s [] text = []
behind s (t ∷ path) text = if bytes_eq s t then record { path = path; text = text } ∷ [] else []

-- the leaves that begin with a segment, each without it
abbrev pub inside : List ℕ → List Leaf → List Leaf
inside s [] = []
inside s (l ∷ ls) = behind s l.path l.text ++ inside s ls

-- a text without a path, or else what comes after it
abbrev pub text_or : Path → List ℕ → Option (List ℕ) → Option (List ℕ)
text_or [] text more = Some text
text_or (t ∷ path) text more = more

-- the text of the first leaf without a path
abbrev pub text_here : List Leaf → Option (List ℕ)
text_here [] = None
text_here (l ∷ ls) = text_or l.path l.text (text_here ls)

-- the text of the first leaf at a path
abbrev pub text_at : Path → List Leaf → Option (List ℕ)
text_at [] ls = text_here ls
text_at (s ∷ path) ls = text_at path (inside s ls)

-- two lists of leaves are one finite map from paths to texts
abbrev pub AreSame : List Leaf → List Leaf → Type 0
AreSame ls ms = (path : Path) → text_at path ls ≡ text_at path ms

-- the leaf, where its first segment is another one, or it has none
abbrev pub beside : List ℕ → Path → List ℕ → List Leaf
beside s [] text = record { path = []; text = text } ∷ []
beside s (t ∷ path) text = if bytes_eq s t then [] else record { path = t ∷ path; text = text } ∷ []

-- the leaves that don't begin with a segment
abbrev pub outside : List ℕ → List Leaf → List Leaf
outside s [] = []
outside s (l ∷ ls) = beside s l.path l.text ++ outside s ls
