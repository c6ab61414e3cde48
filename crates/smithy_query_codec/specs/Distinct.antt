-- That no two leaves have one path.
use Rattle.std.specs.Prelude.{◌≢◌, List}
use Rattle.std.specs.List.{AllPairs}
use Rattle.smithy_query_codec.specs.Leaves.{Leaf}
use Rattle.smithy_query_codec.specs.Canonical.{path_text}

abbrev pub HaveDistinctPaths : List Leaf → Type 0
HaveDistinctPaths leaves = AllPairs (λ (l m : Leaf). l.path ≢ m.path) leaves

-- no two leaves have one path as paths are written
abbrev pub HaveDistinctTexts : List Leaf → Type 0
HaveDistinctTexts leaves = AllPairs (λ (l m : Leaf). path_text l.path ≢ path_text m.path) leaves
