-- The text of a form: Action, Version and further pairs of a path and a text.
use Rattle.std.specs.Prelude.{ℕ, List, ◌∷◌, ◌++◌, codes}
use Rattle.std.specs.List.{flat_map}
use Rattle.std.specs.Str.{byte}
use Rattle.smithy_query.specs.Percent.{encoded}

-- a further pair of a form: its path as it is, its text percent-encoded
abbrev pub pair_text : List ℕ → List ℕ → List ℕ
pair_text path text = byte "&" ∷ (path ++ byte "=" ∷ encoded text)

-- a form without further pairs
abbrev pub form_head : List ℕ → List ℕ → List ℕ
form_head action version = codes "Action=" ++ (encoded action ++ pair_text (codes "Version") version)

pub record Pair : Type 0 where
  pub path : List ℕ
  pub text : List ℕ

abbrev pub form : List ℕ → List ℕ → List Pair → List ℕ
form action version pairs = form_head action version ++ flat_map (λ (p : Pair). pair_text p.path p.text) pairs
