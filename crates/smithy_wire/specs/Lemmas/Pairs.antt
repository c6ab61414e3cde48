-- The pairs of an object, taken apart.
use Rattle.std.specs.Prelude.{◌≡◌, ℕ, List, ◌∷◌, Option, Some, None, refl}
use Rattle.smithy_types.specs.Document.{Document, with_pair}
use Rattle.smithy_types.specs.declared.number.Number.{Number}
use Rattle.smithy_shapes.specs.Lemmas.Options.{same_some}

-- the pairs begin with this name and this part, and go on with `more`
pub record Paired (name : Option (List ℕ)) (d : Option (Document Number)) (more : Option (List (List ℕ × Document Number))) (pairs : List (List ℕ × Document Number)) : Type 0 where
  pub text : List ℕ
  pub named : name ≡ Some text
  pub part : Document Number
  pub means : d ≡ Some part
  pub rest : List (List ℕ × Document Number)
  pub behind : more ≡ Some rest
  pub whole : (text, part) ∷ rest ≡ pairs

pub pair_apart : (name : Option (List ℕ)) (d : Option (Document Number)) (more : Option (List (List ℕ × Document Number))) (pairs : List (List ℕ × Document Number))
    → with_pair name d more ≡ Some pairs → Paired name d more pairs
pair_apart None d more pairs h = cc
pair_apart (Some text) None more pairs h = cc
pair_apart (Some text) (Some part) None pairs h = cc
pair_apart (Some text) (Some part) (Some rest) pairs h = record {
  text = text;
  named = refl;
  part = part;
  means = refl;
  rest = rest;
  behind = refl;
  whole = same_some ((text, part) ∷ rest) pairs h;
}
