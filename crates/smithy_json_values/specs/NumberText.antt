-- Where the text of a big number lies, which a read of one keeps.
use Rattle.std.specs.Prelude.{◌≡◌, ℕ, List, Some}
use Rattle.smithy_declarations.specs.declared.shape_type.Scalar.{Scalar}
use Rattle.smithy_json_values.specs.Scalar.{JsonScalar, number_text}
use Rattle.smithy_json_values.specs.LexicalGrammar.{LexicalGrammar, LiesInGrammar}

-- from the place to e lies a number whose bytes are this text, or a string that writes it
pub record NumberTextLies (g : LexicalGrammar) (s : Scalar) (input : List ℕ) (at : ℕ) (text : List ℕ) (e : ℕ) : Type 0 where
  pub found : JsonScalar
  pub lies : LiesInGrammar g s found input at e
  pub is : number_text found ≡ Some text
