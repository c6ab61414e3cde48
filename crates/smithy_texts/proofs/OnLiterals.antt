-- What an answer unfolds to compute this crate's specs on a literal.
use Rattle.std.specs.Prelude.{⊤}
use Rattle.std.specs.Fmt.{digits}
use Rattle.base64.proofs.OnLiterals.{base64_on_literals}

unfoldable pub smithy_texts_on_literals : ⊤
unfolding digits base64_on_literals
smithy_texts_on_literals = tt
