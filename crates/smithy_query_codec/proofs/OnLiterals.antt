-- What an answer unfolds to compute this crate's specs on a literal.
use Rattle.std.specs.Prelude.{⊤}
use Rattle.smithy_texts.proofs.OnLiterals.{smithy_texts_on_literals}
use Rattle.smithy_query.proofs.OnLiterals.{smithy_query_on_literals}

unfoldable pub smithy_query_codec_on_literals : ⊤
unfolding smithy_query_on_literals smithy_texts_on_literals
smithy_query_codec_on_literals = tt
