-- What an answer unfolds to compute this crate's specs on a literal.
use Rattle.std.specs.Prelude.{⊤}
use Rattle.std.specs.Str.{is_utf8, chars}

unfoldable pub smithy_shapes_on_literals : ⊤
unfolding is_utf8 chars lib.Utf8.encode
smithy_shapes_on_literals = tt
