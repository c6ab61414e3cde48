-- What contracts see of an `EscapedStr`.
use Rattle.std.specs.Prelude.{ℕ, List}
use Rattle.smithy_json_grammar.specs.declared.unescape.EscapedStr.{EscapedStr}

-- the text with its escapes
abbrev pub escaped_text : EscapedStr → List ℕ
escaped_text s = s.value.now
