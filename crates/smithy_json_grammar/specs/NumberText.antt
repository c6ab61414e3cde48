-- Whether a text is a number (RFC 8259, section 6), or one of a grammar that allows more, computed.
use Rattle.std.specs.Prelude.{ℕ, ◌==◌, List, length, Bool, false, option_and_then}
use Rattle.std.specs.Option.{option_map_or}
use Rattle.smithy_json_grammar.specs.Private.Numeral.{after_whole, after_frac_and_exp}
use Rattle.smithy_json_grammar.specs.Private.AllowedNumeral.{after_number_of}
use Rattle.smithy_json_grammar.specs.declared.number_grammar.NumberGrammar.{NumberGrammar}

-- behind [ minus ] int [ frac ] [ exp ] nothing is left
abbrev pub is_number : List ℕ → Bool
is_number text =
    option_map_or (λ rest. length rest == 0) (option_and_then after_frac_and_exp (after_whole text)) false

-- the same of a grammar
abbrev pub is_number_of : NumberGrammar → List ℕ → Bool
is_number_of g text = option_map_or (λ rest. length rest == 0) (after_number_of g text) false
