-- Names, numbers and instants as they stand in JSON.
use Rattle.std.specs.Prelude.{ℕ, List, [], ◌∷◌, ◌++◌}
use Rattle.std.specs.Fmt.{decimal, signed_decimal}
use Rattle.smithy_json_grammar.specs.Ascii.{name_separator}
use Rattle.smithy_json.specs.Escape.{quoted}
use Rattle.smithy_types.specs.declared.number.Number.{Number}
use Rattle.smithy_types.specs.declared.number.Number.TheVariants.{PosInt, NegInt}
use Rattle.smithy_instants.specs.declared.format.Format.{Format}
use Rattle.smithy_instants.specs.declared.format.Format.TheVariants.{DateTime, DateTimeWithOffset, HttpDate, EpochSeconds}

-- what stands before a member's value: its name and a colon
abbrev pub name_text : List ℕ → List ℕ
name_text name = quoted name ++ name_separator ∷ []

-- a whole number in decimal
abbrev pub number_text : Number → List ℕ
number_text (PosInt n) = decimal n
number_text (NegInt z) = signed_decimal z

-- the text of an instant of this form: a number where it counts seconds, else a string
abbrev pub instant_text : Format → List ℕ → List ℕ
instant_text EpochSeconds text = text
instant_text DateTime text = quoted text
instant_text DateTimeWithOffset text = quoted text
instant_text HttpDate text = quoted text
