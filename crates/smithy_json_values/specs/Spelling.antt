-- Which whole inputs spell which values.
use Rattle.std.specs.Prelude.{◌≡◌, ◌⊎◌, ℕ, List, Some}
use Rattle.smithy_declarations.specs.declared.place.Place.{Place}
use Rattle.smithy_declarations.specs.Table.{Table}
use Rattle.smithy_declarations.specs.Value.{Value}
use Rattle.smithy_json_grammar.specs.Tree.{Json}
use Rattle.smithy_json_grammar.specs.Grammar.{IsJsonText}
use Rattle.smithy_json_values.specs.Settings.{Settings}
use Rattle.smithy_json_values.specs.Meaning.{json_meaning}
use Rattle.smithy_wire.specs.Inputs.{IsEmptySpelling}

-- the bytes are a JSON text of a tree that means the value at the place, or are empty and spell it
abbrev pub json_spells : Settings → Table → Place → List ℕ → Value → Type 0
json_spells c table place bytes v =
    ((x : Json) × IsJsonText x bytes × (json_meaning c table place 0 x ≡ Some v))
    ⊎ IsEmptySpelling c.limits c.max_depth table place bytes v
