-- Which bytes hold the text of a big number that leaves the limits of its kind.
use Rattle.std.specs.Prelude.{◌≡◌, ◌⊎◌, ℕ, List, Some}
use Rattle.smithy_declarations.specs.declared.shape_type.Scalar.{Scalar}
use Rattle.smithy_json_grammar.specs.Unescape.{unescaped}
use Rattle.smithy_json_values.specs.Scalar.{big_number}
use Rattle.smithy_wire.specs.Inputs.{HasSlice}
use Rattle.smithy_wire.specs.Rules.{wide}

-- some slice of the bytes is, as it stands or unescaped, the text of a big number that leaves the limits of the kind
abbrev pub IsWideJson : Scalar → List ℕ → Type 0
IsWideJson s bytes =
    HasSlice (λ slice. (text : List ℕ) × ((text ≡ slice) ⊎ (unescaped slice ≡ Some text)) × (big_number s text ≡ wide)) bytes
