-- The structure Tag, as its type has it.
use Rattle.std.specs.Prelude.{ℕ, List, [], ◌∷◌, option_map, codes, Option}
use Rattle.smithy_declarations.specs.declared.shape_type.ShapeType.TheVariants as types
use Rattle.smithy_declarations.specs.Value.{Value}
use Rattle.smithy_shapes.specs.Site.{Site}
use Rattle.smithy_schema.specs.Fields.{structure_with}
use Rattle.smithy_typed.specs.Places.{HasShape, HaveMember, HaveNoMember, IsScalar}
use Rattle.smithy_typed.specs.Values.{text_value}
use Rattle.smithy_declarations.specs.declared.shape_type.Scalar.TheVariants as scalars
use Rattle.sts_client.specs.declared.tag.Tag.{Tag}

abbrev pub tag_names : List (List ℕ)
tag_names = codes "Key" ∷ codes "Value" ∷ []

-- such a structure is there, whose members have these names and are at places of these types
abbrev pub IsTag : Site → Type 0
IsTag = HasShape types.Structure (HaveMember (codes "Key") (IsScalar scalars.String)
    (HaveMember (codes "Value") (IsScalar scalars.String)
    HaveNoMember))

-- its members' values by their positions
abbrev pub tag_fields : Tag → List (Option Value)
tag_fields x = option_map text_value x.key ∷ option_map text_value x.value ∷ []

abbrev pub tag_value : Tag → Value
tag_value x = structure_with (tag_fields x)
