-- The structure AssumedRoleUser, as its type has it.
use Rattle.std.specs.Prelude.{ℕ, List, [], ◌∷◌, option_map, codes, Option}
use Rattle.smithy_declarations.specs.declared.shape_type.ShapeType.TheVariants as types
use Rattle.smithy_declarations.specs.Value.{Value}
use Rattle.smithy_shapes.specs.Site.{Site}
use Rattle.smithy_schema.specs.Fields.{structure_with}
use Rattle.smithy_typed.specs.Places.{HasShape, HaveMember, HaveNoMember, IsScalar}
use Rattle.smithy_typed.specs.Values.{text_value}
use Rattle.smithy_declarations.specs.declared.shape_type.Scalar.TheVariants as scalars
use Rattle.sts_client.specs.declared.assumed_role_user.AssumedRoleUser.{AssumedRoleUser}

abbrev pub assumed_role_user_names : List (List ℕ)
assumed_role_user_names = codes "AssumedRoleId" ∷ codes "Arn" ∷ []

-- such a structure is there, whose members have these names and are at places of these types
abbrev pub IsAssumedRoleUser : Site → Type 0
IsAssumedRoleUser = HasShape types.Structure (HaveMember (codes "AssumedRoleId") (IsScalar scalars.String)
    (HaveMember (codes "Arn") (IsScalar scalars.String)
    HaveNoMember))

-- its members' values by their positions
abbrev pub assumed_role_user_fields : AssumedRoleUser → List (Option Value)
assumed_role_user_fields x = option_map text_value x.assumed_role_id ∷ option_map text_value x.arn ∷ []

abbrev pub assumed_role_user_value : AssumedRoleUser → Value
assumed_role_user_value x = structure_with (assumed_role_user_fields x)
