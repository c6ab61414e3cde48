-- The structure AssumeRoleRequest, as its type has it.
use Rattle.std.specs.Prelude.{ℕ, List, [], ◌∷◌, option_map, codes, Option}
use Rattle.smithy_declarations.specs.declared.shape_type.ShapeType.TheVariants as types
use Rattle.smithy_declarations.specs.Value.{Value}
use Rattle.smithy_shapes.specs.Site.{Site}
use Rattle.smithy_schema.specs.Fields.{structure_with}
use Rattle.smithy_typed.specs.Places.{HasShape, HaveMember, HaveNoMember, IsScalar, IsListOf}
use Rattle.smithy_typed.specs.Values.{text_value, whole_value, list_with}
use Rattle.smithy_declarations.specs.declared.shape_type.Scalar.TheVariants as scalars
use Rattle.sts_client.specs.OfTag.{IsTag, tag_value}
use Rattle.sts_client.specs.declared.assume_role_request.AssumeRoleRequest.{AssumeRoleRequest}

abbrev pub assume_role_request_names : List (List ℕ)
assume_role_request_names = codes "RoleArn" ∷ codes "RoleSessionName" ∷ codes "Policy" ∷ codes "DurationSeconds" ∷ codes "Tags" ∷ []

-- such a structure is there, whose members have these names and are at places of these types
abbrev pub IsAssumeRoleRequest : Site → Type 0
IsAssumeRoleRequest = HasShape types.Structure (HaveMember (codes "RoleArn") (IsScalar scalars.String)
    (HaveMember (codes "RoleSessionName") (IsScalar scalars.String)
    (HaveMember (codes "Policy") (IsScalar scalars.String)
    (HaveMember (codes "DurationSeconds") (IsScalar scalars.Integer)
    (HaveMember (codes "Tags") (IsListOf IsTag)
    HaveNoMember)))))

-- its members' values by their positions
abbrev pub assume_role_request_fields : AssumeRoleRequest → List (Option Value)
assume_role_request_fields x = option_map text_value x.role_arn ∷ option_map text_value x.role_session_name ∷ option_map text_value x.policy ∷ option_map whole_value x.duration_seconds ∷ option_map (list_with tag_value) x.tags ∷ []

abbrev pub assume_role_request_value : AssumeRoleRequest → Value
assume_role_request_value x = structure_with (assume_role_request_fields x)
