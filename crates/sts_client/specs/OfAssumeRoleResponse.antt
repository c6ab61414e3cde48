-- The structure AssumeRoleResponse, as its type has it.
use Rattle.std.specs.Prelude.{ℕ, List, [], ◌∷◌, option_map, codes, Option}
use Rattle.smithy_declarations.specs.declared.shape_type.ShapeType.TheVariants as types
use Rattle.smithy_declarations.specs.Value.{Value}
use Rattle.smithy_shapes.specs.Site.{Site}
use Rattle.smithy_schema.specs.Fields.{structure_with}
use Rattle.smithy_typed.specs.Places.{HasShape, HaveMember, HaveNoMember, IsScalar}
use Rattle.smithy_typed.specs.Values.{text_value, whole_value}
use Rattle.smithy_declarations.specs.declared.shape_type.Scalar.TheVariants as scalars
use Rattle.sts_client.specs.OfAssumedRoleUser.{IsAssumedRoleUser, assumed_role_user_value}
use Rattle.sts_client.specs.OfCredentials.{IsCredentials, credentials_value}
use Rattle.sts_client.specs.declared.assume_role_response.AssumeRoleResponse.{AssumeRoleResponse}

abbrev pub assume_role_response_names : List (List ℕ)
assume_role_response_names = codes "Credentials" ∷ codes "AssumedRoleUser" ∷ codes "PackedPolicySize" ∷ codes "SourceIdentity" ∷ []

-- such a structure is there, whose members have these names and are at places of these types
abbrev pub IsAssumeRoleResponse : Site → Type 0
IsAssumeRoleResponse = HasShape types.Structure (HaveMember (codes "Credentials") IsCredentials
    (HaveMember (codes "AssumedRoleUser") IsAssumedRoleUser
    (HaveMember (codes "PackedPolicySize") (IsScalar scalars.Integer)
    (HaveMember (codes "SourceIdentity") (IsScalar scalars.String)
    HaveNoMember))))

-- its members' values by their positions
abbrev pub assume_role_response_fields : AssumeRoleResponse → List (Option Value)
assume_role_response_fields x = option_map credentials_value x.credentials ∷ option_map assumed_role_user_value x.assumed_role_user ∷ option_map whole_value x.packed_policy_size ∷ option_map text_value x.source_identity ∷ []

abbrev pub assume_role_response_value : AssumeRoleResponse → Value
assume_role_response_value x = structure_with (assume_role_response_fields x)
