-- The structure Credentials, as its type has it.
use Rattle.std.specs.Prelude.{ℕ, List, [], ◌∷◌, option_map, codes, Option}
use Rattle.smithy_declarations.specs.declared.shape_type.ShapeType.TheVariants as types
use Rattle.smithy_declarations.specs.Value.{Value}
use Rattle.smithy_shapes.specs.Site.{Site}
use Rattle.smithy_schema.specs.Fields.{structure_with}
use Rattle.smithy_typed.specs.Places.{HasShape, HaveMember, HaveNoMember, IsScalar}
use Rattle.smithy_typed.specs.Values.{text_value, instant_value}
use Rattle.smithy_declarations.specs.declared.shape_type.Scalar.TheVariants as scalars
use Rattle.sts_client.specs.declared.credentials.Credentials.{Credentials}

abbrev pub credentials_names : List (List ℕ)
credentials_names = codes "AccessKeyId" ∷ codes "SecretAccessKey" ∷ codes "SessionToken" ∷ codes "Expiration" ∷ []

-- such a structure is there, whose members have these names and are at places of these types
abbrev pub IsCredentials : Site → Type 0
IsCredentials = HasShape types.Structure (HaveMember (codes "AccessKeyId") (IsScalar scalars.String)
    (HaveMember (codes "SecretAccessKey") (IsScalar scalars.String)
    (HaveMember (codes "SessionToken") (IsScalar scalars.String)
    (HaveMember (codes "Expiration") (IsScalar scalars.Timestamp)
    HaveNoMember))))

-- its members' values by their positions
abbrev pub credentials_fields : Credentials → List (Option Value)
credentials_fields x = option_map text_value x.access_key_id ∷ option_map text_value x.secret_access_key ∷ option_map text_value x.session_token ∷ option_map instant_value x.expiration ∷ []

abbrev pub credentials_value : Credentials → Value
credentials_value x = structure_with (credentials_fields x)
