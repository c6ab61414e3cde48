-- What contracts see of a serializer.
use Rattle.std.specs.Prelude.{List, map as mapped, Bool, true, false, Option, Some, None}
use Rattle.smithy_wire.specs.OpenContainers.{opens_of, marks_of as kept_of}
use Rattle.smithy_wire.specs.declared.open_containers.OpenContainers.{OpenContainers}
use Rattle.smithy_query_codec.specs.declared.containers.Restore.{Restore}
use Rattle.smithy_query_codec.specs.declared.serializer.QueryShapeSerializer.{QueryShapeSerializer}
use Rattle.smithy_query_codec.specs.Leaves.{MemberRole, flat_member, member, neither}
use Rattle.smithy_query_codec.specs.Writing.{Mark, QueryState}

abbrev pub mark_of : Restore → Mark
mark_of f = record {
  prefix_length = f.prefix_length;
  count = f.count;
  out_length = f.out_length;
  member_length = f.member_length;
  names_length = f.names_length;
  key_length = f.key_length;
}

abbrev pub marks_of : OpenContainers Restore → List Mark
marks_of containers = mapped mark_of (kept_of containers)

-- what the calls of a serializer of forms depend on
abbrev pub state_of : QueryShapeSerializer → QueryState
state_of s = record {
  out = s.out.items;
  prefix = s.prefix.items;
  names = s.names.items;
  count = s.count;
  opens = opens_of s.containers;
  marks = marks_of s.containers;
}

-- an earlier call was refused, or was `fail`
abbrev pub has_failed : QueryShapeSerializer → Bool
has_failed s = s.containers.failed

-- whose value something is: a member's, by whether the member is flat, or no member's
abbrev pub role_of_flatness : Option Bool → MemberRole
role_of_flatness None = neither
role_of_flatness (Some true) = flat_member
role_of_flatness (Some false) = member
