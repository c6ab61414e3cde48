-- The names of a member as the program holds it.
use Rattle.std.specs.Prelude.{ℕ, List, option_map, unwrap_or, string_bytes}
use Rattle.smithy_shapes.specs.declared.members.MemberShape.{MemberShape}

abbrev pub member_name : MemberShape → List ℕ
member_name m = string_bytes m.name

-- the one that is given, else the member's own
abbrev pub json_name : MemberShape → List ℕ
json_name m = unwrap_or (option_map string_bytes m.json_name) (string_bytes m.name)
