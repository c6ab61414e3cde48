-- Members at whose places something stands.
use Rattle.std.specs.Prelude.{◌≡◌, ◌≢◌, ◌≤◌, ℕ, List, [], length, map, Option, Some, IfSome}
use Rattle.std.specs.List.{slice_get}
use Rattle.std.specs.Option.{option_map_or}
use Rattle.std.specs.Borrow.{Bor}
use Rattle.smithy_shapes.specs.declared.members.MemberShape.{MemberShape}
use Rattle.smithy_shapes.specs.declared.members.MemberList.{MemberList}
use Rattle.smithy_declarations.specs.Table.{Table, Kind, kind_of, members_of, nothing}
use Rattle.smithy_shapes.specs.Views.{member_of}

-- something stands at the place of each of these members
abbrev pub AreKnown : Table → List MemberShape → Type 0
AreKnown table members = (n : ℕ) (m : MemberShape) → slice_get members n ≡ Some m → kind_of table m.place ≢ nothing

-- What a call says of its answer that looks for members: they are those of the kind, few, and something stands at their places.
pub record FindsMembers (table : Table) (kind : Kind) (result : Option (Bor MemberList)) : Type 0 where
  pub few : IfSome result (λ m. length m.now.items.items ≤ 65535)
  pub members : option_map_or (λ m. map member_of m.now.items.items) result [] ≡ members_of kind
  pub known : IfSome result (λ m. AreKnown table m.now.items.items)
