use Rattle.std.proofs.Common.{◌≡◌, map, take}
use Rattle.std.specs.List.{fold}
use Rattle.smithy_model.specs.Mixins.{with_member, agree}
use Rattle.smithy_model.specs.Placing.{ArePlaces}
use Rattle.smithy_model.specs.Views.{member_view}
use Rattle.smithy_model.proofs.mixins.put_all.Given as goal

-- the members so far
abbrev pub invariant-loop-member : goal.invariant-loop-member
invariant-loop-member l = record {
  put : map member_view l.members.items ≡ fold with_member (map member_view l.initial.members.items) (map member_view (take l.member-index l.more));
  agree : l.agrees ≡ agree (map member_view l.initial.members.items) (map member_view (take l.member-index l.more));
  places : ArePlaces (map member_view l.members.items) l.places;
}
