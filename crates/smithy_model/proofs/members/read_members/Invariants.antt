use Rattle.std.proofs.Common.{◌≡◌, map, take, Some}
use Rattle.json.specs.Value.{value_view}
use Rattle.smithy_model.specs.Objects.{Entry}
use Rattle.smithy_model.specs.Members.{member_in, all_some}
use Rattle.smithy_model.specs.Views.{entry_view, member_view, form_view}
use Rattle.smithy_model.proofs.members.read_members.Given as goal

-- what was read so far
abbrev pub invariant-loop-name : goal.invariant-loop-name
invariant-loop-name l =
    all_some (map (λ (e : Entry). member_in (form_view l.format) (value_view l.spec) e.0 e.1) (map entry_view (take l.name-index l.entries)))
    ≡ Some (map member_view l.members.items)
