use Rattle.std.proofs.Common.{◌∙◌, [], ◌∷◌, map, sym}
use Rattle.std.proofs.lemmas.List.{map-append}
use Rattle.json.specs.Value.{value_view}
use Rattle.smithy_model.specs.Objects.{Entry}
use Rattle.smithy_model.specs.Members.{member_in}
use Rattle.smithy_model.specs.Views.{entry_view, member_view, form_view}
use Rattle.smithy_model.proofs.AllSome.{read_more, read_none}
use Rattle.smithy_model.proofs.members.read_members.Goals as goal

pub returns-in-None : goal.returns-in-None
returns-in-None c =
    let f = λ (e : Entry). member_in (form_view c.args.format) (value_view c.args.spec.now) e.0 e.1 in
    let none = read_none entry_view f c.in-Some.entries.now c.loop-name.name-index c.loop-name-item.result c.loop-name-test.true c.loop-name-item.is (sym c.in-None.ensures) in
    rw (sym c.is_no_object.ensures ∙ c.if-is_no_object.false, sym c.in-Some.ensures) (sym none)

pub loop-name-preserved : goal.loop-name-preserved
loop-name-preserved c =
    let f = λ (e : Entry). member_in (form_view c.args.format) (value_view c.args.spec.now) e.0 e.1 in
    let more = read_more entry_view f c.in-Some.entries.now c.loop-name.name-index c.loop-name-item.result (map member_view c.loop-name.members.items)
    (member_view c.in-Some-read_member.member) c.loop-name-test.true c.loop-name-item.is c.loop-name.invariant
    (sym c.in-Some-read_member.ensures) in
    rw (c.in_ok-push-in-Some-read_member.ensures.items, map-append member_view c.loop-name.members.items (c.in-Some-read_member.member ∷ [])) more
