use Rattle.std.proofs.Common.{◌≡◌, bytes_eq, length, true, sym, subst, rules, arith}
use Rattle.std.specs.Vec.{vec_len}
use Rattle.smithy_model.specs.Views.{member_view}
use Rattle.smithy_model.proofs.Put.{put_there, other_there}
use Rattle.smithy_model.proofs.Places.{stands_at}
use Rattle.smithy_model.proofs.mixins.put_again.Goals as goal

pub index-requires : goal.index-requires
index-requires c =
    let long : vec_len c.args.members.now ≡ length c.args.members.now.items = search rules in
    let one = stands_at member_view c.args.members.now.items c.args.member.now.name.now c.args.place c.requires in
    omega (arith, long, one.within)

pub index-requires-2 : goal.index-requires-2
index-requires-2 c =
    let long : vec_len c.args.members.now ≡ length c.args.members.now.items = search rules in
    let one = stands_at member_view c.args.members.now.items c.args.member.now.name.now c.args.place c.requires in
    omega (arith, long, one.within)

pub index_mut-requires : goal.index_mut-requires
index_mut-requires c =
    let long : vec_len c.args.members.now ≡ length c.args.members.now.items = search rules in
    let one = stands_at member_view c.args.members.now.items c.args.member.now.name.now c.args.place c.requires in
    omega (arith, long, one.within)

pub returns-clause-put : goal.returns-clause-put
returns-clause-put c =
    let ms = c.args.members.now.items in
    let given = member_view c.args.member.now in
    let u = c.index.result.now in
    let one = stands_at member_view ms given.name c.args.place c.requires in
    put_there member_view ms c.args.place u c.index-2.result.now c.redefined.result given one.within c.index.ensures c.index-2.ensures one.none
    (subst (λ x. bytes_eq (member_view x).name given.name ≡ true) (sym c.index.ensures) (one.named u)) c.redefined.ensures

pub returns-clause-agrees : goal.returns-clause-agrees
returns-clause-agrees c =
    let ms = c.args.members.now.items in
    let given = member_view c.args.member.now in
    let u = c.index.result.now in
    let one = stands_at member_view ms given.name c.args.place c.requires in
    other_there member_view ms c.args.place u u given c.eq-agrees.result one.within c.index.ensures c.index.ensures one.none
    (subst (λ x. bytes_eq (member_view x).name given.name ≡ true) (sym c.index.ensures) (one.named u)) c.eq-agrees.ensures
