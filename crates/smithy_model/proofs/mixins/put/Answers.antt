use Rattle.std.proofs.Common.{◌≡◌, ◌∙◌, [], ◌∷◌, ◌++◌, length, map, sym, ap, subst, rules}
use Rattle.std.specs.Vec.{vec_len}
use Rattle.std.proofs.lemmas.List.{length-map, map-append}
use Rattle.smithy_model.specs.Placing.{ArePlaces}
use Rattle.smithy_model.specs.Views.{member_view}
use Rattle.smithy_model.proofs.Put.{put_behind, none_other}
use Rattle.smithy_model.proofs.Places.{none_at, places_again, places_more}
use Rattle.smithy_model.proofs.mixins.put.Goals as goal

pub put_again-requires : goal.put_again-requires
put_again-requires c = sym (c.requires c.args.member.now.name.now) ∙ sym c.place_of.ensures ∙ c.in-Some.is

pub returns-in-Some-clause-places : goal.returns-in-Some-clause-places
returns-in-Some-clause-places c =
    subst (λ xs. ArePlaces xs c.args.places.now) (sym c.put_again.ensures.put)
    (places_again (map member_view c.args.members.now.items) (member_view c.args.member.now) c.in-Some.place c.args.places.now c.requires
    (sym c.place_of.ensures ∙ c.in-Some.is))

pub returns-clause-put : goal.returns-clause-put
returns-clause-put c =
    let ms = c.args.members.now.items in
    let given = member_view c.args.member.now in
    let none = none_at (map member_view ms) given.name (sym (c.requires given.name) ∙ sym c.place_of.ensures ∙ c.in_default.is) in
    rw (c.in_ok-push.ensures.items, map-append member_view ms (c.args.member.now ∷ [])) (sym (put_behind (map member_view ms) given none))

pub returns-clause-agrees : goal.returns-clause-agrees
returns-clause-agrees c =
    let ms = map member_view c.args.members.now.items in
    let given = member_view c.args.member.now in
    none_other ms given (none_at ms given.name (sym (c.requires given.name) ∙ sym c.place_of.ensures ∙ c.in_default.is))

pub returns-clause-places : goal.returns-clause-places
returns-clause-places c =
    let ms = c.args.members.now.items in
    let given = member_view c.args.member.now in
    let long : vec_len c.args.members.now ≡ length ms = search rules in
    let more : map member_view c.push.new.self.items ≡ map member_view ms ++ given ∷ [] =
    ap (map member_view) c.in_ok-push.ensures.items ∙ map-append member_view ms (c.args.member.now ∷ []) in
    subst (λ xs. ArePlaces xs c.insert.new.self) (sym more)
    (places_more (map member_view ms) given c.len.result c.args.places.now c.insert.new.self c.requires (sym c.place_of.ensures ∙ c.in_default.is)
    (c.len.ensures ∙ long ∙ sym (length-map ms member_view)) c.in_ok-insert.ensures.updates)
