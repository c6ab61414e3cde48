use Rattle.std.proofs.Common.{◌≡◌, ◌↔◌, IsTrue, false, Some, rules, sym}
use Rattle.smithy_declarations.specs.declared.shape_type.ShapeType.TheVariants as types
use Rattle.smithy_shapes.specs.Site.{site_of, member_site}
use Rattle.smithy_shapes.specs.Declares.{Declares, Holds}
use Rattle.dynamodb_client.specs.Attributes.{variant_members}
use Rattle.dynamodb_client.proofs.Places.{declared, told_attribute, held_in, held_at}
use Rattle.dynamodb_client.proofs.attribute_value.AttributeValueAccept.is_at.Goals as goal

pub returns-then-not-is_declared : goal.returns-then-not-is_declared
returns-then-not-is_declared c =
    let site = site_of c.args.schema.now in
    let entries = site_of c.in-Some-Some.entries in
    let elements = site_of c.in-Some-Some.elements in
    let map_told : member_site site 5 ≡ Some entries = sym c.in-Some-Some.ensures in
    let list_told : member_site site 6 ≡ Some elements = sym c.in-Some-Some.ensures' in
    let test : IsTrue false ↔ Declares types.Union (variant_members entries.place.target elements.place.target) site = search rules in
    (λ never. cc, λ is. test.1 (declared site entries.place.target elements.place.target (told_attribute site entries elements map_told list_told is)))

pub returns-then-not-holds : goal.returns-then-not-holds
returns-then-not-holds c =
    let site = site_of c.args.schema.now in
    let entries = site_of c.in-Some-Some.entries in
    let elements = site_of c.in-Some-Some.elements in
    let map_told : member_site site 5 ≡ Some entries = sym c.in-Some-Some.ensures in
    let list_told : member_site site 6 ≡ Some elements = sym c.in-Some-Some.ensures' in
    let test : IsTrue false ↔ Holds entries.table entries.place.target types.Map site.place.target = search rules in
    (λ never. cc, λ is. test.1 (held_at site entries 5 types.Map map_told (told_attribute site entries elements map_told list_told is).map))

pub returns : goal.returns
returns c =
    let site = site_of c.args.schema.now in
    let entries = site_of c.in-Some-Some.entries in
    let elements = site_of c.in-Some-Some.elements in
    let map_told : member_site site 5 ≡ Some entries = sym c.in-Some-Some.ensures in
    let list_told : member_site site 6 ≡ Some elements = sym c.in-Some-Some.ensures' in
    let all : Declares types.Union (variant_members entries.place.target elements.place.target) site = search rules in
    let map : Holds entries.table entries.place.target types.Map site.place.target = search rules in
    let list : IsTrue c.holds-2.result ↔ Holds elements.table elements.place.target types.List site.place.target = search rules in (
      λ holds. (
        entries.place.target,
        elements.place.target,
        record { is_union = all.kind; members = all.members; map = held_in site entries 5 types.Map map_told map; list = held_in site elements 6 types.List list_told (list.0 holds) },
      ),
      λ is. list.1 (held_at site elements 6 types.List list_told (told_attribute site entries elements map_told list_told is).list),
    )
