use Rattle.std.proofs.Common.{◌≡◌, ◌≢◌, ◌↔◌, IsTrue, Some, rules, sym}
use Rattle.smithy_shapes.specs.Site.{site_of, inner_site, member_site}
use Rattle.dynamodb_client.specs.Attributes.{IsAttribute}
use Rattle.dynamodb_client.proofs.Places.{are_entries, entries_told, entries_inside}
use Rattle.dynamodb_client.proofs.attribute_value.are_attributes.Goals as goal

pub returns : goal.returns
returns c =
    let site = site_of c.args.schema.now in
    let value = site_of c.in-Some.value in
    let entries = site_of c.in-Some-member_at.entries in
    let inside : inner_site site ≡ Some value = sym c.in-Some.ensures in
    let told : member_site value 5 ≡ Some entries = sym c.in-Some-member_at.ensures in
    let same : entries.place.target ≡ site.place.target = search rules in
    let test : IsTrue c.is_at.result ↔ IsAttribute value = search rules in
    (λ is. are_entries site value entries inside told same (test.0 is), λ is. test.1 (entries_inside site value is (sym inside)).1)

pub returns-then-ne : goal.returns-then-ne
returns-then-ne c =
    let site = site_of c.args.schema.now in
    let value = site_of c.in-Some.value in
    let entries = site_of c.in-Some-member_at.entries in
    let inside : inner_site site ≡ Some value = sym c.in-Some.ensures in
    let told : member_site value 5 ≡ Some entries = sym c.in-Some-member_at.ensures in
    let other : entries.place.target ≢ site.place.target = search rules in
    (λ never. cc, λ is. absurd (other (entries_told site value entries inside told is)))
