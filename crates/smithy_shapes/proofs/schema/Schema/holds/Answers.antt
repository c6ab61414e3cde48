use Rattle.std.proofs.Common.{◌≡◌, ◌↔◌, IsTrue, Some, None, option_map, rules, sym, ◌∙◌, ap}
use Rattle.smithy_declarations.specs.declared.place.Place.{Place}
use Rattle.smithy_declarations.specs.Table.{type_of, place_in, IsSparse}
use Rattle.smithy_shapes.specs.Site.{Site, site_of, kind_at}
use Rattle.smithy_shapes.proofs.Inner.{inner_place}
use Rattle.smithy_shapes.proofs.schema.Schema.holds.Goals as goal

pub returns-in-Some : goal.returns-in-Some
returns-in-Some c =
    let site = site_of c.args.self.now in
    let here : Some (site_of c.in-Some.place).place ≡ place_in (kind_at site) None = ap (option_map (λ (s : Site). s.place)) c.in-Some.ensures ∙ inner_place site.table (kind_at site) in
    let target : Some c.target.result ≡ option_map (λ (p : Place). p.target) (place_in (kind_at site) None) = ap Some c.target.ensures ∙ ap (option_map (λ (p : Place). p.target)) here in
    let kind : type_of (kind_at site) ≡ Some c.args.kind = search rules in
    let dense : IsSparse (kind_at site) → ⊥ = search rules in
    let test : IsTrue c.eq.result ↔ (c.target.result ≡ c.args.inner) = search rules in
    (λ same. record { kind = kind; inside = sym target ∙ ap Some (test.0 same); dense = dense }, λ holds. test.1 (let both : Some c.target.result ≡ Some c.args.inner = target ∙ holds.inside in cc))
