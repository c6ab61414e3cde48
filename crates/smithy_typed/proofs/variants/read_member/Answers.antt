use Rattle.std.proofs.Common.{◌≡◌, Some, None, sym, ◌∙◌, subst, slice_get}
use Rattle.smithy_shapes.specs.Site.{site_of, member_sites}
use Rattle.smithy_shapes.specs.Lemmas.Options.{same_some}
use Rattle.smithy_schema.proofs.ReadStructures.{site_told}
use Rattle.smithy_typed.proofs.SetFields.{member_there}
use Rattle.smithy_typed.proofs.OneOf.{variant_read}
use Rattle.smithy_typed.proofs.variants.read_member.Goals as goal

pub unreachable-unreachable : goal.unreachable-unreachable
unreachable-unreachable g c =
    let site = site_of c.args.member.now in
    let (outer, n, is, told) = c.requires.there in
    let none : None ≡ Some n = c.in_default.ensures ∙ (site_told outer n site told).2 in
    cc

pub read_variant-requires : goal.read_variant-requires
read_variant-requires g c =
    let site = site_of c.args.member.now in
    let (outer, n, (names, shape), told) = c.requires.there in
    let same = same_some _ _ (sym (site_told outer n site told).2 ∙ sym c.in-Some.ensures) in
    record {
      due = c.requires.due;
      nulls = c.requires.nulls;
      there = (names, (member_sites outer, shape.all, subst (λ k. slice_get (member_sites outer) k ≡ Some site) same (member_there outer n site told)));
    }

pub returns-clause-reads : goal.returns-clause-reads
returns-clause-reads g c = variant_read _ _ _ (site_of c.args.member.now) c.in-Some.position _ _ c.read_variant.result (sym c.in-Some.ensures) c.read_variant.ensures.reads
