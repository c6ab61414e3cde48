use Rattle.std.proofs.Common.{◌≡◌, ◌≢◌, arith, rules, refl, sym, ◌∙◌, subst, inr, Some, string_bytes}
use Rattle.std.proofs.lemmas.Result.{err_from_is_err_and}
use Rattle.smithy_declarations.specs.declared.shape_type.Scalar.TheVariants as scalars
use Rattle.smithy_declarations.specs.declared.place.Target.TheVariants.{Simple}
use Rattle.smithy_shapes.specs.Site.{site_of}
use Rattle.smithy_shapes.specs.Lemmas.Options.{same_some}
use Rattle.smithy_declarations.specs.Value.{text, map}
use Rattle.smithy_schema.specs.Fields.{passed, broke}
use Rattle.smithy_schema.proofs.ReadFields.{filled_field, field_taken}
use Rattle.smithy_schema.proofs.AnsweredErrors.{may_answer}
use Rattle.smithy_schema.proofs.DeclaredMembers.{at_index, at_last, count_of, target_there}
use Rattle.dynamodb_client.specs.Attributes.{attribute_entries, AreEntries}
use Rattle.dynamodb_client.specs.PutItem.{put_item_fields, IsPutItem}
use Rattle.smithy_schema.proofs.HalfRead.{taken}
use Rattle.dynamodb_client.proofs.put_item.PutItemInputStructConsumer.member.Goals as goal

pub returns-in_default-clause-called : goal.returns-in_default-clause-called
returns-in_default-clause-called g c = rw c.in_default.is passed

pub returns-then-eq-clause-called : goal.returns-then-eq-clause-called
returns-then-eq-clause-called g c =
    let site = site_of c.in-Some.schema.now in
    let allowed = rw c.in-Some.is at c.requires.allowed in
    let index : site.view.index ≡ Some 0 = search rules in
    let there = at_index IsPutItem site allowed 0 index in
    rw c.in-Some.is (filled_field put_item_fields scalars.String (λ s. text (string_bytes s)) _ site (λ f. record c.args.self.now { table_name = f }) _ _ _ _ 0 _ index (target_there _ _ there.0 there.1.members 0 site there.2 (Simple scalars.String) refl) (omega arith) (λ x. refl) c.read_field.ensures.fills)

pub read_attributes-requires : goal.read_attributes-requires
read_attributes-requires g c =
    let site = site_of c.in-Some.schema.now in
    let allowed = rw c.in-Some.is at c.requires.allowed in
    let other : site.view.index ≢ Some 0 = search rules in
    let there = at_index IsPutItem site allowed 1 (at_last IsPutItem site allowed 1 (λ o is. count_of _ _ o is.members) (other, tt)) in
    record { due = c.requires.due; place = subst AreEntries (same_some _ _ (sym there.1.second ∙ there.2)) there.1.are_entries }

pub returns-in_err-read_attributes-clause-called : goal.returns-in_err-read_attributes-clause-called
returns-in_err-read_attributes-clause-called g c =
    let p = err_from_is_err_and c.from_residual.result c.from_residual.ensures.1 in
    rw (p.1, p.2, c.in-Some.is) (broke (may_answer _ _ _ c.in_err-read_attributes.ensures.reads.fails) (λ fault due. c.in_err-read_attributes.ensures.reads.refused fault))

pub returns-clause-called : goal.returns-clause-called
returns-clause-called g c =
    let site = site_of c.in-Some.schema.now in
    let allowed = rw c.in-Some.is at c.requires.allowed in
    let other : site.view.index ≢ Some 0 = search rules in
    let index = at_last IsPutItem site allowed 1 (λ o is. count_of _ _ o is.members) (other, tt) in
    rw c.in-Some.is (field_taken put_item_fields _ site _ _ _ _ 1 (map (attribute_entries c.in_ok-read_attributes.field-0.entries)) index (omega arith) refl c.in_ok-read_attributes.ensures.reads.ok)

pub returns-clause-rests : goal.returns-clause-rests
returns-clause-rests g c =
    let d = g.D.ShapeDeserializer in
    let s0 = d.settings c.args.source.now in
    inr (taken (d.reading s0).wire (g.met.D.ShapeDeserializer.lawful s0) (λ m. map (attribute_entries m.entries)) (site_of c.in-Some.schema.now) _ _ c.in_ok-read_attributes.field-0 c.in_ok-read_attributes.ensures.reads)
