use Rattle.std.proofs.Common.{◌≡◌, Some, None, refl, sym, ◌∙◌, inl}
use Rattle.smithy_shapes.specs.Site.{site_of}
use Rattle.smithy_shapes.specs.Lemmas.Options.{same_some}
use Rattle.smithy_schema.specs.Fields.{passed}
use Rattle.smithy_schema.proofs.ReadStructures.{site_told}
use Rattle.smithy_typed.proofs.SetFields.{field_takes, field_rests, any_there, on_ok}
use Rattle.smithy_typed.proofs.structures.FieldsStructConsumer.member.Goals as goal

pub returns-in_default-clause-called : goal.returns-in_default-clause-called
returns-in_default-clause-called g c = rw c.in_default.is passed

pub unreachable-unreachable : goal.unreachable-unreachable
unreachable-unreachable g c =
    let site = site_of c.in-Some.schema.now in
    let (outer, is, (n, told)) = rw c.in-Some.is at c.requires.allowed in
    let none : None ≡ Some n = c.in_default-member_index.ensures ∙ (site_told outer n site told).2 in
    cc

pub read_field-requires : goal.read_field-requires
read_field-requires g c =
    let site = site_of c.in-Some.schema.now in
    let (outer, is, (n, told)) = rw c.in-Some.is at c.requires.allowed in
    let same = same_some _ _ (sym (site_told outer n site told).2 ∙ sym c.in-Some-member_index.ensures) in
    record {
      due = c.requires.due;
      nulls = c.requires.nulls refl;
      there = inl (any_there g.L.FieldList.members outer site n _ is told same);
    }

pub returns-clause-called : goal.returns-clause-called
returns-clause-called g c =
    let site = site_of c.in-Some.schema.now in
    let (outer, is, (n, told)) = rw c.in-Some.is at c.requires.allowed in
    let same = same_some _ _ (sym (site_told outer n site told).2 ∙ sym c.in-Some-member_index.ensures) in
    rw c.in-Some.is (field_takes (λ f. g.L.FieldList.fields f.list) _ site _ _ _ _ c.in-Some-member_index.position _ (sym c.in-Some-member_index.ensures)
    (c.read_field.ensures.reads (any_there g.L.FieldList.members outer site n _ is told same)))

pub returns-clause-rests : goal.returns-clause-rests
returns-clause-rests g c =
    let site = site_of c.in-Some.schema.now in
    let (outer, is, (n, told)) = rw c.in-Some.is at c.requires.allowed in
    let same = same_some _ _ (sym (site_told outer n site told).2 ∙ sym c.in-Some-member_index.ensures) in
    field_rests _ (g.met.D.ShapeDeserializer.lawful _) _ _ _ site _ _ _ (c.read_field.ensures.reads (any_there g.L.FieldList.members outer site n _ is told same))

pub returns-clause-allowed : goal.returns-clause-allowed
returns-clause-allowed g c = on_ok c.read_field.result (λ outer is. is)
