use Rattle.std.proofs.Common.{◌≡◌, ◌≢◌, ap, arith, rules, refl, ◌∙◌, [], ◌∷◌, suc, length, Some, string_bytes}
use Rattle.std.proofs.lemmas.List.{map-append}
use Rattle.std.proofs.lemmas.Result.{err_from_is_err_and}
use Rattle.smithy_declarations.specs.declared.shape_type.Scalar.TheVariants as scalars
use Rattle.smithy_declarations.specs.declared.place.Target.TheVariants.{Simple}
use Rattle.smithy_shapes.specs.Site.{site_of, kind_at}
use Rattle.smithy_declarations.specs.Value.{list, map, values_of, text, bytes, boolean}
use Rattle.smithy_schema.specs.Reading.{Cursor, depth}
use Rattle.smithy_schema.proofs.ReadContainers.{itself}
use Rattle.smithy_schema.proofs.ReadLists.{begin_list, list_contains}
use Rattle.smithy_schema.proofs.ReadMaps.{begin_map, map_contains}
use Rattle.smithy_schema.proofs.ReadUnions.{begin_union, union_contains, union_has_members, no_first, no_end}
use Rattle.dynamodb_client.specs.Attributes.{attribute_value, attribute_values, attribute_entries}
use Rattle.dynamodb_client.specs.declared.attribute_value.AttributeValue.TheVariants as variants
use Rattle.dynamodb_client.specs.declared.attribute_value.AttributeValue.TheViews as views
use Rattle.dynamodb_client.proofs.Variants.{view-S, view-N, view-B, view-Bool, view-Null, view-M, view-L}
use Rattle.dynamodb_client.proofs.Places.{entries_there, elements_there, attribute_union, entries_map, elements_list, entries_inside, elements_inside, variant_at, last_variant, map_variant, list_variant}
use Rattle.smithy_schema.proofs.HalfRead.{fails, unkept, not_opened, goes_no_further, ends, element_passed, element_fails, list_falls, entry_passed, entry_fails, map_falls, behind_variant, variant_fails, scalar_variant, scalar_fails, inner_variant, inner_fails}
use Rattle.smithy_schema.proofs.AnsweredErrors.{broke_inside, was_read}
use Rattle.dynamodb_client.proofs.attribute_value.+read.Goals as goal

pub read_attribute_value-open_struct-requires : goal.read_attribute_value-open_struct-requires
read_attribute_value-open_struct-requires g t c =
    record { place = union_has_members _ (attribute_union (site_of c.args.schema.now) c.requires.place) }

pub read_attribute_value-returns-in_err-open_struct-clause-reads : goal.read_attribute_value-returns-in_err-open_struct-clause-reads
read_attribute_value-returns-in_err-open_struct-clause-reads g t c =
    let d = g.D.ShapeDeserializer in
    let s0 = d.settings c.args.source.now in
    let w = (d.reading s0).wire in
    let max = (d.reading s0).max_depth in
    let laws = g.met.D.ShapeDeserializer.lawful s0 in
    let outer = site_of c.args.schema.now in
    let p = err_from_is_err_and c.from_residual.result c.from_residual.ensures.1 in
    rw (p.1, p.2) (not_opened w max laws attribute_value outer (d.state c.args.source.now) (d.state c.open_struct.new.self) c.in_err-open_struct.field-0.0 (union_contains (kind_at outer) (attribute_union outer c.requires.place)) c.requires.due c.in_err-open_struct.ensures.opens.conduct c.in_err-open_struct.ensures.opens.refused)

pub read_attribute_value-next_member-requires : goal.read_attribute_value-next_member-requires
read_attribute_value-next_member-requires g t c =
    record { within = c.in_ok-open_struct.ensures.opens.ok.within; place = union_has_members _ (attribute_union (site_of c.args.schema.now) c.requires.place) }

pub read_attribute_value-returns-in_err-member-clause-reads : goal.read_attribute_value-returns-in_err-member-clause-reads
read_attribute_value-returns-in_err-member-clause-reads g t c =
    let d = g.D.ShapeDeserializer in
    let s0 = d.settings c.args.source.now in
    let w = (d.reading s0).wire in
    let max = (d.reading s0).max_depth in
    let laws = g.met.D.ShapeDeserializer.lawful s0 in
    let outer = site_of c.args.schema.now in
    let kind = attribute_union outer c.requires.place in
    let half = begin_union w w max laws laws (itself w) _ _ _ _ kind c.in_ok-open_struct.ensures.opens.ok in
    let p = err_from_is_err_and c.from_residual-in_err-member.result c.from_residual-in_err-member.ensures.1 in
    rw (p.1, p.2) (goes_no_further w max laws attribute_value outer _ _ _ _ _ _ half (was_read _ _ c.in_ok-open_struct.ensures.opens.conduct.failed) c.in_err-member.ensures.goes_on.conduct (rw c.open_struct.ensures.same at c.in_err-member.ensures.goes_on.refused))

pub read_attribute_value-returns-in_default : goal.read_attribute_value-returns-in_default
read_attribute_value-returns-in_default g t c =
    let d = g.D.ShapeDeserializer in
    let s0 = d.settings c.args.source.now in
    let w = (d.reading s0).wire in
    let max = (d.reading s0).max_depth in
    let laws = g.met.D.ShapeDeserializer.lawful s0 in
    let outer = site_of c.args.schema.now in
    let kind = attribute_union outer c.requires.place in
    let half = begin_union w w max laws laws (itself w) _ _ _ _ kind c.in_ok-open_struct.ensures.opens.ok in
    let step = rw c.open_struct.ensures.same at (c.in_ok-member.ensures.goes_on.ok half.due) in
    record {
      same = c.fail.ensures.same ∙ c.next_member.ensures.same ∙ c.open_struct.ensures.same;
      reads = fails w attribute_value outer _ _ _ (broke_inside _ (d.state c.args.source.now) _ _ (was_read _ _ c.in_ok-open_struct.ensures.opens.conduct.failed) (was_read _ _ c.in_ok-open_struct.ensures.opens.conduct.failed) (tt, λ is. cc) (ap (λ (x : Cursor). x.failed) c.fail.ensures.fails)) (λ fault. no_first w w max laws (itself w) _ _ _ outer _ c.in_default.not-Member kind half step);
    }

pub read_attribute_value-read_variant-requires : goal.read_attribute_value-read_variant-requires
read_attribute_value-read_variant-requires g t c κs within =
    let d = g.D.ShapeDeserializer in
    let s0 = d.settings c.args.source.now in
    let w = (d.reading s0).wire in
    let max = (d.reading s0).max_depth in
    let laws = g.met.D.ShapeDeserializer.lawful s0 in
    let outer = site_of c.args.schema.now in
    let kind = attribute_union outer c.requires.place in
    let half = begin_union w w max laws laws (itself w) _ _ _ _ kind c.in_ok-open_struct.ensures.opens.ok in
    let step = rw (c.in-Member.is, c.open_struct.ensures.same) at (c.in_ok-member.ensures.goes_on.ok half.due) in
    let same = c.next_member.ensures.same ∙ c.open_struct.ensures.same in
    let most : (d.reading (d.settings c.next_member.new.self)).max_depth ≡ max = ap (λ s. (d.reading s).max_depth) same in
    let level : depth (d.state c.next_member.new.self) ≡ suc (depth (d.state c.args.source.now)) = ap length (step.2.outer ∙ half.outer) in
    let shallow = half.shallow in
    (omega (arith, most, level, shallow, c.decreases), (search rules, (step.2.due, (outer, step.1, c.requires.place, step.4))))

pub read_attribute_value-returns-in_err-value-clause-reads : goal.read_attribute_value-returns-in_err-value-clause-reads
read_attribute_value-returns-in_err-value-clause-reads g t c =
    let d = g.D.ShapeDeserializer in
    let s0 = d.settings c.args.source.now in
    let w = (d.reading s0).wire in
    let max = (d.reading s0).max_depth in
    let laws = g.met.D.ShapeDeserializer.lawful s0 in
    let outer = site_of c.args.schema.now in
    let kind = attribute_union outer c.requires.place in
    let half = begin_union w w max laws laws (itself w) _ _ _ _ kind c.in_ok-open_struct.ensures.opens.ok in
    let step = rw (c.in-Member.is, c.open_struct.ensures.same) at (c.in_ok-member.ensures.goes_on.ok half.due) in
    let p = err_from_is_err_and c.from_residual-in_err-value.result c.from_residual-in_err-value.ensures.1 in
    rw (p.1, p.2) (variant_fails w max laws attribute_value outer c.in-Member.member _ _ _ _ _ _ kind half (was_read _ _ c.in_ok-open_struct.ensures.opens.conduct.failed) step (rw (c.next_member.ensures.same, c.open_struct.ensures.same) at c.in_err-value.ensures.reads))

pub read_attribute_value-next_member-requires-2 : goal.read_attribute_value-next_member-requires-2
read_attribute_value-next_member-requires-2 g t c =
    let d = g.D.ShapeDeserializer in
    let s0 = d.settings c.args.source.now in
    let w = (d.reading s0).wire in
    let max = (d.reading s0).max_depth in
    let laws = g.met.D.ShapeDeserializer.lawful s0 in
    let outer = site_of c.args.schema.now in
    let kind = attribute_union outer c.requires.place in
    let half = begin_union w w max laws laws (itself w) _ _ _ _ kind c.in_ok-open_struct.ensures.opens.ok in
    let step = rw (c.in-Member.is, c.open_struct.ensures.same) at (c.in_ok-member.ensures.goes_on.ok half.due) in
    let reads = rw (c.next_member.ensures.same, c.open_struct.ensures.same) at c.in_ok-value.ensures.reads in
    let behind = behind_variant w max laws attribute_value outer c.in-Member.member _ _ _ _ _ half step reads in
    let same = c.read_variant.ensures.same ∙ c.next_member.ensures.same ∙ c.open_struct.ensures.same in
    record { within = behind.within; place = union_has_members _ kind }

pub read_attribute_value-returns-in_err-next_member-clause-reads : goal.read_attribute_value-returns-in_err-next_member-clause-reads
read_attribute_value-returns-in_err-next_member-clause-reads g t c =
    let d = g.D.ShapeDeserializer in
    let s0 = d.settings c.args.source.now in
    let w = (d.reading s0).wire in
    let max = (d.reading s0).max_depth in
    let laws = g.met.D.ShapeDeserializer.lawful s0 in
    let outer = site_of c.args.schema.now in
    let kind = attribute_union outer c.requires.place in
    let half = begin_union w w max laws laws (itself w) _ _ _ _ kind c.in_ok-open_struct.ensures.opens.ok in
    let step = rw (c.in-Member.is, c.open_struct.ensures.same) at (c.in_ok-member.ensures.goes_on.ok half.due) in
    let reads = rw (c.next_member.ensures.same, c.open_struct.ensures.same) at c.in_ok-value.ensures.reads in
    let behind = behind_variant w max laws attribute_value outer c.in-Member.member _ _ _ _ _ half step reads in
    let same = c.read_variant.ensures.same ∙ c.next_member.ensures.same ∙ c.open_struct.ensures.same in
    let p = err_from_is_err_and c.from_residual-in_err-next_member.result c.from_residual-in_err-next_member.ensures.1 in
    rw (p.1, p.2) (goes_no_further w max laws attribute_value outer _ _ _ _ _ _ behind (was_read _ _ c.in_ok-open_struct.ensures.opens.conduct.failed) c.in_err-next_member.ensures.goes_on.conduct (rw same at c.in_err-next_member.ensures.goes_on.refused))

pub read_attribute_value-returns-in_default-2 : goal.read_attribute_value-returns-in_default-2
read_attribute_value-returns-in_default-2 g t c =
    let d = g.D.ShapeDeserializer in
    let s0 = d.settings c.args.source.now in
    let w = (d.reading s0).wire in
    let max = (d.reading s0).max_depth in
    let laws = g.met.D.ShapeDeserializer.lawful s0 in
    let outer = site_of c.args.schema.now in
    let kind = attribute_union outer c.requires.place in
    let half = begin_union w w max laws laws (itself w) _ _ _ _ kind c.in_ok-open_struct.ensures.opens.ok in
    let step = rw (c.in-Member.is, c.open_struct.ensures.same) at (c.in_ok-member.ensures.goes_on.ok half.due) in
    let reads = rw (c.next_member.ensures.same, c.open_struct.ensures.same) at c.in_ok-value.ensures.reads in
    let behind = behind_variant w max laws attribute_value outer c.in-Member.member _ _ _ _ _ half step reads in
    let same = c.read_variant.ensures.same ∙ c.next_member.ensures.same ∙ c.open_struct.ensures.same in
    let next = rw same at (c.in_ok-next_member.ensures.goes_on.ok behind.due) in
    record {
      same = c.fail-in_default-2.ensures.same ∙ c.next_member-2.ensures.same ∙ same;
      reads = fails w attribute_value outer _ _ _ (broke_inside _ (d.state c.args.source.now) _ _ (was_read _ _ c.in_ok-open_struct.ensures.opens.conduct.failed) (was_read _ _ c.in_ok-open_struct.ensures.opens.conduct.failed) (tt, λ is. cc) (ap (λ (x : Cursor). x.failed) c.fail-in_default-2.ensures.fails)) (λ fault. no_end w w max laws (itself w) _ _ _ outer _ _ c.in_default-2.not-End kind behind next);
    }

pub read_attribute_value-returns-clause-reads : goal.read_attribute_value-returns-clause-reads
read_attribute_value-returns-clause-reads g t c =
    let d = g.D.ShapeDeserializer in
    let s0 = d.settings c.args.source.now in
    let w = (d.reading s0).wire in
    let max = (d.reading s0).max_depth in
    let laws = g.met.D.ShapeDeserializer.lawful s0 in
    let outer = site_of c.args.schema.now in
    let kind = attribute_union outer c.requires.place in
    let half = begin_union w w max laws laws (itself w) _ _ _ _ kind c.in_ok-open_struct.ensures.opens.ok in
    let step = rw (c.in-Member.is, c.open_struct.ensures.same) at (c.in_ok-member.ensures.goes_on.ok half.due) in
    let reads = rw (c.next_member.ensures.same, c.open_struct.ensures.same) at c.in_ok-value.ensures.reads in
    let behind = behind_variant w max laws attribute_value outer c.in-Member.member _ _ _ _ _ half step reads in
    let same = c.read_variant.ensures.same ∙ c.next_member.ensures.same ∙ c.open_struct.ensures.same in
    let leaves = rw (c.in-End.is, same) at (c.in_ok-next_member.ensures.goes_on.ok behind.due) in
    ends w max laws attribute_value outer _ _ _ _ _ _ behind (was_read _ _ c.in_ok-open_struct.ensures.opens.conduct.failed) leaves refl

pub read_variant-returns-in_err-read_string-clause-reads : goal.read_variant-returns-in_err-read_string-clause-reads
read_variant-returns-in_err-read_string-clause-reads g t c =
    let d = g.D.ShapeDeserializer in
    let s0 = d.settings c.args.source.now in
    let r = d.reading s0 in
    let member = site_of c.args.member.now in
    let index : member.view.index ≡ Some 0 = search rules in
    let v = variant_at member 0 c.requires.place index in
    let p = err_from_is_err_and c.from_residual.result c.from_residual.ensures.1 in
    rw (p.1, p.2) (scalar_fails scalars.String (λ s. text (string_bytes s)) attribute_value r _ _ member _ (v.target (Simple scalars.String) refl) c.requires.due c.in_err-read_string.ensures.read)

pub read_variant-returns-then-eq-clause-reads : goal.read_variant-returns-then-eq-clause-reads
read_variant-returns-then-eq-clause-reads g t c =
    let d = g.D.ShapeDeserializer in
    let s0 = d.settings c.args.source.now in
    let r = d.reading s0 in
    let member = site_of c.args.member.now in
    let index : member.view.index ≡ Some 0 = search rules in
    let v = variant_at member 0 c.requires.place index in
    scalar_variant scalars.String (λ s. text (string_bytes s)) attribute_value r _ _ member 0 _ (variants.S c.in_ok-read_string.field-0) index (v.target (Simple scalars.String) refl) c.in_ok-read_string.ensures.read (view-S c.in_ok-read_string.field-0)

pub read_variant-returns-in_err-read_string-2-clause-reads : goal.read_variant-returns-in_err-read_string-2-clause-reads
read_variant-returns-in_err-read_string-2-clause-reads g t c =
    let d = g.D.ShapeDeserializer in
    let s0 = d.settings c.args.source.now in
    let r = d.reading s0 in
    let member = site_of c.args.member.now in
    let index : member.view.index ≡ Some 1 = search rules in
    let v = variant_at member 1 c.requires.place index in
    let p = err_from_is_err_and c.from_residual-in_err-read_string-2.result c.from_residual-in_err-read_string-2.ensures.1 in
    rw (p.1, p.2) (scalar_fails scalars.String (λ s. text (string_bytes s)) attribute_value r _ _ member _ (v.target (Simple scalars.String) refl) c.requires.due c.in_err-read_string-2.ensures.read)

pub read_variant-returns-then-eq-2-clause-reads : goal.read_variant-returns-then-eq-2-clause-reads
read_variant-returns-then-eq-2-clause-reads g t c =
    let d = g.D.ShapeDeserializer in
    let s0 = d.settings c.args.source.now in
    let r = d.reading s0 in
    let member = site_of c.args.member.now in
    let index : member.view.index ≡ Some 1 = search rules in
    let v = variant_at member 1 c.requires.place index in
    scalar_variant scalars.String (λ s. text (string_bytes s)) attribute_value r _ _ member 1 _ (variants.N c.in_ok-read_string-2.field-0) index (v.target (Simple scalars.String) refl) c.in_ok-read_string-2.ensures.read (view-N c.in_ok-read_string-2.field-0)

pub read_variant-returns-in_err-read_blob-clause-reads : goal.read_variant-returns-in_err-read_blob-clause-reads
read_variant-returns-in_err-read_blob-clause-reads g t c =
    let d = g.D.ShapeDeserializer in
    let s0 = d.settings c.args.source.now in
    let r = d.reading s0 in
    let member = site_of c.args.member.now in
    let index : member.view.index ≡ Some 2 = search rules in
    let v = variant_at member 2 c.requires.place index in
    let p = err_from_is_err_and c.from_residual-in_err-read_blob.result c.from_residual-in_err-read_blob.ensures.1 in
    rw (p.1, p.2) (scalar_fails scalars.Blob bytes attribute_value r _ _ member _ (v.target (Simple scalars.Blob) refl) c.requires.due c.in_err-read_blob.ensures.read)

pub read_variant-returns-then-eq-3-clause-reads : goal.read_variant-returns-then-eq-3-clause-reads
read_variant-returns-then-eq-3-clause-reads g t c =
    let d = g.D.ShapeDeserializer in
    let s0 = d.settings c.args.source.now in
    let r = d.reading s0 in
    let member = site_of c.args.member.now in
    let index : member.view.index ≡ Some 2 = search rules in
    let v = variant_at member 2 c.requires.place index in
    scalar_variant scalars.Blob bytes attribute_value r _ _ member 2 _ (variants.B c.in_ok-read_blob.field-0) index (v.target (Simple scalars.Blob) refl) c.in_ok-read_blob.ensures.read (view-B c.in_ok-read_blob.field-0)

pub read_variant-returns-in_err-read_boolean-clause-reads : goal.read_variant-returns-in_err-read_boolean-clause-reads
read_variant-returns-in_err-read_boolean-clause-reads g t c =
    let d = g.D.ShapeDeserializer in
    let s0 = d.settings c.args.source.now in
    let r = d.reading s0 in
    let member = site_of c.args.member.now in
    let index : member.view.index ≡ Some 3 = search rules in
    let v = variant_at member 3 c.requires.place index in
    let p = err_from_is_err_and c.from_residual-in_err-read_boolean.result c.from_residual-in_err-read_boolean.ensures.1 in
    rw (p.1, p.2) (scalar_fails scalars.Boolean boolean attribute_value r _ _ member _ (v.target (Simple scalars.Boolean) refl) c.requires.due c.in_err-read_boolean.ensures.read)

pub read_variant-returns-then-eq-4-clause-reads : goal.read_variant-returns-then-eq-4-clause-reads
read_variant-returns-then-eq-4-clause-reads g t c =
    let d = g.D.ShapeDeserializer in
    let s0 = d.settings c.args.source.now in
    let r = d.reading s0 in
    let member = site_of c.args.member.now in
    let index : member.view.index ≡ Some 3 = search rules in
    let v = variant_at member 3 c.requires.place index in
    scalar_variant scalars.Boolean boolean attribute_value r _ _ member 3 _ (variants.Bool c.in_ok-read_boolean.field-0) index (v.target (Simple scalars.Boolean) refl) c.in_ok-read_boolean.ensures.read (view-Bool c.in_ok-read_boolean.field-0)

pub read_variant-returns-in_err-read_boolean-2-clause-reads : goal.read_variant-returns-in_err-read_boolean-2-clause-reads
read_variant-returns-in_err-read_boolean-2-clause-reads g t c =
    let d = g.D.ShapeDeserializer in
    let s0 = d.settings c.args.source.now in
    let r = d.reading s0 in
    let member = site_of c.args.member.now in
    let index : member.view.index ≡ Some 4 = search rules in
    let v = variant_at member 4 c.requires.place index in
    let p = err_from_is_err_and c.from_residual-in_err-read_boolean-2.result c.from_residual-in_err-read_boolean-2.ensures.1 in
    rw (p.1, p.2) (scalar_fails scalars.Boolean boolean attribute_value r _ _ member _ (v.target (Simple scalars.Boolean) refl) c.requires.due c.in_err-read_boolean-2.ensures.read)

pub read_variant-returns-then-eq-5-clause-reads : goal.read_variant-returns-then-eq-5-clause-reads
read_variant-returns-then-eq-5-clause-reads g t c =
    let d = g.D.ShapeDeserializer in
    let s0 = d.settings c.args.source.now in
    let r = d.reading s0 in
    let member = site_of c.args.member.now in
    let index : member.view.index ≡ Some 4 = search rules in
    let v = variant_at member 4 c.requires.place index in
    scalar_variant scalars.Boolean boolean attribute_value r _ _ member 4 _ (variants.Null c.in_ok-read_boolean-2.field-0) index (v.target (Simple scalars.Boolean) refl) c.in_ok-read_boolean-2.ensures.read (view-Null c.in_ok-read_boolean-2.field-0)

pub read_variant-read_attributes-requires : goal.read_variant-read_attributes-requires
read_variant-read_attributes-requires g t c κs within =
    let d = g.D.ShapeDeserializer in
    let s0 = d.settings c.args.source.now in
    let r = d.reading s0 in
    let member = site_of c.args.member.now in
    let index : member.view.index ≡ Some 5 = search rules in
    let v = variant_at member 5 c.requires.place index in
    (omega (arith, c.decreases), (search rules, (c.requires.due, map_variant member v)))

pub read_variant-returns-in_err-read_attributes-clause-reads : goal.read_variant-returns-in_err-read_attributes-clause-reads
read_variant-returns-in_err-read_attributes-clause-reads g t c =
    let d = g.D.ShapeDeserializer in
    let s0 = d.settings c.args.source.now in
    let r = d.reading s0 in
    let member = site_of c.args.member.now in
    let index : member.view.index ≡ Some 5 = search rules in
    let v = variant_at member 5 c.requires.place index in
    let p = err_from_is_err_and c.from_residual-in_err-read_attributes.result c.from_residual-in_err-read_attributes.ensures.1 in
    rw (p.1, p.2) (inner_fails (λ m. map (attribute_entries m.entries)) attribute_value (d.reading s0).wire _ _ member _ c.in_err-read_attributes.ensures.reads)

pub read_variant-returns-then-eq-6-clause-reads : goal.read_variant-returns-then-eq-6-clause-reads
read_variant-returns-then-eq-6-clause-reads g t c =
    let d = g.D.ShapeDeserializer in
    let s0 = d.settings c.args.source.now in
    let r = d.reading s0 in
    let member = site_of c.args.member.now in
    let index : member.view.index ≡ Some 5 = search rules in
    let v = variant_at member 5 c.requires.place index in
    inner_variant (λ m. map (attribute_entries m.entries)) attribute_value (d.reading s0).wire _ _ member 5 _ (views.M c.in_ok-read_attributes.field-0) index c.in_ok-read_attributes.ensures.reads (view-M c.in_ok-read_attributes.field-0)

pub read_variant-read_attribute_list-requires : goal.read_variant-read_attribute_list-requires
read_variant-read_attribute_list-requires g t c κs within =
    let d = g.D.ShapeDeserializer in
    let s0 = d.settings c.args.source.now in
    let r = d.reading s0 in
    let member = site_of c.args.member.now in
    let not_0 : member.view.index ≢ Some 0 = search rules in
    let not_1 : member.view.index ≢ Some 1 = search rules in
    let not_2 : member.view.index ≢ Some 2 = search rules in
    let not_3 : member.view.index ≢ Some 3 = search rules in
    let not_4 : member.view.index ≢ Some 4 = search rules in
    let not_5 : member.view.index ≢ Some 5 = search rules in
    let index = last_variant member c.requires.place (not_5, (not_4, (not_3, (not_2, (not_1, (not_0, tt)))))) in
    (omega (arith, c.decreases), (search rules, (c.requires.due, list_variant member (variant_at member 6 c.requires.place index))))

pub read_variant-returns-in_err-read_attribute_list-clause-reads : goal.read_variant-returns-in_err-read_attribute_list-clause-reads
read_variant-returns-in_err-read_attribute_list-clause-reads g t c =
    let d = g.D.ShapeDeserializer in
    let s0 = d.settings c.args.source.now in
    let r = d.reading s0 in
    let member = site_of c.args.member.now in
    let p = err_from_is_err_and c.from_residual-in_err-read_attribute_list.result c.from_residual-in_err-read_attribute_list.ensures.1 in
    rw (p.1, p.2) (inner_fails (λ v. list (values_of (attribute_values v.items))) attribute_value (d.reading s0).wire _ _ member _ c.in_err-read_attribute_list.ensures.reads)

pub read_variant-returns-clause-reads : goal.read_variant-returns-clause-reads
read_variant-returns-clause-reads g t c =
    let d = g.D.ShapeDeserializer in
    let s0 = d.settings c.args.source.now in
    let r = d.reading s0 in
    let member = site_of c.args.member.now in
    let not_0 : member.view.index ≢ Some 0 = search rules in
    let not_1 : member.view.index ≢ Some 1 = search rules in
    let not_2 : member.view.index ≢ Some 2 = search rules in
    let not_3 : member.view.index ≢ Some 3 = search rules in
    let not_4 : member.view.index ≢ Some 4 = search rules in
    let not_5 : member.view.index ≢ Some 5 = search rules in
    let index = last_variant member c.requires.place (not_5, (not_4, (not_3, (not_2, (not_1, (not_0, tt)))))) in
    inner_variant (λ v. list (values_of (attribute_values v.items))) attribute_value (d.reading s0).wire _ _ member 6 _ (views.L c.in_ok-read_attribute_list.field-0) index c.in_ok-read_attribute_list.ensures.reads (view-L c.in_ok-read_attribute_list.field-0)

pub read_attributes-unreachable-unreachable : goal.read_attributes-unreachable-unreachable
read_attributes-unreachable-unreachable g t c =
    entries_there (site_of c.args.schema.now) c.requires.place c.in_default.ensures

pub read_attributes-open_map-requires : goal.read_attributes-open_map-requires
read_attributes-open_map-requires g t c =
    record { place = entries_map (site_of c.args.schema.now) c.requires.place }

pub read_attributes-returns-in_err-open_map-clause-reads : goal.read_attributes-returns-in_err-open_map-clause-reads
read_attributes-returns-in_err-open_map-clause-reads g t c =
    let d = g.D.ShapeDeserializer in
    let s0 = d.settings c.args.source.now in
    let w = (d.reading s0).wire in
    let max = (d.reading s0).max_depth in
    let laws = g.met.D.ShapeDeserializer.lawful s0 in
    let outer = site_of c.args.schema.now in
    let p = err_from_is_err_and c.from_residual.result c.from_residual.ensures.1 in
    rw (p.1, p.2) (not_opened w max laws (λ m. map (attribute_entries m.entries)) outer (d.state c.args.source.now) (d.state c.open_map.new.self) c.in_err-open_map.field-0.0 (map_contains (kind_at outer) (entries_map outer c.requires.place)) c.requires.due c.in_err-open_map.ensures.opens.conduct c.in_err-open_map.ensures.opens.refused)

pub read_attributes-loop-entries-init : goal.read_attributes-loop-entries-init
read_attributes-loop-entries-init g t c =
    let d = g.D.ShapeDeserializer in
    let s0 = d.settings c.args.source.now in
    let w = (d.reading s0).wire in
    let max = (d.reading s0).max_depth in
    let laws = g.met.D.ShapeDeserializer.lawful s0 in
    let outer = site_of c.args.schema.now in
    let kind = entries_map outer c.requires.place in
    let inside = entries_inside outer (site_of c.in-Some.inner) c.requires.place c.in-Some.ensures in
    let fresh : c.new-entries.result.entries ≡ [] = search rules in
    record {
      same = c.open_map.ensures.same;
      half = rw fresh (begin_map w w max laws laws (itself w) _ _ _ _ kind c.in_ok-open_map.ensures.opens.ok);
    }

pub read_attributes-returns-in_err-key-clause-reads : goal.read_attributes-returns-in_err-key-clause-reads
read_attributes-returns-in_err-key-clause-reads g t c =
    let d = g.D.ShapeDeserializer in
    let s0 = d.settings c.args.source.now in
    let w = (d.reading s0).wire in
    let max = (d.reading s0).max_depth in
    let laws = g.met.D.ShapeDeserializer.lawful s0 in
    let outer = site_of c.args.schema.now in
    let kind = entries_map outer c.requires.place in
    let inside = entries_inside outer (site_of c.in-Some.inner) c.requires.place c.in-Some.ensures in
    let half = c.loop-entries.invariant.half in
    let same = c.loop-entries.invariant.same in
    let p = err_from_is_err_and c.from_residual-in_err-key.result c.from_residual-in_err-key.ensures.1 in
    rw (p.1, p.2) (goes_no_further w max laws (λ m. map (attribute_entries m.entries)) outer _ _ _ _ _ _ half (was_read _ _ c.in_ok-open_map.ensures.opens.conduct.failed) c.in_err-key.ensures.goes_on.conduct
    (λ fault due. rw same at (c.in_err-key.ensures.goes_on.refused fault due c.args.schema.now.shapes.now c.args.schema.now.place kind)))

pub read_attributes-read_attribute_value-requires : goal.read_attributes-read_attribute_value-requires
read_attributes-read_attribute_value-requires g t c κs within =
    let d = g.D.ShapeDeserializer in
    let s0 = d.settings c.args.source.now in
    let w = (d.reading s0).wire in
    let max = (d.reading s0).max_depth in
    let laws = g.met.D.ShapeDeserializer.lawful s0 in
    let outer = site_of c.args.schema.now in
    let kind = entries_map outer c.requires.place in
    let inside = entries_inside outer (site_of c.in-Some.inner) c.requires.place c.in-Some.ensures in
    let half = c.loop-entries.invariant.half in
    let kept = c.loop-entries.invariant.same in
    let step = rw (c.in-Some-2.is, kept) at (c.in_ok-key.ensures.goes_on.ok half.due c.args.schema.now.shapes.now c.args.schema.now.place kind) in
    let same = c.next_key.ensures.same ∙ kept in
    let most : (d.reading (d.settings c.next_key.new.self)).max_depth ≡ max = ap (λ s. (d.reading s).max_depth) same in
    let level : depth (d.state c.next_key.new.self) ≡ suc (depth (d.state c.args.source.now)) = ap length (step.outer ∙ half.outer) in
    let shallow = half.shallow in
    (omega (arith, most, level, shallow, c.decreases), (search rules, (step.due, inside.1)))

pub read_attributes-returns-in_err-value-clause-reads : goal.read_attributes-returns-in_err-value-clause-reads
read_attributes-returns-in_err-value-clause-reads g t c =
    let d = g.D.ShapeDeserializer in
    let s0 = d.settings c.args.source.now in
    let w = (d.reading s0).wire in
    let max = (d.reading s0).max_depth in
    let laws = g.met.D.ShapeDeserializer.lawful s0 in
    let outer = site_of c.args.schema.now in
    let kind = entries_map outer c.requires.place in
    let inside = entries_inside outer (site_of c.in-Some.inner) c.requires.place c.in-Some.ensures in
    let half = c.loop-entries.invariant.half in
    let same = c.loop-entries.invariant.same in
    let step = rw (c.in-Some-2.is, same) at (c.in_ok-key.ensures.goes_on.ok half.due c.args.schema.now.shapes.now c.args.schema.now.place kind) in
    let p = err_from_is_err_and c.from_residual-in_err-value.result c.from_residual-in_err-value.ensures.1 in
    rw (p.1, p.2) (entry_fails w max laws attribute_value (λ m. map (attribute_entries m.entries)) outer (site_of c.in-Some.inner) _ _ _ _ _ _ _ kind inside.0 half (was_read _ _ c.in_ok-open_map.ensures.opens.conduct.failed) step (rw (c.next_key.ensures.same, same) at c.in_err-value.ensures.reads))

pub read_attributes-returns-in-Err-clause-reads : goal.read_attributes-returns-in-Err-clause-reads
read_attributes-returns-in-Err-clause-reads g t c =
    let d = g.D.ShapeDeserializer in
    let w = (d.reading (d.settings c.args.source.now)).wire in
    let sound = was_read _ _ c.in_ok-open_map.ensures.opens.conduct.failed in
    rw c.in-Err.ensures.err (unkept w (λ m. map (attribute_entries m.entries)) (site_of c.args.schema.now) _ _ sound (ap (λ (x : Cursor). x.failed) c.fail.ensures.fails))

pub read_attributes-loop-entries-preserved : goal.read_attributes-loop-entries-preserved
read_attributes-loop-entries-preserved g t c =
    let d = g.D.ShapeDeserializer in
    let s0 = d.settings c.args.source.now in
    let w = (d.reading s0).wire in
    let max = (d.reading s0).max_depth in
    let laws = g.met.D.ShapeDeserializer.lawful s0 in
    let outer = site_of c.args.schema.now in
    let kind = entries_map outer c.requires.place in
    let inside = entries_inside outer (site_of c.in-Some.inner) c.requires.place c.in-Some.ensures in
    let half = c.loop-entries.invariant.half in
    let same = c.loop-entries.invariant.same in
    let step = rw (c.in-Some-2.is, same) at (c.in_ok-key.ensures.goes_on.ok half.due c.args.schema.now.shapes.now c.args.schema.now.place kind) in
    let reads = rw (c.next_key.ensures.same, same) at c.in_ok-value.ensures.reads in
    record {
      same = c.read_attribute_value.ensures.same ∙ c.next_key.ensures.same ∙ same;
      half = entry_passed w max laws attribute_value outer (site_of c.in-Some.inner) _ _ _ _ _ _ _ (string_bytes c.in-Some-2.key) _ kind inside.0 half step reads c.in_default-put_attribute.ensures.ok;
    }

pub read_attributes-returns-clause-reads : goal.read_attributes-returns-clause-reads
read_attributes-returns-clause-reads g t c =
    let d = g.D.ShapeDeserializer in
    let s0 = d.settings c.args.source.now in
    let w = (d.reading s0).wire in
    let max = (d.reading s0).max_depth in
    let laws = g.met.D.ShapeDeserializer.lawful s0 in
    let outer = site_of c.args.schema.now in
    let kind = entries_map outer c.requires.place in
    let inside = entries_inside outer (site_of c.in-Some.inner) c.requires.place c.in-Some.ensures in
    let half = c.loop-entries.invariant.half in
    let same = c.loop-entries.invariant.same in
    let leaves = rw (c.in_default-2.is, same) at (c.in_ok-key.ensures.goes_on.ok half.due c.args.schema.now.shapes.now c.args.schema.now.place kind) in
    ends w max laws (λ m. map (attribute_entries m.entries)) outer _ _ _ _ _ _ half (was_read _ _ c.in_ok-open_map.ensures.opens.conduct.failed) leaves refl

pub read_attributes-loop-entries-smaller : goal.read_attributes-loop-entries-smaller
read_attributes-loop-entries-smaller g t c =
    let d = g.D.ShapeDeserializer in
    let s0 = d.settings c.args.source.now in
    let w = (d.reading s0).wire in
    let max = (d.reading s0).max_depth in
    let laws = g.met.D.ShapeDeserializer.lawful s0 in
    let outer = site_of c.args.schema.now in
    let kind = entries_map outer c.requires.place in
    let inside = entries_inside outer (site_of c.in-Some.inner) c.requires.place c.in-Some.ensures in
    let half = c.loop-entries.invariant.half in
    let same = c.loop-entries.invariant.same in
    let step = rw (c.in-Some-2.is, same) at (c.in_ok-key.ensures.goes_on.ok half.due c.args.schema.now.shapes.now c.args.schema.now.place kind) in
    let reads = rw (c.next_key.ensures.same, same) at c.in_ok-value.ensures.reads in
    rw (c.read_attribute_value.ensures.same, c.next_key.ensures.same, same)
    (map_falls w max laws attribute_value outer (site_of c.in-Some.inner) _ _ _ _ _ (string_bytes c.in-Some-2.key) _ kind inside.0 half step reads)

pub read_attribute_list-unreachable-unreachable : goal.read_attribute_list-unreachable-unreachable
read_attribute_list-unreachable-unreachable g t c =
    elements_there (site_of c.args.schema.now) c.requires.place c.in_default.ensures

pub read_attribute_list-open_list-requires : goal.read_attribute_list-open_list-requires
read_attribute_list-open_list-requires g t c =
    record { place = elements_list (site_of c.args.schema.now) c.requires.place }

pub read_attribute_list-returns-in_err-open_list-clause-reads : goal.read_attribute_list-returns-in_err-open_list-clause-reads
read_attribute_list-returns-in_err-open_list-clause-reads g t c =
    let d = g.D.ShapeDeserializer in
    let s0 = d.settings c.args.source.now in
    let w = (d.reading s0).wire in
    let max = (d.reading s0).max_depth in
    let laws = g.met.D.ShapeDeserializer.lawful s0 in
    let outer = site_of c.args.schema.now in
    let p = err_from_is_err_and c.from_residual.result c.from_residual.ensures.1 in
    rw (p.1, p.2) (not_opened w max laws (λ v. list (values_of (attribute_values v.items))) outer (d.state c.args.source.now) (d.state c.open_list.new.self) c.in_err-open_list.field-0.0 (list_contains (kind_at outer) (elements_list outer c.requires.place)) c.requires.due c.in_err-open_list.ensures.opens.conduct c.in_err-open_list.ensures.opens.refused)

pub read_attribute_list-loop-values-init : goal.read_attribute_list-loop-values-init
read_attribute_list-loop-values-init g t c =
    let d = g.D.ShapeDeserializer in
    let s0 = d.settings c.args.source.now in
    let w = (d.reading s0).wire in
    let max = (d.reading s0).max_depth in
    let laws = g.met.D.ShapeDeserializer.lawful s0 in
    let outer = site_of c.args.schema.now in
    let kind = elements_list outer c.requires.place in
    let inside = elements_inside outer (site_of c.in-Some.inner) c.requires.place c.in-Some.ensures in
    let fresh : c.new-values.result.items ≡ [] = search rules in
    record {
      same = c.open_list.ensures.same;
      half = rw fresh (begin_list w w max laws laws (itself w) _ _ _ _ kind c.in_ok-open_list.ensures.opens.ok);
    }

pub read_attribute_list-returns-in_err-next_element-clause-reads : goal.read_attribute_list-returns-in_err-next_element-clause-reads
read_attribute_list-returns-in_err-next_element-clause-reads g t c =
    let d = g.D.ShapeDeserializer in
    let s0 = d.settings c.args.source.now in
    let w = (d.reading s0).wire in
    let max = (d.reading s0).max_depth in
    let laws = g.met.D.ShapeDeserializer.lawful s0 in
    let outer = site_of c.args.schema.now in
    let kind = elements_list outer c.requires.place in
    let inside = elements_inside outer (site_of c.in-Some.inner) c.requires.place c.in-Some.ensures in
    let half = c.loop-values.invariant.half in
    let same = c.loop-values.invariant.same in
    let p = err_from_is_err_and c.from_residual-in_err-next_element.result c.from_residual-in_err-next_element.ensures.1 in
    rw (p.1, p.2) (goes_no_further w max laws (λ v. list (values_of (attribute_values v.items))) outer _ _ _ _ _ _ half (was_read _ _ c.in_ok-open_list.ensures.opens.conduct.failed) c.in_err-next_element.ensures.goes_on.conduct
    (λ fault due. rw same at (c.in_err-next_element.ensures.goes_on.refused fault due c.args.schema.now.shapes.now c.args.schema.now.place kind)))

pub read_attribute_list-read_attribute_value-requires : goal.read_attribute_list-read_attribute_value-requires
read_attribute_list-read_attribute_value-requires g t c κs within =
    let d = g.D.ShapeDeserializer in
    let s0 = d.settings c.args.source.now in
    let w = (d.reading s0).wire in
    let max = (d.reading s0).max_depth in
    let laws = g.met.D.ShapeDeserializer.lawful s0 in
    let outer = site_of c.args.schema.now in
    let kind = elements_list outer c.requires.place in
    let inside = elements_inside outer (site_of c.in-Some.inner) c.requires.place c.in-Some.ensures in
    let half = c.loop-values.invariant.half in
    let kept = c.loop-values.invariant.same in
    let step = rw (c.if-branch.true, kept) at (c.in_ok-next_element.ensures.goes_on.ok half.due c.args.schema.now.shapes.now c.args.schema.now.place kind) in
    let same = c.next_element.ensures.same ∙ kept in
    let most : (d.reading (d.settings c.next_element.new.self)).max_depth ≡ max = ap (λ s. (d.reading s).max_depth) same in
    let level : depth (d.state c.next_element.new.self) ≡ suc (depth (d.state c.args.source.now)) = ap length (step.outer ∙ half.outer) in
    let shallow = half.shallow in
    (omega (arith, most, level, shallow, c.decreases), (search rules, (step.due, inside.1)))

pub read_attribute_list-returns-in_err-value-clause-reads : goal.read_attribute_list-returns-in_err-value-clause-reads
read_attribute_list-returns-in_err-value-clause-reads g t c =
    let d = g.D.ShapeDeserializer in
    let s0 = d.settings c.args.source.now in
    let w = (d.reading s0).wire in
    let max = (d.reading s0).max_depth in
    let laws = g.met.D.ShapeDeserializer.lawful s0 in
    let outer = site_of c.args.schema.now in
    let kind = elements_list outer c.requires.place in
    let inside = elements_inside outer (site_of c.in-Some.inner) c.requires.place c.in-Some.ensures in
    let half = c.loop-values.invariant.half in
    let same = c.loop-values.invariant.same in
    let step = rw (c.if-branch.true, same) at (c.in_ok-next_element.ensures.goes_on.ok half.due c.args.schema.now.shapes.now c.args.schema.now.place kind) in
    let p = err_from_is_err_and c.from_residual-in_err-value.result c.from_residual-in_err-value.ensures.1 in
    rw (p.1, p.2) (element_fails w max laws attribute_value (λ v. list (values_of (attribute_values v.items))) outer (site_of c.in-Some.inner) _ _ _ _ _ _ kind inside.0 half (was_read _ _ c.in_ok-open_list.ensures.opens.conduct.failed) step (rw (c.next_element.ensures.same, same) at c.in_err-value.ensures.reads))

pub read_attribute_list-returns-in-Err-clause-reads : goal.read_attribute_list-returns-in-Err-clause-reads
read_attribute_list-returns-in-Err-clause-reads g t c =
    let d = g.D.ShapeDeserializer in
    let w = (d.reading (d.settings c.args.source.now)).wire in
    let sound = was_read _ _ c.in_ok-open_list.ensures.opens.conduct.failed in
    rw c.from.ensures (unkept w (λ v. list (values_of (attribute_values v.items))) (site_of c.args.schema.now) _ _ sound (ap (λ (x : Cursor). x.failed) c.fail.ensures.fails))

pub read_attribute_list-loop-values-preserved : goal.read_attribute_list-loop-values-preserved
read_attribute_list-loop-values-preserved g t c =
    let d = g.D.ShapeDeserializer in
    let s0 = d.settings c.args.source.now in
    let w = (d.reading s0).wire in
    let max = (d.reading s0).max_depth in
    let laws = g.met.D.ShapeDeserializer.lawful s0 in
    let outer = site_of c.args.schema.now in
    let kind = elements_list outer c.requires.place in
    let inside = elements_inside outer (site_of c.in-Some.inner) c.requires.place c.in-Some.ensures in
    let half = c.loop-values.invariant.half in
    let same = c.loop-values.invariant.same in
    let step = rw (c.if-branch.true, same) at (c.in_ok-next_element.ensures.goes_on.ok half.due c.args.schema.now.shapes.now c.args.schema.now.place kind) in
    let reads = rw (c.next_element.ensures.same, same) at c.in_ok-value.ensures.reads in
    record {
      same = c.read_attribute_value.ensures.same ∙ c.next_element.ensures.same ∙ same;
      half = rw (c.in_default-push.ensures.items, map-append attribute_value c.loop-values.values.items (c.in_ok-value.value ∷ [])) (element_passed w max laws attribute_value outer (site_of c.in-Some.inner) _ _ _ _ _ _ _ inside.0 half step reads);
    }

pub read_attribute_list-returns-clause-reads : goal.read_attribute_list-returns-clause-reads
read_attribute_list-returns-clause-reads g t c =
    let d = g.D.ShapeDeserializer in
    let s0 = d.settings c.args.source.now in
    let w = (d.reading s0).wire in
    let max = (d.reading s0).max_depth in
    let laws = g.met.D.ShapeDeserializer.lawful s0 in
    let outer = site_of c.args.schema.now in
    let kind = elements_list outer c.requires.place in
    let inside = elements_inside outer (site_of c.in-Some.inner) c.requires.place c.in-Some.ensures in
    let half = c.loop-values.invariant.half in
    let same = c.loop-values.invariant.same in
    let leaves = rw (c.if-branch.false, same) at (c.in_ok-next_element.ensures.goes_on.ok half.due c.args.schema.now.shapes.now c.args.schema.now.place kind) in
    ends w max laws (λ v. list (values_of (attribute_values v.items))) outer _ _ _ _ _ _ half (was_read _ _ c.in_ok-open_list.ensures.opens.conduct.failed) leaves refl

pub read_attribute_list-loop-values-smaller : goal.read_attribute_list-loop-values-smaller
read_attribute_list-loop-values-smaller g t c =
    let d = g.D.ShapeDeserializer in
    let s0 = d.settings c.args.source.now in
    let w = (d.reading s0).wire in
    let max = (d.reading s0).max_depth in
    let laws = g.met.D.ShapeDeserializer.lawful s0 in
    let outer = site_of c.args.schema.now in
    let kind = elements_list outer c.requires.place in
    let inside = elements_inside outer (site_of c.in-Some.inner) c.requires.place c.in-Some.ensures in
    let half = c.loop-values.invariant.half in
    let same = c.loop-values.invariant.same in
    let step = rw (c.if-branch.true, same) at (c.in_ok-next_element.ensures.goes_on.ok half.due c.args.schema.now.shapes.now c.args.schema.now.place kind) in
    let reads = rw (c.next_element.ensures.same, same) at c.in_ok-value.ensures.reads in
    rw (c.read_attribute_value.ensures.same, c.next_element.ensures.same, same)
    (list_falls w max laws attribute_value outer (site_of c.in-Some.inner) _ _ _ _ _ _ inside.0 half step reads)
