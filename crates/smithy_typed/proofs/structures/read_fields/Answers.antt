use Rattle.std.proofs.Common.{refl, false}
use Rattle.std.proofs.lemmas.Result.{err_from_is_err_and}
use Rattle.smithy_shapes.specs.Site.{site_of, kind_at}
use Rattle.smithy_schema.specs.Fields.{structure_with}
use Rattle.smithy_schema.proofs.DeclaredMembers.{structure_type}
use Rattle.smithy_schema.proofs.ReadContainers.{structure_has_members}
use Rattle.smithy_schema.proofs.TypedReads.{structure_reads, structure_fails}
use Rattle.smithy_typed.proofs.Made.{due_made_of, due_not_made}
use Rattle.smithy_typed.proofs.structures.read_fields.Goals as goal

pub read_struct-requires : goal.read_struct-requires
read_struct-requires g c =
    let kind = kind_at (site_of c.args.schema.now) in
    record { place = structure_has_members kind (structure_type kind c.requires.there.1.kind); allowed = c.requires.there }

pub returns-clause-reads : goal.returns-clause-reads
returns-clause-reads g c =
    let d = g.D.ShapeDeserializer in
    let fields = g.L.FieldList.fields in
    let site = site_of c.args.schema.now in
    let s = d.with_nulls false (d.settings c.args.source.now) in
    due_made_of (λ f. structure_with (fields f.list)) (λ list. structure_with (fields list)) (d.reading s).wire _ _ site c.read_struct.new.consumer _ refl
    (structure_reads (λ f. fields f.list) (d.reading s) site (g.met.D.ShapeDeserializer.lawful s) (g.met.D.ShapeDeserializer.drops_nulls (d.settings c.args.source.now)) (structure_type (kind_at site) c.requires.there.1.kind) _ _ _ _ (c.none.ensures 0) c.in_ok-read_struct.ensures.reads.consumes c.in_ok-read_struct.ensures.reads.takes)

pub returns-in_err-read_struct-clause-reads : goal.returns-in_err-read_struct-clause-reads
returns-in_err-read_struct-clause-reads g c =
    let p = err_from_is_err_and c.from_residual.result c.from_residual.ensures.1 in
    let d = g.D.ShapeDeserializer in
    let fields = g.L.FieldList.fields in
    let site = site_of c.args.schema.now in
    let s = d.with_nulls false (d.settings c.args.source.now) in
    rw (p.1, p.2)
    (due_not_made (λ f. structure_with (fields f.list)) (λ list. structure_with (fields list)) (d.reading s).wire _ _ site _
    (structure_fails (λ f. fields f.list) (d.reading s) site (g.met.D.ShapeDeserializer.lawful s) (g.met.D.ShapeDeserializer.drops_nulls (d.settings c.args.source.now)) (structure_type (kind_at site) c.requires.there.1.kind)
    _ _ _ _ c.in_err-read_struct.field-0.0 c.in_err-read_struct.ensures.reads.consumes c.in_err-read_struct.ensures.reads.fails))
