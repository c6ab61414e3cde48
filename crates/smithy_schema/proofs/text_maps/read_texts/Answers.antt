use Rattle.std.proofs.Common.{refl, sym, ap}
use Rattle.std.proofs.lemmas.Result.{err_from_is_err_and}
use Rattle.smithy_shapes.specs.Site.{site_of}
use Rattle.smithy_schema.specs.TextMaps.{text_entries}
use Rattle.smithy_schema.proofs.ReadTexts.{all_read, not_read, through_entries}
use Rattle.smithy_schema.proofs.text_maps.read_texts.Goals as goal

pub returns-in_err-read_map-clause-read : goal.returns-in_err-read_map-clause-read
returns-in_err-read_map-clause-read g c =
    let p = err_from_is_err_and c.from_residual.result c.from_residual.ensures.1 in
    let d = g.D.ShapeDeserializer in
    let o = d.settings c.args.source.now in
    let r = d.reading o in
    let outer = site_of c.args.schema.now in
    let inner = site_of c.in-Some.value in
    rw (p.1, p.2)
    (not_read r outer inner (g.met.D.ShapeDeserializer.lawful o) (g.met.D.ShapeDeserializer.lifted_lawful o) (g.met.D.ShapeDeserializer.above o) (sym c.in-Some.ensures)
    (text_entries c.read_map.new.consumer.entries.entries) _ _ _ c.in_err-read_map.ensures.reads.fails
    (through_entries r outer inner (λ e. text_entries e.entries.entries) (λ e. site_of e.value) _ _ _ _ _ refl (ap text_entries c.new.ensures.empty) c.in_err-read_map.ensures.reads.consumes))

pub returns-clause-read : goal.returns-clause-read
returns-clause-read g c =
    let d = g.D.ShapeDeserializer in
    let o = d.settings c.args.source.now in
    let r = d.reading o in
    let outer = site_of c.args.schema.now in
    let inner = site_of c.in-Some.value in
    all_read r outer inner (g.met.D.ShapeDeserializer.lawful o) (sym c.in-Some.ensures) (text_entries c.read_map.new.consumer.entries.entries) _ _
    (through_entries r outer inner (λ e. text_entries e.entries.entries) (λ e. site_of e.value) _ _ _ _ _ refl (ap text_entries c.new.ensures.empty) c.in_ok-read_map.ensures.reads.consumes)
