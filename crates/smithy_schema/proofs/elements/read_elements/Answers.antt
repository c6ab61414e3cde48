use Rattle.std.proofs.Common.{refl, sym}
use Rattle.std.proofs.lemmas.Result.{err_from_is_err_and}
use Rattle.smithy_shapes.specs.Site.{site_of}
use Rattle.smithy_schema.proofs.ReadElements.{all_read, not_read, no_memory_for_it, through_items}
use Rattle.smithy_schema.proofs.elements.read_elements.Goals as goal

pub returns-in-Err-clause-read : goal.returns-in-Err-clause-read
returns-in-Err-clause-read g c =
    let outer = site_of c.args.schema.now in
    rw (c.from.ensures, c.fail.ensures.fails)
    (no_memory_for_it g.T.ReadScalar.kind g.T.ReadScalar.scalar _ outer outer (g.met.D.ShapeDeserializer.lawful _) _ (c.in-Err.ensures.due refl) (c.in-Err.ensures.sound refl))

pub returns-in_err-read_list-clause-read : goal.returns-in_err-read_list-clause-read
returns-in_err-read_list-clause-read g c =
    let p = err_from_is_err_and c.from_residual.result c.from_residual.ensures.1 in
    let d = g.D.ShapeDeserializer in
    let o = d.settings c.args.source.now in
    let r = d.reading o in
    let outer = site_of c.args.schema.now in
    let inner = site_of c.in-Some.element in
    rw (p.1, p.2)
    (not_read g.T.ReadScalar.kind g.T.ReadScalar.scalar r outer inner (g.met.D.ShapeDeserializer.lawful o) (g.met.D.ShapeDeserializer.lifted_lawful o) (g.met.D.ShapeDeserializer.above o) (sym c.in-Some.ensures)
    c.read_list.new.consumer.items.items _ _ _ c.in_err-read_list.ensures.reads.fails
    (through_items g.T.ReadScalar.kind g.T.ReadScalar.scalar r outer inner (λ e. e.items.items) (λ e. site_of e.element) _ _ _ _ _ refl c.in-Ok.ensures.empty c.in_err-read_list.ensures.reads.consumes))

pub returns-clause-read : goal.returns-clause-read
returns-clause-read g c =
    let d = g.D.ShapeDeserializer in
    let o = d.settings c.args.source.now in
    let r = d.reading o in
    let outer = site_of c.args.schema.now in
    let inner = site_of c.in-Some.element in
    all_read g.T.ReadScalar.kind g.T.ReadScalar.scalar r outer inner (g.met.D.ShapeDeserializer.lawful o) (sym c.in-Some.ensures) c.read_list.new.consumer.items.items _ _
    (through_items g.T.ReadScalar.kind g.T.ReadScalar.scalar r outer inner (λ e. e.items.items) (λ e. site_of e.element) _ _ _ _ _ refl c.in-Ok.ensures.empty c.in_ok-read_list.ensures.reads.consumes)
