use Rattle.std.proofs.Common.{refl}
use Rattle.std.proofs.lemmas.Result.{err_from_is_err_and}
use Rattle.smithy_shapes.specs.Site.{site_of}
use Rattle.smithy_schema.specs.Writing.{end_structure}
use Rattle.smithy_schema.proofs.WrittenFields.{called, not_had, has_broken}
use Rattle.smithy_schema.proofs.WrittenLemmas.{not_failed}
use Rattle.smithy_schema.proofs.HalfWritten.{first_fails, union_fails, union_ends}
use Rattle.smithy_typed.proofs.variants.write_variant.Goals as goal

pub returns-in_err-begin_struct : goal.returns-in_err-begin_struct
returns-in_err-begin_struct g c =
    let s = g.S.ShapeSerializer in
    let first = s.state c.args.sink.now in
    let p = err_from_is_err_and c.from_residual.result c.from_residual.ensures.1 in
    let told = c.in_err-begin_struct.ensures in
    record { writes = rw (p.1, p.2) (record { runs = first_fails s.after _ _ first _ _ c.requires.sound told.failed told.refused; sound = tt; broken = told.broken.0 refl }) }

pub write_to-requires : goal.write_to-requires
write_to-requires g c = record { sound = not_failed _ _ c.in_ok-begin_struct.ensures.broken }

pub returns-in_err-write_to : goal.returns-in_err-write_to
returns-in_err-write_to g c =
    let s = g.S.ShapeSerializer in
    let site = site_of c.args.schema.now in
    let first = s.state c.args.sink.now in
    let p = err_from_is_err_and c.from_residual-in_err-write_to.result c.from_residual-in_err-write_to.ensures.1 in
    let runs = rw c.member_under.ensures at c.in_err-write_to.ensures.writes.runs in
    record { writes = rw (p.1, p.2) (record { runs = union_fails s.after site c.args.position (g.T.Typed.value c.args.value.now) first _ _ c.in_ok-begin_struct.ensures.ok runs; sound = tt; broken = c.in_err-write_to.ensures.writes.broken }) }

pub returns : goal.returns
returns g c =
    let s = g.S.ShapeSerializer in
    let site = site_of c.args.schema.now in
    let first = s.state c.args.sink.now in
    let told = c.end_struct.ensures in
    let runs = rw c.member_under.ensures at c.in_ok-write_to.ensures.writes.runs in
    record {
      writes = record {
        runs = union_ends s.after site c.args.position (g.T.Typed.value c.args.value.now) first _ _ _ c.in_ok-begin_struct.ensures.ok runs
            (called s.after end_structure _ _ _ c.end_struct.result c.in_ok-write_to.ensures.writes.sound told.failed told.ok told.refused);
        sound = not_had c.end_struct.result _ told.broken;
        broken = has_broken c.end_struct.result _ told.broken;
      };
    }
