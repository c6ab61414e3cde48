use Rattle.std.proofs.Common.{refl, ◌+◌, drop, length, map}
use Rattle.std.proofs.lemmas.Result.{err_from_is_err_and}
use Rattle.std.proofs.lemmas.List.{drop_all}
use Rattle.smithy_shapes.specs.Site.{site_of, element_of}
use Rattle.smithy_schema.specs.Writing.{end_list}
use Rattle.smithy_schema.proofs.WrittenFields.{called, not_had, has_broken}
use Rattle.smithy_schema.proofs.WrittenLemmas.{not_failed}
use Rattle.smithy_schema.proofs.WrittenLists.{next_element}
use Rattle.smithy_schema.proofs.HalfWritten.{list_fails, list_begun, element_fails, element_goes}
use Rattle.smithy_typed.proofs.lists.write_list.Goals as goal

pub returns-in_err-begin_list : goal.returns-in_err-begin_list
returns-in_err-begin_list g c =
    let view = g.T.Typed.value in
    let s = g.S.ShapeSerializer in
    let site = site_of c.args.schema.now in
    let first = s.state c.args.sink.now in
    let all = c.args.values.now in
    let p = err_from_is_err_and c.from_residual.result c.from_residual.ensures.1 in
    let call = c.in_err-begin_list.ensures in
    record { writes = rw (p.1, p.2) (record { runs = list_fails s.after view site all (length all) first _ _ refl c.requires.sound call.failed call.refused; sound = tt; broken = call.broken.0 refl }) }

pub loop-value-init : goal.loop-value-init
loop-value-init g c =
    let view = g.T.Typed.value in
    let s = g.S.ShapeSerializer in
    let site = site_of c.args.schema.now in
    let first = s.state c.args.sink.now in
    let all = c.args.values.now in
    record {
      sound = not_failed _ _ c.in_ok-begin_list.ensures.broken;
      rest = λ r more. list_begun s.after view site all (length all) first _ r refl c.in_ok-begin_list.ensures.ok more;
    }

pub write_to-requires : goal.write_to-requires
write_to-requires g c = record { sound = c.loop-value.invariant.sound }

pub returns-in_err-write_to : goal.returns-in_err-write_to
returns-in_err-write_to g c =
    let view = g.T.Typed.value in
    let s = g.S.ShapeSerializer in
    let site = site_of c.args.schema.now in
    let first = s.state c.args.sink.now in
    let all = c.args.values.now in
    let inner = element_of site in
    let next = next_element view all c.loop-value.value-index c.value-item.result _ c.loop-value-test.true c.value-item.is refl in
    let value = view c.value-item.result in
    let vs = map view (drop c.loop-value.value-index all) in
    let ws = map view (drop (c.loop-value.value-index + 1) all) in
    let p = err_from_is_err_and c.from_residual-in_err-write_to.result c.from_residual-in_err-write_to.ensures.1 in
    let runs = rw c.elements_under-element_schema.ensures at c.in_err-write_to.ensures.writes.runs in
    record {
      writes = rw (p.1, p.2) (record {
        runs = c.loop-value.invariant.rest _ (element_fails s.after inner value vs ws _ _ next runs);
        sound = tt;
        broken = c.in_err-write_to.ensures.writes.broken;
      });
    }

pub loop-value-preserved : goal.loop-value-preserved
loop-value-preserved g c =
    let view = g.T.Typed.value in
    let s = g.S.ShapeSerializer in
    let site = site_of c.args.schema.now in
    let first = s.state c.args.sink.now in
    let all = c.args.values.now in
    let inner = element_of site in
    let next = next_element view all c.loop-value.value-index c.value-item.result _ c.loop-value-test.true c.value-item.is refl in
    let value = view c.value-item.result in
    let vs = map view (drop c.loop-value.value-index all) in
    let ws = map view (drop (c.loop-value.value-index + 1) all) in
    let runs = rw c.elements_under-element_schema.ensures at c.in_ok-write_to.ensures.writes.runs in
    record {
      sound = c.in_ok-write_to.ensures.writes.sound;
      rest = λ r more. c.loop-value.invariant.rest r (element_goes s.after inner value vs ws _ _ r next runs more);
    }

pub returns : goal.returns
returns g c =
    let view = g.T.Typed.value in
    let s = g.S.ShapeSerializer in
    let site = site_of c.args.schema.now in
    let first = s.state c.args.sink.now in
    let over = drop_all c.loop-value.value-index c.args.values.now c.loop-value-test.false in
    let told = c.end_list.ensures in
    record {
      writes = record {
        runs = (rw over at c.loop-value.invariant.rest) _ (called s.after end_list _ _ _ c.end_list.result c.loop-value.invariant.sound told.failed told.ok told.refused);
        sound = not_had c.end_list.result _ told.broken;
        broken = has_broken c.end_list.result _ told.broken;
      };
    }
