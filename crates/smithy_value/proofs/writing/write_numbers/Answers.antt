use Rattle.std.proofs.Common.{◌≡◌, [], rules, ◌∙◌, get_or, pos, to_z, of_z}
use Rattle.std.specs.Int.{w128}
use Rattle.std.proofs.lemmas.Result.{err_from_is_err_and}
use Rattle.std.proofs.lemmas.List.{drop_all}
use Rattle.smithy_shapes.specs.Site.{site_of}
use Rattle.smithy_schema.specs.Writing.{end_list}
use Rattle.smithy_tree.specs.Items.{whole_value, whole_values}
use Rattle.smithy_schema.proofs.WritingLemmas.{call_made, call_refused}
use Rattle.smithy_shapes.proofs.Inner.{inner_element}
use Rattle.smithy_schema.proofs.WrittenLists as lists
use Rattle.smithy_value.proofs.WriteAnswers.{called, had_not_failed, has_not_failed, first_fails, later_fails, last_called}
use Rattle.smithy_value.proofs.writing.write_numbers.Goals as goal

pub returns-in_err-begin_list : goal.returns-in_err-begin_list
returns-in_err-begin_list g c =
    let told = c.in_err-begin_list.ensures in
    let p = err_from_is_err_and c.from_residual.result c.from_residual.ensures.1 in
    record {
      writes = rw (p.1, p.2)
          (first_fails _ _ _ _ _ _ (called _ _ _ _ _ told.failed told.broken tt told.refused)
          (lists.list_refused g.S.ShapeSerializer.after (site_of c.args.schema.now) (whole_values c.args.numbers.now) _ (g.S.ShapeSerializer.state c.args.sink.now) _ (lists.told whole_value c.args.numbers.now)));
    }

pub loop-number-init : goal.loop-number-init
loop-number-init g c = record {
  before = had_not_failed _ _ c.in_ok-begin_list.ensures.failed;
  failed = has_not_failed _ _ c.in_ok-begin_list.ensures.broken;
  rest = lists.list_begun g.S.ShapeSerializer.after (site_of c.args.schema.now) (whole_values c.args.numbers.now) _ (g.S.ShapeSerializer.state c.args.sink.now) _ (lists.told whole_value c.args.numbers.now) c.in_ok-begin_list.ensures.ok;
  fits = c.requires.fits.1;
}

pub write_whole_number-requires : goal.write_whole_number-requires
write_whole_number-requires g c =
    let number : to_z w128 (of_z w128 c.from.result) ≡ get_or c.args.numbers.now c.loop-number.number-index (pos 0) = search rules in
    let next = lists.next_number whole_value c.args.numbers.now c.loop-number.number-index (pos 0) c.loop-number-test.true in
    record {
      fits = rw number (lists.element_fits (site_of c.args.schema.now) (site_of c.in-Some.member) (site_of c.nameless-element_schema.result) _ _ _ (inner_element (site_of c.args.schema.now) _ c.requires.fits.0 c.in-Some.ensures) c.nameless-element_schema.ensures next c.loop-number.invariant.fits);
    }

pub returns-in_err-write_whole_number : goal.returns-in_err-write_whole_number
returns-in_err-write_whole_number g c =
    let p = err_from_is_err_and c.from_residual-in_err-write_whole_number.result c.from_residual-in_err-write_whole_number.ensures.1 in
    let number : to_z w128 (of_z w128 c.from.result) ≡ get_or c.args.numbers.now c.loop-number.number-index (pos 0) = search rules in
    let next = lists.next_number whole_value c.args.numbers.now c.loop-number.number-index (pos 0) c.loop-number-test.true in
    let site = lists.element_site_is (site_of c.args.schema.now) (site_of c.in-Some.member) (site_of c.nameless-element_schema.result) (inner_element (site_of c.args.schema.now) _ c.requires.fits.0 c.in-Some.ensures) c.nameless-element_schema.ensures in
    record {
      writes = rw (p.1, p.2)
          (later_fails _ _ _ _ _ _ _ c.loop-number.invariant.before c.loop-number.invariant.failed (rw (site, number) at c.in_err-write_whole_number.ensures.writes)
          (λ refused. c.loop-number.invariant.rest ∙ lists.element_refused g.S.ShapeSerializer.after (site_of c.args.schema.now) _ _ _ (g.S.ShapeSerializer.state c.loop-number.sink) _ next (call_refused g.S.ShapeSerializer.after _ [] _ _ refused)));
    }

pub loop-number-preserved : goal.loop-number-preserved
loop-number-preserved g c =
    let next = lists.next_number whole_value c.args.numbers.now c.loop-number.number-index (pos 0) c.loop-number-test.true in
    let site = lists.element_site_is (site_of c.args.schema.now) (site_of c.in-Some.member) (site_of c.nameless-element_schema.result) (inner_element (site_of c.args.schema.now) _ c.requires.fits.0 c.in-Some.ensures) c.nameless-element_schema.ensures in
    let number : to_z w128 (of_z w128 c.from.result) ≡ get_or c.args.numbers.now c.loop-number.number-index (pos 0) = search rules in
    record {
      before = c.loop-number.invariant.before;
      failed = has_not_failed _ _ c.in_ok-write_whole_number.ensures.writes.broken;
      rest = c.loop-number.invariant.rest ∙ lists.element_written g.S.ShapeSerializer.after (site_of c.args.schema.now) _ _ _ (g.S.ShapeSerializer.state c.loop-number.sink) _ next (call_made g.S.ShapeSerializer.after _ [] _ _ (rw (site, number) at c.in_ok-write_whole_number.ensures.writes.ok));
      fits = lists.rest_fits (site_of c.args.schema.now) _ _ _ next c.loop-number.invariant.fits;
    }

-- they are longs
pub returns-in-Long : goal.returns-in-Long
returns-in-Long g c =
    let told = c.write_long_list.ensures in
    record { writes = called _ _ _ _ _ told.failed told.broken told.ok told.refused }

-- the last call ends the list
pub returns : goal.returns
returns g c =
    let told = c.end_list.ensures in
    let over = drop_all c.loop-number.number-index c.args.numbers.now c.loop-number-test.false in
    record { writes = last_called g.S.ShapeSerializer.after end_list _ _ _ _ _ _ c.end_list.result c.loop-number.invariant.before c.loop-number.invariant.failed (rw over at c.loop-number.invariant.rest) (called _ _ _ _ _ told.failed told.broken told.ok told.refused) }
