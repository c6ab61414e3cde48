use Rattle.std.proofs.Common.{◌≡◌, [], rules, ◌∙◌, get_or, pos, map, to_z, of_z}
use Rattle.std.specs.Int.{w64}
use Rattle.std.proofs.lemmas.Result.{err_from_is_err_and}
use Rattle.std.proofs.lemmas.List.{drop_all}
use Rattle.smithy_shapes.specs.Site.{site_of}
use Rattle.smithy_declarations.specs.Value.{scalar_value, whole}
use Rattle.smithy_schema.specs.Writing.{end_list}
use Rattle.smithy_schema.proofs.ConsumingLemmas.{was_sound}
use Rattle.smithy_schema.proofs.WrittenLemmas.{not_failed, failed_neither, ended_ok, ended_refused}
use Rattle.smithy_schema.proofs.WritingLemmas.{call_made, call_refused}
use Rattle.smithy_shapes.proofs.Inner.{inner_element}
use Rattle.smithy_schema.proofs.WrittenLists as lists
use Rattle.smithy_schema.proofs.write.ShapeSerializer.write_long_list.Goals as goal

pub returns-in_err-begin_list : goal.returns-in_err-begin_list
returns-in_err-begin_list g c =
    let p = err_from_is_err_and c.from_residual.result c.from_residual.ensures.1 in
    let values = map (λ n. scalar_value (whole n)) c.args.values.now in
    let e = c.in_err-begin_list.ensures in
    rw (p.1, p.2) (record {
      failed = e.failed;
      broken = e.broken;
      ok = tt;
      refused = λ fault. lists.list_refused g.Self.ShapeSerializer.after (site_of c.args.schema.now) values _ (g.Self.ShapeSerializer.state c.args.self.now) _
          (lists.told (λ n. scalar_value (whole n)) c.args.values.now) (e.refused fault);
    })

pub loop-value-init : goal.loop-value-init
loop-value-init g c =
    let values = map (λ n. scalar_value (whole n)) c.args.values.now in
    record {
      before = was_sound _ _ c.in_ok-begin_list.ensures.failed;
      failed = not_failed _ _ c.in_ok-begin_list.ensures.broken;
      rest = lists.list_begun g.Self.ShapeSerializer.after (site_of c.args.schema.now) values _ (g.Self.ShapeSerializer.state c.args.self.now) _
          (lists.told (λ n. scalar_value (whole n)) c.args.values.now) c.in_ok-begin_list.ensures.ok;
    }

-- a number refused
pub returns-in_err-write_long : goal.returns-in_err-write_long
returns-in_err-write_long g c =
    let p = err_from_is_err_and c.from_residual-in_err-write_long.result c.from_residual-in_err-write_long.ensures.1 in
    let number : to_z w64 (of_z w64 (get_or c.args.values.now c.loop-value.value-index (pos 0))) ≡ get_or c.args.values.now c.loop-value.value-index (pos 0) = search rules in
    let next = lists.next_number (λ n. scalar_value (whole n)) c.args.values.now c.loop-value.value-index (pos 0) c.loop-value-test.true in
    let outer = site_of c.args.schema.now in
    let site = lists.element_site_is outer (site_of c.in-Some.member) (site_of c.nameless-element.result) (inner_element outer _ c.requires.place c.in-Some.ensures) c.nameless-element.ensures in
    let e = c.in_err-write_long.ensures in
    rw (p.1, p.2) (record {
      failed = failed_neither _ _ _ c.loop-value.invariant.before c.loop-value.invariant.failed e.failed;
      broken = e.broken;
      ok = tt;
      refused = λ fault. c.loop-value.invariant.rest
          ∙ lists.element_refused g.Self.ShapeSerializer.after outer _ _ _ (g.Self.ShapeSerializer.state c.loop-value.self) _ next
          (call_refused g.Self.ShapeSerializer.after _ [] _ _ (rw (site, number) at (e.refused fault)));
    })

pub loop-value-preserved : goal.loop-value-preserved
loop-value-preserved g c =
    let number : to_z w64 (of_z w64 (get_or c.args.values.now c.loop-value.value-index (pos 0))) ≡ get_or c.args.values.now c.loop-value.value-index (pos 0) = search rules in
    let next = lists.next_number (λ n. scalar_value (whole n)) c.args.values.now c.loop-value.value-index (pos 0) c.loop-value-test.true in
    let outer = site_of c.args.schema.now in
    let site = lists.element_site_is outer (site_of c.in-Some.member) (site_of c.nameless-element.result) (inner_element outer _ c.requires.place c.in-Some.ensures) c.nameless-element.ensures in
    record {
      before = c.loop-value.invariant.before;
      failed = not_failed _ _ c.in_ok-write_long.ensures.broken;
      rest = c.loop-value.invariant.rest
          ∙ lists.element_written g.Self.ShapeSerializer.after outer _ _ _ (g.Self.ShapeSerializer.state c.loop-value.self) _ next
          (call_made g.Self.ShapeSerializer.after _ [] _ _ (rw (site, number) at c.in_ok-write_long.ensures.ok));
    }

-- the last call ends the list
pub returns : goal.returns
returns g c =
    let over = drop_all c.loop-value.value-index c.args.values.now c.loop-value-test.false in
    let rest = rw over at c.loop-value.invariant.rest in
    let ended = c.end_list.ensures in
    record {
      failed = failed_neither _ _ _ c.loop-value.invariant.before c.loop-value.invariant.failed ended.failed;
      broken = ended.broken;
      ok = ended_ok g.Self.ShapeSerializer.after end_list _ (g.Self.ShapeSerializer.state c.loop-value.self) _ c.end_list.result rest ended.ok;
      refused = ended_refused g.Self.ShapeSerializer.after end_list _ (g.Self.ShapeSerializer.state c.loop-value.self) c.end_list.result rest ended.refused;
    }
