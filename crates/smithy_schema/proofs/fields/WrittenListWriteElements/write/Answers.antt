use Rattle.std.proofs.Common.{refl, sym, ◌∙◌, ◌+◌, subst, drop}
use Rattle.std.proofs.lemmas.Result.{err_from_is_err_and}
use Rattle.std.proofs.lemmas.List.{drop_all}
use Rattle.smithy_shapes.specs.Site.{site_of}
use Rattle.smithy_schema.specs.Fields.{structure_with, structures_with, members_at}
use Rattle.smithy_schema.specs.Writing.{open_list}
use Rattle.smithy_schema.specs.Written.{ran, IsInside}
use Rattle.smithy_schema.proofs.WrittenLemmas.{not_failed}
use Rattle.smithy_schema.proofs.WrittenLists.{next_element}
use Rattle.smithy_schema.proofs.WrittenFields.{structure_runs, element_fails, element_goes, list_stays}
use Rattle.smithy_schema.proofs.fields.WrittenListWriteElements.write.Goals as goal

pub loop-element-init : goal.loop-element-init
loop-element-init g c =
    let s = g.S.ShapeSerializer in
    record {
      rest = λ r h. h;
      nests = refl;
      inside = subst (λ o. IsInside o (s.open_in (s.state c.args.sink.now))) c.requires.inside.1 c.requires.inside.2;
      sound = c.requires.sound;
    }

pub returns-in_err-write_struct-clause-adds : goal.returns-in_err-write_struct-clause-adds
returns-in_err-write_struct-clause-adds g c =
    let p = err_from_is_err_and c.from_residual.result c.from_residual.ensures.1 in
    let s = g.S.ShapeSerializer in
    let fields = g.T.WriteFields.fields in
    let site = site_of c.args.self.now.shape in
    let next = next_element (λ t. structure_with (fields t)) c.args.self.now.items.now c.loop-element.element-index c.element-item.result _ c.loop-element-test.true c.element-item.is refl in
    rw (p.1, p.2) (c.loop-element.invariant.rest _ (element_fails s.after site (structure_with (fields c.element-item.result)) (structures_with fields (drop c.loop-element.element-index c.args.self.now.items.now)) (structures_with fields (drop (c.loop-element.element-index + 1) c.args.self.now.items.now)) (s.state c.loop-element.sink) _ next
    (structure_runs s.after site (members_at 0 (fields c.element-item.result)) _ (s.state c.loop-element.sink) _ c.loop-element.invariant.sound c.in_err-write_struct.ensures.wraps)))

pub loop-element-preserved : goal.loop-element-preserved
loop-element-preserved g c =
    let s = g.S.ShapeSerializer in
    let fields = g.T.WriteFields.fields in
    let site = site_of c.args.self.now.shape in
    let next = next_element (λ t. structure_with (fields t)) c.args.self.now.items.now c.loop-element.element-index c.element-item.result _ c.loop-element-test.true c.element-item.is refl in
    let stays = list_stays (s.open_in (s.state c.loop-element.sink)) _ c.loop-element.invariant.inside c.in_ok-write_struct.ensures.nests in
    record {
      rest = λ r h. c.loop-element.invariant.rest r (element_goes s.after site (structure_with (fields c.element-item.result)) (structures_with fields (drop c.loop-element.element-index c.args.self.now.items.now)) (structures_with fields (drop (c.loop-element.element-index + 1) c.args.self.now.items.now)) (s.state c.loop-element.sink) _ r next
          (structure_runs s.after site (members_at 0 (fields c.element-item.result)) _ (s.state c.loop-element.sink) _ c.loop-element.invariant.sound c.in_ok-write_struct.ensures.wraps) h);
      nests = stays ∙ c.loop-element.invariant.nests;
      inside = subst (IsInside open_list) (sym stays) c.loop-element.invariant.inside;
      sound = not_failed _ _ c.in_ok-write_struct.ensures.broken;
    }

pub returns-clause-adds : goal.returns-clause-adds
returns-clause-adds g c =
    let over = drop_all c.loop-element.element-index c.args.self.now.items.now c.loop-element-test.false in
    (rw over at c.loop-element.invariant.rest) _ (ran refl)
