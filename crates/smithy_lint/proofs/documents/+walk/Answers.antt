use Rattle.std.proofs.Common.{arith, rules, sym, ◌∙◌, ◌+◌}
use Rattle.smithy_wire.specs.Node.{as_array, as_object}
use Rattle.smithy_lint.proofs.Docs.{map_ok, at_array, at_object, array_there, object_there, half_steps_to, half_ends, item_there, key_there, rest_there, item_path, item_visited, half_properties_step, half_properties_end}
use Rattle.smithy_compare.specs.Tree.{element as to_element}
use Rattle.smithy_lint.specs.Private.Walks.{path_of, found_of}
use Rattle.smithy_lint.proofs.documents.+walk.Goals as goal

pub visit_document-visit_items-requires : goal.visit_document-visit_items-requires
visit_document-visit_items-requires g t c κs within =
    let h = g.B.Body.holding c.args.body.now in
    let begins = rw c.in-Array.is at c.begins-beginning.ensures in (
      omega (arith, c.decreases, c.if-depth-ge-MAX_DEPTH.false),
      (search rules, (array_there h (c.args.depth + 1) c.args.at c.in-Array.inside c.in-Array.mark c.args.depth (omega arith) c.requires.there begins, omega (arith, c.if-depth-ge-MAX_DEPTH.false))),
    )

pub visit_document-visit_properties-requires : goal.visit_document-visit_properties-requires
visit_document-visit_properties-requires g t c κs within =
    let h = g.B.Body.holding c.args.body.now in
    let begins = rw c.in-Object.is at c.begins-beginning.ensures in (
      omega (arith, c.decreases, c.if-depth-ge-MAX_DEPTH.false),
      (search rules, (object_there h (c.args.depth + 1) c.args.at c.in-Object.inside c.in-Object.mark c.args.depth (omega arith) c.requires.there begins, omega (arith, c.if-depth-ge-MAX_DEPTH.false))),
    )

pub visit_document-returns-in-Array : goal.visit_document-returns-in-Array
visit_document-returns-in-Array g t c =
    let h = g.B.Body.holding c.args.body.now in
    let r = g.B.Body.rules c.args.body.now in
    let begins = rw c.in-Array.is at c.begins-beginning.ensures in
    map_ok c.visit_items.result
    (λ end visits. at_array h r (g.B.Body.limits c.args.body.now) c.args.depth c.args.at (sym c.has_documents.ensures ∙ c.if-not-has_documents.false)
    (omega (arith, c.if-depth-ge-MAX_DEPTH.false)) (c.args.depth + 1) (omega arith) c.args.linter.now c.visit_items.new.linter c.in-Array.inside c.in-Array.mark end begins visits)
    c.visit_items.ensures

pub visit_document-returns-in-Object : goal.visit_document-returns-in-Object
visit_document-returns-in-Object g t c =
    let h = g.B.Body.holding c.args.body.now in
    let r = g.B.Body.rules c.args.body.now in
    let begins = rw c.in-Object.is at c.begins-beginning.ensures in
    map_ok c.visit_properties.result
    (λ end visits. at_object h r (g.B.Body.limits c.args.body.now) c.args.depth c.args.at (sym c.has_documents.ensures ∙ c.if-not-has_documents.false)
    (omega (arith, c.if-depth-ge-MAX_DEPTH.false)) (c.args.depth + 1) (omega arith) c.args.linter.now c.visit_properties.new.linter c.in-Object.inside c.in-Object.mark end begins visits)
    c.visit_properties.ensures

pub visit_items-returns-in-End : goal.visit_items-returns-in-End
visit_items-returns-in-End g t c =
    let h = g.B.Body.holding c.args.body.now in
    let r = g.B.Body.rules c.args.body.now in
    let goes = rw c.in-End.is at c.next_element.ensures in
    half_ends h r c.args.depth c.args.at c.args.mark c.args.linter.now c.items.linter c.items.index c.items.at c.items.mark c.items.invariant.half c.items.invariant.path c.in-End.end goes

pub visit_items-items-preserved : goal.visit_items-items-preserved
visit_items-items-preserved g t c =
    let h = g.B.Body.holding c.args.body.now in
    let r = g.B.Body.rules c.args.body.now in
    let goes = rw c.in-Entry.is at c.next_element.ensures in
    let there = item_there h as_array c.args.depth c.items.at c.items.mark c.in-Entry.field-0 c.in-Entry.value c.in-Entry.behind c.items.invariant.there goes in
    let rest = rest_there h as_array c.args.depth c.items.at c.items.mark c.in-Entry.field-0 c.in-Entry.value c.in-Entry.behind c.in_ok-at-in-Entry.at c.items.invariant.there goes
    (λ x e v. (c.in_ok-at-in-Entry.ensures x e v).0) in
    record {
      path = item_path h r c.args.depth c.in-Entry.value (path_of c.args.linter.now) (to_element c.items.index) c.items.linter c.enter.new.self c.visit_document.new.linter c.leave.new.self there c.in_ok-enter-in-Entry.ensures.path c.in_ok-enter-in-Entry.ensures.found c.items.invariant.path c.in_ok-at-in-Entry.at c.in_ok-at-in-Entry.ensures c.leave.ensures.path c.leave.ensures.found;
      there = rest.0;
      half = half_steps_to h r c.args.depth c.args.at c.args.mark (path_of c.args.linter.now) (found_of c.args.linter.now) c.items.index c.items.at c.items.mark (found_of c.items.linter) c.items.invariant.half c.in-Entry.field-0 c.in-Entry.value c.in-Entry.behind goes c.in_ok-at-in-Entry.at (found_of c.leave.new.self)
          (item_visited h r c.args.depth c.in-Entry.value (path_of c.args.linter.now) (to_element c.items.index) c.items.linter c.enter.new.self c.visit_document.new.linter c.leave.new.self there c.in_ok-enter-in-Entry.ensures.path c.in_ok-enter-in-Entry.ensures.found c.items.invariant.path c.in_ok-at-in-Entry.at c.in_ok-at-in-Entry.ensures c.leave.ensures.path c.leave.ensures.found) (c.items.index + 1) (omega arith);
      room = omega (arith, rest.1, c.items.invariant.room);
    }

pub visit_properties-returns-in-End : goal.visit_properties-returns-in-End
visit_properties-returns-in-End g t c =
    let h = g.B.Body.holding c.args.body.now in
    let r = g.B.Body.rules c.args.body.now in
    let goes = rw c.in-End.is at c.in_ok-end.ensures in
    half_properties_end h r c.args.depth c.args.at c.args.mark c.args.linter.now c.properties.linter c.properties.at c.properties.mark c.properties.invariant.half c.properties.invariant.path c.in-End.end goes

pub visit_properties-visit_property-requires : goal.visit_properties-visit_property-requires
visit_properties-visit_property-requires g t c κs within =
    let h = g.B.Body.holding c.args.body.now in
    let goes = rw c.in-Entry.is at c.in_ok-end.ensures in (
      omega (arith, c.decreases, c.requires.shallow),
      (search rules, (key_there h c.args.depth c.properties.at c.properties.mark c.in-Entry.key c.in-Entry.value c.in-Entry.behind c.properties.invariant.there goes, (item_there h as_object c.args.depth c.properties.at c.properties.mark c.in-Entry.key c.in-Entry.value c.in-Entry.behind c.properties.invariant.there goes, c.requires.shallow))),
    )

pub visit_properties-properties-smaller : goal.visit_properties-properties-smaller
visit_properties-properties-smaller g t c =
    let h = g.B.Body.holding c.args.body.now in
    let goes = rw c.in-Entry.is at c.in_ok-end.ensures in
    (rest_there h as_object c.args.depth c.properties.at c.properties.mark c.in-Entry.key c.in-Entry.value c.in-Entry.behind c.in_ok-at-in-Entry.at c.properties.invariant.there goes
    (λ x e v. (c.in_ok-at-in-Entry.ensures.passes x e v).0)).1

pub visit_properties-properties-preserved : goal.visit_properties-properties-preserved
visit_properties-properties-preserved g t c =
    let h = g.B.Body.holding c.args.body.now in
    let r = g.B.Body.rules c.args.body.now in
    let goes = rw c.in-Entry.is at c.in_ok-end.ensures in
    let there = item_there h as_object c.args.depth c.properties.at c.properties.mark c.in-Entry.key c.in-Entry.value c.in-Entry.behind c.properties.invariant.there goes in
    let rest = rest_there h as_object c.args.depth c.properties.at c.properties.mark c.in-Entry.key c.in-Entry.value c.in-Entry.behind c.in_ok-at-in-Entry.at c.properties.invariant.there goes
    (λ x e v. (c.in_ok-at-in-Entry.ensures.passes x e v).0) in
    record {
      path = (c.in_ok-at-in-Entry.ensures.passes there.0 there.1 there.2).1 ∙ c.properties.invariant.path;
      there = rest.0;
      half = half_properties_step h r c.args.depth c.args.at c.args.mark (path_of c.args.linter.now) (found_of c.args.linter.now) c.properties.at c.properties.mark c.properties.linter c.visit_property.new.linter c.properties.invariant.half c.properties.invariant.path c.in-Entry.key c.in-Entry.value c.in-Entry.behind goes c.in_ok-at-in-Entry.at c.in_ok-at-in-Entry.ensures.found;
    }
