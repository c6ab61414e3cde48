use Rattle.std.proofs.Common.{rules, arith, map as mapped, ◌≡◌, ap, refl, ◌∙◌}
use Rattle.std.proofs.lemmas.List.{drop_all}
use Rattle.smithy_shapes.specs.Site.{site_of}
use Rattle.smithy_declarations.specs.Value.{nesting, no_member_values}
use Rattle.smithy_schema.specs.Writing.{end_structure, end_list}
use Rattle.smithy_schema.proofs.WritingLemmas.{call_refused}
use Rattle.smithy_value.specs.Tree.{entries_view, members_view, members_left, part_view}
use Rattle.smithy_shapes.proofs.Inner.{inner_element, inner_value}
use Rattle.smithy_schema.proofs.WrittenLists as lists
use Rattle.smithy_value.proofs.Maps as maps
use Rattle.smithy_value.proofs.Standing.{same_stand, first_stands, next_stands}
use Rattle.smithy_value.proofs.Structures as structures
use Rattle.smithy_value.proofs.Unions as unions
use Rattle.smithy_value.proofs.WriteAnswers.{answered, called, all_called, had_not_failed, has_not_failed, first_fails, later_fails, last_called}
use Rattle.smithy_value.proofs.writing.+write.Goals as goal

pub write_list-returns-in_err-begin_list : goal.write_list-returns-in_err-begin_list
write_list-returns-in_err-begin_list g t c =
    let view = g.P.Trees.view c.args.trees.now in
    let told = c.in_err-begin_list.ensures in
    record { writes = answered _ _ c.from_residual.ensures.1 (first_fails _ _ _ _ _ _ (called _ _ _ _ _ told.failed told.broken tt told.refused) (lists.list_refused g.S.ShapeSerializer.after (site_of c.args.schema.now) (mapped view c.args.elements.now) _ (g.S.ShapeSerializer.state c.args.sink.now) _ (lists.told view c.args.elements.now))) }

pub write_list-loop-element-init : goal.write_list-loop-element-init
write_list-loop-element-init g t c =
    let view = g.P.Trees.view c.args.trees.now in
    record {
      before = had_not_failed _ _ c.in_ok-begin_list.ensures.failed;
      failed = has_not_failed _ _ c.in_ok-begin_list.ensures.broken;
      rest = lists.list_begun g.S.ShapeSerializer.after (site_of c.args.schema.now) (mapped view c.args.elements.now) _ (g.S.ShapeSerializer.state c.args.sink.now) _ (lists.told view c.args.elements.now) c.in_ok-begin_list.ensures.ok;
      stands = c.requires.stands;
      fits = c.requires.fits.1;
      nests = omega arith;
    }

pub write_list-write_tree-requires : goal.write_list-write_tree-requires
write_list-write_tree-requires g t c κs within =
    let view = g.P.Trees.view c.args.trees.now in
    let next = lists.next_element view c.args.elements.now c.loop-element.element-index c.element-item.result _ c.loop-element-test.true c.element-item.is c.part.ensures.shows in
    let smaller = (lists.element_nests (mapped view c.args.elements.now) _ _ _ next c.loop-element.invariant.nests).0 in
    (omega (arith, smaller, c.decreases), (search rules, (search rules, (search rules, (search rules, (search rules, (search rules, (search rules, (search rules, (c.requires.sound, (c.part.ensures.parts, lists.element_fits (site_of c.args.schema.now) (site_of c.in-Some.member) (site_of c.nameless-element_schema.result) _ _ _ (inner_element (site_of c.args.schema.now) _ c.requires.fits.0 c.in-Some.ensures) c.nameless-element_schema.ensures next c.loop-element.invariant.fits)))))))))))

pub write_list-returns-in_err-write_tree :
    goal.write_list-returns-in_err-write_tree
write_list-returns-in_err-write_tree g t c =
    let view = g.P.Trees.view c.args.trees.now in
    let key = g.P.Trees.key_of c.args.trees.now in
    let position = g.P.Trees.position_of in
    let root = part_view view key position c.part.result in
    let next = lists.next_element view c.args.elements.now c.loop-element.element-index c.element-item.result _ c.loop-element-test.true c.element-item.is c.part.ensures.shows in
    let site = lists.element_site_is (site_of c.args.schema.now) (site_of c.in-Some.member) (site_of c.nameless-element_schema.result) (inner_element (site_of c.args.schema.now) _ c.requires.fits.0 c.in-Some.ensures) c.nameless-element_schema.ensures in
    record {
      writes = answered _ _ c.from_residual-in_err-write_tree.ensures.1
          (later_fails _ _ _ _ _ _ _ c.loop-element.invariant.before c.loop-element.invariant.failed (rw site at c.in_err-write_tree.ensures.writes) (λ refused. c.loop-element.invariant.rest ∙ lists.element_refused g.S.ShapeSerializer.after (site_of c.args.schema.now) root _ _ (g.S.ShapeSerializer.state c.loop-element.sink) _ next refused));
    }

pub write_list-loop-element-preserved : goal.write_list-loop-element-preserved
write_list-loop-element-preserved g t c =
    let view = g.P.Trees.view c.args.trees.now in
    let key = g.P.Trees.key_of c.args.trees.now in
    let position = g.P.Trees.position_of in
    let root = part_view view key position c.part.result in
    let next = lists.next_element view c.args.elements.now c.loop-element.element-index c.element-item.result _ c.loop-element-test.true c.element-item.is c.part.ensures.shows in
    let site = lists.element_site_is (site_of c.args.schema.now) (site_of c.in-Some.member) (site_of c.nameless-element_schema.result) (inner_element (site_of c.args.schema.now) _ c.requires.fits.0 c.in-Some.ensures) c.nameless-element_schema.ensures in
    record {
      before = c.loop-element.invariant.before;
      failed = has_not_failed _ _ c.in_ok-write_tree.ensures.writes.broken;
      rest = c.loop-element.invariant.rest ∙ lists.element_written g.S.ShapeSerializer.after (site_of c.args.schema.now) root _ _ (g.S.ShapeSerializer.state c.loop-element.sink) _ next (rw site at c.in_ok-write_tree.ensures.writes.ok);
      stands = (next_stands (g.P.Trees.stands c.args.trees.now) c.args.elements.now c.loop-element.element-index c.element-item.result c.loop-element-test.true c.element-item.is c.loop-element.invariant.stands).1;
      fits = lists.rest_fits (site_of c.args.schema.now) root _ _ next c.loop-element.invariant.fits;
      nests = (lists.element_nests (mapped view c.args.elements.now) _ _ _ next c.loop-element.invariant.nests).1;
    }

pub write_structure-returns-in_err-begin_struct : goal.write_structure-returns-in_err-begin_struct
write_structure-returns-in_err-begin_struct g t c =
    let told = c.in_err-begin_struct.ensures in
    record { writes = answered _ _ c.from_residual.ensures.1 (first_fails _ _ _ _ _ _ (called _ _ _ _ _ told.failed told.broken tt told.refused) (call_refused g.S.ShapeSerializer.after _ _ (g.S.ShapeSerializer.state c.args.sink.now) _)) }

pub write_structure-loop-position-init : goal.write_structure-loop-position-init
write_structure-loop-position-init g t c =
    let view = g.P.Trees.view c.args.trees.now in
    let position = g.P.Trees.position_of in
    let first = c.iter-left.ensures.shows view position in
    record {
      before = had_not_failed _ _ c.in_ok-begin_struct.ensures.failed;
      failed = has_not_failed _ _ c.in_ok-begin_struct.ensures.broken;
      rest = rw first (structures.structure_begun g.S.ShapeSerializer.after (site_of c.args.schema.now) (members_view view position c.args.members.now) (g.S.ShapeSerializer.state c.args.sink.now) _ c.in_ok-begin_struct.ensures.ok);
      stands = same_stand (g.P.Trees.stands c.args.trees.now) _ _ c.iter-left.ensures.trees c.requires.stands;
      fits = rw first c.requires.fits.1;
      nests = rw first (omega arith);
    }

pub write_structure-write_tree-requires : goal.write_structure-write_tree-requires
write_structure-write_tree-requires g t c κs within =
    let view = g.P.Trees.view c.args.trees.now in
    let key = g.P.Trees.key_of c.args.trees.now in
    let position = g.P.Trees.position_of in
    let root = part_view view key position c.part.result in
    let next = structures.next_member _ _ _ _ _ (c.in-Some.ensures.shows view) c.part.ensures.shows in
    let smaller = (structures.member_nests (members_view view position c.args.members.now) _ _ _ _ next c.loop-position.invariant.nests).0 in
    let fits = structures.member_fits (site_of c.args.schema.now) (site_of c.in-Some-member_at.member_schema) c.in-Some.position root _ _ c.requires.fits.0 c.in-Some-member_at.ensures next c.loop-position.invariant.fits in
    (omega (arith, smaller, c.decreases), (search rules, (search rules, (search rules, (search rules, (search rules, (search rules, (search rules, (search rules, (c.requires.sound, (c.part.ensures.parts, fits)))))))))))

pub write_structure-loop-position-preserved : goal.write_structure-loop-position-preserved
write_structure-loop-position-preserved g t c =
    let view = g.P.Trees.view c.args.trees.now in
    let key = g.P.Trees.key_of c.args.trees.now in
    let position = g.P.Trees.position_of in
    let root = part_view view key position c.part.result in
    let next = structures.next_member _ _ _ _ _ (c.in-Some.ensures.shows view) c.part.ensures.shows in
    let site = structures.member_site_is (site_of c.args.schema.now) c.in-Some.position (site_of c.in-Some-member_at.member_schema) c.in-Some-member_at.ensures in
    record {
      before = c.loop-position.invariant.before;
      failed = has_not_failed _ _ c.in_ok-write_tree.ensures.writes.broken;
      rest = c.loop-position.invariant.rest ∙ structures.member_written g.S.ShapeSerializer.after (site_of c.args.schema.now) c.in-Some.position root _ _ (g.S.ShapeSerializer.state c.loop-position.sink) _ next (rw site at c.in_ok-write_tree.ensures.writes.ok);
      stands = (first_stands (g.P.Trees.stands c.args.trees.now) _ _ _ c.in-Some.ensures.trees c.loop-position.invariant.stands).1;
      fits = structures.rest_fits (site_of c.args.schema.now) c.in-Some.position root _ _ next c.loop-position.invariant.fits;
      nests = (structures.member_nests (members_view view position c.args.members.now) _ _ _ _ next c.loop-position.invariant.nests).1;
    }

pub write_structure-returns-in_err-write_tree :
    goal.write_structure-returns-in_err-write_tree
write_structure-returns-in_err-write_tree g t c =
    let view = g.P.Trees.view c.args.trees.now in
    let key = g.P.Trees.key_of c.args.trees.now in
    let position = g.P.Trees.position_of in
    let root = part_view view key position c.part.result in
    let next = structures.next_member _ _ _ _ _ (c.in-Some.ensures.shows view) c.part.ensures.shows in
    let site = structures.member_site_is (site_of c.args.schema.now) c.in-Some.position (site_of c.in-Some-member_at.member_schema) c.in-Some-member_at.ensures in
    record {
      writes = answered _ _ c.from_residual-in_err-write_tree.ensures.1
          (later_fails _ _ _ _ _ _ _ c.loop-position.invariant.before c.loop-position.invariant.failed (rw site at c.in_err-write_tree.ensures.writes) (λ refused. c.loop-position.invariant.rest ∙ structures.member_refused g.S.ShapeSerializer.after (site_of c.args.schema.now) c.in-Some.position root _ _ (g.S.ShapeSerializer.state c.loop-position.sink) _ next refused));
    }

pub write_union-returns-in_err-begin_struct : goal.write_union-returns-in_err-begin_struct
write_union-returns-in_err-begin_struct g t c =
    let told = c.in_err-begin_struct.ensures in
    record { writes = answered _ _ c.from_residual.ensures.1 (first_fails _ _ _ _ _ _ (called _ _ _ _ _ told.failed told.broken tt told.refused) (call_refused g.S.ShapeSerializer.after _ _ (g.S.ShapeSerializer.state c.args.sink.now) _)) }

pub write_union-write_tree-requires : goal.write_union-write_tree-requires
write_union-write_tree-requires g t c κs within =
    let view = g.P.Trees.view c.args.trees.now in
    let fits = unions.variant_fits (site_of c.args.schema.now) (site_of c.in-Some.member) c.args.index (view c.args.value.now) c.requires.fits.0 c.in-Some.ensures c.requires.fits.1 in
    let is = ap nesting c.part.ensures.shows in
    (omega (arith, is, c.decreases), (search rules, (search rules, (search rules, (search rules, (search rules, (search rules, (search rules, (search rules, (c.requires.sound, (c.part.ensures.parts, rw (← c.part.ensures.shows) fits)))))))))))

pub write_union-returns-in_err-write_tree :
    goal.write_union-returns-in_err-write_tree
write_union-returns-in_err-write_tree g t c =
    let view = g.P.Trees.view c.args.trees.now in
    let site = structures.member_site_is (site_of c.args.schema.now) c.args.index (site_of c.in-Some.member) c.in-Some.ensures in
    record {
      writes = answered _ _ c.from_residual-in_err-write_tree.ensures.1
          (later_fails _ _ _ _ _ _ _ (had_not_failed _ _ c.in_ok-begin_struct.ensures.failed) (has_not_failed _ _ c.in_ok-begin_struct.ensures.broken) (rw (site, ← c.part.ensures.shows) at c.in_err-write_tree.ensures.writes)
          (λ refused. unions.variant_refused g.S.ShapeSerializer.after (site_of c.args.schema.now) c.args.index (view c.args.value.now) (g.S.ShapeSerializer.state c.args.sink.now) _ _ c.in_ok-begin_struct.ensures.ok refused));
    }

pub write_union-returns : goal.write_union-returns
write_union-returns g t c =
    let view = g.P.Trees.view c.args.trees.now in
    let site = structures.member_site_is (site_of c.args.schema.now) c.args.index (site_of c.in-Some.member) c.in-Some.ensures in
    let written = unions.variant_written g.S.ShapeSerializer.after (site_of c.args.schema.now) c.args.index (view c.args.value.now) (g.S.ShapeSerializer.state c.args.sink.now) _ _ c.in_ok-begin_struct.ensures.ok (rw (site, ← c.part.ensures.shows) at c.in_ok-write_tree.ensures.writes.ok) in
    let told = c.end_struct.ensures in
    record { writes = last_called g.S.ShapeSerializer.after end_structure _ _ _ _ _ _ c.end_struct.result (had_not_failed _ _ c.in_ok-begin_struct.ensures.failed) (has_not_failed _ _ c.in_ok-write_tree.ensures.writes.broken) written (called _ _ _ _ _ told.failed told.broken told.ok told.refused) }

pub write_map-returns-in_err-begin_map : goal.write_map-returns-in_err-begin_map
write_map-returns-in_err-begin_map g t c =
    let view = g.P.Trees.view c.args.trees.now in
    let key = g.P.Trees.key_of c.args.trees.now in
    let told = c.in_err-begin_map.ensures in
    record { writes = answered _ _ c.from_residual.ensures.1 (first_fails _ _ _ _ _ _ (called _ _ _ _ _ told.failed told.broken tt told.refused) (maps.map_refused g.S.ShapeSerializer.after (site_of c.args.schema.now) (entries_view view key c.args.entries.now) _ (g.S.ShapeSerializer.state c.args.sink.now) _ (c.len.ensures view key))) }

pub write_map-loop-key-init : goal.write_map-loop-key-init
write_map-loop-key-init g t c =
    let view = g.P.Trees.view c.args.trees.now in
    let key = g.P.Trees.key_of c.args.trees.now in
    let told = c.len.ensures view key in
    let first = c.iter-left.ensures.shows view key in
    record {
      before = had_not_failed _ _ c.in_ok-begin_map.ensures.failed;
      failed = has_not_failed _ _ c.in_ok-begin_map.ensures.broken;
      rest = rw first (maps.map_begun g.S.ShapeSerializer.after (site_of c.args.schema.now) (entries_view view key c.args.entries.now) _ (g.S.ShapeSerializer.state c.args.sink.now) _ told c.in_ok-begin_map.ensures.ok);
      stands = same_stand (g.P.Trees.stands c.args.trees.now) _ _ c.iter-left.ensures.trees c.requires.stands;
      fits = rw first c.requires.fits.1;
      nests = rw first (omega arith);
    }

pub write_map-write_tree-requires : goal.write_map-write_tree-requires
write_map-write_tree-requires g t c κs within =
    let view = g.P.Trees.view c.args.trees.now in
    let key = g.P.Trees.key_of c.args.trees.now in
    let position = g.P.Trees.position_of in
    let root = part_view view key position c.part.result in
    let next = maps.next_entry _ _ _ _ _ c.in-Some-next_entry.ensures.shows c.part.ensures.shows in
    let inner = inner_value (site_of c.args.schema.now) (site_of c.in-Some-member.member) c.requires.fits.0 c.in-Some-member.ensures in
    let smaller = (maps.entry_nests (entries_view view key c.args.entries.now) _ _ _ _ next c.loop-key.invariant.nests).0 in
    let fits = maps.value_fits (site_of c.args.schema.now) (site_of c.in-Some-member.member) (site_of c.nameless-value_schema.result) _ root _ _ c.requires.fits.0 inner c.nameless-value_schema.ensures next c.loop-key.invariant.fits in
    (omega (arith, smaller, c.decreases), (search rules, (search rules, (search rules, (search rules, (search rules, (search rules, (search rules, (search rules, (c.requires.sound, (c.part.ensures.parts, fits)))))))))))

pub write_map-loop-key-preserved : goal.write_map-loop-key-preserved
write_map-loop-key-preserved g t c =
    let view = g.P.Trees.view c.args.trees.now in
    let key = g.P.Trees.key_of c.args.trees.now in
    let position = g.P.Trees.position_of in
    let root = part_view view key position c.part.result in
    let next = maps.next_entry _ _ _ _ _ c.in-Some-next_entry.ensures.shows c.part.ensures.shows in
    let inner = inner_value (site_of c.args.schema.now) (site_of c.in-Some-member.member) c.requires.fits.0 c.in-Some-member.ensures in
    let key_site = maps.key_site_is (site_of c.args.schema.now) (site_of c.in-Some.key_schema) c.in-Some.ensures in
    let value_site = maps.value_site_is (site_of c.args.schema.now) (site_of c.in-Some-member.member) (site_of c.nameless-value_schema.result) inner c.nameless-value_schema.ensures in
    let named = rw key_site at c.in_ok-write_string.ensures.ok in
    record {
      before = c.loop-key.invariant.before;
      failed = has_not_failed _ _ c.in_ok-write_tree.ensures.writes.broken;
      rest = c.loop-key.invariant.rest ∙ maps.entry_written g.S.ShapeSerializer.after (site_of c.args.schema.now) _ root _ _ (g.S.ShapeSerializer.state c.loop-key.sink) _ _ next named (rw value_site at c.in_ok-write_tree.ensures.writes.ok);
      stands = c.in-Some-next_entry.ensures.stands.1;
      fits = maps.rest_fits (site_of c.args.schema.now) _ root _ _ next c.loop-key.invariant.fits;
      nests = (maps.entry_nests (entries_view view key c.args.entries.now) _ _ _ _ next c.loop-key.invariant.nests).1;
    }

pub write_map-returns-in_err-write_tree :
    goal.write_map-returns-in_err-write_tree
write_map-returns-in_err-write_tree g t c =
    let view = g.P.Trees.view c.args.trees.now in
    let key = g.P.Trees.key_of c.args.trees.now in
    let position = g.P.Trees.position_of in
    let root = part_view view key position c.part.result in
    let next = maps.next_entry _ _ _ _ _ c.in-Some-next_entry.ensures.shows c.part.ensures.shows in
    let inner = inner_value (site_of c.args.schema.now) (site_of c.in-Some-member.member) c.requires.fits.0 c.in-Some-member.ensures in
    let key_site = maps.key_site_is (site_of c.args.schema.now) (site_of c.in-Some.key_schema) c.in-Some.ensures in
    let value_site = maps.value_site_is (site_of c.args.schema.now) (site_of c.in-Some-member.member) (site_of c.nameless-value_schema.result) inner c.nameless-value_schema.ensures in
    let named = rw key_site at c.in_ok-write_string.ensures.ok in
    record {
      writes = answered _ _ c.from_residual-in_err-write_tree.ensures.1
          (later_fails _ _ _ _ _ _ _ c.loop-key.invariant.before (has_not_failed _ _ c.in_ok-write_string.ensures.broken) (rw value_site at c.in_err-write_tree.ensures.writes) (λ refused. c.loop-key.invariant.rest ∙ maps.value_refused g.S.ShapeSerializer.after (site_of c.args.schema.now) _ root _ _ (g.S.ShapeSerializer.state c.loop-key.sink) _ _ next named refused));
    }

pub write_map-returns-in_err-write_string : goal.write_map-returns-in_err-write_string
write_map-returns-in_err-write_string g t c =
    let told = c.in_err-write_string.ensures in
    let next = maps.next_entry _ _ _ _ _ c.in-Some-next_entry.ensures.shows refl in
    let key_site = maps.key_site_is (site_of c.args.schema.now) (site_of c.in-Some.key_schema) c.in-Some.ensures in
    record {
      writes = answered _ _ c.from_residual-in_err-write_string.ensures.1
          (later_fails _ _ _ _ _ _ _ c.loop-key.invariant.before c.loop-key.invariant.failed (called _ _ _ _ _ told.failed told.broken tt (rw key_site at told.refused))
          (λ refused. c.loop-key.invariant.rest ∙ maps.key_refused g.S.ShapeSerializer.after (site_of c.args.schema.now) _ _ _ _ (g.S.ShapeSerializer.state c.loop-key.sink) _ next refused));
    }

-- ---- the store is sound, and the trees stand in it

pub write_list-part-requires-clause-sound : goal.write_list-part-requires-clause-sound
write_list-part-requires-clause-sound g t c = c.requires.sound

pub write_list-part-requires-clause-stands : goal.write_list-part-requires-clause-stands
write_list-part-requires-clause-stands g t c =
    (next_stands (g.P.Trees.stands c.args.trees.now) c.args.elements.now c.loop-element.element-index c.element-item.result c.loop-element-test.true c.element-item.is c.loop-element.invariant.stands).0

pub write_structure-part-requires-clause-sound : goal.write_structure-part-requires-clause-sound
write_structure-part-requires-clause-sound g t c = c.requires.sound

pub write_structure-part-requires-clause-stands : goal.write_structure-part-requires-clause-stands
write_structure-part-requires-clause-stands g t c = (first_stands (g.P.Trees.stands c.args.trees.now) _ _ _ c.in-Some.ensures.trees c.loop-position.invariant.stands).0

pub write_union-part-requires-clause-sound : goal.write_union-part-requires-clause-sound
write_union-part-requires-clause-sound g t c = c.requires.sound

pub write_union-part-requires-clause-stands : goal.write_union-part-requires-clause-stands
write_union-part-requires-clause-stands g t c = c.requires.stands

pub write_map-next_entry-requires-clause-sound : goal.write_map-next_entry-requires-clause-sound
write_map-next_entry-requires-clause-sound g t c = c.requires.sound

pub write_map-next_entry-requires-clause-stands : goal.write_map-next_entry-requires-clause-stands
write_map-next_entry-requires-clause-stands g t c = c.loop-key.invariant.stands

pub write_map-part-requires-clause-sound : goal.write_map-part-requires-clause-sound
write_map-part-requires-clause-sound g t c = c.requires.sound

pub write_map-part-requires-clause-stands : goal.write_map-part-requires-clause-stands
write_map-part-requires-clause-stands g t c = c.in-Some-next_entry.ensures.stands.0

pub write_tree-write_list-requires : goal.write_tree-write_list-requires
write_tree-write_list-requires g t c κs within =
    let view = g.P.Trees.view c.args.trees.now in
    let key = g.P.Trees.key_of c.args.trees.now in
    let position = g.P.Trees.position_of in
    let is = ap (λ p. nesting (part_view view key position p)) c.in-List.is in
    (omega (arith, is, c.decreases), (search rules, (search rules, (search rules, (search rules, (search rules, (search rules, (search rules, (search rules, (c.requires.sound, (rw c.in-List.is at c.requires.stands, rw c.in-List.is at c.requires.fits)))))))))))

pub write_tree-write_map-requires : goal.write_tree-write_map-requires
write_tree-write_map-requires g t c κs within =
    let view = g.P.Trees.view c.args.trees.now in
    let key = g.P.Trees.key_of c.args.trees.now in
    let position = g.P.Trees.position_of in
    let is = ap (λ p. nesting (part_view view key position p)) c.in-Map.is in
    (omega (arith, is, c.decreases), (search rules, (search rules, (search rules, (search rules, (search rules, (search rules, (search rules, (search rules, (c.requires.sound, (rw c.in-Map.is at c.requires.stands, rw c.in-Map.is at c.requires.fits)))))))))))

pub write_tree-write_structure-requires : goal.write_tree-write_structure-requires
write_tree-write_structure-requires g t c κs within =
    let view = g.P.Trees.view c.args.trees.now in
    let key = g.P.Trees.key_of c.args.trees.now in
    let position = g.P.Trees.position_of in
    let is = ap (λ p. nesting (part_view view key position p)) c.in-Structure.is in
    (omega (arith, is, c.decreases), (search rules, (search rules, (search rules, (search rules, (search rules, (search rules, (search rules, (search rules, (c.requires.sound, (rw c.in-Structure.is at c.requires.stands, rw c.in-Structure.is at c.requires.fits)))))))))))

pub write_tree-write_union-requires : goal.write_tree-write_union-requires
write_tree-write_union-requires g t c κs within =
    let view = g.P.Trees.view c.args.trees.now in
    let key = g.P.Trees.key_of c.args.trees.now in
    let position = g.P.Trees.position_of in
    let is = ap (λ p. nesting (part_view view key position p)) c.in-Union.is in
    (omega (arith, is, c.decreases), (search rules, (search rules, (search rules, (search rules, (search rules, (search rules, (search rules, (search rules, (c.requires.sound, (rw c.in-Union.is at c.requires.stands, rw c.in-Union.is at c.requires.fits)))))))))))

-- ---- the loops end

pub write_structure-loop-position-smaller : goal.write_structure-loop-position-smaller
write_structure-loop-position-smaller g t c =
    let next = ap structures.count (c.in-Some.ensures.shows (g.P.Trees.view c.args.trees.now)) in omega (arith, next)

pub write_map-loop-key-smaller : goal.write_map-loop-key-smaller
write_map-loop-key-smaller g t c =
    let next = ap maps.count c.in-Some-next_entry.ensures.shows in omega (arith, next)

-- the last call ends the container
pub write_list-returns : goal.write_list-returns
write_list-returns g t c =
    let told = c.end_list.ensures in
    let over = drop_all c.loop-element.element-index c.args.elements.now c.loop-element-test.false in
    record { writes = last_called g.S.ShapeSerializer.after end_list _ _ _ _ _ _ c.end_list.result c.loop-element.invariant.before c.loop-element.invariant.failed (rw over at c.loop-element.invariant.rest) (called _ _ _ _ _ told.failed told.broken told.ok told.refused) }

pub write_structure-returns : goal.write_structure-returns
write_structure-returns g t c =
    let told = c.end_struct.ensures in
    let over : members_left (g.P.Trees.view c.args.trees.now) g.P.Trees.position_of c.loop-position.left ≡ no_member_values = search rules in
    record { writes = last_called g.S.ShapeSerializer.after end_structure _ _ _ _ _ _ c.end_struct.result c.loop-position.invariant.before c.loop-position.invariant.failed (rw over at c.loop-position.invariant.rest) (called _ _ _ _ _ told.failed told.broken told.ok told.refused) }

-- what is written of a part
pub write_tree-returns-in-Boolean : goal.write_tree-returns-in-Boolean
write_tree-returns-in-Boolean g t c =
    let told = c.write_boolean.ensures in
    record { writes = rw c.in-Boolean.is (all_called g.S.ShapeSerializer.after _ _ _ _ _ c.write_boolean.result (called _ _ _ _ _ told.failed told.broken told.ok told.refused)) }

pub write_tree-returns-in-Text : goal.write_tree-returns-in-Text
write_tree-returns-in-Text g t c =
    let told = c.write_string.ensures in
    record { writes = rw c.in-Text.is (all_called g.S.ShapeSerializer.after _ _ _ _ _ c.write_string.result (called _ _ _ _ _ told.failed told.broken told.ok told.refused)) }

pub write_tree-returns-in-Bytes : goal.write_tree-returns-in-Bytes
write_tree-returns-in-Bytes g t c =
    let told = c.write_bytes.ensures in
    record { writes = rw c.in-Bytes.is (all_called g.S.ShapeSerializer.after _ _ _ _ _ c.write_bytes.result (called _ _ _ _ _ told.failed told.broken told.ok told.refused)) }

pub write_tree-returns-in-Timestamp : goal.write_tree-returns-in-Timestamp
write_tree-returns-in-Timestamp g t c =
    let told = c.write_timestamp.ensures in
    record { writes = rw c.in-Timestamp.is (all_called g.S.ShapeSerializer.after _ _ _ _ _ c.write_timestamp.result (called _ _ _ _ _ told.failed told.broken told.ok told.refused)) }

pub write_tree-returns-in-List : goal.write_tree-returns-in-List
write_tree-returns-in-List g t c =
    record { writes = rw c.in-List.is c.write_list.ensures.writes }

pub write_tree-returns-in-Map : goal.write_tree-returns-in-Map
write_tree-returns-in-Map g t c =
    record { writes = rw c.in-Map.is c.write_map.ensures.writes }

pub write_tree-returns-in-Structure : goal.write_tree-returns-in-Structure
write_tree-returns-in-Structure g t c =
    record { writes = rw c.in-Structure.is c.write_structure.ensures.writes }

pub write_tree-returns-in-Union : goal.write_tree-returns-in-Union
write_tree-returns-in-Union g t c =
    record { writes = rw c.in-Union.is c.write_union.ensures.writes }

pub write_tree-returns-in-Null : goal.write_tree-returns-in-Null
write_tree-returns-in-Null g t c =
    let told = c.write_null.ensures in
    record { writes = rw c.in-Null.is (all_called g.S.ShapeSerializer.after _ _ _ _ _ c.write_null.result (called _ _ _ _ _ told.failed told.broken told.ok told.refused)) }

pub write_tree-returns-in-Document : goal.write_tree-returns-in-Document
write_tree-returns-in-Document g t c =
    let told = c.write_document.ensures in
    record { writes = rw c.in-Document.is (all_called g.S.ShapeSerializer.after _ _ _ _ _ c.write_document.result (called _ _ _ _ _ told.failed told.broken told.ok told.refused)) }

pub write_tree-returns-in-Numbers : goal.write_tree-returns-in-Numbers
write_tree-returns-in-Numbers g t c =
    record { writes = rw c.in-Numbers.is c.write_numbers.ensures.writes }
