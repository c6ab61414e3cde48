use Rattle.std.proofs.Common.{rules, arith, drop, [], map as mapped, ◌≡◌, ap}
use Rattle.std.proofs.lemmas.List.{drop_all}
use Rattle.smithy_shapes.specs.Site.{site_of}
use Rattle.smithy_declarations.specs.Value.{nesting, no_map_entries, no_member_values}
use Rattle.smithy_schema.proofs.WrittenLists as lists
use Rattle.smithy_value.specs.Tree.{entries_view, entries_left, members_view, members_left, part_view}
use Rattle.smithy_value.proofs.Maps as maps
use Rattle.smithy_value.proofs.Standing.{same_stand, first_stands, next_stands}
use Rattle.smithy_value.proofs.Structures as structures
use Rattle.smithy_value.proofs.Unions as unions
use Rattle.smithy_transcode.proofs.Children as children
use Rattle.smithy_transcode.proofs.value_test.+passing.Goals as goal

-- ---- elements

pub elements_pass-loop-element-init : goal.elements_pass-loop-element-init
elements_pass-loop-element-init g t c =
    let view = g.P.Trees.view c.args.trees.now in
    let vs = mapped view c.args.elements.now in
    let told = lists.told view c.args.elements.now in
    let counted = lists.count-elements vs in
    record {
      left = children.list_begun c.args.test.now (site_of c.args.schema.now) vs c.requires.fits (omega (arith, told, counted, c.count-count.ensures, c.count-count.type_inv));
      stands = c.requires.stands;
    }

pub elements_pass-part_passes-requires : goal.elements_pass-part_passes-requires
elements_pass-part_passes-requires g t c κs within =
    let view = g.P.Trees.view c.args.trees.now in
    let next = children.next_element view c.args.elements.now c.loop-element.element-index c.element-item.result _ (site_of c.args.schema.now) (site_of c.in-Some.member) (site_of c.nameless-element_schema.result) c.requires.fits.0 c.in-Some.ensures c.nameless-element_schema.ensures c.loop-element-test.true c.element-item.is c.part.ensures.shows in
    let inside = children.next_inside c.args.test.now _ _ _ c.loop-element.invariant.left _ _ _ next in
    let nests = inside.nests in
    (omega (arith, nests, c.decreases), (search rules, (search rules, (search rules, (search rules, (search rules, (search rules, (search rules, record { sound = c.requires.sound; stands = c.part.ensures.parts; fits = inside.fits }))))))))

pub elements_pass-returns-then-not-part_passes :
    goal.elements_pass-returns-then-not-part_passes
elements_pass-returns-then-not-part_passes g t c =
    let view = g.P.Trees.view c.args.trees.now in
    let next = children.next_element view c.args.elements.now c.loop-element.element-index c.element-item.result _ (site_of c.args.schema.now) (site_of c.in-Some.member) (site_of c.nameless-element_schema.result) c.requires.fits.0 c.in-Some.ensures c.nameless-element_schema.ensures c.loop-element-test.true c.element-item.is c.part.ensures.shows in
    children.stopped c.args.test.now _ _ _ c.loop-element.invariant.left _ _ _ next _ c.part_passes.ensures c.if-not-part_passes.true

pub elements_pass-loop-element-preserved :
    goal.elements_pass-loop-element-preserved
elements_pass-loop-element-preserved g t c =
    let view = g.P.Trees.view c.args.trees.now in
    let next = children.next_element view c.args.elements.now c.loop-element.element-index c.element-item.result _ (site_of c.args.schema.now) (site_of c.in-Some.member) (site_of c.nameless-element_schema.result) c.requires.fits.0 c.in-Some.ensures c.nameless-element_schema.ensures c.loop-element-test.true c.element-item.is c.part.ensures.shows in
    record {
      left = children.passed c.args.test.now _ _ _ c.loop-element.invariant.left _ _ _ next _ c.part_passes.ensures c.if-not-part_passes.false;
      stands = (next_stands (g.P.Trees.stands c.args.trees.now) c.args.elements.now c.loop-element.element-index c.element-item.result c.loop-element-test.true c.element-item.is c.loop-element.invariant.stands).1;
    }

pub elements_pass-returns : goal.elements_pass-returns
elements_pass-returns g t c =
    let view = g.P.Trees.view c.args.trees.now in
    let done : drop c.loop-element.element-index c.args.elements.now ≡ [] = drop_all c.loop-element.element-index c.args.elements.now c.loop-element-test.false in
    children.ended c.args.test.now _ _ _ c.loop-element.invariant.left (ap (λ xs. children.element_children (site_of c.args.schema.now) (mapped view xs)) done)

-- ---- entries

pub entries_pass-loop-value-init : goal.entries_pass-loop-value-init
entries_pass-loop-value-init g t c =
    let view = g.P.Trees.view c.args.trees.now in
    let key = g.P.Trees.key_of c.args.trees.now in
    let told = c.len-count.ensures view key in
    record {
      left = rw (c.iter-left.ensures.shows view key) (children.map_begun c.args.test.now (site_of c.args.schema.now) (entries_view view key c.args.entries.now) c.requires.fits (omega (arith, told, c.len-count.type_inv)));
      stands = same_stand (g.P.Trees.stands c.args.trees.now) _ _ c.iter-left.ensures.trees c.requires.stands;
    }

pub entries_pass-part_passes-requires : goal.entries_pass-part_passes-requires
entries_pass-part_passes-requires g t c κs within =
    let next = children.next_value _ _ _ _ _ (site_of c.args.schema.now) (site_of c.in-Some.member) (site_of c.nameless-value_schema.result) c.requires.fits.0 c.in-Some.ensures c.nameless-value_schema.ensures c.in-Some-next_entry.ensures.shows c.part.ensures.shows in
    let inside = children.next_inside c.args.test.now _ _ _ c.loop-value.invariant.left _ _ _ next in
    let nests = inside.nests in
    (omega (arith, nests, c.decreases), (search rules, (search rules, (search rules, (search rules, (search rules, (search rules, (search rules, record { sound = c.requires.sound; stands = c.part.ensures.parts; fits = inside.fits }))))))))

pub entries_pass-returns-then-not-part_passes :
    goal.entries_pass-returns-then-not-part_passes
entries_pass-returns-then-not-part_passes g t c =
    let next = children.next_value _ _ _ _ _ (site_of c.args.schema.now) (site_of c.in-Some.member) (site_of c.nameless-value_schema.result) c.requires.fits.0 c.in-Some.ensures c.nameless-value_schema.ensures c.in-Some-next_entry.ensures.shows c.part.ensures.shows in
    children.stopped c.args.test.now _ _ _ c.loop-value.invariant.left _ _ _ next _ c.part_passes.ensures c.if-not-part_passes.true

pub entries_pass-loop-value-smaller : goal.entries_pass-loop-value-smaller
entries_pass-loop-value-smaller g t c =
    let next = ap maps.count c.in-Some-next_entry.ensures.shows in omega (arith, next)

pub entries_pass-loop-value-preserved : goal.entries_pass-loop-value-preserved
entries_pass-loop-value-preserved g t c =
    let next = children.next_value _ _ _ _ _ (site_of c.args.schema.now) (site_of c.in-Some.member) (site_of c.nameless-value_schema.result) c.requires.fits.0 c.in-Some.ensures c.nameless-value_schema.ensures c.in-Some-next_entry.ensures.shows c.part.ensures.shows in
    record {
      left = children.passed c.args.test.now _ _ _ c.loop-value.invariant.left _ _ _ next _ c.part_passes.ensures c.if-not-part_passes.false;
      stands = c.in-Some-next_entry.ensures.stands.1;
    }

pub entries_pass-returns : goal.entries_pass-returns
entries_pass-returns g t c =
    let view = g.P.Trees.view c.args.trees.now in
    let key = g.P.Trees.key_of c.args.trees.now in
    let done : entries_left view key c.loop-value.left ≡ no_map_entries = search rules in
    children.ended c.args.test.now _ _ _ c.loop-value.invariant.left (ap (children.entry_children (site_of c.args.schema.now)) done)

-- ---- members

pub members_pass-loop-position-init : goal.members_pass-loop-position-init
members_pass-loop-position-init g t c =
    let view = g.P.Trees.view c.args.trees.now in
    let position = g.P.Trees.position_of in
    let first = c.iter-left.ensures.shows view position in
    record {
      left = rw first (children.structure_begun c.args.test.now (site_of c.args.schema.now) (members_view view position c.args.members.now) c.requires.fits);
      fits = rw first c.requires.fits.1;
      stands = same_stand (g.P.Trees.stands c.args.trees.now) _ _ c.iter-left.ensures.trees c.requires.stands;
    }

pub members_pass-part_passes-requires : goal.members_pass-part_passes-requires
members_pass-part_passes-requires g t c κs within =
    let next = children.next_member _ _ _ _ _ (site_of c.args.schema.now) (site_of c.in-Some-member_at.member_schema) c.in-Some-member_at.ensures (c.in-Some.ensures.shows (g.P.Trees.view c.args.trees.now)) c.part.ensures.shows in
    let inside = children.next_inside c.args.test.now _ _ _ c.loop-position.invariant.left _ _ _ next in
    let nests = inside.nests in
    (omega (arith, nests, c.decreases), (search rules, (search rules, (search rules, (search rules, (search rules, (search rules, (search rules, record { sound = c.requires.sound; stands = c.part.ensures.parts; fits = inside.fits }))))))))

pub members_pass-returns-then-not-part_passes :
    goal.members_pass-returns-then-not-part_passes
members_pass-returns-then-not-part_passes g t c =
    let next = children.next_member _ _ _ _ _ (site_of c.args.schema.now) (site_of c.in-Some-member_at.member_schema) c.in-Some-member_at.ensures (c.in-Some.ensures.shows (g.P.Trees.view c.args.trees.now)) c.part.ensures.shows in
    children.stopped c.args.test.now _ _ _ c.loop-position.invariant.left _ _ _ next _ c.part_passes.ensures c.if-not-part_passes.true

pub members_pass-loop-position-smaller :
    goal.members_pass-loop-position-smaller
members_pass-loop-position-smaller g t c =
    let next = ap structures.count (c.in-Some.ensures.shows (g.P.Trees.view c.args.trees.now)) in omega (arith, next)

pub members_pass-loop-position-preserved :
    goal.members_pass-loop-position-preserved
members_pass-loop-position-preserved g t c =
    let next = children.next_member _ _ _ _ _ (site_of c.args.schema.now) (site_of c.in-Some-member_at.member_schema) c.in-Some-member_at.ensures (c.in-Some.ensures.shows (g.P.Trees.view c.args.trees.now)) c.part.ensures.shows in
    record {
      left = children.passed c.args.test.now _ _ _ c.loop-position.invariant.left _ _ _ next _ c.part_passes.ensures c.if-not-part_passes.false;
      fits = structures.rest_fits (site_of c.args.schema.now) _ _ _ _ (c.in-Some.ensures.shows (g.P.Trees.view c.args.trees.now)) c.loop-position.invariant.fits;
      stands = (first_stands (g.P.Trees.stands c.args.trees.now) _ _ _ c.in-Some.ensures.trees c.loop-position.invariant.stands).1;
    }

pub members_pass-returns : goal.members_pass-returns
members_pass-returns g t c =
    let view = g.P.Trees.view c.args.trees.now in
    let position = g.P.Trees.position_of in
    let done : members_left view position c.loop-position.left ≡ no_member_values = search rules in
    children.ended c.args.test.now _ _ _ c.loop-position.invariant.left (ap (children.member_children (site_of c.args.schema.now)) done)

-- ---- the value of a union

pub union_passes-part_passes-requires : goal.union_passes-part_passes-requires
union_passes-part_passes-requires g t c κs within =
    let view = g.P.Trees.view c.args.trees.now in
    let is = ap nesting c.part.ensures.shows in
    let fits = unions.variant_fits (site_of c.args.schema.now) (site_of c.in-Some.member) c.args.index (view c.args.value.now) c.requires.fits.0 c.in-Some.ensures c.requires.fits.1 in
    (omega (arith, is, c.decreases), (search rules, (search rules, (search rules, (search rules, (search rules, (search rules, (search rules, record { sound = c.requires.sound; stands = c.part.ensures.parts; fits = rw (← c.part.ensures.shows) fits }))))))))

-- ---- the store is sound, and the trees stand in it

pub elements_pass-part-requires-clause-sound : goal.elements_pass-part-requires-clause-sound
elements_pass-part-requires-clause-sound g t c = c.requires.sound

pub elements_pass-part-requires-clause-stands : goal.elements_pass-part-requires-clause-stands
elements_pass-part-requires-clause-stands g t c = (next_stands (g.P.Trees.stands c.args.trees.now) c.args.elements.now c.loop-element.element-index c.element-item.result c.loop-element-test.true c.element-item.is c.loop-element.invariant.stands).0

pub entries_pass-next_entry-requires-clause-sound : goal.entries_pass-next_entry-requires-clause-sound
entries_pass-next_entry-requires-clause-sound g t c = c.requires.sound

pub entries_pass-next_entry-requires-clause-stands : goal.entries_pass-next_entry-requires-clause-stands
entries_pass-next_entry-requires-clause-stands g t c = c.loop-value.invariant.stands

pub entries_pass-part-requires-clause-sound : goal.entries_pass-part-requires-clause-sound
entries_pass-part-requires-clause-sound g t c = c.requires.sound

pub entries_pass-part-requires-clause-stands : goal.entries_pass-part-requires-clause-stands
entries_pass-part-requires-clause-stands g t c = c.in-Some-next_entry.ensures.stands.0

pub members_pass-part-requires-clause-sound : goal.members_pass-part-requires-clause-sound
members_pass-part-requires-clause-sound g t c = c.requires.sound

pub members_pass-part-requires-clause-stands : goal.members_pass-part-requires-clause-stands
members_pass-part-requires-clause-stands g t c = (first_stands (g.P.Trees.stands c.args.trees.now) _ _ _ c.in-Some.ensures.trees c.loop-position.invariant.stands).0

pub union_passes-part-requires-clause-sound : goal.union_passes-part-requires-clause-sound
union_passes-part-requires-clause-sound g t c = c.requires.sound

pub union_passes-part-requires-clause-stands : goal.union_passes-part-requires-clause-stands
union_passes-part-requires-clause-stands g t c = c.requires.stands

-- ---- a container by its part

pub part_passes-elements_pass-requires : goal.part_passes-elements_pass-requires
part_passes-elements_pass-requires g t c κs within =
    let is = ap (λ p. nesting (part_view (g.P.Trees.view c.args.trees.now) (g.P.Trees.key_of c.args.trees.now) g.P.Trees.position_of p)) c.in-List.is in
    (omega (arith, is, c.decreases), (search rules, (search rules, (search rules, (search rules, (search rules, (search rules, (search rules, rw c.in-List.is at c.requires))))))))

pub part_passes-entries_pass-requires : goal.part_passes-entries_pass-requires
part_passes-entries_pass-requires g t c κs within =
    let is = ap (λ p. nesting (part_view (g.P.Trees.view c.args.trees.now) (g.P.Trees.key_of c.args.trees.now) g.P.Trees.position_of p)) c.in-Map.is in
    (omega (arith, is, c.decreases), (search rules, (search rules, (search rules, (search rules, (search rules, (search rules, (search rules, rw c.in-Map.is at c.requires))))))))

pub part_passes-members_pass-requires : goal.part_passes-members_pass-requires
part_passes-members_pass-requires g t c κs within =
    let is = ap (λ p. nesting (part_view (g.P.Trees.view c.args.trees.now) (g.P.Trees.key_of c.args.trees.now) g.P.Trees.position_of p)) c.in-Structure.is in
    (omega (arith, is, c.decreases), (search rules, (search rules, (search rules, (search rules, (search rules, (search rules, (search rules, rw c.in-Structure.is at c.requires))))))))

pub part_passes-union_passes-requires : goal.part_passes-union_passes-requires
part_passes-union_passes-requires g t c κs within =
    let is = ap (λ p. nesting (part_view (g.P.Trees.view c.args.trees.now) (g.P.Trees.key_of c.args.trees.now) g.P.Trees.position_of p)) c.in-Union.is in
    (omega (arith, is, c.decreases), (search rules, (search rules, (search rules, (search rules, (search rules, (search rules, (search rules, rw c.in-Union.is at c.requires))))))))
