-- Answers on lists and their elements.
use Rattle.std.proofs.Common.{rules, ◌≡◌, ◌<◌, ◌+◌, ◌-◌, suc, length, decimal, true, false, arith, refl, sym, ◌∙◌, ap, subst}
use Rattle.std.specs.Vec.{vec_len}
use Rattle.std.proofs.lemmas.Grind.{common_steps}
use Rattle.std.proofs.lemmas.Result.{err_from_is_err_and}
use Rattle.smithy_declarations.specs.Value.{list, values_of}
use Rattle.smithy_shapes.specs.Accepted.{IsAccepted}
use Rattle.smithy_shapes.specs.Site.{Site, site_of, element_of}
use Rattle.smithy_query_codec.specs.Leaves.{role_of, neither, element_name}
use Rattle.smithy_value.specs.declared.value.Value.TheViews as variants
use Rattle.smithy_value.specs.View.{view, view_elements}
use Rattle.smithy_form.specs.Lookup.{inside}
use Rattle.smithy_form.specs.Private.Answers.{ReadsHere, ReadsElements, IsEmptyList}
use Rattle.smithy_form.specs.Private.Kept.{kept_leaves}
use Rattle.smithy_form.specs.Private.Names.{is_flat}
use Rattle.smithy_form.specs.Private.Reading.{TellHere, TellNothing, AreElements}
use Rattle.smithy_form.proofs.ListAnswers as lists
use Rattle.smithy_form.proofs.PartAnswers.{elements_refused, element_refused, no_list, are_none, are_some, found_inside, found_sorted, found_room}
use Rattle.smithy_form.proofs.PartSites.{element_is, element_named, element_table, has_elements}
use Rattle.smithy_form.proofs.Views.{view_list}
use Rattle.smithy_form.proofs.reading.+read.Goals as goal

-- ---- elements

pub read_elements-loop-taken-init : goal.read_elements-loop-taken-init
read_elements-loop-taken-init t c =
    lists.begun (site_of c.args.element.now) c.args.left (kept_leaves c.args.at c.args.pairs.now) c.new-elements.result.items c.new-elements.ensures.items

pub read_elements-returns-then-is_empty : goal.read_elements-returns-then-is_empty
read_elements-returns-then-is_empty t c =
    let site = site_of c.args.element.now in
    let pairs = c.args.pairs.now in
    let items = c.loop-taken.elements.items in
    let segment = c.format-segment.result.now in
    let found = c.with_segment-inside.result.now in
    let counted : vec_len c.loop-taken.elements ≡ length items = search rules in
    let number : c.len.result + 1 ≡ suc (length items) = let d = c.len.ensures in omega (arith, d, counted) in
    let text : segment ≡ decimal (suc (length items)) = c.format-segment.ensures.text ∙ ap decimal number in
    let due : lists.IsNext site c.args.at pairs (length items) (c.args.at + length segment + 1) found = record {
      nameless = c.requires.nameless;
      is = found_inside c.args.at c.as_bytes.result.now segment found c.as_bytes.ensures.value pairs c.with_segment-inside.ensures.inside ∙ ap (λ s. inside s (kept_leaves c.args.at pairs)) text;
    } in
    let few : length pairs < 18446744073709551616 = grind (arith, common_steps) in
    lists.missing site c.args.left c.args.at pairs items c.loop-taken.taken c.loop-taken.invariant few (c.args.at + length segment + 1) found due c.loop-taken-test.true
    (are_none found (sym c.is_empty.ensures ∙ c.if-is_empty.true))

pub read_elements-overflow_add-at : goal.read_elements-overflow_add-at
read_elements-overflow_add-at t c =
    let found = c.with_segment-inside.result.now in
    let room =
    found_room c.args.at c.as_bytes.result.now c.format-segment.result.now found c.as_bytes.ensures.value c.with_segment-inside.ensures.room
    (are_some found (sym c.is_empty.ensures ∙ c.if-is_empty.false)) in
    omega (arith, room)

pub read_elements-overflow_add-at-in-loop-taken : goal.read_elements-overflow_add-at-in-loop-taken
read_elements-overflow_add-at-in-loop-taken t c =
    let found = c.with_segment-inside.result.now in
    let room =
    found_room c.args.at c.as_bytes.result.now c.format-segment.result.now found c.as_bytes.ensures.value c.with_segment-inside.ensures.room
    (are_some found (sym c.is_empty.ensures ∙ c.if-is_empty.false)) in
    omega (arith, room)

pub read_elements-read_part-requires : goal.read_elements-read_part-requires
read_elements-read_part-requires t c =
    let found = c.with_segment-inside.result.now in (
      omega (arith, c.decreases),
      (
        c.requires.accepted,
        (
          found_sorted c.args.at c.as_bytes.result.now c.format-segment.result.now found c.as_bytes.ensures.value c.with_segment-inside.ensures.sorted,
          are_some found (sym c.is_empty.ensures ∙ c.if-is_empty.false),
        ),
      ),
    )

pub read_elements-returns-in_err-value : goal.read_elements-returns-in_err-value
read_elements-returns-in_err-value t c =
    let site = site_of c.args.element.now in
    let pairs = c.args.pairs.now in
    let items = c.loop-taken.elements.items in
    let segment = c.format-segment.result.now in
    let found = c.with_segment-inside.result.now in
    let next = c.args.at + length segment + 1 in
    let counted : vec_len c.loop-taken.elements ≡ length items = search rules in
    let number : c.len.result + 1 ≡ suc (length items) = let d = c.len.ensures in omega (arith, d, counted) in
    let text : segment ≡ decimal (suc (length items)) = c.format-segment.ensures.text ∙ ap decimal number in
    let due : lists.IsNext site c.args.at pairs (length items) next found = record {
      nameless = c.requires.nameless;
      is = found_inside c.args.at c.as_bytes.result.now segment found c.as_bytes.ensures.value pairs c.with_segment-inside.ensures.inside ∙ ap (λ s. inside s (kept_leaves c.args.at pairs)) text;
    } in
    let few : length pairs < 18446744073709551616 = grind (arith, common_steps) in
    let p = err_from_is_err_and c.from_residual.result c.from_residual.ensures.1 in
    rw (p.1, p.2)
    (element_refused site c.args.left (kept_leaves next found) (kept_leaves c.args.at pairs) c.in_err-value.field-0.0
    (subst (ReadsHere site c.args.left (kept_leaves next found)) c.in_err-value.was c.read_part.ensures)
    (λ nothing. lists.refused site c.args.left c.args.at pairs items c.loop-taken.taken c.loop-taken.invariant few next found due c.loop-taken-test.true
    (are_some found (sym c.is_empty.ensures ∙ c.if-is_empty.false)) nothing))

pub read_elements-overflow_add-taken : goal.read_elements-overflow_add-taken
read_elements-overflow_add-taken t c =
    let site = site_of c.args.element.now in
    let pairs = c.args.pairs.now in
    let items = c.loop-taken.elements.items in
    let segment = c.format-segment.result.now in
    let found = c.with_segment-inside.result.now in
    let next = c.args.at + length segment + 1 in
    let counted : vec_len c.loop-taken.elements ≡ length items = search rules in
    let number : c.len.result + 1 ≡ suc (length items) = let d = c.len.ensures in omega (arith, d, counted) in
    let text : segment ≡ decimal (suc (length items)) = c.format-segment.ensures.text ∙ ap decimal number in
    let due : lists.IsNext site c.args.at pairs (length items) next found = record {
      nameless = c.requires.nameless;
      is = found_inside c.args.at c.as_bytes.result.now segment found c.as_bytes.ensures.value pairs c.with_segment-inside.ensures.inside ∙ ap (λ s. inside s (kept_leaves c.args.at pairs)) text;
    } in
    let few : length pairs < 18446744073709551616 = grind (arith, common_steps) in
    let within = lists.taken_within site c.args.left c.args.at pairs items c.loop-taken.taken c.loop-taken.invariant few next found due c.loop-taken-test.true in
    omega (arith, few, within)

pub read_elements-loop-taken-smaller : goal.read_elements-loop-taken-smaller
read_elements-loop-taken-smaller t c =
    let found = c.with_segment-inside.result.now in
    let some = lists.some_pairs found (are_some found (sym c.is_empty.ensures ∙ c.if-is_empty.false)) in
    let before = c.loop-taken-test.true in omega (arith, some, before)

pub read_elements-loop-taken-preserved : goal.read_elements-loop-taken-preserved
read_elements-loop-taken-preserved t c =
    let site = site_of c.args.element.now in
    let pairs = c.args.pairs.now in
    let items = c.loop-taken.elements.items in
    let segment = c.format-segment.result.now in
    let found = c.with_segment-inside.result.now in
    let next = c.args.at + length segment + 1 in
    let counted : vec_len c.loop-taken.elements ≡ length items = search rules in
    let number : c.len.result + 1 ≡ suc (length items) = let d = c.len.ensures in omega (arith, d, counted) in
    let text : segment ≡ decimal (suc (length items)) = c.format-segment.ensures.text ∙ ap decimal number in
    let due : lists.IsNext site c.args.at pairs (length items) next found = record {
      nameless = c.requires.nameless;
      is = found_inside c.args.at c.as_bytes.result.now segment found c.as_bytes.ensures.value pairs c.with_segment-inside.ensures.inside ∙ ap (λ s. inside s (kept_leaves c.args.at pairs)) text;
    } in
    let few : length pairs < 18446744073709551616 = grind (arith, common_steps) in
    let told = subst (ReadsHere site c.args.left (kept_leaves next found)) c.in_ok-value.was c.read_part.ensures in
    rw (c.push.ensures.items, c.in_ok-push.was)
    (lists.more site c.args.left c.args.at pairs items c.loop-taken.taken c.loop-taken.invariant few next found due c.loop-taken-test.true c.in_ok-value.value
    (are_some found (sym c.is_empty.ensures ∙ c.if-is_empty.false)) told)

pub read_elements-returns : goal.read_elements-returns
read_elements-returns t c =
    let few : length c.args.pairs.now < 18446744073709551616 = grind (arith, common_steps) in
    lists.elements_read (site_of c.args.element.now) c.args.left c.args.at c.args.pairs.now c.loop-taken.elements.items c.loop-taken.taken c.loop-taken.invariant few c.loop-taken-test.false

-- ---- lists

pub read_list-returns-then-left-eq0 : goal.read_list-returns-then-left-eq0
read_list-returns-then-left-eq0 t c =
    no_list (site_of c.args.schema.now) c.args.left (kept_leaves c.args.at c.args.pairs.now) c.requires.place (omega (arith, c.if-left-eq0.true))

pub read_list-unreachable-requires : goal.read_list-unreachable-requires
read_list-unreachable-requires t c = has_elements (site_of c.args.schema.now) c.requires.place c.in_default.ensures

pub read_list-unreachable-unreachable : goal.read_list-unreachable-unreachable
read_list-unreachable-unreachable t c = has_elements (site_of c.args.schema.now) c.requires.place c.in_default.ensures

pub read_list-returns-then-is_empty_list : goal.read_list-returns-then-is_empty_list
read_list-returns-then-is_empty_list t c =
    let site = site_of c.args.schema.now in
    let left = c.args.left - 1 in
    let ls = kept_leaves c.args.at c.args.pairs.now in
    let deep : c.args.left ≡ suc left = omega (arith, c.if-left-eq0.false) in
    let shown = view_list c.new.result ∙ ap (λ vs. list (values_of (view_elements vs))) c.new.ensures.items in
    subst (λ k. TellHere site k ls (view (variants.List c.new.result))) (sym deep)
    (subst (TellHere site (suc left) ls) (sym shown)
    (lists.empty_read site left c.args.at c.args.pairs.now c.requires.place c.requires.some (subst (IsEmptyList (role_of site.view) ls) c.if-is_empty_list.true c.is_empty_list.ensures)))

pub read_list-read_elements-requires : goal.read_list-read_elements-requires
read_list-read_elements-requires t c =
    let site = site_of c.args.schema.now in
    let element = site_of c.in-Some.element in
    let deep : c.args.left ≡ suc (c.args.left - 1) = omega (arith, c.if-left-eq0.false) in (
      omega (arith, deep, c.decreases),
      (
        subst (λ (s : Site). role_of s.view ≡ neither) (sym c.nameless.ensures) refl,
        (
          subst IsAccepted (sym (ap (λ (s : Site). s.table) c.nameless.ensures ∙ element_table site element c.in-Some.ensures)) c.requires.accepted,
          c.requires.sorted,
        ),
      ),
    )

pub read_list-returns-in_err-elements : goal.read_list-returns-in_err-elements
read_list-returns-in_err-elements t c =
    let site = site_of c.args.schema.now in
    let left = c.args.left - 1 in
    let pairs = c.args.pairs.now in
    let ls = kept_leaves c.args.at pairs in
    let inner = site_of c.nameless.result in
    let is : inner ≡ element_of site = c.nameless.ensures ∙ element_is site (site_of c.in-Some.element) c.in-Some.ensures in
    let flat : is_flat (role_of site.view) ≡ true = sym c.is_flat.ensures ∙ c.if-is_flat.true in
    let full = subst (IsEmptyList (role_of site.view) ls) c.if-is_empty_list.false c.is_empty_list.ensures in
    let deep : c.args.left ≡ suc left = omega (arith, c.if-left-eq0.false) in
    let p = err_from_is_err_and c.from_residual.result c.from_residual.ensures.1 in
    rw (p.1, p.2)
    (elements_refused inner left ls site c.args.left ls c.in_err-elements.field-0.0 (subst (ReadsElements inner left ls) c.in_err-elements.was c.read_elements.ensures)
    (λ nothing. subst (λ k. TellNothing site k ls) (sym deep)
    (lists.flat_refused site left c.args.at pairs c.requires.place c.requires.some flat full (λ ws are. nothing ws (subst (λ (s : Site). AreElements s left ls ws) (sym is) are)))))

pub read_list-returns-then-is_flat : goal.read_list-returns-then-is_flat
read_list-returns-then-is_flat t c =
    let site = site_of c.args.schema.now in
    let left = c.args.left - 1 in
    let pairs = c.args.pairs.now in
    let ls = kept_leaves c.args.at pairs in
    let inner = site_of c.nameless.result in
    let elements = c.in_ok-elements.elements in
    let vs = values_of (view_elements elements.items) in
    let is : inner ≡ element_of site = c.nameless.ensures ∙ element_is site (site_of c.in-Some.element) c.in-Some.ensures in
    let flat : is_flat (role_of site.view) ≡ true = sym c.is_flat.ensures ∙ c.if-is_flat.true in
    let deep : c.args.left ≡ suc left = omega (arith, c.if-left-eq0.false) in
    let told = subst (ReadsElements inner left ls) c.in_ok-elements.was c.read_elements.ensures in
    subst (λ k. TellHere site k ls (view (variants.List elements))) (sym deep)
    (subst (TellHere site (suc left) ls) (sym (view_list elements))
    (lists.flat_read site left c.args.at pairs c.requires.place c.requires.some flat vs (subst (λ (s : Site). AreElements s left ls vs) is told)))

pub read_list-returns-then-inside-pairs : goal.read_list-returns-then-inside-pairs
read_list-returns-then-inside-pairs t c =
    let site = site_of c.args.schema.now in
    let left = c.args.left - 1 in
    let pairs = c.args.pairs.now in
    let ls = kept_leaves c.args.at pairs in
    let name = c.part_name-name.result.now in
    let found = c.with_segment-inside.result.now in
    let next = c.args.at + length name + 1 in
    let named : name ≡ element_name site = c.part_name-name.ensures ∙ element_named site (site_of c.in-Some.element) c.in-Some.ensures in
    let under : lists.AreInside (element_name site) c.args.at pairs next found = record {
      is = found_inside c.args.at c.as_bytes.result.now name found c.as_bytes.ensures.value pairs c.with_segment-inside.ensures.inside ∙ ap (λ s. inside s ls) named;
    } in
    let plain : is_flat (role_of site.view) ≡ false = sym c.is_flat.ensures ∙ c.if-is_flat.false in
    let full = subst (IsEmptyList (role_of site.view) ls) c.if-is_empty_list.false c.is_empty_list.ensures in
    let deep : c.args.left ≡ suc left = omega (arith, c.if-left-eq0.false) in
    subst (λ k. TellNothing site k ls) (sym deep)
    (lists.elements_beside site left c.args.at pairs c.requires.place c.requires.some next found under plain full c.if-inside-pairs.true)

pub read_list-overflow_add-at : goal.read_list-overflow_add-at
read_list-overflow_add-at t c =
    let found = c.with_segment-inside.result.now in
    let room =
    found_room c.args.at c.as_bytes.result.now c.part_name-name.result.now found c.as_bytes.ensures.value c.with_segment-inside.ensures.room
    (lists.still_some c.args.pairs.now found c.requires.some c.if-inside-pairs.false) in
    omega (arith, room)

pub read_list-overflow_add-at-2 : goal.read_list-overflow_add-at-2
read_list-overflow_add-at-2 t c =
    let found = c.with_segment-inside.result.now in
    let room =
    found_room c.args.at c.as_bytes.result.now c.part_name-name.result.now found c.as_bytes.ensures.value c.with_segment-inside.ensures.room
    (lists.still_some c.args.pairs.now found c.requires.some c.if-inside-pairs.false) in
    omega (arith, room)

pub read_list-read_elements-requires-2 : goal.read_list-read_elements-requires-2
read_list-read_elements-requires-2 t c =
    let site = site_of c.args.schema.now in
    let element = site_of c.in-Some.element in
    let found = c.with_segment-inside.result.now in
    let deep : c.args.left ≡ suc (c.args.left - 1) = omega (arith, c.if-left-eq0.false) in (
      omega (arith, deep, c.decreases),
      (
        subst (λ (s : Site). role_of s.view ≡ neither) (sym c.nameless-2.ensures) refl,
        (
          subst IsAccepted (sym (ap (λ (s : Site). s.table) c.nameless-2.ensures ∙ element_table site element c.in-Some.ensures)) c.requires.accepted,
          found_sorted c.args.at c.as_bytes.result.now c.part_name-name.result.now found c.as_bytes.ensures.value c.with_segment-inside.ensures.sorted,
        ),
      ),
    )

pub read_list-returns-in_err-elements-2 : goal.read_list-returns-in_err-elements-2
read_list-returns-in_err-elements-2 t c =
    let site = site_of c.args.schema.now in
    let left = c.args.left - 1 in
    let pairs = c.args.pairs.now in
    let ls = kept_leaves c.args.at pairs in
    let inner = site_of c.nameless-2.result in
    let name = c.part_name-name.result.now in
    let found = c.with_segment-inside.result.now in
    let next = c.args.at + length name + 1 in
    let is : inner ≡ element_of site = c.nameless-2.ensures ∙ element_is site (site_of c.in-Some.element) c.in-Some.ensures in
    let named : name ≡ element_name site = c.part_name-name.ensures ∙ element_named site (site_of c.in-Some.element) c.in-Some.ensures in
    let under : lists.AreInside (element_name site) c.args.at pairs next found = record {
      is = found_inside c.args.at c.as_bytes.result.now name found c.as_bytes.ensures.value pairs c.with_segment-inside.ensures.inside ∙ ap (λ s. inside s ls) named;
    } in
    let plain : is_flat (role_of site.view) ≡ false = sym c.is_flat.ensures ∙ c.if-is_flat.false in
    let full = subst (IsEmptyList (role_of site.view) ls) c.if-is_empty_list.false c.is_empty_list.ensures in
    let deep : c.args.left ≡ suc left = omega (arith, c.if-left-eq0.false) in
    let p = err_from_is_err_and c.from_residual-in_err-elements-2.result c.from_residual-in_err-elements-2.ensures.1 in
    rw (p.1, p.2)
    (elements_refused inner left (kept_leaves next found) site c.args.left ls c.in_err-elements-2.field-0.0
    (subst (ReadsElements inner left (kept_leaves next found)) c.in_err-elements-2.was c.read_elements-2.ensures)
    (λ nothing. subst (λ k. TellNothing site k ls) (sym deep)
    (lists.named_refused site left c.args.at pairs c.requires.place c.requires.some next found under plain full
    (λ ws are. nothing ws (subst (λ (s : Site). AreElements s left (kept_leaves next found) ws) (sym is) are)))))

pub read_list-returns : goal.read_list-returns
read_list-returns t c =
    let site = site_of c.args.schema.now in
    let left = c.args.left - 1 in
    let pairs = c.args.pairs.now in
    let ls = kept_leaves c.args.at pairs in
    let inner = site_of c.nameless-2.result in
    let name = c.part_name-name.result.now in
    let found = c.with_segment-inside.result.now in
    let next = c.args.at + length name + 1 in
    let elements = c.in_ok-elements-2.elements in
    let vs = values_of (view_elements elements.items) in
    let is : inner ≡ element_of site = c.nameless-2.ensures ∙ element_is site (site_of c.in-Some.element) c.in-Some.ensures in
    let named : name ≡ element_name site = c.part_name-name.ensures ∙ element_named site (site_of c.in-Some.element) c.in-Some.ensures in
    let under : lists.AreInside (element_name site) c.args.at pairs next found = record {
      is = found_inside c.args.at c.as_bytes.result.now name found c.as_bytes.ensures.value pairs c.with_segment-inside.ensures.inside ∙ ap (λ s. inside s ls) named;
    } in
    let plain : is_flat (role_of site.view) ≡ false = sym c.is_flat.ensures ∙ c.if-is_flat.false in
    let deep : c.args.left ≡ suc left = omega (arith, c.if-left-eq0.false) in
    let told = subst (ReadsElements inner left (kept_leaves next found)) c.in_ok-elements-2.was c.read_elements-2.ensures in
    subst (λ k. TellHere site k ls (view (variants.List elements))) (sym deep)
    (subst (TellHere site (suc left) ls) (sym (view_list elements))
    (lists.named_read site left c.args.at pairs c.requires.place c.requires.some next found under plain c.if-inside-pairs.false vs
    (subst (λ (s : Site). AreElements s left (kept_leaves next found) vs) is told)))
