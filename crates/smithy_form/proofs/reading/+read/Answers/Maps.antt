-- Answers on maps and their entries.
use Rattle.std.proofs.Common.{◌≡◌, ◌<◌, ◌+◌, ◌-◌, suc, length, decimal, codes, true, false, None, Some, option_map, unwrap_or, arith, refl, sym, ◌∙◌, ap, subst}
use Rattle.std.proofs.lemmas.Grind.{common_steps}
use Rattle.std.proofs.lemmas.Result.{err_from_is_err_and}
use Rattle.smithy_shapes.specs.Accepted.{IsAccepted}
use Rattle.smithy_shapes.specs.Site.{Site, site_of, value_of}
use Rattle.smithy_query_codec.specs.Leaves.{role_of, neither, key_name, value_name}
use Rattle.smithy_value.specs.declared.value.Value.TheViews as variants
use Rattle.smithy_value.specs.View.{view, view_entries}
use Rattle.smithy_form.specs.Lookup.{inside}
use Rattle.smithy_form.specs.Private.Answers.{ReadsHere, ReadsEntries}
use Rattle.smithy_form.specs.Private.Entries.{IsEntry}
use Rattle.smithy_form.specs.Private.Kept.{kept_leaves}
use Rattle.smithy_form.specs.Private.Names.{is_flat}
use Rattle.smithy_form.specs.Private.Reading.{TellHere, TellNothing}
use Rattle.smithy_form.proofs.ListAnswers as lists
use Rattle.smithy_form.proofs.MapAnswers as maps
use Rattle.smithy_form.proofs.PartAnswers.{entries_refused, entry_refused, no_map, found_inside, found_sorted, found_room}
use Rattle.smithy_form.proofs.PartSites.{key_there, key_named, value_there, value_is, value_named, value_table, entry_names_apart}
use Rattle.smithy_form.proofs.Views.{view_map}
use Rattle.smithy_form.proofs.reading.+read.Goals as goal

-- ---- entries

pub read_entries-unreachable-requires : goal.read_entries-unreachable-requires
read_entries-unreachable-requires t c = key_there (site_of c.args.schema.now) c.requires.place c.in_default.ensures

pub read_entries-unreachable-unreachable : goal.read_entries-unreachable-unreachable
read_entries-unreachable-unreachable t c = key_there (site_of c.args.schema.now) c.requires.place c.in_default.ensures

pub read_entries-unreachable-requires-in_default-member : goal.read_entries-unreachable-requires-in_default-member
read_entries-unreachable-requires-in_default-member t c = value_there (site_of c.args.schema.now) c.requires.place c.in_default-member.ensures

pub read_entries-unreachable-unreachable-in_default-member : goal.read_entries-unreachable-unreachable-in_default-member
read_entries-unreachable-unreachable-in_default-member t c = value_there (site_of c.args.schema.now) c.requires.place c.in_default-member.ensures

pub read_entries-loop-taken-init : goal.read_entries-loop-taken-init
read_entries-loop-taken-init t c =
    let site = site_of c.args.schema.now in
    maps.begun (key_name site) (value_name site) (value_of site) c.args.left (kept_leaves c.args.at c.args.pairs.now) c.new-entries.result.entries c.new-entries.ensures.empty

pub read_entries-returns-in_default-find_entry : goal.read_entries-returns-in_default-find_entry
read_entries-returns-in_default-find_entry t c =
    let site = site_of c.args.schema.now in
    let keys = key_name site in
    let vals = value_name site in
    let pairs = c.args.pairs.now in
    let ls = kept_leaves c.args.at pairs in
    let items = c.loop-taken.entries.entries in
    let taken = c.loop-taken.taken in
    let before = option_map (λ s. s.now) c.loop-taken.before in
    let key : c.part_name-key_name.result.now ≡ keys = c.part_name-key_name.ensures ∙ key_named site (site_of c.in-Some.key) c.requires.place c.in-Some.ensures in
    let value : c.part_name-value_name.result.now ≡ vals =
    c.part_name-value_name.ensures ∙ ap (λ (s : Site). unwrap_or s.view.xml_name (codes "value")) c.nameless-value.ensures
    ∙ value_named site (site_of c.in-Some-member.inner) c.requires.place c.in-Some-member.ensures in
    let number : c.len.result + 1 ≡ suc (length items) = let d = c.len.ensures.len in omega (arith, d) in
    let apart = entry_names_apart site c.requires.accepted c.requires.place in
    let nameless : role_of (value_of site).view ≡ neither = subst (λ (s : Site). role_of s.view ≡ neither) (value_is site (site_of c.in-Some-member.inner) c.requires.place c.in-Some-member.ensures) refl in
    let few : length pairs < 18446744073709551616 = grind (arith, common_steps) in
    maps.no_entry keys vals (value_of site) c.args.left c.args.at pairs items taken before c.loop-taken.invariant few apart nameless c.loop-taken-test.true
    (maps.finds_here keys vals c.part_name-key_name.result.now c.part_name-value_name.result.now (c.len.result + 1) (suc (length items)) ls None key value number c.in_default-find_entry.ensures)

pub read_entries-returns-then-not-is_above : goal.read_entries-returns-then-not-is_above
read_entries-returns-then-not-is_above t c =
    let site = site_of c.args.schema.now in
    let keys = key_name site in
    let vals = value_name site in
    let pairs = c.args.pairs.now in
    let ls = kept_leaves c.args.at pairs in
    let items = c.loop-taken.entries.entries in
    let taken = c.loop-taken.taken in
    let before = option_map (λ s. s.now) c.loop-taken.before in
    let key : c.part_name-key_name.result.now ≡ keys = c.part_name-key_name.ensures ∙ key_named site (site_of c.in-Some.key) c.requires.place c.in-Some.ensures in
    let value : c.part_name-value_name.result.now ≡ vals =
    c.part_name-value_name.ensures ∙ ap (λ (s : Site). unwrap_or s.view.xml_name (codes "value")) c.nameless-value.ensures
    ∙ value_named site (site_of c.in-Some-member.inner) c.requires.place c.in-Some-member.ensures in
    let number : c.len.result + 1 ≡ suc (length items) = let d = c.len.ensures.len in omega (arith, d) in
    let apart = entry_names_apart site c.requires.accepted c.requires.place in
    let nameless : role_of (value_of site).view ≡ neither = subst (λ (s : Site). role_of s.view ≡ neither) (value_is site (site_of c.in-Some-member.inner) c.requires.place c.in-Some-member.ensures) refl in
    let few : length pairs < 18446744073709551616 = grind (arith, common_steps) in
    let e = c.in-Some-find_entry.entry in
    let found : IsEntry keys vals (inside (decimal (suc (length items))) ls) e =
    maps.finds_here keys vals c.part_name-key_name.result.now c.part_name-value_name.result.now (c.len.result + 1) (suc (length items)) ls (Some e) key value number c.in-Some-find_entry.ensures in
    maps.not_above keys vals (value_of site) c.args.left c.args.at pairs items taken before c.loop-taken.invariant few apart nameless c.loop-taken-test.true e found
    (sym c.is_above.ensures ∙ c.if-not-is_above.true)

pub read_entries-read_part-requires : goal.read_entries-read_part-requires
read_entries-read_part-requires t c =
    let site = site_of c.args.schema.now in
    let inner = site_of c.in-Some-member.inner in (
      omega (arith, c.decreases),
      (
        subst IsAccepted (sym (ap (λ (s : Site). s.table) c.nameless-value.ensures ∙ value_table site inner c.requires.place c.in-Some-member.ensures)) c.requires.accepted,
        (c.in-Some-find_entry.ensures.sorted, c.in-Some-find_entry.ensures.full),
      ),
    )

pub read_entries-returns-in_err-item : goal.read_entries-returns-in_err-item
read_entries-returns-in_err-item t c =
    let site = site_of c.args.schema.now in
    let keys = key_name site in
    let vals = value_name site in
    let pairs = c.args.pairs.now in
    let ls = kept_leaves c.args.at pairs in
    let items = c.loop-taken.entries.entries in
    let taken = c.loop-taken.taken in
    let before = option_map (λ s. s.now) c.loop-taken.before in
    let key : c.part_name-key_name.result.now ≡ keys = c.part_name-key_name.ensures ∙ key_named site (site_of c.in-Some.key) c.requires.place c.in-Some.ensures in
    let value : c.part_name-value_name.result.now ≡ vals =
    c.part_name-value_name.ensures ∙ ap (λ (s : Site). unwrap_or s.view.xml_name (codes "value")) c.nameless-value.ensures
    ∙ value_named site (site_of c.in-Some-member.inner) c.requires.place c.in-Some-member.ensures in
    let number : c.len.result + 1 ≡ suc (length items) = let d = c.len.ensures.len in omega (arith, d) in
    let apart = entry_names_apart site c.requires.accepted c.requires.place in
    let nameless : role_of (value_of site).view ≡ neither = subst (λ (s : Site). role_of s.view ≡ neither) (value_is site (site_of c.in-Some-member.inner) c.requires.place c.in-Some-member.ensures) refl in
    let few : length pairs < 18446744073709551616 = grind (arith, common_steps) in
    let e = c.in-Some-find_entry.entry in
    let found : IsEntry keys vals (inside (decimal (suc (length items))) ls) e =
    maps.finds_here keys vals c.part_name-key_name.result.now c.part_name-value_name.result.now (c.len.result + 1) (suc (length items)) ls (Some e) key value number c.in-Some-find_entry.ensures in
    let inner = site_of c.nameless-value.result in
    let is : inner ≡ value_of site = c.nameless-value.ensures ∙ value_is site (site_of c.in-Some-member.inner) c.requires.place c.in-Some-member.ensures in
    let part = kept_leaves e.at e.values.now in
    let p = err_from_is_err_and c.from_residual.result c.from_residual.ensures.1 in
    rw (p.1, p.2)
    (entry_refused keys vals inner c.args.left part (value_of site) c.args.left ls c.in_err-item.field-0.0 (subst (ReadsHere inner c.args.left part) c.in_err-item.was c.read_part.ensures)
    (λ nothing. maps.refused keys vals (value_of site) c.args.left c.args.at pairs items taken before c.loop-taken.invariant few apart nameless c.loop-taken-test.true e found
    (λ w told. nothing w (subst (λ (s : Site). TellHere s c.args.left part w) (sym is) told))))

pub read_entries-overflow_add-taken : goal.read_entries-overflow_add-taken
read_entries-overflow_add-taken t c =
    let site = site_of c.args.schema.now in
    let keys = key_name site in
    let vals = value_name site in
    let pairs = c.args.pairs.now in
    let ls = kept_leaves c.args.at pairs in
    let items = c.loop-taken.entries.entries in
    let taken = c.loop-taken.taken in
    let before = option_map (λ s. s.now) c.loop-taken.before in
    let key : c.part_name-key_name.result.now ≡ keys = c.part_name-key_name.ensures ∙ key_named site (site_of c.in-Some.key) c.requires.place c.in-Some.ensures in
    let value : c.part_name-value_name.result.now ≡ vals =
    c.part_name-value_name.ensures ∙ ap (λ (s : Site). unwrap_or s.view.xml_name (codes "value")) c.nameless-value.ensures
    ∙ value_named site (site_of c.in-Some-member.inner) c.requires.place c.in-Some-member.ensures in
    let number : c.len.result + 1 ≡ suc (length items) = let d = c.len.ensures.len in omega (arith, d) in
    let apart = entry_names_apart site c.requires.accepted c.requires.place in
    let nameless : role_of (value_of site).view ≡ neither = subst (λ (s : Site). role_of s.view ≡ neither) (value_is site (site_of c.in-Some-member.inner) c.requires.place c.in-Some-member.ensures) refl in
    let few : length pairs < 18446744073709551616 = grind (arith, common_steps) in
    let e = c.in-Some-find_entry.entry in
    let found : IsEntry keys vals (inside (decimal (suc (length items))) ls) e =
    maps.finds_here keys vals c.part_name-key_name.result.now c.part_name-value_name.result.now (c.len.result + 1) (suc (length items)) ls (Some e) key value number c.in-Some-find_entry.ensures in
    let within = maps.taken_within keys vals (value_of site) c.args.left c.args.at pairs items taken before c.loop-taken.invariant few apart nameless c.loop-taken-test.true e found in
    omega (arith, few, within)

pub read_entries-loop-taken-smaller : goal.read_entries-loop-taken-smaller
read_entries-loop-taken-smaller t c =
    let site = site_of c.args.schema.now in
    let keys = key_name site in
    let vals = value_name site in
    let pairs = c.args.pairs.now in
    let ls = kept_leaves c.args.at pairs in
    let items = c.loop-taken.entries.entries in
    let taken = c.loop-taken.taken in
    let before = option_map (λ s. s.now) c.loop-taken.before in
    let key : c.part_name-key_name.result.now ≡ keys = c.part_name-key_name.ensures ∙ key_named site (site_of c.in-Some.key) c.requires.place c.in-Some.ensures in
    let value : c.part_name-value_name.result.now ≡ vals =
    c.part_name-value_name.ensures ∙ ap (λ (s : Site). unwrap_or s.view.xml_name (codes "value")) c.nameless-value.ensures
    ∙ value_named site (site_of c.in-Some-member.inner) c.requires.place c.in-Some-member.ensures in
    let number : c.len.result + 1 ≡ suc (length items) = let d = c.len.ensures.len in omega (arith, d) in
    let e = c.in-Some-find_entry.entry in
    let found : IsEntry keys vals (inside (decimal (suc (length items))) ls) e =
    maps.finds_here keys vals c.part_name-key_name.result.now c.part_name-value_name.result.now (c.len.result + 1) (suc (length items)) ls (Some e) key value number c.in-Some-find_entry.ensures in
    let some = maps.has_pairs keys vals (inside (decimal (suc (length items))) ls) e found in
    let more = c.loop-taken-test.true in omega (arith, some, more)

pub read_entries-loop-taken-preserved : goal.read_entries-loop-taken-preserved
read_entries-loop-taken-preserved t c =
    let site = site_of c.args.schema.now in
    let keys = key_name site in
    let vals = value_name site in
    let pairs = c.args.pairs.now in
    let ls = kept_leaves c.args.at pairs in
    let items = c.loop-taken.entries.entries in
    let taken = c.loop-taken.taken in
    let before = option_map (λ s. s.now) c.loop-taken.before in
    let key : c.part_name-key_name.result.now ≡ keys = c.part_name-key_name.ensures ∙ key_named site (site_of c.in-Some.key) c.requires.place c.in-Some.ensures in
    let value : c.part_name-value_name.result.now ≡ vals =
    c.part_name-value_name.ensures ∙ ap (λ (s : Site). unwrap_or s.view.xml_name (codes "value")) c.nameless-value.ensures
    ∙ value_named site (site_of c.in-Some-member.inner) c.requires.place c.in-Some-member.ensures in
    let number : c.len.result + 1 ≡ suc (length items) = let d = c.len.ensures.len in omega (arith, d) in
    let apart = entry_names_apart site c.requires.accepted c.requires.place in
    let nameless : role_of (value_of site).view ≡ neither = subst (λ (s : Site). role_of s.view ≡ neither) (value_is site (site_of c.in-Some-member.inner) c.requires.place c.in-Some-member.ensures) refl in
    let few : length pairs < 18446744073709551616 = grind (arith, common_steps) in
    let e = c.in-Some-find_entry.entry in
    let found : IsEntry keys vals (inside (decimal (suc (length items))) ls) e =
    maps.finds_here keys vals c.part_name-key_name.result.now c.part_name-value_name.result.now (c.len.result + 1) (suc (length items)) ls (Some e) key value number c.in-Some-find_entry.ensures in
    let inner = site_of c.nameless-value.result in
    let is : inner ≡ value_of site = c.nameless-value.ensures ∙ value_is site (site_of c.in-Some-member.inner) c.requires.place c.in-Some-member.ensures in
    let part = kept_leaves e.at e.values.now in
    let item = c.in_ok-item.item in
    let told = subst (ReadsHere inner c.args.left part) c.in_ok-item.was c.read_part.ensures in
    subst (λ es. maps.Half keys vals (value_of site) c.args.left ls es (taken + e.count) (Some e.key.now)) (sym c.in_ok-insert.ensures.entries)
    (maps.more keys vals (value_of site) c.args.left c.args.at pairs items taken before c.loop-taken.invariant few apart nameless c.loop-taken-test.true e found
    (sym c.is_above.ensures ∙ c.if-not-is_above.false) c.in_ok-from_str.field-0 item c.in_ok-from_str.ensures.ok (subst (λ (s : Site). TellHere s c.args.left part (view item)) is told))

pub read_entries-returns : goal.read_entries-returns
read_entries-returns t c =
    let site = site_of c.args.schema.now in
    let keys = key_name site in
    let vals = value_name site in
    let pairs = c.args.pairs.now in
    let ls = kept_leaves c.args.at pairs in
    let items = c.loop-taken.entries.entries in
    let taken = c.loop-taken.taken in
    let before = option_map (λ s. s.now) c.loop-taken.before in
    let few : length pairs < 18446744073709551616 = grind (arith, common_steps) in
    maps.entries_read keys vals (value_of site) c.args.left c.args.at pairs items taken before c.loop-taken.invariant few c.loop-taken-test.false

-- ---- maps

pub read_map-returns-then-left-eq0 : goal.read_map-returns-then-left-eq0
read_map-returns-then-left-eq0 t c =
    no_map (site_of c.args.schema.now) c.args.left (kept_leaves c.args.at c.args.pairs.now) c.requires.place (omega (arith, c.if-left-eq0.true))

pub read_map-read_entries-requires : goal.read_map-read_entries-requires
read_map-read_entries-requires t c =
    let deep : c.args.left ≡ suc (c.args.left - 1) = omega (arith, c.if-left-eq0.false) in
    (omega (arith, deep, c.decreases), (c.requires.place, (c.requires.accepted, c.requires.sorted)))

pub read_map-returns-in_err-entries : goal.read_map-returns-in_err-entries
read_map-returns-in_err-entries t c =
    let site = site_of c.args.schema.now in
    let keys = key_name site in
    let vals = value_name site in
    let left = c.args.left - 1 in
    let pairs = c.args.pairs.now in
    let ls = kept_leaves c.args.at pairs in
    let deep : c.args.left ≡ suc left = omega (arith, c.if-left-eq0.false) in
    let flat : is_flat (role_of site.view) ≡ true = sym c.is_flat.ensures ∙ c.if-is_flat.true in
    let p = err_from_is_err_and c.from_residual.result c.from_residual.ensures.1 in
    rw (p.1, p.2)
    (entries_refused keys vals (value_of site) left ls site c.args.left ls c.in_err-entries.field-0.0 (subst (ReadsEntries keys vals (value_of site) left ls) c.in_err-entries.was c.read_entries.ensures)
    (λ nothing. subst (λ k. TellNothing site k ls) (sym deep) (maps.flat_refused site left c.args.at pairs c.requires.place c.requires.accepted c.requires.some flat nothing)))

pub read_map-returns-then-is_flat : goal.read_map-returns-then-is_flat
read_map-returns-then-is_flat t c =
    let site = site_of c.args.schema.now in
    let keys = key_name site in
    let vals = value_name site in
    let left = c.args.left - 1 in
    let pairs = c.args.pairs.now in
    let ls = kept_leaves c.args.at pairs in
    let deep : c.args.left ≡ suc left = omega (arith, c.if-left-eq0.false) in
    let flat : is_flat (role_of site.view) ≡ true = sym c.is_flat.ensures ∙ c.if-is_flat.true in
    let entries = c.in_ok-entries.entries in
    let told = subst (ReadsEntries keys vals (value_of site) left ls) c.in_ok-entries.was c.read_entries.ensures in
    subst (λ k. TellHere site k ls (view (variants.Map entries))) (sym deep)
    (subst (TellHere site (suc left) ls) (sym (view_map entries)) (maps.flat_read site left c.args.at pairs c.requires.place c.requires.accepted c.requires.some flat (view_entries entries.entries) told))

pub read_map-returns-then-inside-pairs : goal.read_map-returns-then-inside-pairs
read_map-returns-then-inside-pairs t c =
    let site = site_of c.args.schema.now in
    let keys = key_name site in
    let vals = value_name site in
    let left = c.args.left - 1 in
    let pairs = c.args.pairs.now in
    let ls = kept_leaves c.args.at pairs in
    let deep : c.args.left ≡ suc left = omega (arith, c.if-left-eq0.false) in
    let plain : is_flat (role_of site.view) ≡ false = sym c.is_flat.ensures ∙ c.if-is_flat.false in
    let found = c.with_segment-inside.result.now in
    let next = c.args.at + length (codes "entry") + 1 in
    let under : lists.AreInside (codes "entry") c.args.at pairs next found = record {
      is = found_inside c.args.at c.as_bytes.result.now (codes "entry") found c.as_bytes.ensures.value pairs c.with_segment-inside.ensures.inside;
    } in
    subst (λ k. TellNothing site k ls) (sym deep) (maps.entries_beside site left c.args.at pairs c.requires.place c.requires.accepted c.requires.some next found under plain c.if-inside-pairs.true)

pub read_map-overflow_add-at : goal.read_map-overflow_add-at
read_map-overflow_add-at t c =
    let found = c.with_segment-inside.result.now in
    let room =
    found_room c.args.at c.as_bytes.result.now (codes "entry") found c.as_bytes.ensures.value c.with_segment-inside.ensures.room
    (lists.still_some c.args.pairs.now found c.requires.some c.if-inside-pairs.false) in
    omega (arith, room)

pub read_map-overflow_add-at-2 : goal.read_map-overflow_add-at-2
read_map-overflow_add-at-2 t c =
    let found = c.with_segment-inside.result.now in
    let room =
    found_room c.args.at c.as_bytes.result.now (codes "entry") found c.as_bytes.ensures.value c.with_segment-inside.ensures.room
    (lists.still_some c.args.pairs.now found c.requires.some c.if-inside-pairs.false) in
    omega (arith, room)

pub read_map-read_entries-requires-2 : goal.read_map-read_entries-requires-2
read_map-read_entries-requires-2 t c =
    let deep : c.args.left ≡ suc (c.args.left - 1) = omega (arith, c.if-left-eq0.false) in (
      omega (arith, deep, c.decreases),
      (
        c.requires.place,
        (
          c.requires.accepted,
          found_sorted c.args.at c.as_bytes.result.now (codes "entry") c.with_segment-inside.result.now c.as_bytes.ensures.value c.with_segment-inside.ensures.sorted,
        ),
      ),
    )

pub read_map-returns-in_err-entries-2 : goal.read_map-returns-in_err-entries-2
read_map-returns-in_err-entries-2 t c =
    let site = site_of c.args.schema.now in
    let keys = key_name site in
    let vals = value_name site in
    let left = c.args.left - 1 in
    let pairs = c.args.pairs.now in
    let ls = kept_leaves c.args.at pairs in
    let deep : c.args.left ≡ suc left = omega (arith, c.if-left-eq0.false) in
    let plain : is_flat (role_of site.view) ≡ false = sym c.is_flat.ensures ∙ c.if-is_flat.false in
    let found = c.with_segment-inside.result.now in
    let next = c.args.at + length (codes "entry") + 1 in
    let under : lists.AreInside (codes "entry") c.args.at pairs next found = record {
      is = found_inside c.args.at c.as_bytes.result.now (codes "entry") found c.as_bytes.ensures.value pairs c.with_segment-inside.ensures.inside;
    } in
    let p = err_from_is_err_and c.from_residual-in_err-entries-2.result c.from_residual-in_err-entries-2.ensures.1 in
    rw (p.1, p.2)
    (entries_refused keys vals (value_of site) left (kept_leaves next found) site c.args.left ls c.in_err-entries-2.field-0.0
    (subst (ReadsEntries keys vals (value_of site) left (kept_leaves next found)) c.in_err-entries-2.was c.read_entries-2.ensures)
    (λ nothing. subst (λ k. TellNothing site k ls) (sym deep) (maps.named_refused site left c.args.at pairs c.requires.place c.requires.accepted c.requires.some next found under plain nothing)))

pub read_map-returns : goal.read_map-returns
read_map-returns t c =
    let site = site_of c.args.schema.now in
    let keys = key_name site in
    let vals = value_name site in
    let left = c.args.left - 1 in
    let pairs = c.args.pairs.now in
    let ls = kept_leaves c.args.at pairs in
    let deep : c.args.left ≡ suc left = omega (arith, c.if-left-eq0.false) in
    let plain : is_flat (role_of site.view) ≡ false = sym c.is_flat.ensures ∙ c.if-is_flat.false in
    let found = c.with_segment-inside.result.now in
    let next = c.args.at + length (codes "entry") + 1 in
    let under : lists.AreInside (codes "entry") c.args.at pairs next found = record {
      is = found_inside c.args.at c.as_bytes.result.now (codes "entry") found c.as_bytes.ensures.value pairs c.with_segment-inside.ensures.inside;
    } in
    let entries = c.in_ok-entries-2.entries in
    let told = subst (ReadsEntries keys vals (value_of site) left (kept_leaves next found)) c.in_ok-entries-2.was c.read_entries-2.ensures in
    subst (λ k. TellHere site k ls (view (variants.Map entries))) (sym deep)
    (subst (TellHere site (suc left) ls) (sym (view_map entries))
    (maps.named_read site left c.args.at pairs c.requires.place c.requires.accepted c.requires.some next found under plain c.if-inside-pairs.false (view_entries entries.entries) told))
