-- Answers on structures and unions.
use Rattle.std.proofs.Common.{◌≡◌, ◌<◌, ◌+◌, ◌-◌, suc, length, arith, sym, ◌∙◌, ap, subst}
use Rattle.std.specs.Ordering.{nat_cmp}
use Rattle.std.specs.BTreeMap.{insert_entry}
use Rattle.std.proofs.lemmas.Grind.{common_steps}
use Rattle.std.proofs.lemmas.Result.{err_from_is_err_and}
use Rattle.smithy_declarations.specs.Table.{members_of}
use Rattle.smithy_declarations.specs.Value.{union}
use Rattle.smithy_shapes.specs.Accepted.{IsAccepted}
use Rattle.smithy_shapes.specs.Site.{site_of, kind_at}
use Rattle.smithy_value.specs.declared.value.Value.TheVariants as variants
use Rattle.smithy_value.specs.View.{view}
use Rattle.smithy_form.specs.Private.Answers.{ReadsHere}
use Rattle.smithy_form.specs.Private.Kept.{kept_leaves}
use Rattle.smithy_form.specs.Private.Reading.{TellHere, TellNothing}
use Rattle.smithy_form.proofs.MemberAnswers as members
use Rattle.smithy_form.proofs.PartAnswers.{part_refused, no_structure, no_union, are_none, are_some, found_inside, found_sorted, found_room}
use Rattle.smithy_form.proofs.PartSites.{member_there, member_table, never_nameless, few_members, some_below}
use Rattle.smithy_form.proofs.Views.{view_structure, view_union}
use Rattle.smithy_form.proofs.reading.+read.Goals as goal

-- ---- structures

pub read_structure-returns-then-left-eq0 : goal.read_structure-returns-then-left-eq0
read_structure-returns-then-left-eq0 t c =
    no_structure (site_of c.args.schema.now) c.args.left (kept_leaves c.args.at c.args.pairs.now) c.requires.place (omega (arith, c.if-left-eq0.true))

pub read_structure-loop-taken-init : goal.read_structure-loop-taken-init
read_structure-loop-taken-init t c =
    members.begun (site_of c.args.schema.now) (c.args.left - 1) (kept_leaves c.args.at c.args.pairs.now) c.new-members.result.entries c.new-members.ensures.empty

pub read_structure-returns-in_default : goal.read_structure-returns-in_default
read_structure-returns-in_default t c =
    let site = site_of c.args.schema.now in
    let ls = kept_leaves c.args.at c.args.pairs.now in
    let deep : c.args.left ≡ suc (c.args.left - 1) = omega (arith, c.if-left-eq0.false) in
    subst (λ n. TellNothing site n ls) (sym deep)
    (members.no_member site (c.args.left - 1) c.args.at c.args.pairs.now c.loop-taken.position c.loop-taken.members.entries c.loop-taken.taken c.loop-taken.invariant
    c.requires.place c.in_default.ensures c.loop-taken-test.true)

pub read_structure-unreachable-requires : goal.read_structure-unreachable-requires
read_structure-unreachable-requires t c =
    never_nameless (site_of c.args.schema.now) c.loop-taken.position (site_of c.in-Some.member) c.in-Some.ensures (sym c.in_default-query_name.ensures)

pub read_structure-unreachable-unreachable : goal.read_structure-unreachable-unreachable
read_structure-unreachable-unreachable t c =
    never_nameless (site_of c.args.schema.now) c.loop-taken.position (site_of c.in-Some.member) c.in-Some.ensures (sym c.in_default-query_name.ensures)

pub read_structure-overflow_add-position : goal.read_structure-overflow_add-position
read_structure-overflow_add-position t c =
    let few = few_members (site_of c.args.schema.now) c.loop-taken.position (site_of c.in-Some.member) c.requires.accepted c.in-Some.ensures in
    omega (arith, few)

pub read_structure-loop-taken-smaller-then-is_empty : goal.read_structure-loop-taken-smaller-then-is_empty
read_structure-loop-taken-smaller-then-is_empty t c =
    let site = site_of c.args.schema.now in
    let m = member_there site c.loop-taken.position (site_of c.in-Some.member) c.in-Some.ensures in
    let below = some_below (members_of (kind_at site)) c.loop-taken.position m.0 m.1 in
    omega (arith, below)

pub read_structure-loop-taken-preserved-then-is_empty : goal.read_structure-loop-taken-preserved-then-is_empty
read_structure-loop-taken-preserved-then-is_empty t c =
    let site = site_of c.args.schema.now in
    let pairs = c.args.pairs.now in
    let n = c.loop-taken.position in
    let name = c.in-Some-query_name.name.now in
    let found = c.with_segment-inside.result.now in
    let next = c.args.at + length name + 1 in
    let due : members.IsDue site c.args.at pairs n (site_of c.in-Some.member) name next found = record {
      accepted = c.requires.accepted;
      there = c.in-Some.ensures;
      named = sym c.in-Some-query_name.ensures;
      is = found_inside c.args.at c.as_bytes.result.now name found c.as_bytes.ensures.value pairs c.with_segment-inside.ensures.inside;
    } in
    let one : n + 1 ≡ suc n = omega arith in
    subst (λ k. members.Half site (c.args.left - 1) (kept_leaves c.args.at pairs) k c.loop-taken.members.entries c.loop-taken.taken) (sym one)
    (members.absent site (c.args.left - 1) c.args.at pairs n c.loop-taken.members.entries c.loop-taken.taken c.loop-taken.invariant (site_of c.in-Some.member) name next found due
    (are_none found (sym c.is_empty.ensures ∙ c.if-is_empty.true)))

pub read_structure-overflow_add-at : goal.read_structure-overflow_add-at
read_structure-overflow_add-at t c =
    let found = c.with_segment-inside.result.now in
    let room =
    found_room c.args.at c.as_bytes.result.now c.in-Some-query_name.name.now found c.as_bytes.ensures.value c.with_segment-inside.ensures.room
    (are_some found (sym c.is_empty.ensures ∙ c.if-is_empty.false)) in
    omega (arith, room)

pub read_structure-overflow_add-at-in-loop-taken : goal.read_structure-overflow_add-at-in-loop-taken
read_structure-overflow_add-at-in-loop-taken t c =
    let found = c.with_segment-inside.result.now in
    let room =
    found_room c.args.at c.as_bytes.result.now c.in-Some-query_name.name.now found c.as_bytes.ensures.value c.with_segment-inside.ensures.room
    (are_some found (sym c.is_empty.ensures ∙ c.if-is_empty.false)) in
    omega (arith, room)

pub read_structure-read_part-requires : goal.read_structure-read_part-requires
read_structure-read_part-requires t c =
    let site = site_of c.args.schema.now in
    let found = c.with_segment-inside.result.now in
    let deep : c.args.left ≡ suc (c.args.left - 1) = omega (arith, c.if-left-eq0.false) in (
      omega (arith, deep, c.decreases),
      (
        subst IsAccepted (sym (member_table site c.loop-taken.position (site_of c.in-Some.member) c.in-Some.ensures)) c.requires.accepted,
        (
          found_sorted c.args.at c.as_bytes.result.now c.in-Some-query_name.name.now found c.as_bytes.ensures.value c.with_segment-inside.ensures.sorted,
          are_some found (sym c.is_empty.ensures ∙ c.if-is_empty.false),
        ),
      ),
    )

pub read_structure-returns-in_err-value : goal.read_structure-returns-in_err-value
read_structure-returns-in_err-value t c =
    let site = site_of c.args.schema.now in
    let left = c.args.left - 1 in
    let pairs = c.args.pairs.now in
    let ls = kept_leaves c.args.at pairs in
    let n = c.loop-taken.position in
    let member = site_of c.in-Some.member in
    let name = c.in-Some-query_name.name.now in
    let found = c.with_segment-inside.result.now in
    let next = c.args.at + length name + 1 in
    let due : members.IsDue site c.args.at pairs n member name next found = record {
      accepted = c.requires.accepted;
      there = c.in-Some.ensures;
      named = sym c.in-Some-query_name.ensures;
      is = found_inside c.args.at c.as_bytes.result.now name found c.as_bytes.ensures.value pairs c.with_segment-inside.ensures.inside;
    } in
    let some = are_some found (sym c.is_empty.ensures ∙ c.if-is_empty.false) in
    let deep : c.args.left ≡ suc left = omega (arith, c.if-left-eq0.false) in
    let p = err_from_is_err_and c.from_residual.result c.from_residual.ensures.1 in
    rw (p.1, p.2)
    (part_refused member left (kept_leaves next found) site c.args.left ls c.in_err-value.field-0.0
    (subst (ReadsHere member left (kept_leaves next found)) c.in_err-value.was c.read_part.ensures)
    (λ nothing. subst (λ k. TellNothing site k ls) (sym deep)
    (members.refused site left c.args.at pairs n c.loop-taken.members.entries c.loop-taken.taken c.loop-taken.invariant member name next found due c.requires.place some nothing)))

pub read_structure-overflow_add-taken : goal.read_structure-overflow_add-taken
read_structure-overflow_add-taken t c =
    let site = site_of c.args.schema.now in
    let left = c.args.left - 1 in
    let pairs = c.args.pairs.now in
    let n = c.loop-taken.position in
    let member = site_of c.in-Some.member in
    let name = c.in-Some-query_name.name.now in
    let found = c.with_segment-inside.result.now in
    let next = c.args.at + length name + 1 in
    let due : members.IsDue site c.args.at pairs n member name next found = record {
      accepted = c.requires.accepted;
      there = c.in-Some.ensures;
      named = sym c.in-Some-query_name.ensures;
      is = found_inside c.args.at c.as_bytes.result.now name found c.as_bytes.ensures.value pairs c.with_segment-inside.ensures.inside;
    } in
    let few = members.taken_within site left c.args.at pairs n c.loop-taken.members.entries c.loop-taken.taken c.loop-taken.invariant member name next found due in
    let small : length pairs < 18446744073709551616 = grind (arith, common_steps) in omega (arith, few, small)

pub read_structure-loop-taken-smaller : goal.read_structure-loop-taken-smaller
read_structure-loop-taken-smaller t c =
    let site = site_of c.args.schema.now in
    let m = member_there site c.loop-taken.position (site_of c.in-Some.member) c.in-Some.ensures in
    let below = some_below (members_of (kind_at site)) c.loop-taken.position m.0 m.1 in
    omega (arith, below)

pub read_structure-loop-taken-preserved : goal.read_structure-loop-taken-preserved
read_structure-loop-taken-preserved t c =
    let site = site_of c.args.schema.now in
    let left = c.args.left - 1 in
    let pairs = c.args.pairs.now in
    let ls = kept_leaves c.args.at pairs in
    let n = c.loop-taken.position in
    let items = c.loop-taken.members.entries in
    let taken = c.loop-taken.taken in
    let member = site_of c.in-Some.member in
    let name = c.in-Some-query_name.name.now in
    let found = c.with_segment-inside.result.now in
    let next = c.args.at + length name + 1 in
    let due : members.IsDue site c.args.at pairs n member name next found = record {
      accepted = c.requires.accepted;
      there = c.in-Some.ensures;
      named = sym c.in-Some-query_name.ensures;
      is = found_inside c.args.at c.as_bytes.result.now name found c.as_bytes.ensures.value pairs c.with_segment-inside.ensures.inside;
    } in
    let some = are_some found (sym c.is_empty.ensures ∙ c.if-is_empty.false) in
    let value = c.in_ok-value.value in
    let told = subst (ReadsHere member left (kept_leaves next found)) c.in_ok-value.was c.read_part.ensures in
    let one : n + 1 ≡ suc n = omega arith in
    subst (λ es. members.Half site left ls (n + 1) es (taken + length found)) (sym c.in_ok-insert.ensures.entries)
    (subst (λ k. members.Half site left ls k (insert_entry nat_cmp items n value) (taken + length found)) (sym one)
    (members.more site left c.args.at pairs n items taken c.loop-taken.invariant member name next found due value some told))

pub read_structure-returns : goal.read_structure-returns
read_structure-returns t c =
    let site = site_of c.args.schema.now in
    let left = c.args.left - 1 in
    let ls = kept_leaves c.args.at c.args.pairs.now in
    let deep : c.args.left ≡ suc left = omega (arith, c.if-left-eq0.false) in
    subst (λ k. TellHere site k ls (view (variants.Structure c.loop-taken.members))) (sym deep)
    (subst (TellHere site (suc left) ls) (sym (view_structure c.loop-taken.members))
    (members.structure_read site left c.args.at c.args.pairs.now c.loop-taken.position c.loop-taken.members.entries c.loop-taken.taken c.loop-taken.invariant c.requires.place c.requires.accepted
    c.loop-taken-test.false))

-- ---- unions

pub read_union-returns-then-left-eq0 : goal.read_union-returns-then-left-eq0
read_union-returns-then-left-eq0 t c =
    no_union (site_of c.args.schema.now) c.args.left (kept_leaves c.args.at c.args.pairs.now) c.requires.place (omega (arith, c.if-left-eq0.true))

pub read_union-loop-member-init : goal.read_union-loop-member-init
read_union-loop-member-init t c = members.none_before (site_of c.args.schema.now) (kept_leaves c.args.at c.args.pairs.now)

pub read_union-unreachable-requires : goal.read_union-unreachable-requires
read_union-unreachable-requires t c =
    never_nameless (site_of c.args.schema.now) c.loop-member.position (site_of c.in-Some.member) c.in-Some.ensures (sym c.in_default-query_name.ensures)

pub read_union-unreachable-unreachable : goal.read_union-unreachable-unreachable
read_union-unreachable-unreachable t c =
    never_nameless (site_of c.args.schema.now) c.loop-member.position (site_of c.in-Some.member) c.in-Some.ensures (sym c.in_default-query_name.ensures)

pub read_union-overflow_add-position : goal.read_union-overflow_add-position
read_union-overflow_add-position t c =
    let few = few_members (site_of c.args.schema.now) c.loop-member.position (site_of c.in-Some.member) c.requires.accepted c.in-Some.ensures in
    omega (arith, few)

pub read_union-loop-member-smaller : goal.read_union-loop-member-smaller
read_union-loop-member-smaller t c =
    let site = site_of c.args.schema.now in
    let m = member_there site c.loop-member.position (site_of c.in-Some.member) c.in-Some.ensures in
    let below = some_below (members_of (kind_at site)) c.loop-member.position m.0 m.1 in
    omega (arith, below)

pub read_union-loop-member-preserved : goal.read_union-loop-member-preserved
read_union-loop-member-preserved t c =
    let site = site_of c.args.schema.now in
    let pairs = c.args.pairs.now in
    let n = c.loop-member.position in
    let name = c.in-Some-query_name.name.now in
    let found = c.with_segment-inside.result.now in
    let next = c.args.at + length name + 1 in
    let due : members.IsDue site c.args.at pairs n (site_of c.in-Some.member) name next found = record {
      accepted = c.requires.accepted;
      there = c.in-Some.ensures;
      named = sym c.in-Some-query_name.ensures;
      is = found_inside c.args.at c.as_bytes.result.now name found c.as_bytes.ensures.value pairs c.with_segment-inside.ensures.inside;
    } in
    let one : n + 1 ≡ suc n = omega arith in
    subst (λ k. members.NoneBefore site (kept_leaves c.args.at pairs) k) (sym one)
    (members.not_this site (c.args.left - 1) c.args.at pairs n (site_of c.in-Some.member) name next found due c.loop-member.invariant
    (are_none found (sym c.is_empty.ensures ∙ c.if-is_empty.true)))

pub read_union-returns-then-inside-pairs : goal.read_union-returns-then-inside-pairs
read_union-returns-then-inside-pairs t c =
    let site = site_of c.args.schema.now in
    let left = c.args.left - 1 in
    let pairs = c.args.pairs.now in
    let ls = kept_leaves c.args.at pairs in
    let n = c.loop-member.position in
    let name = c.in-Some-query_name.name.now in
    let found = c.with_segment-inside.result.now in
    let next = c.args.at + length name + 1 in
    let due : members.IsDue site c.args.at pairs n (site_of c.in-Some.member) name next found = record {
      accepted = c.requires.accepted;
      there = c.in-Some.ensures;
      named = sym c.in-Some-query_name.ensures;
      is = found_inside c.args.at c.as_bytes.result.now name found c.as_bytes.ensures.value pairs c.with_segment-inside.ensures.inside;
    } in
    let deep : c.args.left ≡ suc left = omega (arith, c.if-left-eq0.false) in
    subst (λ k. TellNothing site k ls) (sym deep)
    (members.others_left site left c.args.at pairs n (site_of c.in-Some.member) name next found due c.requires.place (are_some found (sym c.is_empty.ensures ∙ c.if-is_empty.false))
    c.if-inside-pairs.true)

pub read_union-overflow_add-at : goal.read_union-overflow_add-at
read_union-overflow_add-at t c =
    let found = c.with_segment-inside.result.now in
    let room =
    found_room c.args.at c.as_bytes.result.now c.in-Some-query_name.name.now found c.as_bytes.ensures.value c.with_segment-inside.ensures.room
    (are_some found (sym c.is_empty.ensures ∙ c.if-is_empty.false)) in
    omega (arith, room)

pub read_union-overflow_add-at-in-Some : goal.read_union-overflow_add-at-in-Some
read_union-overflow_add-at-in-Some t c =
    let found = c.with_segment-inside.result.now in
    let room =
    found_room c.args.at c.as_bytes.result.now c.in-Some-query_name.name.now found c.as_bytes.ensures.value c.with_segment-inside.ensures.room
    (are_some found (sym c.is_empty.ensures ∙ c.if-is_empty.false)) in
    omega (arith, room)

pub read_union-read_part-requires : goal.read_union-read_part-requires
read_union-read_part-requires t c =
    let site = site_of c.args.schema.now in
    let found = c.with_segment-inside.result.now in
    let deep : c.args.left ≡ suc (c.args.left - 1) = omega (arith, c.if-left-eq0.false) in (
      omega (arith, deep, c.decreases),
      (
        subst IsAccepted (sym (member_table site c.loop-member.position (site_of c.in-Some.member) c.in-Some.ensures)) c.requires.accepted,
        (
          found_sorted c.args.at c.as_bytes.result.now c.in-Some-query_name.name.now found c.as_bytes.ensures.value c.with_segment-inside.ensures.sorted,
          are_some found (sym c.is_empty.ensures ∙ c.if-is_empty.false),
        ),
      ),
    )

pub read_union-returns-in_err-value : goal.read_union-returns-in_err-value
read_union-returns-in_err-value t c =
    let site = site_of c.args.schema.now in
    let left = c.args.left - 1 in
    let pairs = c.args.pairs.now in
    let ls = kept_leaves c.args.at pairs in
    let n = c.loop-member.position in
    let member = site_of c.in-Some.member in
    let name = c.in-Some-query_name.name.now in
    let found = c.with_segment-inside.result.now in
    let next = c.args.at + length name + 1 in
    let due : members.IsDue site c.args.at pairs n member name next found = record {
      accepted = c.requires.accepted;
      there = c.in-Some.ensures;
      named = sym c.in-Some-query_name.ensures;
      is = found_inside c.args.at c.as_bytes.result.now name found c.as_bytes.ensures.value pairs c.with_segment-inside.ensures.inside;
    } in
    let some = are_some found (sym c.is_empty.ensures ∙ c.if-is_empty.false) in
    let deep : c.args.left ≡ suc left = omega (arith, c.if-left-eq0.false) in
    let p = err_from_is_err_and c.from_residual.result c.from_residual.ensures.1 in
    rw (p.1, p.2)
    (part_refused member left (kept_leaves next found) site c.args.left ls c.in_err-value.field-0.0
    (subst (ReadsHere member left (kept_leaves next found)) c.in_err-value.was c.read_part.ensures)
    (λ nothing. subst (λ k. TellNothing site k ls) (sym deep)
    (members.variant_refused site left c.args.at pairs n member name next found due c.requires.place some nothing)))

pub read_union-returns-in-Some : goal.read_union-returns-in-Some
read_union-returns-in-Some t c =
    let site = site_of c.args.schema.now in
    let left = c.args.left - 1 in
    let pairs = c.args.pairs.now in
    let ls = kept_leaves c.args.at pairs in
    let n = c.loop-member.position in
    let member = site_of c.in-Some.member in
    let name = c.in-Some-query_name.name.now in
    let found = c.with_segment-inside.result.now in
    let next = c.args.at + length name + 1 in
    let due : members.IsDue site c.args.at pairs n member name next found = record {
      accepted = c.requires.accepted;
      there = c.in-Some.ensures;
      named = sym c.in-Some-query_name.ensures;
      is = found_inside c.args.at c.as_bytes.result.now name found c.as_bytes.ensures.value pairs c.with_segment-inside.ensures.inside;
    } in
    let some = are_some found (sym c.is_empty.ensures ∙ c.if-is_empty.false) in
    let deep : c.args.left ≡ suc left = omega (arith, c.if-left-eq0.false) in
    let value = c.in_ok-value.value in
    let told = subst (ReadsHere member left (kept_leaves next found)) c.in_ok-value.was c.read_part.ensures in
    let shown = view_union n c.in_ok-new.field-0 ∙ ap (λ x. union n (view x)) c.in_ok-new.ensures.ok in
    subst (λ k. TellHere site k ls (view (variants.Union n c.in_ok-new.field-0))) (sym deep)
    (subst (TellHere site (suc left) ls) (sym shown)
    (members.union_read site left c.args.at pairs n member name next found due c.requires.place some c.if-inside-pairs.false (view value) told))

pub read_union-returns : goal.read_union-returns
read_union-returns t c =
    let site = site_of c.args.schema.now in
    let ls = kept_leaves c.args.at c.args.pairs.now in
    let deep : c.args.left ≡ suc (c.args.left - 1) = omega (arith, c.if-left-eq0.false) in
    subst (λ k. TellNothing site k ls) (sym deep)
    (members.no_variant site (c.args.left - 1) c.args.at c.args.pairs.now c.loop-member.position c.requires.place c.loop-member.invariant c.in_default.ensures)
