use Rattle.smithy_form.proofs.reading.+read.Answers.Structures as structures
use Rattle.smithy_form.proofs.reading.+read.Answers.Lists as lists
use Rattle.smithy_form.proofs.reading.+read.Answers.Maps as maps
use Rattle.std.proofs.Common.{◌≡◌, arith, sym, ap, ◌∙◌, Some}
use Rattle.smithy_shapes.specs.Site.{site_of, kind_at}
use Rattle.smithy_schema.proofs.DeclaredMembers.{structure_type, union_type, list_type, map_type}
use Rattle.smithy_form.proofs.reading.+read.Goals as goal
mod Lists
mod Maps
mod Structures

-- ---- any part

pub read_part-read_structure-requires : goal.read_part-read_structure-requires
read_part-read_structure-requires t c =
    let kind = structure_type (kind_at (site_of c.args.schema.now)) (sym c.shape_type.ensures ∙ ap Some c.in-Structure.is) in
    (omega (arith, c.decreases), (kind, (c.requires.accepted, c.requires.sorted)))

pub read_part-read_union-requires : goal.read_part-read_union-requires
read_part-read_union-requires t c =
    let kind = union_type (kind_at (site_of c.args.schema.now)) (sym c.shape_type.ensures ∙ ap Some c.in-Union.is) in
    (omega (arith, c.decreases), (kind, (c.requires.accepted, c.requires.sorted)))

pub read_part-read_list-requires : goal.read_part-read_list-requires
read_part-read_list-requires t c =
    let kind = list_type (kind_at (site_of c.args.schema.now)) (sym c.shape_type.ensures ∙ ap Some c.in-List.is) in
    (omega (arith, c.decreases), (kind, (c.requires.accepted, (c.requires.sorted, c.requires.some))))

pub read_part-read_map-requires : goal.read_part-read_map-requires
read_part-read_map-requires t c =
    let kind = map_type (kind_at (site_of c.args.schema.now)) (sym c.shape_type.ensures ∙ ap Some c.in-Map.is) in
    (omega (arith, c.decreases), (kind, (c.requires.accepted, (c.requires.sorted, c.requires.some))))

pub read_part-returns-in-Boolean : goal.read_part-returns-in-Boolean
read_part-returns-in-Boolean t c = c.read_text.ensures c.args.left

-- ---- structures and unions

pub read_structure-returns-then-left-eq0 : goal.read_structure-returns-then-left-eq0
read_structure-returns-then-left-eq0 = structures.read_structure-returns-then-left-eq0

pub read_structure-loop-taken-init : goal.read_structure-loop-taken-init
read_structure-loop-taken-init = structures.read_structure-loop-taken-init

pub read_structure-returns-in_default : goal.read_structure-returns-in_default
read_structure-returns-in_default = structures.read_structure-returns-in_default

pub read_structure-unreachable-requires : goal.read_structure-unreachable-requires
read_structure-unreachable-requires = structures.read_structure-unreachable-requires

pub read_structure-unreachable-unreachable : goal.read_structure-unreachable-unreachable
read_structure-unreachable-unreachable = structures.read_structure-unreachable-unreachable

pub read_structure-overflow_add-position : goal.read_structure-overflow_add-position
read_structure-overflow_add-position = structures.read_structure-overflow_add-position

pub read_structure-loop-taken-smaller-then-is_empty : goal.read_structure-loop-taken-smaller-then-is_empty
read_structure-loop-taken-smaller-then-is_empty = structures.read_structure-loop-taken-smaller-then-is_empty

pub read_structure-loop-taken-preserved-then-is_empty : goal.read_structure-loop-taken-preserved-then-is_empty
read_structure-loop-taken-preserved-then-is_empty = structures.read_structure-loop-taken-preserved-then-is_empty

pub read_structure-overflow_add-at : goal.read_structure-overflow_add-at
read_structure-overflow_add-at = structures.read_structure-overflow_add-at

pub read_structure-overflow_add-at-in-loop-taken : goal.read_structure-overflow_add-at-in-loop-taken
read_structure-overflow_add-at-in-loop-taken = structures.read_structure-overflow_add-at-in-loop-taken

pub read_structure-read_part-requires : goal.read_structure-read_part-requires
read_structure-read_part-requires = structures.read_structure-read_part-requires

pub read_structure-returns-in_err-value : goal.read_structure-returns-in_err-value
read_structure-returns-in_err-value = structures.read_structure-returns-in_err-value

pub read_structure-overflow_add-taken : goal.read_structure-overflow_add-taken
read_structure-overflow_add-taken = structures.read_structure-overflow_add-taken

pub read_structure-loop-taken-smaller : goal.read_structure-loop-taken-smaller
read_structure-loop-taken-smaller = structures.read_structure-loop-taken-smaller

pub read_structure-loop-taken-preserved : goal.read_structure-loop-taken-preserved
read_structure-loop-taken-preserved = structures.read_structure-loop-taken-preserved

pub read_structure-returns : goal.read_structure-returns
read_structure-returns = structures.read_structure-returns

pub read_union-returns-then-left-eq0 : goal.read_union-returns-then-left-eq0
read_union-returns-then-left-eq0 = structures.read_union-returns-then-left-eq0

pub read_union-loop-member-init : goal.read_union-loop-member-init
read_union-loop-member-init = structures.read_union-loop-member-init

pub read_union-unreachable-requires : goal.read_union-unreachable-requires
read_union-unreachable-requires = structures.read_union-unreachable-requires

pub read_union-unreachable-unreachable : goal.read_union-unreachable-unreachable
read_union-unreachable-unreachable = structures.read_union-unreachable-unreachable

pub read_union-overflow_add-position : goal.read_union-overflow_add-position
read_union-overflow_add-position = structures.read_union-overflow_add-position

pub read_union-loop-member-smaller : goal.read_union-loop-member-smaller
read_union-loop-member-smaller = structures.read_union-loop-member-smaller

pub read_union-loop-member-preserved : goal.read_union-loop-member-preserved
read_union-loop-member-preserved = structures.read_union-loop-member-preserved

pub read_union-returns-then-inside-pairs : goal.read_union-returns-then-inside-pairs
read_union-returns-then-inside-pairs = structures.read_union-returns-then-inside-pairs

pub read_union-overflow_add-at : goal.read_union-overflow_add-at
read_union-overflow_add-at = structures.read_union-overflow_add-at

pub read_union-overflow_add-at-in-Some : goal.read_union-overflow_add-at-in-Some
read_union-overflow_add-at-in-Some = structures.read_union-overflow_add-at-in-Some

pub read_union-read_part-requires : goal.read_union-read_part-requires
read_union-read_part-requires = structures.read_union-read_part-requires

pub read_union-returns-in_err-value : goal.read_union-returns-in_err-value
read_union-returns-in_err-value = structures.read_union-returns-in_err-value

pub read_union-returns-in-Some : goal.read_union-returns-in-Some
read_union-returns-in-Some = structures.read_union-returns-in-Some

pub read_union-returns : goal.read_union-returns
read_union-returns = structures.read_union-returns

-- ---- lists

pub read_elements-loop-taken-init : goal.read_elements-loop-taken-init
read_elements-loop-taken-init = lists.read_elements-loop-taken-init

pub read_elements-returns-then-is_empty : goal.read_elements-returns-then-is_empty
read_elements-returns-then-is_empty = lists.read_elements-returns-then-is_empty

pub read_elements-overflow_add-at : goal.read_elements-overflow_add-at
read_elements-overflow_add-at = lists.read_elements-overflow_add-at

pub read_elements-overflow_add-at-in-loop-taken : goal.read_elements-overflow_add-at-in-loop-taken
read_elements-overflow_add-at-in-loop-taken = lists.read_elements-overflow_add-at-in-loop-taken

pub read_elements-read_part-requires : goal.read_elements-read_part-requires
read_elements-read_part-requires = lists.read_elements-read_part-requires

pub read_elements-returns-in_err-value : goal.read_elements-returns-in_err-value
read_elements-returns-in_err-value = lists.read_elements-returns-in_err-value

pub read_elements-overflow_add-taken : goal.read_elements-overflow_add-taken
read_elements-overflow_add-taken = lists.read_elements-overflow_add-taken

pub read_elements-loop-taken-smaller : goal.read_elements-loop-taken-smaller
read_elements-loop-taken-smaller = lists.read_elements-loop-taken-smaller

pub read_elements-loop-taken-preserved : goal.read_elements-loop-taken-preserved
read_elements-loop-taken-preserved = lists.read_elements-loop-taken-preserved

pub read_elements-returns : goal.read_elements-returns
read_elements-returns = lists.read_elements-returns

pub read_list-returns-then-left-eq0 : goal.read_list-returns-then-left-eq0
read_list-returns-then-left-eq0 = lists.read_list-returns-then-left-eq0

pub read_list-unreachable-requires : goal.read_list-unreachable-requires
read_list-unreachable-requires = lists.read_list-unreachable-requires

pub read_list-unreachable-unreachable : goal.read_list-unreachable-unreachable
read_list-unreachable-unreachable = lists.read_list-unreachable-unreachable

pub read_list-returns-then-is_empty_list : goal.read_list-returns-then-is_empty_list
read_list-returns-then-is_empty_list = lists.read_list-returns-then-is_empty_list

pub read_list-read_elements-requires : goal.read_list-read_elements-requires
read_list-read_elements-requires = lists.read_list-read_elements-requires

pub read_list-returns-in_err-elements : goal.read_list-returns-in_err-elements
read_list-returns-in_err-elements = lists.read_list-returns-in_err-elements

pub read_list-returns-then-is_flat : goal.read_list-returns-then-is_flat
read_list-returns-then-is_flat = lists.read_list-returns-then-is_flat

pub read_list-returns-then-inside-pairs : goal.read_list-returns-then-inside-pairs
read_list-returns-then-inside-pairs = lists.read_list-returns-then-inside-pairs

pub read_list-overflow_add-at : goal.read_list-overflow_add-at
read_list-overflow_add-at = lists.read_list-overflow_add-at

pub read_list-overflow_add-at-2 : goal.read_list-overflow_add-at-2
read_list-overflow_add-at-2 = lists.read_list-overflow_add-at-2

pub read_list-read_elements-requires-2 : goal.read_list-read_elements-requires-2
read_list-read_elements-requires-2 = lists.read_list-read_elements-requires-2

pub read_list-returns-in_err-elements-2 : goal.read_list-returns-in_err-elements-2
read_list-returns-in_err-elements-2 = lists.read_list-returns-in_err-elements-2

pub read_list-returns : goal.read_list-returns
read_list-returns = lists.read_list-returns

-- ---- maps

pub read_entries-unreachable-requires : goal.read_entries-unreachable-requires
read_entries-unreachable-requires = maps.read_entries-unreachable-requires

pub read_entries-unreachable-unreachable : goal.read_entries-unreachable-unreachable
read_entries-unreachable-unreachable = maps.read_entries-unreachable-unreachable

pub read_entries-unreachable-requires-in_default-member : goal.read_entries-unreachable-requires-in_default-member
read_entries-unreachable-requires-in_default-member = maps.read_entries-unreachable-requires-in_default-member

pub read_entries-unreachable-unreachable-in_default-member : goal.read_entries-unreachable-unreachable-in_default-member
read_entries-unreachable-unreachable-in_default-member = maps.read_entries-unreachable-unreachable-in_default-member

pub read_entries-loop-taken-init : goal.read_entries-loop-taken-init
read_entries-loop-taken-init = maps.read_entries-loop-taken-init

pub read_entries-returns-in_default-find_entry : goal.read_entries-returns-in_default-find_entry
read_entries-returns-in_default-find_entry = maps.read_entries-returns-in_default-find_entry

pub read_entries-returns-then-not-is_above : goal.read_entries-returns-then-not-is_above
read_entries-returns-then-not-is_above = maps.read_entries-returns-then-not-is_above

pub read_entries-read_part-requires : goal.read_entries-read_part-requires
read_entries-read_part-requires = maps.read_entries-read_part-requires

pub read_entries-returns-in_err-item : goal.read_entries-returns-in_err-item
read_entries-returns-in_err-item = maps.read_entries-returns-in_err-item

pub read_entries-overflow_add-taken : goal.read_entries-overflow_add-taken
read_entries-overflow_add-taken = maps.read_entries-overflow_add-taken

pub read_entries-loop-taken-smaller : goal.read_entries-loop-taken-smaller
read_entries-loop-taken-smaller = maps.read_entries-loop-taken-smaller

pub read_entries-loop-taken-preserved : goal.read_entries-loop-taken-preserved
read_entries-loop-taken-preserved = maps.read_entries-loop-taken-preserved

pub read_entries-returns : goal.read_entries-returns
read_entries-returns = maps.read_entries-returns

pub read_map-returns-then-left-eq0 : goal.read_map-returns-then-left-eq0
read_map-returns-then-left-eq0 = maps.read_map-returns-then-left-eq0

pub read_map-read_entries-requires : goal.read_map-read_entries-requires
read_map-read_entries-requires = maps.read_map-read_entries-requires

pub read_map-returns-in_err-entries : goal.read_map-returns-in_err-entries
read_map-returns-in_err-entries = maps.read_map-returns-in_err-entries

pub read_map-returns-then-is_flat : goal.read_map-returns-then-is_flat
read_map-returns-then-is_flat = maps.read_map-returns-then-is_flat

pub read_map-returns-then-inside-pairs : goal.read_map-returns-then-inside-pairs
read_map-returns-then-inside-pairs = maps.read_map-returns-then-inside-pairs

pub read_map-overflow_add-at : goal.read_map-overflow_add-at
read_map-overflow_add-at = maps.read_map-overflow_add-at

pub read_map-overflow_add-at-2 : goal.read_map-overflow_add-at-2
read_map-overflow_add-at-2 = maps.read_map-overflow_add-at-2

pub read_map-read_entries-requires-2 : goal.read_map-read_entries-requires-2
read_map-read_entries-requires-2 = maps.read_map-read_entries-requires-2

pub read_map-returns-in_err-entries-2 : goal.read_map-returns-in_err-entries-2
read_map-returns-in_err-entries-2 = maps.read_map-returns-in_err-entries-2

pub read_map-returns : goal.read_map-returns
read_map-returns = maps.read_map-returns
