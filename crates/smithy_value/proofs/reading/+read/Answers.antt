use Rattle.smithy_value.proofs.reading.+read.Answers.Structures as structures
use Rattle.smithy_value.proofs.reading.+read.Answers.Unions as unions
use Rattle.smithy_value.proofs.reading.+read.Answers.Lists as lists
use Rattle.smithy_value.proofs.reading.+read.Answers.Maps as maps
use Rattle.smithy_value.proofs.reading.+read.Answers.Items as items
use Rattle.smithy_value.proofs.reading.+read.Goals as goal
mod Items
mod Lists
mod Maps
mod Structures
mod Unions

-- items
pub read_item-returns-in_err-read_any_null : goal.read_item-returns-in_err-read_any_null
read_item-returns-in_err-read_any_null = items.read_item-returns-in_err-read_any_null

pub read_item-returns-then-branch : goal.read_item-returns-then-branch
read_item-returns-then-branch = items.read_item-returns-then-branch

pub read_item-returns-in_err-read_long : goal.read_item-returns-in_err-read_long
read_item-returns-in_err-read_long = items.read_item-returns-in_err-read_long

pub read_item-returns-in-Long : goal.read_item-returns-in-Long
read_item-returns-in-Long = items.read_item-returns-in-Long

pub read_item-returns : goal.read_item-returns
read_item-returns = items.read_item-returns

pub read_item-read_part-requires : goal.read_item-read_part-requires
read_item-read_part-requires = items.read_item-read_part-requires

-- structures
pub read_structure-returns-in_err-open_struct : goal.read_structure-returns-in_err-open_struct
read_structure-returns-in_err-open_struct = structures.read_structure-returns-in_err-open_struct

pub read_structure-loop-members-init : goal.read_structure-loop-members-init
read_structure-loop-members-init = structures.read_structure-loop-members-init

pub read_structure-returns-in_err-member : goal.read_structure-returns-in_err-member
read_structure-returns-in_err-member = structures.read_structure-returns-in_err-member

pub read_structure-returns-in_err-value-in-Member : goal.read_structure-returns-in_err-value-in-Member
read_structure-returns-in_err-value-in-Member = structures.read_structure-returns-in_err-value-in-Member

pub read_structure-returns-in_err-set_member-in-Member : goal.read_structure-returns-in_err-set_member-in-Member
read_structure-returns-in_err-set_member-in-Member = structures.read_structure-returns-in_err-set_member-in-Member

pub read_structure-loop-members-preserved-in-Continue-branch-5 : goal.read_structure-loop-members-preserved-in-Continue-branch-5
read_structure-loop-members-preserved-in-Continue-branch-5 = structures.read_structure-loop-members-preserved-in-Continue-branch-5

pub read_structure-returns-in_err-skip_value-in-Unknown : goal.read_structure-returns-in_err-skip_value-in-Unknown
read_structure-returns-in_err-skip_value-in-Unknown = structures.read_structure-returns-in_err-skip_value-in-Unknown

pub read_structure-loop-members-preserved : goal.read_structure-loop-members-preserved
read_structure-loop-members-preserved = structures.read_structure-loop-members-preserved

pub read_structure-returns-in-End : goal.read_structure-returns-in-End
read_structure-returns-in-End = structures.read_structure-returns-in-End

pub read_structure-loop-members-smaller-in-Continue-branch-5 : goal.read_structure-loop-members-smaller-in-Continue-branch-5
read_structure-loop-members-smaller-in-Continue-branch-5 = structures.read_structure-loop-members-smaller-in-Continue-branch-5

pub read_structure-loop-members-smaller : goal.read_structure-loop-members-smaller
read_structure-loop-members-smaller = structures.read_structure-loop-members-smaller

pub read_structure-no_members-members-requires : goal.read_structure-no_members-members-requires
read_structure-no_members-members-requires = structures.read_structure-no_members-members-requires

pub read_structure-read_part-requires : goal.read_structure-read_part-requires
read_structure-read_part-requires = structures.read_structure-read_part-requires

pub read_structure-set_member-requires-clause-sound : goal.read_structure-set_member-requires-clause-sound
read_structure-set_member-requires-clause-sound = structures.read_structure-set_member-requires-clause-sound

pub read_structure-set_member-requires-clause-begun : goal.read_structure-set_member-requires-clause-begun
read_structure-set_member-requires-clause-begun = structures.read_structure-set_member-requires-clause-begun

pub read_structure-set_member-requires-clause-stands : goal.read_structure-set_member-requires-clause-stands
read_structure-set_member-requires-clause-stands = structures.read_structure-set_member-requires-clause-stands

pub read_structure-structure-requires-clause-sound : goal.read_structure-structure-requires-clause-sound
read_structure-structure-requires-clause-sound = structures.read_structure-structure-requires-clause-sound

pub read_structure-structure-requires-clause-begun : goal.read_structure-structure-requires-clause-begun
read_structure-structure-requires-clause-begun = structures.read_structure-structure-requires-clause-begun

-- unions
pub read_union-returns-in_err-open_struct : goal.read_union-returns-in_err-open_struct
read_union-returns-in_err-open_struct = unions.read_union-returns-in_err-open_struct

pub read_union-returns-in_err-member : goal.read_union-returns-in_err-member
read_union-returns-in_err-member = unions.read_union-returns-in_err-member

pub read_union-returns-in_default : goal.read_union-returns-in_default
read_union-returns-in_default = unions.read_union-returns-in_default

pub read_union-returns-in_err-value : goal.read_union-returns-in_err-value
read_union-returns-in_err-value = unions.read_union-returns-in_err-value

pub read_union-returns-in_err-next_member : goal.read_union-returns-in_err-next_member
read_union-returns-in_err-next_member = unions.read_union-returns-in_err-next_member

pub read_union-returns-in_default-2 : goal.read_union-returns-in_default-2
read_union-returns-in_default-2 = unions.read_union-returns-in_default-2

pub read_union-returns : goal.read_union-returns
read_union-returns = unions.read_union-returns

pub read_union-read_part-requires : goal.read_union-read_part-requires
read_union-read_part-requires = unions.read_union-read_part-requires

pub read_union-union-requires-clause-sound : goal.read_union-union-requires-clause-sound
read_union-union-requires-clause-sound = unions.read_union-union-requires-clause-sound

pub read_union-union-requires-clause-stands : goal.read_union-union-requires-clause-stands
read_union-union-requires-clause-stands = unions.read_union-union-requires-clause-stands

-- lists
pub read_list-returns-in_err-open_list : goal.read_list-returns-in_err-open_list
read_list-returns-in_err-open_list = lists.read_list-returns-in_err-open_list

pub read_list-loop-elements-init : goal.read_list-loop-elements-init
read_list-loop-elements-init = lists.read_list-loop-elements-init

pub read_list-returns-in_err-read_run : goal.read_list-returns-in_err-read_run
read_list-returns-in_err-read_run = lists.read_list-returns-in_err-read_run

pub read_list-returns-in_err-read_run-2 : goal.read_list-returns-in_err-read_run-2
read_list-returns-in_err-read_run-2 = lists.read_list-returns-in_err-read_run-2

pub read_list-returns-in_err-next_element : goal.read_list-returns-in_err-next_element
read_list-returns-in_err-next_element = lists.read_list-returns-in_err-next_element

pub read_list-returns-in_err-item : goal.read_list-returns-in_err-item
read_list-returns-in_err-item = lists.read_list-returns-in_err-item

pub read_list-returns-in_err-push_element : goal.read_list-returns-in_err-push_element
read_list-returns-in_err-push_element = lists.read_list-returns-in_err-push_element

pub read_list-loop-elements-preserved : goal.read_list-loop-elements-preserved
read_list-loop-elements-preserved = lists.read_list-loop-elements-preserved

pub read_list-returns : goal.read_list-returns
read_list-returns = lists.read_list-returns

pub read_list-loop-elements-smaller : goal.read_list-loop-elements-smaller
read_list-loop-elements-smaller = lists.read_list-loop-elements-smaller

pub read_list-read_run-requires-in-loop-elements-clause-begun : goal.read_list-read_run-requires-in-loop-elements-clause-begun
read_list-read_run-requires-in-loop-elements-clause-begun = lists.read_list-read_run-requires-in-loop-elements-clause-begun

pub read_list-no_elements-elements-requires : goal.read_list-no_elements-elements-requires
read_list-no_elements-elements-requires = lists.read_list-no_elements-elements-requires

pub read_list-read_item-requires : goal.read_list-read_item-requires
read_list-read_item-requires = lists.read_list-read_item-requires

pub read_list-push_element-requires-clause-sound : goal.read_list-push_element-requires-clause-sound
read_list-push_element-requires-clause-sound = lists.read_list-push_element-requires-clause-sound

pub read_list-push_element-requires-clause-begun : goal.read_list-push_element-requires-clause-begun
read_list-push_element-requires-clause-begun = lists.read_list-push_element-requires-clause-begun

pub read_list-push_element-requires-clause-stands : goal.read_list-push_element-requires-clause-stands
read_list-push_element-requires-clause-stands = lists.read_list-push_element-requires-clause-stands

pub read_list-list-requires-clause-sound : goal.read_list-list-requires-clause-sound
read_list-list-requires-clause-sound = lists.read_list-list-requires-clause-sound

pub read_list-list-requires-clause-begun : goal.read_list-list-requires-clause-begun
read_list-list-requires-clause-begun = lists.read_list-list-requires-clause-begun

-- maps
pub read_map-returns-in_err-open_map : goal.read_map-returns-in_err-open_map
read_map-returns-in_err-open_map = maps.read_map-returns-in_err-open_map

pub read_map-loop-entries-init : goal.read_map-loop-entries-init
read_map-loop-entries-init = maps.read_map-loop-entries-init

pub read_map-returns-in_err-key : goal.read_map-returns-in_err-key
read_map-returns-in_err-key = maps.read_map-returns-in_err-key

pub read_map-returns-in_err-value : goal.read_map-returns-in_err-value
read_map-returns-in_err-value = maps.read_map-returns-in_err-value

pub read_map-returns-in_err-set_entry : goal.read_map-returns-in_err-set_entry
read_map-returns-in_err-set_entry = maps.read_map-returns-in_err-set_entry

pub read_map-loop-entries-preserved : goal.read_map-loop-entries-preserved
read_map-loop-entries-preserved = maps.read_map-loop-entries-preserved

pub read_map-returns : goal.read_map-returns
read_map-returns = maps.read_map-returns

pub read_map-loop-entries-smaller : goal.read_map-loop-entries-smaller
read_map-loop-entries-smaller = maps.read_map-loop-entries-smaller

pub read_map-no_entries-entries-requires : goal.read_map-no_entries-entries-requires
read_map-no_entries-entries-requires = maps.read_map-no_entries-entries-requires

pub read_map-read_item-requires : goal.read_map-read_item-requires
read_map-read_item-requires = maps.read_map-read_item-requires

pub read_map-set_entry-requires-clause-key : goal.read_map-set_entry-requires-clause-key
read_map-set_entry-requires-clause-key = maps.read_map-set_entry-requires-clause-key

pub read_map-set_entry-requires-clause-begun : goal.read_map-set_entry-requires-clause-begun
read_map-set_entry-requires-clause-begun = maps.read_map-set_entry-requires-clause-begun

pub read_map-set_entry-requires-clause-stands : goal.read_map-set_entry-requires-clause-stands
read_map-set_entry-requires-clause-stands = maps.read_map-set_entry-requires-clause-stands

pub read_map-map-requires-clause-sound : goal.read_map-map-requires-clause-sound
read_map-map-requires-clause-sound = maps.read_map-map-requires-clause-sound

pub read_map-map-requires-clause-begun : goal.read_map-map-requires-clause-begun
read_map-map-requires-clause-begun = maps.read_map-map-requires-clause-begun
