-- What a tree is at its root, seen as the value that it stands for.
use Rattle.std.specs.Prelude.{ℕ, List, [], ◌∷◌, map as mapped, String}
use Rattle.std.specs.declared.alloc.Global.{Global}
use Rattle.smithy_types.specs.Document.{whole_document}
use Rattle.smithy_types.specs.DocumentView.{document_view}
use Rattle.smithy_declarations.specs.Value.{Value, scalar_value, boolean, whole, text, bytes, decimal, instant, list, map, structure, union, null_element, document_value, values_of, MapEntries, no_map_entries, map_entry, MemberValues, no_member_values, member_value}
use Rattle.smithy_tree.specs.Items.{whole_values}
use Rattle.smithy_value.specs.View.{map_entries_of, member_values_of}
use Rattle.smithy_value.specs.declared.tree.Part.{Part}
use Rattle.smithy_value.specs.declared.tree.Part.TheVariants as parts
use Rattle.smithy_value.specs.declared.entries.Entries.{Entries}
use Rattle.smithy_value.specs.declared.entries.Entries.TheVariants as all_entries
use Rattle.smithy_value.specs.declared.entries.Members.{Members}
use Rattle.smithy_value.specs.declared.entries.Members.TheVariants as all_members
use Rattle.smithy_value.specs.declared.entry_iter.EntryIter.{EntryIter}
use Rattle.smithy_value.specs.declared.entry_iter.EntryIter.TheVariants as entries_to_come
use Rattle.smithy_value.specs.declared.entry_iter.MemberIter.{MemberIter}
use Rattle.smithy_value.specs.declared.entry_iter.MemberIter.TheVariants as members_to_come

-- entries of a map of the library as the values that they stand for
abbrev pub entry_views : {T : Type 0} → (T → Value) → List (String Global × T) → MapEntries
entry_views {T} view es = map_entries_of (mapped (λ (e : String Global × T). (e.0, view e.1)) es)

-- trees that are kept with their keys as entries
abbrev pub keyed_views : {T : Type 0} → (T → Value) → (T → List ℕ) → List T → MapEntries
keyed_views view key [] = no_map_entries
keyed_views view key (x ∷ xs) = map_entry (key x) (view x) (keyed_views view key xs)

-- members of a map of the library as the values that they stand for
abbrev pub member_views : {T : Type 0} → (T → Value) → List (ℕ × T) → MemberValues
member_views {T} view ms = member_values_of (mapped (λ (m : ℕ × T). (m.0, view m.1)) ms)

-- trees that are kept with their positions as members
abbrev pub placed_views : {T : Type 0} → (T → Value) → (T → ℕ) → List T → MemberValues
placed_views view position [] = no_member_values
placed_views view position (x ∷ xs) = member_value (position x) (view x) (placed_views view position xs)

-- the entries of a map, in the order of their keys
abbrev pub entries_view : {T : Type 0} → (T → Value) → (T → List ℕ) → Entries T → MapEntries
entries_view view key (all_entries.Map m) = entry_views view m.now.entries
entries_view view key (all_entries.Slice xs) = keyed_views view key xs.now

-- the entries that are left
abbrev pub entries_left : {T : Type 0} → (T → Value) → (T → List ℕ) → EntryIter T → MapEntries
entries_left view key (entries_to_come.Map rest) = entry_views view rest
entries_left view key (entries_to_come.Slice xs) = keyed_views view key xs.now

-- the members of a structure, in the order of their positions
abbrev pub members_view : {T : Type 0} → (T → Value) → (T → ℕ) → Members T → MemberValues
members_view view position (all_members.Map m) = member_views view m.now.entries
members_view view position (all_members.Slice xs) = placed_views view position xs.now

-- the members that are left
abbrev pub members_left : {T : Type 0} → (T → Value) → (T → ℕ) → MemberIter T → MemberValues
members_left view position (members_to_come.Map rest) = member_views view rest
members_left view position (members_to_come.Slice xs) = placed_views view position xs.now

-- the value of a tree, by its root
abbrev pub part_view : {T : Type 0} → (T → Value) → (T → List ℕ) → (T → ℕ) → Part T → Value
part_view view key position (parts.Boolean b) = scalar_value (boolean b)
part_view view key position (parts.Whole n) = scalar_value (whole n)
part_view view key position (parts.Text s) = scalar_value (text s.now)
part_view view key position (parts.Bytes b) = scalar_value (bytes b.now)
part_view view key position (parts.Decimal m e) = scalar_value (decimal m e)
part_view view key position (parts.Timestamp d) = scalar_value (instant d)
part_view view key position (parts.List vs) = list (values_of (mapped view vs.now))
part_view view key position (parts.Numbers ns) = list (values_of (whole_values ns.now))
part_view view key position (parts.Map es) = map (entries_view view key es)
part_view view key position (parts.Structure ms) = structure (members_view view position ms)
part_view view key position (parts.Union n v) = union n (view v.now)
part_view view key position parts.Null = null_element
part_view view key position (parts.Document d) = document_value (whole_document (document_view d.now))

-- ---- the trees inside of a part stand where they should

abbrev pub Each : {T : Type 0} → (T → Type 0) → List T → Type 0
Each stands [] = Unit {0}
Each stands (x ∷ xs) = stands x × Each stands xs

-- the trees of a map, in the order of its keys
abbrev pub trees_in : {T : Type 0} → Entries T → List T
trees_in {T} (all_entries.Map m) = mapped (λ (e : String Global × T). e.1) m.now.entries
trees_in (all_entries.Slice xs) = xs.now

-- those that are left of a map
abbrev pub trees_left : {T : Type 0} → EntryIter T → List T
trees_left {T} (entries_to_come.Map rest) = mapped (λ (e : String Global × T). e.1) rest
trees_left (entries_to_come.Slice xs) = xs.now

-- the trees of a structure, in the order of its positions
abbrev pub member_trees : {T : Type 0} → Members T → List T
member_trees {T} (all_members.Map m) = mapped (λ (m : ℕ × T). m.1) m.now.entries
member_trees (all_members.Slice xs) = xs.now

-- those that are left of a structure
abbrev pub member_trees_left : {T : Type 0} → MemberIter T → List T
member_trees_left {T} (members_to_come.Map rest) = mapped (λ (m : ℕ × T). m.1) rest
member_trees_left (members_to_come.Slice xs) = xs.now

abbrev pub EntriesStand : {T : Type 0} → (T → Type 0) → Entries T → Type 0
EntriesStand stands es = Each stands (trees_in es)

abbrev pub EntriesLeftStand : {T : Type 0} → (T → Type 0) → EntryIter T → Type 0
EntriesLeftStand stands left = Each stands (trees_left left)

abbrev pub MembersStand : {T : Type 0} → (T → Type 0) → Members T → Type 0
MembersStand stands ms = Each stands (member_trees ms)

abbrev pub MembersLeftStand : {T : Type 0} → (T → Type 0) → MemberIter T → Type 0
MembersLeftStand stands left = Each stands (member_trees_left left)

abbrev pub PartStands : {T : Type 0} → (T → Type 0) → Part T → Type 0
PartStands stands (parts.List vs) = Each stands vs.now
PartStands stands (parts.Map es) = EntriesStand stands es
PartStands stands (parts.Structure ms) = MembersStand stands ms
PartStands stands (parts.Union n v) = stands v.now
PartStands stands _ = Unit {0}
