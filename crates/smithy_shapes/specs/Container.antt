-- What the entries of one container mean together, whichever wire they came from.
use Rattle.std.specs.Prelude.{◌&&◌, ◌||◌, not, ℕ, List, [], ◌∷◌, ◌++◌, filter, Bool, true, false, Option, Some, None, is_some, is_none, option_map, option_and_then, if◌then◌else◌, codes, bytes_eq}
use Rattle.std.specs.Option.{option_map_or}
use Rattle.smithy_declarations.specs.Table.{Kind, structure_of, union_of, list_of, map_of}
use Rattle.smithy_declarations.specs.Value.{Value, list, map, structure, union, null_element, values_of, MemberValues, no_member_values, put_member, MapEntries, no_map_entries, put_entry}

-- one child of a container, as its wire has it
pub record Entry : Type 0 where
  -- the text of the key: none in a list, and none where the key is no text
  pub key : Option (List ℕ)
  -- the position of the member that the key names, if it names one
  pub position : Option ℕ
  -- what the child means at its place, if it means anything
  pub meaning : Option Value
  pub is_absent : Bool
  pub is_skippable : Bool
  pub is_null : Bool

-- what is left after all entries, each of which takes one step
abbrev pub folded : {S : Type 0} → (Entry → S → Option S) → S → List Entry → Option S
folded step s [] = Some s
folded step s (e ∷ es) = option_and_then (λ after. folded step after es) (step e s)

-- ---- structures

-- an entry that names a member sets it, so that the last one counts, and any other has to be skippable
abbrev pub set_by : Entry → Option ℕ → MemberValues → Option MemberValues
set_by e None members = if e.is_skippable then Some members else None
set_by e (Some n) members = option_map (λ v. put_member n v members) e.meaning

-- each key has to be a text, and an entry that is absent changes nothing
abbrev pub member_step : Entry → MemberValues → Option MemberValues
member_step e members =
    option_and_then (λ key. if e.is_absent then Some members else set_by e e.position members) e.key

-- the members after these entries
abbrev pub members_from : MemberValues → List Entry → Option MemberValues
members_from = folded member_step

-- ---- unions

-- a protocol's mark of the variant: `__type`, where no member has this name
abbrev pub is_type_mark : Option ℕ → List ℕ → Bool
is_type_mark position key = is_none position && bytes_eq key (codes "__type")

-- the entry is a protocol's mark of the variant: `__type`, where no member has this name
abbrev pub marks_type : Entry → Bool
marks_type e = option_map_or (is_type_mark e.position) e.key false

-- an entry that is neither absent nor a mark says which variant it is
abbrev pub is_variant : Entry → Bool
is_variant e = not (e.is_absent || marks_type e)

-- what each entry of a union has to be: its key is a text, and a mark can be skipped, as a null always can
abbrev pub is_regular : Entry → Bool
is_regular e = is_some e.key && (e.is_absent || not (marks_type e) || e.is_skippable)

-- what all entries of a union have to be: each key is a text, and each mark can be skipped, as a null always can
abbrev pub all_regular : List Entry → Bool
all_regular [] = true
all_regular (e ∷ es) = is_regular e && all_regular es

-- the one variant: none and two are none
abbrev pub variant_of : List Entry → Option Value
variant_of [] = None
variant_of (e ∷ []) = option_and_then (λ n. option_map (union n) e.meaning) e.position
variant_of (e ∷ f ∷ es) = None

-- ---- lists and maps

-- a null stands for itself where the list or map is sparse, and any other child for what it means
abbrev pub element_of : Bool → Bool → Option Value → Option Value
element_of is_sparse is_null meaning = if is_null && is_sparse then Some null_element else meaning

-- one more element: each entry has to be one
abbrev pub element_step : Bool → Entry → List Value → Option (List Value)
element_step is_sparse e vs = option_map (λ v. vs ++ v ∷ []) (element_of is_sparse e.is_null e.meaning)

-- the elements after these entries
abbrev pub elements_from : Bool → List Value → List Entry → Option (List Value)
elements_from is_sparse = folded (element_step is_sparse)

-- each entry has to be one, and of equal keys the last counts
abbrev pub entry_step : Bool → Entry → MapEntries → Option MapEntries
entry_step is_sparse e entries =
    option_and_then (λ key. option_map (λ v. put_entry key v entries) (element_of is_sparse e.is_null e.meaning)) e.key

-- the map's entries after these entries
abbrev pub entries_from : Bool → MapEntries → List Entry → Option MapEntries
entries_from is_sparse = folded (entry_step is_sparse)

-- the value of a container of this kind by its entries
abbrev pub container_of : Kind → List Entry → Option Value
container_of (structure_of members) es = option_map structure (members_from no_member_values es)
container_of (union_of members) es = if all_regular es then variant_of (filter is_variant es) else None
container_of (list_of l) es = option_map (λ vs. list (values_of vs)) (elements_from l.is_sparse [] es)
container_of (map_of m) es = option_map map (entries_from m.is_sparse no_map_entries es)
container_of _ es = None
