-- The value that a tree of the program stands for.
use Rattle.std.specs.Prelude.{ℕ, List, [], ◌∷◌, map as mapped, String, string_bytes, box_value}
use Rattle.std.specs.Cow.{cow_str_bytes, cow_slice_items}
use Rattle.std.specs.declared.alloc.Global.{Global}
use Rattle.smithy_types.specs.Document.{whole_document}
use Rattle.smithy_types.specs.DocumentView.{document_view}
use Rattle.smithy_declarations.specs.Value.{boolean, whole, text, bytes, decimal, instant, Value, scalar_value, list, map, structure, union, null_element, document_value, values_of, MapEntries, no_map_entries, map_entry, MemberValues, no_member_values, member_value}
use Rattle.smithy_value.specs.declared.value.Value as kept
use Rattle.smithy_value.specs.declared.value.Value.TheOpen.{Value-F}

-- entries by the bytes of their keys, in order
abbrev pub map_entries_of : List (String Global × Value) → MapEntries
map_entries_of [] = no_map_entries
map_entries_of (e ∷ es) = map_entry (string_bytes e.0) e.1 (map_entries_of es)

-- members by their positions, in order
abbrev pub member_values_of : List (ℕ × Value) → MemberValues
member_values_of [] = no_member_values
member_values_of (m ∷ ms) = member_value m.0 m.1 (member_values_of ms)

-- one level, with each value inside already seen as what it stands for
abbrev pub view_step : Value-F Value → Value
view_step (Value-F.Boolean b) = scalar_value (boolean b)
view_step (Value-F.Whole n) = scalar_value (whole n)
view_step (Value-F.Text s) = scalar_value (text (cow_str_bytes s))
view_step (Value-F.Bytes b) = scalar_value (bytes (cow_slice_items b))
view_step (Value-F.Decimal m e) = scalar_value (decimal m e)
view_step (Value-F.Instant d) = scalar_value (instant d)
view_step (Value-F.List v) = list (values_of v.items)
view_step (Value-F.Map m) = map (map_entries_of m.entries)
view_step (Value-F.Structure m) = structure (member_values_of m.entries)
view_step (Value-F.Union n v) = union n (box_value v)
view_step Value-F.Null = null_element
view_step (Value-F.Document d) = document_value (whole_document (document_view d))

abbrev pub view : kept.Value → Value
view = kept.fold-Value Value view_step

abbrev pub view_entries : List (String Global × kept.Value) → MapEntries
view_entries es = map_entries_of (mapped (λ (e : String Global × kept.Value). (e.0, view e.1)) es)

abbrev pub view_members : List (ℕ × kept.Value) → MemberValues
view_members ms = member_values_of (mapped (λ (m : ℕ × kept.Value). (m.0, view m.1)) ms)

abbrev pub view_elements : List kept.Value → List Value
view_elements vs = mapped view vs
