-- The value of an attribute of DynamoDB, which holds others of its kind.
use Rattle.std.specs.Prelude.{◌≡◌, ℕ, List, [], ◌∷◌, map as mapped, Some, String, codes, string_bytes}
use Rattle.std.specs.declared.alloc.Global.{Global}
use Rattle.smithy_declarations.specs.declared.place.Target.{Target}
use Rattle.smithy_declarations.specs.declared.place.Target.TheVariants.{Simple}
use Rattle.smithy_declarations.specs.declared.shape_type.Scalar.TheVariants as scalars
use Rattle.smithy_declarations.specs.declared.shape_type.ShapeType.TheVariants as types
use Rattle.smithy_declarations.specs.Table.{Table, type_of, members_of, kind_of_target}
use Rattle.smithy_shapes.specs.Declares.{row_of, Holds}
use Rattle.smithy_declarations.specs.Value.{Value, boolean, text, bytes, scalar_value, list, map, union, values_of, MapEntries, no_map_entries, map_entry}
use Rattle.smithy_shapes.specs.Site.{Site, member_site}
use Rattle.dynamodb_client.specs.declared.attribute_value.AttributeValue as kept
use Rattle.dynamodb_client.specs.declared.attribute_value.AttributeValue.TheOpen.{AttributeValue-F}

-- ---- the value that a type of the program stands for

-- entries by the bytes of their names, in order
abbrev pub map_entries_of : List (String Global × Value) → MapEntries
map_entries_of [] = no_map_entries
map_entries_of (e ∷ es) = map_entry (string_bytes e.0) e.1 (map_entries_of es)

-- one level, with each value inside already seen as what it stands for: S, N, B, BOOL, NULL, M, L
abbrev pub attribute_step : AttributeValue-F Value → Value
attribute_step (AttributeValue-F.S s) = union 0 (scalar_value (text (string_bytes s)))
attribute_step (AttributeValue-F.N s) = union 1 (scalar_value (text (string_bytes s)))
attribute_step (AttributeValue-F.B b) = union 2 (scalar_value (bytes b))
attribute_step (AttributeValue-F.Bool b) = union 3 (scalar_value (boolean b))
attribute_step (AttributeValue-F.Null b) = union 4 (scalar_value (boolean b))
attribute_step (AttributeValue-F.M m) = union 5 (map (map_entries_of m.entries))
attribute_step (AttributeValue-F.L v) = union 6 (list (values_of v.items))

abbrev pub attribute_value : kept.AttributeValue → Value
attribute_value = kept.fold-AttributeValue Value attribute_step

abbrev pub attribute_values : List kept.AttributeValue → List Value
attribute_values vs = mapped attribute_value vs

abbrev pub attribute_entries : List (String Global × kept.AttributeValue) → MapEntries
attribute_entries es = map_entries_of (mapped (λ (e : String Global × kept.AttributeValue). (e.0, attribute_value e.1)) es)

-- ---- where it stands

abbrev pub variant_members : Target → Target → List (List ℕ × Target)
variant_members entries elements =
    (codes "S", Simple scalars.String) ∷ (codes "N", Simple scalars.String) ∷ (codes "B", Simple scalars.Blob) ∷ (codes "BOOL", Simple scalars.Boolean)
    ∷ (codes "NULL", Simple scalars.Boolean) ∷ (codes "M", entries) ∷ (codes "L", elements) ∷ []

-- A table has these three declarations: the union of an attribute's value, the map of it, and the list of it. None of them holds nulls.
pub record AreAttributes (table : Table) (value entries elements : Target) : Type 0 where
  pub is_union : type_of (kind_of_target table value) ≡ Some types.Union
  pub members : mapped row_of (members_of (kind_of_target table value)) ≡ variant_members entries elements
  pub map : Holds table entries types.Map value
  pub list : Holds table elements types.List value

-- an attribute's value stands there
abbrev pub IsAttribute : Site → Type 0
IsAttribute site = (entries : Target) × (elements : Target) × AreAttributes site.table site.place.target entries elements

-- a map of such values stands there
abbrev pub AreEntries : Site → Type 0
AreEntries site = (value : Target) × (elements : Target) × AreAttributes site.table value site.place.target elements

-- a list of such values stands there
abbrev pub AreElements : Site → Type 0
AreElements site = (value : Target) × (entries : Target) × AreAttributes site.table value entries site.place.target

-- a member of an attribute's value stands there
abbrev pub IsVariant : Site → Type 0
IsVariant site = (outer : Site) × (n : ℕ) × IsAttribute outer × (member_site outer n ≡ Some site)
