-- What PutItem is given, as the client's type has it.
use Rattle.std.specs.Prelude.{◌≡◌, ℕ, List, [], ◌∷◌, Option, Some, option_map, codes}
use Rattle.smithy_declarations.specs.declared.place.Target.{Target}
use Rattle.smithy_declarations.specs.declared.place.Target.TheVariants.{Simple}
use Rattle.smithy_declarations.specs.declared.shape_type.Scalar.TheVariants as scalars
use Rattle.smithy_declarations.specs.declared.shape_type.ShapeType.TheVariants as types
use Rattle.smithy_shapes.specs.Declares.{Declares}
use Rattle.smithy_declarations.specs.Value.{Value, map}
use Rattle.smithy_shapes.specs.Site.{Site, member_site}
use Rattle.smithy_schema.specs.TextMaps.{text_value}
use Rattle.dynamodb_client.specs.Attributes.{attribute_entries, AreEntries}
use Rattle.dynamodb_client.specs.declared.put_item.PutItemInput.{PutItemInput}

abbrev pub put_item_members : Target → List (List ℕ × Target)
put_item_members item = (codes "TableName", Simple scalars.String) ∷ (codes "Item", item) ∷ []

abbrev pub put_item_fields : PutItemInput → List (Option Value)
put_item_fields input = option_map text_value input.table_name ∷ option_map (λ m. map (attribute_entries m.entries)) input.item ∷ []

-- such a structure stands there
pub record IsPutItem (site : Site) : Type 0 where
  pub item : Site
  pub second : member_site site 1 ≡ Some item
  pub members : Declares types.Structure (put_item_members item.place.target) site
  pub are_entries : AreEntries item
