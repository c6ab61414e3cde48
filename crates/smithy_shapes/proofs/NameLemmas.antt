-- The names of members are in UTF-8, since the program keeps them as texts.
use Rattle.std.proofs.Common.{ℕ, zero, suc, List, [], ◌∷◌, map, Option, Some, None, slice_get, option_map, IsUtf8, string_bytes, String, Global}
use Rattle.std.specs.Prelude.{unwrap_or}
use Rattle.std.specs.Option.{option_map_or}
use Rattle.std.proofs.lemmas.Str.{IsUtf8-string_bytes}
use Rattle.smithy_declarations.specs.declared.place.Place.{Place}
use Rattle.smithy_declarations.specs.declared.place.Target.{Target}
use Rattle.smithy_declarations.specs.declared.place.Target.TheVariants.{Simple, Document, Declared}
use Rattle.smithy_shapes.specs.declared.members.MemberShape.{MemberShape}
use Rattle.smithy_shapes.specs.declared.shapes.Shape.{Shape}
use Rattle.smithy_shapes.specs.declared.shapes.Shape.TheVariants.{Structure, Union, List as Listed, Map}
use Rattle.smithy_shapes.specs.declared.shapes.Declaration.{Declaration}
use Rattle.smithy_declarations.specs.Table as table
use Rattle.smithy_declarations.specs.Table.{nothing, kind_of, kind_of_target, kind_of_shape, members_of}
use Rattle.smithy_shapes.specs.Accepted.{HaveTextNames}
use Rattle.smithy_shapes.specs.Views.{member_of, shape_of, declaration_of}

json_name_is_text : (json : Option (String Global)) (name : String Global) → IsUtf8 (unwrap_or (option_map string_bytes json) (string_bytes name))
json_name_is_text None name = IsUtf8-string_bytes name
json_name_is_text (Some json) name = IsUtf8-string_bytes json

members_have : (ms : List MemberShape) → HaveTextNames (map member_of ms)
members_have [] = tt
members_have (m ∷ ms) = ((IsUtf8-string_bytes m.name, json_name_is_text m.json_name m.name), members_have ms)

shape_has : (s : Shape) → HaveTextNames (members_of (kind_of_shape (shape_of s)))
shape_has (Structure members) = members_have members.items.items
shape_has (Union members) = members_have members.items.items
shape_has (Listed l) = tt
shape_has (Map m) = tt

declared_have : (ds : List Declaration) (n : ℕ)
    → HaveTextNames (members_of (option_map_or kind_of_shape (option_map (λ (d : table.Declaration). d.shape) (slice_get (map declaration_of ds) n)) nothing))
declared_have [] n = tt
declared_have (d ∷ ds) zero = shape_has d.shape
declared_have (d ∷ ds) (suc n) = declared_have ds n

target_has : (ds : List Declaration) (target : Target) → HaveTextNames (members_of (kind_of_target (map declaration_of ds) target))
target_has ds (Simple s) = tt
target_has ds Document = tt
target_has ds (Declared r) = declared_have ds r.0

pub names_are_texts : (ds : List Declaration) (at : Place) → HaveTextNames (members_of (kind_of (map declaration_of ds) at))
names_are_texts ds at = target_has ds at.target
