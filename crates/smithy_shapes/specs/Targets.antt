-- Which targets stand in a table.
use Rattle.std.specs.Prelude.{Bool, true, false}
use Rattle.std.specs.List.{list_any}
use Rattle.smithy_declarations.specs.declared.place.Target.{Target}
use Rattle.smithy_declarations.specs.declared.place.Target.TheVariants.{Simple}
use Rattle.smithy_declarations.specs.declared.shape_type.Scalar.{Scalar}
use Rattle.smithy_declarations.specs.declared.shape_type.Scalar.TheVariants.{Timestamp}
use Rattle.smithy_declarations.specs.Table.{Member, Shape, structure, union, list, map, Declaration, Table}

-- the scalar is one of instants
abbrev pub is_timestamp : Scalar → Bool
is_timestamp Timestamp = true
is_timestamp _ = false

-- a timestamp is due, whichever table it is of
abbrev pub is_timestamp_target : Target → Bool
is_timestamp_target (Simple s) = is_timestamp s
is_timestamp_target _ = false

-- in a shape, some member passes the test of targets, or the elements of the list or the values of the map do
abbrev pub shape_has : (Target → Bool) → Shape → Bool
shape_has test (structure members) = list_any (λ (m : Member). test m.place.target) members
shape_has test (union members) = list_any (λ (m : Member). test m.place.target) members
shape_has test (list l) = test l.place.target
shape_has test (map m) = test m.place.target

-- in some declaration of a table, some member passes the test of targets, or the elements of the list or the values of the map do
abbrev pub table_has : (Target → Bool) → Table → Bool
table_has test table = list_any (λ (d : Declaration). shape_has test d.shape) table
