-- The roots of the tasks that a table keeps.
use Rattle.std.specs.Prelude.{List, Bool, true, false}
use Rattle.std.specs.List.{list_all}
use Rattle.smithy_declarations.specs.Table.{Kind, Table, structure_of, kind_of, shape_place}
use Rattle.smithy_transcode_c.specs.declared.asked.Meant.{Meant}

-- a structure stands there
abbrev pub is_structure : Kind → Bool
is_structure (structure_of members) = true
is_structure _ = false

-- the root of a task is a structure of the table
abbrev pub is_rooted : Table → Meant → Bool
is_rooted table task = is_structure (kind_of table (shape_place task.root.0))

-- so is that of each
abbrev pub are_rooted : Table → List Meant → Bool
are_rooted table tasks = list_all (is_rooted table) tasks
