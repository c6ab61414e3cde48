-- The path that a path of the program stands for.
use Rattle.std.specs.Prelude.{List, map as mapped, Option, option_map, string_bytes}
use Rattle.std.specs.declared.vec.Vec.{Vec}
use Rattle.std.specs.declared.alloc.Global.{Global}
use Rattle.smithy_compare.specs.declared.path.PathPart.{PathPart}
use Rattle.smithy_compare.specs.declared.path.PathPart.TheVariants.{Member, Element, Key}
use Rattle.smithy_compare.specs.Tree.{Step, member, element, key}

abbrev pub step_of : PathPart → Step
step_of (Member n) = member n
step_of (Element i) = element i
step_of (Key k) = key (string_bytes k)

abbrev pub path_of : Vec PathPart Global → List Step
path_of parts = mapped step_of parts.items

-- a path that was found
abbrev pub found_path : Option (Vec PathPart Global) → Option (List Step)
found_path found = option_map path_of found
