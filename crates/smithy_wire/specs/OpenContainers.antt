-- The open containers of a body that is written, as contracts see them.
use Rattle.std.specs.Prelude.{List, [], ◌∷◌, map, reverse, Option, Some, None, Result, Err}
use Rattle.smithy_schema.specs.declared.error.SerdeError.{SerdeError}
use Rattle.smithy_schema.specs.declared.error.SerdeError.TheVariants.{Unwritable}
use Rattle.smithy_schema.specs.Writing.{Open, open_structure, open_list, open_map_at_key, open_map_at_value, after_end_structure, after_end_list, after_end_map}
use Rattle.smithy_wire.specs.declared.open_containers.Container.{Container}
use Rattle.smithy_wire.specs.declared.open_containers.Container.TheVariants.{Structure, List as Listed, MapAtKey, MapAtValue}
use Rattle.smithy_wire.specs.declared.open_containers.OpenContainers.{OpenContainers}

abbrev pub open_of : Container → Open
open_of Structure = open_structure
open_of Listed = open_list
open_of MapAtKey = open_map_at_key
open_of MapAtValue = open_map_at_value

-- the containers, innermost first
abbrev pub opens_of : {M : Type 0} → OpenContainers M → List Open
opens_of s = map (λ o. open_of o.container) (reverse s.stack.items)

-- what is kept of each, innermost first
abbrev pub marks_of : {M : Type 0} → OpenContainers M → List M
marks_of s = map (λ o. o.mark) (reverse s.stack.items)

abbrev pub innermost : {A : Type 0} → List A → Option A
innermost [] = None
innermost (x ∷ xs) = Some x

-- the list with this in the place of the innermost
abbrev pub with_innermost : {A : Type 0} → A → List A → List A
with_innermost x [] = []
with_innermost x (y ∷ ys) = x ∷ ys

-- the open containers once one of this kind has ended that is innermost: no map ends behind a key whose value hasn't come
abbrev pub after_end : Container → List Open → Result (List Open) SerdeError
after_end Structure os = after_end_structure os
after_end Listed os = after_end_list os
after_end MapAtKey os = after_end_map os
after_end MapAtValue os = Err Unwritable
