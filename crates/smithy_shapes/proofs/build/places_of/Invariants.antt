use Rattle.std.proofs.Common.{◌≡◌, map, take}
use Rattle.smithy_declarations.specs.Acceptance.{places_of, place_of}
use Rattle.smithy_declarations.specs.DeclViews.{decl_of}
use Rattle.smithy_shapes.proofs.build.places_of.Given as goal

abbrev pub invariant-loop-position : goal.invariant-loop-position
invariant-loop-position l = l.places.items ≡ map (place_of (map decl_of l.decls)) (take l.position (places_of (decl_of l.named.0.now).form))
