use Rattle.std.proofs.Common.{◌≡◌, map, take}
use Rattle.smithy_declarations.specs.Acceptance.{places_of, place_of}
use Rattle.smithy_declarations.specs.DeclViews.{decl_of}
use Rattle.smithy_shapes.proofs.build.all_places.Given as goal

abbrev pub invariant-loop-decl : goal.invariant-loop-decl
invariant-loop-decl l =
    map (λ p. p.items) l.all.items ≡ map (λ d. map (place_of (map decl_of l.decls)) (places_of (decl_of d).form)) (take l.decl-index l.decls)
