use Rattle.std.proofs.Common.{◌≡◌, map, drop}
use Rattle.std.specs.List.{list_any}
use Rattle.smithy_declarations.specs.Acceptance.{places_of}
use Rattle.smithy_declarations.specs.DeclViews.{decl_of}
use Rattle.smithy_declarations.specs.Private.Tests.{place_test_of}
use Rattle.smithy_declarations.proofs.acceptance.PlaceTest.fails_at_some.Given as goal

abbrev pub invariant-loop-position : goal.invariant-loop-position
invariant-loop-position l =
    list_any (place_test_of l.self (map decl_of l.decls)) (drop l.position (places_of (decl_of l.places.0.now).form))
    ≡ list_any (place_test_of l.self (map decl_of l.decls)) (places_of (decl_of l.places.0.now).form)
