-- Where nothing is found.
use Rattle.std.specs.Prelude.{◌≡◌, ℕ, List, [], ◌∷◌, ◌&&◌, Bool, true, false, is_some}
use Rattle.smithy_declarations.specs.declared.place.Place.{Place}
use Rattle.smithy_declarations.specs.Table.{Table}
use Rattle.smithy_shapes.specs.Limits.{kept}
use Rattle.smithy_wire.specs.Node.{Node}
use Rattle.smithy_wire.specs.Rules.{Rules}
use Rattle.smithy_wire.specs.Meaning.{meaning}
use Rattle.smithy_compare.specs.Tree.{Step}
use Rattle.smithy_lint.specs.Findings.{Found, findings, all_known}

-- nothing was found
abbrev pub is_clean : List Found → Bool
is_clean [] = true
is_clean (f ∷ fs) = false

-- with the limits kept, nothing is found exactly where the node means something and nothing in it is unknown
abbrev pub NothingFound : Type 0 → Type 0
NothingFound L =
    (r : Rules L) → r.limits ≡ kept → (t : Table) (p : Place) (depth : ℕ) (path : List Step) (x : Node L)
    → is_clean (findings r t p depth path x) ≡ (is_some (meaning r t p depth x) && all_known r t p x)
