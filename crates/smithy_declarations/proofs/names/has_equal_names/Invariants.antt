use Rattle.std.proofs.Common.{◌≡◌, ◌<◌, ℕ, [], Some, get_or}
use Rattle.std.specs.List.{position}
use Rattle.std.specs.Str.{bytes_eq}
use Rattle.smithy_declarations.proofs.names.has_equal_names.Given as goal

abbrev pub invariant-loop-position : goal.invariant-loop-position
invariant-loop-position g l =
    (k : ℕ) → k < l.position → position (λ n. bytes_eq n (get_or (g.N.Named.names l.named) k [])) (g.N.Named.names l.named) ≡ Some k
