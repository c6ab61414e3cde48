use Rattle.std.proofs.Common.{◌≡◌, ◌<◌, ◌≤◌, ◌-◌, ℕ, [], false, length, get_or}
use Rattle.std.specs.Str.{bytes_eq}
use Rattle.smithy_declarations.proofs.names.position_among_few.Given as goal

-- none of the names that were passed is the one that is looked for
abbrev pub invariant-loop-position : goal.invariant-loop-position
invariant-loop-position g l =
    let names = g.N.Named.names l.named in
    record {
      within : l.position ≤ length names;
      before : (k : ℕ) → k < l.position → bytes_eq (get_or names k []) l.name ≡ false;
    }

abbrev pub decreases-loop-position : goal.decreases-loop-position
decreases-loop-position g l = l.count - l.position
