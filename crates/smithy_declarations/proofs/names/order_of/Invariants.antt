use Rattle.std.proofs.Common.{◌≡◌, ◌<◌, ℕ, length, get_or, [], Bor, List}
use Rattle.smithy_declarations.proofs.names.order_of.Given as goal

abbrev pub invariant-loop-position : goal.invariant-loop-position
invariant-loop-position g l = record {
  counted : length l.entries.items ≡ l.position;
  seen : (k : ℕ) (d : Bor (List ℕ) × ℕ) → k < l.position → ((get_or l.entries.items k d).0.now ≡ get_or (g.N.Named.names l.named) k []) × ((get_or l.entries.items k d).1 ≡ k);
}
