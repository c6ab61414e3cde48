use Rattle.std.proofs.Common.{◌≡◌, [], map, replicate}
use Rattle.smithy_model.proofs.users.Users.none.Given as goal

-- so many shapes so far, of which none is used
abbrev pub invariant-loop : goal.invariant-loop
invariant-loop l = map (λ v. v.items) l.users.items ≡ replicate l.counter []
