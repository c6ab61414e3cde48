-- Which shapes use which.
use Rattle.std.specs.Prelude.{ℕ, List, map as list_map}
use Rattle.smithy_model.specs.declared.users.Users.{Users}

-- for each shape, by its number, the numbers of those that use it
abbrev pub users_of : Users → List (List ℕ)
users_of u = list_map (λ v. v.items) u.users.items

-- and how many of those that it uses aren't known yet
abbrev pub unknown_of : Users → List ℕ
unknown_of u = u.counts.items
