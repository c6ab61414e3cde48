use Rattle.std.proofs.Common.{rules, ◌∙◌, ap, set}
use Rattle.std.proofs.lemmas.List.{map-set}
use Rattle.smithy_model.specs.Users.{users_of}
use Rattle.smithy_model.proofs.users.Users.take.Goals as goal

pub returns-in-Some-clause-users : goal.returns-in-Some-clause-users
returns-in-Some-clause-users c =
    map-set (λ v. v.items) c.args.self.now.users.items c.args.part c.replace.new.dest
    ∙ ap (set (users_of c.args.self.now) c.args.part) (search rules)
