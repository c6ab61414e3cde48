use Rattle.std.proofs.Common.{rules, ◌∙◌, ◌++◌, ◌∷◌, [], ap, sym, refl, set}
use Rattle.std.proofs.lemmas.List.{map-set, get_or-map, set-get_or}
use Rattle.std.proofs.lemmas.Result.{err_from_is_err_and}
use Rattle.std.proofs.Math.Seq.{map-set_same}
use Rattle.smithy_model.specs.Users.{users_of}
use Rattle.smithy_model.proofs.users.Users.add.Goals as goal

-- the list that was lent comes back as it was, since nothing was written to it
pub returns-in_default-get_mut-clause-missing : goal.returns-in_default-get_mut-clause-missing
returns-in_default-get_mut-clause-missing c = λ _.
    let users = c.in-Some.users.now in
    (refl, map-set_same (λ v. v.items) c.args.self.now.users.items c.args.part users users (ap (λ v. v.items) c.in-Some.ensures.value), refl)

-- a list that couldn't grow is as it was
pub returns-in_err-push-clause-failed : goal.returns-in_err-push-clause-failed
returns-in_err-push-clause-failed c =
    let users = c.in-Some.users.now in
    let p = err_from_is_err_and c.from_residual.result c.from_residual.ensures.1 in
    let counts = c.args.self.now.counts.items in
    rw p.1 (
      map-set_same (λ v. v.items) c.args.self.now.users.items c.args.part c.push.new.self users (c.in_err-push.ensures.items ∙ ap (λ v. v.items) c.in-Some.ensures.value),
      ap (set counts c.args.user) c.in-Some-get_mut.ensures.value ∙ set-get_or counts c.args.user _,
    )

-- the list that grew stands where the one before stood
pub returns-clause-users : goal.returns-clause-users
returns-clause-users c = λ _ _.
    let all = c.args.self.now.users.items in
    let before = c.in-Some.users.now in
    map-set (λ v. v.items) all c.args.part c.push.new.self
    ∙ ap (set (users_of c.args.self.now) c.args.part)
    (c.in_ok-push.ensures.items
    ∙ ap (λ users. users ++ c.args.user ∷ [])
    (ap (λ v. v.items) c.in-Some.ensures.value ∙ sym (get_or-map (λ v. v.items) all c.args.part before [] (search rules))))
