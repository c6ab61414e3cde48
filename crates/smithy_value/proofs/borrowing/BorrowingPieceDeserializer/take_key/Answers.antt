use Rattle.std.proofs.lemmas.Result.{err_from_is_err_and}
use Rattle.smithy_value.proofs.KeyAnswers.{key_fails, key_comes}
use Rattle.smithy_value.proofs.borrowing.BorrowingPieceDeserializer.take_key.Goals as goal

pub returns-in_err-key-clause-goes_on : goal.returns-in_err-key-clause-goes_on
returns-in_err-key-clause-goes_on g c =
    let told = c.in_err-key.ensures.goes_on in
    let p = err_from_is_err_and c.from_residual.result c.from_residual.ensures.1 in
    rw (p.1, p.2)
    (key_fails _ _ _ _ _ _ _ told.conduct told.narrow told.shallow told.unread told.refused told.none_without_limits)

pub returns-in-Some-clause-goes_on : goal.returns-in-Some-clause-goes_on
returns-in-Some-clause-goes_on g c =
    let told = c.in_ok-key.ensures.goes_on in
    key_comes _ _ _ _ _ _ _ _ told.conduct told.unread (λ due t p kind. rw c.in-Some.is at (told.ok due t p kind))

pub returns-in-None-clause-goes_on : goal.returns-in-None-clause-goes_on
returns-in-None-clause-goes_on g c =
    let told = c.in_ok-key.ensures.goes_on in
    key_comes _ _ _ _ _ _ _ _ told.conduct told.unread (λ due t p kind. rw c.in-None.is at (told.ok due t p kind))
