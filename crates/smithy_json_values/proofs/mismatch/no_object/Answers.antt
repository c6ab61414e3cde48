use Rattle.std.proofs.Common.{◌≡◌, drop, true, false, arith}
use Rattle.std.proofs.lemmas.List.{length-drop}
use Rattle.smithy_json_values.specs.TypeMismatch.{begins_by}
use Rattle.smithy_json_values.proofs.ScannedPlaces.{rest_behind}
use Rattle.smithy_json_values.proofs.TypeLemmas.{nothing_comes, something_comes}
use Rattle.smithy_json_values.proofs.mismatch.no_object.Goals as goal

pub returns-then-skip_blanks-input-clause-told : goal.returns-then-skip_blanks-input-clause-told
returns-then-skip_blanks-input-clause-told c =
    let i = c.args.input.now in
    let start = c.skip_blanks.result in
    let none : begins_by (λ b. true) (drop start i) ≡ false = nothing_comes (drop start i) (omega (arith, length-drop start i, c.if-skip_blanks-input.true)) in
    rw (c.if-not-is_structure.false, rest_behind i c.args.at start c.skip_blanks.ensures) none

pub returns-else-skip_blanks-input-clause-told : goal.returns-else-skip_blanks-input-clause-told
returns-else-skip_blanks-input-clause-told c =
    let i = c.args.input.now in
    let start = c.skip_blanks.result in
    let some : begins_by (λ b. true) (drop start i) ≡ true =
    something_comes (drop start i) (λ empty. c.if-skip_blanks-input.false (omega (arith, length-drop start i, empty, c.skip_blanks.ensures.within))) in
    rw (c.if-not-is_structure.false, rest_behind i c.args.at start c.skip_blanks.ensures) some
