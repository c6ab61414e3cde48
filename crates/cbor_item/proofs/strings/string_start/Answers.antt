-- A head, and then the string that it begins.
use Rattle.std.proofs.Common.{◌+◌, ℕ, subst, arith}
use Rattle.std.proofs.lemmas.Grind.{common_steps}
use Rattle.std.proofs.lemmas.Result.{err_from_is_err_and}
use Rattle.cbor_item.specs.HeadView.{head_read}
use Rattle.cbor_item.specs.Private.Start.{IsWholeAnswer}
use Rattle.cbor_item.proofs.StringLemmas.{head_string_fault, whole_start}
use Rattle.cbor_item.proofs.strings.string_start.Goals as goal

pub returns-in_err-head : goal.returns-in_err-head
returns-in_err-head c =
    let p = err_from_is_err_and c.from_residual.result c.from_residual.ensures.1 in
    let e = c.in_err-head.ensures in
    rw (p.1, p.2) (head_string_fault c.args.major c.args.input.now c.args.at c.in_err-head.field-0.0 e.truncated e.not_well_formed e.no_other_error)

pub returns-in-Some : goal.returns-in-Some
returns-in-Some c =
    let P : ℕ → Type 0 = λ l. IsWholeAnswer c.args.input.now (c.args.at + l) c.in-Some.announced c.whole_string.result in
    whole_start c.args.major c.args.input.now c.args.at (head_read c.in_ok-head.head) c.in-Some.announced c.whole_string.result c.requires.string_type c.requires.inside
    c.in_ok-head.ensures.found c.in-Some.is c.if-head-major.false (subst P c.from.ensures c.whole_string.ensures)

pub whole_string-requires : goal.whole_string-requires
whole_string-requires c = grind (arith, common_steps)

pub returns-in-None : goal.returns-in-None
returns-in-None c = grind (arith, common_steps)
