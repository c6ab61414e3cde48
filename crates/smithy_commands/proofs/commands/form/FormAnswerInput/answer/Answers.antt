use Rattle.std.proofs.Common.{refl}
use Rattle.std.proofs.lemmas.Result.{err_from_is_err_and}
use Rattle.smithy_value.specs.View.{view}
use Rattle.smithy_commands.specs.Form.{form_view}
use Rattle.smithy_commands.proofs.FormLemmas.{form_told, error_refuses, body_given, body_lacking}
use Rattle.smithy_commands.proofs.commands.form.FormAnswerInput.answer.Goals as goal

pub returns-in_err-write_body-clause-refused : goal.returns-in_err-write_body-clause-refused
returns-in_err-write_body-clause-refused c =
    let command = form_view c.args.self.now in
    let table = c.args.table.now in
    let root = c.args.root.0 in
    let told = form_told command table root c.args.input.now c.in_ok-form.form c.in_ok-form.ensures.answers in
    let wrote = rw c.in_ok-to.ensures at c.in_err-write_body.ensures in
    let error = c.in_err-write_body.field-0.0 in
    let p = err_from_is_err_and c.from_residual-in_err-write_body.result c.from_residual-in_err-write_body.ensures.1 in
    rw (p.1, p.2)
    (error_refuses command table root c.args.input.now error, body_lacking command table root c.args.input.now (view c.in_ok-form.form.value) told error wrote)

pub returns-clause-given : goal.returns-clause-given
returns-clause-given c =
    let command = form_view c.args.self.now in
    let table = c.args.table.now in
    let root = c.args.root.0 in
    let told = form_told command table root c.args.input.now c.in_ok-form.form c.in_ok-form.ensures.answers in
    let wrote = rw c.in_ok-to.ensures at c.in_ok-write_body.ensures in
    (refl, body_given command table root c.args.input.now (view c.in_ok-form.form.value) told c.in_ok-write_body.field-0 wrote)
