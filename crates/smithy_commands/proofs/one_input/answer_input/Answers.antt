use Rattle.std.proofs.Common.{List, ℕ, refl, subst}
use Rattle.smithy_outside.specs.Environment.{environment}
use Rattle.smithy_outside.specs.Outside.{Took, TookPrefix}
use Rattle.smithy_commands.proofs.OneInputLemmas.{nothing_read, input_refused, answer_written, answer_cut_short}
use Rattle.smithy_commands.proofs.one_input.answer_input.Goals as goal

pub returns-in-Ok-write_all : goal.returns-in-Ok-write_all
returns-in-Ok-write_all g c =
    let told = g.K.Sink.told in
    let command = g.C.AnswerInput.command c.args.command.now in
    let old = environment g.F.Files g.S.Source g.K.Sink c.args.files.now c.args.input.now c.args.out.now in
    let new = environment g.F.Files g.S.Source g.K.Sink c.check_input.new.files c.check_input.new.input c.write_all.new.sink in
    let passed = rw (c.table.ensures, c.root.ensures) at c.in-Ok.ensures.passed in
    let well = rw c.table.ensures at (c.in-Ok.ensures.table_met_no_fault (λ e. cc e)) in
    let given = rw c.deref.ensures.value at c.in-Ok-answer.ensures.given in
    let written = c.in-Ok-write_all.ensures.written in
    answer_written command old new c.check_input.ensures.no_further c.check_input.ensures.kept c.in-Ok.read.checked.table c.in-Ok.read.checked.root.0 c.in-Ok.read.input.items
    passed well (c.in-Ok.ensures.input_met_no_fault (λ e. cc e)) c.in-Ok-answer.answer.status c.in-Ok-answer.answer.bytes.items given.0 given.1 written.0
    (subst (λ (bytes : List ℕ). Took bytes (told c.args.out.now) (told c.write_all.new.sink)) c.deref-2.ensures.value written.1) c.in-Ok-write_all.ensures.passed_on

pub returns : goal.returns
returns g c =
    let told = g.K.Sink.told in
    let command = g.C.AnswerInput.command c.args.command.now in
    let old = environment g.F.Files g.S.Source g.K.Sink c.args.files.now c.args.input.now c.args.out.now in
    let new = environment g.F.Files g.S.Source g.K.Sink c.check_input.new.files c.check_input.new.input c.write_all.new.sink in
    let passed = rw (c.table.ensures, c.root.ensures) at c.in-Ok.ensures.passed in
    let well = rw c.table.ensures at (c.in-Ok.ensures.table_met_no_fault (λ e. cc e)) in
    let given = rw c.deref.ensures.value at c.in-Ok-answer.ensures.given in
    let written = c.in-Err-write_all.ensures.written in
    answer_cut_short command old new c.check_input.ensures.no_further c.check_input.ensures.kept c.in-Ok.read.checked.table c.in-Ok.read.checked.root.0 c.in-Ok.read.input.items
    passed well (c.in-Ok.ensures.input_met_no_fault (λ e. cc e)) c.in-Ok-answer.answer.status c.in-Ok-answer.answer.bytes.items given.0 given.1 written.0
    (subst (λ (bytes : List ℕ). TookPrefix bytes (told c.args.out.now) (told c.write_all.new.sink)) c.deref-2.ensures.value written.1)

pub returns-in-Err-answer : goal.returns-in-Err-answer
returns-in-Err-answer g c =
    let command = g.C.AnswerInput.command c.args.command.now in
    let old = environment g.F.Files g.S.Source g.K.Sink c.args.files.now c.args.input.now c.args.out.now in
    let new = environment g.F.Files g.S.Source g.K.Sink c.check_input.new.files c.check_input.new.input c.args.out.now in
    let passed = rw (c.table.ensures, c.root.ensures) at c.in-Ok.ensures.passed in
    let well = rw c.table.ensures at (c.in-Ok.ensures.table_met_no_fault (λ e. cc e)) in
    let why = rw c.deref.ensures.value at c.in-Err-answer.ensures.refused in
    input_refused command old new c.check_input.ensures.no_further c.check_input.ensures.kept c.in-Ok.read.checked.table c.in-Ok.read.checked.root.0 c.in-Ok.read.input.items
    passed well (c.in-Ok.ensures.input_met_no_fault (λ e. cc e)) c.in-Err-answer.refusal why.0 why.1 refl refl

pub returns-in-Err : goal.returns-in-Err
returns-in-Err g c =
    let command = g.C.AnswerInput.command c.args.command.now in
    let old = environment g.F.Files g.S.Source g.K.Sink c.args.files.now c.args.input.now c.args.out.now in
    let new = environment g.F.Files g.S.Source g.K.Sink c.check_input.new.files c.check_input.new.input c.args.out.now in
    let why = rw (c.table.ensures, c.root.ensures) at c.in-Err.ensures.refused in
    let well = rw c.table.ensures at c.in-Err.ensures.table_met_no_fault in
    nothing_read command old new c.check_input.ensures.no_further c.check_input.ensures.kept refl refl c.in-Err.status why
    (λ other. well (λ e. other (cc e))) (λ other. c.in-Err.ensures.input_met_no_fault (λ e. other (cc e)))
