use Rattle.std.proofs.Common.{Err, refl}
use Rattle.smithy_outside.specs.Environment.{environment}
use Rattle.smithy_lines.specs.declared.answer.StreamFault.TheVariants as faults
use Rattle.smithy_commands.specs.Lines.{lines_view}
use Rattle.smithy_commands.proofs.LinesLemmas.{lines_answered, unused}
use Rattle.smithy_commands.proofs.commands.lines.answer_lines.Goals as goal

pub returns-in-Err-ReadFailed : goal.returns-in-Err-ReadFailed
returns-in-Err-ReadFailed g c =
    let old = environment g.F.Files g.S.Source g.K.Sink c.args.files.now c.args.input.now c.args.out.now in
    let new = environment g.F.Files g.S.Source g.K.Sink c.check_table.new.files c.answer_each.new.source c.answer_each.new.out in
    let answered = rw (c.in-Err-ReadFailed.field-0-is, c.in-Ok.ensures, c.in-Ok-wire_of_words.ensures) at c.in-Err-ReadFailed.ensures.answered in
    let passed = rw c.in-Err-ReadFailed.field-0-is at c.in-Err-ReadFailed.ensures.passed_on_before refl in
    lines_answered (lines_view c.args.command) old new c.in-Ok-check_table.ensures.kept c.in-Ok-check_table.checked.table c.in-Ok-check_table.checked.root.0
    c.in-Ok-check_table.ensures.passed (c.in-Ok-check_table.ensures.no_fault (λ e. cc e)) (Err faults.ReadFailed) answered
    (unused g.K.Sink.told g.K.Sink.holds_back c.args.out.now c.answer_each.new.out passed)

pub returns : goal.returns
returns g c =
    let old = environment g.F.Files g.S.Source g.K.Sink c.args.files.now c.args.input.now c.args.out.now in
    let new = environment g.F.Files g.S.Source g.K.Sink c.check_table.new.files c.answer_each.new.source c.answer_each.new.out in
    let answered = rw (c.in-Err-NoMemory.field-0-is, c.in-Ok.ensures, c.in-Ok-wire_of_words.ensures) at c.in-Err-NoMemory.ensures.answered in
    lines_answered (lines_view c.args.command) old new c.in-Ok-check_table.ensures.kept c.in-Ok-check_table.checked.table c.in-Ok-check_table.checked.root.0
    c.in-Ok-check_table.ensures.passed (c.in-Ok-check_table.ensures.no_fault (λ e. cc e)) (Err faults.NoMemory) answered tt
