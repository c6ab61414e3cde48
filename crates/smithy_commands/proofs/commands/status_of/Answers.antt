use Rattle.std.proofs.Common.{Some, map, string_bytes, sym, ap, ◌∙◌, refl}
use Rattle.smithy_outside.specs.Environment.{environment}
use Rattle.smithy_outside.specs.Outside.{environment_of}
use Rattle.smithy_commands.specs.Command.{transcode, gen, compare, lines, replay, lint, form, command_view}
use Rattle.smithy_commands.specs.Transcode.{transcode_view, answers_of}
use Rattle.smithy_commands.specs.Gen.{gen_view}
use Rattle.smithy_commands.specs.Compare.{compare_view}
use Rattle.smithy_commands.specs.Lines.{lines_view}
use Rattle.smithy_commands.specs.Replay.{replay_view}
use Rattle.smithy_commands.specs.Lint.{lint_view, answers_of as lint_answers}
use Rattle.smithy_commands.specs.Form.{form_view, answers_of as form_answers}
use Rattle.smithy_commands.proofs.CompareLemmas.{compare_is_no_usage}
use Rattle.smithy_commands.proofs.GenLemmas.{gen_is_no_usage}
use Rattle.smithy_commands.proofs.FormLemmas.{form_answer}
use Rattle.smithy_commands.proofs.LintLemmas.{lint_answer}
use Rattle.smithy_commands.proofs.LinesLemmas.{lines_is_no_usage}
use Rattle.smithy_commands.proofs.OneInputLemmas.{input_is_no_usage}
use Rattle.smithy_commands.proofs.ReplayLemmas.{replay_is_no_usage}
use Rattle.smithy_commands.proofs.RunLemmas.{status_of_command, status_of_no_command}
use Rattle.smithy_commands.proofs.TranscodeLemmas.{transcode_answer}
use Rattle.smithy_commands.proofs.commands.status_of.Goals as goal

pub returns-in-Transcode : goal.returns-in-Transcode
returns-in-Transcode g c =
    let old = environment g.F.Files g.S.Source g.K.Sink c.args.files.now c.args.input.now c.args.out.now in
    let new = environment g.F.Files g.S.Source g.K.Sink c.answer_input.new.files c.answer_input.new.input c.answer_input.new.out in
    let command = transcode_view c.in-Transcode.command in
    let answer = c.answer_input.ensures in
    status_of_command (map string_bytes c.args.words.now) (transcode command) old new c.answer_input.result (sym c.in-Some.ensures ∙ ap (λ x. Some (command_view x)) c.in-Transcode.is)
    (transcode_answer command old new c.answer_input.result answer) (input_is_no_usage (answers_of command) old new c.answer_input.result answer) answer.files_are_kept

pub returns-in-Gen : goal.returns-in-Gen
returns-in-Gen g c =
    let files = g.F.Files.told c.args.files.now in
    let input = g.S.Source.told c.args.input.now in
    let old = environment_of files input (g.K.Sink.told c.args.out.now) (g.K.Sink.holds_back c.args.out.now) in
    let new = environment_of files input (g.K.Sink.told c.write_generated.new.out) (g.K.Sink.holds_back c.write_generated.new.out) in
    let command = gen_view c.in-Gen.command in
    let answer = c.write_generated.ensures files input in
    status_of_command (map string_bytes c.args.words.now) (gen command) old new c.write_generated.result (sym c.in-Some.ensures ∙ ap (λ x. Some (command_view x)) c.in-Gen.is)
    answer (gen_is_no_usage command old new c.write_generated.result answer) (λ path. refl)

pub returns-in-Compare : goal.returns-in-Compare
returns-in-Compare g c =
    let input = g.S.Source.told c.args.input.now in
    let old = environment_of (g.F.Files.told c.args.files.now) input (g.K.Sink.told c.args.out.now) (g.K.Sink.holds_back c.args.out.now) in
    let new = environment_of (g.F.Files.told c.compare_files.new.files) input (g.K.Sink.told c.compare_files.new.out) (g.K.Sink.holds_back c.compare_files.new.out) in
    let command = compare_view c.in-Compare.command in
    let answer = c.compare_files.ensures input in
    status_of_command (map string_bytes c.args.words.now) (compare command) old new c.compare_files.result (sym c.in-Some.ensures ∙ ap (λ x. Some (command_view x)) c.in-Compare.is)
    answer (compare_is_no_usage command old new c.compare_files.result answer) answer.files_are_kept

pub returns-in-Lines : goal.returns-in-Lines
returns-in-Lines g c =
    let old = environment g.F.Files g.S.Source g.K.Sink c.args.files.now c.args.input.now c.args.out.now in
    let new = environment g.F.Files g.S.Source g.K.Sink c.answer_lines.new.files c.answer_lines.new.input c.answer_lines.new.out in
    let command = lines_view c.in-Lines.command in
    let answer = c.answer_lines.ensures in
    status_of_command (map string_bytes c.args.words.now) (lines command) old new c.answer_lines.result (sym c.in-Some.ensures ∙ ap (λ x. Some (command_view x)) c.in-Lines.is)
    answer (lines_is_no_usage command old new c.answer_lines.result answer) answer.files_are_kept

pub returns-in-Replay : goal.returns-in-Replay
returns-in-Replay g c =
    let old = environment g.F.Files g.S.Source g.K.Sink c.args.files.now c.args.input.now c.args.out.now in
    let new = environment g.F.Files g.S.Source g.K.Sink c.replay_lines.new.files c.replay_lines.new.input c.replay_lines.new.out in
    let command = replay_view c.in-Replay.command in
    let answer = c.replay_lines.ensures in
    status_of_command (map string_bytes c.args.words.now) (replay command) old new c.replay_lines.result (sym c.in-Some.ensures ∙ ap (λ x. Some (command_view x)) c.in-Replay.is)
    answer (replay_is_no_usage command old new c.replay_lines.result answer) answer.files_are_kept

pub returns-in-Lint : goal.returns-in-Lint
returns-in-Lint g c =
    let old = environment g.F.Files g.S.Source g.K.Sink c.args.files.now c.args.input.now c.args.out.now in
    let new = environment g.F.Files g.S.Source g.K.Sink c.answer_input-in-Lint.new.files c.answer_input-in-Lint.new.input c.answer_input-in-Lint.new.out in
    let command = lint_view c.in-Lint.command in
    let answer = c.answer_input-in-Lint.ensures in
    status_of_command (map string_bytes c.args.words.now) (lint command) old new c.answer_input-in-Lint.result (sym c.in-Some.ensures ∙ ap (λ x. Some (command_view x)) c.in-Lint.is)
    (lint_answer command old new c.answer_input-in-Lint.result answer) (input_is_no_usage (lint_answers command) old new c.answer_input-in-Lint.result answer) answer.files_are_kept

pub returns-in-Form : goal.returns-in-Form
returns-in-Form g c =
    let old = environment g.F.Files g.S.Source g.K.Sink c.args.files.now c.args.input.now c.args.out.now in
    let new = environment g.F.Files g.S.Source g.K.Sink c.answer_input-in-Form.new.files c.answer_input-in-Form.new.input c.answer_input-in-Form.new.out in
    let command = form_view c.in-Form.command in
    let answer = c.answer_input-in-Form.ensures in
    status_of_command (map string_bytes c.args.words.now) (form command) old new c.answer_input-in-Form.result (sym c.in-Some.ensures ∙ ap (λ x. Some (command_view x)) c.in-Form.is)
    (form_answer command old new c.answer_input-in-Form.result answer) (input_is_no_usage (form_answers command) old new c.answer_input-in-Form.result answer) answer.files_are_kept

pub returns-in_default : goal.returns-in_default
returns-in_default g c =
    status_of_no_command (map string_bytes c.args.words.now) (environment g.F.Files g.S.Source g.K.Sink c.args.files.now c.args.input.now c.args.out.now) (sym c.in_default.ensures)
