use Rattle.std.proofs.Common.{List, ℕ, string_bytes, subst}
use Rattle.smithy_outside.specs.Outside.{Took, TookPrefix}
use Rattle.smithy_commands.specs.Compare.{compare_view}
use Rattle.smithy_commands.proofs.CompareLemmas.{nothing_found, all_written, not_all_written}
use Rattle.smithy_commands.proofs.commands.compare.compare_files.Goals as goal

pub returns-in-Ok-write_all : goal.returns-in-Ok-write_all
returns-in-Ok-write_all g c = λ input.
    let files = g.F.Files.told in
    let told = g.K.Sink.told in
    let holds_back = g.K.Sink.holds_back in
    let written = c.in-Ok-write_all.ensures.written in
    all_written (compare_view c.args.command) (files c.args.files.now) (files c.find.new.files) input (told c.args.out.now) (told c.write_all.new.sink)
    (holds_back c.args.out.now) (holds_back c.write_all.new.sink) c.find.ensures.kept c.in-Ok.answer.status (string_bytes c.in-Ok.answer.line) c.in-Ok.ensures.found written.0
    (subst (λ (bytes : List ℕ). Took bytes (told c.args.out.now) (told c.write_all.new.sink)) c.as_bytes.ensures.value written.1) c.in-Ok-write_all.ensures.passed_on

pub returns : goal.returns
returns g c = λ input.
    let files = g.F.Files.told in
    let told = g.K.Sink.told in
    let holds_back = g.K.Sink.holds_back in
    let written = c.in-Err-write_all.ensures.written in
    not_all_written (compare_view c.args.command) (files c.args.files.now) (files c.find.new.files) input (told c.args.out.now) (told c.write_all.new.sink)
    (holds_back c.args.out.now) (holds_back c.write_all.new.sink) c.find.ensures.kept c.in-Ok.answer.status (string_bytes c.in-Ok.answer.line) c.in-Ok.ensures.found written.0
    (subst (λ (bytes : List ℕ). TookPrefix bytes (told c.args.out.now) (told c.write_all.new.sink)) c.as_bytes.ensures.value written.1)

pub returns-in-Err : goal.returns-in-Err
returns-in-Err g c = λ input.
    nothing_found (compare_view c.args.command) (g.F.Files.told c.args.files.now) (g.F.Files.told c.find.new.files) input (g.K.Sink.told c.args.out.now) (g.K.Sink.told c.args.out.now)
    (g.K.Sink.holds_back c.args.out.now) (g.K.Sink.holds_back c.args.out.now) c.find.ensures.kept c.in-Err.status c.in-Err.ensures.refused
