use Rattle.std.proofs.Common.{List, ℕ, subst}
use Rattle.smithy_outside.specs.Outside.{Took, TookPrefix, environment_of}
use Rattle.smithy_commands.specs.Gen.{gen_view}
use Rattle.smithy_commands.proofs.GenLemmas.{gen_done, gen_write_failed, gen_refused}
use Rattle.smithy_commands.proofs.commands.generate.write_generated.Goals as goal

pub returns-in-Ok-write_all : goal.returns-in-Ok-write_all
returns-in-Ok-write_all g c = λ files input.
    let told = g.K.Sink.told in
    let holds_back = g.K.Sink.holds_back in
    let written = c.in-Ok-write_all.ensures.written in
    gen_done (gen_view c.args.command) files input (told c.args.out.now) (told c.write_all.new.sink) (holds_back c.args.out.now) (holds_back c.write_all.new.sink)
    c.in-Ok.line.items c.in-Ok.ensures.line written.0
    (subst (λ (bytes : List ℕ). Took bytes (told c.args.out.now) (told c.write_all.new.sink)) c.deref.ensures.value written.1) c.in-Ok-write_all.ensures.passed_on

pub returns : goal.returns
returns g c = λ files input.
    let told = g.K.Sink.told in
    let holds_back = g.K.Sink.holds_back in
    let written = c.in-Err-write_all.ensures.written in
    gen_write_failed (gen_view c.args.command) files input (told c.args.out.now) (told c.write_all.new.sink) (holds_back c.args.out.now) (holds_back c.write_all.new.sink)
    c.in-Ok.line.items c.in-Ok.ensures.line written.0
    (subst (λ (bytes : List ℕ). TookPrefix bytes (told c.args.out.now) (told c.write_all.new.sink)) c.deref.ensures.value written.1)

pub returns-in-Err : goal.returns-in-Err
returns-in-Err g c = λ files input.
    gen_refused (gen_view c.args.command) (environment_of files input (g.K.Sink.told c.args.out.now) (g.K.Sink.holds_back c.args.out.now)) c.in-Err.status c.in-Err.ensures.only_memory
