use Rattle.std.proofs.Common.{refl}
use Rattle.smithy_outside.specs.Environment.{environment}
use Rattle.smithy_commands.specs.Replay.{replay_view}
use Rattle.smithy_commands.proofs.ReplayLemmas.{nothing_replayed}
use Rattle.smithy_commands.proofs.commands.replay.replay_lines.Goals as goal

pub returns-in-Err : goal.returns-in-Err
returns-in-Err g c =
    let old = environment g.F.Files g.S.Source g.K.Sink c.args.files.now c.args.input.now c.args.out.now in
    let new = environment g.F.Files g.S.Source g.K.Sink c.check_input.new.files c.check_input.new.input c.args.out.now in
    nothing_replayed (replay_view c.args.command) old new c.check_input.ensures.no_further c.check_input.ensures.kept refl refl c.in-Err.status c.in-Err.ensures.refused
    (λ other. c.in-Err.ensures.table_met_no_fault (λ e. other (cc e))) (λ other. c.in-Err.ensures.input_met_no_fault (λ e. other (cc e)))
