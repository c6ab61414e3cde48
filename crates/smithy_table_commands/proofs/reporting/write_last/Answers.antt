use Rattle.std.proofs.Common.{List, ℕ, sym, subst}
use Rattle.smithy_outside.specs.Outside.{IsWritten}
use Rattle.smithy_table_commands.proofs.RunLemmas.{last_other}
use Rattle.smithy_table_commands.proofs.reporting.write_last.Goals as goal

pub returns-in_default : goal.returns-in_default
returns-in_default g c =
    let told = g.E.Sink.told in
    record {
      written = subst (λ (line : List ℕ). IsWritten line c.write_line.result (told c.args.err.now) (told c.write_line.new.err))
          (sym (last_other c.args.status c.in_default.not-Done)) c.write_line.ensures.written;
      passed_on = c.write_line.ensures.passed_on;
    }
