use Rattle.smithy_transcode.specs.Wires.{wire_of}
use Rattle.smithy_commands.proofs.GenLemmas.{told_of}
use Rattle.smithy_commands.proofs.commands.generate.body_in.Goals as goal

pub returns-clause-body : goal.returns-clause-body
returns-clause-body c = λ v spells.
    told_of c.args.table.now c.args.root.0 (wire_of c.args.from.now) c.args.input.now (wire_of c.args.to.now) c.in_ok-transcode.field-0 c.in_ok-transcode.ensures v spells
