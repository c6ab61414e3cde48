use Rattle.std.proofs.lemmas.Result.{IfOk-weaker, IfErr-weaker}
use Rattle.json.specs.Value.{value_view}
use Rattle.smithy_model.proofs.RootRefusals.{refused_root}
use Rattle.smithy_model.proofs.reading.read_parts.Goals as goal

pub returns-clause-read : goal.returns-clause-read
returns-clause-read c =
    IfOk-weaker c.read_unlinked.result _ _
    (λ m unlinked. (value_view c.in_ok-root.root, c.in_ok-root.ensures.read.0, c.in_ok-root.ensures.read.1, unlinked)) c.read_unlinked.ensures.read

pub returns-clause-refused : goal.returns-clause-refused
returns-clause-refused c =
    IfErr-weaker c.read_unlinked.result _ _
    (λ fault one. refused_root c.args.text.now (value_view c.in_ok-root.root) c.in_ok-root.ensures.read.0 c.in_ok-root.ensures.read.1 fault one) c.read_unlinked.ensures.refused
