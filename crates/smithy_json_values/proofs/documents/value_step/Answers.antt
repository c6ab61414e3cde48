use Rattle.std.proofs.Common.{refl}
use Rattle.std.proofs.lemmas.Result.{err_from_is_err_and}
use Rattle.smithy_json_values.specs.Codec.{held_settings, held_grammar}
use Rattle.smithy_json_values.specs.declared.documents.DocumentFault.TheVariants.{TooDeep}
use Rattle.smithy_json_values.proofs.DocumentScalars.{begins_refuses, begun_at_limit}
use Rattle.smithy_json_values.proofs.DocumentSteps.{refused_at_limit}
use Rattle.smithy_json_values.proofs.documents.value_step.Goals as goal

pub returns-then-depth-input : goal.returns-then-depth-input
returns-then-depth-input c =
    let g = held_grammar c.args.input.now.settings in
    let s = held_settings c.args.input.now.settings in
    refused_at_limit g s c.args.depth c.args.input.now.bytes.now c.args.at TooDeep c.requires.shallow c.if-depth-input.true
    (begun_at_limit g s refl c.args.input.now.bytes.now c.args.at c.in_ok-begun.begun c.in_ok-begun.ensures)

pub returns-in_err-begun : goal.returns-in_err-begun
returns-in_err-begun c =
    let p = err_from_is_err_and c.from_residual.result c.from_residual.ensures.1 in
    rw (p.1, p.2) (begins_refuses (held_grammar c.args.input.now.settings) (held_settings c.args.input.now.settings) c.args.depth c.args.input.now.bytes.now c.args.at refl c.in_err-begun.field-0.0 c.in_err-begun.ensures)
