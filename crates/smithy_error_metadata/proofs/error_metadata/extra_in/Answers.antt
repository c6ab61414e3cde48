use Rattle.std.proofs.Common.{Some, ap, ◌∙◌, option_map, string_bytes}
use Rattle.smithy_error_metadata.proofs.MetadataLemmas.{found_text}
use Rattle.smithy_error_metadata.proofs.error_metadata.extra_in.Goals as goal

pub returns-in_err-get : goal.returns-in_err-get
returns-in_err-get c = ap (option_map (λ text. text.now)) c.from_residual.ensures ∙ ap (option_map string_bytes) c.in_err-get.ensures.value ∙ found_text c.args.key.now c.args.extras.now.entries

pub returns : goal.returns
returns c = ap Some c.deref.ensures ∙ ap (option_map string_bytes) c.in_ok-get.ensures.value ∙ found_text c.args.key.now c.args.extras.now.entries
