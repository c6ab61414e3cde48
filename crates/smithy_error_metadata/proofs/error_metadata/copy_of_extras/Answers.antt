use Rattle.std.proofs.Common.{sym, ap, ◌∙◌}
use Rattle.smithy_error_metadata.specs.Metadata.{extras_of}
use Rattle.smithy_error_metadata.proofs.MetadataLemmas.{cloned_texts}
use Rattle.smithy_error_metadata.proofs.error_metadata.copy_of_extras.Goals as goal

pub returns : goal.returns
returns c = cloned_texts c.in-Some.extras.entries _ c.in_ok-clone.ensures.cases ∙ ap extras_of (sym c.in-Some.is)
