use Rattle.std.proofs.Common.{ap, ◌∙◌}
use Rattle.smithy_error_metadata.specs.Metadata.{texts_of}
use Rattle.smithy_error_metadata.proofs.MetadataLemmas.{inserted_texts}
use Rattle.smithy_error_metadata.proofs.error_metadata.put_extra.Goals as goal

pub returns : goal.returns
returns c = ap texts_of c.in_ok-insert.ensures.entries ∙ inserted_texts c.args.extras.now.entries c.args.key c.args.value
