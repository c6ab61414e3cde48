use Rattle.smithy_json_tokens.proofs.RunLemmas.{number_bytes_utf8}
use Rattle.smithy_json_tokens.proofs.expect_number_text.number_run.Goals as goal

pub from_utf8_unchecked-requires : goal.from_utf8_unchecked-requires
from_utf8_unchecked-requires c =
    number_bytes_utf8 c.args.input.now c.args.at c.number_bytes_end-end.result c.number_bytes_end-end.ensures.value
