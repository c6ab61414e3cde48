use Rattle.std.proofs.Common.{◌≡◌, refl}
use Rattle.smithy_texts.specs.Base64Text.{blob_text}
use Rattle.smithy_texts.proofs.Base64Laws.{blob_of-blob_text, blob_of-none, not_both}
use Rattle.smithy_replay.proofs.line_bodies.decoded.Goals as goal

pub returns-in-Ok-clause-ok : goal.returns-in-Ok-clause-ok
returns-in-Ok-clause-ok c =
    let text : c.args.line.now ≡ blob_text c.in-Ok.bytes.items = c.in-Ok.ensures.exact (refl, refl) in
    rw text (blob_of-blob_text c.in-Ok.bytes.items c.in-Ok.ensures.bytes)

pub returns-in-Err-DecodeError-clause-invalid : goal.returns-in-Err-DecodeError-clause-invalid
returns-in-Err-DecodeError-clause-invalid c = λ _. blob_of-none c.args.line.now (λ m small text.
    let found = (c.decode.ensures.strict (refl, refl) m small).1 text in
    not_both _ m _ found (rw c.in-Err-DecodeError.field-0-is at c.in-Err-DecodeError.ensures.err))
