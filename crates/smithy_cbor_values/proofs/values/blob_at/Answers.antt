use Rattle.smithy_cbor_values.proofs.values.blob_at.Goals as goal

pub returns-in_default : goal.returns-in_default
returns-in_default c = λ blob e h. (rw c.in_default.is at c.in_ok-bytes.ensures.found) blob e h
