use Rattle.std.proofs.Common.{refl}
use Rattle.smithy_cbor_codec.proofs.SpanLemmas.{placed_text}
use Rattle.smithy_cbor_codec.proofs.spans.span_of.Goals as goal

pub returns-in-Borrowed-clause-text : goal.returns-in-Borrowed-clause-text
returns-in-Borrowed-clause-text c = rw c.in-Borrowed.is (λ input at borrows text. placed_text input _ at c.args.end _ borrows text tt)

pub returns-in-Owned-clause-text : goal.returns-in-Owned-clause-text
returns-in-Owned-clause-text c = λ input at borrows text. rw c.in-Owned.is (refl, tt, tt)

pub returns-in-Borrowed-clause-borrowed : goal.returns-in-Borrowed-clause-borrowed
returns-in-Borrowed-clause-borrowed c = rw c.in-Borrowed.is (λ named. tt, λ borrowed. tt)

pub returns-in-Owned-clause-borrowed : goal.returns-in-Owned-clause-borrowed
returns-in-Owned-clause-borrowed c = rw c.in-Owned.is (λ none. none, λ none. none)
