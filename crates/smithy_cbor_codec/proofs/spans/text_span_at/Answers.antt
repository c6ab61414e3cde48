use Rattle.std.proofs.Common.{arith}
use Rattle.smithy_cbor_codec.proofs.SpanLemmas.{borrowed_text}
use Rattle.smithy_cbor_codec.proofs.spans.text_span_at.Goals as goal

pub returns-in_default-clause-found : goal.returns-in_default-clause-found
returns-in_default-clause-found c = λ text e h follows. (rw c.in_default.is at c.in_ok-text.ensures.found) text e h follows

pub returns-clause-found : goal.returns-clause-found
returns-clause-found c =
    let found = rw c.in-Some.is at c.in_ok-text.ensures.found in
    let borrows = rw c.in-Some.is at c.in_ok-text.ensures.borrowed in
    (rw (c.span_of.ensures.text c.args.input.now c.args.at borrows found.0).0 found.0, found.1)

pub returns-clause-placed : goal.returns-clause-placed
returns-clause-placed c =
    let found = rw c.in-Some.is at c.in_ok-text.ensures.found in
    let borrows = rw c.in-Some.is at c.in_ok-text.ensures.borrowed in
    (c.span_of.ensures.text c.args.input.now c.args.at borrows found.0).1

pub returns-clause-between : goal.returns-clause-between
returns-clause-between c =
    let found = rw c.in-Some.is at c.in_ok-text.ensures.found in
    let borrows = rw c.in-Some.is at c.in_ok-text.ensures.borrowed in
    (c.span_of.ensures.text c.args.input.now c.args.at borrows found.0).2

pub returns-clause-borrowed : goal.returns-clause-borrowed
returns-clause-borrowed c =
    let borrows = rw c.in-Some.is at c.in_ok-text.ensures.borrowed in
    let same = c.span_of.ensures.borrowed in
    record {
      extent = borrows.extent;
      chunks = borrows.chunks;
      stands = borrows.stands;
      borrowed = (λ named. borrows.borrowed.0 (same.0 named), λ definite. same.1 (borrows.borrowed.1 definite));
    }

pub span_of-requires : goal.span_of-requires
span_of-requires c = λ is.
    let found = rw c.in-Some.is at c.in_ok-text.ensures.found in
    let borrows = rw c.in-Some.is at c.in_ok-text.ensures.borrowed in
    let ends = borrowed_text c.args.input.now _ c.args.at c.in-Some.end _ borrows found.0 is in
    omega (arith, ends.inside)
