use Rattle.std.proofs.Common.{arith}
use Rattle.smithy_cbor_codec.proofs.SpanLemmas.{borrowed_bytes}
use Rattle.smithy_cbor_codec.proofs.spans.bytes_span_at.Goals as goal

pub returns-in_default-clause-found : goal.returns-in_default-clause-found
returns-in_default-clause-found c = λ blob e h. (rw c.in_default.is at c.in_ok-bytes.ensures.found) blob e h

pub returns-in-Borrowed-clause-found : goal.returns-in-Borrowed-clause-found
returns-in-Borrowed-clause-found c =
    let found = rw (c.in-Some.is, c.in-Borrowed.is) at c.in_ok-bytes.ensures.found in
    let borrows = rw (c.in-Some.is, c.in-Borrowed.is) at c.in_ok-bytes.ensures.borrowed in
    rw (borrowed_bytes c.args.input.now _ c.args.at c.args.depth c.in-Some.end _ borrows found tt).stands found

pub returns-in-Borrowed-clause-placed : goal.returns-in-Borrowed-clause-placed
returns-in-Borrowed-clause-placed c =
    let found = rw (c.in-Some.is, c.in-Borrowed.is) at c.in_ok-bytes.ensures.found in
    let borrows = rw (c.in-Some.is, c.in-Borrowed.is) at c.in_ok-bytes.ensures.borrowed in
    let ends = borrowed_bytes c.args.input.now _ c.args.at c.args.depth c.in-Some.end _ borrows found tt in
    omega (arith, ends.inside, ends.within)

pub returns-in-Borrowed-clause-between : goal.returns-in-Borrowed-clause-between
returns-in-Borrowed-clause-between c =
    let found = rw (c.in-Some.is, c.in-Borrowed.is) at c.in_ok-bytes.ensures.found in
    let borrows = rw (c.in-Some.is, c.in-Borrowed.is) at c.in_ok-bytes.ensures.borrowed in
    let ends = borrowed_bytes c.args.input.now _ c.args.at c.args.depth c.in-Some.end _ borrows found tt in
    (omega (arith, ends.inside), omega (arith, ends.inside))

pub returns-in-Borrowed-clause-borrowed : goal.returns-in-Borrowed-clause-borrowed
returns-in-Borrowed-clause-borrowed c =
    let borrows = rw (c.in-Some.is, c.in-Borrowed.is) at c.in_ok-bytes.ensures.borrowed in
    record { extent = borrows.extent; chunks = borrows.chunks; stands = borrows.stands; borrowed = borrows.borrowed }

pub returns-in-Owned-clause-borrowed : goal.returns-in-Owned-clause-borrowed
returns-in-Owned-clause-borrowed c =
    let borrows = rw (c.in-Some.is, c.in-Owned.is) at c.in_ok-bytes.ensures.borrowed in
    record { extent = borrows.extent; chunks = borrows.chunks; stands = borrows.stands; borrowed = borrows.borrowed }

pub returns-in-Owned-clause-found : goal.returns-in-Owned-clause-found
returns-in-Owned-clause-found c =
    let found = rw (c.in-Some.is, c.in-Owned.is) at c.in_ok-bytes.ensures.found in
    rw c.new.ensures found

pub overflow_sub-span : goal.overflow_sub-span
overflow_sub-span c =
    let found = rw (c.in-Some.is, c.in-Borrowed.is) at c.in_ok-bytes.ensures.found in
    let borrows = rw (c.in-Some.is, c.in-Borrowed.is) at c.in_ok-bytes.ensures.borrowed in
    let ends = borrowed_bytes c.args.input.now _ c.args.at c.args.depth c.in-Some.end _ borrows found tt in
    omega (arith, ends.inside)
