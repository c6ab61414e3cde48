use Rattle.std.proofs.Common.{◌+◌, subst, sym}
use Rattle.smithy_json_values.specs.Standing.{Lies, IsByte}
use Rattle.smithy_json_values.proofs.FirstBytePlaces.{first_lies, not_first, nothing_first, first_differs, none_differs}
use Rattle.smithy_json_values.proofs.places.byte_end.Goals as goal

pub returns-in-Some-clause-found : goal.returns-in-Some-clause-found
returns-in-Some-clause-found c =
    subst (λ b. Lies (IsByte b) c.args.input.now c.args.at (c.in-Some.start + 1)) c.if-first-byte.true
    (first_lies c.args.input.now c.args.at c.in-Some.first c.in-Some.start c.in-Some.ensures.found)

pub returns-in_default-clause-none : goal.returns-in_default-clause-none
returns-in_default-clause-none c =
    not_first c.args.input.now c.args.at c.in-Some.first c.in-Some.start c.in-Some.ensures.found c.args.byte c.requires.plain
    (λ same. c.if-first-byte.false (sym same))

pub returns-in_default-2-clause-none : goal.returns-in_default-2-clause-none
returns-in_default-2-clause-none c =
    nothing_first c.args.input.now c.args.at c.args.byte (rw c.in_default.is at c.first_byte.ensures.none) c.requires.plain

pub returns-in_default-clause-other : goal.returns-in_default-clause-other
returns-in_default-clause-other c =
    first_differs c.args.input.now c.args.at c.in-Some.first c.in-Some.start c.in-Some.ensures.found c.args.byte c.if-first-byte.false

pub returns-in_default-2-clause-other : goal.returns-in_default-2-clause-other
returns-in_default-2-clause-other c = none_differs c.args.input.now c.args.at c.args.byte (rw c.in_default.is at c.first_byte.ensures.none)
