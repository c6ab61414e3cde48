use Rattle.smithy_instants.proofs.DelimiterLemmas.{first_split, no_split}
use Rattle.smithy_instants.proofs.date_front.split_first.Goals as goal

pub returns-in-Some-clause-only : goal.returns-in-Some-clause-only
returns-in-Some-clause-only c = λ front rest none is.
    first_split c.args.delim c.args.s.now c.in-Some.parts.0.now c.in-Some.parts.1.now front rest c.in-Some.ensures.cases none is

pub returns-in-None-clause-only : goal.returns-in-None-clause-only
returns-in-None-clause-only c = λ front rest none is. no_split c.args.delim c.args.s.now front rest c.in-None.ensures.cases none is
