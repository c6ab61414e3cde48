use Rattle.std.proofs.Common.{subst, sym}
use Rattle.smithy_json_grammar.specs.Private.Literal.{EndsLiteral}
use Rattle.smithy_json_grammar.proofs.LiteralLemmas.{no_literal, ends_literal}
use Rattle.smithy_json_grammar.proofs.scan.literal_end.Goals as goal

pub returns-then-not-starts_with : goal.returns-then-not-starts_with
returns-then-not-starts_with c =
    no_literal c.args.literal.now c.args.input.now c.args.at c.requires c.starts_with.result c.starts_with.ensures.value c.if-not-starts_with.true

pub returns : goal.returns
returns c =
    let ends = ends_literal c.args.literal.now c.args.input.now c.args.at c.requires c.starts_with.result c.starts_with.ensures.value c.if-not-starts_with.false c.is_boundary.result c.is_boundary.ensures in
    subst (EndsLiteral c.args.literal.now c.args.input.now c.args.at) (sym c.then_some.ensures) ends
