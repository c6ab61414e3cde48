use Rattle.std.proofs.Common.{ap}
use Rattle.smithy_json_values.specs.Codec.{held_grammar}
use Rattle.smithy_json_values.specs.LexicalGrammar.{grammar_of}
use Rattle.smithy_lint.proofs.JsonNodes.{end_is, ends_there}
use Rattle.smithy_lint.proofs.json_body.JsonBodyBody.end.Goals as goal

pub unreachable-requires : goal.unreachable-requires
unreachable-requires c =
    let b = c.args.self.now in
    ends_there (held_grammar b.settings) b.bytes.now (held_grammar b.nested) b.nested.max_depth (ap grammar_of b.deeper) (ap (λ s. s.max_depth) b.deeper) c.args.depth c.args.at c.requires.there
    c.in-Err.ensures.refused

pub returns : goal.returns
returns c =
    let b = c.args.self.now in
    end_is (held_grammar b.settings) b.bytes.now (held_grammar b.nested) b.nested.max_depth (ap grammar_of b.deeper) (ap (λ s. s.max_depth) b.deeper) c.args.depth c.args.at c.in-Ok.end
    c.in-Ok.ensures.ok
