use Rattle.std.proofs.Common.{arith, sym, ap, ◌∙◌, below_more}
use Rattle.std.specs.List.{position}
use Rattle.std.specs.Str.{bytes_eq}
use Rattle.smithy_declarations.proofs.OrderLemmas.{equal_if_earlier, distinct_if_first, differs_if, same_if}
use Rattle.smithy_declarations.proofs.names.has_equal_names.Goals as goal

pub returns-then-ne : goal.returns-then-ne
returns-then-ne g c =
    let names = g.N.Named.names c.args.named.now in
    let first = c.position_of-first.ensures ∙ ap (λ key. position (λ n. bytes_eq n key) names) c.name_at.ensures in
    sym (equal_if_earlier names c.loop-position.position (omega arith)
    (λ e. differs_if c.position_of-first.result c.loop-position.position (sym c.if-ne.true ∙ c.ne.ensures) (first ∙ e)))

pub loop-position-preserved : goal.loop-position-preserved
loop-position-preserved g c =
    let names = g.N.Named.names c.args.named.now in
    let first = c.position_of-first.ensures ∙ ap (λ key. position (λ n. bytes_eq n key) names) c.name_at.ensures in
    below_more _ _ c.loop-position.invariant
    (sym first ∙ same_if c.position_of-first.result c.loop-position.position (sym c.if-ne.false ∙ c.ne.ensures))

pub returns : goal.returns
returns g c = sym (distinct_if_first (g.N.Named.names c.args.named.now) (λ k h. c.loop-position.invariant k (omega arith)))
