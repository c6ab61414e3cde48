use Rattle.std.proofs.Common.{◌∙◌, ap, sym, ℤ, List}
use Rattle.smithy_declarations.specs.Value.{list, map, structure, values_of}
use Rattle.smithy_tree.specs.Items.{whole_values, elements_of, entries_of, members_of}
use Rattle.smithy_tree.specs.Seen.{view}
use Rattle.smithy_value.proofs.PoolTrees.{elements_seen, entries_seen, members_seen}
use Rattle.smithy_value.proofs.pool_trees.PoolTrees.part.Goals as goal

pub returns-in-List-clause-shows : goal.returns-in-List-clause-shows
returns-in-List-clause-shows c =
    let p = c.args.self.now in
    ap (view p) c.in-List.is ∙ ap list (ap elements_of (sym c.children.ensures.show) ∙ elements_seen p c.children.result.now)

pub returns-in-Numbers-clause-shows : goal.returns-in-Numbers-clause-shows
returns-in-Numbers-clause-shows c =
    let p = c.args.self.now in
    ap (view p) c.in-Numbers.is ∙ ap (λ (ns : List ℤ). list (values_of (whole_values ns))) (sym c.numbers.ensures.numbers)

pub returns-in-Map-clause-shows : goal.returns-in-Map-clause-shows
returns-in-Map-clause-shows c =
    let p = c.args.self.now in
    ap (view p) c.in-Map.is ∙ ap map (ap entries_of (sym c.children-in-Map.ensures.show) ∙ entries_seen p c.children-in-Map.result.now)

pub returns-in-Structure-clause-shows : goal.returns-in-Structure-clause-shows
returns-in-Structure-clause-shows c =
    let p = c.args.self.now in
    ap (view p) c.in-Structure.is ∙ ap structure (ap members_of (sym c.children-in-Structure.ensures.show) ∙ members_seen p c.children-in-Structure.result.now)

pub returns-in-Rare-clause-parts : goal.returns-in-Rare-clause-parts
returns-in-Rare-clause-parts c = c.rare_part.ensures.parts c.args.self.now
