use Rattle.std.proofs.Common.{◌≡◌, List, take, get_or, pos, rules, sym, ap, subst}
use Rattle.std.proofs.lemmas.List.{map_more}
use Rattle.smithy_declarations.specs.Value.{Value}
use Rattle.smithy_tree.specs.Items.{whole_value, whole_values}
use Rattle.smithy_tree.specs.Seen.{view, PutsElement, PutsElements}
use Rattle.smithy_tree.specs.declared.node.Node.TheVariants as nodes
use Rattle.smithy_tree.proofs.HalfLists.{none_behind, one_behind}
use Rattle.smithy_tree.proofs.pool.Pool.wait_all.Goals as goal

pub loop-number-init : goal.loop-number-init
loop-number-init c = record { puts = none_behind c.args.self.now c.args.elements.now c.requires.sound c.requires.half }

pub loop-number-preserved : goal.loop-number-preserved
loop-number-preserved c =
    let ns = c.args.numbers.now in
    let i = c.loop-number.number-index in
    let n = get_or ns i (pos 0) in
    let p = c.args.self.now in
    let e = c.args.elements.now in
    let r = c.push_element.new.self in
    let g = c.push_element.new.elements in
    let node : c.of.result.node ≡ nodes.Whole n = search rules in
    let put = subst (λ (v : Value). PutsElement c.loop-number.self r c.loop-number.elements g v) (ap (view c.loop-number.self) node) c.in_ok-push_element.ensures.ok in
    record {
      puts = subst (λ (vs : List Value). PutsElements p r e g vs) (sym (map_more whole_value ns i (pos 0) c.loop-number-test.true))
          (one_behind p c.loop-number.self r e c.loop-number.elements g (whole_values (take i ns)) (whole_value n) c.loop-number.invariant.puts put);
    }
