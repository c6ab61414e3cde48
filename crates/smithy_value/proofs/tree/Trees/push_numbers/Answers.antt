use Rattle.std.proofs.Common.{◌≡◌, ◌++◌, ◌∷◌, [], ◌∙◌, ℤ, List, take, get_or, pos, to_z, of_z, rules, sym, ap, append_assoc}
use Rattle.std.specs.Int.{w64}
use Rattle.std.proofs.lemmas.List.{append-nil, map_more}
use Rattle.smithy_declarations.specs.Value.{Value}
use Rattle.smithy_tree.specs.Items.{whole_value, whole_values}
use Rattle.smithy_value.proofs.tree.Trees.push_numbers.Goals as goal

pub loop-number-init : goal.loop-number-init
loop-number-init g c = record {
  begun = λ p begun. begun;
  puts = sym (append-nil (g.Self.Trees.view_elements c.args.self.now c.args.elements.now));
}

pub loop-number-preserved : goal.loop-number-preserved
loop-number-preserved g c =
    let t = g.Self.Trees in
    let ns = c.args.numbers.now in
    let i = c.loop-number.number-index in
    let n = get_or ns i (pos 0) in
    let number : to_z w64 (of_z w64 n) ≡ n = search rules in
    let before = t.view_elements c.args.self.now c.args.elements.now in
    record {
      begun = λ p begun. c.in_ok-push_element.ensures.begun p (c.loop-number.invariant.begun p begun);
      puts = c.in_ok-push_element.ensures.ok
          ∙ ap (λ (v : Value). t.view_elements c.loop-number.self c.loop-number.elements ++ v ∷ []) (c.whole.ensures.shows c.loop-number.self)
          ∙ ap (λ (m : ℤ). t.view_elements c.loop-number.self c.loop-number.elements ++ whole_value m ∷ []) number
          ∙ ap (λ (vs : List Value). vs ++ whole_value n ∷ []) c.loop-number.invariant.puts
          ∙ append_assoc before (whole_values (take i ns)) (whole_value n ∷ [])
          ∙ ap (λ (vs : List Value). before ++ vs) (sym (map_more whole_value ns i (pos 0) c.loop-number-test.true));
    }

pub push_element-requires-clause-sound : goal.push_element-requires-clause-sound
push_element-requires-clause-sound g c =
    let t = g.Self.Trees in
    let r = c.requires.begun in
    (r.1, t.elements_grow_lawfully.sound_still r.0 c.loop-number.self r.1 c.loop-number.elements r.2 (c.loop-number.invariant.begun r.0 r.3))
