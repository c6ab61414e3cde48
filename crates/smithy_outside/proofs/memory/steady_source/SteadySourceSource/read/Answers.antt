use Rattle.std.proofs.Common.{◌≡◌, refl, drop, arith, rules}
use Rattle.std.proofs.lemmas.Grind.{common_steps, elements}
use Rattle.smithy_outside.proofs.Moved.{front_and_left}
use Rattle.smithy_outside.proofs.memory.steady_source.SteadySourceSource.read.Goals as goal

pub returns-clause-reads : goal.returns-clause-reads
returns-clause-reads c = record {
  bound = grind (arith, common_steps);
  gave = λ was told.
      let same : was ≡ drop c.args.self.now.at c.args.self.now.bytes.items = cc in
      (_, refl, front_and_left c.min-count.result c.args.self.now.at c.args.self.now.bytes.items c.copy_from_slice.new.self _ was (grind (arith, common_steps)) (grind (arith, common_steps)) same);
  end = λ none. grind (arith, elements);
  counts = search rules;
  later = search rules;
}
