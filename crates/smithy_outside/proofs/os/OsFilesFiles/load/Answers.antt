use Rattle.std.proofs.Common.{◌<◌, ◌^◌, ℕ, subst, rules, refl, arith}
use Rattle.std.proofs.lemmas.Grind.{common_steps}
use Rattle.smithy_outside.specs.Os.{only_counts}
use Rattle.smithy_outside.specs.Outside.{IsCountedLoad}
use Rattle.smithy_outside.proofs.Faults.{added_faults}
use Rattle.smithy_outside.proofs.os.OsFilesFiles.load.Goals as goal

pub returns : goal.returns
returns g c =
    let loaded = c.read_to_end-loaded in
    let bound : c.args.self.now.faults < 2 ^ 64 = search rules in
    let counts = subst (λ (n : ℕ). IsCountedLoad loaded.result (only_counts n) (only_counts loaded.new.source.faults))
    c.new-source.ensures.faults loaded.ensures.counts in
    record {
      loaded = search rules;
      within = loaded.ensures.within;
      too_long_only_past_the_limit = search rules;
      missing_is_a_fault = λ is. cc;
      counts = added_faults loaded.result c.args.self.now.faults loaded.new.source.faults c.saturating_add-self-2.result bound c.saturating_add-self-2.ensures counts;
      kept = λ at. refl;
      steady = λ at. refl;
      later = λ at. grind (arith, common_steps);
    }
