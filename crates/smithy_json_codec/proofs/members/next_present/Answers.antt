use Rattle.std.proofs.Common.{Err, ap, arith}
use Rattle.std.proofs.lemmas.Result.{err_from_is_err_and}
use Rattle.smithy_json_codec.specs.declared.members.EntryFault.TheVariants.{NoEntry, TooDeep}
use Rattle.smithy_json_values.specs.Deepest.{OpensTooDeep}
use Rattle.smithy_shapes.specs.Site.{site_of}
use Rattle.smithy_json_values.specs.Codec.{held_settings, held_grammar}
use Rattle.smithy_json_codec.specs.Private.MemberSteps.{passing}
use Rattle.smithy_json_codec.specs.Private.PassedEntries.{NoSkip, NoSkipWithin}
use Rattle.smithy_json_codec.proofs.DeserializerLemmas.{error_of}
use Rattle.smithy_json_codec.proofs.PassedEntryLemmas.{passed_further, passed, kept, nothing_kept, reaches_from, too_deep_from}
use Rattle.smithy_json_codec.proofs.members.next_present.Goals as goal

pub loop-end-preserved : goal.loop-end-preserved
loop-end-preserved c =
    let gone = rw c.in-Passed.is at c.in_ok-end.ensures.ok in
    let passes = c.loop-end.invariant.passes in
    let further = passed_further (held_grammar c.args.input.now.settings) (passing (held_settings c.args.input.now.settings) (site_of c.args.schema.now)) c.args.input.now.settings.max_depth c.args.depth c.args.input.now.bytes.now c.loop-end.at c.loop-end.entered c.in-Passed.end gone in
    record {
      within = further.1;
      passes = passed (held_grammar c.args.input.now.settings) (passing (held_settings c.args.input.now.settings) (site_of c.args.schema.now)) c.args.input.now.settings.max_depth c.args.depth c.args.input.now.bytes.now c.args.at c.args.entered passes.0 c.loop-end.at c.loop-end.entered passes.1 c.in-Passed.end gone;
    }

pub loop-end-smaller : goal.loop-end-smaller
loop-end-smaller c =
    let gone = rw c.in-Passed.is at c.in_ok-end.ensures.ok in
    let further = passed_further (held_grammar c.args.input.now.settings) (passing (held_settings c.args.input.now.settings) (site_of c.args.schema.now)) c.args.input.now.settings.max_depth c.args.depth c.args.input.now.bytes.now c.loop-end.at c.loop-end.entered c.in-Passed.end gone in
    omega (arith, further.0, further.1)

pub returns-in-Kept : goal.returns-in-Kept
returns-in-Kept c = record {
  ok =
      let next = rw c.in-Kept.is at c.in_ok-end.ensures.ok in
      let passes = c.loop-end.invariant.passes in
      kept (held_grammar c.args.input.now.settings) (passing (held_settings c.args.input.now.settings) (site_of c.args.schema.now)) c.args.input.now.settings.max_depth c.args.depth c.args.input.now.bytes.now c.args.at c.args.entered passes.0 c.loop-end.at c.loop-end.entered passes.1 c.in-Kept.next next;
  refused = tt;
  none_without_limits = λ h. cc;
  deep = λ h. cc;
  too_deep = λ h. cc;
}

pub returns-in_err-end : goal.returns-in_err-end
returns-in_err-end c =
    let p = err_from_is_err_and c.from_residual.result c.from_residual.ensures.1 in
    let passes = c.loop-end.invariant.passes in
    rw (p.1, p.2)
    (record {
      ok = tt;
      refused = λ fault.
          nothing_kept (held_grammar c.args.input.now.settings) (passing (held_settings c.args.input.now.settings) (site_of c.args.schema.now)) c.args.input.now.settings.max_depth c.args.depth c.args.input.now.bytes.now c.args.at c.args.entered passes.0 c.loop-end.at c.loop-end.entered passes.1
          (NoSkipWithin (held_grammar c.args.input.now.settings) c.args.input.now.settings.max_depth c.args.depth c.args.input.now.bytes.now) (c.in_err-end.ensures.refused fault);
      none_without_limits = λ invalid.
          nothing_kept (held_grammar c.args.input.now.settings) (passing (held_settings c.args.input.now.settings) (site_of c.args.schema.now)) c.args.input.now.settings.max_depth c.args.depth c.args.input.now.bytes.now c.args.at c.args.entered passes.0 c.loop-end.at c.loop-end.entered passes.1
          (NoSkip (held_grammar c.args.input.now.settings) c.args.depth c.args.input.now.bytes.now) (c.in_err-end.ensures.none_without_limits (ap Err (error_of c.in_err-end.field-0.0 NoEntry invalid)));
      deep = λ deep.
          reaches_from (held_grammar c.args.input.now.settings) (passing (held_settings c.args.input.now.settings) (site_of c.args.schema.now)) c.args.input.now.settings.max_depth c.args.depth c.args.input.now.bytes.now c.args.at c.args.entered passes.0 c.loop-end.at c.loop-end.entered passes.1
          c.args.depth c.args.input.now.settings.max_depth (c.in_err-end.ensures.deep (ap Err (error_of c.in_err-end.field-0.0 TooDeep deep)));
      too_deep = λ deep.
          too_deep_from (held_grammar c.args.input.now.settings) (passing (held_settings c.args.input.now.settings) (site_of c.args.schema.now)) c.args.input.now.settings.max_depth c.args.depth c.args.input.now.bytes.now c.args.at c.args.entered passes.0 c.loop-end.at c.loop-end.entered passes.1
          (OpensTooDeep (held_grammar c.args.input.now.settings) c.args.input.now.settings.max_depth c.args.depth c.args.input.now.bytes.now) (c.in_err-end.ensures.too_deep (ap Err (error_of c.in_err-end.field-0.0 TooDeep deep)));
    })
