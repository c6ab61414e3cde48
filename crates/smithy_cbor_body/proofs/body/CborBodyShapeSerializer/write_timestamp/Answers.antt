use Rattle.std.proofs.Common.{◌++◌, ◌∙◌, ap, sym, rules}
use Rattle.std.specs.Prelude.{◌==◌}
use Rattle.std.proofs.lemmas.Bool.{not-true, not-false}
use Rattle.std.proofs.lemmas.Result.{err_from_is_err_and}
use Rattle.smithy_shapes.specs.Site.{site_of}
use Rattle.smithy_declarations.specs.Value.{instant}
use Rattle.smithy_schema.specs.Writing.{scalar_of, after_value}
use Rattle.smithy_instants.specs.Instant.{seconds_of, subsecond_of}
use Rattle.smithy_cbor.specs.Written.{epoch_seconds_bytes}
use Rattle.smithy_cbor_body.specs.Body.{body_of}
use Rattle.smithy_cbor_body.specs.Writing.{made, where_taken}
use Rattle.smithy_cbor_body.proofs.NumberWriting.{wrote_is, call_written}
use Rattle.smithy_cbor_body.proofs.InstantWriting.{instant_written, instant_refused}
use Rattle.smithy_cbor_body.proofs.body.CborBodyShapeSerializer.write_timestamp.Goals as goal

pub returns-then-has_subsec_nanos : goal.returns-then-has_subsec_nanos
returns-then-has_subsec_nanos c =
    record {
      failed = search rules;
      broken = search rules;
      ok = search rules;
      refused = λ fault.
          instant_refused (body_of c.args.self.now) (site_of c.args.schema.now) c.args.value.now
          (not-true (subsecond_of c.args.value.now == 0) (sym c.has_subsec_nanos.ensures ∙ c.if-has_subsec_nanos.true));
    }

pub returns-in_err-begin_value : goal.returns-in_err-begin_value
returns-in_err-begin_value c =
    let s = body_of c.args.self.now in
    let site = site_of c.args.schema.now in
    let n = c.args.value.now in
    let whole = not-false (subsecond_of n == 0) (sym c.has_subsec_nanos.ensures ∙ c.if-has_subsec_nanos.false) in
    let p = err_from_is_err_and c.from_residual-in_err-begin_value.result c.from_residual-in_err-begin_value.ensures.1 in
    record {
      failed = search rules;
      broken = search rules;
      ok = search rules;
      refused = rw (p.1, p.2) (λ fault. instant_written s site n _ whole (ap (where_taken (made (scalar_of site (instant n)) s)) (c.in_err-begin_value.ensures.refused fault)));
    }

pub returns : goal.returns
returns c =
    let s = body_of c.args.self.now in
    let site = site_of c.args.schema.now in
    let n = c.args.value.now in
    let bytes = epoch_seconds_bytes (seconds_of n) in
    let after = (body_of c.begin_value.new.self).frames in
    let whole = not-false (subsecond_of n == 0) (sym c.has_subsec_nanos.ensures ∙ c.if-has_subsec_nanos.false) in
    record {
      failed = search rules;
      broken = search rules;
      ok = rw c.succeed.ensures (
          instant_written s site n _ whole
          (call_written (made (scalar_of site (instant n)) s) (after_value s.frames) after _ c.in_ok-begin_value.ensures.taken
          (wrote_is s site.view bytes _ after _ _ c.in_ok-begin_value.ensures.same (c.in_ok-timestamp.ensures.appends.ok ∙ ap (λ o. o ++ bytes) c.in_ok-begin_value.ensures.lead) c.in_ok-begin_value.ensures.lengths)));
      refused = search rules;
    }
