use Rattle.std.proofs.Common.{◌≡◌, Some, Err, true, false, sym, ap, ◌∙◌, inl, inr, option_map, arith}
use Rattle.std.proofs.lemmas.Grind.{common_steps}
use Rattle.std.specs.Cow.{cow_str_bytes}
use Rattle.std.proofs.lemmas.Result.{err_from_is_err_and}
use Rattle.smithy_shapes.specs.Lemmas.Options.{same_some}
use Rattle.smithy_json_codec.specs.declared.members.EntryFault.TheVariants.{NoEntry, TooDeep}
use Rattle.smithy_shapes.specs.Site.{site_of}
use Rattle.smithy_json_values.specs.Codec.{held_settings, held_grammar}
use Rattle.smithy_json_codec.specs.Private.MemberSteps.{passing, passes_null}
use Rattle.smithy_json_codec.specs.Private.PassedEntries.{type_name, IsNoMark, NoSkip, NoSkipWithin}
use Rattle.smithy_json_codec.proofs.DeserializerLemmas.{error_of}
use Rattle.smithy_json_codec.proofs.PassedEntryLemmas.{unskipped_mark, too_deep_mark, null_passes, null_kept, mark_passes, mark_stays, reaches_from_name, too_deep_from_name}
use Rattle.smithy_json_codec.proofs.members.entry_at.Goals as goal
use Rattle.smithy_json_codec.proofs.members.entry_at.Goals.{then-not-is_type_name-via-then-not-is_type_name, then-not-is_type_name-via-else-not-is_type_name+then-not-passes_marks}

pub text_of-requires : goal.text_of-requires
text_of-requires c =
    let stands = rw c.in-Some-Member.field-0-is at c.in-Some-Member.ensures in stands.has_escape

pub returns-in-Some-passed_null : goal.returns-in-Some-passed_null
returns-in-Some-passed_null c = record {
  ok =
      let stands = rw c.in-Some-Member.field-0-is at c.in-Some-Member.ensures in
      let told = c.in_ok-text.ensures.text ∙ ap (option_map cow_str_bytes) c.in-Some.is in
      let site = site_of c.args.schema.now in
      let passes = ap (passes_null (held_settings c.args.input.now.settings) site) (sym c.as_str.ensures.value) ∙ c.in-Some-passed_null.ensures.passes in
      null_passes (held_grammar c.args.input.now.settings) (passing (held_settings c.args.input.now.settings) site) c.args.input.now.settings.max_depth c.args.depth c.args.input.now.bytes.now c.args.at c.args.entered c.in-Some-Member.name.raw.now c.in-Some-Member.name.end stands.names
      _ told passes c.in-Some-passed_null.end c.in-Some-passed_null.ensures.found;
  refused = tt;
  none_without_limits = λ h. cc;
  deep = λ h. cc;
  too_deep = λ h. cc;
}

pub returns-then-not-is_type_name : goal.returns-then-not-is_type_name
returns-then-not-is_type_name c = record {
  ok =
      let stands = rw c.in-Some-Member.field-0-is at c.in-Some-Member.ensures in
      let told = c.in_ok-text.ensures.text ∙ ap (option_map cow_str_bytes) c.in-Some.is in
      let marks = (passing (held_settings c.args.input.now.settings) (site_of c.args.schema.now)) in
      let other : IsNoMark marks c.in-Some-Member.name.raw.now = elim c.then-not-is_type_name.branch [
        | then-not-is_type_name-via-then-not-is_type_name w ↦ λ passes is.
            let same = same_some (cow_str_bytes c.in-Some.text) type_name (sym told ∙ is) in
            let clash : true ≡ false = sym (c.is_type_name.ensures.1 (c.as_str-2.ensures.value ∙ same)) ∙ w.if-not-is_type_name.true in
            cc
        | then-not-is_type_name-via-else-not-is_type_name+then-not-passes_marks w ↦ λ passes is.
            let clash : true ≡ false = sym passes ∙ sym w.passes_marks.ensures ∙ w.if-not-passes_marks.true in cc
      ] in
      let site = site_of c.args.schema.now in
      let stays = null_kept (held_grammar c.args.input.now.settings) marks c.args.input.now.settings.max_depth c.args.depth c.args.input.now.bytes.now c.args.at c.args.entered c.in-Some-Member.name.raw.now c.in-Some-Member.name.end stands.names _ told
      (λ e lies passes. c.in_default-passed_null.ensures.none e lies (ap (passes_null (held_settings c.args.input.now.settings) site) c.as_str.ensures.value ∙ passes)) in
      (c.in-Some-Member.name.raw.now, told, stands.names, other, stays);
  refused = tt;
  none_without_limits = λ h. cc;
  deep = λ h. cc;
  too_deep = λ h. cc;
}

pub returns : goal.returns
returns c = record {
  ok =
      let stands = rw c.in-Some-Member.field-0-is at c.in-Some-Member.ensures in
      let is = c.in_ok-text.ensures.text ∙ ap (option_map cow_str_bytes) c.in-Some.is ∙ ap Some (sym c.as_str-2.ensures.value ∙ c.is_type_name.ensures.0 c.if-not-is_type_name.false) in
      mark_passes (held_grammar c.args.input.now.settings) (passing (held_settings c.args.input.now.settings) (site_of c.args.schema.now)) c.args.input.now.settings.max_depth c.args.depth c.args.input.now.bytes.now c.args.at c.args.entered c.in-Some-Member.name.raw.now c.in-Some-Member.name.end stands.names
      (sym c.passes_marks.ensures ∙ c.if-not-passes_marks.false) is c.in_ok-end.end c.in_ok-end.ensures.ok;
  refused = tt;
  none_without_limits = λ h. cc;
  deep = λ h. cc;
  too_deep = λ h. cc;
}

pub returns-in_err-end : goal.returns-in_err-end
returns-in_err-end c =
    let p = err_from_is_err_and c.from_residual-in_err-end.result c.from_residual-in_err-end.ensures.1 in
    let stands = rw c.in-Some-Member.field-0-is at c.in-Some-Member.ensures in
    let is = c.in_ok-text.ensures.text ∙ ap (option_map cow_str_bytes) c.in-Some.is ∙ ap Some (sym c.as_str-2.ensures.value ∙ c.is_type_name.ensures.0 c.if-not-is_type_name.false) in
    rw (p.1, p.2)
    (record {
      ok = tt;
      refused = λ fault.
          mark_stays (held_grammar c.args.input.now.settings) (passing (held_settings c.args.input.now.settings) (site_of c.args.schema.now)) c.args.input.now.settings.max_depth c.args.depth c.args.input.now.bytes.now c.args.at c.args.entered c.in-Some-Member.name.raw.now c.in-Some-Member.name.end stands.names
          (sym c.passes_marks.ensures ∙ c.if-not-passes_marks.false) is (NoSkipWithin (held_grammar c.args.input.now.settings) c.args.input.now.settings.max_depth c.args.depth c.args.input.now.bytes.now) c.in_err-end.ensures.refused;
      none_without_limits = λ invalid.
          mark_stays (held_grammar c.args.input.now.settings) (passing (held_settings c.args.input.now.settings) (site_of c.args.schema.now)) c.args.input.now.settings.max_depth c.args.depth c.args.input.now.bytes.now c.args.at c.args.entered c.in-Some-Member.name.raw.now c.in-Some-Member.name.end stands.names
          (sym c.passes_marks.ensures ∙ c.if-not-passes_marks.false) is (NoSkip (held_grammar c.args.input.now.settings) c.args.depth c.args.input.now.bytes.now) (c.in_err-end.ensures.none_without_limits (ap Err (unskipped_mark c.in_err-end.field-0.0 (error_of _ NoEntry invalid))));
      deep = λ deep.
          reaches_from_name (held_grammar c.args.input.now.settings) (passing (held_settings c.args.input.now.settings) (site_of c.args.schema.now)) c.args.input.now.settings.max_depth c.args.depth c.args.input.now.bytes.now c.args.at c.args.entered c.in-Some-Member.name.raw.now c.in-Some-Member.name.end stands.names
          c.args.input.now.settings.max_depth (c.in_err-end.ensures.deep (ap Err (too_deep_mark c.in_err-end.field-0.0 (error_of _ TooDeep deep))));
      too_deep = λ deep.
          too_deep_from_name (held_grammar c.args.input.now.settings) (passing (held_settings c.args.input.now.settings) (site_of c.args.schema.now)) c.args.input.now.settings.max_depth c.args.depth c.args.input.now.bytes.now c.args.at c.args.entered c.in-Some-Member.name.raw.now c.in-Some-Member.name.end stands.names
          c.args.input.now.settings.max_depth (c.in_err-end.ensures.too_deep (ap Err (too_deep_mark c.in_err-end.field-0.0 (error_of _ TooDeep deep))));
    })

pub returns-in_default : goal.returns-in_default
returns-in_default c =
    let stands = rw c.in-Some-Member.field-0-is at c.in-Some-Member.ensures in
    record {
      ok = tt;
      refused = λ other. inr (inl (c.in-Some-Member.name.raw.now, c.in-Some-Member.name.end, stands.names, c.in_ok-text.ensures.text ∙ ap (option_map cow_str_bytes) c.in_default.is));
      none_without_limits = λ invalid. inr (inl (c.in-Some-Member.name.raw.now, c.in-Some-Member.name.end, stands.names, c.in_ok-text.ensures.text ∙ ap (option_map cow_str_bytes) c.in_default.is));
      deep = λ h. cc;
      too_deep = λ h. cc;
    }

pub next_in_object-requires : goal.next_in_object-requires
next_in_object-requires c = grind (arith, common_steps)

pub text_of-requires-text-raw : goal.text_of-requires-text-raw
text_of-requires-text-raw c κs = grind (arith, common_steps)

pub passed_null-requires : goal.passed_null-requires
passed_null-requires c = grind (arith, common_steps)

pub skipped_end-requires-clause-within : goal.skipped_end-requires-clause-within
skipped_end-requires-clause-within c = grind (arith, common_steps)

pub skipped_end-requires-clause-shallow : goal.skipped_end-requires-clause-shallow
skipped_end-requires-clause-shallow c = grind (arith, common_steps)
