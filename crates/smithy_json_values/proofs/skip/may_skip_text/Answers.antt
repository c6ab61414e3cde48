use Rattle.std.proofs.Common.{◌∙◌}
use Rattle.smithy_json_values.proofs.StringsOf.{skips_plain, skips_valid, skips_any}
use Rattle.smithy_json_values.proofs.skip.may_skip_text.Goals as goal

pub returns-then-settings : goal.returns-then-settings
returns-then-settings c = c.is_plain_text.ensures ∙ skips_plain c.args.bytes.now c.args.settings.now.validate_skipped_string_encoding c.args.settings.now.validate_skipped_values c.if-settings.true c.requires

pub returns-then-settings-2 : goal.returns-then-settings-2
returns-then-settings-2 c = c.escapes_are_valid.ensures ∙ skips_valid c.args.bytes.now c.args.settings.now.validate_skipped_string_encoding c.args.settings.now.validate_skipped_values c.if-settings.false c.if-settings-2.true

pub returns : goal.returns
returns c = skips_any c.args.bytes.now c.args.settings.now.validate_skipped_string_encoding c.args.settings.now.validate_skipped_values c.if-settings.false c.if-settings-2.false
