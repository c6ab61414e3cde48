use Rattle.std.proofs.Common.{◌≡◌, true, false, ℕ, List, Some, refl, rules}
use Rattle.smithy_json_grammar.specs.NumberText.{is_number}
use Rattle.smithy_json_values.specs.Codec.{held_settings}
use Rattle.smithy_json_values.specs.Settings.{Settings}
use Rattle.smithy_json_codec.specs.WrittenNumber.{written_number}
use Rattle.smithy_json_codec.proofs.serializer.JsonSerializer.write_number.Goals as goal

-- a number of JSON is written by its own text
by_itself : (c : Settings) (raw : List ℕ) → c.use_string_for_arbitrary_precision ≡ false → is_number raw ≡ true → written_number c raw ≡ Some raw
unfolding written_number
by_itself c raw unquoted number = rw (unquoted, number) refl

pub returns-then-is_number : goal.returns-then-is_number
returns-then-is_number c =
    let number : is_number c.args.text.now ≡ true = search rules in
    rw (by_itself (held_settings c.args.self.now.settings) c.args.text.now c.if-self.false number) (rw c.as_bytes-then-is_number.ensures.value at c.write_text.ensures)
