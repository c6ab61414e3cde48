use Rattle.std.proofs.Common.{arith}
use Rattle.std.proofs.lemmas.Grind.{common_steps, elements}
use Rattle.smithy_json_grammar.proofs.string_text.begins_with_four_hex_digits.Goals as goal

pub returns-then-is_ascii_hexdigit-3 : goal.returns-then-is_ascii_hexdigit-3
returns-then-is_ascii_hexdigit-3 c = grind (arith, common_steps)

pub returns-else-is_ascii_hexdigit-3 : goal.returns-else-is_ascii_hexdigit-3
returns-else-is_ascii_hexdigit-3 c = grind (arith, elements)
