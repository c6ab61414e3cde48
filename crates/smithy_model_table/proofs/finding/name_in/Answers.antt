use Rattle.std.proofs.Common.{◌≡◌, ◌<◌, length, rules}
use Rattle.std.specs.List.{position_or_len, after_first}
use Rattle.smithy_model_table.specs.Naming.{is_number_sign}
use Rattle.smithy_model_table.proofs.Found.{name_behind, whole_name}
use Rattle.smithy_model_table.proofs.finding.name_in.Goals as goal

pub returns-in-Some : goal.returns-in-Some
returns-in-Some c =
    let there : position_or_len is_number_sign c.args.id.now < length c.args.id.now = search rules in
    let is : c.in-Some.name.now ≡ after_first is_number_sign c.args.id.now = search rules in
    name_behind c.args.id.now c.in-Some.name.now there is

pub returns-in-None : goal.returns-in-None
returns-in-None c =
    let none : position_or_len is_number_sign c.args.id.now ≡ length c.args.id.now = search rules in
    whole_name c.args.id.now none
