use Rattle.std.proofs.Common.{◌∙◌, bytes_eq, ap}
use Rattle.std.specs.Prelude.{true, cond, string_bytes}
use Rattle.std.specs.BTreeSet.{contains_text}
use Rattle.std.proofs.lemmas.Map.Text.{btree_set_updates_text}
use Rattle.smithy_model_table.proofs.Gained.{gained_text}
use Rattle.smithy_model_table.proofs.taken.add_name.Goals as goal

pub returns : goal.returns
returns c = λ other.
    let old = c.args.names.now in
    gained_text c.args.name.now other (contains_text old other) (contains_text c.insert.new.self other)
    (btree_set_updates_text (string_bytes c.in_ok-owned.field-0) old c.insert.new.self true c.in_ok-insert.ensures.updates other
    ∙ ap (λ t. cond (bytes_eq t other) true (contains_text old other)) c.in_ok-owned.ensures)
