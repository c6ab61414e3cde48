use Rattle.std.proofs.Common.{◌∙◌, ℕ, List, ap}
use Rattle.smithy_declarations.specs.Value.{put_entry}
use Rattle.smithy_value.specs.View.{view, view_entries}
use Rattle.smithy_value.proofs.ReadViews.{entry_views-insert}
use Rattle.smithy_value.proofs.value_trees.ValueTreesTrees.set_entry.Goals as goal

pub returns-clause-ok : goal.returns-clause-ok
returns-clause-ok c =
    λ i stands.
    let es = c.args.entries.now.entries in
    let v = c.args.value in
    rw c.in_ok-insert.ensures.entries (entry_views-insert view es c.in_ok-into_owned.field-0 v ∙ ap (λ (k : List ℕ). put_entry k (view v) (view_entries es)) c.in_ok-into_owned.ensures.ok)
