use Rattle.std.proofs.Common.{List, ◌==◌, map, subst}
use Rattle.std.specs.List.{list_any}
use Rattle.smithy_model.specs.declared.model.Reference as kept
use Rattle.smithy_model.specs.Model.{Reference}
use Rattle.smithy_model.specs.Views.{operation_view, reference_view}
use Rattle.smithy_model_table.specs.Bindings.{has_input, has_output, has_error}
use Rattle.smithy_model_table.specs.Roles.{has_number, Gains}
use Rattle.smithy_model_table.proofs.Gained.{gained_behind}
use Rattle.smithy_model_table.proofs.roles.Roles.add_operation.Goals as goal

pub returns : goal.returns
returns c = λ before so_far.
    let o = operation_view c.args.operation.now in
    let old = c.args.self.now in
    let errors = subst
    (λ (es : List kept.Reference). Gains (λ number. list_any (λ (r : Reference). r.number == number) (map reference_view es)) (has_number old.errors) (has_number c.add_all.new.numbers))
    c.deref.ensures.value c.in_ok-add_all.ensures in
    record {
      inputs = gained_behind has_input before o (has_number old.inputs) (has_number c.add_given.new.numbers) so_far.inputs c.in_ok-add_given.ensures;
      outputs = gained_behind has_output before o (has_number old.outputs) (has_number c.add_given-2.new.numbers) so_far.outputs c.in_ok-add_given-2.ensures;
      errors = gained_behind has_error before o (has_number old.errors) (has_number c.add_all.new.numbers) so_far.errors errors;
    }
