use Rattle.std.proofs.Common.{◌≡◌, List, ℕ, Some, map, sym, subst}
use Rattle.std.proofs.lemmas.Result.{err_from_is_err_and}
use Rattle.json.specs.Value.{value_view}
use Rattle.smithy_model.specs.Objects.{entries_in}
use Rattle.smithy_model.specs.Views.{entry_view, form_view, shape_view}
use Rattle.smithy_model.proofs.RootRefusals.{refused_shapes, refused_mixins, refused_operations}
use Rattle.smithy_model.proofs.reading.read_unlinked.Goals as goal

pub returns-clause-read : goal.returns-clause-read
returns-clause-read c =
    let form = form_view c.in-Some.format in
    let root = value_view c.args.root.now in
    let calls = map entry_view c.in-Some-entries-2.calls.now in
    let named = subst (λ (name : List ℕ). entries_in name root ≡ Some calls) c.operations_name.ensures (sym c.in-Some-entries-2.ensures) in
    record {
      form = form;
      is_form = sym c.in-Some.ensures;
      entries = map entry_view c.in-Some-entries.parts.now;
      has_entries = sym c.in-Some-entries.ensures;
      own = map shape_view c.in_ok-shapes.shapes.items;
      are_own = c.in_ok-shapes.ensures.read;
      whole = c.in_ok-complete.ensures.whole.0;
      are_whole = c.in_ok-complete.ensures.whole.1;
      shapes = c.in_ok-complete.ensures.whole.2;
      operations = rw (named) c.in_ok-read_operations.ensures.read;
      http = c.has_http_bindings.ensures;
      ec2 = c.is_ec2.ensures;
      service_json = c.is_service_json.ensures;
    }

pub returns-in_err-shapes-clause-refused : goal.returns-in_err-shapes-clause-refused
returns-in_err-shapes-clause-refused c =
    let p = err_from_is_err_and c.from_residual.result c.from_residual.ensures.1 in
    rw (p.1, p.2)
    (refused_shapes (value_view c.args.root.now) (form_view c.in-Some.format) (map entry_view c.in-Some-entries.parts.now) (sym c.in-Some.ensures)
    (sym c.in-Some-entries.ensures) c.in_err-shapes.field-0.0 c.in_err-shapes.ensures.refused)

pub returns-in_err-complete-clause-refused : goal.returns-in_err-complete-clause-refused
returns-in_err-complete-clause-refused c =
    let p = err_from_is_err_and c.from_residual-in_err-complete.result c.from_residual-in_err-complete.ensures.1 in
    rw (p.1, p.2)
    (refused_mixins (value_view c.args.root.now) (form_view c.in-Some.format) (map entry_view c.in-Some-entries.parts.now) (map shape_view c.in_ok-shapes.shapes.items)
    (sym c.in-Some.ensures) (sym c.in-Some-entries.ensures) c.in_ok-shapes.ensures.read c.in_err-complete.field-0.0 c.in_err-complete.ensures.refused)

pub returns-in_err-read_operations-clause-refused : goal.returns-in_err-read_operations-clause-refused
returns-in_err-read_operations-clause-refused c =
    let p = err_from_is_err_and c.from_residual-in_err-read_operations.result c.from_residual-in_err-read_operations.ensures.1 in
    let root = value_view c.args.root.now in
    let calls = map entry_view c.in-Some-entries-2.calls.now in
    let named = subst (λ (name : List ℕ). entries_in name root ≡ Some calls) c.operations_name.ensures (sym c.in-Some-entries-2.ensures) in
    rw (p.1, p.2)
    (refused_operations root (form_view c.in-Some.format) calls (sym c.in-Some.ensures) named c.in_err-read_operations.field-0.0
    c.in_err-read_operations.ensures.refused)
