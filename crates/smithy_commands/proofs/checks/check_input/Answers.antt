use Rattle.std.proofs.Common.{Err, refl, ap}
use Rattle.std.proofs.lemmas.Result.{err_from_is_err_and}
use Rattle.smithy_commands.specs.Checks.{Sources, IsRead}
use Rattle.smithy_outside.proofs.Moved.{gave_whole}
use Rattle.smithy_commands.proofs.Refusals.{table_refuses, read_refuses, well_unless_read_failed}
use Rattle.smithy_commands.proofs.checks.check_input.Goals as goal

pub returns-in_err-checked-clause-refused : goal.returns-in_err-checked-clause-refused
returns-in_err-checked-clause-refused g c =
    let path = c.args.table.now in
    let old : Sources = record { table = g.F.Files.told c.args.files.now path; input = g.S.Source.told c.args.input.now } in
    let new : Sources = record { table = g.F.Files.told c.check_table.new.files path; input = g.S.Source.told c.args.input.now } in
    let p = err_from_is_err_and c.from_residual.result c.from_residual.ensures.1 in
    rw (p.1, p.2) (table_refuses c.args.root.now old new c.in_err-checked.field-0.0 refl c.in_err-checked.ensures.refused)

pub returns-in_err-bytes-clause-refused : goal.returns-in_err-bytes-clause-refused
returns-in_err-bytes-clause-refused g c =
    let path = c.args.table.now in
    let old : Sources = record { table = g.F.Files.told c.args.files.now path; input = g.S.Source.told c.args.input.now } in
    let new : Sources = record { table = g.F.Files.told c.check_table.new.files path; input = g.S.Source.told c.read_to_end.new.source } in
    let passed = c.in_ok-checked.ensures.passed in
    let fault = c.in_err-bytes.field-0.0 in
    let p = err_from_is_err_and c.from_residual-in_err-bytes.result c.from_residual-in_err-bytes.ensures.1 in
    rw (p.1, p.2)
    (read_refuses c.args.root.now old new passed.text c.in_ok-checked.checked.table passed.loaded passed.accepted_as c.in_ok-checked.checked.root.0 passed.is_root fault
    (c.in_ok-checked.ensures.no_fault (λ e. cc e)) c.in_err-bytes.ensures.counts c.in_err-bytes.ensures.too_long)

pub returns-in_err-bytes-clause-input_met_no_fault : goal.returns-in_err-bytes-clause-input_met_no_fault
returns-in_err-bytes-clause-input_met_no_fault g c =
    let told = g.S.Source.told in
    let p = err_from_is_err_and c.from_residual-in_err-bytes.result c.from_residual-in_err-bytes.ensures.1 in
    rw (p.1, p.2) (λ other. well_unless_read_failed c.in_err-bytes.field-0.0 (told c.args.input.now) (told c.read_to_end.new.source) c.in_err-bytes.ensures.counts (λ e. other (ap Err e)))

pub returns-clause-passed : goal.returns-clause-passed
returns-clause-passed g c =
    let read : IsRead c.in_ok-bytes.bytes.items (g.S.Source.told c.args.input.now) (g.S.Source.told c.read_to_end.new.source) = record {
      whole = gave_whole c.in_ok-bytes.bytes.items (g.S.Source.told c.args.input.now) (g.S.Source.told c.read_to_end.new.source) c.in_ok-bytes.ensures.all c.in_ok-bytes.ensures.end;
      to_the_end = c.in_ok-bytes.ensures.end;
      within = c.in_ok-bytes.ensures.within;
    } in
    record { checked = c.in_ok-checked.ensures.passed; read = read }
