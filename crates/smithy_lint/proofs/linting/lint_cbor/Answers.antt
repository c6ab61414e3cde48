use Rattle.std.proofs.Common.{sym, ◌∙◌, length}
use Rattle.smithy_cbor_values.specs.Meaning.{node_of}
use Rattle.smithy_lint.proofs.CborBodies.{root_lies}
use Rattle.smithy_lint.proofs.Lintings.{emptied, filled, empty_cbor, item_lints, item_refused}
use Rattle.smithy_lint.proofs.linting.lint_cbor.Goals as goal

pub returns-then-is_empty : goal.returns-then-is_empty
returns-then-is_empty c =
    empty_cbor c.args.shapes.now c.args.root.0 c.args.definite c.args.bytes.now c.requires.root (emptied c.args.bytes.now (sym c.is_empty.ensures ∙ c.if-is_empty.true)) c.new.result c.new.ensures.items

pub returns-in-Err : goal.returns-in-Err
returns-in-Err c =
    item_refused c.args.shapes.now c.args.root.0 c.args.definite c.args.bytes.now c.in-Err.error (rw c.in-Err.is at c.check_item.ensures)
    (filled c.args.bytes.now (sym c.is_empty.ensures ∙ c.if-is_empty.false))

pub findings_of-requires-clause-there : goal.findings_of-requires-clause-there
findings_of-requires-clause-there c =
    let checked = rw c.in-Ok.is at c.check_item.ensures in
    (node_of checked.0, length c.args.bytes.now, root_lies c.args.bytes.now checked.0 checked.1)

pub returns-in-Ok-findings_of : goal.returns-in-Ok-findings_of
returns-in-Ok-findings_of c =
    item_lints c.args.shapes.now c.args.root.0 c.args.definite c.args.bytes.now c.in-Ok.field-0 (rw c.in-Ok.is at c.check_item.ensures) c.in-Ok-findings_of.found c.in-Ok-findings_of.ensures
