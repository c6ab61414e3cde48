use Rattle.std.proofs.Common.{◌≡◌, ◌∙◌, length, rules}
use Rattle.std.specs.Vec.{vec_len}
use Rattle.std.proofs.lemmas.Result.{err_from_is_err_and}
use Rattle.smithy_generator.specs.GeneratedShapes.{generated_root}
use Rattle.smithy_commands.specs.Gen.{gen_view}
use Rattle.smithy_commands.proofs.GenLemmas.{only_root, root_alone, input_is_expressible, line_is}
use Rattle.smithy_commands.proofs.commands.generate.line_for.Goals as goal

pub lengths_of-requires-clause-expressible : goal.lengths_of-requires-clause-expressible
lengths_of-requires-clause-expressible c =
    let root : c.in_ok-root.root.0 ≡ generated_root = only_root c.in_ok-root.root.0 (rw c.in_ok-table.ensures.table at c.in_ok-root.ensures.root.0) in
    rw (c.in_ok-table.ensures.table, root, c.deref.ensures.value, c.in_ok-input.ensures.text)
    (input_is_expressible c.args.command.seed c.args.command.count c.in_ok-input.ensures.spelled)

pub returns-in_err-root-clause-only_memory : goal.returns-in_err-root-clause-only_memory
returns-in_err-root-clause-only_memory c =
    let p = err_from_is_err_and c.from_residual-in_err-root.result c.from_residual-in_err-root.ensures.1 in
    rw (p.1, p.2) (root_alone c.in_err-root.field-0.0 (rw c.in_ok-table.ensures.table at c.in_err-root.ensures.refused))

pub returns-clause-line : goal.returns-clause-line
returns-clause-line c =
    let lengths = c.in_ok-lengths.lengths in
    let both = rw c.deref.ensures.value at c.in_ok-lengths.ensures.lengths in
    let size : vec_len c.in_ok-input.input ≡ length c.in_ok-input.input.items = search rules in
    line_is (gen_view c.args.command) c.in_ok-table.table c.in_ok-root.root.0 c.in_ok-input.input.items lengths.cbor lengths.json c.len.result c.in_ok-line_of.field-0.items
    c.in_ok-table.ensures.table c.in_ok-root.ensures.root.0 c.in_ok-input.ensures.text (c.len.ensures ∙ size) both.0 (c.in_ok-line_of.ensures both.1)
