use Rattle.std.proofs.Common.{◌++◌, codes, List, ℕ, subst}
use Rattle.smithy_outside.specs.Outside.{Took, TookPrefix}
use Rattle.smithy_outside.proofs.Written.{written_more, cut_short}
use Rattle.smithy_model_table.specs.Views.{left_view}
use Rattle.smithy_table_commands.specs.Status.{reason_text}
use Rattle.smithy_table_commands.proofs.left_out.write_left.Goals as goal

pub returns-in_err-write_two : goal.returns-in_err-write_two
returns-in_err-write_two g c =
    let told = g.E.Sink.told in
    let l = left_view c.args.left.now in
    let front = c.in_err-write_two.ensures in
    cut_short _ (codes "smithy_table: left out: " ++ l.shape) ((codes "$" ++ l.member) ++ ((codes ": " ++ reason_text l.reason) ++ codes "\n"))
    c.from_residual.result (told c.args.err.now) (told c.write_two.new.err) c.from_residual.ensures.1 front.0 front.1

pub returns-in_err-write_two-2 : goal.returns-in_err-write_two-2
returns-in_err-write_two-2 g c =
    let told = g.E.Sink.told in
    let l = left_view c.args.left.now in
    let shape = c.in_ok-write_two.ensures in
    let front = c.in_err-write_two-2.ensures in
    let r = c.from_residual-in_err-write_two-2.result in
    written_more (codes "smithy_table: left out: " ++ l.shape) ((codes "$" ++ l.member) ++ ((codes ": " ++ reason_text l.reason) ++ codes "\n")) r
    (told c.args.err.now) (told c.write_two.new.err) (told c.write_two-2.new.err) shape.0 shape.1
    (cut_short _ (codes "$" ++ l.member) ((codes ": " ++ reason_text l.reason) ++ codes "\n") r (told c.write_two.new.err) (told c.write_two-2.new.err)
    c.from_residual-in_err-write_two-2.ensures.1 front.0 front.1)

pub returns-in_err-write_two-3 : goal.returns-in_err-write_two-3
returns-in_err-write_two-3 g c =
    let told = g.E.Sink.told in
    let l = left_view c.args.left.now in
    let shape = c.in_ok-write_two.ensures in
    let member = c.in_ok-write_two-2.ensures in
    let front = c.in_err-write_two-3.ensures in
    let r = c.from_residual-in_err-write_two-3.result in
    let reason = subst (λ (text : List ℕ). TookPrefix (codes ": " ++ text) (told c.write_two-2.new.err) (told c.write_two-3.new.err)) c.reason_text.ensures front.1 in
    written_more (codes "smithy_table: left out: " ++ l.shape) ((codes "$" ++ l.member) ++ ((codes ": " ++ reason_text l.reason) ++ codes "\n")) r
    (told c.args.err.now) (told c.write_two.new.err) (told c.write_two-3.new.err) shape.0 shape.1
    (written_more (codes "$" ++ l.member) ((codes ": " ++ reason_text l.reason) ++ codes "\n") r (told c.write_two.new.err) (told c.write_two-2.new.err)
    (told c.write_two-3.new.err) member.0 member.1
    (cut_short _ (codes ": " ++ reason_text l.reason) (codes "\n") r (told c.write_two-2.new.err) (told c.write_two-3.new.err)
    c.from_residual-in_err-write_two-3.ensures.1 front.0 reason))

pub returns : goal.returns
returns g c =
    let told = g.E.Sink.told in
    let l = left_view c.args.left.now in
    let shape = c.in_ok-write_two.ensures in
    let member = c.in_ok-write_two-2.ensures in
    let given = c.in_ok-write_two-3.ensures in
    let r = c.write_all.result in
    let reason = subst (λ (text : List ℕ). Took (codes ": " ++ text) (told c.write_two-2.new.err) (told c.write_two-3.new.err)) c.reason_text.ensures given.1 in
    written_more (codes "smithy_table: left out: " ++ l.shape) ((codes "$" ++ l.member) ++ ((codes ": " ++ reason_text l.reason) ++ codes "\n")) r
    (told c.args.err.now) (told c.write_two.new.err) (told c.write_all.new.sink) shape.0 shape.1
    (written_more (codes "$" ++ l.member) ((codes ": " ++ reason_text l.reason) ++ codes "\n") r (told c.write_two.new.err) (told c.write_two-2.new.err)
    (told c.write_all.new.sink) member.0 member.1
    (written_more (codes ": " ++ reason_text l.reason) (codes "\n") r (told c.write_two-2.new.err) (told c.write_two-3.new.err) (told c.write_all.new.sink)
    given.0 reason c.write_all.ensures.written))
