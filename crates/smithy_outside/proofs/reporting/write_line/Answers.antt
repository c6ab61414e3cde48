use Rattle.std.proofs.Common.{◌++◌, codes}
use Rattle.smithy_outside.proofs.Written.{written_more, cut_short}
use Rattle.smithy_outside.proofs.reporting.write_line.Goals as goal

pub returns-in_err-write_bytes-clause-written : goal.returns-in_err-write_bytes-clause-written
returns-in_err-write_bytes-clause-written g c =
    let told = g.E.Sink.told in
    let text = g.T.RunStatus.says c.args.status in
    let name = c.in_err-write_bytes.ensures.written in
    cut_short _ c.args.program.now (codes ": " ++ (text ++ codes "\n")) c.from_residual.result
    (told c.args.err.now) (told c.write_bytes.new.sink) c.from_residual.ensures.1 name.0 name.1

pub returns-in_err-write_bytes-2-clause-written : goal.returns-in_err-write_bytes-2-clause-written
returns-in_err-write_bytes-2-clause-written g c =
    let told = g.E.Sink.told in
    let text = g.T.RunStatus.says c.args.status in
    let name = c.in_ok-write_bytes.ensures.written in
    let colon = c.in_err-write_bytes-2.ensures.written in
    let r = c.from_residual-in_err-write_bytes-2.result in
    written_more c.args.program.now (codes ": " ++ (text ++ codes "\n")) r
    (told c.args.err.now) (told c.write_bytes.new.sink) (told c.write_bytes-2.new.sink) name.0 name.1
    (cut_short _ (codes ": ") (text ++ codes "\n") r (told c.write_bytes.new.sink) (told c.write_bytes-2.new.sink)
    c.from_residual-in_err-write_bytes-2.ensures.1 colon.0 colon.1)

pub returns-in_err-write_text-clause-written : goal.returns-in_err-write_text-clause-written
returns-in_err-write_text-clause-written g c =
    let told = g.E.Sink.told in
    let text = g.T.RunStatus.says c.args.status in
    let name = c.in_ok-write_bytes.ensures.written in
    let colon = c.in_ok-write_bytes-2.ensures.written in
    let said = c.in_err-write_text.ensures in
    let r = c.from_residual-in_err-write_text.result in
    written_more c.args.program.now (codes ": " ++ (text ++ codes "\n")) r
    (told c.args.err.now) (told c.write_bytes.new.sink) (told c.write_text.new.err) name.0 name.1
    (written_more (codes ": ") (text ++ codes "\n") r (told c.write_bytes.new.sink) (told c.write_bytes-2.new.sink) (told c.write_text.new.err) colon.0 colon.1
    (cut_short _ text (codes "\n") r (told c.write_bytes-2.new.sink) (told c.write_text.new.err)
    c.from_residual-in_err-write_text.ensures.1 said.0 said.1))

pub returns-clause-written : goal.returns-clause-written
returns-clause-written g c =
    let told = g.E.Sink.told in
    let text = g.T.RunStatus.says c.args.status in
    let name = c.in_ok-write_bytes.ensures.written in
    let colon = c.in_ok-write_bytes-2.ensures.written in
    let said = c.in_ok-write_text.ensures in
    let r = c.write_all.result in
    written_more c.args.program.now (codes ": " ++ (text ++ codes "\n")) r
    (told c.args.err.now) (told c.write_bytes.new.sink) (told c.write_all.new.sink) name.0 name.1
    (written_more (codes ": ") (text ++ codes "\n") r (told c.write_bytes.new.sink) (told c.write_bytes-2.new.sink) (told c.write_all.new.sink) colon.0 colon.1
    (written_more text (codes "\n") r (told c.write_bytes-2.new.sink) (told c.write_text.new.err) (told c.write_all.new.sink)
    said.0 said.1 c.write_all.ensures.written))
