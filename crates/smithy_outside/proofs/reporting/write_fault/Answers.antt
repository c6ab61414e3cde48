use Rattle.std.proofs.Common.{◌++◌, ◌∙◌, codes, decimal, List, ℕ, subst}
use Rattle.smithy_outside.specs.Outside.{IsWritten}
use Rattle.smithy_outside.proofs.Written.{written_more, cut_short}
use Rattle.smithy_outside.proofs.reporting.write_fault.Goals as goal

pub returns-in_err-write_bytes : goal.returns-in_err-write_bytes
returns-in_err-write_bytes g c =
    let told = g.E.Sink.told in
    let name = c.in_err-write_bytes.ensures.written in
    cut_short _ c.args.name.now (codes " " ++ decimal c.args.number) c.from_residual.result (told c.args.err.now) (told c.write_bytes.new.sink)
    c.from_residual.ensures.1 name.0 name.1

pub returns-in_err-write_bytes-2 : goal.returns-in_err-write_bytes-2
returns-in_err-write_bytes-2 g c =
    let told = g.E.Sink.told in
    let name = c.in_ok-write_bytes.ensures.written in
    let blank = c.in_err-write_bytes-2.ensures.written in
    let r = c.from_residual-in_err-write_bytes-2.result in
    written_more c.args.name.now (codes " " ++ decimal c.args.number) r (told c.args.err.now) (told c.write_bytes.new.sink) (told c.write_bytes-2.new.sink)
    name.0 name.1
    (cut_short _ (codes " ") (decimal c.args.number) r (told c.write_bytes.new.sink) (told c.write_bytes-2.new.sink)
    c.from_residual-in_err-write_bytes-2.ensures.1 blank.0 blank.1)

pub returns : goal.returns
returns g c =
    let told = g.E.Sink.told in
    let name = c.in_ok-write_bytes.ensures.written in
    let blank = c.in_ok-write_bytes-2.ensures.written in
    let r = c.write_bytes-3.result in
    let number = subst (λ (text : List ℕ). IsWritten text r (told c.write_bytes-2.new.sink) (told c.write_bytes-3.new.sink))
    (c.as_bytes.ensures.value ∙ c.format.ensures.text) c.write_bytes-3.ensures.written in
    written_more c.args.name.now (codes " " ++ decimal c.args.number) r (told c.args.err.now) (told c.write_bytes.new.sink) (told c.write_bytes-3.new.sink)
    name.0 name.1
    (written_more (codes " ") (decimal c.args.number) r (told c.write_bytes.new.sink) (told c.write_bytes-2.new.sink) (told c.write_bytes-3.new.sink) blank.0 blank.1 number)
