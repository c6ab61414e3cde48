use Rattle.std.proofs.Common.{rules, ◌≡◌, ◌+◌, suc, length, arith}
use Rattle.std.specs.Vec.{vec_len}
use Rattle.std.specs.List.{slice_split}
use Rattle.std.proofs.lemmas.Result.{err_from_is_err_and}
use Rattle.smithy_query.specs.Split.{is_ampersand}
use Rattle.smithy_form.proofs.PieceLemmas.{piece_refused, all_read, goes_on}
use Rattle.smithy_form.proofs.pieces.pairs_of.Goals as goal

pub returns-in_err-pair : goal.returns-in_err-pair
returns-in_err-pair c =
    let counted : vec_len c.loop-pairs.pairs ≡ length c.loop-pairs.pairs.items = search rules in
    let number : c.len.result + 1 ≡ suc (length c.loop-pairs.pairs.items) = let d = c.len.ensures in omega (arith, d, counted) in
    let p = err_from_is_err_and c.from_residual.result c.from_residual.ensures.1 in
    rw (p.1, p.2)
    (piece_refused (slice_split is_ampersand c.args.input.now) c.loop-pairs.pairs.items c.loop-pairs.rest.now c.place_of-end.result (c.len.result + 1) number
    c.loop-pairs.invariant.all c.loop-pairs.invariant.numbered c.place_of-end.ensures.place c.place_of-end.ensures.within c.in_err-pair.field-0.0 c.in_err-pair.ensures)

pub returns-then-end-rest : goal.returns-then-end-rest
returns-then-end-rest c =
    let counted : vec_len c.loop-pairs.pairs ≡ length c.loop-pairs.pairs.items = search rules in
    let number : c.len.result + 1 ≡ suc (length c.loop-pairs.pairs.items) = let d = c.len.ensures in omega (arith, d, counted) in
    all_read (slice_split is_ampersand c.args.input.now) c.loop-pairs.pairs.items c.loop-pairs.rest.now c.place_of-end.result (c.len.result + 1) number
    c.loop-pairs.invariant.all c.loop-pairs.invariant.numbered c.place_of-end.ensures.place c.place_of-end.ensures.within c.in_ok-pair.pair c.push.new.self.items c.in_ok-pair.ensures
    c.in_ok-push.ensures.items c.if-end-rest.true

pub overflow_add-end : goal.overflow_add-end
overflow_add-end c = omega (arith, c.place_of-end.ensures.within, c.place_of-end.ensures.few, c.if-end-rest.false)

pub loop-pairs-preserved : goal.loop-pairs-preserved
loop-pairs-preserved c =
    let counted : vec_len c.loop-pairs.pairs ≡ length c.loop-pairs.pairs.items = search rules in
    let number : c.len.result + 1 ≡ suc (length c.loop-pairs.pairs.items) = let d = c.len.ensures in omega (arith, d, counted) in
    let on = goes_on (slice_split is_ampersand c.args.input.now) c.loop-pairs.pairs.items c.loop-pairs.rest.now c.place_of-end.result (c.len.result + 1) number
    c.loop-pairs.invariant.all c.loop-pairs.invariant.numbered c.place_of-end.ensures.place c.place_of-end.ensures.within c.in_ok-pair.pair c.push.new.self.items c.bytes_from-rest.result.now
    c.in_ok-pair.ensures c.in_ok-push.ensures.items c.if-end-rest.false c.bytes_from-rest.ensures in
    record { all = on.0; numbered = on.1 }
