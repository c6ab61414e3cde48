use Rattle.std.proofs.Common.{◌≡◌, ◌<◌, ◌+◌, length, take, drop, Some, refl, sym, ap, ◌∙◌, arith}
use Rattle.std.specs.Cow.{cow_str_bytes}
use Rattle.smithy_form.specs.Forms.{side_text}
use Rattle.smithy_form.proofs.PieceLemmas.{no_equals, by_sides, good_pair}
use Rattle.smithy_form.proofs.pieces.pair_of.Goals as goal

pub returns-then-equals-piece : goal.returns-then-equals-piece
returns-then-equals-piece c = (no_equals c.args.piece.now c.place_of-equals.result c.place_of-equals.ensures.place c.if-equals-piece.true, refl)

pub returns : goal.returns
returns c =
    let piece = c.args.piece.now in
    let at = c.place_of-equals.result in
    let within : at < length piece = omega (arith, c.place_of-equals.ensures.within, c.if-equals-piece.false) in
    let name : side_text (take at piece) ≡ Some (cow_str_bytes c.in-Some.name) = sym (rw c.in-Some.is at c.in_ok-name.ensures) in
    let text : side_text (drop (at + 1) piece) ≡ Some (cow_str_bytes c.in-Some-2.text) = ap side_text (sym c.bytes_from.ensures) ∙ sym (rw c.in-Some-2.is at c.in_ok-text.ensures) in
    (by_sides piece at c.place_of-equals.ensures.place within ∙ good_pair (side_text (take at piece)) (side_text (drop (at + 1) piece)) _ _ name text, refl)
