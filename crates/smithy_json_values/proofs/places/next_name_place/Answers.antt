use Rattle.std.proofs.Common.{subst}
use Rattle.smithy_json_values.specs.Codec.{held_grammar}
use Rattle.smithy_json_values.specs.Private.NextInContainer.{IsFirstByte}
use Rattle.smithy_json_values.proofs.NextInContainerLemmas.{object_closes, name_at_once, name_behind, no_name_place, nothing_in_object}
use Rattle.smithy_json_values.proofs.places.next_name_place.Goals as goal

pub returns-in_err-first : goal.returns-in_err-first
returns-in_err-first c =
    rw c.from_residual.ensures (nothing_in_object (held_grammar c.args.settings.now) c.args.input.now c.args.at c.args.entered c.args.depth c.in_err-first.ensures.none)

pub returns-then-first-eq125 : goal.returns-then-first-eq125
returns-then-first-eq125 c =
    let here = subst (λ b. IsFirstByte c.args.input.now c.args.at b c.in_ok-first.start) c.if-first-eq125.true c.in_ok-first.ensures.found in
    rw c.then_some.ensures (object_closes (held_grammar c.args.settings.now) c.args.input.now c.args.at c.in_ok-first.start c.args.entered c.args.depth here c.may_end.result c.may_end.ensures)

pub returns-then-not-entered : goal.returns-then-not-entered
returns-then-not-entered c =
    name_at_once c.args.input.now c.args.at c.in_ok-first.first c.in_ok-first.start c.args.entered c.in_ok-first.ensures.found c.if-first-eq125.false c.if-not-entered.true

pub returns-then-first-ne44 : goal.returns-then-first-ne44
returns-then-first-ne44 c =
    no_name_place c.args.input.now c.args.at c.in_ok-first.first c.in_ok-first.start c.args.entered c.in_ok-first.ensures.found c.if-first-eq125.false
    (held_grammar c.args.settings.now) c.args.depth c.if-not-entered.false c.if-first-ne44.true

pub returns : goal.returns
returns c =
    name_behind c.args.input.now c.args.at c.in_ok-first.first c.in_ok-first.start c.args.entered c.in_ok-first.ensures.found c.if-first-eq125.false c.if-not-entered.false c.if-first-ne44.false
