use Rattle.std.proofs.Common.{refl, subst, sym}
use Rattle.smithy_json_grammar.specs.Ascii.{end_array, value_separator}
use Rattle.smithy_json_values.specs.Codec.{held_grammar}
use Rattle.smithy_json_values.specs.Private.NextInContainer.{IsFirstByte}
use Rattle.smithy_json_values.proofs.FirstBytePlaces.{not_first, nothing_first}
use Rattle.smithy_json_values.proofs.NextInContainerLemmas.{list_closes, element_behind, comma_hangs, nothing_in_list, element_first}
use Rattle.smithy_json_values.proofs.places.next_in_list.Goals as goal

pub returns-then-entered : goal.returns-then-entered
returns-then-entered c =
    nothing_in_list (held_grammar c.args.settings.now) c.args.input.now c.args.at c.args.entered c.args.depth c.if-entered.true
    (nothing_first c.args.input.now c.args.at end_array c.in_default.ensures.none refl)
    (nothing_first c.args.input.now c.args.at value_separator c.in_default.ensures.none refl)

pub returns-else-entered : goal.returns-else-entered
returns-else-entered c =
    element_first c.args.input.now c.args.at c.args.entered c.if-entered.false
    (nothing_first c.args.input.now c.args.at end_array c.in_default.ensures.none refl)

pub returns-then-first-eq93 : goal.returns-then-first-eq93
returns-then-first-eq93 c =
    let here = subst (λ b. IsFirstByte c.args.input.now c.args.at b c.in-Some.start) c.if-first-eq93.true c.in-Some.ensures.found in
    rw c.then_some.ensures (list_closes (held_grammar c.args.settings.now) c.args.input.now c.args.at c.in-Some.start c.args.entered c.args.depth here c.may_end.result c.may_end.ensures)

pub returns-then-not-entered : goal.returns-then-not-entered
returns-then-not-entered c =
    element_first c.args.input.now c.args.at c.args.entered c.if-not-entered.true
    (not_first c.args.input.now c.args.at c.in-Some.first c.in-Some.start c.in-Some.ensures.found end_array refl (λ same. c.if-first-eq93.false (sym same)))

pub returns-then-first-ne44 : goal.returns-then-first-ne44
returns-then-first-ne44 c =
    nothing_in_list (held_grammar c.args.settings.now) c.args.input.now c.args.at c.args.entered c.args.depth c.if-not-entered.false
    (not_first c.args.input.now c.args.at c.in-Some.first c.in-Some.start c.in-Some.ensures.found end_array refl (λ same. c.if-first-eq93.false (sym same)))
    (not_first c.args.input.now c.args.at c.in-Some.first c.in-Some.start c.in-Some.ensures.found value_separator refl (λ same. c.if-first-ne44.true (sym same)))

pub returns-in-Some-byte_end : goal.returns-in-Some-byte_end
returns-in-Some-byte_end c =
    let here = subst (λ b. IsFirstByte c.args.input.now c.args.at b c.in-Some.start) c.if-first-ne44.false c.in-Some.ensures.found in
    comma_hangs (held_grammar c.args.settings.now) c.args.input.now c.args.at c.in-Some.start c.args.entered c.args.depth here c.if-not-entered.false c.in-Some-byte_end.field-0 c.in-Some-byte_end.ensures.found

pub returns-in-None : goal.returns-in-None
returns-in-None c =
    let here = subst (λ b. IsFirstByte c.args.input.now c.args.at b c.in-Some.start) c.if-first-ne44.false c.in-Some.ensures.found in
    element_behind (held_grammar c.args.settings.now) c.args.input.now c.args.at c.in-Some.start c.args.entered c.args.depth here c.if-not-entered.false c.in-None.ensures.none
