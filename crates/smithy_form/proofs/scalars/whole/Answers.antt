use Rattle.std.proofs.Common.{sym, ap, ◌∙◌}
use Rattle.std.specs.Int.{w128}
use Rattle.std.proofs.lemmas.Int.{to_z-of_z}
use Rattle.smithy_form.specs.Private.Scalars.{is_whole_of}
use Rattle.smithy_form.proofs.ScalarAnswers.{wide, no_whole, other_kind}
use Rattle.smithy_form.proofs.scalars.whole.Goals as goal

pub returns-then-not-is_of_kind : goal.returns-then-not-is_of_kind
returns-then-not-is_of_kind c =
    let number = c.in-Some.number in
    other_kind c.args.kind c.args.text.now number c.in-Some.ensures
    (ap (is_whole_of c.args.kind) (sym (to_z-of_z w128 number (wide number c.in-Some.ensures.0))) ∙ sym c.is_of_kind.ensures ∙ c.if-not-is_of_kind.true)

pub returns-in_default : goal.returns-in_default
returns-in_default c = no_whole c.args.kind c.args.text.now c.in_default.ensures
