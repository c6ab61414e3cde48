use Rattle.std.proofs.Common.{◌∙◌, ap, sym, subst, Some, w64, to_z-of_z, FitsSigned}
use Rattle.smithy_types.specs.declared.number.Number.TheVariants.{NegInt}
use Rattle.smithy_json_grammar.proofs.HeldNumberLemmas.{parses_negative, refuses_negative}
use Rattle.smithy_json_grammar.proofs.held_number.negative_number.Goals as goal

pub returns-in-Ok : goal.returns-in-Ok
returns-in-Ok c =
    let h = c.in-Ok.ensures.value.0 in
    let fits = subst (FitsSigned w64) (sym h.1) h.0.1 in
    ap (λ n. Some n) (c.neg_int.ensures ∙ ap (λ z. NegInt z) (to_z-of_z fits))
    ∙ parses_negative c.args.text.now c.requires.some c.requires.begins c.in-Ok.value h

pub returns-in-Err : goal.returns-in-Err
returns-in-Err c = refuses_negative c.args.text.now c.requires.some c.requires.begins c.in-Err.ensures.value.0
