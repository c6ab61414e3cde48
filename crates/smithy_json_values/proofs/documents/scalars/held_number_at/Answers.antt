use Rattle.std.proofs.Common.{ℤ, ◌==◌, cond, unsigned_abs, w64, subst, sym}
use Rattle.std.proofs.lemmas.Int.{to_z-of_z}
use Rattle.smithy_types.specs.declared.number.Number.TheVariants.{PosInt, NegInt}
use Rattle.smithy_json_grammar.specs.Ascii.{minus_sign}
use Rattle.smithy_json_grammar.proofs.LongLemmas.{long_fits}
use Rattle.smithy_json_values.specs.Codec.{held_settings, held_grammar}
use Rattle.smithy_json_values.specs.Private.OpenDocuments.{HeldNumberLies}
use Rattle.smithy_json_values.proofs.HeldNumbers.{long_is_held}
use Rattle.smithy_json_values.proofs.documents.scalars.held_number_at.Goals as goal

pub returns-in-Some : goal.returns-in-Some
returns-in-Some c =
    let s = c.args.settings.now in
    let long = c.in-Some.ensures.found in
    let Lies : ℤ → Type 0 = λ z. HeldNumberLies (held_grammar s) c.args.input.now c.args.at (cond (c.args.first == minus_sign) (NegInt z) (PosInt (unsigned_abs z))) c.in-Some.end in
    let back = to_z-of_z w64 c.in-Some.value (long_fits c.in-Some.value long.fits) in
    subst (λ n. HeldNumberLies (held_grammar s) c.args.input.now c.args.at n c.in-Some.end) (sym c.number_of_long.ensures)
    (subst Lies (sym back) (long_is_held c.args.input.now c.args.at c.args.first c.requires.first (held_settings s) c.in-Some.value c.in-Some.end long))
