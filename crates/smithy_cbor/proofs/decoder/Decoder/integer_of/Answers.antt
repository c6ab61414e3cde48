-- The head's number, where it fits 64 bits.
use Rattle.std.proofs.Common.{◌+◌, ◌∙◌, ℕ, sym, ap, subst, Some, inr}
use Rattle.std.specs.Int.{w64}
use Rattle.std.proofs.lemmas.Int.{to_z-of_z}
use Rattle.cbor_item.specs.WellFormed.{IsItemAt}
use Rattle.smithy_cbor.specs.DecoderView.{input_of, position_of}
use Rattle.smithy_cbor.proofs.HeadLemmas.{integer_there}
use Rattle.smithy_cbor.proofs.decoder.Decoder.integer_of.Goals as goal

pub returns-in-Some-clause-found : goal.returns-in-Some-clause-found
returns-in-Some-clause-found c =
    let d = c.args.self.now in
    let i = integer_there c.args.major c.args.argument c.args.length (input_of d) (position_of d) c.requires.integer_type d.within c.requires.head in
    let P : ℕ → Type 0 = λ n. IsItemAt i.0 (input_of d) (position_of d) n in
    let end = ap (λ n. position_of d + n) (sym c.from.ensures) ∙ sym c.new.ensures.end in
    (i.0, subst P end i.1, i.2 ∙ ap Some (sym c.in-Some.ensures.some ∙ sym (to_z-of_z w64 c.in-Some.value c.in-Some.ensures.fits) ∙ sym c.new.ensures.value))

pub returns-in-None-clause-refused : goal.returns-in-None-clause-refused
returns-in-None-clause-refused c =
    let d = c.args.self.now in
    let i = integer_there c.args.major c.args.argument c.args.length (input_of d) (position_of d) c.requires.integer_type d.within c.requires.head in
    record {
      cause = inr (ap (λ e. e.kind) c.out_of_range.ensures, (_, position_of d + c.args.length, (i.0, i.1, i.2), c.in-None.ensures.none));
      place = ap (λ e. e.at) c.out_of_range.ensures;
    }
