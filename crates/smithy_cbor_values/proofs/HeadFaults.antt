-- Where a head that is wanted can't be read, none begins.
use Rattle.std.proofs.Common.{◌≡◌, ℕ, ◌-◌, List, drop, subst, refl, Option, None, Result, Ok, Err}
use Rattle.std.specs.Prelude.{IfErr}
use Rattle.std.specs.Result.{result_ok}
use Rattle.cbor_item.specs.declared.error.ItemError.{ItemError}
use Rattle.cbor_item.specs.declared.error.ItemError.TheVariants.{Truncated, NotWellFormed, WrongType, InvalidUtf8, NoMemory}
use Rattle.cbor_item.specs.Head.{HeadRead, BeginsWithHead}
use Rattle.cbor_item.specs.Private.Chunk.{whole, cut_head, broken_head}
use Rattle.cbor_item.proofs.HeadLemmas.{one_answer}
use Rattle.smithy_cbor.specs.declared.decoder.Decoder.{Decoder}
use Rattle.smithy_cbor.specs.declared.error.DeserializeError.{DeserializeError}
use Rattle.smithy_cbor.specs.DecoderView.{input_of, position_of, IsRefusal}
use Rattle.smithy_cbor.specs.Reading.{IsHeadFault, IsKindOf, IsOfType, OpensAt}

-- where no wanted head can be read, none begins
pub no_wanted_head : (Wanted : HeadRead → Type 0) (input : List ℕ) (at : ℕ) (e : ItemError) (h : HeadRead) → IsHeadFault Wanted input at e
    → BeginsWithHead (drop at input) h → Wanted h → ⊥
no_wanted_head Wanted input at Truncated h fault begins wanted =
    let same : whole h ≡ cut_head = one_answer (drop at input) (whole h) cut_head begins fault in cc
no_wanted_head Wanted input at NotWellFormed h fault begins wanted =
    let same : whole h ≡ broken_head = one_answer (drop at input) (whole h) broken_head begins fault in cc
no_wanted_head Wanted input at WrongType h (k, other, unwanted) begins wanted =
    let same : whole h ≡ whole k = one_answer (drop at input) (whole h) (whole k) begins other in
    let heads : h ≡ k = cc in unwanted (subst Wanted heads wanted)
no_wanted_head Wanted input at InvalidUtf8 h fault begins wanted = fault
no_wanted_head Wanted input at NoMemory h fault begins wanted = fault

-- where the head of a container can't be read, none opens
pub no_opening : (major : ℕ) (input : List ℕ) (at : ℕ) (e : ItemError) → IsHeadFault (IsOfType major) input at e
    → (due : Option ℕ) (b : ℕ) → OpensAt major due input at b → ⊥
no_opening major input at e fault due b opens =
    no_wanted_head (IsOfType major) input at e (record { major = major; argument = due; length = b - at }) fault opens.1 refl

-- where a decoder refuses to open a container, none opens
pub not_opening : (major : ℕ) (input : List ℕ) (at : ℕ) (d : Decoder) → input_of d ≡ input → position_of d ≡ at
    → (r : Result (Option ℕ) DeserializeError) → ◌≡◌ {A = Option (Option ℕ)} None (result_ok r)
    → IfErr r (IsRefusal (λ input at. IsKindOf (IsHeadFault (IsOfType major) input at)) d)
    → (due : Option ℕ) (b : ℕ) → OpensAt major due input at b → ⊥
not_opening major input at d same place (Ok due) none refused = absurd (cc)
not_opening major input at d same place (Err e) none refused =
    let cause = refused.cause in
    no_opening major input at cause.0 (subst (λ (i : List ℕ). IsHeadFault (IsOfType major) i at cause.0) same (subst (λ (a : ℕ). IsHeadFault (IsOfType major) (input_of d) a cause.0) place cause.2))
