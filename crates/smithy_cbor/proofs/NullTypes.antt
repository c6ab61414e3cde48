-- Where the type is null, a null is read.
use Rattle.std.proofs.Common.{◌≡◌, ◌≢◌, inl, inr, ℕ, ◌<◌, List, [], ◌∷◌, length, drop, ap, subst, arith, refl, Some, None, true, false, Bool, slice_index}
use Rattle.std.specs.Prelude.{if◌then◌else◌}
use Rattle.std.proofs.lemmas.Bool.Decides.{nat_tests}
use Rattle.cbor_item.specs.declared.error.ItemError.{ItemError}
use Rattle.cbor_item.specs.declared.error.ItemError.TheVariants.{Truncated, NotWellFormed, WrongType, InvalidUtf8, NoMemory}
use Rattle.cbor_item.specs.declared.kind.ItemType.TheVariants.{Null}
use Rattle.cbor_item.specs.Head.{HeadRead, BeginsWithHead, IsCutHead, IsBrokenHead}
use Rattle.cbor_item.specs.Kind.{kind_of, kind_of_initial, kind_of_negative, needs_next}
use Rattle.cbor_item.proofs.HeadLemmas.{head_is_only}
use Rattle.smithy_cbor.specs.Scalar.{null_value}
use Rattle.smithy_cbor.specs.Reading.{IsHeadFault, IsSimpleHead}

null_initial : (b : ℕ) → kind_of_initial b ≡ Null → b ≡ 0xf6
null_initial b e = grind (arith, nat_tests)

negative_is_not_null : (b next : ℕ) → kind_of_negative b next ≢ Null
negative_is_not_null b next e = grind (arith, nat_tests)

-- a null has one initial byte
pub null_begins : (bytes : List ℕ) → kind_of bytes ≡ Some Null → bytes ≡ 0xf6 ∷ drop 1 bytes
null_begins [] e = absurd (cc)
null_begins (b ∷ []) e = ap (λ x. x ∷ []) (alone (needs_next b) refl e)
  where
    alone : (t : Bool) → needs_next b ≡ t → (if t then None else Some (kind_of_initial b)) ≡ Some Null → b ≡ 0xf6
    alone true needs same = absurd (cc)
    alone false needs same = let type : kind_of_initial b ≡ Null = cc in null_initial b type
null_begins (b ∷ next ∷ rest) e = ap (λ x. x ∷ next ∷ rest) (both (needs_next b) e)
  where
    both : (t : Bool) → Some (if t then kind_of_negative b next else kind_of_initial b) ≡ Some Null → b ≡ 0xf6
    both true same = let type : kind_of_negative b next ≡ Null = cc in absurd (negative_is_not_null b next type)
    both false same = let type : kind_of_initial b ≡ Null = cc in null_initial b type

-- no head but its own begins with that byte
pub null_fault : (input : List ℕ) (at : ℕ) (rest : List ℕ) (e : ItemError) → drop at input ≡ 0xf6 ∷ rest → IsHeadFault (IsSimpleHead null_value) input at e → ⊥
null_fault input at rest Truncated same fault =
    let short : IsCutHead (0xf6 ∷ rest) = subst IsCutHead same fault in cut short
  where
    cut : length rest < 0 → ⊥
    cut short = omega arith
null_fault input at rest NotWellFormed same fault = wrong (subst IsBrokenHead same fault)
  where
    first : (b : ℕ) → b ≡ 0xf6 → b ≡ 0xf8 → ⊥
    first b p q = omega arith

    wrong : IsBrokenHead (0xf6 ∷ rest) → ⊥
    wrong (inl range) = omega arith
    wrong (inr (inl (info, never))) = omega arith
    wrong (inr (inr (k, small, short))) = first 0xf6 refl (ap (λ l. slice_index l 0) short)
null_fault input at rest WrongType same (h, begins, other) =
    let P : List ℕ → Type 0 = λ l. BeginsWithHead l h in
    let only = head_is_only 0xf6 rest h (subst P same begins) in
    other (ap (λ (k : HeadRead). k.major) only, ap (λ (k : HeadRead). k.argument) only, ap (λ (k : HeadRead). k.length) only)
null_fault input at rest InvalidUtf8 same fault = fault
null_fault input at rest NoMemory same fault = fault
