-- A serializer without a prefix writes what its body writes.
use Rattle.std.proofs.Common.{◌≡◌, List, [], ◌∷◌, Result, Ok, Err, refl, ap, ◌∙◌}
use Rattle.std.proofs.lemmas.List.{append-nil}
use Rattle.smithy_schema.specs.declared.error.SerdeError.{SerdeError}
use Rattle.smithy_schema.specs.Writing.{Event, begin_structure, end_structure, begin_list, end_list, begin_map, end_map, null_of, scalar_of, big_integer_of, big_decimal_of, document_of, and_run, run}
use Rattle.smithy_cbor_body.specs.Prefixes.{no_prefix, CborState, behind, with_prefix, cbor_after}
use Rattle.smithy_cbor_body.specs.Writing.{BodyState, body_after}

abbrev plain : BodyState → CborState
plain s = record { body = s; prefix = no_prefix }

nothing_behind : (r : Result BodyState SerdeError) → with_prefix no_prefix (and_run (behind (Ok [])) r) ≡ with_prefix no_prefix r
nothing_behind (Ok t) = ap (λ out. Ok (plain (record t { out = out }))) (append-nil t.out)
nothing_behind (Err e) = refl

one_call : (e : Event) (s : BodyState) → cbor_after e (plain s) ≡ with_prefix no_prefix (body_after e s)
one_call (begin_structure site) s = nothing_behind (body_after (begin_structure site) s)
one_call end_structure s = refl
one_call (begin_list site n) s = refl
one_call end_list s = refl
one_call (begin_map site n) s = refl
one_call end_map s = refl
one_call (null_of site) s = refl
one_call (scalar_of site x) s = refl
one_call (big_integer_of site x) s = refl
one_call (big_decimal_of site x) s = refl
one_call (document_of site d) s = refl

goes_on : (es : List Event) (r : Result BodyState SerdeError) → ((t : BodyState) → run cbor_after es (plain t) ≡ with_prefix no_prefix (run body_after es t))
    → and_run (run cbor_after es) (with_prefix no_prefix r) ≡ with_prefix no_prefix (and_run (run body_after es) r)
goes_on es (Ok t) others = others t
goes_on es (Err e) others = refl

-- calls make of a serializer without a prefix what they make of its body
pub unprefixed : (es : List Event) (s : BodyState) → run cbor_after es (record { body = s; prefix = no_prefix }) ≡ with_prefix no_prefix (run body_after es s)
unprefixed [] s = refl
unprefixed (e ∷ es) s = ap (and_run (run cbor_after es)) (one_call e s) ∙ goes_on es (body_after e s) (λ t. unprefixed es t)
