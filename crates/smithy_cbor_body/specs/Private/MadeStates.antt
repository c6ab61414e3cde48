-- What a call makes of the open containers and of the bytes.
use Rattle.std.specs.Prelude.{◌≡◌, ℕ, List, [], ◌++◌, None, Result, Ok, Err, refl}
use Rattle.std.proofs.Common.{sym, ◌∙◌, ap}
use Rattle.std.proofs.lemmas.List.{append-nil}
use Rattle.smithy_schema.specs.declared.error.SerdeError.{SerdeError}
use Rattle.smithy_schema.specs.Writing.{Event, begin_structure, end_structure, begin_list, end_list, begin_map, end_map, null_of, scalar_of, big_integer_of, big_decimal_of, document_of, Open}
use Rattle.cbor_item.specs.Head.{shortest_head}
use Rattle.smithy_cbor.specs.Scalar.{null_value}
use Rattle.smithy_cbor.specs.Written.{big_integer_bytes, decimal_fraction_bytes}
use Rattle.smithy_texts.specs.Numeral.{number}
use Rattle.smithy_texts.specs.Decimal.{mantissa, net_exponent}
use Rattle.smithy_cbor_body.specs.Canonical.{scalar_bytes}
use Rattle.smithy_cbor_body.specs.Lengths.{written_length, head_of, ending}
use Rattle.smithy_cbor_body.specs.Writing.{BodyState, lead, made, where_taken}

-- a state that a call makes has the open containers that the call is told of
made_frames : (e : Event) (s : BodyState) (frames : List Open) → (made e s frames).frames ≡ frames
made_frames (begin_structure site) s frames = refl
made_frames end_structure s frames = refl
made_frames (begin_list site length) s frames = refl
made_frames end_list s frames = refl
made_frames (begin_map site length) s frames = refl
made_frames end_map s frames = refl
made_frames (null_of site) s frames = refl
made_frames (scalar_of site x) s frames = refl
made_frames (big_integer_of site written) s frames = refl
made_frames (big_decimal_of site written) s frames = refl
made_frames (document_of site d) s frames = refl

-- the bytes of a state that a call makes begin with the bytes before the call
made_grows : (e : Event) (s : BodyState) (frames : List Open) → (more : List ℕ) × ((made e s frames).out ≡ s.out ++ more)
made_grows (begin_structure site) s frames = (lead s site.view ++ head_of 5 None, refl)
made_grows end_structure s frames = (ending s.lengths, refl)
made_grows (begin_list site length) s frames = (lead s site.view ++ head_of 4 (written_length s.settings length), refl)
made_grows end_list s frames = (ending s.lengths, refl)
made_grows (begin_map site length) s frames = (lead s site.view ++ head_of 5 (written_length s.settings length), refl)
made_grows end_map s frames = (ending s.lengths, refl)
made_grows (null_of site) s frames = (lead s site.view ++ shortest_head 7 null_value, refl)
made_grows (scalar_of site x) s frames = (lead s site.view ++ scalar_bytes x, refl)
made_grows (big_integer_of site written) s frames = (lead s site.view ++ big_integer_bytes (number written), refl)
made_grows (big_decimal_of site written) s frames = (lead s site.view ++ decimal_fraction_bytes (net_exponent written) (mantissa written), refl)
made_grows (document_of site d) s frames = ([], sym (append-nil s.out))

-- where a call is taken, the state that it makes has the open containers that the call is told of
pub taken_frames : (e : Event) (s t : BodyState) (frames : Result (List Open) SerdeError) → where_taken (made e s) frames ≡ Ok t → frames ≡ Ok t.frames
taken_frames e s t (Ok frames) h = let is : made e s frames ≡ t = cc in ap Ok (sym (made_frames e s frames) ∙ ap (λ (x : BodyState). x.frames) is)
taken_frames e s t (Err error) h = absurd (let no : ◌≡◌ {A = Result BodyState SerdeError} (Err error) (Ok t) = h in cc)

-- where a call is taken, the bytes of the state that it makes begin with the bytes before the call
pub taken_grows : (e : Event) (s t : BodyState) (frames : Result (List Open) SerdeError) → where_taken (made e s) frames ≡ Ok t → (more : List ℕ) × (t.out ≡ s.out ++ more)
taken_grows e s t (Ok frames) h =
    let is : t ≡ made e s frames = cc in
    let more = made_grows e s frames in
    (more.0, ap (λ (x : BodyState). x.out) is ∙ more.1)
taken_grows e s t (Err error) h = absurd (let no : ◌≡◌ {A = Result BodyState SerdeError} (Err error) (Ok t) = h in cc)
