-- What a call makes of the open containers and of the text.
use Rattle.std.specs.Prelude.{◌≡◌, ℕ, List, [], ◌∷◌, ◌++◌, Bool, true, false, Result, Ok, Err, refl}
use Rattle.std.proofs.Common.{sym, ◌∙◌, ap}
use Rattle.std.proofs.lemmas.List.{append-nil}
use Rattle.smithy_schema.specs.declared.error.SerdeError.{SerdeError}
use Rattle.smithy_schema.specs.declared.error.SerdeError.TheVariants.{Unwritable}
use Rattle.smithy_schema.specs.Writing.{Event, begin_structure, end_structure, begin_list, end_list, begin_map, end_map, null_of, scalar_of, big_integer_of, big_decimal_of, document_of, Open}
use Rattle.smithy_query.specs.Form.{pair_text}
use Rattle.smithy_query_codec.specs.Leaves.{scalar_text, form_at}
use Rattle.smithy_query_codec.specs.Writing.{Mark, QueryState, child_prefix, closed, empty_leaf, made, allowed, where_taken, where_supported}

closed_opens : (s : QueryState) (marks : List Mark) (opens : List Open) → (closed s marks opens).opens ≡ opens
closed_opens s [] opens = refl
closed_opens s (m ∷ marks) opens = refl

closed_out : (s : QueryState) (marks : List Mark) (opens : List Open) → (closed s marks opens).out ≡ s.out
closed_out s [] opens = refl
closed_out s (m ∷ marks) opens = refl

-- a state that a call makes has the open containers that the call is told of
made_opens : (e : Event) (s : QueryState) (opens : List Open) → (made e s opens).opens ≡ opens
made_opens (begin_structure site) s opens = refl
made_opens end_structure s opens = closed_opens s s.marks opens
made_opens (begin_list site length) s opens = refl
made_opens end_list s opens = closed_opens (record s { out = s.out ++ empty_leaf s s.marks }) s.marks opens
made_opens (begin_map site length) s opens = refl
made_opens end_map s opens = closed_opens s s.marks opens
made_opens (null_of site) s opens = refl
made_opens (scalar_of site x) s opens = refl
made_opens (big_integer_of site written) s opens = refl
made_opens (big_decimal_of site written) s opens = refl
made_opens (document_of site d) s opens = refl

-- the text of a state that a call makes begins with the text before the call
made_grows : (e : Event) (s : QueryState) (opens : List Open) → (more : List ℕ) × ((made e s opens).out ≡ s.out ++ more)
made_grows (begin_structure site) s opens = ([], sym (append-nil s.out))
made_grows end_structure s opens = ([], closed_out s s.marks opens ∙ sym (append-nil s.out))
made_grows (begin_list site length) s opens = ([], sym (append-nil s.out))
made_grows end_list s opens = (empty_leaf s s.marks, closed_out (record s { out = s.out ++ empty_leaf s s.marks }) s.marks opens)
made_grows (begin_map site length) s opens = ([], sym (append-nil s.out))
made_grows end_map s opens = ([], closed_out s s.marks opens ∙ sym (append-nil s.out))
made_grows (null_of site) s opens = ([], sym (append-nil s.out))
made_grows (scalar_of site x) s opens = (pair_text (child_prefix s site.view) (scalar_text (form_at site) x), refl)
made_grows (big_integer_of site written) s opens = (pair_text (child_prefix s site.view) written, refl)
made_grows (big_decimal_of site written) s opens = (pair_text (child_prefix s site.view) written, refl)
made_grows (document_of site d) s opens = ([], sym (append-nil s.out))

-- where a call is taken, the state that it makes has the open containers that the call is told of
pub taken_opens : (e : Event) (s t : QueryState) (can : Bool) (opens : Result (List Open) SerdeError)
    → where_taken (made e s) (allowed can opens) ≡ Ok t → opens ≡ Ok t.opens
taken_opens e s t true (Ok opens) h =
    let is : made e s opens ≡ t = cc in ap Ok (sym (made_opens e s opens) ∙ ap (λ (x : QueryState). x.opens) is)
taken_opens e s t true (Err error) h = absurd (let no : ◌≡◌ {A = Result QueryState SerdeError} (Err error) (Ok t) = h in cc)
taken_opens e s t false opens h = absurd (let no : ◌≡◌ {A = Result QueryState SerdeError} (Err Unwritable) (Ok t) = h in cc)

-- where a call is taken, the text of the state that it makes begins with the text before the call
pub taken_grows : (e : Event) (s t : QueryState) (can : Bool) (opens : Result (List Open) SerdeError)
    → where_taken (made e s) (allowed can opens) ≡ Ok t → (more : List ℕ) × (t.out ≡ s.out ++ more)
taken_grows e s t true (Ok opens) h =
    let is : t ≡ made e s opens = cc in
    let more = made_grows e s opens in
    (more.0, ap (λ (x : QueryState). x.out) is ∙ more.1)
taken_grows e s t true (Err error) h = absurd (let no : ◌≡◌ {A = Result QueryState SerdeError} (Err error) (Ok t) = h in cc)
taken_grows e s t false opens h = absurd (let no : ◌≡◌ {A = Result QueryState SerdeError} (Err Unwritable) (Ok t) = h in cc)

-- a call that no serializer takes is refused as `Unwritable`
pub not_taken : (e : Event) (s : QueryState) (can : Bool) (opens : Result (List Open) SerdeError)
    → opens ≡ Err Unwritable → where_taken (made e s) (allowed can opens) ≡ Err Unwritable
not_taken e s true opens h = ap (where_taken (made e s)) h
not_taken e s false opens h = refl

-- what is written is what is made, and what no serializer takes is refused so
pub was_supported : (b : Bool) (r : Result QueryState SerdeError) (t : QueryState) → where_supported b r ≡ Ok t → r ≡ Ok t
was_supported true r t h = h
was_supported false (Ok s) t h = cc
was_supported false (Err e) t h = cc

pub supported_or_not : (b : Bool) (r : Result QueryState SerdeError) → r ≡ Err Unwritable → where_supported b r ≡ Err Unwritable
supported_or_not true r h = h
supported_or_not false (Ok s) h = cc
supported_or_not false (Err e) h = cc
