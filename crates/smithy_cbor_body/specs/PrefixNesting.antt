-- The calls of a serializer with a prefix nest, and its bytes grow.
use Rattle.cbor_item.specs.Item.{no_pairs}
use Rattle.std.specs.Prelude.{◌≡◌, List, [], ℕ, ◌++◌, Result, Ok, Err, refl}
use Rattle.std.proofs.Common.{sym, ◌∙◌, ap, append_assoc}
use Rattle.smithy_schema.specs.declared.error.SerdeError.{SerdeError}
use Rattle.smithy_schema.specs.declared.error.SerdeError.TheVariants.{Unwritable}
use Rattle.smithy_schema.specs.Writing.{Event, begin_structure, end_structure, begin_list, end_list, begin_map, end_map, null_of, scalar_of, big_integer_of, big_decimal_of, document_of, IsNested, open_after, and_run}
use Rattle.smithy_shapes.specs.Site.{Site}
use Rattle.smithy_cbor_body.specs.Nesting.{body_nests, body_grows}
use Rattle.smithy_cbor_body.specs.Prefixes.{Prefix, AreEntries, CborState, behind, with_prefix, cbor_after}
use Rattle.smithy_cbor_body.specs.Writing.{BodyState, body_after}

-- no bytes are no entries
pub nothing_is_entries : AreEntries (Ok [])
nothing_is_entries = (no_pairs, refl)

-- what is made with a prefix is what is made of the body
body_made : (p : Prefix) (r : Result BodyState SerdeError) (t : CborState) → with_prefix p r ≡ Ok t → r ≡ Ok t.body
body_made p (Ok s) t h = let is : ◌≡◌ {A = CborState} (record { body = s; prefix = p }) t = cc in ap (λ (x : CborState). Ok x.body) is
body_made p (Err e) t h = absurd (let no : ◌≡◌ {A = Result CborState SerdeError} (Err e) (Ok t) = h in cc)

-- what a structure begins with is made of the body, with bytes behind it
prefix_made : (r : Result (List ℕ) SerdeError) (s t : BodyState) → behind r s ≡ Ok t → (t.frames ≡ s.frames) × ((more : List ℕ) × (t.out ≡ s.out ++ more))
prefix_made (Ok bytes) s t h =
    let is : ◌≡◌ {A = BodyState} t (record s { out = s.out ++ bytes }) = cc in
    (ap (λ (x : BodyState). x.frames) is, (bytes, ap (λ (x : BodyState). x.out) is))
prefix_made (Err e) s t h = absurd (let no : ◌≡◌ {A = Result BodyState SerdeError} (Err e) (Ok t) = h in cc)

begun : (r : Result (List ℕ) SerdeError) (made : Result BodyState SerdeError) (t : BodyState) → and_run (behind r) made ≡ Ok t → (s : BodyState) × (made ≡ Ok s) × (behind r s ≡ Ok t)
begun r (Ok s) t h = (s, refl, h)
begun r (Err e) t h = absurd (let no : ◌≡◌ {A = Result BodyState SerdeError} (Err e) (Ok t) = h in cc)

structure_begun : (site : Site) (s t : CborState) → cbor_after (begin_structure site) s ≡ Ok t
    → (u : BodyState) × (body_after (begin_structure site) s.body ≡ Ok u) × (t.body.frames ≡ u.frames) × ((more : List ℕ) × (t.body.out ≡ u.out ++ more))
structure_begun site s t h =
    let made = begun (s.prefix site) (body_after (begin_structure site) s.body) t.body (body_made s.prefix (and_run (behind (s.prefix site)) (body_after (begin_structure site) s.body)) t h) in
    let behind_it = prefix_made (s.prefix site) made.0 t.body made.2 in
    (made.0, made.1, behind_it.0, behind_it.1)

-- the open containers are those of any serializer
goes : (e : Event) (s t : CborState) → cbor_after e s ≡ Ok t → open_after e s.body.frames ≡ Ok t.body.frames
goes (begin_structure site) s t h =
    let u = structure_begun site s t h in body_nests.goes (begin_structure site) s.body u.0 u.1 ∙ ap Ok (sym u.2)
goes end_structure s t h = body_nests.goes end_structure s.body t.body (body_made s.prefix (body_after end_structure s.body) t h)
goes (begin_list site n) s t h = body_nests.goes (begin_list site n) s.body t.body (body_made s.prefix (body_after (begin_list site n) s.body) t h)
goes end_list s t h = body_nests.goes end_list s.body t.body (body_made s.prefix (body_after end_list s.body) t h)
goes (begin_map site n) s t h = body_nests.goes (begin_map site n) s.body t.body (body_made s.prefix (body_after (begin_map site n) s.body) t h)
goes end_map s t h = body_nests.goes end_map s.body t.body (body_made s.prefix (body_after end_map s.body) t h)
goes (null_of site) s t h = body_nests.goes (null_of site) s.body t.body (body_made s.prefix (body_after (null_of site) s.body) t h)
goes (scalar_of site x) s t h = body_nests.goes (scalar_of site x) s.body t.body (body_made s.prefix (body_after (scalar_of site x) s.body) t h)
goes (big_integer_of site x) s t h = body_nests.goes (big_integer_of site x) s.body t.body (body_made s.prefix (body_after (big_integer_of site x) s.body) t h)
goes (big_decimal_of site x) s t h = body_nests.goes (big_decimal_of site x) s.body t.body (body_made s.prefix (body_after (big_decimal_of site x) s.body) t h)
goes (document_of site d) s t h = body_nests.goes (document_of site d) s.body t.body (body_made s.prefix (body_after (document_of site d) s.body) t h)

-- and where none takes a call this one refuses it
stops : (e : Event) (s : CborState) → open_after e s.body.frames ≡ Err Unwritable → cbor_after e s ≡ Err Unwritable
stops (begin_structure site) s h = ap (λ r. with_prefix s.prefix (and_run (behind (s.prefix site)) r)) (body_nests.stops (begin_structure site) s.body h)
stops end_structure s h = ap (with_prefix s.prefix) (body_nests.stops end_structure s.body h)
stops (begin_list site n) s h = ap (with_prefix s.prefix) (body_nests.stops (begin_list site n) s.body h)
stops end_list s h = ap (with_prefix s.prefix) (body_nests.stops end_list s.body h)
stops (begin_map site n) s h = ap (with_prefix s.prefix) (body_nests.stops (begin_map site n) s.body h)
stops end_map s h = ap (with_prefix s.prefix) (body_nests.stops end_map s.body h)
stops (null_of site) s h = ap (with_prefix s.prefix) (body_nests.stops (null_of site) s.body h)
stops (scalar_of site x) s h = ap (with_prefix s.prefix) (body_nests.stops (scalar_of site x) s.body h)
stops (big_integer_of site x) s h = ap (with_prefix s.prefix) (body_nests.stops (big_integer_of site x) s.body h)
stops (big_decimal_of site x) s h = ap (with_prefix s.prefix) (body_nests.stops (big_decimal_of site x) s.body h)
stops (document_of site d) s h = ap (with_prefix s.prefix) (body_nests.stops (document_of site d) s.body h)

pub cbor_nests : IsNested cbor_after (λ (s : CborState). s.body.frames)
cbor_nests = record { goes = goes; stops = stops }

-- no call takes back a byte
pub cbor_grows : (e : Event) (s t : CborState) → cbor_after e s ≡ Ok t → (more : List ℕ) × (t.body.out ≡ s.body.out ++ more)
cbor_grows (begin_structure site) s t h =
    let u = structure_begun site s t h in
    let first = body_grows (begin_structure site) s.body u.0 u.1 in
    (first.0 ++ u.3.0, u.3.1 ∙ (ap (λ x. x ++ u.3.0) first.1 ∙ append_assoc s.body.out first.0 u.3.0))
cbor_grows end_structure s t h = body_grows end_structure s.body t.body (body_made s.prefix (body_after end_structure s.body) t h)
cbor_grows (begin_list site n) s t h = body_grows (begin_list site n) s.body t.body (body_made s.prefix (body_after (begin_list site n) s.body) t h)
cbor_grows end_list s t h = body_grows end_list s.body t.body (body_made s.prefix (body_after end_list s.body) t h)
cbor_grows (begin_map site n) s t h = body_grows (begin_map site n) s.body t.body (body_made s.prefix (body_after (begin_map site n) s.body) t h)
cbor_grows end_map s t h = body_grows end_map s.body t.body (body_made s.prefix (body_after end_map s.body) t h)
cbor_grows (null_of site) s t h = body_grows (null_of site) s.body t.body (body_made s.prefix (body_after (null_of site) s.body) t h)
cbor_grows (scalar_of site x) s t h = body_grows (scalar_of site x) s.body t.body (body_made s.prefix (body_after (scalar_of site x) s.body) t h)
cbor_grows (big_integer_of site x) s t h = body_grows (big_integer_of site x) s.body t.body (body_made s.prefix (body_after (big_integer_of site x) s.body) t h)
cbor_grows (big_decimal_of site x) s t h = body_grows (big_decimal_of site x) s.body t.body (body_made s.prefix (body_after (big_decimal_of site x) s.body) t h)
cbor_grows (document_of site d) s t h = body_grows (document_of site d) s.body t.body (body_made s.prefix (body_after (document_of site d) s.body) t h)
