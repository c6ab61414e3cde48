-- A list of whole numbers is written as its canonical encoding.
use Rattle.std.proofs.Common.{◌≡◌, ℕ, ℤ, List, [], ◌∷◌, ◌++◌, length, map, true, Option, Some, None, Result, Ok, Err, refl, ap, sym, ◌∙◌, append_assoc}
use Rattle.smithy_declarations.specs.Value.{scalar_value, whole, values_of}
use Rattle.smithy_shapes.specs.ScalarTest.{elements_pass}
use Rattle.smithy_shapes.specs.Site.{Site, element_of}
use Rattle.smithy_schema.specs.declared.error.SerdeError.{SerdeError}
use Rattle.smithy_schema.specs.Writing.{write, and_run, after_value, begin_list, end_list, count_of, element_events, Open, open_list}
use Rattle.smithy_schema.specs.Written.{list_of_wholes}
use Rattle.smithy_schema.proofs.WrittenLists.{count-elements, told}
use Rattle.smithy_schema.proofs.WritingLemmas.{call_refused}
use Rattle.smithy_cbor_body.specs.Canonical.{cbor_holds, canonical_cbor}
use Rattle.smithy_cbor_body.specs.Lengths.{begun, end_of, ending_of, told_length, written_length}
use Rattle.smithy_cbor_body.specs.Writing.{BodyState, wrote, opened, where_taken, where_writable, where_in_width, where_supported, body_after}
use Rattle.smithy_cbor_values.specs.Settings.{Settings}
use Rattle.smithy_cbor_body.proofs.WritingLemmas.{value_adds}

-- CBOR holds each whole number
wholes_pass : (site : Site) (ns : List ℤ) → elements_pass cbor_holds site (values_of (map (λ n. scalar_value (whole n)) ns)) ≡ true
wholes_pass site [] = refl
wholes_pass site (n ∷ ns) = wholes_pass site ns

-- the list is one value, whose encoding this is
pub list_written : (s : BodyState) (site : Site) (ns : List ℤ)
    → write body_after site (list_of_wholes ns) s ≡ where_taken (wrote s site.view (canonical_cbor s.settings.use_definite_lengths site (list_of_wholes ns))) (after_value s.frames)
list_written s site ns = by (after_value s.frames) refl
  where
    by : (taken : Result (List Open) SerdeError) → after_value s.frames ≡ taken
        → write body_after site (list_of_wholes ns) s ≡ where_taken (wrote s site.view (canonical_cbor s.settings.use_definite_lengths site (list_of_wholes ns))) (after_value s.frames)
    by (Ok after) is =
        value_adds s.settings s.settings.use_definite_lengths refl site (list_of_wholes ns) s.out s.frames after s.lengths (wholes_pass (element_of site) ns) is
        ∙ sym (ap (where_taken (wrote s site.view (canonical_cbor s.settings.use_definite_lengths site (list_of_wholes ns)))) is)
    by (Err e) is =
        let values = values_of (map (λ n. scalar_value (whole n)) ns) in
        let length = Some (count_of values) in
        call_refused body_after (begin_list site length) (element_events (element_of site) values ++ end_list ∷ []) s e
        (ap (λ (r : Result (List Open) SerdeError). where_supported true (where_in_width true (where_writable true (where_taken (opened s site.view 4 (written_length s.settings length)) (and_run (λ (outer : List Open). Ok (open_list ∷ outer)) r))))) is)
        ∙ sym (ap (where_taken (wrote s site.view (canonical_cbor s.settings.use_definite_lengths site (list_of_wholes ns)))) is)

-- what ends a container of which nothing has come yet
pub ends_so : (length : Option ℕ) → end_of (begun length) ≡ ending_of length
ends_so None = refl
ends_so (Some n) = refl

-- the head, what is inside and the end are the container
pub whole_container : (out head inside : List ℕ) (length : Option ℕ) → ((out ++ head) ++ inside) ++ end_of (begun length) ≡ out ++ (head ++ (inside ++ ending_of length))
whole_container out head inside length = ap (λ e. ((out ++ head) ++ inside) ++ e) (ends_so length) ∙ grouped out head inside (ending_of length)
  where
    grouped : (o h i e : List ℕ) → ((o ++ h) ++ i) ++ e ≡ o ++ (h ++ (i ++ e))
    grouped o h i e = simp append_assoc

-- the length that is written is that of the list, where one is
pub list_length : (c : Settings) (ns : List ℤ) (n : ℕ) → n ≡ length ns → written_length c (Some n) ≡ told_length c.use_definite_lengths (count_of (values_of (map (λ n. scalar_value (whole n)) ns)))
list_length c ns n is =
    ap (λ k. told_length c.use_definite_lengths k) (is ∙ told (λ n. scalar_value (whole n)) ns ∙ sym (count-elements (map (λ n. scalar_value (whole n)) ns)))
