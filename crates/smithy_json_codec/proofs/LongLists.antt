-- A list of whole numbers is written as its canonical text.
use Rattle.std.proofs.Common.{◌≡◌, ℕ, ℤ, List, [], ◌∷◌, ◌++◌, map, Bool, true, Some, Result, Ok, Err, refl, sym, ap, ◌∙◌, append_assoc}
use Rattle.smithy_declarations.specs.Value.{scalar_value, whole, values_of}
use Rattle.smithy_shapes.specs.ScalarTest.{elements_pass}
use Rattle.smithy_shapes.specs.Site.{Site, View, element_of}
use Rattle.smithy_schema.specs.declared.error.SerdeError.{SerdeError}
use Rattle.smithy_schema.specs.Writing.{write, and_run, after_value, begin_list, end_list, count_of, element_events, Open, open_list}
use Rattle.smithy_schema.specs.Written.{list_of_wholes}
use Rattle.smithy_schema.proofs.WritingLemmas.{call_refused}
use Rattle.smithy_json_grammar.specs.Ascii.{begin_array, end_array}
use Rattle.smithy_json_codec.specs.Canonical.{can_write, canonical_json, element_texts}
use Rattle.smithy_json_codec.specs.Writing.{JsonState, comma_text, lead, wrote, opened, where_taken, json_after}
use Rattle.smithy_json_codec.proofs.WritingLemmas.{value_adds}
use Rattle.smithy_json_values.specs.Settings.{Settings}

-- each whole number can be written
wholes_pass : (c : Settings) (site : Site) (ns : List ℤ) → elements_pass (can_write c) site (values_of (map (λ n. scalar_value (whole n)) ns)) ≡ true
wholes_pass c site [] = refl
wholes_pass c site (n ∷ ns) = wholes_pass c site ns

-- the list is one value, whose text this is
pub list_written : (s : JsonState) (site : Site) (ns : List ℤ)
    → write json_after site (list_of_wholes ns) s ≡ where_taken (wrote s site.view (canonical_json s.settings site (list_of_wholes ns))) (after_value s.frames)
list_written s site ns = by (after_value s.frames) refl
  where
    by : (taken : Result (List Open) SerdeError) → after_value s.frames ≡ taken
        → write json_after site (list_of_wholes ns) s ≡ where_taken (wrote s site.view (canonical_json s.settings site (list_of_wholes ns))) (after_value s.frames)
    by (Ok after) is =
        value_adds site (list_of_wholes ns) s.settings s.out s.needs_comma s.frames after (wholes_pass s.settings (element_of site) ns) is
        ∙ sym (ap (where_taken (wrote s site.view (canonical_json s.settings site (list_of_wholes ns)))) is)
    by (Err e) is =
        let values = values_of (map (λ n. scalar_value (whole n)) ns) in
        let begins = begin_list site (Some (count_of values)) in
        call_refused json_after begins (element_events (element_of site) values ++ end_list ∷ []) s e
        (ap (λ (r : Result (List Open) SerdeError). where_taken (opened s site.view begin_array) (and_run (λ (outer : List Open). Ok (open_list ∷ outer)) r)) is)
        ∙ sym (ap (where_taken (wrote s site.view (canonical_json s.settings site (list_of_wholes ns)))) is)

-- the state behind it
pub wrote_is : (s : JsonState) (view : View) (bytes o : List ℕ) (after : List Open) (held : Settings) → held ≡ s.settings → o ≡ (s.out ++ lead s view) ++ bytes
    → wrote s view bytes after ≡ record { settings = held; out = o; needs_comma = true; frames = after }
wrote_is s view bytes o after held same is =
    ap (λ (x : List ℕ). record { settings = s.settings; out = x; needs_comma = true; frames = after }) (sym (is ∙ append_assoc s.out (lead s view) bytes))
    ∙ ap (λ (c : Settings). record { settings = c; out = o; needs_comma = true; frames = after }) (sym same)

-- the text of what is left of a list
abbrev pub texts_left : Settings → Site → Bool → List ℤ → List ℕ
texts_left c site needs_comma ns = element_texts c (element_of site) (comma_text needs_comma) (values_of (map (λ n. scalar_value (whole n)) ns)) ++ end_array ∷ []

-- what is left of the text once a number has come
pub next_text : (out parting text rest ending : List ℕ) → out ++ ((parting ++ (text ++ rest)) ++ ending) ≡ ((out ++ parting) ++ text) ++ (rest ++ ending)
next_text out parting text rest ending = simp append_assoc
