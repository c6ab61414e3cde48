-- The canonical text of a value is the body that is written for it.
use Rattle.std.proofs.Common.{◌≡◌, ℕ, List, [], ◌++◌, Bool, true, false, refl}
use Rattle.smithy_declarations.specs.declared.place.Place.{Place}
use Rattle.smithy_declarations.specs.Table.{Table}
use Rattle.smithy_shapes.specs.Site.{Site, View, member_of}
use Rattle.smithy_declarations.specs.Value.{Value, Values, no_values, value, MapEntries, no_map_entries, map_entry, MemberValues, no_member_values, member_value}
use Rattle.smithy_shapes.specs.Fits.{Fits}
use Rattle.smithy_shapes.proofs.SiteLemmas.{site_at}
use Rattle.smithy_json_codec.specs.Canonical.{key_text, written_form, canonical_json, element_texts, entry_texts, member_texts}
use Rattle.smithy_json.specs.DocumentText.{comma}
use Rattle.smithy_json.specs.ValueTexts.{name_text}
use Rattle.smithy_json_values.specs.Settings.{Settings, name_of}
use Rattle.smithy_wire.specs.Writes.{body_of}
use Rattle.smithy_wire.proofs.CanonicalBody.{Canonical, IsWritten, same_body}
use Rattle.smithy_json_codec.proofs.WrittenDocuments.{document_bytes}
use Rattle.smithy_json_codec.proofs.WrittenLeaves.{json_leaves, scalar_bytes}
use Rattle.smithy_json_codec.proofs.WrittenPlaces.{separator, json_writes}

module _ (c : Settings) where
  abbrev elements : Bool → Site → Values → List ℕ
  elements is_first site vs = element_texts c site (separator is_first) vs

  abbrev entries : Bool → Site → MapEntries → List ℕ
  entries is_first site es = entry_texts c site (separator is_first) es

  abbrev members : Bool → Site → MemberValues → List ℕ
  members is_first site ms = member_texts c site (separator is_first) ms

  abbrev canonical : Canonical
  canonical = record {
    body = canonical_json c;
    elements = elements;
    entries = entries;
    members = members;
    key = λ is_first view. separator is_first ++ key_text c.use_json_name view;
  }

  no_element_is : (is_first : Bool) (site : Site) → elements is_first site no_values ≡ []
  no_element_is true site = refl
  no_element_is false site = refl

  element_is : (is_first : Bool) (site : Site) (v : Value) (vs : Values)
      → elements is_first site (value v vs) ≡ (separator is_first ++ []) ++ (canonical_json c site v ++ element_texts c site comma vs)
  element_is true site v vs = refl
  element_is false site v vs = refl

  no_map_entry_is : (is_first : Bool) (site : Site) → entries is_first site no_map_entries ≡ []
  no_map_entry_is true site = refl
  no_map_entry_is false site = refl

  map_entry_is : (is_first : Bool) (site : Site) (key : List ℕ) (v : Value) (es : MapEntries)
      → entries is_first site (map_entry key v es) ≡ (separator is_first ++ name_text key) ++ (canonical_json c site v ++ entry_texts c site comma es)
  map_entry_is true site key v es = refl
  map_entry_is false site key v es = refl

  no_member_is : (is_first : Bool) (site : Site) → members is_first site no_member_values ≡ []
  no_member_is true site = refl
  no_member_is false site = refl

  member_is : (is_first : Bool) (site : Site) (n : ℕ) (v : Value) (ms : MemberValues)
      → members is_first site (member_value n v ms)
      ≡ (separator is_first ++ key_text c.use_json_name (member_of site n).view) ++ (canonical_json c (member_of site n) v ++ member_texts c site comma ms)
  member_is true site n v ms = refl
  member_is false site n v ms = refl

  is_written : IsWritten json_writes (json_leaves c) (name_of c) canonical
  is_written = record {
    scalar_is = λ s site x. scalar_bytes (written_form c site.place.time) x;
    document_is = λ site d. document_bytes c d;
    null_is = λ site. refl;
    list_is = λ site vs. refl;
    no_element_is = no_element_is;
    element_is = element_is;
    map_is = λ site es. refl;
    no_map_entry_is = no_map_entry_is;
    map_entry_is = map_entry_is;
    union_is = λ site n v. refl;
    structure_is = λ site ms. refl;
    no_member_is = no_member_is;
    member_is = member_is;
    key_is = λ is_first n m. refl;
  }

  pub same_text : (t : Table) (p : Place) (view : View) (v : Value) → Fits t p v
      → canonical_json c (site_at t p view) v ≡ body_of json_writes (json_leaves c) (name_of c) t p v
  same_text t p view v fits = same_body json_writes (json_leaves c) (name_of c) canonical is_written t v p view false fits
