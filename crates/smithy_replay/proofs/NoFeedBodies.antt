-- No answer to a line has a line feed.
use Rattle.std.proofs.Common.{ℕ, List, [], ◌∷◌, ◌++◌, Bool, true, false, unwrap_or, codes, decimal as decimal_digits, if◌then◌else◌, refl}
use Rattle.smithy_declarations.specs.declared.shape_type.TimestampFormat.{TimestampFormat}
use Rattle.smithy_declarations.specs.declared.shape_type.TimestampFormat.TheVariants.{EpochSeconds, DateTime, HttpDate}
use Rattle.smithy_declarations.specs.Table.{Table, shape_place}
use Rattle.smithy_declarations.specs.TimeForms.{format_of}
use Rattle.smithy_instants.specs.WrittenDate.{date_text}
use Rattle.smithy_declarations.specs.Value.{ScalarValue, boolean, whole, text, bytes, decimal, instant, Value, scalar_value, list, map, structure, union, null_element, document_value, Values, no_values, value, MapEntries, no_map_entries, map_entry, MemberValues, no_member_values, member_value}
use Rattle.smithy_shapes.specs.Accepted.{IsAccepted}
use Rattle.smithy_shapes.specs.Fits.{Fits}
use Rattle.smithy_shapes.specs.Site.{Site, View, whole_view, shape_site, element_of, value_of, member_of}
use Rattle.smithy_texts.specs.Base64Text.{blob_text}
use Rattle.smithy_json_grammar.specs.Ascii.{quotation_mark, begin_array, end_array, begin_object, end_object}
use Rattle.smithy_json.specs.DocumentText.{comma}
use Rattle.smithy_json.specs.ValueTexts.{name_text}
use Rattle.smithy_json_values.specs.Settings.{Settings}
use Rattle.smithy_json_values.specs.Codec.{strict_settings}
use Rattle.smithy_json_codec.specs.Canonical.{written_form, scalar_text, key_text, canonical_json, element_texts, entry_texts, member_texts}
use Rattle.smithy_transcode.specs.declared.wire.TranscodeError.{TranscodeError}
use Rattle.smithy_transcode.specs.declared.wire.TranscodeError.TheVariants.{InvalidInput, TooDeep, TooWide, NotCarried, Inexpressible, NoMemory}
use Rattle.smithy_transcode.specs.declared.wire.Unfit.TheVariants.{Document, Null, Instant}
use Rattle.smithy_transcode.specs.Wires.{Wire, json, cbor, query}
use Rattle.smithy_transcode.specs.Spelling.{body}
use Rattle.smithy_lines.specs.Lines.{HasNoFeed}
use Rattle.smithy_replay.specs.LineBodies.{line_of}
use Rattle.smithy_replay.specs.Replayed.{front, refusal_text}
use Rattle.smithy_replay.proofs.NoFeedTexts.{nothing, one_more, joined, closed, tested, of_option, of_decimal, of_signed, of_decimal_text, of_epoch, of_blob, of_quoted, of_name, of_comma, of_document}
use Rattle.smithy_replay.proofs.NoFeedForms.{of_form}

-- ---- bodies of JSON

of_scalar : (form : TimestampFormat) (x : ScalarValue) → HasNoFeed (scalar_text form x)
of_scalar form (boolean true) = tested (codes "true") refl
of_scalar form (boolean false) = tested (codes "false") refl
of_scalar form (whole n) = of_signed n
of_scalar form (text s) = of_quoted s
of_scalar form (decimal m e) = of_decimal_text m e
of_scalar form (bytes b) = one_more quotation_mark (blob_text b ++ quotation_mark ∷ []) refl (closed (blob_text b) quotation_mark refl (of_blob b))
of_scalar EpochSeconds (instant n) = of_epoch n
of_scalar DateTime (instant n) = of_quoted (unwrap_or (date_text (format_of DateTime) n) [])
of_scalar HttpDate (instant n) = of_quoted (unwrap_or (date_text (format_of HttpDate) n) [])

of_key : (use_json_name : Bool) (view : View) → HasNoFeed (key_text use_json_name view)
of_key use_json_name view =
    of_option (λ name. name_text (if use_json_name then unwrap_or view.json_name name else name)) (λ name. of_name (if use_json_name then unwrap_or view.json_name name else name)) view.name

module _ (c : Settings) where
  mutual
    of_json : (site : Site) (v : Value) → HasNoFeed (canonical_json c site v)
    of_json site (scalar_value x) = of_scalar (written_form c site.place.time) x
    of_json site null_element = tested (codes "null") refl
    of_json site (document_value d) = of_document d
    of_json site (list vs) =
        let inside = element_texts c (element_of site) [] vs in one_more begin_array (inside ++ end_array ∷ []) refl (closed inside end_array refl (of_elements (element_of site) [] vs nothing))
    of_json site (map es) =
        let inside = entry_texts c (value_of site) [] es in one_more begin_object (inside ++ end_object ∷ []) refl (closed inside end_object refl (of_entries (value_of site) [] es nothing))
    of_json site (structure ms) =
        let inside = member_texts c site [] ms in one_more begin_object (inside ++ end_object ∷ []) refl (closed inside end_object refl (of_members site [] ms nothing))
    of_json site (union n v) =
        let inside = canonical_json c (member_of site n) v in
        let key = key_text c.use_json_name (member_of site n).view in
        one_more begin_object (key ++ (inside ++ end_object ∷ [])) refl
        (joined key (inside ++ end_object ∷ []) (of_key c.use_json_name (member_of site n).view) (closed inside end_object refl (of_json (member_of site n) v)))

    of_elements : (site : Site) (parting : List ℕ) (vs : Values) → HasNoFeed parting → HasNoFeed (element_texts c site parting vs)
    of_elements site parting no_values clear = nothing
    of_elements site parting (value v vs) clear =
        joined parting (canonical_json c site v ++ element_texts c site comma vs) clear
        (joined (canonical_json c site v) (element_texts c site comma vs) (of_json site v) (of_elements site comma vs of_comma))

    of_entries : (site : Site) (parting : List ℕ) (es : MapEntries) → HasNoFeed parting → HasNoFeed (entry_texts c site parting es)
    of_entries site parting no_map_entries clear = nothing
    of_entries site parting (map_entry key v es) clear =
        joined parting (name_text key ++ (canonical_json c site v ++ entry_texts c site comma es)) clear
        (joined (name_text key) (canonical_json c site v ++ entry_texts c site comma es) (of_name key)
        (joined (canonical_json c site v) (entry_texts c site comma es) (of_json site v) (of_entries site comma es of_comma)))

    of_members : (site : Site) (parting : List ℕ) (ms : MemberValues) → HasNoFeed parting → HasNoFeed (member_texts c site parting ms)
    of_members site parting no_member_values clear = nothing
    of_members site parting (member_value n v ms) clear =
        let key = key_text c.use_json_name (member_of site n).view in
        let inner = canonical_json c (member_of site n) v in
        joined parting (key ++ (inner ++ member_texts c site comma ms)) clear
        (joined key (inner ++ member_texts c site comma ms) (of_key c.use_json_name (member_of site n).view)
        (joined inner (member_texts c site comma ms) (of_json (member_of site n) v) (of_members site comma ms of_comma)))

-- ---- lines

-- the line of a value's body
pub of_body : (to : Wire) (t : Table) (root : ℕ) (v : Value) → IsAccepted t → Fits t (shape_place root) v → HasNoFeed (line_of to (body to t root v))
of_body (json use_json_name integral) t root v accepted fits = of_json (strict_settings use_json_name) (shape_site t root) v
of_body (cbor definite_lengths) t root v accepted fits = of_blob (body (cbor definite_lengths) t root v)
of_body (query action version) t root v accepted fits = of_form t accepted (shape_place root) whole_view v action version fits

of_front : (numbered : Bool) (n : ℕ) (refused : Bool) → HasNoFeed (front numbered n refused)
of_front true n false = joined (decimal_digits n) (codes " POST / ") (of_decimal n) (tested (codes " POST / ") refl)
of_front true n true = joined (decimal_digits n) (codes " ") (of_decimal n) (tested (codes " ") refl)
of_front false n refused = nothing

of_refusal_text : (e : TranscodeError) → HasNoFeed (refusal_text e)
of_refusal_text InvalidInput = tested (codes "invalid input") refl
of_refusal_text TooDeep = tested (codes "too deep") refl
of_refusal_text TooWide = tested (codes "number too wide") refl
of_refusal_text NotCarried = tested (codes "not carried") refl
of_refusal_text (Inexpressible Document) = tested (codes "document not expressible") refl
of_refusal_text (Inexpressible Null) = tested (codes "null not expressible") refl
of_refusal_text (Inexpressible Instant) = tested (codes "instant not expressible") refl
of_refusal_text NoMemory = tested (codes "out of memory") refl

pub of_answer : (numbered : Bool) (n : ℕ) (line : List ℕ) → HasNoFeed line → HasNoFeed (front numbered n false ++ line)
of_answer numbered n line clear = joined (front numbered n false) line (of_front numbered n false) clear

pub of_refusal : (numbered : Bool) (n : ℕ) (e : TranscodeError) → HasNoFeed (front numbered n true ++ refusal_text e)
of_refusal numbered n e = joined (front numbered n true) (refusal_text e) (of_front numbered n true) (of_refusal_text e)

pub of_long : (numbered : Bool) (n : ℕ) → HasNoFeed (front numbered n true ++ codes "too long")
of_long numbered n = joined (front numbered n true) (codes "too long") (of_front numbered n true) (tested (codes "too long") refl)
