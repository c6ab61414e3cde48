-- The one spelling in which a value is written.
use Rattle.std.specs.Prelude.{ℕ, ℤ, List, [], ◌∷◌, ◌++◌, Bool, true, false, Option, unwrap_or, codes, if◌then◌else◌}
use Rattle.std.specs.Fmt.{signed_decimal}
use Rattle.std.specs.Option.{option_map_or}
use Rattle.smithy_types.specs.Document.{Document}
use Rattle.smithy_declarations.specs.declared.shape_type.TimestampFormat.{TimestampFormat}
use Rattle.smithy_declarations.specs.declared.shape_type.TimestampFormat.TheVariants.{EpochSeconds, DateTime, HttpDate}
use Rattle.smithy_declarations.specs.TimeForms.{format_of, form_or, form_writes, form_holds}
use Rattle.smithy_shapes.specs.ScalarTest.{ValueTest}
use Rattle.smithy_shapes.specs.Site.{Site, View, element_of, value_of, member_of}
use Rattle.smithy_declarations.specs.Value.{ScalarValue, boolean, whole, text, bytes, decimal, instant, Value, scalar_value, list, map, structure, union, null_element, document_value, Values, no_values, value, MapEntries, no_map_entries, map_entry, MemberValues, no_member_values, member_value}
use Rattle.smithy_texts.specs.Base64Text.{blob_text}
use Rattle.smithy_texts.specs.Decimal.{decimal_text}
use Rattle.smithy_instants.specs.WrittenDate.{date_text}
use Rattle.smithy_instants.specs.declared.format.Format.{Format}
use Rattle.smithy_instants.specs.declared.format.Format.TheVariants as formats
use Rattle.smithy_json_grammar.specs.Ascii.{quotation_mark, begin_array, end_array, begin_object, end_object}
use Rattle.smithy_json.specs.DocumentText.{comma, document_text_by}
use Rattle.smithy_json.specs.Escape.{quoted}
use Rattle.smithy_json.specs.ValueTexts.{name_text}
use Rattle.smithy_json_values.specs.Settings.{Settings}

-- the time form whose texts are written in a form: a date and time is written alike where an offset may be read
abbrev pub time_form : Format → TimestampFormat
time_form formats.EpochSeconds = EpochSeconds
time_form formats.HttpDate = HttpDate
time_form form = DateTime

-- the form in which an instant is written at a place with this time form or none
abbrev pub written_form : Settings → Option TimestampFormat → TimestampFormat
written_form c time = form_or (time_form c.default_timestamp_format) time

-- the text of an instant in its form: a number of seconds stands as it is, and a date is a string
abbrev pub in_form : TimestampFormat → List ℕ → List ℕ
in_form EpochSeconds t = t
in_form form t = quoted t

-- a scalar, where instants have this form
abbrev pub scalar_text : TimestampFormat → ScalarValue → List ℕ
scalar_text form (boolean true) = codes "true"
scalar_text form (boolean false) = codes "false"
scalar_text form (whole n) = signed_decimal n
scalar_text form (text s) = quoted s
scalar_text form (decimal m e) = decimal_text m e
scalar_text form (bytes b) = quotation_mark ∷ (blob_text b ++ quotation_mark ∷ [])
-- where the form can't write the instant, its text counts as empty
scalar_text form (instant n) = in_form form (unwrap_or (date_text (format_of form) n) [])

-- a document, of whose numbers each is its whole number in decimal
abbrev pub document_text : Document ℤ → List ℕ
document_text d = document_text_by signed_decimal d

-- which values can be written: a scalar by the time form of its place, and every document
abbrev pub can_write : Settings → ValueTest
can_write c = record {
  scalar = λ time x. form_writes (written_form c time) x;
  documents = true;
}

-- which values are written so that the text stands for exactly the value: a scalar by the time form of its place, and every
-- document
abbrev pub json_holds : Settings → ValueTest
json_holds c = record { scalar = λ time x. form_holds (written_form c time) x; documents = true }

-- what stands before the value of a member: its JSON name, where that is used and given, else its name
abbrev pub key_text : Bool → View → List ℕ
key_text use_json_name view =
    option_map_or (λ name. name_text (if use_json_name then unwrap_or view.json_name name else name)) view.name []

-- Under some settings: members in the table's order, elements in theirs, and the entries of a map and the properties of a
-- document in that of their names' bytes, with no white space. A union is an object of its one member.
abbrev mutual
  pub canonical_json : Settings → Site → Value → List ℕ
  canonical_json c site (scalar_value x) = scalar_text (written_form c site.place.time) x
  canonical_json c site (list vs) = begin_array ∷ (element_texts c (element_of site) [] vs ++ end_array ∷ [])
  canonical_json c site (map es) = begin_object ∷ (entry_texts c (value_of site) [] es ++ end_object ∷ [])
  canonical_json c site (structure ms) = begin_object ∷ (member_texts c site [] ms ++ end_object ∷ [])
  canonical_json c site (union n v) =
      begin_object
      ∷ (key_text c.use_json_name (member_of site n).view ++ (canonical_json c (member_of site n) v ++ end_object ∷ []))
  canonical_json c site null_element = codes "null"
  canonical_json c site (document_value d) = document_text_by signed_decimal d

  -- each element behind what parts it from the one before: nothing at first, and then a comma
  pub element_texts : Settings → Site → List ℕ → Values → List ℕ
  element_texts c site parting no_values = []
  element_texts c site parting (value v vs) = parting ++ (canonical_json c site v ++ element_texts c site comma vs)

  -- each value of a map with its key in front, behind what parts it from the one before
  pub entry_texts : Settings → Site → List ℕ → MapEntries → List ℕ
  entry_texts c site parting no_map_entries = []
  entry_texts c site parting (map_entry key v es) =
      parting ++ (name_text key ++ (canonical_json c site v ++ entry_texts c site comma es))

  -- each value of a member with its name in front, behind what parts it from the one before
  pub member_texts : Settings → Site → List ℕ → MemberValues → List ℕ
  member_texts c site parting no_member_values = []
  member_texts c site parting (member_value n v ms) =
      parting
      ++ (key_text c.use_json_name (member_of site n).view ++ (canonical_json c (member_of site n) v ++ member_texts c site comma ms))
