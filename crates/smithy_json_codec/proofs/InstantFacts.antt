-- What a scalar is as an instant, which instants are written and how, by computing.
use Rattle.std.proofs.Common.{◌≡◌, ℤ, [], ◌∷◌, map, true, false, Option, Some, None, Err, refl, pos, neg_ℤ, codes}
use Rattle.std.specs.Char.{encode_utf8}
use Rattle.smithy_schema.specs.declared.error.SerdeError.TheVariants.{Unwritable}
use Rattle.smithy_declarations.specs.declared.shape_type.Scalar.TheVariants as scalars
use Rattle.smithy_declarations.specs.declared.shape_type.TimestampFormat.{TimestampFormat}
use Rattle.smithy_declarations.specs.declared.shape_type.TimestampFormat.TheVariants.{EpochSeconds, DateTime, HttpDate}
use Rattle.smithy_shapes.specs.Site.{shape_site, member_of}
use Rattle.smithy_declarations.specs.Table as table
use Rattle.smithy_declarations.specs.Table.{Table, scalar_place, shape_place}
use Rattle.smithy_declarations.specs.Value.{instant, Value, scalar_value, null_element}
use Rattle.smithy_schema.specs.Writing.{scalar_of}
use Rattle.smithy_instants.specs.declared.format.Format.TheVariants as formats
use Rattle.smithy_instants.proofs.OnLiterals.{smithy_instants_on_literals}
use Rattle.smithy_json_grammar.specs.Tree.{Json, number, string}
use Rattle.smithy_json_grammar.specs.Unescape.{code_unit}
use Rattle.smithy_wire.specs.Rules.{means, no_meaning, uncarried}
use Rattle.smithy_json_values.specs.Scalar.{a_boolean, a_number, a_string, says}
use Rattle.smithy_json_values.specs.Meaning.{json_meaning}
use Rattle.smithy_json_values.specs.Settings.{Settings, default_settings, without_limits}
use Rattle.smithy_json_codec.specs.Canonical.{canonical_json, scalar_text, can_write, json_holds}
use Rattle.smithy_json_codec.specs.Writing.{fresh_state, json_after}
use Rattle.smithy_json_codec.proofs.Examples.{plain_member, named, alone, first_alone, strict}

abbrev instant_at : ℤ → Value
instant_at n = scalar_value (instant n)

-- ---- scalars

-- whole nanoseconds, nanoseconds that aren't whole, seconds beyond 64 bits, and no number
pub seconds : map (says (strict false) scalars.Timestamp None) (a_number (codes "1.5") ∷ a_number (codes "-5E-1") ∷ a_number (codes "1e-10") ∷ a_number (codes "9223372036854775808") ∷ a_string (codes "0") ∷ a_boolean true ∷ [])
    ≡ means (instant_at (pos 1_500_000_000)) ∷ means (instant_at (neg_ℤ (pos 500_000_000))) ∷ uncarried ∷ no_meaning ∷ no_meaning ∷ no_meaning ∷ []
seconds = refl

-- a date, one with an escape, an offset, a date of the other form, half a surrogate and no string
pub date_times : map (says (strict false) scalars.Timestamp (Some DateTime)) (a_string (codes "1970-01-01T00:00:01.5Z") ∷ a_string (codes "1970-01-01T00:00:01\\u005a") ∷ a_string (codes "1970-01-01T00:00:01+00:00") ∷ a_string (codes "Thu, 01 Jan 1970 00:00:01 GMT") ∷ a_string (codes "\\ud800") ∷ a_number (codes "1") ∷ [])
    ≡ means (instant_at (pos 1_500_000_000)) ∷ means (instant_at (pos 1_000_000_000)) ∷ no_meaning ∷ no_meaning ∷ no_meaning ∷ no_meaning ∷ []
unfolding smithy_instants_on_literals encode_utf8 code_unit
date_times = refl

pub http_dates : map (says (strict false) scalars.Timestamp (Some HttpDate)) (a_string (codes "Thu, 01 Jan 1970 00:00:01 GMT") ∷ a_string (codes "1970-01-01T00:00:01Z") ∷ a_boolean false ∷ [])
    ≡ means (instant_at (pos 1_000_000_000)) ∷ no_meaning ∷ no_meaning ∷ []
unfolding smithy_instants_on_literals
http_dates = refl

-- where forms aren't strict: a number under any form, an offset under date-time, seconds in a string, and without a form a date
-- and time with an offset, unless that of HTTP is the default
pub lenient : (map (says default_settings scalars.Timestamp (Some DateTime)) (a_number (codes "1") ∷ a_string (codes "1970-01-01T01:00:01+01:00") ∷ a_string (codes "1") ∷ [])
    ≡ means (instant_at (pos 1_000_000_000)) ∷ means (instant_at (pos 1_000_000_000)) ∷ no_meaning ∷ [])
    × (map (says default_settings scalars.Timestamp (Some EpochSeconds)) (a_string (codes "1.5") ∷ a_string (codes "1e1") ∷ []) ≡ means (instant_at (pos 1_500_000_000)) ∷ no_meaning ∷ [])
    × (map (says default_settings scalars.Timestamp None) (a_string (codes "1970-01-01T00:00:01Z") ∷ a_string (codes "Thu, 01 Jan 1970 00:00:01 GMT") ∷ a_string (codes "1") ∷ [])
    ≡ means (instant_at (pos 1_000_000_000)) ∷ no_meaning ∷ no_meaning ∷ [])
    × (map (says (record default_settings { default_timestamp_format = formats.HttpDate }) scalars.Timestamp None) (a_string (codes "1970-01-01T00:00:01Z") ∷ a_string (codes "Thu, 01 Jan 1970 00:00:01 GMT") ∷ [])
    ≡ no_meaning ∷ means (instant_at (pos 1_000_000_000)) ∷ [])
unfolding smithy_instants_on_literals
lenient = (refl, refl, refl, refl)

-- ---- places

-- structure S / member a timestamp; structure S / member a timestamp time=http-date
abbrev timed : Option TimestampFormat → Table
timed time = named (codes "S") (table.structure (plain_member (codes "a") (scalar_place scalars.Timestamp time) ∷ [])) ∷ []

-- where instants without a form are date-times
abbrev dated : Settings
dated = record (strict false) { default_timestamp_format = formats.DateTime }

abbrev means_by : Settings → Option TimestampFormat → Json → Option Value
means_by c time x = json_meaning c (timed time) (shape_place 0) 0 (alone (codes "a") x)

-- the form of the place counts, and the one by default where it has none
pub forms_of_places : (means_by (strict false) None (number (codes "1")) ≡ Some (first_alone (instant_at (pos 1_000_000_000))))
    × (means_by dated None (number (codes "1")) ≡ None)
    × (means_by dated None (string (codes "1970-01-01T00:00:01Z")) ≡ Some (first_alone (instant_at (pos 1_000_000_000))))
    × (means_by (strict false) (Some HttpDate) (number (codes "1")) ≡ None)
    × (means_by dated (Some HttpDate) (string (codes "Thu, 01 Jan 1970 00:00:01 GMT")) ≡ Some (first_alone (instant_at (pos 1_000_000_000))))
unfolding smithy_instants_on_literals
forms_of_places = (refl, refl, refl, refl, refl)

-- without limits, seconds that aren't carried are a null
pub not_carried : (means_by (strict false) None (number (codes "1e-10")) ≡ None)
    × (means_by (without_limits (strict false)) None (number (codes "1e-10")) ≡ Some (first_alone null_element))
not_carried = (refl, refl)

-- ---- writing

-- a date leaves out what it has no room for
pub texts : map (λ form. scalar_text form (instant (pos 1_500_000_001))) (EpochSeconds ∷ DateTime ∷ HttpDate ∷ [])
    ≡ codes "1.500000001" ∷ codes "\"1970-01-01T00:00:01.5Z\"" ∷ codes "\"Thu, 01 Jan 1970 00:00:01 GMT\"" ∷ []
unfolding smithy_instants_on_literals
texts = refl

pub written_at_places : map (λ time. canonical_json dated (shape_site (timed time) 0) (first_alone (instant_at (pos 1_000_000_000)))) (None ∷ Some EpochSeconds ∷ Some HttpDate ∷ [])
    ≡ codes "{\"a\":\"1970-01-01T00:00:01Z\"}" ∷ codes "{\"a\":1}" ∷ codes "{\"a\":\"Thu, 01 Jan 1970 00:00:01 GMT\"}" ∷ []
unfolding smithy_instants_on_literals
written_at_places = refl

-- the year 10000, and half a second
pub tests : (map (λ time. (can_write dated).scalar time (instant (pos 253_402_300_800_000_000_000))) (None ∷ Some EpochSeconds ∷ Some HttpDate ∷ []) ≡ false ∷ true ∷ false ∷ [])
    × (map (λ time. (json_holds dated).scalar time (instant (pos 500_000_000))) (None ∷ Some EpochSeconds ∷ Some HttpDate ∷ []) ≡ true ∷ true ∷ false ∷ [])
unfolding smithy_instants_on_literals
tests = (refl, refl)

pub refused : json_after (scalar_of (member_of (shape_site (timed None) 0) 0) (instant (pos 253_402_300_800_000_000_000))) (fresh_state dated) ≡ Err Unwritable
unfolding smithy_instants_on_literals
refused = refl
