-- The tests of a value that the program makes, as plain data, and what a test of a value says.
use Rattle.std.specs.Prelude.{◌≡◌, ◌&&◌, ◌||◌, Bool, true, false, not, Option}
use Rattle.smithy_declarations.specs.declared.shape_type.TimestampFormat.{TimestampFormat}
use Rattle.smithy_shapes.specs.ScalarTest.{ValueTest, scalars_pass}
use Rattle.smithy_shapes.specs.Site.{Site}
use Rattle.smithy_declarations.specs.TimeForms.{form_or, form_holds}
use Rattle.smithy_declarations.specs.Value.{ScalarValue, Value}
use Rattle.smithy_cbor_body.specs.Canonical.{cbor_holds}
use Rattle.smithy_query_codec.specs.Counts.{HasPositions}
use Rattle.smithy_query_codec.specs.Nulls.{holds_null}
use Rattle.smithy_transcode.specs.declared.value_test.InstantTest.{InstantTest}
use Rattle.smithy_transcode.specs.declared.value_test.InstantTest.TheVariants.{Any, WholeSeconds, InForm}
use Rattle.smithy_transcode.specs.declared.value_test.ValueTest as kept

-- a scalar passes the test of instants at a place with this time form: what is no instant always does
abbrev pub instant_passes : InstantTest → Option TimestampFormat → ScalarValue → Bool
instant_passes Any time x = true
instant_passes WholeSeconds time x = cbor_holds.scalar time x
instant_passes (InForm default) time x = form_holds (form_or default time) x

-- the test of scalars and documents that the program goes through a value with
abbrev pub test_view : kept.ValueTest → ValueTest
test_view t = record { scalar = λ time x. instant_passes t.instants time x; documents = t.documents }

-- the value of a site passes: its scalars and documents do, and no null stands in it, unless nulls pass
abbrev pub passes : kept.ValueTest → Site → Value → Bool
passes t site v = scalars_pass (test_view t) site v && (t.nulls || not (holds_null v))

-- The answer is whether the value passes. Where it does and nulls don't, each of its lists and maps has fewer than 2^64 parts.
abbrev pub AnswersTest : kept.ValueTest → Site → Value → Bool → Type 0
AnswersTest t site v answer = (answer ≡ passes t site v) × (answer ≡ true → t.nulls ≡ false → HasPositions v)
