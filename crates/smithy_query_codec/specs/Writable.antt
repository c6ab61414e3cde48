-- The values that can be written to a form: those without a null and without a document, and of instants those that their time
-- forms can write.
use Rattle.std.specs.Prelude.{Bool, false, ◌&&◌, not}
use Rattle.smithy_declarations.specs.declared.shape_type.TimestampFormat.TheVariants.{DateTime}
use Rattle.smithy_shapes.specs.Site.{Site}
use Rattle.smithy_declarations.specs.Value.{Value}
use Rattle.smithy_declarations.specs.TimeForms.{form_or, form_writes, form_holds}
use Rattle.smithy_shapes.specs.ScalarTest.{ValueTest, scalars_pass}
use Rattle.smithy_query_codec.specs.Nulls.{holds_null}

-- which values can be written: a scalar by the time form of its place, and no document
abbrev pub can_write : ValueTest
can_write = record { scalar = λ time x. form_writes (form_or DateTime time) x; documents = false }

-- which values are written so that the text stands for exactly the value: a scalar by the time form of its place, and no document
abbrev pub query_holds : ValueTest
query_holds = record { scalar = λ time x. form_holds (form_or DateTime time) x; documents = false }

-- the value at the site can be written
abbrev pub can_be_written : Site → Value → Bool
can_be_written site v = not (holds_null v) && scalars_pass can_write site v
