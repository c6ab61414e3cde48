-- What the tests of the program are.
use Rattle.std.specs.Prelude.{List, Bool}
use Rattle.smithy_declarations.specs.declared.acceptance.Test as kept
use Rattle.smithy_declarations.specs.declared.acceptance.Test.TheVariants as kept_tests
use Rattle.smithy_declarations.specs.declared.acceptance.PlaceTest as kept_place
use Rattle.smithy_declarations.specs.declared.acceptance.PlaceTest.TheVariants as kept_place_tests
use Rattle.smithy_declarations.specs.Decl.{PlaceWords, Decl}
use Rattle.smithy_declarations.specs.Acceptance.{Test, Fault, float_shape, unknown_target, unknown_time_format, duplicate_shape, name_clash, query_name, key_value_name, sparse_document, too_many, has_float_shape, has_unknown_shape, has_unknown_time_format, is_duplicate, has_clash, has_unfit_name, has_key_value_name, is_sparse_document, is_too_many}
use Rattle.smithy_declarations.specs.Private.PlaceTests.{has_float_target, has_unknown_target, has_unknown_time}

abbrev pub place_test_of : kept_place.PlaceTest → List Decl → PlaceWords → Bool
place_test_of kept_place_tests.FloatTarget decls = has_float_target
place_test_of kept_place_tests.UnknownTarget decls = has_unknown_target decls
place_test_of kept_place_tests.UnknownTime decls = has_unknown_time

abbrev pub test_of : kept.Test → Test
test_of kept_tests.FloatShape = has_float_shape
test_of kept_tests.UnknownTarget = has_unknown_shape
test_of kept_tests.UnknownTimeFormat = has_unknown_time_format
test_of kept_tests.DuplicateShape = is_duplicate
test_of kept_tests.NameClash = has_clash
test_of kept_tests.QueryName = has_unfit_name
test_of kept_tests.KeyValueName = has_key_value_name
test_of kept_tests.SparseDocument = is_sparse_document
test_of kept_tests.TooMany = is_too_many

abbrev pub fault_of : kept.Test → Fault
fault_of kept_tests.FloatShape = float_shape
fault_of kept_tests.UnknownTarget = unknown_target
fault_of kept_tests.UnknownTimeFormat = unknown_time_format
fault_of kept_tests.DuplicateShape = duplicate_shape
fault_of kept_tests.NameClash = name_clash
fault_of kept_tests.QueryName = query_name
fault_of kept_tests.KeyValueName = key_value_name
fault_of kept_tests.SparseDocument = sparse_document
fault_of kept_tests.TooMany = too_many
