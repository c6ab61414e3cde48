-- The numbers that the program ends with, the status of each refusal, and the line that a run writes to standard error.
use Rattle.std.specs.Prelude.{◌++◌, ℕ, List, [], Bool, true, false, Option, Some, None, codes}
use Rattle.std.specs.Option.{option_map_or}
use Rattle.smithy_declarations.specs.Acceptance.{Fault, bad_line, float_shape, unknown_target, unknown_time_format, duplicate_shape, name_clash, query_name, key_value_name, sparse_document, too_many}
use Rattle.smithy_declarations.specs.declared.fault.TableFault.{TableFault}
use Rattle.smithy_declarations.specs.declared.fault.TableFault.TheVariants as table_faults
use Rattle.smithy_transcode.specs.Numbers.{error_number}
use Rattle.smithy_transcode.specs.declared.wire.TranscodeError.{TranscodeError}
use Rattle.smithy_transcode.specs.declared.wire.TranscodeError.TheVariants as errors
use Rattle.smithy_outside.specs.Report.{numbered, report_line}
use Rattle.smithy_outside.specs.declared.outside.LoadFault.{LoadFault}
use Rattle.smithy_outside.specs.declared.outside.LoadFault.TheVariants as load_faults
use Rattle.smithy_commands.specs.declared.status.Status.{Status}
use Rattle.smithy_transcode.specs.declared.wire.Unfit.TheVariants.{Document, Null, Instant}
use Rattle.smithy_commands.specs.declared.status.Status.TheVariants.{Done, Usage, ReadFailed, WriteFailed, OutOfMemory, InvalidInput, TooDeep, TooWide, NotCarried, Inexpressible, TableRefused, NoSuchShape, NotAStructure, TooLong, Differs, SecondInvalidInput, SecondTooDeep, SecondTooWide, SecondNotCarried, LinesRefused, FindingsTold, NotWellFormed, TooNested, BadPair, NotForm, Repeated, NoValue}

-- the number that the program ends with: that of an error of `transcode`, or one of its own
abbrev pub status_code : Status → ℕ
status_code Done = 0
status_code Usage = 2
status_code ReadFailed = 6
status_code WriteFailed = 7
status_code OutOfMemory = 8
status_code InvalidInput = error_number errors.InvalidInput
status_code TooDeep = error_number errors.TooDeep
status_code TooWide = error_number errors.TooWide
status_code NotCarried = error_number errors.NotCarried
status_code (Inexpressible u) = error_number (errors.Inexpressible u)
status_code (TableRefused fault) = 20
status_code NoSuchShape = 21
status_code NotAStructure = 22
status_code TooLong = 23
status_code Differs = 40
status_code SecondInvalidInput = 41
status_code SecondTooDeep = 42
status_code SecondTooWide = 43
status_code SecondNotCarried = 44
status_code LinesRefused = 50
status_code FindingsTold = 60
status_code NotWellFormed = 61
status_code TooNested = 62
status_code (BadPair n) = 70
status_code NotForm = 71
status_code (Repeated n) = 72
status_code NoValue = 73

-- standard error takes no line; with any other status it takes one
abbrev pub is_answer : Status → Bool
is_answer Done = true
is_answer Differs = true
is_answer FindingsTold = true
is_answer _ = false

-- the output took what the command has to tell, and holds nothing back
abbrev pub tells_output : Status → Bool
tells_output Done = true
tells_output Differs = true
tells_output LinesRefused = true
tells_output FindingsTold = true
tells_output _ = false

-- the input is refused, or memory ran out
abbrev pub refuses_input : Status → Bool
refuses_input InvalidInput = true
refuses_input TooDeep = true
refuses_input TooWide = true
refuses_input NotCarried = true
refuses_input (Inexpressible u) = true
refuses_input NotWellFormed = true
refuses_input TooNested = true
refuses_input (BadPair n) = true
refuses_input NotForm = true
refuses_input (Repeated n) = true
refuses_input NoValue = true
refuses_input OutOfMemory = true
refuses_input _ = false

-- where a file or the input wasn't read
abbrev pub status_of_load_fault : LoadFault → Status
status_of_load_fault load_faults.Failed = ReadFailed
status_of_load_fault load_faults.TooLong = TooLong
status_of_load_fault load_faults.NoMemory = OutOfMemory

-- where a table was refused
abbrev pub status_of_table_fault : TableFault → Status
status_of_table_fault table_faults.NoMemory = OutOfMemory
status_of_table_fault fault = TableRefused fault

-- where the input was refused, or the wanted wire can't express its value
abbrev pub status_of_error : TranscodeError → Status
status_of_error errors.InvalidInput = InvalidInput
status_of_error errors.TooDeep = TooDeep
status_of_error errors.TooWide = TooWide
status_of_error errors.NotCarried = NotCarried
status_of_error (errors.Inexpressible u) = Inexpressible u
status_of_error errors.NoMemory = OutOfMemory

-- ---- the line on standard error

-- The fault of a table that is refused, its name and its number. Want of memory refuses no table: it has a status of its own.
abbrev pub refusal_of : TableFault → Option (Fault × List ℕ × ℕ)
refusal_of (table_faults.BadLine n) = Some (bad_line, codes "BadLine", n)
refusal_of (table_faults.FloatShape n) = Some (float_shape, codes "FloatShape", n)
refusal_of (table_faults.UnknownTarget n) = Some (unknown_target, codes "UnknownTarget", n)
refusal_of (table_faults.UnknownTimeFormat n) = Some (unknown_time_format, codes "UnknownTimeFormat", n)
refusal_of (table_faults.DuplicateShape n) = Some (duplicate_shape, codes "DuplicateShape", n)
refusal_of (table_faults.NameClash n) = Some (name_clash, codes "NameClash", n)
refusal_of (table_faults.QueryName n) = Some (query_name, codes "QueryName", n)
refusal_of (table_faults.KeyValueName n) = Some (key_value_name, codes "KeyValueName", n)
refusal_of (table_faults.SparseDocument n) = Some (sparse_document, codes "SparseDocument", n)
refusal_of (table_faults.TooMany n) = Some (too_many, codes "TooMany", n)
refusal_of _ = None

-- the name of a fault, a space and its number
abbrev pub refusal_text : Fault × List ℕ × ℕ → List ℕ
refusal_text refusal = numbered refusal.1 refusal.2

-- what the line of a status says; that of a refused table names the fault, and an answer has no line
abbrev pub text_of : Status → List ℕ
text_of Done = []
text_of Usage = codes "usage"
text_of ReadFailed = codes "read failed"
text_of WriteFailed = codes "write failed"
text_of OutOfMemory = codes "out of memory"
text_of InvalidInput = codes "invalid input"
text_of TooDeep = codes "too deep"
text_of TooWide = codes "number too wide"
text_of NotCarried = codes "not carried"
text_of (Inexpressible Document) = codes "document not expressible"
text_of (Inexpressible Null) = codes "null not expressible"
text_of (Inexpressible Instant) = codes "instant not expressible"
text_of (TableRefused fault) = codes "table refused: " ++ option_map_or refusal_text (refusal_of fault) []
text_of NoSuchShape = codes "no such shape"
text_of NotAStructure = codes "not a structure"
text_of TooLong = codes "too long"
text_of Differs = []
text_of SecondInvalidInput = codes "invalid input"
text_of SecondTooDeep = codes "too deep"
text_of SecondTooWide = codes "number too wide"
text_of SecondNotCarried = codes "not carried"
text_of LinesRefused = codes "lines refused"
text_of FindingsTold = []
text_of NotWellFormed = codes "not well formed"
text_of TooNested = codes "too nested"
text_of (BadPair n) = numbered (codes "bad pair") n
text_of NotForm = codes "not a form"
text_of (Repeated n) = numbered (codes "repeated path") n
text_of NoValue = codes "no value"

-- the line of a status that is no answer
abbrev pub line_of : Status → List ℕ
line_of status = report_line (codes "smithy_transcode") (text_of status)
