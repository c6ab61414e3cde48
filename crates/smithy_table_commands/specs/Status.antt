-- The numbers that the program ends with, and what the last line on standard error says.
use Rattle.std.specs.Prelude.{ℕ, List, [], ◌++◌, Bool, true, false, codes, flat_map}
use Rattle.smithy_model_table.specs.Leaving.{Reason, float, event_stream, outside, clash}
use Rattle.smithy_model_table.specs.Outcomes.{LeftOut as Left}
use Rattle.smithy_declarations.specs.declared.fault.TableFault.{TableFault}
use Rattle.smithy_declarations.specs.declared.fault.TableFault.TheVariants as table_faults
use Rattle.smithy_outside.specs.Report.{numbered, report_line}
use Rattle.smithy_outside.specs.declared.outside.LoadFault.{LoadFault}
use Rattle.smithy_outside.specs.declared.outside.LoadFault.TheVariants as load_faults
use Rattle.smithy_model.specs.declared.fault.ModelFault.{ModelFault}
use Rattle.smithy_model.specs.declared.fault.ModelFault.TheVariants as model_faults
use Rattle.smithy_model_table.specs.declared.fault.WantedFault.{WantedFault}
use Rattle.smithy_model_table.specs.declared.fault.WantedFault.TheVariants as wanted_faults
use Rattle.smithy_table_commands.specs.declared.status.Status.{Status}
use Rattle.smithy_table_commands.specs.declared.status.Status.TheVariants.{Done, Usage, ReadFailed, WriteFailed, OutOfMemory, TableRefused, NoSuchName, NoDeclaration, TooLong, NotJson, NotAModel, BadShape, UnknownTarget, BadMixin, Applied, Unwritable, LeftOut, NameTwice}

-- the number that the program ends with
abbrev pub status_code : Status → ℕ
status_code Done = 0
status_code Usage = 2
status_code ReadFailed = 6
status_code WriteFailed = 7
status_code OutOfMemory = 8
status_code (TableRefused fault) = 20
status_code NoSuchName = 21
status_code NoDeclaration = 22
status_code TooLong = 23
status_code NotJson = 30
status_code NotAModel = 31
status_code (BadShape id) = 32
status_code (UnknownTarget id) = 33
status_code (BadMixin id) = 34
status_code (Applied id) = 35
status_code Unwritable = 36
status_code LeftOut = 37
status_code NameTwice = 38

-- the table is written, and no line says the status
abbrev pub is_answer : Status → Bool
is_answer Done = true
is_answer _ = false

-- the status where the model wasn't read
abbrev pub status_of_load_fault : LoadFault → Status
status_of_load_fault load_faults.Failed = ReadFailed
status_of_load_fault load_faults.TooLong = TooLong
status_of_load_fault load_faults.NoMemory = OutOfMemory

-- the status where the text is no model
abbrev pub status_of_model_fault : ModelFault → Status
status_of_model_fault model_faults.NotJson = NotJson
status_of_model_fault model_faults.NameTwice = NameTwice
status_of_model_fault model_faults.NotAModel = NotAModel
status_of_model_fault (model_faults.BadShape id) = BadShape id
status_of_model_fault (model_faults.UnknownTarget id) = UnknownTarget id
status_of_model_fault (model_faults.BadMixin id) = BadMixin id
status_of_model_fault (model_faults.Applied id) = Applied id
status_of_model_fault model_faults.NoMemory = OutOfMemory

-- the status where what is wanted has no table
abbrev pub status_of_wanted_fault : WantedFault → Status
status_of_wanted_fault wanted_faults.NoSuchName = NoSuchName
status_of_wanted_fault wanted_faults.NoDeclaration = NoDeclaration
status_of_wanted_fault wanted_faults.TooLong = TooLong
status_of_wanted_fault (wanted_faults.TableRefused fault) = TableRefused fault
status_of_wanted_fault wanted_faults.Unwritable = Unwritable
status_of_wanted_fault wanted_faults.NoMemory = OutOfMemory

-- what refuses a table
abbrev pub fault_text : TableFault → List ℕ
fault_text (table_faults.BadLine n) = numbered (codes "BadLine") n
fault_text (table_faults.FloatShape n) = numbered (codes "FloatShape") n
fault_text (table_faults.UnknownTarget n) = numbered (codes "UnknownTarget") n
fault_text (table_faults.UnknownTimeFormat n) = numbered (codes "UnknownTimeFormat") n
fault_text (table_faults.DuplicateShape n) = numbered (codes "DuplicateShape") n
fault_text (table_faults.NameClash n) = numbered (codes "NameClash") n
fault_text (table_faults.QueryName n) = numbered (codes "QueryName") n
fault_text (table_faults.KeyValueName n) = numbered (codes "KeyValueName") n
fault_text (table_faults.SparseDocument n) = numbered (codes "SparseDocument") n
fault_text (table_faults.TooMany n) = numbered (codes "TooMany") n
fault_text table_faults.NoMemory = []

-- what the last line says
abbrev pub text_of : Status → List ℕ
text_of Done = []
text_of Usage = codes "usage"
text_of ReadFailed = codes "read failed"
text_of WriteFailed = codes "write failed"
text_of OutOfMemory = codes "out of memory"
text_of (TableRefused fault) = codes "table refused: " ++ fault_text fault
text_of NoSuchName = codes "no such name, or several"
text_of NoDeclaration = codes "nothing that a table declares"
text_of TooLong = codes "too long"
text_of NotJson = codes "no JSON"
text_of NotAModel = codes "no model"
text_of (BadShape id) = codes "a part is wrong or missing: " ++ id.now
text_of (UnknownTarget id) = codes "unknown target: " ++ id.now
text_of (BadMixin id) = codes "wrong mixins: " ++ id.now
text_of (Applied id) = codes "applied traits: " ++ id.now
text_of Unwritable = codes "a name that no table can have"
text_of LeftOut = codes "members left out; the word `partial` allows it"
text_of NameTwice = codes "a name twice in an object"

-- the last line of a status other than 0
abbrev pub line_of : Status → List ℕ
line_of status = report_line (codes "smithy_table") (text_of status)

-- with 0 there is none
abbrev pub last_line : Status → List ℕ
last_line Done = []
last_line status = line_of status

-- what a line says of a reason
abbrev pub reason_text : Reason → List ℕ
reason_text float = codes "a float"
reason_text event_stream = codes "an event stream"
reason_text outside = codes "outside of the body"
reason_text clash = codes "a name that is taken"

-- the line of a member that is left out
abbrev pub left_line : Left → List ℕ
left_line left =
    (codes "smithy_table: left out: " ++ left.shape)
    ++ ((codes "$" ++ left.member) ++ ((codes ": " ++ reason_text left.reason) ++ codes "\n"))

-- all that is said where there is a table: a line for each member that it leaves out, and the last line
abbrev pub said : List Left → Status → List ℕ
said left status = flat_map left_line left ++ last_line status
