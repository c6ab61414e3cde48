-- A place for a value, at the end of a text.
use Rattle.std.specs.Prelude.{Result, Ok, Err, String}
use Rattle.std.specs.Borrow.{MutBor, GName}
use Rattle.std.specs.declared.alloc.AllocError.{AllocError}
use Rattle.std.specs.declared.alloc.Global.{Global}
use Rattle.smithy_json.specs.declared.writer.JsonValueWriter.{JsonValueWriter}

-- the borrow of a text
abbrev pub text_borrow : MutBor (String Global) → GName
text_borrow text = text.ghost_name

-- the writer of a value at the end of a text, where there is one
abbrev pub writer_of : Result (MutBor (String Global)) AllocError → Result JsonValueWriter AllocError
writer_of (Ok text) = Ok (record { output = text })
writer_of (Err error) = Err error
