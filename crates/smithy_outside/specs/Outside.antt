-- What the objects of the outside tell of themselves: what they hold, and how often they failed.
use Rattle.std.specs.Prelude.{◌≡◌, ◌≢◌, ◌⊎◌, ◌<◌, ◌≤◌, ◌+◌, ◌-◌, ◌^◌, ℕ, min, List, [], ◌++◌, length, take, Bool, false, Result, Ok, Err, Vec, IfOk, OnOk, IsErrOf, MatchResult}
use Rattle.std.specs.declared.alloc.Global.{Global}
use Rattle.smithy_outside.specs.declared.outside.LoadFault.{LoadFault}
use Rattle.smithy_outside.specs.declared.outside.LoadFault.TheVariants as load_faults

-- What a file holds, a source has left or a sink took: not told, told that there is no such file, or
-- these bytes.
pub data Content : Type 0 where
  untold missing : Content
  holds : List ℕ → Content

-- an object at one moment
pub record Shown : Type 0 where
  -- how many faults it has met; the count never falls, and stays at its last value
  pub faults : ℕ
  pub content : Content
  -- told that no call on it meets a fault
  pub is_steady : Bool

-- what a command may use, at one moment: files, the input and the output
pub record Environment : Type 0 where
  -- what the file at each path tells
  pub files : List ℕ → Shown
  pub input : Shown
  pub out : Shown
  -- the output may hold back some of what it took
  pub out_holds_back : Bool

-- an environment, by its objects
abbrev pub environment_of : (List ℕ → Shown) → (input out : Shown) → (out_holds_back : Bool) → Environment
environment_of files input out out_holds_back = record {
  files = files;
  input = input;
  out = out;
  out_holds_back = out_holds_back;
}

-- all objects at one moment: what a command may use, and standard error, which no command uses
pub record Outside : Type 0 where
  pub environment : Environment
  pub err : Shown
  pub err_holds_back : Bool

-- all objects, by what a command may use and standard error
abbrev pub outside : Environment → (err : Shown) → (err_holds_back : Bool) → Outside
outside inner err err_holds_back = record {
  environment = inner;
  err = err;
  err_holds_back = err_holds_back;
}

-- each object but standard error tells, counts and holds back what it did before
abbrev pub OnlyErrMoved : Outside → Outside → Type 0
OnlyErrMoved old new = new.environment ≡ old.environment

-- the last value of a count: a count that reached it stays there
abbrev pub last_count : ℕ
last_count = 2 ^ 64 - 1

-- one more, up to the last count
abbrev pub counted : ℕ → ℕ
counted n = min (n + 1) last_count

-- the count rose between the two moments, or stands at its last value
abbrev pub HasFailed : Shown → Shown → Type 0
HasFailed old new = (old.faults < new.faults) ⊎ (new.faults ≡ last_count)

-- the object met one fault, and counted it; a steady object meets none
abbrev pub MetOneFault : Shown → Shown → Type 0
MetOneFault old new = (new.faults ≡ counted old.faults) × (old.is_steady ≡ false)

-- the object met no fault that shows: at the last count none does. It is as steady as it was.
abbrev pub MetNoFault : Shown → Shown → Type 0
MetNoFault old new = (new.faults ≡ old.faults) × (new.is_steady ≡ old.is_steady)

-- a call that fails meets one fault, and any other meets none
abbrev pub IsCounted : {T E : Type 0} → Result T E → Shown → Shown → Type 0
IsCounted (Ok x) old new = MetNoFault old new
IsCounted (Err e) old new = MetOneFault old new

-- a load that is refused by `Failed` meets one fault, and a load that is refused otherwise meets none
abbrev pub IsCountedFault : LoadFault → Shown → Shown → Type 0
IsCountedFault load_faults.Failed old new = MetOneFault old new
IsCountedFault load_faults.TooLong old new = MetNoFault old new
IsCountedFault load_faults.NoMemory old new = MetNoFault old new

-- a load that is refused by `Failed` meets one fault, and any other load meets none
abbrev pub IsCountedLoad : {T : Type 0} → Result T LoadFault → Shown → Shown → Type 0
IsCountedLoad (Ok x) old new = MetNoFault old new
IsCountedLoad (Err fault) old new = IsCountedFault fault old new

-- the object tells that it holds these bytes
abbrev pub Shows : Shown → List ℕ → Type 0
Shows told bytes = told.content ≡ holds bytes

-- where the object tells what it holds, it is these bytes
abbrev pub IsWhole : List ℕ → Shown → Type 0
IsWhole bytes told = (all : List ℕ) → Shows told all → bytes ≡ all

-- where the object tells what it holds, it is more bytes than the limit
abbrev pub IsLonger : ℕ → Shown → Type 0
IsLonger limit told = (all : List ℕ) → Shows told all → limit < length all

-- a source gave these bytes from the front of what it had left
abbrev pub Gave : List ℕ → Shown → Shown → Type 0
Gave bytes old new =
    (was : List ℕ) → Shows old was → (left : List ℕ) × Shows new left × (was ≡ bytes ++ left)

-- a source gave one byte more than the limit
abbrev pub GavePast : ℕ → Shown → Shown → Type 0
GavePast limit old new = (bytes : List ℕ) × Gave bytes old new × (length bytes ≡ limit + 1)

-- nothing is left
abbrev pub IsAtEnd : Shown → Type 0
IsAtEnd source = (left : List ℕ) → Shows source left → left ≡ []

-- what a load of a path answers that asks for so many bytes at most; each path told `old` before it, and tells `new` after it
pub record Loads (old new : List ℕ → Shown) (path : List ℕ) (limit : ℕ) (result : Result (Vec ℕ Global) LoadFault) : Type 0 where
  pub loaded : IfOk result (λ bytes. IsWhole bytes.items (old path))
  pub within : IfOk result (λ bytes. length bytes.items ≤ limit)
  pub too_long_only_past_the_limit : IsErrOf result load_faults.TooLong → IsLonger limit (old path)
  pub missing_is_a_fault : (old path).content ≡ missing → IsErrOf result load_faults.Failed ⊎ IsErrOf result load_faults.NoMemory
  pub counts : IsCountedLoad result (old path) (new path)
  -- no path changes what it holds or whether it is steady, and no count falls
  pub kept : (at : List ℕ) → (new at).content ≡ (old at).content
  pub steady : (at : List ℕ) → (new at).is_steady ≡ (old at).is_steady
  pub later : (at : List ℕ) → (old at).faults ≤ (new at).faults

-- what a read of a source answers: how many bytes it gave, which stand at the front of `into`; where that has room, 0 is the end
pub record Reads {E : Type 0} (old new : Shown) (into : List ℕ) (result : Result ℕ E) : Type 0 where
  pub bound : IfOk result (λ count. count ≤ length into)
  pub gave : MatchResult result (λ count. Gave (take count into) old new) (λ _. Gave [] old new)
  pub end : result ≡ Ok 0 → 0 < length into → IsAtEnd new
  pub counts : IsCounted result old new
  pub later : old.faults ≤ new.faults

-- a sink took these bytes, behind what it took before
abbrev pub Took : List ℕ → Shown → Shown → Type 0
Took bytes old new =
    (after : List ℕ) → Shows new after → (before : List ℕ) × Shows old before × (after ≡ before ++ bytes)

-- what a write to a sink answers: how many bytes it took from the front of the piece, at least one where there is one
pub record Writes {E : Type 0} (old new : Shown) (piece : List ℕ) (result : Result ℕ E) : Type 0 where
  pub bound : IfOk result (λ count. count ≤ length piece)
  pub took : MatchResult result (λ count. Took (take count piece) old new) (λ _. Took [] old new)
  pub some : 0 < length piece → result ≢ Ok 0
  pub counts : IsCounted result old new
  pub later : old.faults ≤ new.faults

-- what a sink answers that is to pass on what it holds back, and whether it holds something back then
pub record Finishes {E : Type 0} (old new : Shown) (holds_back : Bool) (result : Result (Unit {0}) E) : Type 0 where
  pub took : Took [] old new
  pub passed_on : OnOk result (holds_back ≡ false)
  pub counts : IsCounted result old new
  pub later : old.faults ≤ new.faults

-- the bytes begin with these
abbrev pub Begins : List ℕ → List ℕ → Type 0
Begins front bytes = (rest : List ℕ) × (bytes ≡ front ++ rest)

-- a sink took a prefix of these bytes
abbrev pub TookPrefix : List ℕ → Shown → Shown → Type 0
TookPrefix bytes old new = (front : List ℕ) × Begins front bytes × Took front old new

-- bytes were written to a sink: it took all of them, or a prefix, and met one fault, which ended it
abbrev pub IsWritten : {T E : Type 0} → List ℕ → Result T E → Shown → Shown → Type 0
IsWritten bytes (Ok x) old new = MetNoFault old new × Took bytes old new
IsWritten bytes (Err e) old new = MetOneFault old new × TookPrefix bytes old new

-- A sink met no fault that shows, took the line and holds nothing back; or it met one fault, and took a prefix.
abbrev pub TookLine : List ℕ → (old new : Shown) → (new_holds_back : Bool) → Type 0
TookLine line old new new_holds_back =
    (MetNoFault old new × Took line old new × (new_holds_back ≡ false))
    ⊎ (MetOneFault old new × TookPrefix line old new)
