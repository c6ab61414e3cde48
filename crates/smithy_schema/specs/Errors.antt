-- What the errors of a reader say, and of which calls they are.
use Rattle.std.specs.Prelude.{◌≡◌, Bool, true, false, Result, Ok, Err, IsErrOf}
use Rattle.smithy_schema.specs.declared.error.SerdeError.{SerdeError}
use Rattle.smithy_schema.specs.declared.error.SerdeError.TheVariants.{InvalidInput, TypeMismatch, TooDeep, TooWide, NotCarried, Unsupported, Unwritable, Missing, Failed, NoMemory}

-- an answer that finds fault with the input, with what is written, or with what is asked for: neither an earlier failure nor want
-- of memory
abbrev pub IsFault : SerdeError → Type 0
IsFault InvalidInput = Unit {0}
IsFault TypeMismatch = Unit {0}
IsFault TooDeep = Unit {0}
IsFault TooWide = Unit {0}
IsFault NotCarried = Unit {0}
IsFault Unsupported = Unit {0}
IsFault Unwritable = Unit {0}
IsFault Missing = Unit {0}
IsFault Failed = ⊥
IsFault NoMemory = ⊥

-- an answer of a reader, which has no fault of writing, nor of a request
abbrev pub IsOfReader : SerdeError → Type 0
IsOfReader InvalidInput = Unit {0}
IsOfReader TypeMismatch = Unit {0}
IsOfReader TooDeep = Unit {0}
IsOfReader TooWide = Unit {0}
IsOfReader NotCarried = Unit {0}
IsOfReader Unsupported = ⊥
IsOfReader Unwritable = ⊥
IsOfReader Missing = ⊥
IsOfReader Failed = Unit {0}
IsOfReader NoMemory = Unit {0}

-- an answer of a cursor call, which finds no fault with a scalar
abbrev pub IsOfCursor : SerdeError → Type 0
IsOfCursor InvalidInput = Unit {0}
IsOfCursor TypeMismatch = Unit {0}
IsOfCursor TooDeep = Unit {0}
IsOfCursor TooWide = ⊥
IsOfCursor NotCarried = ⊥
IsOfCursor Unsupported = ⊥
IsOfCursor Unwritable = ⊥
IsOfCursor Missing = ⊥
IsOfCursor Failed = Unit {0}
IsOfCursor NoMemory = Unit {0}

abbrev pub IsRefused : {A : Type 0} → Result A SerdeError → Type 0
IsRefused (Ok x) = ⊥
IsRefused (Err e) = IsFault e

-- `InvalidInput` or `TypeMismatch`: the input is no such value at all, whatever the limits
abbrev pub FindsNone : SerdeError → Type 0
FindsNone InvalidInput = Unit {0}
FindsNone TypeMismatch = Unit {0}
FindsNone TooDeep = ⊥
FindsNone TooWide = ⊥
FindsNone NotCarried = ⊥
FindsNone Unsupported = ⊥
FindsNone Unwritable = ⊥
FindsNone Missing = ⊥
FindsNone Failed = ⊥
FindsNone NoMemory = ⊥

abbrev pub IsInvalid : {A : Type 0} → Result A SerdeError → Type 0
IsInvalid (Ok x) = ⊥
IsInvalid (Err e) = FindsNone e

-- an error by whether what comes is of another type than the wanted one: `TypeMismatch` says that it is, and `InvalidInput` that it isn't
abbrev pub TellsType : Bool → SerdeError → Type 0
TellsType other InvalidInput = other ≡ false
TellsType other TypeMismatch = other ≡ true
TellsType other TooDeep = Unit {0}
TellsType other TooWide = Unit {0}
TellsType other NotCarried = Unit {0}
TellsType other Unsupported = Unit {0}
TellsType other Unwritable = Unit {0}
TellsType other Missing = Unit {0}
TellsType other Failed = Unit {0}
TellsType other NoMemory = Unit {0}

-- the answer is `InvalidInput` or a refusal that is no fault: `Failed` or `NoMemory`
abbrev pub IsNoAnswer : {A : Type 0} → Result A SerdeError → Type 0
IsNoAnswer (Ok x) = ⊥
IsNoAnswer (Err InvalidInput) = Unit {0}
IsNoAnswer (Err TypeMismatch) = ⊥
IsNoAnswer (Err TooDeep) = ⊥
IsNoAnswer (Err TooWide) = ⊥
IsNoAnswer (Err NotCarried) = ⊥
IsNoAnswer (Err Unsupported) = ⊥
IsNoAnswer (Err Unwritable) = ⊥
IsNoAnswer (Err Missing) = ⊥
IsNoAnswer (Err Failed) = Unit {0}
IsNoAnswer (Err NoMemory) = Unit {0}

-- no scalar is refused: neither one that leaves the limits of its kind nor one that the kind can't carry
abbrev pub RefusesNoScalar : {A : Type 0} → Result A SerdeError → Type 0
RefusesNoScalar result = (IsErrOf result TooWide → ⊥) × (IsErrOf result NotCarried → ⊥)

-- no scalar is refused, and nothing for being of another type
abbrev pub RefusesNoKind : {A : Type 0} → Result A SerdeError → Type 0
RefusesNoKind result = RefusesNoScalar result × (IsErrOf result TypeMismatch → ⊥)
