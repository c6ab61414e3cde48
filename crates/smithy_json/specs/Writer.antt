-- What the writers add to a text, and what they lend.
use Rattle.std.specs.Prelude.{◌≡◌, ◌++◌, ℕ, List, [], ◌∷◌, length, nat_lt, if◌then◌else◌, Result, IfOk, OnOk, OnErr, String, string_bytes}
use Rattle.std.specs.Borrow.{RattleType, RestsIfErr, MutBor, Fml, follows, follows_so, name_if_ok, GName}
use Rattle.std.specs.declared.alloc.AllocError.{AllocError}
use Rattle.std.specs.declared.alloc.Global.{Global}
use Rattle.std.specs.contracts.string.String as text
use Rattle.std.specs.contracts.alloc.Global as global
use Rattle.std.specs.contracts.impls.GlobalAllocator.TheImpl.{ghosts}
use Rattle.smithy_json_grammar.specs.Ascii.{value_separator}
use Rattle.smithy_json.specs.ValueTexts.{name_text}
use Rattle.smithy_json.specs.declared.writer.JsonValueWriter.{JsonValueWriter}
use Rattle.smithy_json.specs.declared.writer.JsonArrayWriter.{JsonArrayWriter}
use Rattle.smithy_json.specs.declared.writer.JsonObjectWriter.{JsonObjectWriter}
use Rattle.smithy_json.specs.contracts.writer.JsonArrayWriter as array
use Rattle.smithy_json.specs.contracts.writer.JsonObjectWriter as object
use mir.Syntax.{named}

-- what stands before an element or a member: a comma, unless it is the first, which begins at the
-- start
abbrev pub separator : ℕ → List ℕ → List ℕ
separator start text = if nat_lt start (length text) then value_separator ∷ [] else []

-- the text that a value is written to, so far
abbrev pub value_text : JsonValueWriter → List ℕ
value_text w = string_bytes w.output.now

-- the borrow that a value is written through
abbrev pub value_borrow : JsonValueWriter → GName
value_borrow w = w.output.ghost_name

-- the text that an array is written to, so far; the offset in it where the array's elements begin; and its borrow
abbrev pub array_text : JsonArrayWriter → List ℕ
array_text w = string_bytes w.json.now

abbrev pub array_start : JsonArrayWriter → ℕ
array_start w = w.start

abbrev pub array_borrow : JsonArrayWriter → GName
array_borrow w = w.json.ghost_name

-- the text that an object is written to, so far; the offset in it where the object's members begin; and its borrow
abbrev pub object_text : JsonObjectWriter → List ℕ
object_text w = string_bytes w.json.now

abbrev pub object_start : JsonObjectWriter → ℕ
object_start w = w.start

abbrev pub object_borrow : JsonObjectWriter → GName
object_borrow w = w.json.ghost_name

-- what comes before the next element of an array, and before the value of an object's next member
abbrev pub before_element : JsonArrayWriter → List ℕ
before_element w = separator (array_start w) (array_text w)

abbrev pub before_member : List ℕ → JsonObjectWriter → List ℕ
before_member name w = separator (object_start w) (object_text w) ++ name_text name

-- what is seen of an array or an object that has begun
pub record Seen (W : Type 0) : Type 0 where
  pub text : W → List ℕ
  pub start : W → ℕ
  pub borrow : W → GName

abbrev pub seen_array : Seen JsonArrayWriter
seen_array = record { text = array_text; start = array_start; borrow = array_borrow }

abbrev pub seen_object : Seen JsonObjectWriter
seen_object = record { text = object_text; start = object_start; borrow = object_borrow }

-- What a call says of its answer that begins an array or an object: its bracket stands behind what was written through the borrow
-- before, and its parts begin behind that.
pub record Begins {W : Type 0} (seen : Seen W) (borrow : GName) (before bracket : List ℕ) (result : Result W AllocError) : Type 0 where
  pub same_borrow : IfOk result (λ w. seen.borrow w ≡ borrow)
  pub value : IfOk result (λ w. seen.text w ≡ before ++ bracket)
  pub start : IfOk result (λ w. seen.start w ≡ length (seen.text w))

-- What a call says that adds to an array or an object. Where it is refused, nothing is added.
pub record AddsTo {W T : Type 0} (seen : Seen W) (part : List ℕ) (old : W) (result : Result T AllocError) (new : W) : Type 0 where
  pub same_borrow : seen.borrow new ≡ seen.borrow old
  pub same_start : seen.start new ≡ seen.start old
  pub ok : OnOk result (seen.text new ≡ seen.text old ++ part)
  pub err : OnErr result (seen.text new ≡ seen.text old)

-- ---- what is left once a borrow has ended

abbrev pub string_row : RattleType
string_row = text.the_row global.the_row ghosts

-- where no array was begun, the text stays as it was
abbrev pub RestsWithoutArray : MutBor (String Global) → Result JsonArrayWriter AllocError → Fml
RestsWithoutArray output result =
    RestsIfErr string_row output array_borrow result
    (λ end. string_bytes end ≡ string_bytes output.now)

abbrev pub ValueRestsWithoutArray : JsonValueWriter → Result JsonArrayWriter AllocError → Fml
ValueRestsWithoutArray value result = RestsWithoutArray value.output result

-- where no object was begun, the text stays as it was
abbrev pub RestsWithoutObject : MutBor (String Global) → Result JsonObjectWriter AllocError → Fml
RestsWithoutObject output result =
    RestsIfErr string_row output object_borrow result
    (λ end. string_bytes end ≡ string_bytes output.now)

abbrev pub ValueRestsWithoutObject : JsonValueWriter → Result JsonObjectWriter AllocError → Fml
ValueRestsWithoutObject value result = RestsWithoutObject value.output result

-- the array with another text
abbrev pub with_array_text : JsonArrayWriter → String Global → JsonArrayWriter
with_array_text w text = record w { json = record w.json { now = text } }

abbrev pub array_row : RattleType
array_row = array.the_row (record { mir = named 1; lft = [] })

-- what is written through the borrow is the array's text
abbrev pub LendsArrayText : MutBor JsonArrayWriter → GName → Fml
LendsArrayText w borrow = follows array_row string_row w.ghost_name borrow (with_array_text w.now)

-- both writers of an array have equal texts, begin their elements at one offset, and have one borrow
abbrev pub IsSameArray : JsonArrayWriter → JsonArrayWriter → Type 0
IsSameArray old new =
    (array_text new ≡ array_text old) × (array_start new ≡ array_start old)
    × (array_borrow new ≡ array_borrow old)

-- what is written through the result's borrow is the array's text, and without a result the array
-- stays as it was
abbrev pub LendsElement : {A : Type 0} → MutBor JsonArrayWriter → (A → GName) → Result A AllocError → Fml
LendsElement w borrow result =
    follows_so array_row string_row w.ghost_name (name_if_ok borrow result)
    (λ text end. OnOk result (end ≡ with_array_text w.now text))
    (λ end. OnErr result (IsSameArray w.now end))

-- the object with another text
abbrev pub with_object_text : JsonObjectWriter → String Global → JsonObjectWriter
with_object_text w text = record w { json = record w.json { now = text } }

abbrev pub object_row : RattleType
object_row = object.the_row (record { mir = named 1; lft = [] })

-- what is written through the borrow is the object's text
abbrev pub LendsObjectText : MutBor JsonObjectWriter → GName → Fml
LendsObjectText w borrow = follows object_row string_row w.ghost_name borrow (with_object_text w.now)

-- both writers of an object have equal texts, begin their members at one offset, and have one borrow
abbrev pub IsSameObject : JsonObjectWriter → JsonObjectWriter → Type 0
IsSameObject old new =
    (object_text new ≡ object_text old) × (object_start new ≡ object_start old)
    × (object_borrow new ≡ object_borrow old)

-- what is written through the result's borrow is the object's text, and without a result the object
-- stays as it was
abbrev pub LendsMember : {A : Type 0} → MutBor JsonObjectWriter → (A → GName) → Result A AllocError → Fml
LendsMember w borrow result =
    follows_so object_row string_row w.ghost_name (name_if_ok borrow result)
    (λ text end. OnOk result (end ≡ with_object_text w.now text))
    (λ end. OnErr result (IsSameObject w.now end))
