-- What a call of the library asks for, and what it answers.
use Rattle.std.specs.Prelude.{◌≡◌, ◌≢◌, ◌⊎◌, ◌≤◌, ◌<◌, ◌==◌, ◌++◌, ℕ, List, length, drop, true, false, Option, Some, None, option_map, option_and_then, Ok, Err, if◌then◌else◌}
use Rattle.std.specs.Str.{is_utf8}
use Rattle.smithy_declarations.specs.Acceptance.{Fault, refused, table_of}
use Rattle.smithy_declarations.specs.Table.{Table, IsStructure, kind_of, shape_place, declared_as}
use Rattle.smithy_transcode.specs.Wires.{Wire, json, cbor, query}
use Rattle.smithy_transcode.specs.Transcoding.{Answer, Transcodes}
use Rattle.smithy_transcode.specs.Numbers.{error_number}
use Rattle.smithy_transcode_c.specs.Refusals.{refusal_number}
use Rattle.smithy_transcode_c.specs.declared.refusal.Refusal.{Refusal}
use Rattle.smithy_transcode_c.specs.declared.refusal.Refusal.TheVariants.{Usage, OutOfMemory, TableRefused, NoSuchShape, NotAStructure}

-- what a call asks for: a root by its name, and two wires by their numbers
pub record Asked : Type 0 where
  pub root_name : List ℕ
  pub from : ℕ
  pub to : ℕ
  -- those of a form
  pub action : List ℕ
  pub version : List ℕ

-- the wire of a number that is read as well as written
abbrev pub common_wire : ℕ → Option Wire
common_wire n =
    if n == 0 then Some (json false false)
    else if n == 1 then Some (json true false)
    else if n == 2 then Some (cbor false)
    else None

-- the wire of a number from which bodies are read: one of those, or JSON whose integers may have a fraction or an exponent, which is
-- read alone
abbrev pub source_wire : ℕ → Option Wire
source_wire n =
    if n == 5 then Some (json false true)
    else if n == 6 then Some (json true true)
    else common_wire n

-- the text that some bytes are
abbrev pub text_of : List ℕ → Option (List ℕ)
text_of bytes = if is_utf8 bytes then Some bytes else None

-- a form of an action and a version that are texts
abbrev pub form_of : List ℕ → List ℕ → Option Wire
form_of action version = option_and_then (λ a. option_map (query a) (text_of version)) (text_of action)

-- the wire of a number to which bodies are written: one of those, a form, or CBOR with lengths, which are written alone
abbrev pub target_wire : Asked → Option Wire
target_wire asked =
    if asked.to == 3 then form_of asked.action asked.version
    else if asked.to == 4 then Some (cbor true)
    else common_wire asked.to

-- the structure of the table, and the wires, that are asked for
pub record IsMeant (table : Table) (asked : Asked) (root : ℕ) (from to : Wire) : Type 0 where
  pub named : declared_as table asked.root_name ≡ Some root
  pub structure : IsStructure (kind_of table (shape_place root))
  pub source : source_wire asked.from ≡ Some from
  pub target : target_wire asked ≡ Some to

-- why a name is that of no root
abbrev pub RefusesRoot : Table → List ℕ → Refusal → Type 0
RefusesRoot table name NoSuchShape = (text_of name ≡ None) ⊎ (declared_as table name ≡ None)
RefusesRoot table name NotAStructure =
    (root : ℕ) × (declared_as table name ≡ Some root) × ¬ IsStructure (kind_of table (shape_place root))
RefusesRoot table name _ = ⊥

-- both wires that are asked for are there: their numbers, and the action and the version of a form
abbrev pub HasWires : Asked → Type 0
HasWires asked = (source_wire asked.from ≢ None) × (target_wire asked ≢ None)

-- why a call has nothing to transcode: the wires come before the root, and want of memory is told only where both wires are there
abbrev pub Refuses : Table → Asked → Refusal → Type 0
Refuses table asked Usage = (source_wire asked.from ≡ None) ⊎ (target_wire asked ≡ None)
Refuses table asked OutOfMemory = HasWires asked
Refuses table asked status = HasWires asked × RefusesRoot table asked.root_name status

-- the name is that of this structure of the table, and the wire that is asked for is this
pub record IsMeantAlone (table : Table) (root_name : List ℕ) (asked : Option Wire) (root : ℕ) (wire : Wire) : Type 0 where
  pub named : declared_as table root_name ≡ Some root
  pub structure : IsStructure (kind_of table (shape_place root))
  pub is_wire : asked ≡ Some wire

-- why a call that asks for one wire has nothing to do: the wire comes before the root
abbrev pub RefusesAlone : Table → (root_name : List ℕ) → (asked : Option Wire) → Refusal → Type 0
RefusesAlone table root_name asked Usage = asked ≡ None
RefusesAlone table root_name asked OutOfMemory = asked ≢ None
RefusesAlone table root_name asked status = (asked ≢ None) × RefusesRoot table root_name status

-- these stand at the front of the caller's memory, behind which all stays as it was
abbrev pub StandsFirst : (items before after : List ℕ) → Type 0
StandsFirst items before after = (length items ≤ length before) × (after ≡ items ++ drop (length items) before)

-- The bytes stand at the front of the room, which this number tells; or the room is too short for them, and stays as it was.
abbrev pub IsHandedOut : (done : ℕ) → (bytes room : List ℕ) → (number : ℕ) → (out : List ℕ) → Type 0
IsHandedOut done bytes room number out =
    ((number ≡ done) × StandsFirst bytes room out)
    ⊎ ((number ≡ 24) × (length room < length bytes) × (out ≡ room))

-- what becomes of an answer of `transcode`: the number of the call, the length of the body, and the caller's memory
abbrev pub IsPassedOn : Answer → (room : List ℕ) → (number body_len : ℕ) → (out : List ℕ) → Type 0
IsPassedOn (Ok body) room number body_len out = (body_len ≡ length body.items) × IsHandedOut 0 body.items room number out
IsPassedOn (Err error) room number body_len out =
    (number ≡ error_number error) × (body_len ≡ 0) × (out ≡ room)

-- What a call answers: why it has nothing to transcode, or what becomes of the answer of `transcode`.
abbrev pub CallAnswer : Table → Asked → (input room : List ℕ) → (number body_len : ℕ) → (out : List ℕ) → Type 0
CallAnswer table asked input room number body_len out =
    ((refusal : Refusal) × Refuses table asked refusal × (number ≡ refusal_number refusal) × (body_len ≡ 0) × (out ≡ room))
    ⊎ ((root : ℕ) × (from : Wire) × (to : Wire) × (answer : Answer) × IsMeant table asked root from to
    × Transcodes table root from input to answer × IsPassedOn answer room number body_len out)

-- why a text is no table
abbrev pub RefusesTable : List ℕ → Refusal → Type 0
RefusesTable text OutOfMemory = Unit {0}
RefusesTable text TableRefused = (f : Fault) × (n : ℕ) × (table_of text ≡ refused f n)
RefusesTable text _ = ⊥
