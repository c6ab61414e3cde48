-- What the writers add to a text, and what they lend.
use Rattle.std.specs.Prelude.{◌≡◌, ◌==◌, Result, OnOk, OnErr, ℕ, suc, List, [], ◌∷◌, ◌++◌, Bool, if◌then◌else◌, String, string_bytes, codes, decimal}
use Rattle.std.specs.Str.{byte}
use Rattle.std.specs.Borrow.{RattleType, RestsIfErr, MutBor, GName, Fml, follows, follows_so, name_if_ok}
use Rattle.std.specs.declared.alloc.AllocError.{AllocError}
use Rattle.std.specs.declared.alloc.Global.{Global}
use Rattle.std.specs.contracts.string.String as text
use Rattle.std.specs.contracts.alloc.Global as global
use Rattle.std.specs.contracts.impls.GlobalAllocator.TheImpl.{ghosts}
use Rattle.smithy_query.specs.Form.{pair_text}
use Rattle.smithy_query.specs.declared.writer.QueryWriter.{QueryWriter}
use Rattle.smithy_query.specs.declared.writer.QueryValueWriter.{QueryValueWriter}
use Rattle.smithy_query.specs.declared.writer.QueryListWriter.{QueryListWriter}
use Rattle.smithy_query.specs.declared.writer.QueryMapWriter.{QueryMapWriter}
use Rattle.smithy_query.specs.contracts.writer.QueryWriter as form
use Rattle.smithy_query.specs.contracts.writer.QueryValueWriter as value
use Rattle.smithy_query.specs.contracts.writer.QueryListWriter as list
use Rattle.smithy_query.specs.contracts.writer.QueryMapWriter as map
use mir.Syntax.{named}

-- segments of a path, outermost first
abbrev pub Path : Type 0
Path = List (List ℕ)

-- a path with further segments, each behind a point
abbrev pub further : List ℕ → Path → List ℕ
further prefix [] = prefix
further prefix (segment ∷ more) = further (prefix ++ byte "." ∷ segment) more

-- the segments of the i-th element of a list, under the name of its elements unless it is flat
abbrev pub element_path : Bool → List ℕ → ℕ → Path
element_path is_flat member i = (if is_flat then [] else member ∷ []) ++ decimal i ∷ []

-- the segments of the key or the value of the i-th entry of a map, under `entry` unless it is flat
abbrev pub entry_path : Bool → ℕ → List ℕ → Path
entry_path is_flat i name = (if is_flat then [] else codes "entry" ∷ []) ++ decimal i ∷ name ∷ []

-- a list without elements has one pair without a text
abbrev pub empty_text : List ℕ → ℕ → List ℕ
empty_text prefix next = if next == 1 then pair_text prefix [] else []

-- ---- the writers, which own the text of their path

abbrev pub ValueWriter : Type 0
ValueWriter = QueryValueWriter (String Global)

abbrev pub ListWriter : Type 0
ListWriter = QueryListWriter (String Global)

abbrev pub MapWriter : Type 0
MapWriter = QueryMapWriter (String Global)

-- ---- the text so far that a writer writes to, and its borrow

abbrev pub form_text : QueryWriter → List ℕ
form_text w = string_bytes w.output.now

abbrev pub form_borrow : QueryWriter → GName
form_borrow w = w.output.ghost_name

abbrev pub value_text : ValueWriter → List ℕ
value_text w = string_bytes w.output.now

abbrev pub value_borrow : ValueWriter → GName
value_borrow w = w.output.ghost_name

abbrev pub list_text : ListWriter → List ℕ
list_text w = string_bytes w.output.now

abbrev pub list_borrow : ListWriter → GName
list_borrow w = w.output.ghost_name

abbrev pub map_text : MapWriter → List ℕ
map_text w = string_bytes w.output.now

abbrev pub map_borrow : MapWriter → GName
map_borrow w = w.output.ghost_name

-- ---- the path of a writer

abbrev pub value_prefix : ValueWriter → List ℕ
value_prefix w = w.base.now ++ string_bytes w.rest

abbrev pub list_prefix : ListWriter → List ℕ
list_prefix w = w.base.now ++ string_bytes w.rest

abbrev pub map_prefix : MapWriter → List ℕ
map_prefix w = w.base.now ++ string_bytes w.rest

-- ---- the number of the next part, from 1 on; what a writer was begun with; and the next part's segments

abbrev pub list_index : ListWriter → ℕ
list_index w = w.next_index

abbrev pub map_index : MapWriter → ℕ
map_index w = w.next_index

abbrev pub list_is_flat : ListWriter → Bool
list_is_flat w = w.is_flat

abbrev pub list_member : ListWriter → List ℕ
list_member w = w.member.now

abbrev pub map_is_flat : MapWriter → Bool
map_is_flat w = w.is_flat

abbrev pub map_key_name : MapWriter → List ℕ
map_key_name w = w.key_name.now

abbrev pub map_value_name : MapWriter → List ℕ
map_value_name w = w.value_name.now

abbrev pub next_element : ListWriter → Path
next_element w = element_path (list_is_flat w) (list_member w) (list_index w)

abbrev pub next_key : MapWriter → Path
next_key w = entry_path (map_is_flat w) (map_index w) (map_key_name w)

abbrev pub next_value : MapWriter → Path
next_value w = entry_path (map_is_flat w) (map_index w) (map_value_name w)

-- ---- what is left once a borrow has ended

abbrev pub string_row : RattleType
string_row = text.the_row global.the_row ghosts

-- where no form was begun, the text stays as it was
abbrev pub RestsWithoutForm : MutBor (String Global) → Result QueryWriter AllocError → Fml
RestsWithoutForm output result =
    RestsIfErr string_row output form_borrow result
    (λ end. string_bytes end ≡ string_bytes output.now)

abbrev pub form_row : RattleType
form_row = form.the_row (record { mir = named 1; lft = [] })

abbrev pub with_form_text : QueryWriter → String Global → QueryWriter
with_form_text w text = record w { output = record w.output { now = text } }

-- what is written through the borrow is the form's text
abbrev pub LendsFormText : MutBor QueryWriter → GName → Fml
LendsFormText w borrow = follows form_row string_row w.ghost_name borrow (with_form_text w.now)

abbrev pub value_row : RattleType
value_row = value.the_row (record { mir = named 1; lft = [] }) string_row

abbrev pub with_value_text : ValueWriter → String Global → ValueWriter
with_value_text w text = record w { output = record w.output { now = text } }

-- both writers of a value have equal texts, and differ at most in where the text lies in memory
abbrev pub IsSameValue : ValueWriter → ValueWriter → Type 0
IsSameValue old new = (value_text new ≡ value_text old) × (new ≡ with_value_text old new.output.now)

-- what is written through the result's borrow is the value's text; without a result the value stays as it
-- was
abbrev pub LendsValueText : {A : Type 0} → MutBor ValueWriter → (A → GName) → Result A AllocError → Fml
LendsValueText w borrow result =
    follows_so value_row string_row w.ghost_name (name_if_ok borrow result)
    (λ text end. OnOk result (end ≡ with_value_text w.now text))
    (λ end. OnErr result (IsSameValue w.now end))

abbrev pub list_row : RattleType
list_row = list.the_row (record { mir = named 1; lft = [] }) string_row

abbrev pub with_list_text : ListWriter → String Global → ListWriter
with_list_text w text = record w { output = record w.output { now = text } }

-- the list with another text and one element more
abbrev pub with_element : ListWriter → String Global → ListWriter
with_element w text = record w { output = record w.output { now = text }; next_index = suc w.next_index }

abbrev pub IsSameList : ListWriter → ListWriter → Type 0
IsSameList old new = (list_text new ≡ list_text old) × (new ≡ with_list_text old new.output.now)

-- what is written through the result's borrow is the list's text, and counts as an element; without a
-- result the list stays as it was
abbrev pub LendsElement : {A : Type 0} → MutBor ListWriter → (A → GName) → Result A AllocError → Fml
LendsElement w borrow result =
    follows_so list_row string_row w.ghost_name (name_if_ok borrow result)
    (λ text end. OnOk result (end ≡ with_element w.now text))
    (λ end. OnErr result (IsSameList w.now end))

abbrev pub map_row : RattleType
map_row = map.the_row (record { mir = named 1; lft = [] }) string_row

abbrev pub with_map_text : MapWriter → String Global → MapWriter
with_map_text w text = record w { output = record w.output { now = text } }

-- the map with another text and one entry more
abbrev pub with_entry : MapWriter → String Global → MapWriter
with_entry w text = record w { output = record w.output { now = text }; next_index = suc w.next_index }

abbrev pub IsSameMap : MapWriter → MapWriter → Type 0
IsSameMap old new = (map_text new ≡ map_text old) × (new ≡ with_map_text old new.output.now)

-- what is written through the result's borrow is the map's text, and counts as an entry; without a
-- result the map stays as it was
abbrev pub LendsEntry : {A : Type 0} → MutBor MapWriter → (A → GName) → Result A AllocError → Fml
LendsEntry w borrow result =
    follows_so map_row string_row w.ghost_name (name_if_ok borrow result)
    (λ text end. OnOk result (end ≡ with_entry w.now text))
    (λ end. OnErr result (IsSameMap w.now end))
