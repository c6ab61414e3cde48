-- Where CBOR lies in an input: the framing of CBOR, and the relations of reading that follow.
use Rattle.std.specs.Prelude.{◌≡◌, ◌⊎◌, ◌<◌, ◌-◌, ◌==◌, ℕ, zero, suc, length, drop, List, [], ◌∷◌, Option, Some, None, Bool, true, false, if◌then◌else◌}
use Rattle.smithy_schema.specs.Reading.{Relations, Reader, reader, Mark}
use Rattle.cbor_item.specs.Item.{Item}
use Rattle.cbor_item.specs.WellFormed.{IsItemAt, break}
use Rattle.smithy_cbor_values.specs.Settings.{Settings, without_limits}
use Rattle.smithy_cbor_values.specs.Meaning.{node_of, rules_of}
use Rattle.smithy_cbor.specs.Reading.{OpensAt}
use Rattle.smithy_cbor_values.specs.Openers.{cbor_openers}
use Rattle.smithy_wire.specs.Node.{Form, as_array, as_object, leaf}
use Rattle.smithy_wire.specs.Frames.{Frames, relations}

-- the initial byte of null (section 3.3)
abbrev pub null_byte : ℕ
null_byte = 0xf6

-- the byte comes first
abbrev pub begins_with : ℕ → List ℕ → Bool
begins_with byte [] = false
begins_with byte (b ∷ bytes) = b == byte

-- what stands outside of all containers ends at the end of the input
abbrev pub Follows : ℕ → List ℕ → ℕ → Type 0
Follows zero input e = e ≡ length input
Follows (suc depth) input e = Unit {0}

-- where nothing is strict, bytes may follow an item, so what stands outside of all containers ends as inside of one
abbrev pub end_depth : Bool → ℕ → ℕ
end_depth strict depth = if strict then depth else suc depth

-- the innermost of so many open containers may end at e: the only one ends as what stands outside of all
abbrev pub FollowsInside : Bool → ℕ → List ℕ → ℕ → Type 0
FollowsInside strict zero input e = ⊥
FollowsInside strict (suc depth) input e = Follows (end_depth strict depth) input e

-- nothing is left from a on, so that a structure may be missing there: strictly, in an empty input alone
abbrev pub RestIsEmpty : Bool → List ℕ → ℕ → Type 0
RestIsEmpty strict input a = (a ≡ length input) × (strict ≡ true → a ≡ 0)

-- the mark of a container with so many entries due, or of indefinite length; whether an entry has come
-- makes no difference
abbrev pub mark_with : Option ℕ → Mark
mark_with due = record { entered = false; at_end = false; due = due }

-- the mark of a structure that was opened where nothing is left
abbrev pub end_mark : Mark
end_mark = record { entered = false; at_end = true; due = None }

-- Another entry comes, and after its key and value the container has the mark n. The input isn't at its end, and the entry was
-- announced, or begins with a byte other than a break.
abbrev pub HasEntry : List ℕ → ℕ → Mark → Mark → Type 0
HasEntry input b m n =
    (b < length input)
    × (((count : ℕ) × (m.due ≡ Some (suc count)) × (n ≡ mark_with (Some count)))
    ⊎ ((m.due ≡ None) × (begins_with break (drop b input) ≡ false) × (n ≡ mark_with None)))

-- the entries are over, and the container ends at e: all that were announced have come, or a break comes
abbrev pub IsOver : List ℕ → ℕ → Mark → ℕ → Type 0
IsOver input b m e =
    ((m.due ≡ Some 0) × (e ≡ b))
    ⊎ ((m.due ≡ None) × (begins_with break (drop b input) ≡ true) × (e ≡ suc b))

-- the major type of a container (section 3.1)
abbrev pub major_in : Form → ℕ
major_in as_array = 4
major_in as_object = 5

-- another element of an array comes, or another key of a map; the value of either is due at c
abbrev pub Entry : Form → List ℕ → ℕ → Mark → Option Item → ℕ → Mark → Type 0
Entry as_array input b m key c n = (key ≡ None) × (c ≡ b) × HasEntry input b m n
Entry as_object input b m key c n =
    HasEntry input b m n × ((k : Item) × IsItemAt k input b c × (key ≡ Some k))

-- from a to e stands an item that is no container and no null, inside of so many containers
abbrev pub IsScalarAt : List ℕ → ℕ → Item → ℕ → ℕ → Type 0
IsScalarAt input depth x a e = (node_of x ≡ leaf x) × IsItemAt x input a e × Follows depth input e

-- A null is one byte. Each entry takes a byte at least, so what is left of a container is counted in bytes.
abbrev pub cbor_frames : Bool → Frames Item
cbor_frames strict = record {
  null = λ input depth a e. (begins_with null_byte (drop a input) ≡ true) × (e ≡ suc a) × Follows (end_depth strict depth) input e;
  scalar = λ input depth x a e. IsScalarAt input (end_depth strict depth) x a e;
  opens = λ form input a b m. (due : Option ℕ) × (m ≡ mark_with due) × OpensAt (major_in form) due input a b;
  entry = Entry;
  ends = λ form input b m e. IsOver input b m e;
  follows = λ input depth e. FollowsInside strict depth input e;
  is_over = λ input a e. RestIsEmpty strict input a × (e ≡ a);
  over_mark = end_mark;
  left = λ input b m. length input - b;
  begins_null = λ input a. begins_with null_byte (drop a input);
  openers = cbor_openers;
}

-- the framing by settings
abbrev pub frames_of : Settings → Frames Item
frames_of c = cbor_frames c.enforce_strictness

abbrev pub cbor_relations : Settings → Relations
cbor_relations c = relations (frames_of c) (rules_of c)

-- what the calls of a reader of CBOR are told by; what its refusals say of the lifted relations, they say where reading is strict
abbrev pub cbor_reader : Settings → Reader
cbor_reader c = reader (cbor_relations c) (cbor_relations (without_limits c)) (c.enforce_strictness ≡ true) c.max_depth
