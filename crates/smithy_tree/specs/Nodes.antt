-- The values of nodes, each from those of the nodes before it.
use Rattle.std.specs.Prelude.{ℕ, ℤ, ◌+◌, ◌≤◌, ◌<◌, ◌+ℤ◌, ◌*ℤ◌, pos, List, [], ◌∷◌, ◌++◌, take, drop, length, get_or, ◌⊎◌, IsUtf8}
use Rattle.smithy_instants.specs.Instant.{nanos_per_second}
use Rattle.smithy_types.specs.Document.{whole_document}
use Rattle.smithy_types.specs.DocumentView.{document_view}
use Rattle.smithy_declarations.specs.Value.{Value, scalar_value, boolean, whole, text, bytes, decimal, instant, list, map, structure, union, null_element, document_value, values_of}
use Rattle.smithy_tree.specs.Items.{Item, nothing, whole_values, elements_of, members_of, entries_of}
use Rattle.smithy_tree.specs.declared.node.Node.{Node}
use Rattle.smithy_tree.specs.declared.node.Rare.{Rare}
use Rattle.smithy_tree.specs.declared.node.Slot.{Slot}
use Rattle.smithy_tree.specs.declared.node.Node.TheVariants as nodes
use Rattle.smithy_tree.specs.declared.node.Rare.TheVariants as rares

-- what nodes name by places: the bytes of the input, those beside it, the rare values, and the whole numbers of lists
pub record Store : Type 0 where
  pub input : List ℕ
  pub side : List ℕ
  pub rare : List Value
  pub numbers : List ℤ

-- the bytes of the input and those beside it
abbrev pub bytes_in : Store → List ℕ
bytes_in s = s.input ++ s.side

-- so many bytes from a place on
abbrev pub slice_of : List ℕ → ℕ → ℕ → List ℕ
slice_of all at size = take size (drop at all)

-- the key of a child, among these bytes
abbrev pub slot_key : List ℕ → Slot → List ℕ
slot_key all x = slice_of all x.first x.second

abbrev pub rare_value : Rare → Value
rare_value (rares.Large n) = scalar_value (whole n)
rare_value (rares.Decimal m e) = scalar_value (decimal m e)
rare_value (rares.Document d) = document_value (whole_document (document_view d))

-- the member of a union that a child is
abbrev pub union_of : Item → Value
union_of x = union x.position x.shown

-- the value of a node over the values of the nodes before it
abbrev pub node_value : Store → List Item → Node → Value
node_value s vs (nodes.Boolean b) = scalar_value (boolean b)
node_value s vs (nodes.Whole n) = scalar_value (whole n)
node_value s vs (nodes.Timestamp nanos secs) = scalar_value (instant (secs *ℤ pos nanos_per_second +ℤ pos nanos))
node_value s vs (nodes.Text at size) = scalar_value (text (slice_of (bytes_in s) at size))
node_value s vs (nodes.Bytes at size) = scalar_value (bytes (slice_of (bytes_in s) at size))
node_value s vs (nodes.List at count) = list (elements_of (take count (drop at vs)))
node_value s vs (nodes.Numbers at count) = list (values_of (whole_values (take count (drop at s.numbers))))
node_value s vs (nodes.Map at count) = map (entries_of (take count (drop at vs)))
node_value s vs (nodes.Structure at count) = structure (members_of (take count (drop at vs)))
node_value s vs (nodes.Union at) = union_of (get_or vs at nothing)
node_value s vs nodes.Null = null_element
node_value s vs (nodes.Rare k) = get_or s.rare k null_element

abbrev pub item : Store → List Item → Slot → Item
item s vs x = record { position = x.first; key = slot_key (bytes_in s) x; shown = node_value s vs x.node }

-- the values of some nodes that all stand over the same values
abbrev pub values_over : Store → List Item → List Slot → List Item
values_over s vs [] = []
values_over s vs (x ∷ xs) = item s vs x ∷ values_over s vs xs

-- the values of nodes that stand one behind another, behind given ones
abbrev pub values_after : Store → List Item → List Slot → List Item
values_after s vs [] = vs
values_after s vs (x ∷ xs) = values_after s (vs ++ item s vs x ∷ []) xs

-- the child that a whole number is, without a label
abbrev pub number_slot : ℤ → Slot
number_slot n = record { first = 0; second = 0; node = nodes.Whole n }

-- a place, or a number of what stands there, that 32 bits don't hold
abbrev pub LeavesPlaces : ℕ → ℕ → Type 0
LeavesPlaces at count = (4294967295 < at) ⊎ (4294967295 < count)

-- so many bytes stand there, all in the input or all beside it: where they end behind the input, they begin behind it
pub record IsPart (input side : List ℕ) (at size : ℕ) : Type 0 where
  pub within : at + size ≤ length input + length side
  pub apart : length input < at + size → length input ≤ at

-- a text stands there
pub record IsSpan (input side : List ℕ) (at size : ℕ) : Type 0 where
  pub part : IsPart input side at size
  pub text : IsUtf8 (slice_of (input ++ side) at size)

-- a node that may stand behind so many others
abbrev pub IsNode : Store → ℕ → Node → Type 0
IsNode s k (nodes.Boolean b) = Unit {0}
IsNode s k (nodes.Whole n) = Unit {0}
IsNode s k (nodes.Timestamp nanos secs) = nanos < nanos_per_second
IsNode s k (nodes.Text at size) = IsSpan s.input s.side at size
IsNode s k (nodes.Bytes at size) = IsPart s.input s.side at size
IsNode s k (nodes.List at count) = at + count ≤ k
IsNode s k (nodes.Numbers at count) = at + count ≤ length s.numbers
IsNode s k (nodes.Map at count) = at + count ≤ k
IsNode s k (nodes.Structure at count) = at + count ≤ k
IsNode s k (nodes.Union at) = at < k
IsNode s k nodes.Null = Unit {0}
IsNode s k (nodes.Rare n) = n < length s.rare

-- a key where there is one
pub record IsLabel (input side : List ℕ) (at size : ℕ) : Type 0 where
  pub key : 0 < size → IsSpan input side at size

abbrev pub IsSlot : Store → ℕ → Slot → Type 0
IsSlot s k x = IsNode s k x.node × IsLabel s.input s.side x.first x.second

-- each is a child that may stand behind k nodes
abbrev pub AreNodes : Store → ℕ → List Slot → Type 0
AreNodes s k [] = Unit {0}
AreNodes s k (x ∷ xs) = IsSlot s k x × AreNodes s k xs

-- each stands behind those before it
abbrev pub AreBehind : Store → ℕ → List Slot → Type 0
AreBehind s k [] = Unit {0}
AreBehind s k (x ∷ xs) = IsSlot s k x × AreBehind s (k + 1) xs
