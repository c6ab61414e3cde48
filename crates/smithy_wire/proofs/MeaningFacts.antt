-- Examples of what nodes mean at places of each kind of containers, and of the nodes that are written, by computing.
use Rattle.std.specs.Prelude.{◌≡◌, ℕ, ℤ, pos, List, [], ◌∷◌, map as list_map, true, false, Option, Some, None, refl, codes}
use Rattle.smithy_declarations.specs.declared.shape_type.Scalar.{Scalar}
use Rattle.smithy_declarations.specs.declared.shape_type.Scalar.TheVariants as scalars
use Rattle.smithy_declarations.specs.declared.shape_type.TimestampFormat.{TimestampFormat}
use Rattle.smithy_shapes.specs.Limits.{Limits, kept, lifted}
use Rattle.smithy_declarations.specs.Table as table
use Rattle.smithy_declarations.specs.Table.{Table, Member, Shape, scalar_place, shape_place, kind_of}
use Rattle.smithy_declarations.specs.Value.{ScalarValue, whole, text, Value, scalar_value, list, map, structure, union, null_element, no_values, value, no_map_entries, map_entry, no_member_values, member_value}
use Rattle.smithy_wire.specs.Node.{as_array, as_object, Node, null_node, leaf, container, missing, Nodes, no_nodes, node}
use Rattle.smithy_wire.specs.Rules.{Answer, means, no_meaning, wide, uncarried, settled, Rules, is_mark, is_dropped}
use Rattle.smithy_wire.specs.Meaning.{meaning}
use Rattle.smithy_wire.specs.Written.{Leaves, written_node}

-- ---- a wire of numbers and texts

pub data Atom : Type 0 where
  a_number : ℤ → Atom
  a_text : List ℕ → Atom

abbrev text_of : Atom → Option (List ℕ)
text_of (a_text s) = Some s
text_of _ = None

abbrev says : Scalar → Option TimestampFormat → Atom → Answer Value
says scalars.Long time (a_number n) = means (scalar_value (whole n))
says scalars.String time (a_text s) = means (scalar_value (text s))
says _ time x = no_meaning

-- at most three containers, one inside another
abbrev rules : Limits → Rules Atom
rules limits = record {
  text_of = text_of;
  says = says;
  documents = None;
  mismatches = λ kind time input a. false;
  skips_count = true;
  name_of = λ m. m.name;
  max_depth = 3;
  limits = limits;
  keeps_null = λ q. false;
  may_skip_scalar = λ x. true;
}

-- ---- a table

abbrev named : List ℕ → Scalar → Member
named name s = record { name = name; json_name = None; xml_name = None; is_flat = false; place = scalar_place s None }

-- structure S / member a long / member b string; union U with the same members; list L U; map M long; map N long sparse; union T / member __type long
abbrev shapes : List Shape
shapes =
    table.structure (named (codes "a") scalars.Long ∷ named (codes "b") scalars.String ∷ [])
    ∷ table.union (named (codes "a") scalars.Long ∷ named (codes "b") scalars.String ∷ [])
    ∷ table.list (record { place = shape_place 1; is_sparse = false; xml_name = None })
    ∷ table.map (record { place = scalar_place scalars.Long None; is_sparse = false; key_name = None; value_name = None })
    ∷ table.map (record { place = scalar_place scalars.Long None; is_sparse = true; key_name = None; value_name = None })
    ∷ table.union (named (codes "__type") scalars.Long ∷ []) ∷ []

abbrev a_table : Table
a_table = list_map (λ shape. record { name = []; shape = shape }) shapes

-- what a node means at a declaration, outside of all containers
abbrev at : ℕ → Node Atom → Option Value
at n x = meaning (rules kept) a_table (shape_place n) 0 x

-- ---- nodes

abbrev number : ℕ → Node Atom
number n = leaf (a_number (pos n))

abbrev object : List (List ℕ × Node Atom) → Node Atom
object entries = container as_object (all entries)
  where
    all : List (List ℕ × Node Atom) → Nodes Atom
    all [] = no_nodes
    all (e ∷ es) = node (Some (a_text e.0)) e.1 (all es)

abbrev a_is : ℕ → List ℕ × Node Atom
a_is n = (codes "a", number n)

abbrev b_is : List ℕ × Node Atom
b_is = (codes "b", leaf (a_text (codes "x")))

abbrev type_is : Node Atom → List ℕ × Node Atom
type_is x = (codes "__type", x)

abbrev whole_value : ℕ → Value
whole_value n = scalar_value (whole (pos n))

-- ---- answers

-- within the limits a meaning alone gives a value; without them what is too wide or isn't carried gives a null, too
pub answers : list_map (λ limits. list_map (settled limits null_element) (means (whole_value 1) ∷ no_meaning ∷ wide ∷ uncarried ∷ [])) (kept ∷ lifted ∷ [])
    ≡ (Some (whole_value 1) ∷ None ∷ None ∷ None ∷ []) ∷ (Some (whole_value 1) ∷ None ∷ Some null_element ∷ Some null_element ∷ []) ∷ []
answers = refl

-- ---- unions

-- exactly one member that isn't null; other nulls don't count, whichever key they have
pub one_variant : list_map (λ es. at 1 (object es))
    ((a_is 5 ∷ []) ∷ (b_is ∷ []) ∷ (a_is 5 ∷ (codes "b", null_node) ∷ (codes "c", null_node) ∷ []) ∷ [])
    ≡ Some (union 0 (whole_value 5)) ∷ Some (union 1 (scalar_value (text (codes "x")))) ∷ Some (union 0 (whole_value 5)) ∷ []
one_variant = refl

-- none, two, one twice, an unknown one beside it, one of another kind
pub no_variant : list_map (λ es. at 1 (object es))
    ([] ∷ ((codes "a", null_node) ∷ []) ∷ (a_is 5 ∷ b_is ∷ []) ∷ (a_is 5 ∷ a_is 5 ∷ []) ∷ (a_is 5 ∷ (codes "c", number 1) ∷ []) ∷ ((codes "b", number 1) ∷ []) ∷ [])
    ≡ None ∷ None ∷ None ∷ None ∷ None ∷ None ∷ []
no_variant = refl

-- each `__type` that names no member is dropped, whatever its value is
pub marks : list_map (λ es. at 1 (object es))
    ((type_is (number 1) ∷ a_is 5 ∷ type_is null_node ∷ []) ∷ (a_is 5 ∷ type_is (object (b_is ∷ [])) ∷ []) ∷ (type_is (number 1) ∷ []) ∷ [])
    ≡ Some (union 0 (whole_value 5)) ∷ Some (union 0 (whole_value 5)) ∷ None ∷ []
marks = refl

-- but for a value that nests too deep to be skipped
pub deep_marks : list_map (λ limits. meaning (rules limits) a_table (shape_place 1) 1 (object (a_is 5 ∷ type_is (object (type_is (object []) ∷ [])) ∷ []))) (kept ∷ lifted ∷ [])
    ≡ None ∷ Some (union 0 (whole_value 5)) ∷ []
deep_marks = refl

-- a `__type` that names a member is one, and in a structure each other is passed over
pub other_types : (at 5 (object (type_is (number 1) ∷ [])) ≡ Some (union 0 (whole_value 1)))
    × (at 0 (object (type_is (number 1) ∷ a_is 5 ∷ [])) ≡ Some (structure (member_value 0 (whole_value 5) no_member_values)))
other_types = (refl, refl)

-- a union neither is an array nor is missing, and stands in a list
pub places_of_unions : (at 1 (container as_array no_nodes) ≡ None) × (at 1 missing ≡ None) × (at 0 missing ≡ Some (structure no_member_values))
    × (at 2 (container as_array (node None (object (a_is 5 ∷ [])) no_nodes)) ≡ Some (list (value (union 0 (whole_value 5)) no_values)))
places_of_unions = (refl, refl, refl, refl)

-- what a reader passes over: a mark at the depth where it may be skipped, and a null
pub dropped : (list_map (λ n. is_mark (rules kept) (kind_of a_table (shape_place n)) (Some (codes "__type"))) (0 ∷ 1 ∷ 2 ∷ 3 ∷ 5 ∷ []) ≡ true ∷ true ∷ false ∷ false ∷ false ∷ [])
    × (list_map (λ depth. is_dropped (rules kept) (kind_of a_table (shape_place 1)) depth (Some (codes "__type")) (object [])) (2 ∷ 3 ∷ []) ≡ true ∷ false ∷ [])
    × (list_map (λ n. is_dropped (rules kept) (kind_of a_table (shape_place n)) 1 (Some (codes "a")) null_node) (0 ∷ 1 ∷ 3 ∷ 4 ∷ []) ≡ true ∷ true ∷ false ∷ false ∷ [])
dropped = (refl, refl, refl)

-- ---- maps

-- keys in byte order, and of equal ones the last
pub in_order : at 3 (object ((codes "b", number 1) ∷ (codes "a", number 2) ∷ ([], number 4) ∷ (codes "b", number 3) ∷ []))
    ≡ Some (map (map_entry [] (whole_value 4) (map_entry (codes "a") (whole_value 2) (map_entry (codes "b") (whole_value 3) no_map_entries))))
in_order = refl

-- each value has to mean one, also where a later entry has its key
pub each_counts : list_map (λ es. at 3 (object es)) (((codes "a", leaf (a_text (codes "x"))) ∷ a_is 1 ∷ []) ∷ (a_is 1 ∷ (codes "a", null_node) ∷ []) ∷ [])
    ≡ None ∷ None ∷ []
each_counts = refl

-- a null is a value of a sparse map alone
pub nulls : list_map (λ n. at n (object ((codes "a", null_node) ∷ []))) (3 ∷ 4 ∷ []) ≡ None ∷ Some (map (map_entry (codes "a") null_element no_map_entries)) ∷ []
nulls = refl

-- each key is a text, a map is an object, and no key is special
pub other_maps : (at 3 (container as_object (node (Some (a_number (pos 1))) (number 1) no_nodes)) ≡ None)
    × (list_map (at 3) (container as_array no_nodes ∷ missing ∷ container as_object no_nodes ∷ []) ≡ None ∷ None ∷ Some (map no_map_entries) ∷ [])
    × (at 3 (object (type_is (number 1) ∷ [])) ≡ Some (map (map_entry (codes "__type") (whole_value 1) no_map_entries)))
other_maps = (refl, refl, refl)

-- ---- what is written

abbrev leaves : Leaves Atom
leaves = record { leaf_of = leaf_of; key_of = a_text; holds = record { scalar = λ time x. true; documents = false } }
  where
    leaf_of : Scalar → Option TimestampFormat → ScalarValue → Atom
    leaf_of s time (whole n) = a_number n
    leaf_of s time (text t) = a_text t
    leaf_of s time _ = a_text []

-- a union has one entry, under the name of its member, and a map its keys in order
pub written : (written_node leaves (λ m. m.name) a_table (shape_place 1) (union 0 (whole_value 5)) ≡ object (a_is 5 ∷ []))
    × (written_node leaves (λ m. m.name) a_table (shape_place 4) (map (map_entry (codes "a") (whole_value 5) (map_entry (codes "c") null_element no_map_entries)))
    ≡ object (a_is 5 ∷ (codes "c", null_node) ∷ []))
written = (refl, refl)
