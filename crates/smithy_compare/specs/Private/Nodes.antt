-- What the walk over two trees looks at, seen as the trees and parts that it stands for.
use Rattle.std.specs.Prelude.{ℕ, ℤ, List, drop}
use Rattle.smithy_types.specs.Document.{whole_document, map_elements, map_properties}
use Rattle.smithy_types.specs.declared.document.Document.{Document}
use Rattle.smithy_types.specs.DocumentView.{document_view, elements_view, properties_view}
use Rattle.smithy_types.specs.Number.{whole_number}
use Rattle.smithy_declarations.specs.Value as values
use Rattle.smithy_tree.specs.Items.{Item, whole_value, whole_values, elements_of, entries_of, members_of}
use Rattle.smithy_tree.specs.Nodes.{values_over}
use Rattle.smithy_tree.specs.Seen.{store, values as values_in, view}
use Rattle.smithy_tree.specs.declared.node.Slot.{Slot}
use Rattle.smithy_tree.specs.declared.pool.Pool.{Pool}
use Rattle.smithy_compare.specs.declared.node.Node.{Node}
use Rattle.smithy_compare.specs.declared.node.Node.TheVariants as nodes
use Rattle.smithy_compare.specs.declared.node.Top as kept
use Rattle.smithy_compare.specs.declared.node.Top.TheVariants as tops
use Rattle.smithy_compare.specs.declared.parts.Label.{Label}
use Rattle.smithy_compare.specs.declared.parts.Label.TheVariants as labels
use Rattle.smithy_compare.specs.declared.parts.Parts as left
use Rattle.smithy_compare.specs.declared.parts.Parts.TheVariants as all_parts
use Rattle.smithy_compare.specs.Tree.{Step, member, element, key, Top, scalar, null, list, map, structure, union, document_null, document_scalar, array, object, Tree, Parts, no_parts, part, tree_of, document_tree, item_parts, property_parts, element_parts, entry_parts, member_parts}

abbrev pub node_tree : Node → Tree
node_tree (nodes.Value p x) = tree_of (view p.now x.now.node)
node_tree (nodes.Number n) = tree_of (whole_value n)
node_tree (nodes.Document d) = document_tree (whole_document (document_view d.now))

abbrev pub top_of : kept.Top → Top
top_of (tops.Boolean b) = scalar (values.boolean b)
top_of (tops.Whole n) = scalar (values.whole n)
top_of (tops.Text s) = scalar (values.text s.now)
top_of (tops.Bytes b) = scalar (values.bytes b.now)
top_of (tops.Decimal m e) = scalar (values.decimal m e)
top_of (tops.Instant d) = scalar (values.instant d)
top_of tops.Null = null
top_of tops.List = list
top_of tops.Map = map
top_of tops.Structure = structure
top_of (tops.Union n) = union n
top_of tops.DocumentNull = document_null
top_of (tops.DocumentBoolean b) = document_scalar (values.boolean b)
top_of (tops.DocumentNumber n) = document_scalar (values.whole n)
top_of (tops.DocumentText s) = document_scalar (values.text s.now)
top_of tops.Array = array
top_of tops.Object = object

abbrev pub step_at : Label → Step
step_at (labels.Member n) = member n
step_at (labels.Element i) = element i
step_at (labels.Key k) = key k.now

-- some children of a pool, with their labels
abbrev pub items_in : Pool → List Slot → List Item
items_in p xs = values_over (store p) (values_in p) xs

-- the parts that are left of each kind of container
abbrev pub elements_from : Pool → ℕ → List Slot → Parts
elements_from p i xs = element_parts i (elements_of (items_in p (drop i xs)))

abbrev pub numbers_from : ℕ → List ℤ → Parts
numbers_from i ns = element_parts i (values.values_of (whole_values (drop i ns)))

abbrev pub entries_in : Pool → List Slot → Parts
entries_in p xs = entry_parts (entries_of (items_in p xs))

abbrev pub members_in : Pool → List Slot → Parts
members_in p xs = member_parts (members_of (items_in p xs))

abbrev pub items_from : ℕ → List Document → Parts
items_from i ds = item_parts i (map_elements whole_number (elements_view (drop i ds)))

abbrev pub parts_of : left.Parts → Parts
parts_of all_parts.Nothing = no_parts
parts_of (all_parts.Elements p i xs) = elements_from p.now i xs.now
parts_of (all_parts.Numbers i ns) = numbers_from i ns.now
parts_of (all_parts.Entries p xs) = entries_in p.now xs.now
parts_of (all_parts.Members p xs) = members_in p.now xs.now
parts_of (all_parts.Only p x) = part (member x.now.first) (tree_of (view p.now x.now.node)) no_parts
parts_of (all_parts.Items i ds) = items_from i ds.now
parts_of (all_parts.Properties ps) = property_parts (map_properties whole_number (properties_view ps))
