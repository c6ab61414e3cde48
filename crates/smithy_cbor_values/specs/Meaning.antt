-- What an item means at a place of a table (the protocol smithy.protocols#rpcv2Cbor): what its node means under
-- the rules of CBOR.
use Rattle.std.specs.Prelude.{ℕ, ◌==◌, Option, Some, None, Bool, true, false, ◌&&◌, is_some, if◌then◌else◌}
use Rattle.smithy_declarations.specs.declared.place.Place.{Place}
use Rattle.smithy_declarations.specs.Table.{Table}
use Rattle.smithy_declarations.specs.Value.{Value}
use Rattle.cbor_item.specs.Item.{Item, array, map, simple, Items, no_items, item, Pairs, no_pairs, pair}
use Rattle.smithy_cbor_values.specs.Settings.{Settings}
use Rattle.smithy_cbor.specs.Scalar.{null_value, text_of}
use Rattle.smithy_cbor_values.specs.Scalar.{says}
use Rattle.smithy_wire.specs.Node.{Node, null_node, leaf, container, as_array, as_object, Nodes, no_nodes, node}
use Rattle.smithy_wire.specs.Rules.{Rules}
use Rattle.smithy_wire.specs.Meaning.{meaning}

abbrev mutual
  -- an item without its heads: what is no array, no map and no null is a scalar
  pub node_of : Item → Node Item
  node_of (array extent is) = container as_array (item_nodes is)
  node_of (map extent ps) = container as_object (pair_nodes ps)
  node_of (simple n) = if n == null_value then null_node else leaf (simple n)
  node_of i = leaf i

  pub item_nodes : Items → Nodes Item
  item_nodes no_items = no_nodes
  item_nodes (item i is) = node None (node_of i) (item_nodes is)

  pub pair_nodes : Pairs → Nodes Item
  pair_nodes no_pairs = no_nodes
  pair_nodes (pair k v ps) = node (Some k) (node_of v) (pair_nodes ps)

-- A null is handed on under the key of a member, where the settings say so, and under no other key.
abbrev pub keeps_null : Settings → Option Place → Bool
keeps_null c place = c.dispatch_null_members && is_some place

-- the rules of CBOR under some settings: what is skipped doesn't count as depth, no document is
-- carried, and no refusal tells the type
abbrev pub rules_of : Settings → Rules Item
rules_of c = record {
  text_of = text_of;
  says = says;
  documents = None;
  mismatches = λ kind time input a. false;
  skips_count = false;
  name_of = λ m. m.name;
  max_depth = c.max_depth;
  limits = c.limits;
  keeps_null = keeps_null c;
  may_skip_scalar = λ x. true;
}

-- the value that an item means at a place, inside so many containers
abbrev pub cbor_meaning : Settings → Table → Place → ℕ → Item → Option Value
cbor_meaning c table place depth i = meaning (rules_of c) table place depth (node_of i)
