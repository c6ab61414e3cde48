-- What a JSON value means at a place of a table: what its node means under the rules of JSON.
use Rattle.std.specs.Prelude.{ℕ, ◌||◌, Option, Some, None, true, false}
use Rattle.std.specs.Option.{option_map_or}
use Rattle.smithy_declarations.specs.declared.place.Place.{Place}
use Rattle.smithy_declarations.specs.Table.{Table, is_document_place}
use Rattle.smithy_declarations.specs.Value.{Value}
use Rattle.smithy_json_grammar.specs.Tree.{Json, null, boolean, number, string, array, object, Elements, no_elements, element, Members, no_members, member}
use Rattle.smithy_json_values.specs.Settings.{Settings, name_of}
use Rattle.smithy_json_values.specs.Scalar.{JsonScalar, a_boolean, a_number, a_string, text_of, says, document_says}
use Rattle.smithy_wire.specs.Node.{Node, null_node, leaf, container, as_array, as_object, Nodes, no_nodes, node}
use Rattle.smithy_wire.specs.Rules.{Rules}
use Rattle.smithy_wire.specs.Meaning.{meaning}

abbrev mutual
  -- a tree without its white space
  pub node_of : Json → Node JsonScalar
  node_of null = null_node
  node_of (boolean b) = leaf (a_boolean b)
  node_of (number raw) = leaf (a_number raw)
  node_of (string raw) = leaf (a_string raw)
  node_of (array es) = container as_array (element_nodes es)
  node_of (object ms) = container as_object (member_nodes ms)

  pub element_nodes : Elements → Nodes JsonScalar
  element_nodes no_elements = no_nodes
  element_nodes (element x es) = node None (node_of x) (element_nodes es)

  pub member_nodes : Members → Nodes JsonScalar
  member_nodes no_members = no_nodes
  member_nodes (member raw x ms) = node (Some (a_string raw)) (node_of x) (member_nodes ms)

-- the rules of JSON under some settings: a null is dropped, unless its member is a document or the settings hand nulls on, what is
-- skipped counts as depth, and instants have the form of their place. What is refused by its type is for the rules of tokens to say.
abbrev pub rules_of : Settings → Rules JsonScalar
rules_of c = record {
  text_of = text_of;
  says = says c;
  documents = Some document_says;
  mismatches = λ kind time input a. false;
  skips_count = true;
  name_of = name_of c;
  max_depth = c.max_depth;
  limits = c.limits;
  keeps_null = λ place. c.dispatch_null_members || option_map_or is_document_place place false;
  may_skip_scalar = λ x. true;
}

-- the value that a tree means at a place, inside so many containers
abbrev pub json_meaning : Settings → Table → Place → ℕ → Json → Option Value
json_meaning c table place depth x = meaning (rules_of c) table place depth (node_of x)
