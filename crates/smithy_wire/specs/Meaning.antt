-- What a node means at a place of a table, whichever wire it came from.
use Rattle.std.specs.Prelude.{◌≡◌, ℕ, suc, List, [], ◌∷◌, Bool, true, false, Option, Some, None, option_and_then, if◌then◌else◌}
use Rattle.smithy_declarations.specs.declared.place.Place.{Place}
use Rattle.smithy_declarations.specs.declared.shape_type.TimestampFormat.{TimestampFormat}
use Rattle.smithy_declarations.specs.Table.{Table, Kind, scalar, structure_of, union_of, list_of, map_of, kind_of, place_in, where_document}
use Rattle.smithy_declarations.specs.Value.{Value, structure, no_member_values, null_element}
use Rattle.smithy_shapes.specs.Container.{Entry, container_of}
use Rattle.smithy_wire.specs.Node.{Form, as_array, as_object, Node, null_node, leaf, container, missing, Nodes, no_nodes, node, is_null}
use Rattle.smithy_wire.specs.Rules.{settled, wide, uncarried, Rules, at_depth, may_skip, key_text, position_in, is_absent}
use Rattle.smithy_wire.specs.Documents.{document_meaning}

-- what a scalar of the body means as a kind
abbrev pub leaf_meaning : {L : Type 0} → Rules L → Kind → Option TimestampFormat → L → Option Value
leaf_meaning r (scalar s) time x = settled r.limits null_element (r.says s time x)
leaf_meaning r _ time x = None

-- the scalar is, as the kind, a big number that leaves the limits of the kind
abbrev pub IsTooWide : {L : Type 0} → Rules L → Kind → Option TimestampFormat → L → Type 0
IsTooWide r (scalar s) time x = r.says s time x ≡ wide
IsTooWide r _ time x = ⊥

-- the kind can't carry the scalar
abbrev pub IsUncarried : {L : Type 0} → Rules L → Kind → Option TimestampFormat → L → Type 0
IsUncarried r (scalar s) time x = r.says s time x ≡ uncarried
IsUncarried r _ time x = ⊥

-- lists are arrays, and structures, unions and maps are objects
abbrev pub is_in : Kind → Form → Bool
is_in (list_of l) as_array = true
is_in (structure_of members) as_object = true
is_in (union_of members) as_object = true
is_in (map_of m) as_object = true
is_in _ _ = false

-- what is missing is a structure without members
abbrev pub missing_meaning : Kind → Option Value
missing_meaning (structure_of members) = Some (structure no_member_values)
missing_meaning _ = None

-- one child of a container, by what it means at each place
abbrev pub entry_at : {L : Type 0} → Rules L → Kind → Form → ℕ → Option L → Node L → (Place → Option Value) → Entry
entry_at r k f d key x mean = record {
  key = key_text r f key;
  position = position_in r k (key_text r f key);
  meaning = option_and_then mean (place_in k (position_in r k (key_text r f key)));
  is_absent = is_absent r k (key_text r f key) x;
  is_skippable = may_skip r d x;
  is_null = is_null x;
}

abbrev mutual
  -- the value that a node means at a place, inside so many containers: where a document is due, what it means as one
  pub meaning : {L : Type 0} → Rules L → Table → Place → ℕ → Node L → Option Value
  meaning r t p d null_node = where_document (kind_of t p) (document_meaning r d null_node) None
  meaning r t p d (leaf x) =
      where_document (kind_of t p) (document_meaning r d (leaf x)) (leaf_meaning r (kind_of t p) p.time x)
  meaning r t p d (container f xs) =
      where_document (kind_of t p) (document_meaning r d (container f xs))
      (at_depth r (suc d)
      (if is_in (kind_of t p) f then container_of (kind_of t p) (entries r t p f (suc d) xs) else None))
  meaning r t p d missing = at_depth r (suc d) (missing_meaning (kind_of t p))

  -- the entries of a container
  pub entries : {L : Type 0} → Rules L → Table → Place → Form → ℕ → Nodes L → List Entry
  entries r t p f d no_nodes = []
  entries r t p f d (node key x xs) =
      entry_at r (kind_of t p) f d key x (λ q. meaning r t q d x) ∷ entries r t p f d xs
