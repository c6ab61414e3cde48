-- What is found in the tree of a body, whichever wire carries it: each place at which it means nothing, with the reason, and each
-- entry of a structure or a union that names no member.
use Rattle.std.specs.Prelude.{ℕ, suc, ◌==◌, ◌||◌, ◌&&◌, not, List, [], ◌∷◌, ◌++◌, Bool, true, Option, Some, None, if◌then◌else◌}
use Rattle.std.specs.Option.{option_map_or}
use Rattle.smithy_types.specs.Document.{Document}
use Rattle.smithy_types.specs.declared.number.Number.{Number}
use Rattle.smithy_declarations.specs.declared.place.Place.{Place}
use Rattle.smithy_declarations.specs.declared.shape_type.TimestampFormat.{TimestampFormat}
use Rattle.smithy_declarations.specs.Table.{Table, scalar, structure_of, union_of, list_of, map_of, kind_of, place_in, has_members, is_sparse, where_document}
use Rattle.smithy_declarations.specs.Table as tables
use Rattle.smithy_wire.specs.Node.{Form, as_array, as_object, Node, null_node, leaf, container, missing, Nodes, no_nodes, node, is_null}
use Rattle.smithy_wire.specs.Rules.{Answer, means, no_meaning, wide, uncarried, Rules, is_shallow, may_skip, key_text, position_in, is_absent, is_mark}
use Rattle.smithy_wire.specs.Meaning.{is_in}
use Rattle.smithy_compare.specs.Tree.{Step, member, element, key}
use Rattle.smithy_lint.specs.declared.finding.Kind.{Kind}
use Rattle.smithy_lint.specs.declared.finding.Kind.TheVariants.{Unknown, Mismatch, Wide, NotCarried, Deep, Key, Union, Null}

-- what is found at a path, as steps from the root on
pub record Found : Type 0 where
  pub path : List Step
  pub kind : Kind

-- the path with one step more
abbrev pub to : List Step → Step → List Step
to path s = path ++ s ∷ []

-- one finding and no other
abbrev pub one : List Step → Kind → List Found
one path kind = record { path = path; kind = kind } ∷ []

-- what a scalar says as a kind, as a finding: none where it means something
abbrev pub told_by : {A : Type 0} → List Step → Answer A → List Found
told_by path (means v) = []
told_by path no_meaning = one path Mismatch
told_by path wide = one path Wide
told_by path uncarried = one path NotCarried

-- of a scalar where the kind is due
abbrev pub leaf_findings : {L : Type 0} → Rules L → tables.Kind → Option TimestampFormat → List Step → L → List Found
leaf_findings r (scalar s) time path x = told_by path (r.says s time x)
leaf_findings r _ time path x = one path Mismatch

-- where more containers would be open than may be, that alone
abbrev pub within : {L : Type 0} → Rules L → ℕ → List Step → List Found → List Found
within r depth path found = if is_shallow r depth then found else one path Deep

-- under a key, where that is a text: where not, that alone
abbrev pub under : List Step → Option (List ℕ) → (List ℕ → List Found) → List Found
under path None found = one path Key
under path (Some text) found = found text

-- ---- documents

module _ {L : Type 0} (r : Rules L) (says : L → Answer (Document Number)) where
  abbrev mutual
    -- in a node inside so many containers, where a document is due: each part counts as depth, scalars too
    pub document_findings : ℕ → List Step → Node L → List Found
    document_findings depth path null_node = within r (suc depth) path []
    document_findings depth path (leaf x) = within r (suc depth) path (told_by path (says x))
    document_findings depth path (container as_array xs) = within r (suc depth) path (item_findings (suc depth) path 0 xs)
    document_findings depth path (container as_object xs) = within r (suc depth) path (property_findings (suc depth) path xs)
    document_findings depth path missing = one path Mismatch

    -- in the elements of an array from this index on
    pub item_findings : ℕ → List Step → ℕ → Nodes L → List Found
    item_findings depth path i no_nodes = []
    item_findings depth path i (node name x xs) =
        document_findings depth (to path (element i)) x ++ item_findings depth path (suc i) xs

    -- in the properties of an object
    pub property_findings : ℕ → List Step → Nodes L → List Found
    property_findings depth path no_nodes = []
    property_findings depth path (node name x xs) =
        under path (key_text r as_object name) (λ text. document_findings depth (to path (key text)) x)
        ++ property_findings depth path xs

-- in a node where a document is due: where the wire carries none, that it isn't carried
abbrev pub findings_as_document : {L : Type 0} → Rules L → Option (L → Answer (Document Number)) → ℕ → List Step → Node L → List Found
findings_as_document r None depth path x = one path NotCarried
findings_as_document r (Some says) depth path x = document_findings r says depth path x

-- ---- one child of a container, by what is found in it at each place

-- at a place, if there is one
abbrev pub at_place : (Place → List Step → List Found) → List Step → Option Place → List Found
at_place found path None = one path Mismatch
at_place found path (Some q) = found q path

-- of an entry that names no member: it is unknown, unless it is a mark, and in JSON it may be too deep to be skipped
abbrev pub unnamed : {L : Type 0} → Rules L → ℕ → List Step → Bool → Node L → List Found
unnamed r depth path is_mark x =
    (if is_mark then [] else one path Unknown) ++ (if may_skip r depth x then [] else one path Deep)

-- of an entry of a structure or a union, by the position of the member that it names
abbrev pub named : {L : Type 0} → Rules L → tables.Kind → ℕ → List Step → List ℕ → Node L → (Place → List Step → List Found) → Option ℕ → List Found
named r k depth path text x found None = unnamed r depth (to path (key text)) (is_mark r k (Some text)) x
named r k depth path text x found (Some n) = at_place found (to path (member n)) (place_in k (Some n))

-- of an element of a list or a value of a map: a null is none where the container is sparse, and elsewhere it is one of its own
-- kind, unless a document is due
abbrev pub collected : Table → tables.Kind → Bool → List Step → (Place → List Step → List Found) → Place → List Found
collected t k is_null path found q =
    if is_null then (if is_sparse k then [] else where_document (kind_of t q) (found q path) (one path Null)) else found q path

-- of one child, with its index and the text of its key
abbrev pub child_findings : {L : Type 0} → Rules L → Table → tables.Kind → ℕ → List Step → ℕ → Option (List ℕ) → Node L → (Place → List Step → List Found) → List Found
child_findings r t (list_of l) depth path i text x found = collected t (list_of l) (is_null x) (to path (element i)) found l.place
child_findings r t (map_of m) depth path i text x found =
    under path text (λ text. collected t (map_of m) (is_null x) (to path (key text)) found m.place)
child_findings r t k depth path i text x found =
    under path text (λ text.
    if is_absent r k (Some text) x then [] else named r k depth path text x found (position_in r k (Some text)))

-- ---- a union as a whole

-- how many children there are, without nulls that are dropped and marks
abbrev pub variants : {L : Type 0} → Rules L → tables.Kind → Form → Nodes L → ℕ
variants r k f no_nodes = 0
variants r k f (node name x xs) =
    if is_absent r k (key_text r f name) x || is_mark r k (key_text r f name) then variants r k f xs else suc (variants r k f xs)

-- a union has one
abbrev pub union_findings : tables.Kind → List Step → ℕ → List Found
union_findings (union_of members) path count = if count == 1 then [] else one path Union
union_findings _ path count = []

-- ---- nodes

-- where the input ends, and nothing stands: a structure without members
abbrev pub missing_findings : tables.Kind → List Step → List Found
missing_findings (structure_of members) path = []
missing_findings _ path = one path Mismatch

abbrev mutual
  -- in a node at a place, inside so many containers
  pub findings : {L : Type 0} → Rules L → Table → Place → ℕ → List Step → Node L → List Found
  findings r t p depth path null_node =
      where_document (kind_of t p) (findings_as_document r r.documents depth path null_node) (one path Mismatch)
  findings r t p depth path (leaf x) =
      where_document (kind_of t p) (findings_as_document r r.documents depth path (leaf x))
      (leaf_findings r (kind_of t p) p.time path x)
  findings r t p depth path (container f xs) =
      where_document (kind_of t p) (findings_as_document r r.documents depth path (container f xs))
      (if is_in (kind_of t p) f
      then within r (suc depth) path
      (entry_findings r t p f (suc depth) path 0 xs ++ union_findings (kind_of t p) path (variants r (kind_of t p) f xs))
      else one path Mismatch)
  findings r t p depth path missing = within r (suc depth) path (missing_findings (kind_of t p) path)

  -- in the children of a container from this index on
  pub entry_findings : {L : Type 0} → Rules L → Table → Place → Form → ℕ → List Step → ℕ → Nodes L → List Found
  entry_findings r t p f depth path i no_nodes = []
  entry_findings r t p f depth path i (node name x xs) =
      child_findings r t (kind_of t p) depth path i (key_text r f name) x (λ q inner. findings r t q depth inner x)
      ++ entry_findings r t p f depth path (suc i) xs

-- ---- what the law of findings speaks of

-- of a structure or a union no child is unknown: each is dropped, or names a member, or is a mark
abbrev pub is_known : {L : Type 0} → Rules L → tables.Kind → Option (List ℕ) → Node L → (Place → Bool) → Bool
is_known r k text x known =
    is_absent r k text x || option_map_or known (place_in k (position_in r k text)) (is_mark r k text || not (has_members k))

abbrev mutual
  -- no entry of a structure or a union in the node is unknown; in documents there are none
  pub all_known : {L : Type 0} → Rules L → Table → Place → Node L → Bool
  all_known r t p (container f xs) = where_document (kind_of t p) true (entries_known r t p f xs)
  all_known r t p _ = true

  pub entries_known : {L : Type 0} → Rules L → Table → Place → Form → Nodes L → Bool
  entries_known r t p f no_nodes = true
  entries_known r t p f (node name x xs) =
      is_known r (kind_of t p) (key_text r f name) x (λ q. all_known r t q x) && entries_known r t p f xs
