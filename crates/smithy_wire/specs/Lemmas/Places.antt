-- What is known of a place by its kind.
use Rattle.std.specs.Prelude.{◌≡◌, ℕ, suc, List, Bool, Option, Some, None, true, false, cond, refl}
use Rattle.std.proofs.Common.{sym, ◌∙◌}
use Rattle.smithy_types.specs.Document.{Document}
use Rattle.smithy_types.specs.declared.number.Number.{Number}
use Rattle.smithy_declarations.specs.declared.place.Place.{Place}
use Rattle.smithy_declarations.specs.declared.shape_type.TimestampFormat.{TimestampFormat}
use Rattle.smithy_declarations.specs.Table.{Table, Kind, document, structure_of, union_of, list_of, map_of, kind_of, where_document, is_sparse, IsSparse, IsDocument, IsList, IsMap, IsStructure, HasMembers, IsContainer}
use Rattle.smithy_declarations.specs.Value.{Value}
use Rattle.smithy_wire.specs.Node.{Form, as_array, as_object, Node, null_node, leaf, container, missing}
use Rattle.smithy_wire.specs.Rules.{Answer, Rules, is_shallow}
use Rattle.smithy_wire.specs.Documents.{document_meaning, document_by}
use Rattle.smithy_wire.specs.Meaning.{is_in, leaf_meaning, meaning}
use Rattle.smithy_wire.specs.Frames.{Frames, EndsAs}

-- structures and unions are objects
pub members_are_object : (k : Kind) → HasMembers k → is_in k as_object ≡ true
members_are_object (structure_of members) h = refl
members_are_object (union_of members) h = refl
members_are_object _ h = absurd h

pub structure_is_object : (k : Kind) → IsStructure k → is_in k as_object ≡ true
structure_is_object (structure_of members) h = refl
structure_is_object _ h = absurd h

-- a list is an array
pub list_is_array : (k : Kind) → IsList k → is_in k as_array ≡ true
list_is_array (list_of l) h = refl
list_is_array _ h = absurd h

-- a map is an object
pub map_is_object : (k : Kind) → IsMap k → is_in k as_object ≡ true
map_is_object (map_of m) h = refl
map_is_object _ h = absurd h

-- what has a form is a container
pub form_is_container : (k : Kind) (f : Form) → is_in k f ≡ true → IsContainer k
form_is_container (structure_of members) f h = tt
form_is_container (union_of members) f h = tt
form_is_container (list_of l) f h = tt
form_is_container (map_of m) f h = tt
form_is_container _ f h = cc

pub structure_is_container : (k : Kind) → IsStructure k → IsContainer k
structure_is_container (structure_of members) h = tt
structure_is_container _ h = absurd h

-- a place of a container is no place of documents
pub elsewhere : {A : Type 0} (k : Kind) (here there : A) → IsContainer k → where_document k here there ≡ there
elsewhere (structure_of members) here there c = refl
elsewhere (union_of members) here there c = refl
elsewhere (list_of l) here there c = refl
elsewhere (map_of m) here there c = refl
elsewhere _ here there c = absurd c

-- what stands at a place of the kind is a document, or is none
pub where_apart : {A : Type 0} (k : Kind) (here there : Option A) (v : A) (P : Type 0) → where_document k here there ≡ Some v → (k ≡ document → here ≡ Some v → P) → (there ≡ Some v → P)
    → P
where_apart document here there v P h one other = one refl h
where_apart _ here there v P h one other = other h

pub container_ends : {L : Type 0} (w : Frames L) (k : Kind) (i : List ℕ) (d e : ℕ) → IsContainer k → EndsAs w k i d e
container_ends w (structure_of members) i d e c = tt
container_ends w (union_of members) i d e c = tt
container_ends w (list_of l) i d e c = tt
container_ends w (map_of m) i d e c = tt
container_ends w _ i d e c = absurd c

-- the kind of documents
pub document_kind : (k : Kind) → IsDocument k → k ≡ document
document_kind document h = refl
document_kind _ h = absurd h

-- a list or a map is sparse, or isn't
pub sparse_is : (k : Kind) → IsSparse k → is_sparse k ≡ true
sparse_is (list_of l) h = h
sparse_is (map_of m) h = h
sparse_is _ h = absurd h

pub is_sparse_kind : (k : Kind) → is_sparse k ≡ true → IsSparse k
is_sparse_kind (list_of l) h = h
is_sparse_kind (map_of m) h = h
is_sparse_kind _ h = cc

module _ {L : Type 0} (r : Rules L) (t : Table) where
  -- where a document is due, a node means what it means as one
  pub means_document : (q : Place) (d : ℕ) (x : Node L) → kind_of t q ≡ document → meaning r t q d x ≡ document_meaning r d x
  means_document q d null_node kind = rw kind refl
  means_document q d (leaf x) kind = rw kind refl
  means_document q d (container f xs) kind = rw kind refl
  means_document q d missing kind = rw kind (nothing (is_shallow r (suc d)) r.documents)
    where
      nothing : (b : Bool) (o : Option (L → Answer (Document Number))) → cond {A = Option Value} b None None ≡ document_by r o d missing
      nothing true None = refl
      nothing true (Some says) = refl
      nothing false None = refl
      nothing false (Some says) = refl

  -- a null is no container
  pub null_is_no_container : (p : Place) (d : ℕ) (v : Value) → IsContainer (kind_of t p) → meaning r t p d null_node ≡ Some v → ⊥
  null_is_no_container p d v c h = let none : None ≡ Some v = sym (elsewhere (kind_of t p) (document_meaning r d null_node) None c) ∙ h in cc

  no_leaf : (k : Kind) (time : Option TimestampFormat) (x : L) (v : Value) → IsContainer k → leaf_meaning r k time x ≡ Some v → ⊥
  no_leaf (structure_of members) time x v c h = cc
  no_leaf (union_of members) time x v c h = cc
  no_leaf (list_of l) time x v c h = cc
  no_leaf (map_of m) time x v c h = cc
  no_leaf _ time x v c h = c

  -- a scalar is no container
  pub leaf_means_nothing : (p : Place) (d : ℕ) (x : L) (v : Value) → IsContainer (kind_of t p) → meaning r t p d (leaf x) ≡ Some v → ⊥
  leaf_means_nothing p d x v c h =
      no_leaf (kind_of t p) p.time x v c (sym (elsewhere (kind_of t p) (document_meaning r d (leaf x)) (leaf_meaning r (kind_of t p) p.time x) c) ∙ h)
