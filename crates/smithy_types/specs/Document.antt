-- Documents: what a value of Smithy's shape `document` may be. N is what a number is: a `Number`, or a whole number
-- alone.
use Rattle.std.specs.Prelude.{ℕ, ◌^◌, ℤ, pos, neg_ℤ, int_le, int_lt, List, ◌∷◌, fold, Bool, ◌&&◌, Option, Some, None}
use Rattle.std.specs.Cmp.Lexicographic.{slice_cmp}
use Rattle.std.specs.Ordering.{nat_cmp, match_ordering}
use Rattle.smithy_types.specs.Number.{whole_number}
use Rattle.smithy_types.specs.declared.number.Number.{Number}

mutual
  pub data Document (N : Type 0) : Type 0 where
    null : Document N
    boolean : Bool → Document N
    number : N → Document N
    -- in UTF-8
    text : List ℕ → Document N
    array : Documents N → Document N
    object : Properties N → Document N

  -- the elements of an array, in order
  pub data Documents (N : Type 0) : Type 0 where
    no_documents : Documents N
    item : Document N → Documents N → Documents N

  -- by name, in the order of their bytes, each name once
  pub data Properties (N : Type 0) : Type 0 where
    no_properties : Properties N
    property : List ℕ → Document N → Properties N → Properties N

-- the properties with this document under this name
abbrev pub put_property : {N : Type 0} → List ℕ → Document N → Properties N → Properties N
put_property name d no_properties = property name d no_properties
put_property name d (property at e rest) =
    match_ordering (slice_cmp nat_cmp name at) (property name d (property at e rest))
    (property at d rest) (property at e (put_property name d rest))

-- the properties with one more, put under its name
abbrev pub put_pair : {N : Type 0} → Properties N → List ℕ × Document N → Properties N
put_pair ps pair = put_property pair.0 pair.1 ps

-- the properties by these names and documents: of equal names the last counts
abbrev pub properties_by : {N : Type 0} → List (List ℕ × Document N) → Properties N
properties_by pairs = fold put_pair no_properties pairs

-- a name and a document before others, where all are there
abbrev pub with_pair : {N : Type 0} → Option (List ℕ) → Option (Document N) → Option (List (List ℕ × Document N)) → Option (List (List ℕ × Document N))
with_pair (Some name) (Some d) (Some pairs) = Some ((name, d) ∷ pairs)
with_pair _ _ _ = None

-- a number of 64 bits, with a sign or without one: from -2^63 to 2^64-1
abbrev pub is_document_number : ℤ → Bool
is_document_number z = int_le (neg_ℤ (pos (2 ^ 63))) z && int_lt z (pos (2 ^ 64))

-- ---- a value

abbrev mutual
  -- the document with another thing in place of each number
  pub map_numbers : {N M : Type 0} → (N → M) → Document N → Document M
  map_numbers f null = null
  map_numbers f (boolean b) = boolean b
  map_numbers f (number n) = number (f n)
  map_numbers f (text s) = text s
  map_numbers f (array ds) = array (map_elements f ds)
  map_numbers f (object ps) = object (map_properties f ps)

  pub map_elements : {N M : Type 0} → (N → M) → Documents N → Documents M
  map_elements f no_documents = no_documents
  map_elements f (item d ds) = item (map_numbers f d) (map_elements f ds)

  pub map_properties : {N M : Type 0} → (N → M) → Properties N → Properties M
  map_properties f no_properties = no_properties
  map_properties f (property name d ps) = property name (map_numbers f d) (map_properties f ps)

-- the document as a value, which has of each number its whole number alone, whichever variant has it
abbrev pub whole_document : Document Number → Document ℤ
whole_document d = map_numbers whole_number d

-- ---- parts

-- the properties, elements, number, text or truth value, where it is an object, an array and so on
abbrev pub properties_of : {N : Type 0} → Document N → Option (Properties N)
properties_of (object ps) = Some ps
properties_of _ = None

abbrev pub elements_of : {N : Type 0} → Document N → Option (Documents N)
elements_of (array ds) = Some ds
elements_of _ = None

abbrev pub number_of : {N : Type 0} → Document N → Option N
number_of (number n) = Some n
number_of _ = None

abbrev pub text_of : {N : Type 0} → Document N → Option (List ℕ)
text_of (text s) = Some s
text_of _ = None

abbrev pub boolean_of : {N : Type 0} → Document N → Option Bool
boolean_of (boolean b) = Some b
boolean_of _ = None

abbrev pub null_of : {N : Type 0} → Document N → Option (Unit {0})
null_of null = Some tt
null_of _ = None
