-- The value that a body stands for, whichever wire carries it.
use Rattle.std.specs.Prelude.{Bool, ℕ, suc, max, ℤ, List, [], ◌∷◌, Option, Some, None}
use Rattle.std.specs.Ordering.{nat_cmp, match_ordering}
use Rattle.std.specs.Cmp.Lexicographic.{slice_cmp}
use Rattle.smithy_types.specs.Document.{Document}
use Rattle.smithy_declarations.specs.Documents.{document_nesting}

-- a value without parts
pub data ScalarValue : Type 0 where
  boolean : Bool → ScalarValue
  -- a whole number of any integer kind, big integers too
  whole : ℤ → ScalarValue
  -- a text in UTF-8
  text : List ℕ → ScalarValue
  bytes : List ℕ → ScalarValue
  -- mantissa and exponent, as they are given: 12300 and -4 is another value than 123 and -2
  decimal : ℤ → ℤ → ScalarValue
  -- an instant, in nanoseconds from 1970-01-01T00:00:00Z on
  instant : ℤ → ScalarValue

-- the text that a scalar is, if it is one
abbrev pub text_in : ScalarValue → Option (List ℕ)
text_in (text s) = Some s
text_in _ = None

mutual
  -- a value, which names no wire
  pub data Value : Type 0 where
    scalar_value : ScalarValue → Value
    list : Values → Value
    -- by key, in byte order, each once
    map : MapEntries → Value
    structure : MemberValues → Value
    -- the position of the member, and its value
    union : ℕ → Value → Value
    -- a null among the elements of a sparse list or the values of a sparse map
    null_element : Value
    -- a document, of whose numbers the whole number alone counts
    document_value : Document ℤ → Value

  -- the elements of a list, in order
  pub data Values : Type 0 where
    no_values : Values
    value : Value → Values → Values

  -- the keys of a map, each with its value
  pub data MapEntries : Type 0 where
    no_map_entries : MapEntries
    map_entry : List ℕ → Value → MapEntries → MapEntries

  -- by position of the member, in order, each once
  pub data MemberValues : Type 0 where
    no_member_values : MemberValues
    member_value : ℕ → Value → MemberValues → MemberValues

-- the elements that a list of values is
abbrev pub values_of : List Value → Values
values_of [] = no_values
values_of (v ∷ vs) = value v (values_of vs)

-- the values with this one at this position
abbrev pub put_member : ℕ → Value → MemberValues → MemberValues
put_member position v no_member_values = member_value position v no_member_values
put_member position v (member_value at w rest) =
    match_ordering (nat_cmp position at) (member_value position v (member_value at w rest))
    (member_value at v rest) (member_value at w (put_member position v rest))

-- the entries with this value at this key
abbrev pub put_entry : List ℕ → Value → MapEntries → MapEntries
put_entry key v no_map_entries = map_entry key v no_map_entries
put_entry key v (map_entry at w rest) =
    match_ordering (slice_cmp nat_cmp key at) (map_entry key v (map_entry at w rest))
    (map_entry at v rest) (map_entry at w (put_entry key v rest))

abbrev mutual
  -- how deep containers and documents nest: 0 for a scalar and a null, else one more than the deepest child
  pub nesting : Value → ℕ
  nesting (scalar_value x) = 0
  nesting (list vs) = suc (elements_nesting vs)
  nesting (map es) = suc (entries_nesting es)
  nesting (structure ms) = suc (members_nesting ms)
  nesting (union n v) = suc (nesting v)
  nesting null_element = 0
  nesting (document_value d) = document_nesting d

  -- the greatest of the children
  pub elements_nesting : Values → ℕ
  elements_nesting no_values = 0
  elements_nesting (value v vs) = max (nesting v) (elements_nesting vs)

  -- the greatest of the values in a map
  pub entries_nesting : MapEntries → ℕ
  entries_nesting no_map_entries = 0
  entries_nesting (map_entry key v es) = max (nesting v) (entries_nesting es)

  -- the greatest of the members
  pub members_nesting : MemberValues → ℕ
  members_nesting no_member_values = 0
  members_nesting (member_value n v ms) = max (nesting v) (members_nesting ms)
