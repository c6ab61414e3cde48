-- A JSON value as it is written (RFC 8259, sections 3 to 7): numbers and strings by their raw texts, and members in order, also
-- where their names are equal.
use Rattle.std.specs.Prelude.{ℕ, suc, max, List, Bool}

mutual
  pub data Json : Type 0 where
    null : Json
    boolean : Bool → Json
    -- the text of the number
    number : List ℕ → Json
    -- the raw text of the string: what stands between its quotation marks
    string : List ℕ → Json
    array : Elements → Json
    object : Members → Json

  pub data Elements : Type 0 where
    no_elements : Elements
    element : Json → Elements → Elements

  pub data Members : Type 0 where
    no_members : Members
    -- what stands between the quotation marks of the name, and the value
    member : List ℕ → Json → Members → Members

abbrev mutual
  -- how deep arrays and objects nest: 0 for a scalar, else one more than the deepest child
  pub nesting : Json → ℕ
  nesting null = 0
  nesting (boolean b) = 0
  nesting (number raw) = 0
  nesting (string raw) = 0
  nesting (array es) = suc (elements_nesting es)
  nesting (object ms) = suc (members_nesting ms)

  -- the greatest of the children
  pub elements_nesting : Elements → ℕ
  elements_nesting no_elements = 0
  elements_nesting (element j es) = max (nesting j) (elements_nesting es)

  pub members_nesting : Members → ℕ
  members_nesting no_members = 0
  members_nesting (member name j ms) = max (nesting j) (members_nesting ms)
