-- The first path at which two values differ.
use Rattle.std.specs.Prelude.{ℕ, List, [], ◌∷◌, Bool, true, false, ◌&&◌, ◌==◌, Option, Some, None, option_map, option_and_then, if◌then◌else◌, bytes_eq}
use Rattle.std.specs.Bool.{beq}
use Rattle.std.specs.Option.{option_or}
use Rattle.std.specs.declared.cmp.Ordering.{Ordering}
use Rattle.std.specs.Ordering.{is_eq, nat_cmp, int_eq, match_ordering}
use Rattle.std.specs.Cmp.Lexicographic.{slice_cmp}
use Rattle.smithy_declarations.specs.Value.{ScalarValue, boolean, whole, text, bytes, decimal, instant, Value}
use Rattle.smithy_compare.specs.Tree.{Step, member, element, key, Top, scalar, null, list, map, structure, union, document_null, document_scalar, array, object, Tree, tree, Parts, no_parts, part, tree_of}

-- members before elements before keys, which never stand in one container
abbrev pub rank : Step → ℕ
rank (member n) = 0
rank (element i) = 1
rank (key k) = 2

-- members by their positions, elements by their indices, keys by their bytes
abbrev pub step_cmp : Step → Step → Ordering
step_cmp (member n) (member m) = nat_cmp n m
step_cmp (element i) (element j) = nat_cmp i j
step_cmp (key k) (key l) = slice_cmp nat_cmp k l
step_cmp s t = nat_cmp (rank s) (rank t)

-- two scalars are one
abbrev pub same_scalar : ScalarValue → ScalarValue → Bool
same_scalar (boolean a) (boolean b) = beq a b
same_scalar (whole n) (whole m) = int_eq n m
same_scalar (text s) (text t) = bytes_eq s t
same_scalar (bytes s) (bytes t) = bytes_eq s t
same_scalar (decimal m e) (decimal n f) = int_eq m n && int_eq e f
same_scalar (instant n) (instant m) = int_eq n m
same_scalar x y = false

-- two values are one beside their parts
abbrev pub same_top : Top → Top → Bool
same_top (scalar x) (scalar y) = same_scalar x y
same_top null null = true
same_top list list = true
same_top map map = true
same_top structure structure = true
same_top (union n) (union m) = n == m
same_top document_null document_null = true
same_top (document_scalar x) (document_scalar y) = same_scalar x y
same_top array array = true
same_top object object = true
same_top a b = false

-- a path that is found behind a step
abbrev pub behind : Step → Option (List Step) → Option (List Step)
behind s found = option_map (λ path. s ∷ path) found

abbrev mutual
  -- The first path at which two trees differ: the empty one, where they do so beside their parts.
  pub first_in : Tree → Tree → Option (List Step)
  first_in (tree a ps) (tree b qs) = if same_top a b then first_among ps qs else Some []

  -- The path to the first part that one alone has, or else to the first difference inside of a part that both have.
  pub first_among : Parts → Parts → Option (List Step)
  first_among no_parts no_parts = None
  first_among (part s x ps) no_parts = Some (s ∷ [])
  first_among no_parts (part t y qs) = Some (t ∷ [])
  first_among (part s x ps) (part t y qs) =
      match_ordering (step_cmp s t) (Some (s ∷ []))
      (option_or (behind s (first_in x y)) (first_among ps qs)) (Some (t ∷ []))

-- the first path at which two values differ, or none
abbrev pub first_path : Value → Value → Option (List Step)
first_path v w = first_in (tree_of v) (tree_of w)

-- ---- what a path leads to

-- the part behind a step, if there is one
abbrev pub part_behind : Step → Parts → Option Tree
part_behind s no_parts = None
part_behind s (part t x ps) = if is_eq (step_cmp s t) then Some x else part_behind s ps

-- what stands at a path, if anything does
abbrev pub tree_at : List Step → Tree → Option Tree
tree_at [] x = Some x
tree_at (s ∷ path) (tree a ps) = option_and_then (tree_at path) (part_behind s ps)
