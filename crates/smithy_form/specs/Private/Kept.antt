-- What the pairs of the program represent.
use Rattle.std.specs.Prelude.{◌≡◌, ◌≤◌, ℕ, List, length, map as mapped, Bool, true, false}
use Rattle.std.specs.Cow.{cow_str_bytes}
use Rattle.std.specs.Ordering.{is_lt, is_le}
use Rattle.std.specs.List.Sorted.{IsPartitionedBy, IsPartitionPoint}
use Rattle.smithy_query_codec.specs.Leaves.{Leaf}
use Rattle.smithy_form.specs.declared.pairs.Pair.{Pair}
use Rattle.smithy_form.specs.Pairs.{NamedText}
use Rattle.smithy_form.specs.Private.Names.{rest_path, first_cmp, leaves_from}

-- the name and the text of a pair
abbrev pub named_text : Pair → NamedText
named_text p = (cow_str_bytes p.name, cow_str_bytes p.text)

-- the pairs as leaves, from a place of their names on
abbrev pub kept_leaves : ℕ → List Pair → List Leaf
kept_leaves at pairs = leaves_from at (mapped named_text pairs)

-- a pair whose segment at the place is before this one
abbrev pub is_before : ℕ → List ℕ → Pair → Bool
is_before at s p = is_lt (first_cmp (rest_path at (cow_str_bytes p.name)) s)

-- a pair whose segment at the place is this one, or before it
abbrev pub is_not_behind : ℕ → List ℕ → Pair → Bool
is_not_behind at s p = is_le (first_cmp (rest_path at (cow_str_bytes p.name)) s)

-- the pairs are sorted by their segments at the place, as far as this segment decides
pub record AreSortedAt (at : ℕ) (s : List ℕ) (pairs : List Pair) : Type 0 where
  pub before : IsPartitionedBy (is_before at s) pairs
  pub not_behind : IsPartitionedBy (is_not_behind at s) pairs

-- where the pairs begin that aren't before the segment
pub record BeginsAt (at : ℕ) (s : List ℕ) (pairs : List Pair) (i : ℕ) : Type 0 where
  pub bound : i ≤ length pairs
  pub point : IsPartitionPoint (λ p. is_before at s p ≡ true) (λ p. is_before at s p ≡ false) pairs i

-- where those end that aren't behind it
pub record EndsAt (at : ℕ) (s : List ℕ) (pairs : List Pair) (i : ℕ) : Type 0 where
  pub bound : i ≤ length pairs
  pub point : IsPartitionPoint (λ p. is_not_behind at s p ≡ true) (λ p. is_not_behind at s p ≡ false) pairs i
