-- The names of pairs, from a place on, as paths.
use Rattle.std.specs.Prelude.{ℕ, nat_lt, List, [], ◌∷◌, length, drop, map as mapped, Bool, true, false, if◌then◌else◌}
use Rattle.std.specs.declared.cmp.Ordering.{Ordering}
use Rattle.std.specs.declared.cmp.Ordering.TheVariants.{Less}
use Rattle.std.specs.Ordering.{nat_cmp, ordering_then}
use Rattle.std.specs.Cmp.Lexicographic.{slice_cmp}
use Rattle.std.specs.List.{slice_split}
use Rattle.smithy_query_codec.specs.Leaves.{Path, Leaf, MemberRole, flat_member, neither}
use Rattle.smithy_query_codec.proofs.PathTexts.{is_point}
use Rattle.smithy_form.specs.Pairs.{NamedText}

-- segments by their lengths, and of one length by their bytes
abbrev pub segment_cmp : List ℕ → List ℕ → Ordering
segment_cmp s t = ordering_then (nat_cmp (length s) (length t)) (slice_cmp nat_cmp s t)

-- the segments of a name from a place on: none where the name ends before it
abbrev pub rest_path : ℕ → List ℕ → Path
rest_path at name = if nat_lt (length name) at then [] else slice_split is_point (drop at name)

-- the first segment against another; a path without one comes first
abbrev pub first_cmp : Path → List ℕ → Ordering
first_cmp [] s = Less
first_cmp (t ∷ path) s = segment_cmp t s

-- the pairs as leaves, from a place of their names on
abbrev pub leaves_from : ℕ → List NamedText → List Leaf
leaves_from at pairs = mapped (λ (p : NamedText). record { path = rest_path at p.0; text = p.1 }) pairs

-- whose value it is: a member's, and a flat one's
abbrev pub is_member : MemberRole → Bool
is_member neither = false
is_member _ = true

abbrev pub is_flat : MemberRole → Bool
is_flat flat_member = true
is_flat _ = false
