-- The order in which pairs are sorted, and what a call answers that sorts them.
use Rattle.std.specs.Prelude.{◌≡◌, ℕ, suc, nat_lt, List, [], ◌∷◌, Option, None, Some, Result, Ok, Err, bytes_eq, if◌then◌else◌}
use Rattle.std.specs.List.{slice_split}
use Rattle.std.specs.Ordering.{nat_cmp, ordering_then}
use Rattle.std.specs.declared.cmp.Ordering.{Ordering}
use Rattle.std.specs.declared.cmp.Ordering.TheVariants.{Less}
use Rattle.std.specs.Cmp.Lexicographic.{slice_cmp}
use Rattle.smithy_declarations.specs.Names.{named}
use Rattle.smithy_query_codec.specs.Leaves.{Path, Leaf}
use Rattle.smithy_query_codec.proofs.PairLemmas.{Pairwise}
use Rattle.smithy_query_codec.proofs.PathTexts.{is_point}
use Rattle.smithy_form.specs.declared.error.FormError.{FormError}
use Rattle.smithy_form.specs.declared.error.FormError.TheVariants.{Repeated, NoMemory}
use Rattle.smithy_form.specs.declared.pairs.Pair.{Pair}
use Rattle.smithy_form.specs.Pairs.{NamedText}
use Rattle.smithy_form.specs.Forms.{first_repeated}
use Rattle.smithy_form.specs.Private.Names.{segment_cmp, leaves_from}
use Rattle.smithy_form.specs.Private.Kept.{named_text}

-- paths segment by segment
abbrev pub path_cmp : Path → Path → Ordering
path_cmp p q = slice_cmp segment_cmp p q

abbrev pub IsBefore : Leaf → Leaf → Type 0
IsBefore l m = path_cmp l.path m.path ≡ Less

-- each leaf is before all later ones, so no two have one path
abbrev pub LeavesAscend : List Leaf → Type 0
LeavesAscend ls = Pairwise IsBefore ls

-- names, segment by segment
abbrev pub name_cmp : List ℕ → List ℕ → Ordering
name_cmp a b = path_cmp (slice_split is_point a) (slice_split is_point b)

-- pairs by their names, and those of one name by their numbers
abbrev pub pair_cmp : Pair → Pair → Ordering
pair_cmp p q = ordering_then (name_cmp (named_text p).0 (named_text q).0) (nat_cmp p.number q.number)

-- the lesser of a number that may be there and of another one
abbrev pub lesser : Option ℕ → ℕ → ℕ
lesser None n = n
lesser (Some m) n = if nat_lt m n then m else n

-- the least number so far, with that of the second pair where both have one name
abbrev pub with_repeat : Pair → Pair → Option ℕ → Option ℕ
with_repeat p q least = if bytes_eq (named_text p).0 (named_text q).0 then Some (lesser least q.number) else least

-- the least number of a pair with the name of the one before it
abbrev pub least_repeated : List Pair → Option ℕ
least_repeated [] = None
least_repeated (p ∷ []) = None
least_repeated (p ∷ q ∷ ps) = with_repeat p q (least_repeated (q ∷ ps))

-- the pairs have these numbers, from one on
abbrev pub AreNumbered : ℕ → List Pair → Type 0
AreNumbered n [] = Unit {0}
AreNumbered n (p ∷ ps) = (p.number ≡ n) × AreNumbered (suc n) ps

-- Sorting keeps the texts of all names, where no name comes twice. Else it answers the number of the first pair whose name came
-- before, where the pairs are counted from 3.
abbrev pub SortsPairs : List NamedText → List NamedText → Result (Unit {0}) FormError → Type 0
SortsPairs old new (Ok done) =
    (first_repeated [] 3 old ≡ None) × LeavesAscend (leaves_from 0 new) × ((name : List ℕ) → named new name ≡ named old name)
SortsPairs old new (Err (Repeated n)) = first_repeated [] 3 old ≡ Some n
SortsPairs old new (Err NoMemory) = Unit {0}
SortsPairs old new (Err _) = ⊥
