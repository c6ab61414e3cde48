-- Paths whose segments hold no point are told apart by their texts.
use Rattle.std.proofs.Common.{◌≡◌, ◌≢◌, ◌==◌, ℕ, List, [], ◌∷◌, Bool, false, refl, sym, ap, ◌∙◌}
use Rattle.std.specs.List.{AllByRecursion, slice_split}
use Rattle.std.proofs.lemmas.List.Splits.{slice_split_none, slice_split_at}
use Rattle.smithy_query_codec.specs.Leaves.{Path}
use Rattle.smithy_query_codec.specs.Canonical.{path_text}
use Rattle.smithy_query_codec.proofs.PairLemmas.{each_all}
use Rattle.smithy_query_codec.proofs.SegmentLemmas.{HasNoPoint}

abbrev pub is_point : ℕ → Bool
is_point b = b == 46

-- a path that is written, cut at its points
pub split_path : (s : List ℕ) (p : Path) → AllByRecursion HasNoPoint (s ∷ p) → slice_split is_point (path_text (s ∷ p)) ≡ s ∷ p
split_path s [] h = slice_split_none is_point s (each_all (λ b. is_point b ≡ false) s h.0)
split_path s (t ∷ p) h =
    slice_split_at is_point s 46 (path_text (t ∷ p)) (each_all (λ b. is_point b ≡ false) s h.0) refl
    ∙ ap (λ x. s ∷ x) (split_path t p h.1)

pub same_path : (p q : Path) → p ≢ [] → q ≢ [] → AllByRecursion HasNoPoint p → AllByRecursion HasNoPoint q → path_text p ≡ path_text q → p ≡ q
same_path [] q full_p full_q hp hq same = absurd (full_p refl)
same_path (s ∷ p) [] full_p full_q hp hq same = absurd (full_q refl)
same_path (s ∷ p) (t ∷ q) full_p full_q hp hq same =
    sym (split_path s p hp) ∙ ap (slice_split is_point) same ∙ split_path t q hq
