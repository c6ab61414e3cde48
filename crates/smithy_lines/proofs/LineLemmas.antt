-- How bytes are cut into lines.
use Rattle.std.proofs.Common.{◌≡◌, ◌<◌, ◌==◌, ℕ, List, [], ◌∷◌, ◌++◌, length, refl, ◌∙◌, ap, arith}
use Rattle.std.specs.List.{slice_split}
use mathlib.Core.Bool.{cond}
use borrow.Author.Tests.{ne_eqb}
use Rattle.std.proofs.lemmas.List.Splits.{slice_split_none, slice_split_at, length-slice_split}
use Rattle.smithy_lines.specs.Lines.{line_feed, HasNoFeed, without_empty_last, lines_of}

first_kept : (piece : List ℕ) (pieces : List (List ℕ)) → 0 < length pieces → without_empty_last (piece ∷ pieces) ≡ piece ∷ without_empty_last pieces
first_kept piece [] some = absurd (omega arith)
first_kept piece (next ∷ more) some = refl

-- a line that a line feed ends is the first, and those of the rest follow
pub first_line : (line rest : List ℕ) → HasNoFeed line → lines_of (line ++ line_feed ∷ rest) ≡ line ∷ lines_of rest
first_line line rest none =
    ap without_empty_last (slice_split_at (λ b. b == line_feed) line line_feed rest none refl)
    ∙ first_kept line (slice_split (λ b. b == line_feed) rest) (omega (arith, length-slice_split (λ b. b == line_feed) rest))

-- bytes without a line feed are one line, where there is a byte
pub last_line : (b : ℕ) (line : List ℕ) → HasNoFeed (b ∷ line) → lines_of (b ∷ line) ≡ (b ∷ line) ∷ []
last_line b line none =
    ap without_empty_last (slice_split_none (λ b. b == line_feed) (b ∷ line) none)
    ∙ ap (λ t. cond t [] ((b ∷ line) ∷ [])) (ne_eqb (length (b ∷ line)) 0 (λ z. omega arith))
