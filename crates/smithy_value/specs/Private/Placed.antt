-- Texts and bytes that a pool has.
use Rattle.std.specs.Prelude.{◌≡◌, ℕ, List}
use Rattle.smithy_schema.specs.declared.spans.TextSpan.{TextSpan}
use Rattle.smithy_schema.specs.declared.spans.TextSpan.TheVariants as texts
use Rattle.smithy_schema.specs.declared.spans.BytesSpan.{BytesSpan}
use Rattle.smithy_schema.specs.declared.spans.BytesSpan.TheVariants as spans
use Rattle.smithy_tree.specs.Nodes.{slice_of, IsSpan, LeavesPlaces}
use Rattle.smithy_tree.specs.Seen.{Grows, bytes_of, waiting}
use Rattle.smithy_tree.specs.declared.pool.Pool.{Pool}

-- the text stands there
pub record HasText (p q : Pool) (at size : ℕ) (t : List ℕ) : Type 0 where
  pub grows : Grows p q
  pub waiting : waiting q ≡ waiting p
  pub span : IsSpan q.input.now q.side.items at size
  pub bytes : slice_of (bytes_of q) at size ≡ t

-- why a text isn't placed: its place in the input leaves 32 bits. One in memory of its own is copied, which wants memory.
abbrev pub RefusesText : TextSpan → Type 0
RefusesText (texts.Placed at size) = LeavesPlaces at size
RefusesText (texts.Owned s) = Unit {0}

-- the same of bytes
abbrev pub RefusesBytes : BytesSpan → Type 0
RefusesBytes (spans.Placed at size) = LeavesPlaces at size
RefusesBytes (spans.Owned b) = Unit {0}
