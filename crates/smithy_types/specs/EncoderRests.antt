-- What an encoder is after its text was lent.
use Rattle.std.specs.Prelude.{◌≡◌, ℕ, List, ⊤}
use mathlib.Core.Option.{none}
use Rattle.std.specs.Borrow.{follows_so, MutBor, Fml}
use Rattle.smithy_types.specs.contracts.primitive.Encoder.{the_row}

-- the encoder ends as it was
abbrev pub Rests : MutBor (List ℕ) → Fml
Rests encoder = follows_so the_row the_row encoder.ghost_name none (λ _ _. ⊤) (λ text. text ≡ encoder.now)
