-- What the calls answer that cut a form into its pairs.
use Rattle.std.specs.Prelude.{◌≡◌, ◌<◌, ◌||◌, ◌==◌, ℕ, Bool, false, List, ◌∷◌, length, map as mapped, Option, None, Some, MatchOption, Result, Ok, Err}
use Rattle.std.specs.Borrow.{Bor}
use Rattle.std.specs.Str.{byte}
use Rattle.std.specs.declared.vec.Vec.{Vec}
use Rattle.std.specs.declared.alloc.Global.{Global}
use Rattle.percent_encoding.specs.Percent.{percent_decode}
use Rattle.smithy_form.specs.declared.error.FormError.{FormError}
use Rattle.smithy_form.specs.declared.error.FormError.TheVariants.{BadPair, NoMemory}
use Rattle.smithy_form.specs.declared.pairs.Pair.{Pair}
use Rattle.smithy_form.specs.Forms.{has_whole_escapes, spaced, pair_in, pairs_from, bad_pair, all_pairs}
use Rattle.smithy_form.specs.Private.Kept.{named_text}
use Rattle.smithy_form.specs.Private.Order.{AreNumbered}

-- a byte that doesn't represent itself in a side
abbrev pub is_coded : ℕ → Bool
is_coded b = b == byte "%" || b == byte "+"

-- a side begins with what represents this byte, and this follows
pub record BeginsWith (side : List ℕ) (b : ℕ) (rest : List ℕ) : Type 0 where
  pub decoded : percent_decode (spaced side) ≡ b ∷ percent_decode (spaced rest)
  pub whole : has_whole_escapes side ≡ has_whole_escapes rest
  pub shorter : length rest < length side

-- the front of a side, unless it is a `%` without its two digits
abbrev pub ReadsFront : List ℕ → Option (ℕ × Bor (List ℕ)) → Type 0
ReadsFront side front = MatchOption front (has_whole_escapes side ≡ false) (λ x. BeginsWith side x.0 x.1.now)

-- the pair that a piece is, with its number
abbrev pub ReadsPair : List ℕ → ℕ → Result Pair FormError → Type 0
ReadsPair piece number (Ok p) = (pair_in piece ≡ Some (named_text p)) × (p.number ≡ number)
ReadsPair piece number (Err (BadPair n)) = (pair_in piece ≡ None) × (n ≡ number)
ReadsPair piece number (Err NoMemory) = Unit {0}
ReadsPair piece number (Err _) = ⊥

-- the pairs that pieces are, with their numbers from 1
abbrev pub ReadsPairs : List (List ℕ) → Result (Vec Pair Global) FormError → Type 0
ReadsPairs pieces (Ok ps) = (pairs_from 1 pieces ≡ all_pairs (mapped named_text ps.items)) × AreNumbered 1 ps.items
ReadsPairs pieces (Err (BadPair n)) = pairs_from 1 pieces ≡ bad_pair n
ReadsPairs pieces (Err NoMemory) = Unit {0}
ReadsPairs pieces (Err _) = ⊥
