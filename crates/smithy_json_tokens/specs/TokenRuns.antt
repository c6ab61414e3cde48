-- What the calls of a token iterator give, one after another.
use Rattle.std.specs.Prelude.{◌≡◌, ℕ, List, [], ◌∷◌}
use Rattle.smithy_json_tokens.specs.Tokens.{JsonToken}
use Rattle.smithy_json_tokens.specs.TokenRules.{Cursor, Answer, finished, found, refused, next_answer}
use Rattle.smithy_json_tokens.specs.declared.token_turn.State.TheVariants.{Initial}

-- before the first call
abbrev pub start : List ℕ → Cursor
start input = record { state = Initial; outer = []; left = input }

-- the answer is this token, and leaves the iterator there
abbrev pub Finds : Answer → JsonToken → Cursor → Type 0
Finds (found t here c) u d = (t ≡ u) × (c ≡ d)
Finds finished u d = ⊥
Finds (refused kind place) u d = ⊥

-- calls from c give these tokens, one after another, and lead to d
abbrev pub Leads : Cursor → List JsonToken → Cursor → Type 0
Leads c [] d = c ≡ d
Leads c (t ∷ ts) d = (e : Cursor) × Finds (next_answer c) t e × Leads e ts d

-- calls from c give these tokens, one after another, and then None
abbrev pub GivesOnly : Cursor → List JsonToken → Type 0
GivesOnly c ts = (d : Cursor) × Leads c ts d × (next_answer d ≡ finished)
