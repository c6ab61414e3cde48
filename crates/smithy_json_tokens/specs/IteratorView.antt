-- What contracts see of a `JsonTokenIterator`, and what its `next` gives.
use Rattle.std.specs.Prelude.{◌≡◌, ◌⊎◌, ◌≤◌, ◌-◌, ℕ, List, [], length, drop, reverse, Option, Result, MatchOption, MatchResult, vec_items}
use Rattle.std.specs.Iterator.{Count, at_most}
use Rattle.smithy_json_tokens.specs.TokenRules.{Cursor, FindsContainer, finished, found, refused, next_answer}
use Rattle.smithy_json_tokens.specs.TokenView.{token_view, token_offset, left_from, IsPlace}
use Rattle.smithy_json_tokens.specs.declared.token.Token.{Token}
use Rattle.smithy_json_tokens.specs.declared.error.DeserializeError.{DeserializeError}
use Rattle.smithy_json_tokens.specs.declared.error.DeserializeErrorKind.TheVariants.{NoMemory}
use Rattle.smithy_json_tokens.specs.declared.token_turn.State.{State}
use Rattle.smithy_json_tokens.specs.declared.token_iter.JsonTokenIterator.{JsonTokenIterator}

-- the whole input
abbrev pub input_of : JsonTokenIterator → List ℕ
input_of it = it.input.now

-- the states that an iterator comes back to as containers end, the innermost first
abbrev pub outer_of : JsonTokenIterator → List State
outer_of it = reverse (vec_items it.outer)

-- where an iterator stands: its state, the states that it comes back to, and what is left of the input
abbrev pub cursor_of : JsonTokenIterator → Cursor
cursor_of it = record {
  state = it.state;
  outer = outer_of it;
  left = drop it.index it.input.now;
}

-- nothing is left, so that no more items come
abbrev pub IsSpent : JsonTokenIterator → Type 0
IsSpent it = drop it.index it.input.now ≡ []

-- a token, as the rules have it
abbrev pub GivesToken : JsonTokenIterator → Token → JsonTokenIterator → Type 0
GivesToken s token t =
    (next_answer (cursor_of s)
    ≡ found (token_view token) (drop (token_offset token) (input_of s)) (cursor_of t))
    × (token_offset token ≤ length (input_of s))

-- an error, as the rules have it, or the want of memory where they find a container; and no more items
abbrev pub GivesError : JsonTokenIterator → DeserializeError → JsonTokenIterator → Type 0
GivesError s e t =
    IsSpent t
    × (((next_answer (cursor_of s) ≡ refused e.kind (left_from (input_of s) e.offset))
    × IsPlace (input_of s) e.offset)
    ⊎ ((e.kind ≡ NoMemory) × FindsContainer (next_answer (cursor_of s))))

-- what a call of `next` gives
abbrev pub GivesNext : JsonTokenIterator → Option (Result Token DeserializeError) → JsonTokenIterator → Type 0
GivesNext s r t =
    (input_of t ≡ input_of s)
    × MatchOption r ((next_answer (cursor_of s) ≡ finished) × IsSpent t)
    (λ item. MatchResult item (λ token. GivesToken s token t) (λ e. GivesError s e t))

-- at most an item for each byte that is left
abbrev pub bytes_left : JsonTokenIterator → Count
bytes_left it = at_most (length it.input.now - it.index)
