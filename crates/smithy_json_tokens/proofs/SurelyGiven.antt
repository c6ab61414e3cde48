-- What the rules give, the iterator surely gives.
use Rattle.std.proofs.Common.{List, [], ◌∷◌, Option, Some, None, Result, Ok, Err, sym, subst}
use Rattle.smithy_json_tokens.specs.Tokens.{JsonToken}
use Rattle.smithy_json_tokens.specs.TokenView.{token_view}
use Rattle.smithy_json_tokens.specs.TokenRules.{Cursor}
use Rattle.smithy_json_tokens.specs.TokenRuns.{Leads}
use Rattle.smithy_json_tokens.specs.TokenSteps.{IsItem, SurelyGives}
use Rattle.smithy_json_tokens.specs.IteratorView.{cursor_of, GivesNext}
use Rattle.smithy_json_tokens.specs.declared.token.Token.{Token}
use Rattle.smithy_json_tokens.specs.declared.token_iter.JsonTokenIterator.{JsonTokenIterator}
use Rattle.smithy_json_tokens.specs.declared.error.DeserializeError.{DeserializeError}
use Rattle.smithy_json_tokens.proofs.SkipLaws.{error_is, none_is, token_is}

item_is : (u : JsonToken) (us : List JsonToken) (s t : JsonTokenIterator) (e d : Cursor) (item : Option (Result Token DeserializeError)) → GivesNext s item t → Leads (cursor_of s) (u ∷ us) d
    → ((t : JsonTokenIterator) → Leads (cursor_of t) us d → SurelyGives token_view GivesNext us t) → IsItem token_view GivesNext u (SurelyGives token_view GivesNext us t) item
item_is u us s t e d None step h others = none_is s t u h.0 step h.1
item_is u us s t e d (Some (Err x)) step h others = error_is s t x u h.0 step.1 h.1
item_is u us s t e d (Some (Ok token)) step h others =
    let is = token_is s t token u h.0 step h.1 in
    (is.0, others t (subst (λ c. Leads c us d) (sym is.1) h.2))

pub surely_gives : (ts : List JsonToken) (s : JsonTokenIterator) (d : Cursor) → Leads (cursor_of s) ts d → SurelyGives token_view GivesNext ts s
surely_gives [] s d h = tt
surely_gives (u ∷ us) s d h = λ item t step. item_is u us s t d d item step h (λ j more. surely_gives us j d more)
