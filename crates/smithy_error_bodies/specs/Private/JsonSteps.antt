-- An error body in JSON, token by token.
use Rattle.std.specs.Prelude.{◌≡◌, ◌==◌, ◌-◌, ℕ, suc, nat_lt, List, [], ◌∷◌, Bool, true, false, Option, Some, None, option_map, string_bytes, if◌then◌else◌}
use Rattle.smithy_json_grammar.specs.Unescape.{unescaped}
use Rattle.smithy_json_tokens.specs.Tokens.{JsonToken, start_array, end_array, start_object, end_object, value_string, object_key}
use Rattle.smithy_json_tokens.specs.TokenRules.{Cursor}
use Rattle.smithy_json_tokens.specs.TokenRuns.{Leads}
use Rattle.smithy_error_bodies.specs.Said.{Said, first_of}
use Rattle.smithy_error_bodies.specs.Private.JsonKeys.{key_of}
use Rattle.smithy_error_bodies.specs.declared.reading.Key.{Key}
use Rattle.smithy_error_bodies.specs.declared.reading.Key.TheVariants.{Code, Kind, Message, Other}
use Rattle.smithy_error_bodies.specs.declared.reading.Turn.{Turn}
use Rattle.smithy_error_bodies.specs.declared.reading.Turn.TheVariants.{On, Done, Wrong}
use Rattle.smithy_error_bodies.specs.declared.reading.Reading as kept

abbrev pub begins_object : JsonToken → Bool
begins_object start_object = true
begins_object _ = false

-- inside of the object: how many further containers are open, the last key of the object itself, and the last texts so far
pub record State : Type 0 where
  pub within : ℕ
  pub under : Key
  pub code : Option (List ℕ)
  pub kind : Option (List ℕ)
  pub message : Option (List ℕ)

abbrev pub state_of : kept.Reading → State
state_of r = record {
  within = r.within;
  under = r.under;
  code = option_map string_bytes r.code;
  kind = option_map string_bytes r.type_name;
  message = option_map string_bytes r.message;
}

-- behind the brace that begins the object
abbrev pub fresh : State
fresh = record { within = 0; under = Other; code = None; kind = None; message = None }

-- with a text under a key
abbrev pub with_text : Key → List ℕ → State → State
with_text Code text s = record s { code = Some text }
with_text Kind text s = record s { kind = Some text }
with_text Message text s = record s { message = Some text }
with_text Other text s = s

-- what a string of the object itself is under a key, whose text may be none
abbrev pub under_key : Key → State → Option (List ℕ) → Turn × State
under_key Other s text = (On, s)
under_key key s (Some text) = (On, with_text key text s)
under_key key s None = (Wrong, s)

-- what a token makes of a state: it goes on, is whole, or nothing can be read
abbrev pub string_step : State → List ℕ → Turn × State
string_step s raw = if s.within == 0 then under_key s.under s (unescaped raw) else (On, s)

abbrev pub key_step : State → List ℕ → Turn × State
key_step s raw = (On, if s.within == 0 then record s { under = key_of raw } else s)

abbrev pub start_step : State → Turn × State
start_step s = if nat_lt s.within 512 then (On, record s { within = suc s.within }) else (Wrong, s)

abbrev pub end_step : State → Turn × State
end_step s = if s.within == 0 then (Done, s) else (On, record s { within = s.within - 1 })

abbrev pub step : State → JsonToken → Turn × State
step s start_array = start_step s
step s start_object = start_step s
step s end_array = end_step s
step s end_object = end_step s
step s (object_key raw) = key_step s raw
step s (value_string raw) = string_step s raw
step s _ = (On, s)

-- what the texts so far say
abbrev pub said_in : State → Said
said_in s = record { code = first_of s.code s.kind; message = s.message }

abbrev pub whole : State → List JsonToken → Option Said
whole s [] = Some (said_in s)
whole s (t ∷ ts) = None

abbrev pub reads_by : Turn × State → (State → Option Said) → List JsonToken → Option Said
reads_by (On, s) rest ts = rest s
reads_by (Done, s) rest ts = whole s ts
reads_by (Wrong, s) rest ts = None

-- what the tokens of the rest of the object say, up to and with the last
abbrev pub reads : State → List JsonToken → Option Said
reads s [] = None
reads s (t ∷ ts) = reads_by (step s t) (λ u. reads u ts) ts

-- such an answer of the tokens that calls from c give, or none of whichever they give
abbrev pub Tells : (List JsonToken → Option Said) → Cursor → Option Said → Type 0
Tells says c (Some said) = (ts : List JsonToken) × (d : Cursor) × Leads c ts d × (says ts ≡ Some said)
Tells says c None = (ts : List JsonToken) (d : Cursor) → Leads c ts d → says ts ≡ None
