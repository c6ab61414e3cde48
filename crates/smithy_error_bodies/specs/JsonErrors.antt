-- What a body says that is JSON (the protocols AWS JSON 1.0 and 1.1 of Smithy 2.0, "Operation error serialization").
use Rattle.std.specs.Prelude.{◌≡◌, ◌||◌, ◌&&◌, ℕ, nat_le, List, [], ◌∷◌, Bool, Option, Some, None, is_some, if◌then◌else◌}
use Rattle.std.specs.List.{list_all}
use Rattle.smithy_json_grammar.specs.Tree.{string, object, Members, no_members, member, members_nesting}
use Rattle.smithy_json_grammar.specs.Unescape.{unescaped}
use Rattle.smithy_json_tokens.specs.Tokens.{start_object, tokens}
use Rattle.smithy_json_tokens.specs.TokenRules.{Cursor, Answer, finished, found, refused, next_answer}
use Rattle.smithy_json_tokens.specs.TokenRuns.{start, Leads}
use Rattle.smithy_error_bodies.specs.Said.{Said, nothing_said, is_code, is_type, is_message, first_of}

-- The strings that the object itself has under the keys of a test, in order, by what stands between their quotation marks. A key is
-- compared as it is written.
abbrev pub strings_under : (List ℕ → Bool) → Members → List (List ℕ)
strings_under wanted no_members = []
strings_under wanted (member key (string raw) ms) =
    if wanted key then raw ∷ strings_under wanted ms else strings_under wanted ms
strings_under wanted (member key _ ms) = strings_under wanted ms

-- the text of the last of these strings
abbrev pub last_text : List (List ℕ) → Option (List ℕ)
last_text [] = None
last_text (raw ∷ []) = unescaped raw
last_text (raw ∷ raws) = last_text raws

-- all strings that are looked at can be freed of their escapes
abbrev pub is_looked_at : List ℕ → Bool
is_looked_at key = is_code key || is_type key || is_message key

abbrev pub are_readable : Members → Bool
are_readable ms = list_all (λ raw. is_some (unescaped raw)) (strings_under is_looked_at ms)

-- an object of these members: nothing can be read where a value nests too deep or a string can't be read
abbrev pub object_says : Members → Option Said
object_says ms =
    if nat_le (members_nesting ms) 512 && are_readable ms then Some (record {
      code = first_of (last_text (strings_under is_code ms)) (last_text (strings_under is_type ms));
      message = last_text (strings_under is_message ms);
    }) else None

-- the body begins with an object of some members, of which this is said; or, where nothing can be read, with none of which
-- anything is said
abbrev pub ObjectSays : List ℕ → Option Said → Type 0
ObjectSays body (Some said) =
    (ms : Members) × (d : Cursor) × Leads (start body) (tokens (object ms)) d × (object_says ms ≡ Some said)
ObjectSays body None =
    (ms : Members) (d : Cursor) → Leads (start body) (tokens (object ms)) d → object_says ms ≡ None

-- by the first token: none, and one that begins no object, say nothing; nothing can be read where it is an error
abbrev pub SaysFrom : Answer → List ℕ → Option Said → Type 0
SaysFrom finished body said = said ≡ Some nothing_said
SaysFrom (found start_object here c) body said = ObjectSays body said
SaysFrom (found _ here c) body said = said ≡ Some nothing_said
SaysFrom (refused kind place) body said = said ≡ None

-- this is what the body says, or nothing can be read
abbrev pub JsonSays : List ℕ → Option Said → Type 0
JsonSays body said = SaysFrom (next_answer (start body)) body said
