-- Where a member is told, its name is in the grammar of the settings.
use Rattle.std.specs.Prelude.{◌≡◌, ℕ, List, Bool, true, false, Option, Some, None, option_and_then, if◌then◌else◌, refl}
use Rattle.std.proofs.Common.{◌∙◌, ap, subst}
use Rattle.smithy_schema.specs.Reading.{Mark}
use Rattle.smithy_json_grammar.specs.Unescape.{unescaped}
use Rattle.smithy_json_values.specs.LexicalGrammar.{frames_of}
use Rattle.smithy_json_values.specs.Scalar.{JsonScalar, a_string}
use Rattle.smithy_json_values.specs.Settings.{Settings}
use Rattle.smithy_json_values.specs.Spans.{entry_mark}
use Rattle.smithy_json_values.specs.Standing.{json_grammar, json_rules}
use Rattle.smithy_json_values.specs.Private.NextInContainer.{NamesIn}
use Rattle.smithy_wire.specs.Frames.{IsTold}
use Rattle.smithy_wire.specs.Node.{as_object}
use Rattle.smithy_wire.specs.Rules.{key_text}

-- with a name of the grammar an entry comes, whose key has the text of the name
pub entry_of_names : (c : Settings) (i : List ℕ) (b : ℕ) (m : Mark) (raw : List ℕ) (e : ℕ) → NamesIn (json_grammar c) m.entered i b raw e
    → (frames_of (json_grammar c)).entry as_object i b m (Some (a_string raw)) e entry_mark × (key_text (json_rules c) as_object (Some (a_string raw)) ≡ unescaped raw)
entry_of_names c i b m raw e names = ((raw, refl, refl, names.0), ap (λ test. if test then unescaped raw else None) names.1)

-- and an entry whose key is told has such a name
pub entry_told : (c : Settings) (i : List ℕ) (b : ℕ) (m : Mark) (key : Option JsonScalar) (e : ℕ) (n : Mark) → (frames_of (json_grammar c)).entry as_object i b m key e n
    → IsTold as_object (key_text (json_rules c) as_object key)
    → (raw : List ℕ) × NamesIn (json_grammar c) m.entered i b raw e × (key_text (json_rules c) as_object key ≡ unescaped raw)
entry_told c i b m key e n (raw, is, mark, tokens) told =
    by ((json_grammar c).is_text raw) refl (subst (λ k. IsTold as_object (option_and_then (json_rules c).text_of k)) is told)
  where
    by : (test : Bool) → (json_grammar c).is_text raw ≡ test → IsTold as_object (if test then unescaped raw else None)
        → (raw : List ℕ) × NamesIn (json_grammar c) m.entered i b raw e × (key_text (json_rules c) as_object key ≡ unescaped raw)
    by true passes h =
        (raw, (tokens, passes), ap (option_and_then (json_rules c).text_of) is ∙ ap (λ test. if test then unescaped raw else None) passes)
    by false fails h = absurd h
