-- The stack of open containers, as its plain frames.
use Rattle.std.specs.Prelude.{◌≡◌, ◌⊎◌, ℕ, List, map, reverse, Option, Some, None, Result, Ok, Err, MatchResult, String, string_bytes}
use Rattle.std.specs.declared.alloc.Global.{Global}
use Rattle.smithy_json_grammar.specs.Unescape.{unescape}
use Rattle.smithy_json_grammar.specs.declared.escape_error.EscapeError.{EscapeError}
use Rattle.smithy_types.specs.DocumentView.{document_view, elements_view, properties_view}
use Rattle.smithy_types.specs.declared.document.Document.{Document}
use Rattle.smithy_json_tokens.specs.Faults.{error_at}
use Rattle.smithy_json_tokens.specs.DocumentSteps as steps
use Rattle.smithy_json_tokens.specs.DocumentSteps.{in_array, in_object, behind_name, Step, goes_on, whole, IsStepError, TakesMemory}
use Rattle.smithy_json_tokens.specs.declared.error.DeserializeError.{DeserializeError}
use Rattle.smithy_json_tokens.specs.declared.error.DeserializeErrorKind.TheVariants.{UnescapeFailed, NoMemory}
use Rattle.smithy_json_tokens.specs.declared.frames.Frame.{Frame}
use Rattle.smithy_json_tokens.specs.declared.frames.Frame.TheVariants.{InArray, InObject, BehindName}

abbrev pub frame_view : Frame → steps.Frame
frame_view (InArray v) = in_array (elements_view v.items)
frame_view (InObject m) = in_object (properties_view m.entries)
frame_view (BehindName m name) = behind_name (properties_view m.entries) (string_bytes name)

-- the innermost first
abbrev pub frames_view : List Frame → List steps.Frame
frames_view frames = map frame_view (reverse frames)

-- the code's answer to a token at an offset is the step, and leaves these frames
abbrev pub Makes : Step → ℕ → Result (Option Document) DeserializeError → List Frame → Type 0
Makes step at (Ok None) frames = step ≡ goes_on (frames_view frames)
Makes step at (Ok (Some d)) frames = step ≡ whole (document_view d)
Makes step at (Err e) frames = IsStepError step at e ⊎ ((e ≡ error_at NoMemory at) × TakesMemory step)

-- the text of a raw text, or its first fault at the offset, or the want of memory
abbrev pub IsOwnTextAt : List ℕ → ℕ → Result (String Global) DeserializeError → Type 0
IsOwnTextAt raw at result =
    MatchResult result (λ text. unescape raw ≡ Ok (string_bytes text))
    (λ e. ((fault : EscapeError) × (unescape raw ≡ Err fault) × (e ≡ error_at (UnescapeFailed fault) at))
    ⊎ (e ≡ error_at NoMemory at))
