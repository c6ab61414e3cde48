-- Stacks of open containers.
use Rattle.std.proofs.Common.{◌≡◌, ◌⊎◌, ℕ, List, [], ◌∷◌, ◌++◌, map, Bool, true, cond, Option, Some, None, Result, Ok, Err, ap, subst, sym, ◌∙◌, refl, inl, inr}
use Rattle.std.proofs.lemmas.List.{reverse-append}
use Rattle.smithy_types.specs.Document.{item}
use Rattle.smithy_types.specs.DocumentView.{document_view, elements_view}
use Rattle.smithy_types.specs.declared.document.Document.{Document}
use Rattle.smithy_json_grammar.specs.Unescape.{unescape}
use Rattle.smithy_json_grammar.specs.declared.escape_error.EscapeError.{EscapeError}
use Rattle.smithy_json_tokens.specs.Faults.{error_at}
use Rattle.smithy_json_tokens.specs.DocumentSteps as steps
use Rattle.smithy_json_tokens.specs.DocumentSteps.{Step, in_array, in_object, behind_name, goes_on, whole, wrong, add_element, where_value, text_step, IsStepError, TakesMemory, EndsWith}
use Rattle.smithy_json_tokens.specs.declared.error.DeserializeErrorKind.TheVariants.{UnescapeFailed, NoMemory}
use Rattle.smithy_json_tokens.specs.declared.error.DeserializeError.{DeserializeError}
use Rattle.smithy_json_tokens.specs.Private.Frames.{frame_view, frames_view, Makes}
use Rattle.smithy_json_tokens.specs.declared.frames.Frame.{Frame}

-- one more container
pub frames_push : (fs : List Frame) (f : Frame) → frames_view (fs ++ f ∷ []) ≡ frame_view f ∷ frames_view fs
frames_push fs f = ap (map frame_view) (reverse-append fs (f ∷ []))

-- one more element
pub elements_push : (ds : List Document) (d : Document) → elements_view (ds ++ d ∷ []) ≡ add_element (elements_view ds) (document_view d)
elements_push [] d = refl
elements_push (e ∷ ds) d = ap (item (document_view e)) (elements_push ds d)

-- what the code's answer to a token says of its step
pub goes_with : (step : Step) (at : ℕ) (made : Option Document) (frames : List Frame) → Makes step at (Ok made) frames → made ≡ None → step ≡ goes_on (frames_view frames)
goes_with step at made frames h is = subst (λ m. Makes step at (Ok m) frames) is h

pub whole_with : (step : Step) (at : ℕ) (made : Option Document) (d : Document) (frames : List Frame) → Makes step at (Ok made) frames → made ≡ Some d → step ≡ whole (document_view d)
whole_with step at made d frames h is = subst (λ m. Makes step at (Ok m) frames) is h

-- an error of the code ends it so, at the token that it was made for
pub ends_error : (step made_of : Step) (at place : ℕ) (e : DeserializeError) (frames : List Frame) → made_of ≡ step → place ≡ at → Makes made_of place (Err e) frames → EndsWith step at (Err e)
ends_error step made_of at place e frames is there h = subst (λ p. EndsWith step p (Err e)) there (subst (λ s. EndsWith s place (Err e)) is h)

-- where a value may begin, the text of a string may take memory
text_takes : (fs : List steps.Frame) → ((step : Step) → where_value fs step ≡ step) → (r : Result (List ℕ) EscapeError) → TakesMemory (text_step fs r)
text_takes fs may (Err fault) = tt
text_takes [] may (Ok s) = tt
text_takes (in_array ds ∷ fs) may (Ok s) = tt
text_takes (behind_name ps name ∷ fs) may (Ok s) = tt
text_takes (in_object ps ∷ fs) may (Ok s) = let bad : wrong ≡ goes_on [] = may (goes_on []) in cc

-- the same where the text isn't made
pub text_refused : (fs : List steps.Frame) (raw : List ℕ) (may : Bool) (at : ℕ) (e : DeserializeError) (left : List Frame)
    → may ≡ true → ((step : Step) → where_value fs step ≡ cond may step wrong)
    → ((fault : EscapeError) × (unescape raw ≡ Err fault) × (e ≡ error_at (UnescapeFailed fault) at)) ⊎ (e ≡ error_at NoMemory at)
    → Makes (where_value fs (text_step fs (unescape raw))) at (Err e) left
text_refused fs raw may at e left is begins h =
    let begun : (step : Step) → where_value fs step ≡ step = λ step. begins step ∙ ap (λ b. cond b step wrong) is in
    by (begun (text_step fs (unescape raw))) (text_takes fs begun (unescape raw)) h
  where
    by : where_value fs (text_step fs (unescape raw)) ≡ text_step fs (unescape raw) → TakesMemory (text_step fs (unescape raw))
        → ((fault : EscapeError) × (unescape raw ≡ Err fault) × (e ≡ error_at (UnescapeFailed fault) at)) ⊎ (e ≡ error_at NoMemory at)
        → Makes (where_value fs (text_step fs (unescape raw))) at (Err e) left
    by same takes (inl (fault, broken, told)) =
        inl (subst (λ s. IsStepError s at e) (sym (same ∙ ap (text_step fs) broken)) told)
    by same takes (inr told) = inr (told, subst TakesMemory (sym same) takes)
