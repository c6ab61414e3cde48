-- What is left of a document's text, element by element, and the text of one without parts.
use Rattle.std.proofs.Common.{◌≡◌, ◌+◌, ◌<◌, ℕ, List, ◌∷◌, ◌++◌, length, drop, get_or, String, Global, string_bytes, sym, ap, ◌∙◌, append_assoc}
use Rattle.std.proofs.lemmas.List.{drop_more}
use Rattle.smithy_types.specs.Document as plain
use Rattle.smithy_types.specs.DocumentView.{document_view, view_step, properties_view}
use Rattle.smithy_types.specs.declared.document.Document.{Document}
use Rattle.smithy_types.specs.declared.document.Document.TheOpen.{Document-F}
use Rattle.smithy_types.specs.declared.document.Document.TheFolds.{fold-roll-Document}
use Rattle.smithy_types.specs.declared.document.Document.TheVariants as variants
use Rattle.smithy_types.specs.declared.number.Number.{Number}
use Rattle.smithy_json.specs.DocumentText.{comma, document_text, properties_text}
use Rattle.smithy_json.specs.Escape.{quoted}
use Rattle.smithy_json.specs.ValueTexts.{name_text}

-- the element that is next
pub next_of : (xs : List Document) (i : ℕ) (x : Document) → i < length xs → x ≡ get_or xs i x → drop i xs ≡ x ∷ drop (i + 1) xs
next_of xs i x within is = drop_more xs i x within ∙ ap (λ y. y ∷ drop (i + 1) xs) (sym is)

-- the text from the property that is next on
pub next_property : (parting : List ℕ) (left rest : List (String Global × Document)) (name : String Global) (d : Document) (text : List ℕ) → left ≡ (name, d) ∷ rest → text ≡ string_bytes name
    → properties_text parting (properties_view left)
    ≡ (parting ++ name_text text) ++ (document_text (document_view d) ++ properties_text comma (properties_view rest))
next_property parting left rest name d text is named =
    ap (λ es. properties_text parting (properties_view es)) is
    ∙ ap (λ s. parting ++ (name_text s ++ (document_text (document_view d) ++ properties_text comma (properties_view rest)))) (sym named)
    ∙ sym (append_assoc parting (name_text text) _)

-- a text is a string
pub written_text : (d : Document) (s : String Global) → d ≡ variants.String s → document_text (document_view d) ≡ quoted (string_bytes s)
written_text d s is =
    ap (λ e. document_text (document_view e)) (is ∙ sym (variants.rolls-String s))
    ∙ ap document_text (fold-roll-Document (plain.Document Number) view_step (Document-F.String s))
