-- A text without a backslash stands for itself, and where a string lies that has no text, none lies.
use Rattle.std.proofs.Common.{◌≡◌, ℕ, List, length, true, false, Some, None, Ok, sym, ap, ◌∙◌, inl, inr}
use Rattle.std.proofs.lemmas.Bool.Decides.{eqb_tells}
use Rattle.std.specs.List.{prefix_len}
use Rattle.smithy_json_grammar.specs.Unescape.{unescape, unescaped, has_escape}
use Rattle.smithy_json_grammar.specs.Private.Unescaping.{is_no_escape}
use Rattle.smithy_json_grammar.proofs.UnescapingLemmas.{no_escape_is_text, some_escape_run}
use Rattle.smithy_declarations.specs.declared.shape_type.Scalar.TheVariants as scalars
use Rattle.smithy_json_values.specs.LexicalGrammar.{LexicalGrammar, LiesInGrammar}
use Rattle.smithy_json_values.specs.Scalar.{a_string, bytes_of}
use Rattle.smithy_json_values.specs.Private.ScalarAtPlace.{TextLies, BlobLies}
use Rattle.smithy_json_values.proofs.GrammarReads.{one_in_grammar}

pub without_escape : (s : List ℕ) → has_escape s ≡ false → unescape s ≡ Ok s
without_escape s none = elim (eqb_tells (prefix_len is_no_escape s) (length s)) [
  | inl all ↦ no_escape_is_text s all.1
  | inr other ↦ absurd (let clash : true ≡ false = sym (some_escape_run s other.1) ∙ none in cc)
]

module _ (g : LexicalGrammar) (input : List ℕ) (at : ℕ) (raw : List ℕ) (e : ℕ) (lies : LiesInGrammar g scalars.String (a_string raw) input at e) where
  same_raw : (other : List ℕ) (f : ℕ) → LiesInGrammar g scalars.String (a_string other) input at f → other ≡ raw
  same_raw other f there = let same = one_in_grammar g scalars.String input (a_string other) (a_string raw) at f e there lies in cc

  pub no_text_lies : unescaped raw ≡ None → (text : List ℕ) (f : ℕ) → TextLies g input at text f → ⊥
  no_text_lies none text f h = let both : Some text ≡ None = sym h.is ∙ ap unescaped (same_raw h.raw f h.lies) ∙ none in cc

  pub no_blob_lies : bytes_of (a_string raw) ≡ None → (blob : List ℕ) (f : ℕ) → BlobLies g input at blob f → ⊥
  no_blob_lies none blob f h = let both : Some blob ≡ None = sym h.is ∙ ap (λ r. bytes_of (a_string r)) (same_raw h.raw f h.lies) ∙ none in cc
