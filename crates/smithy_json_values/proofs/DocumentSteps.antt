-- The steps of the walk through a document, as the code takes them.
use Rattle.std.proofs.Common.{◌≡◌, ◌+◌, ◌≤◌, ◌∙◌, ℕ, suc, length, List, [], ◌∷◌, Bool, true, Some, None, Result, Ok, Err, refl, sym, ap, subst, arith, inl, inr, if◌then◌else◌}
use Rattle.smithy_types.specs.Document.{Document, Documents, Properties}
use Rattle.smithy_types.specs.declared.number.Number.{Number}
use Rattle.smithy_shapes.specs.Lemmas.Options.{chosen}
use Rattle.smithy_json_grammar.specs.Unescape.{unescaped}
use Rattle.smithy_json_values.specs.declared.documents.DocumentFault.{DocumentFault}
use Rattle.smithy_json_values.specs.declared.documents.DocumentFault.TheVariants.{NoDocument}
use Rattle.smithy_json_values.specs.declared.documents.Frame.{Frame}
use Rattle.smithy_json_values.specs.declared.documents.Step.{Step}
use Rattle.smithy_json_values.specs.declared.documents.Step.TheVariants.{Inside, Opens, Ends}
use Rattle.smithy_json_values.specs.Settings.{Settings}
use Rattle.smithy_json_values.specs.LexicalGrammar.{LexicalGrammar}
use Rattle.smithy_json_values.specs.Documents.{DocumentLies}
use Rattle.smithy_json_values.specs.Private.TokenPlaces.{same_names, names_or_end}
use Rattle.smithy_json_values.specs.Private.NextInContainer.{NamesIn, GoesOnInArray, GoesOnInObject}
use Rattle.smithy_json_values.specs.Private.OpenDocuments.{OpenContainer, open_array, open_object, Waiting, waiting_object, with_value, frames_view, name_text, EntryBegins, RefusesDocument, TakesEntry, TakesStep}
use Rattle.smithy_json_values.proofs.DocumentFrames.{frames-length}
use Rattle.smithy_json_values.proofs.DocumentWalk.{IsWalking, level-length, value_put, walk_ends}
use Rattle.smithy_json_values.proofs.OpenDocumentLemmas.{level, inside, behind}

-- ---- a value

-- where there may be no more containers
pub refused_at_limit : (g : LexicalGrammar) (c : Settings) (depth : ℕ) (input : List ℕ) (a : ℕ) (f : DocumentFault) → depth ≤ c.max_depth → c.max_depth ≤ depth
    → RefusesDocument g c c.max_depth input a f → RefusesDocument g c depth input a f
refused_at_limit g c depth input a f shallow deep refuses =
    let same : c.max_depth ≡ depth = omega arith in subst (λ n. RefusesDocument g c n input a f) same refuses

-- ---- an entry

module _ (g : LexicalGrammar) (c : Settings) (depth : ℕ) (input : List ℕ) (at : ℕ) (entered : Bool) where
  pub entry_taken : (o : OpenContainer) (r : Result Step DocumentFault) → TakesEntry g c depth input at entered o r → TakesStep g c depth input at entered o r
  entry_taken o (Ok (Inside more e)) h = h
  entry_taken o (Ok (Opens frame kind b)) h = h
  entry_taken o (Ok (Ends d e)) h = absurd h.3
  entry_taken o (Err e) h = inl h

-- ---- names

-- the text of a name of the grammar
text_of_name : (g : LexicalGrammar) (raw : List ℕ) → g.is_text raw ≡ true → name_text g raw ≡ unescaped raw
text_of_name g raw good = ap (λ b. if b then unescaped raw else None) good

module _ (g : LexicalGrammar) (c : Settings) (depth : ℕ) (input : List ℕ) (at : ℕ) (entered : Bool) where
  -- behind a name that has a text an entry begins
  pub member_begins : (ps : Properties Number) (raw name : List ℕ) (p : ℕ) → NamesIn g entered input at raw p → unescaped raw ≡ Some name
      → EntryBegins g input at entered (open_object ps) (waiting_object ps name) p
  member_begins ps raw name p names text = (raw, name, refl, names.0, text_of_name g raw names.1 ∙ text)

  pub no_element_step : (ds : Documents Number) → GoesOnInArray g input at entered 2 None → TakesStep g c depth input at entered (open_array ds) (Err NoDocument)
  no_element_step ds none = inr (inl (refl, (λ w p h. none.0 p h.1, none.1)))

  pub no_member_step : (ps : Properties Number) → GoesOnInObject g input at entered 2 None → TakesStep g c depth input at entered (open_object ps) (Err NoDocument)
  no_member_step ps none = inr (inl (refl, (λ w p h. none.0 h.0 p (h.3, (chosen (g.is_text h.0) (unescaped h.0) h.1 h.4).0), none.1)))

  -- a name that has no text
  pub nameless_step : (ps : Properties Number) (raw : List ℕ) (p : ℕ) → NamesIn g entered input at raw p → unescaped raw ≡ None
      → TakesStep g c depth input at entered (open_object ps) (Err NoDocument)
  nameless_step ps raw p names none = inr (inl (
    refl,
    (
      λ w d h.
          let same = (same_names input entered at h.0 raw d p h.3 names.0).0 in
          let both : Some h.1 ≡ None = sym h.4 ∙ ap (name_text g) same ∙ text_of_name g raw names.1 ∙ none in cc,
      λ e h. names_or_end input entered at raw p e names.0 h.0,
    ),
  ))

-- ---- the loop

-- how many containers are open inside of the innermost
pub inside_depth : (depth n : ℕ) (fs : List Frame) → n ≡ length fs → depth + n + 1 ≡ suc (level depth (frames_view fs))
inside_depth depth n fs is = omega (arith, level-length depth (frames_view fs), frames-length fs, is)

module _ (g : LexicalGrammar) (c : Settings) (depth : ℕ) (i : List ℕ) (start at : ℕ) where
  -- the same containers
  pub same_walk : (o p : OpenContainer) (m : Bool) (ws vs : List Waiting) → p ≡ o → vs ≡ ws → IsWalking g c depth (inside o m) ws i start at
      → IsWalking g c depth (inside p m) vs i start at
  same_walk o p m ws vs same others walk =
      subst (λ q. IsWalking g c depth (inside q m) vs i start at) (sym same) (subst (λ us. IsWalking g c depth (inside o m) us i start at) (sym others) walk)

  -- behind a container, in the one that waited for it
  pub put_back : (x : Document Number) (w : Waiting) (p : OpenContainer) (ws vs : List Waiting) → ws ≡ w ∷ vs → p ≡ with_value w x → IsWalking g c depth (behind x) ws i start at
      → IsWalking g c depth (inside p true) vs i start at
  put_back x w p ws vs others same walk =
      subst (λ q. IsWalking g c depth (inside q true) vs i start at) (sym same)
      (value_put g c depth x w vs i start at (subst (λ us. IsWalking g c depth (behind x) us i start at) others walk))

  -- behind the outermost
  pub whole : (x : Document Number) (ws : List Waiting) → ws ≡ [] → IsWalking g c depth (behind x) ws i start at → DocumentLies g c depth i start x at
  whole x ws none walk = walk_ends g c depth x i start at (subst (λ us. IsWalking g c depth (behind x) us i start at) none walk)
