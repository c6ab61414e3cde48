-- What is read as a document stands at a place of documents, and where none is read, none does.
use Rattle.std.proofs.Common.{◌≡◌, ◌≤◌, ◌+◌, ℕ, suc, List, length, drop, true, false, refl, sym, subst, arith}
use Rattle.std.specs.Prelude.{Ok, Err}
use Rattle.smithy_types.specs.Document.{Document}
use Rattle.smithy_types.specs.declared.number.Number.{Number}
use Rattle.smithy_types.specs.DocumentView.{document_view}
use Rattle.smithy_types.specs.declared.document.Document as code
use Rattle.smithy_schema.specs.declared.error.SerdeError.TheVariants as errors
use Rattle.smithy_declarations.specs.declared.place.Place.{Place}
use Rattle.smithy_declarations.specs.Table.{document_place}
use Rattle.smithy_shapes.specs.Site.{Site}
use Rattle.smithy_schema.specs.Errors.{IsFault, FindsNone}
use Rattle.smithy_schema.specs.Reading.{Cursor, depth, StandsNot, ReadsDocument, reader, passed_to, failed_at}
use Rattle.smithy_json_values.specs.declared.documents.DocumentFault.{DocumentFault}
use Rattle.smithy_json_values.specs.declared.documents.DocumentFault.TheVariants.{NoDocument, TooDeep, NotCarried, NoMemory}
use Rattle.smithy_json_values.specs.Settings.{Settings, kept, without_limits}
use Rattle.smithy_json_values.specs.LexicalGrammar.{LexicalGrammar, frames_of, token_relations}
use Rattle.smithy_json_values.specs.Tokens.{BoundaryBy, EndsContainer, EndsInside}
use Rattle.smithy_json_values.specs.Documents.{is_read_in, DocumentLies, OpensDocumentTooDeep, MeetsOtherNumber, DocumentStands, NoDocumentStands}
use Rattle.smithy_json_values.specs.Private.OpenDocuments.{RefusesDocument, RefusesStanding, document_refusal}
use Rattle.smithy_json_values.specs.Private.TokenLaws.{lawful}
use Rattle.smithy_json_values.specs.Private.DocumentNodes.{value_stands, no_value_stands, other_is_uncarried}
use Rattle.smithy_wire.specs.Lemmas.Nodes.{one_node}
use Rattle.smithy_json_values.proofs.DocumentScalars.{document_node}
use Rattle.smithy_json_values.proofs.OpenContainers.{grammar_is_wire}
use Rattle.smithy_json_values.proofs.SkipSteps.{node_ahead}
use Rattle.smithy_wire.proofs.DocumentReads.{refuses, runs_out, is_too_deep, carries_not, reads}

-- ---- where no document lies, none stands

module _ (g : LexicalGrammar) (c : Settings) (depth : ℕ) (i : List ℕ) (a : ℕ) where
  pub lies_refused : (f : DocumentFault) → RefusesDocument g c depth i a f → RefusesStanding g c depth i a f
  lies_refused NoDocument h = (λ d e there. h.0 d e there.0, λ d e there. h.1 d e there.0)
  lies_refused TooDeep h = (h.0, h.1, λ d e there. h.2 d e there.0)
  lies_refused NotCarried h = (h.0, λ d e there. h.1 d e there.0)
  lies_refused NoMemory h = tt

  -- nor where something else comes behind the document that lies there
  none_behind : (o : Settings) (d : Document Number) (e : ℕ) → DocumentLies g c depth i a d e → (EndsContainer (BoundaryBy g.is_strict) depth (drop e i) → ⊥)
      → NoDocumentStands g o depth i a
  none_behind o d e here other x f there =
      let same = (one_node (frames_of g) (grammar_is_wire g) i 1 here.node there.0.node a e f here.lies there.0.lies).1 in
      other (subst (λ n. EndsContainer (BoundaryBy g.is_strict) depth (drop n i)) (sym same) there.1)

  pub followed_refused : (d : Document Number) (e : ℕ) → DocumentLies g c depth i a d e → (EndsInside (BoundaryBy g.is_strict) (depth + 1) (drop e i) → ⊥)
      → RefusesStanding g c depth i a NoDocument
  followed_refused d e here other =
      let one : suc depth ≡ depth + 1 = omega arith in
      let none : EndsContainer (BoundaryBy g.is_strict) depth (drop e i) → ⊥ = λ follows. other (subst (λ n. EndsInside (BoundaryBy g.is_strict) n (drop e i)) one follows) in
      (none_behind (without_limits c) d e here none, none_behind c d e here none)

  -- a document that lies there ends in the input
  pub document_within : (d : Document Number) (e : ℕ) → DocumentLies g c depth i a d e → e ≤ length i
  document_within d e h = (node_ahead g (is_read_in g) i 1 h.node a e (document_node g c depth i a d e h)).1

-- ---- a read

module _ (g : LexicalGrammar) (o : Settings) (keeps : o.limits ≡ kept) (old : Cursor) (site : Site) where
  abbrev at : Place
  at = document_place site.place.time

  none_there : (c : Settings) → NoDocumentStands g c (depth old) old.input old.at → StandsNot (token_relations g c) old site.table at
  none_there c none = no_value_stands g c old.input (depth old) old.at site.table at refl none

  module _ (sound : old.failed ≡ false) (due : old.due ≡ true) (within : old.at ≤ length old.input) where
    -- of a document
    pub reads_document : (new : Cursor) (x : code.Document) (e : ℕ) → DocumentStands g o (depth old) old.input old.at (document_view x) e → new ≡ passed_to old e
        → ReadsDocument (reader (token_relations g o) (token_relations g (without_limits o)) (o.enforce_strictness ≡ true) o.max_depth) old new site (Ok x)
    reads_document new x e stands =
        reads (token_relations g o) (token_relations g (without_limits o)) (o.enforce_strictness ≡ true) o.max_depth site (lawful g o) old sound due within new x e
        (value_stands g o old.input (depth old) old.at site.table at refl (document_view x) e stands)

    -- where none was read
    pub refuses_document : (new : Cursor) → new ≡ failed_at old → (f : DocumentFault) → RefusesStanding g o (depth old) old.input old.at f
        → ReadsDocument (reader (token_relations g o) (token_relations g (without_limits o)) (o.enforce_strictness ≡ true) o.max_depth) old new site (Err (document_refusal f))
    refuses_document new stays NoDocument h =
        refuses (token_relations g o) (token_relations g (without_limits o)) (o.enforce_strictness ≡ true) o.max_depth site old new stays within sound
        (λ due. (none_there o h.1, none_there (without_limits o) h.0))
    refuses_document new stays TooDeep h =
        is_too_deep (token_relations g o) (token_relations g (without_limits o)) (o.enforce_strictness ≡ true) o.max_depth site old new stays within sound due h.1 refl (none_there o h.2)
    refuses_document new stays NotCarried h =
        carries_not (token_relations g o) (token_relations g (without_limits o)) (o.enforce_strictness ≡ true) o.max_depth site old new stays within sound due
        (other_is_uncarried g o old.input (depth old) old.at site.table at refl h.0) (none_there o h.1)
    refuses_document new stays NoMemory h =
        runs_out (token_relations g o) (token_relations g (without_limits o)) (o.enforce_strictness ≡ true) o.max_depth site old new stays within sound

-- ---- why none was read

module _ (g : LexicalGrammar) (c : Settings) (depth : ℕ) (i : List ℕ) (a : ℕ) where
  pub too_deep_found : (f : DocumentFault) → RefusesStanding g c depth i a f → document_refusal f ≡ errors.TooDeep → OpensDocumentTooDeep g c.max_depth depth i a
  too_deep_found NoDocument h is = cc
  too_deep_found TooDeep h is = h.0
  too_deep_found NotCarried h is = cc
  too_deep_found NoMemory h is = cc

  pub other_found : (f : DocumentFault) → RefusesStanding g c depth i a f → document_refusal f ≡ errors.NotCarried → MeetsOtherNumber g i a
  other_found NoDocument h is = cc
  other_found TooDeep h is = cc
  other_found NotCarried h is = h.0
  other_found NoMemory h is = cc

  -- a refusal means that nothing there means a document
  pub refused_means_nothing : (f : DocumentFault) → RefusesStanding g c depth i a f → IsFault (document_refusal f) → NoDocumentStands g c depth i a
  refused_means_nothing NoDocument h fault = h.1
  refused_means_nothing TooDeep h fault = h.2
  refused_means_nothing NotCarried h fault = h.1
  refused_means_nothing NoMemory h fault = absurd fault

  -- where no document is found, nothing there means one without limits either
  pub invalid_means_nothing : (f : DocumentFault) → RefusesStanding g c depth i a f → FindsNone (document_refusal f) → NoDocumentStands g (without_limits c) depth i a
  invalid_means_nothing NoDocument h invalid = h.0
  invalid_means_nothing TooDeep h invalid = absurd invalid
  invalid_means_nothing NotCarried h invalid = absurd invalid
  invalid_means_nothing NoMemory h invalid = absurd invalid
