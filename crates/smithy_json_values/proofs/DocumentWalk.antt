-- The walk through a document: what holds from step to step, and what a refusal on the way says of the whole.
use Rattle.std.proofs.Common.{◌≡◌, ◌+◌, ◌<◌, ◌≤◌, ◌∙◌, ℕ, suc, length, map, List, [], ◌∷◌, ◌++◌, Bool, true, false, Some, Ok, Err, refl, sym, ap, subst, arith, inl, inr, length-append}
use Rattle.smithy_types.specs.Document.{Document}
use Rattle.smithy_shapes.specs.Lemmas.Options.{chosen}
use Rattle.smithy_types.specs.DocumentView.{document_view}
use Rattle.smithy_types.specs.declared.document.Document as code
use Rattle.smithy_types.specs.declared.number.Number.{Number}
use Rattle.smithy_json_grammar.specs.Unescape.{unescaped}
use Rattle.smithy_json_values.specs.declared.documents.DocumentFault.{DocumentFault}
use Rattle.smithy_json_values.specs.declared.documents.DocumentFault.TheVariants.{NoDocument, TooDeep, NotCarried, NoMemory}
use Rattle.smithy_json_values.specs.declared.documents.Open.{Open}
use Rattle.smithy_json_values.specs.declared.documents.Frame.{Frame}
use Rattle.smithy_json_values.specs.declared.documents.Step.TheVariants.{Inside, Opens, Ends}
use Rattle.smithy_json_values.specs.Settings.{Settings, kept, without_limits}
use Rattle.smithy_json_values.specs.Spans.{Lies, IsByte}
use Rattle.smithy_json_values.specs.LexicalGrammar.{LexicalGrammar}
use Rattle.smithy_json_values.specs.Deepest.{IsDueInside}
use Rattle.smithy_json_values.specs.Documents.{is_read_in, DocumentLies}
use Rattle.smithy_json_values.specs.Private.BytePlaces.{byte_ahead}
use Rattle.smithy_json_values.specs.Private.NextInContainer.{ClosesIn}
use Rattle.smithy_json_values.specs.Private.Skipping.{opening, closing, ValueBegins}
use Rattle.smithy_json_values.specs.Private.OpenDocuments.{OpenContainer, open_array, open_object, Waiting, waiting_array, waiting_object, with_value, fresh, document_of, is_object, open_view, frame_view, ScalarMeans, RefusesDocument, EntryBegins, TakesStep}
use Rattle.smithy_json_values.proofs.OpenersLemmas.{OpensInAll, nothing_opened, past_node}
use Rattle.smithy_json_values.proofs.SkipStepOpeners.{opens_into_container, opens_to_value, opens_out_of_container}
use Rattle.smithy_json_values.proofs.DeepestLemmas.{HasCome, passed, entered as come_in, gone_on, left as come_out}
use Rattle.smithy_json_values.proofs.SkipSteps.{node_ahead, value_place}
use Rattle.smithy_json_values.proofs.OpenDocumentLemmas.{Allows, allowed_within, allows_depth, level, Turn, due, inside, behind, IsLeft, left_all, left_behind, left_in_container, no_value_left, left_at_entry, left_behind_container, nothing_left}

-- ---- what holds

-- how many containers of the document are open
abbrev pub count_at : Turn → List Waiting → ℕ
count_at due ws = length ws
count_at (inside o entered) ws = suc (length ws)
count_at (behind x) ws = length ws

abbrev pub kind_of : Waiting → Bool
kind_of (waiting_array ds) = false
kind_of (waiting_object ps name) = true

abbrev pub kinds : List Waiting → List Bool
kinds ws = map kind_of ws

-- what has come lies whole
abbrev pub Come : LexicalGrammar → Turn → List Waiting → List ℕ → ℕ → ℕ → Type 0
Come g due ws i a p = HasCome g (is_read_in g) (kinds ws) true false i a p
Come g (inside o entered) ws i a p = HasCome g (is_read_in g) (is_object o ∷ kinds ws) false entered i a p
Come g (behind x) ws i a p = HasCome g (is_read_in g) (kinds ws) false true i a p

pub record IsWalking (g : LexicalGrammar) (c : Settings) (depth : ℕ) (turn : Turn) (ws : List Waiting) (i : List ℕ) (start at : ℕ) : Type 0 where
  pub keeps : c.limits ≡ kept
  -- what is left makes the document, with the limits and without
  pub kept : IsLeft g c depth turn ws i start at
  pub lifted : IsLeft g (without_limits c) depth turn ws i start at
  pub opens : OpensInAll i start (count_at turn ws) at
  pub come : Come g turn ws i start at
  pub ahead : start ≤ at
  pub within : at ≤ length i
  pub shallow : depth + count_at turn ws ≤ c.max_depth

pub walk_begins : (g : LexicalGrammar) (c : Settings) (depth : ℕ) (i : List ℕ) (at : ℕ) → c.limits ≡ kept → at ≤ length i → depth ≤ c.max_depth
    → IsWalking g c depth due [] i at at
walk_begins g c depth i at keeps within shallow = record {
  kept = left_all g c depth i at;
  lifted = left_all g (without_limits c) depth i at;
  opens = nothing_opened i at;
  come = refl;
  ahead = omega arith;
  within = within;
  shallow = omega (arith, shallow);
  keeps = keeps;
}

-- where nothing is open any more, the document lies there
pub walk_ends : (g : LexicalGrammar) (c : Settings) (depth : ℕ) (x : Document Number) (i : List ℕ) (start at : ℕ) → IsWalking g c depth (behind x) [] i start at
    → DocumentLies g c depth i start x at
walk_ends g c depth x i start at walk = walk.kept.back x at (refl, refl)

pub level-length : (depth : ℕ) (ws : List Waiting) → level depth ws ≡ depth + length ws
level-length depth [] = omega arith
level-length depth (w ∷ ws) = let more = level-length depth ws in omega (arith, more)

-- ---- a value is due

pub scalar_lies : (g : LexicalGrammar) (c : Settings) (n : ℕ) (i : List ℕ) (a : ℕ) (x : Document Number) (f : ℕ) → Allows c (suc n) → ScalarMeans g i a x f → DocumentLies g c n i a x f
scalar_lies g c n i a x f may scalar =
    record { node = scalar.node; lies = scalar.lies.0; means = scalar.means c n ∙ allows_depth g c (suc n) (Some x) may }

module _ (g : LexicalGrammar) (c : Settings) (depth : ℕ) (ws : List Waiting) (i : List ℕ) (start at : ℕ) (walk : IsWalking g c depth due ws i start at) where
  pub value_taken : level depth ws < c.max_depth → (x : Document Number) (f : ℕ) → ScalarMeans g i at x f → IsWalking g c depth (behind x) ws i start f
  value_taken room x f scalar =
      let ahead = node_ahead g (is_read_in g) i 1 scalar.node at f scalar.lies in record {
        kept = left_behind g c depth ws i start at walk.kept x f (scalar_lies g c (level depth ws) i at x f (allowed_within c walk.keeps (suc (level depth ws)) (omega (arith, room))) scalar);
        lifted = left_behind g (without_limits c) depth ws i start at walk.lifted x f (scalar_lies g (without_limits c) (level depth ws) i at x f refl scalar);
        opens = past_node i start (length ws) at f walk.opens g (is_read_in g) 1 scalar.node scalar.lies;
        come = passed g (is_read_in g) i start (kinds ws) at f scalar.node walk.come scalar.lies;
        ahead = omega (arith, walk.ahead, ahead.0);
        within = ahead.1;
        shallow = walk.shallow;
        keeps = walk.keeps;
      }

  pub container_entered : level depth ws < c.max_depth → (k : Bool) (b : ℕ) → Lies (IsByte (opening k)) i at b → IsWalking g c depth (inside (fresh k) false) ws i start b
  container_entered room k b o = record {
    kept = left_in_container g c depth ws i start at walk.kept k b o;
    lifted = left_in_container g (without_limits c) depth ws i start at walk.lifted k b o;
    opens = let more = opens_into_container i start (length ws) at b walk.opens k o in omega (arith, more);
    come = subst (λ j. HasCome g (is_read_in g) (j ∷ kinds ws) false false i start b) (fresh_kind k) (come_in g (is_read_in g) i start k (kinds ws) at b walk.come o);
    ahead = omega (arith, walk.ahead, o.0);
    within = o.1;
    shallow = omega (arith, level-length depth ws, room);
    keeps = walk.keeps;
  }
    where
      fresh_kind : (k : Bool) → k ≡ is_object (fresh k)
      fresh_kind true = refl
      fresh_kind false = refl

-- ---- inside of a container

-- the value of an entry is due by the tokens
begun_by_tokens : (g : LexicalGrammar) (i : List ℕ) (at : ℕ) (m : Bool) (o : OpenContainer) (w : Waiting) (p : ℕ) → EntryBegins g i at m o w p
    → ValueBegins (is_read_in g) i at (is_object o) m p × (kind_of w ≡ is_object o)
begun_by_tokens g i at m (open_array ds) w p begins = (begins.1, ap kind_of begins.0)
begun_by_tokens g i at m (open_object ps) w p (raw, name, is, tokens, text) =
    ((raw, tokens, (chosen (g.is_text raw) (unescaped raw) name text).0), ap kind_of is)

module _ (g : LexicalGrammar) (c : Settings) (depth : ℕ) (ws : List Waiting) (i : List ℕ) (start at : ℕ) (m : Bool) (o : OpenContainer) where
  pub entry_begun : IsWalking g c depth (inside o m) ws i start at → (w : Waiting) (p : ℕ) → EntryBegins g i at m o w p
      → IsWalking g c depth due (w ∷ ws) i start p
  entry_begun walk w p begins =
      let tokens = begun_by_tokens g i at m o w p begins in
      let place = value_place (is_read_in g) i at (is_object o) m p tokens.0 walk.within in
      record {
        kept = left_at_entry g c depth ws i start at m o walk.kept w p begins;
        lifted = left_at_entry g (without_limits c) depth ws i start at m o walk.lifted w p begins;
        opens = opens_to_value i start (suc (length ws)) at p walk.opens (is_read_in g) (is_object o) m tokens.0;
        come = subst (λ k. IsDueInside g (is_read_in g) (k ∷ kinds ws) i start p) (sym tokens.1)
            (gone_on g (is_read_in g) i start (is_object o) (kinds ws) m at p walk.come tokens.0);
        ahead = omega (arith, walk.ahead, place.0);
        within = place.1;
        shallow = walk.shallow;
        keeps = walk.keeps;
      }

  pub entry_ahead : at ≤ length i → (w : Waiting) (p : ℕ) → EntryBegins g i at m o w p → at ≤ p
  entry_ahead within w p begins =
      (value_place (is_read_in g) i at (is_object o) m p (begun_by_tokens g i at m o w p begins).0 within).0

  pub container_left : IsWalking g c depth (inside o m) ws i start at → (f : ℕ) → ClosesIn g (closing (is_object o)) i at 2 f
      → IsWalking g c depth (behind (document_of o)) ws i start f
  container_left walk f closes =
      let may : suc (level depth ws) ≤ c.max_depth = omega (arith, level-length depth ws, walk.shallow) in
      let less = opens_out_of_container i start (suc (length ws)) at f walk.opens g (is_object o) 2 (omega arith) closes in
      record {
        kept = left_behind_container g c depth ws i start at m o walk.kept (allowed_within c walk.keeps (suc (level depth ws)) may) f closes;
        lifted = left_behind_container g (without_limits c) depth ws i start at m o walk.lifted refl f closes;
        opens = omega (arith, less);
        come = come_out g (is_read_in g) i start (is_object o) (kinds ws) m at (suc (suc (length (kinds ws)))) f walk.come (closes.0, closes.1) (omega arith);
        ahead = omega (arith, walk.ahead, closes.0.0);
        within = closes.0.1;
        shallow = omega (arith, walk.shallow);
        keeps = walk.keeps;
      }

-- a value goes into the container that waits for it
pub value_put : (g : LexicalGrammar) (c : Settings) (depth : ℕ) (x : Document Number) (w : Waiting) (ws : List Waiting) (i : List ℕ) (start at : ℕ) → IsWalking g c depth (behind x) (w ∷ ws) i start at
    → IsWalking g c depth (inside (with_value w x) true) ws i start at
value_put g c depth x (waiting_array ds) ws i start at walk = record {
  kept = record { back = walk.kept.back; forth = walk.kept.forth };
  lifted = record { back = walk.lifted.back; forth = walk.lifted.forth };
  opens = walk.opens;
  come = walk.come;
  ahead = walk.ahead;
  within = walk.within;
  shallow = walk.shallow;
  keeps = walk.keeps;
}
value_put g c depth x (waiting_object ps name) ws i start at walk = record {
  kept = record { back = walk.kept.back; forth = walk.kept.forth };
  lifted = record { back = walk.lifted.back; forth = walk.lifted.forth };
  opens = walk.opens;
  come = walk.come;
  ahead = walk.ahead;
  within = walk.within;
  shallow = walk.shallow;
  keeps = walk.keeps;
}

-- ---- refusals

-- what is due inside of a value that is due itself
due_inside : (g : LexicalGrammar) (ks js : List Bool) (i : List ℕ) (a b p : ℕ) → IsDueInside g (is_read_in g) js i a b → IsDueInside g (is_read_in g) ks i b p → IsDueInside g (is_read_in g) (ks ++ js) i a p
due_inside g [] js i a b p outer h = subst (λ x. IsDueInside g (is_read_in g) js i a x) h outer
due_inside g (k ∷ ks) js i a b p outer h = (h.0, h.1, h.2, h.3, due_inside g ks js i a b h.0 outer h.4, h.5, h.6, h.7)

-- what is refused where a value is due is refused as a whole
pub refused_from : (g : LexicalGrammar) (c : Settings) (depth : ℕ) (ws : List Waiting) (i : List ℕ) (start at : ℕ) → IsWalking g c depth due ws i start at
    → (f : DocumentFault) → RefusesDocument g c (level depth ws) i at f → RefusesDocument g c depth i start f
refused_from g c depth ws i start at walk NoDocument h =
    (no_value_left g (without_limits c) depth ws i start at walk.lifted h.0, no_value_left g c depth ws i start at walk.kept h.1)
refused_from g c depth ws i start at walk TooDeep h =
    let here = h.0 in (
      record {
        containers = here.containers ++ kinds ws;
        at = here.at;
        due = due_inside g here.containers (kinds ws) i start at here.at walk.come here.due;
        opens = here.opens;
        deepest = omega (arith, length-append here.containers (kinds ws), length-kinds ws, level-length depth ws, here.deepest);
      },
      omega (arith, h.1, walk.opens, level-length depth ws),
      no_value_left g c depth ws i start at walk.kept h.2,
    )
  where
    length-kinds : (ws : List Waiting) → length (kinds ws) ≡ length ws
    length-kinds [] = refl
    length-kinds (w ∷ ws) = ap suc (length-kinds ws)
refused_from g c depth ws i start at walk NotCarried h =
    let here = h.0 in (
      record {
        containers = here.containers ++ kinds ws;
        at = here.at;
        due = due_inside g here.containers (kinds ws) i start at here.at walk.come here.due;
        other = here.other;
      },
      no_value_left g c depth ws i start at walk.kept h.1,
    )
refused_from g c depth ws i start at walk NoMemory h = tt

-- ---- the steps of the code

module _ (g : LexicalGrammar) (c : Settings) (depth n : ℕ) (ws : List Waiting) (i : List ℕ) (start at : ℕ) (m : Bool) (o : OpenContainer)
    (walk : IsWalking g c depth (inside o m) ws i start at) (deep : n ≡ suc (level depth ws)) where
  pub step_inside : (more : Open) (e : ℕ) → TakesStep g c n i at m o (Ok (Inside more e)) → IsWalking g c depth (inside (open_view more) true) ws i start e
  step_inside more e (w, p, begins, (room, (d, scalar, is))) =
      let here = entry_begun g c depth ws i start at m o walk w p begins in
      let after = value_taken g c depth (w ∷ ws) i start p here (omega (arith, room, deep)) d e scalar in
      subst (λ v. IsWalking g c depth (inside v true) ws i start e) (sym is) (value_put g c depth d w ws i start e after)

  pub step_opens : (frame : Frame) (k : Bool) (b : ℕ) → TakesStep g c n i at m o (Ok (Opens frame k b))
      → IsWalking g c depth (inside (fresh k) false) (frame_view frame ∷ ws) i start b
  step_opens frame k b (w, p, begins, (room, lies, is)) =
      let here = entry_begun g c depth ws i start at m o walk w p begins in
      subst (λ v. IsWalking g c depth (inside (fresh k) false) (v ∷ ws) i start b) (sym is)
      (container_entered g c depth (w ∷ ws) i start p here (omega (arith, room, deep)) k b lies)

  pub step_ends : (d : code.Document) (e : ℕ) → TakesStep g c n i at m o (Ok (Ends d e)) → IsWalking g c depth (behind (document_view d)) ws i start e
  step_ends d e (closes, is) =
      subst (λ x. IsWalking g c depth (behind x) ws i start e) (sym is) (container_left g c depth ws i start at m o walk e closes)

  pub step_refuses : (f : DocumentFault) → TakesStep g c n i at m o (Err f) → RefusesDocument g c depth i start f
  step_refuses f (inl (w, p, begins, refuses)) =
      refused_from g c depth (w ∷ ws) i start p (entry_begun g c depth ws i start at m o walk w p begins) f
      (subst (λ l. RefusesDocument g c l i p f) deep refuses)
  step_refuses f (inr (inl (is, none))) =
      subst (RefusesDocument g c depth i start) (sym is)
      (nothing_left g (without_limits c) depth ws i start at m o walk.lifted none, nothing_left g c depth ws i start at m o walk.kept none)
  step_refuses f (inr (inr is)) = subst (RefusesDocument g c depth i start) (sym is) tt

  -- each goes ahead
  pub ahead_inside : (more : Open) (e : ℕ) → TakesStep g c n i at m o (Ok (Inside more e)) → at < e
  ahead_inside more e (w, p, begins, (room, (d, scalar, is))) =
      omega (arith, entry_ahead g c depth ws i start at m o walk.within w p begins, (node_ahead g (is_read_in g) i 1 scalar.node p e scalar.lies).0)

  pub ahead_opens : (frame : Frame) (k : Bool) (b : ℕ) → TakesStep g c n i at m o (Ok (Opens frame k b)) → at < b
  ahead_opens frame k b (w, p, begins, (room, lies, is)) =
      omega (arith, entry_ahead g c depth ws i start at m o walk.within w p begins, byte_ahead (opening k) i p b lies)

  pub ahead_ends : (d : code.Document) (e : ℕ) → TakesStep g c n i at m o (Ok (Ends d e)) → at < e
  ahead_ends d e (closes, is) = byte_ahead (closing (is_object o)) i at e closes.0
