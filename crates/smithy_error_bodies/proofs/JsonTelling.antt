-- That what an object says is told token by token.
use Rattle.std.proofs.Common.{◌≡◌, ℕ, List, [], ◌∷◌, Option, Some, None, Err, refl, sym, ap, ◌∙◌, subst, ◌⊎◌, inl, inr}
use Rattle.smithy_json_tokens.specs.Tokens.{JsonToken}
use Rattle.smithy_json_tokens.specs.TokenRules.{Cursor, Answer, finished, found, refused, next_answer, FindsContainer}
use Rattle.smithy_json_tokens.specs.TokenRuns.{Finds, Leads}
use Rattle.smithy_json_tokens.specs.TokenView.{left_from, IsPlace}
use Rattle.smithy_json_tokens.specs.IteratorView.{cursor_of, input_of, GivesNext}
use Rattle.smithy_json_tokens.specs.declared.token_iter.JsonTokenIterator.{JsonTokenIterator}
use Rattle.smithy_json_tokens.specs.declared.error.DeserializeError.{DeserializeError}
use Rattle.smithy_json_tokens.specs.declared.error.DeserializeErrorKind.{DeserializeErrorKind}
use Rattle.smithy_json_tokens.specs.declared.error.DeserializeErrorKind.TheVariants.{NoMemory}
use Rattle.smithy_error_bodies.specs.Said.{Said}
use Rattle.smithy_error_bodies.specs.Private.JsonSteps.{State, step, said_in, reads_by, reads, Tells}
use Rattle.smithy_error_bodies.specs.declared.reading.Turn.TheVariants.{On, Done, Wrong}
use Rattle.smithy_error_bodies.specs.declared.reading.Turn.{Turn}

-- ---- what one call finds

pub found_here : (c e : Cursor) (t u : JsonToken) (here : List ℕ) (d : Cursor) → next_answer c ≡ found t here d → Finds (next_answer c) u e → (t ≡ u) × (d ≡ e)
found_here c e t u here d is finds = subst (λ a. Finds a u e) is finds

pub finds_it : (c d : Cursor) (t : JsonToken) (here : List ℕ) → next_answer c ≡ found t here d → Finds (next_answer c) t d
finds_it c d t here is = subst (λ a. Finds a t d) (sym is) (refl, refl)

finds_none : (a : Answer) (u : JsonToken) (d : Cursor) → a ≡ finished → Finds a u d → ⊥
finds_none a u d is finds = subst (λ x. Finds x u d) is finds

finds_error : (a : Answer) (kind : DeserializeErrorKind) (place : List ℕ) (u : JsonToken) (d : Cursor) → a ≡ refused kind place → Finds a u d → ⊥
finds_error a kind place u d is finds = subst (λ x. Finds x u d) is finds

-- ---- a token that goes on, that ends the object, or that may not come

abbrev By : State → JsonToken → List JsonToken → Turn × State → Option Said
By s t ts x = reads_by x (λ u. reads u ts) ts

pub told_on : (s u : State) (c d : Cursor) (t : JsonToken) (here : List ℕ) → next_answer c ≡ found t here d → step s t ≡ (On, u) → (r : Option Said) → Tells (reads u) d r → Tells (reads s) c r
told_on s u c d t here is on (Some said) (ts, e, leads, tells) = (t ∷ ts, e, (d, finds_it c d t here is, leads), ap (λ x. By s t ts x) on ∙ tells)
told_on s u c d t here is on None told = untold
  where
    untold : (ts : List JsonToken) (e : Cursor) → Leads c ts e → reads s ts ≡ None
    untold [] e leads = refl
    untold (v ∷ vs) e leads =
        let same = found_here c leads.0 t v here d is leads.1 in
        subst (λ x. reads s (x ∷ vs) ≡ None) same.0 (ap (λ x. By s t vs x) on ∙ told vs e (subst (λ x. Leads x vs e) (sym same.1) leads.2))

pub told_done : (s u : State) (c d : Cursor) (t : JsonToken) (here : List ℕ) → next_answer c ≡ found t here d → step s t ≡ (Done, u) → Tells (reads s) c (Some (said_in u))
told_done s u c d t here is done = (t ∷ [], d, (d, finds_it c d t here is, refl), ap (λ x. By s t [] x) done)

pub told_wrong : (s u : State) (c d : Cursor) (t : JsonToken) (here : List ℕ) → next_answer c ≡ found t here d → step s t ≡ (Wrong, u) → Tells (reads s) c None
told_wrong s u c d t here is wrong = untold
  where
    untold : (ts : List JsonToken) (e : Cursor) → Leads c ts e → reads s ts ≡ None
    untold [] e leads = refl
    untold (v ∷ vs) e leads =
        let same = found_here c leads.0 t v here d is leads.1 in
        subst (λ x. reads s (x ∷ vs) ≡ None) same.0 (ap (λ x. By s t vs x) wrong)

-- ---- no token

no_token : (s : State) (c : Cursor) → ((u : JsonToken) (d : Cursor) → Finds (next_answer c) u d → ⊥) → Tells (reads s) c None
no_token s c never = untold
  where
    untold : (ts : List JsonToken) (e : Cursor) → Leads c ts e → reads s ts ≡ None
    untold [] e leads = refl
    untold (u ∷ us) e leads = absurd (never u leads.0 leads.1)

pub none_left : (s : State) (i j : JsonTokenIterator) → GivesNext i None j → Tells (reads s) (cursor_of i) None
none_left s i j gives = no_token s (cursor_of i) (λ u d. finds_none (next_answer (cursor_of i)) u d gives.1.0)

-- an error which isn't the want of memory comes where the rules have one
pub refused_by : (i j : JsonTokenIterator) (e : DeserializeError) → GivesNext i (Some (Err e)) j → (e.kind ≡ NoMemory → ⊥)
    → (kind : DeserializeErrorKind) × (place : List ℕ) × (next_answer (cursor_of i) ≡ refused kind place)
refused_by i j e gives fault = by gives.1.1
  where
    by : ((next_answer (cursor_of i) ≡ refused e.kind (left_from (input_of i) e.offset)) × IsPlace (input_of i) e.offset) ⊎ ((e.kind ≡ NoMemory) × FindsContainer (next_answer (cursor_of i)))
        → (kind : DeserializeErrorKind) × (place : List ℕ) × (next_answer (cursor_of i) ≡ refused kind place)
    by (inl h) = (e.kind, left_from (input_of i) e.offset, h.0)
    by (inr h) = absurd (fault h.0)

pub error_left : (s : State) (i j : JsonTokenIterator) (e : DeserializeError) → GivesNext i (Some (Err e)) j → (e.kind ≡ NoMemory → ⊥) → Tells (reads s) (cursor_of i) None
error_left s i j e gives fault =
    let is = refused_by i j e gives fault in
    no_token s (cursor_of i) (λ u d. finds_error (next_answer (cursor_of i)) is.0 is.1 u d is.2)
