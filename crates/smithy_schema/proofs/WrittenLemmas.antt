-- A value between the calls that begin and end its container.
use Rattle.std.proofs.Common.{◌≡◌, ◌↔◌, ℕ, Option, List, [], ◌∷◌, ap, Bool, true, false, Result, Ok, Err, refl, sym, ◌∙◌, subst, OnOk, IfErr, IsErr, IsErrOf}
use Rattle.smithy_schema.specs.declared.error.SerdeError.{SerdeError}
use Rattle.smithy_schema.specs.declared.error.SerdeError.TheVariants.{Failed}
use Rattle.smithy_schema.specs.Errors.{IsFault}
use Rattle.smithy_shapes.specs.Site.{Site}
use Rattle.smithy_declarations.specs.Value.{list, Values}
use Rattle.smithy_schema.specs.Writing.{Event, Writer, WritesEvent, Open, open_list, begin_list, IsNested, after_value, after_begin, open_after, and_run, run, write, events}
use Rattle.smithy_schema.specs.Written.{outcome, IsInside, Refuses, Wraps, WritesContainer, whole, not_begun, not_written, not_ended}
use Rattle.smithy_schema.proofs.WritingLemmas.{call_made, call_refused}
use Rattle.smithy_schema.proofs.OpenLemmas.{value_leaves}
use Rattle.smithy_schema.proofs.ConsumingLemmas.{is_error, same_error}

pub refused_by : {S : Type 0} (after : Writer S) (event : Event) (s : S) (b : Bool) (e : SerdeError) → IsErrOf {T = Unit {0}} (Err e) Failed ↔ (b ≡ true) → (IsFault e → after event s ≡ Err e)
    → Refuses after event s b e
refused_by after event s b e failed fault = record {
  failed = (λ h. failed.0 (is_error (Unit {0}) e Failed h), λ h. same_error (Unit {0}) e Failed (failed.1 h));
  fault = fault;
}

-- the last call ends the container, or is refused
pub finished : {S : Type 0} (after : Writer S) (begins ends : Event) (adds : S → Result S SerdeError → Type 0) (b c : Bool) (s t u v : S) (r : Result (Unit {0}) SerdeError)
    → b ≡ false → after begins s ≡ Ok t → adds t (Ok u) → c ≡ false → IsErrOf r Failed ↔ (c ≡ true) → OnOk r (after ends u ≡ Ok v) → IfErr r (λ e. IsFault e → after ends u ≡ Err e)
    → Wraps after begins ends adds b s (outcome r v)
finished after begins ends adds b c s t u v (Ok done) live begun added sound failed ended refused = whole live begun added ended
finished after begins ends adds b c s t u v (Err e) live begun added sound failed ended refused =
    not_ended live begun added (subst (λ x. Refuses after ends u x e) sound (refused_by after ends u c e failed refused))

same_ok : (a b : List Open) → ◌≡◌ {A = Result (List Open) SerdeError} (Ok a) (Ok b) → a ≡ b
same_ok a b h = cc

-- what answers Ok has not failed
pub not_failed : (b : Bool) (x : Unit {0}) → IsErr {E = SerdeError} (Ok x) ↔ (b ≡ true) → b ≡ false
not_failed true x h = let clash = h.1 refl in cc
not_failed false x h = refl

begun_in : (o : Open) (r : Result (List Open) SerdeError) (ts : List Open) → and_run (λ outer. Ok (o ∷ outer)) r ≡ Ok ts → (outer : List Open) × (r ≡ Ok outer) × (ts ≡ o ∷ outer)
begun_in o (Ok outer) ts h = (outer, refl, same_ok _ _ (sym h))
begun_in o (Err e) ts h = cc

-- a container that was begun is the innermost
pub inside_of : {S : Type 0} (after : Writer S) (open_in : S → List Open) → IsNested after open_in → (begins : Event) (o : Open) → ((os : List Open) → open_after begins os ≡ after_begin o os)
    → (s t : S) → after begins s ≡ Ok t → IsInside o (open_in t)
inside_of after open_in nested begins o opening s t begun =
    let inside = begun_in o (after_value (open_in s)) (open_in t) (sym (opening (open_in s)) ∙ nested.goes begins s t begun) in
    (inside.0, inside.2)

-- the open containers are left as one value leaves them
pub left_open : {S : Type 0} (after : Writer S) (open_in : S → List Open) → IsNested after open_in → (begins ends : Event) (o : Open)
    → ((os : List Open) → open_after begins os ≡ after_begin o os) → ((os : List Open) → open_after ends (o ∷ os) ≡ Ok os)
    → (s t u v : S) (r : Result (Unit {0}) SerdeError) → after begins s ≡ Ok t → open_in u ≡ open_in t → OnOk r (after ends u ≡ Ok v) → OnOk r (after_value (open_in s) ≡ Ok (open_in v))
left_open after open_in nested begins ends o opening closing s t u v (Ok done) begun same ended =
    let inside = begun_in o (after_value (open_in s)) (open_in t) (sym (opening (open_in s)) ∙ nested.goes begins s t begun) in
    let ends_there : open_after ends (o ∷ inside.0) ≡ Ok (open_in v) = subst (λ os. open_after ends os ≡ Ok (open_in v)) (same ∙ inside.2) (nested.goes ends u v ended) in
    inside.1 ∙ sym (closing inside.0) ∙ ends_there
left_open after open_in nested begins ends o opening closing s t u v (Err e) begun same ended = tt

-- ---- a container whose parts one call writes

module _ {S : Type 0} (after : Writer S) (open_in : S → List Open) (begins ends : Event) (adds : S → Result S SerdeError → Type 0) (old : S) (had : Bool) where
  -- it isn't begun
  pub container_refused : (new : S) (has : Bool) (e : SerdeError) → WritesEvent after begins old had new has (Err e) → WritesContainer after open_in begins ends adds old had new has (Err e)
  container_refused new has e said = record {
    wraps = not_begun (refused_by after begins old had e said.failed said.refused);
    nests = tt;
    broken = said.broken;
  }

  -- its parts aren't written
  pub container_broken : (t new : S) (has : Bool) (e : SerdeError) → had ≡ false → after begins old ≡ Ok t → adds t (Err e) → has ≡ true
      → WritesContainer after open_in begins ends adds old had new has (Err e)
  container_broken t new has e live begun added failed = record {
    wraps = not_written live begun added;
    nests = tt;
    broken = ((λ h. failed), λ h. refl);
  }

  -- the last call ends it, or is refused
  pub container_ends : IsNested after open_in → (o : Open) → ((os : List Open) → open_after begins os ≡ after_begin o os) → ((os : List Open) → open_after ends (o ∷ os) ≡ Ok os)
      → (t u new : S) (was has : Bool) (r : Result (Unit {0}) SerdeError) → had ≡ false → after begins old ≡ Ok t → adds t (Ok u) → open_in u ≡ open_in t → was ≡ false
      → WritesEvent after ends u was new has r → WritesContainer after open_in begins ends adds old had new has r
  container_ends nested o opening closing t u new was has r live begun added same sound said = record {
    wraps = finished after begins ends adds had was old t u new r live begun added sound said.failed said.ok said.refused;
    nests = left_open after open_in nested begins ends o opening closing old t u new r begun same said.ok;
    broken = said.broken;
  }

run_on : {S : Type 0} (after : Writer S) (open_in : S → List Open) → IsNested after open_in → (e : Event) (es : List Event) (s t : S) (r : Result S SerdeError) → after e s ≡ r
    → ((u : S) → run after es u ≡ Ok t → run open_after es (open_in u) ≡ Ok (open_in t))
    → and_run (run after es) r ≡ Ok t → and_run (run open_after es) (open_after e (open_in s)) ≡ Ok (open_in t)
run_on after open_in nested e es s t (Ok u) is rest h = rw (nested.goes e s u is) (rest u h)
run_on after open_in nested e es s t (Err f) is rest h = cc

-- calls that were all answered by Ok did to the open containers what calls do
pub run_nests : {S : Type 0} (after : Writer S) (open_in : S → List Open) → IsNested after open_in → (es : List Event) (s t : S) → run after es s ≡ Ok t → run open_after es (open_in s) ≡ Ok (open_in t)
run_nests after open_in nested [] s t h = let same : s ≡ t = cc in ap (λ u. Ok (open_in u)) same
run_nests after open_in nested (e ∷ es) s t h = run_on after open_in nested e es s t (after e s) refl (λ u. run_nests after open_in nested es u t) h

-- a list that was written counts as one value
pub list_nests : {S : Type 0} (after : Writer S) (open_in : S → List Open) → IsNested after open_in → (site : Site) (n : Option ℕ) (vs : Values) (s t u : S) (r : Result (Unit {0}) SerdeError)
    → after (begin_list site n) s ≡ Ok t → OnOk r (write after site (list vs) s ≡ Ok u) → OnOk r (after_value (open_in s) ≡ Ok (open_in u))
list_nests after open_in nested site n vs s t u (Ok done) begun written =
    let inside = begun_in open_list (after_value (open_in s)) (open_in t) (nested.goes (begin_list site n) s t begun) in
    inside.1 ∙ sym (value_leaves (list vs) site (open_in s) inside.0 inside.1) ∙ run_nests after open_in nested (events site (list vs)) s u written
list_nests after open_in nested site n vs s t u (Err e) begun written = tt

-- neither before nor behind some calls a serializer had failed
pub failed_neither : (had has : Bool) (P : Type 0) → had ≡ false → has ≡ false → P ↔ (has ≡ true) → P ↔ (had ≡ true)
failed_neither had has P before now failed =
    ((λ p. absurd (let clash : true ≡ false = sym (failed.0 p) ∙ now in cc)), (λ is. absurd (let clash : true ≡ false = sym is ∙ before in cc)))

-- the last of some calls
pub ended_ok : {S : Type 0} (after : Writer S) (x : Event) (made : Result S SerdeError) (s t : S) (r : Result (Unit {0}) SerdeError) → made ≡ run after (x ∷ []) s → OnOk r (after x s ≡ Ok t) → OnOk r (made ≡ Ok t)
ended_ok after x made s t (Ok done) is ok = is ∙ call_made after x [] s t ok
ended_ok after x made s t (Err e) is ok = tt

pub ended_refused : {S : Type 0} (after : Writer S) (x : Event) (made : Result S SerdeError) (s : S) (r : Result (Unit {0}) SerdeError) → made ≡ run after (x ∷ []) s → IfErr r (λ e. IsFault e → after x s ≡ Err e) → IfErr r (λ e. IsFault e → made ≡ Err e)
ended_refused after x made s (Ok done) is refused = tt
ended_refused after x made s (Err e) is refused = λ fault. is ∙ call_refused after x [] s e (refused fault)
