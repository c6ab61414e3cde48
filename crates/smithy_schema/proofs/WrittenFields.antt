-- What is written into an open structure, member by member.
use Rattle.std.proofs.Common.{◌≡◌, ◌↔◌, ℕ, suc, List, [], ◌∷◌, ◌++◌, map, length, Option, Some, None, Bool, true, false, Result, Ok, Err, OnOk, OnErr, IfErr, IsErr, IsErrOf, refl, sym, ◌∙◌, ap, subst}
use Rattle.std.proofs.lemmas.List.{append-nil}
use Rattle.smithy_schema.specs.declared.error.SerdeError.{SerdeError}
use Rattle.smithy_schema.specs.declared.error.SerdeError.TheVariants.{Failed}
use Rattle.smithy_shapes.specs.Site.{Site, element_of}
use Rattle.smithy_declarations.specs.Value.{Value, list, structure, MemberValues, values_of}
use Rattle.smithy_schema.specs.Errors.{IsFault}
use Rattle.smithy_schema.specs.Writing.{Event, Writer, Open, open_structure, open_list, begin_structure, end_structure, begin_list, end_list, IsNested, after_value, run, events, element_events, member_events}
use Rattle.smithy_schema.specs.Written.{outcome, Runs, ran, broke, IsInside, AddsInside, Wraps, WritesContainer, whole, not_begun, not_written, not_ended}
use Rattle.smithy_schema.specs.Typed.{WritesWhole}
use Rattle.smithy_schema.specs.Fields.{field_events, members_at}
use Rattle.smithy_schema.proofs.WritingLemmas.{call_made, call_refused, child_written, child_refused}
use Rattle.smithy_schema.proofs.OpenLemmas.{value_leaves}
use Rattle.smithy_schema.proofs.WrittenLemmas.{run_nests}
use Rattle.smithy_schema.proofs.WrittenLists.{count-elements, told as counted}

-- ---- what calls come to

same_state : {S : Type 0} (s t : S) → ◌≡◌ {A = Result S SerdeError} (Ok s) (Ok t) → s ≡ t
same_state s t h = cc

same_lists : (a b : List Open) → ◌≡◌ {A = Result (List Open) SerdeError} (Ok a) (Ok b) → a ≡ b
same_lists a b h = cc

other_error : {S : Type 0} (e f : SerdeError) → ◌≡◌ {A = Result S SerdeError} (Err e) (Err f) → e ≡ f
other_error e f h = cc

unit_error : (e f : SerdeError) → ◌≡◌ {A = Result (Unit {0}) SerdeError} (Err e) (Err f) → e ≡ f
unit_error e f h = cc

pub runs_ok : {S : Type 0} (after : Writer S) (es : List Event) (s : S) (r : Result S SerdeError) → Runs after es s r → (t : S) → r ≡ Ok t → run after es s ≡ Ok t
runs_ok after es s r (ran {t = u} is) t same = is ∙ same
runs_ok after es s r (broke {e = e} sound fault) t same = cc

-- the calls of a child came to an error, and so does all
runs_err : {S : Type 0} (after : Writer S) (xs ys : List Event) (s : S) (r : Result S SerdeError) → Runs after xs s r → (e : SerdeError) → r ≡ Err e → Runs after (xs ++ ys) s (Err e)
runs_err after xs ys s r (ran {t = u} is) e same = cc
runs_err after xs ys s r (broke {e = f} sound fault) e same =
    subst (λ x. Runs after (xs ++ ys) s (Err x)) (other_error f e same) (broke sound (λ h. child_refused after xs ys s f (fault h)))

-- calls that go on behind others
runs_on : {S : Type 0} (after : Writer S) (xs ys : List Event) (s t : S) (r : Result S SerdeError) → run after xs s ≡ Ok t → Runs after ys t r → Runs after (xs ++ ys) s r
runs_on after xs ys s t r first (ran {t = u} is) = ran (child_written after xs ys s t first ∙ is)
runs_on after xs ys s t r first (broke sound fault) = broke sound (λ h. child_written after xs ys s t first ∙ fault h)

runs_first : {S : Type 0} (after : Writer S) (x : Event) (xs : List Event) (s t : S) (r : Result S SerdeError) → after x s ≡ Ok t → Runs after xs t r → Runs after (x ∷ xs) s r
runs_first after x xs s t r first (ran is) = ran (call_made after x xs s t first ∙ is)
runs_first after x xs s t r first (broke sound fault) = broke sound (λ h. call_made after x xs s t first ∙ fault h)

-- one call
pub called : {S : Type 0} (after : Writer S) (x : Event) (s t : S) (had : Bool) (r : Result (Unit {0}) SerdeError) → had ≡ false → IsErrOf r Failed ↔ (had ≡ true) → OnOk r (after x s ≡ Ok t) → IfErr r (λ e. IsFault e → after x s ≡ Err e)
    → Runs after (x ∷ []) s (outcome r t)
called after x s t had (Ok done) sound failed ok refused = ran (call_made after x [] s t ok)
called after x s t had (Err e) sound failed ok refused =
    broke (λ is. let clash : true ≡ false = sym (failed.0 (ap Err is)) ∙ sound in cc) (λ fault. call_refused after x [] s e (refused fault))

pub not_had : (r : Result (Unit {0}) SerdeError) (has : Bool) → IsErr r ↔ (has ≡ true) → OnOk r (has ≡ false)
not_had (Ok done) true broken = let clash = broken.1 refl in cc
not_had (Ok done) false broken = refl
not_had (Err e) has broken = tt

pub has_broken : (r : Result (Unit {0}) SerdeError) (has : Bool) → IsErr r ↔ (has ≡ true) → OnErr r (has ≡ true)
has_broken (Ok done) has broken = tt
has_broken (Err e) has broken = broken.0 refl

-- ---- inside of an open structure

value_stays : {S : Type 0} (after : Writer S) (open_in : S → List Open) → IsNested after open_in → (site : Site) (v : Value) (s t : S) → IsInside open_structure (open_in s) → run after (events site v) s ≡ Ok t → open_in t ≡ open_in s
value_stays after open_in nested site v s t (outer, is) written =
    let takes : after_value (open_in s) ≡ Ok (open_in s) = subst (λ os. after_value os ≡ Ok os) (sym is) refl in
    let left = sym (run_nests after open_in nested (events site v) s t written) ∙ value_leaves v site (open_in s) (open_in s) takes in
    cc

-- a value that is written there
pub value_added : {S : Type 0} (after : Writer S) (open_in : S → List Open) → IsNested after open_in → (site : Site) (v : Value) (s t : S) (has : Bool) (r : Result (Unit {0}) SerdeError) → IsInside open_structure (open_in s)
    → Runs after (events site v) s (outcome r t) → OnOk r (has ≡ false) → OnErr r (has ≡ true) → AddsInside after open_in (events site v) s has t r
value_added after open_in nested site v s t has (Ok done) inside runs sound broken =
    let stays = value_stays after open_in nested site v s t inside (runs_ok after (events site v) s (Ok t) runs t refl) in
    record { runs = runs; nests = stays; inside = subst (IsInside open_structure) (sym stays) inside; sound = sound; broken = tt }
value_added after open_in nested site v s t has (Err e) inside runs sound broken = record { runs = runs; nests = tt; inside = tt; sound = tt; broken = broken }

pub nothing_added : {S : Type 0} (after : Writer S) (open_in : S → List Open) (s : S) (has : Bool) → IsInside open_structure (open_in s) → has ≡ false → AddsInside after open_in [] s has s (Ok tt)
nothing_added after open_in s has inside sound = record { runs = ran refl; nests = refl; inside = inside; sound = sound; broken = tt }

-- ---- field by field

field_split : (site : Site) (n : ℕ) (f : Option Value) (fs : List (Option Value)) → member_events site (members_at n (f ∷ fs)) ≡ field_events site n f ++ member_events site (members_at (suc n) fs)
field_split site n None fs = refl
field_split site n (Some v) fs = refl

-- a field that was written, and those behind it
pub first_field : {S : Type 0} {after : Writer S} {open_in : S → List Open} {s t u : S} {was has : Bool} {r : Result (Unit {0}) SerdeError} (site : Site) (n : ℕ) (f : Option Value) (fs : List (Option Value))
    → AddsInside after open_in (field_events site n f) s was t (Ok tt) → AddsInside after open_in (member_events site (members_at (suc n) fs)) t has u r
    → AddsInside after open_in (member_events site (members_at n (f ∷ fs))) s has u r
first_field {after = after} {open_in = open_in} {s = s} {t = t} {u = u} {has = has} {r = r} site n f fs first rest = record {
  runs = subst (λ es. Runs after es s (outcome r u)) (sym (field_split site n f fs))
      (runs_on after (field_events site n f) (member_events site (members_at (suc n) fs)) s t (outcome r u) (runs_ok after (field_events site n f) s (Ok t) first.runs t refl) rest.runs);
  nests = both r rest.nests;
  inside = rest.inside;
  sound = rest.sound;
  broken = rest.broken;
}
  where
    both : (r : Result (Unit {0}) SerdeError) → OnOk r (open_in u ≡ open_in t) → OnOk r (open_in u ≡ open_in s)
    both (Ok done) same = same ∙ first.nests
    both (Err e) same = tt

-- a field that wasn't
pub field_fails : {S : Type 0} {after : Writer S} {open_in : S → List Open} {s t : S} {has : Bool} {e : SerdeError} (site : Site) (n : ℕ) (f : Option Value) (fs : List (Option Value))
    → AddsInside after open_in (field_events site n f) s has t (Err e) → AddsInside after open_in (member_events site (members_at n (f ∷ fs))) s has t (Err e)
field_fails {after = after} {open_in = open_in} {s = s} {t = t} {e = e} site n f fs first = record {
  runs = subst (λ es. Runs after es s (Err e)) (sym (field_split site n f fs))
      (runs_err after (field_events site n f) (member_events site (members_at (suc n) fs)) s (Err e) first.runs e refl);
  nests = tt;
  inside = tt;
  sound = tt;
  broken = first.broken;
}

-- the last one
pub last_field : {S : Type 0} {after : Writer S} {open_in : S → List Open} {s t : S} {has : Bool} {r : Result (Unit {0}) SerdeError} (site : Site) (n : ℕ) (f : Option Value)
    → AddsInside after open_in (field_events site n f) s has t r → AddsInside after open_in (member_events site (members_at n (f ∷ []))) s has t r
last_field {after = after} {open_in = open_in} {s = s} {t = t} {has = has} {r = r} site n f last =
    subst (λ es. AddsInside after open_in es s has t r) (sym (field_split site n f [] ∙ append-nil (field_events site n f))) last

-- ---- a whole container

-- the calls that begin and end a container, with those between them
wrapped_runs : {S : Type 0} (after : Writer S) (begins ends : Event) (es : List Event) (had : Bool) (s : S) (r : Result S SerdeError) → had ≡ false
    → Wraps after begins ends (Runs after es) had s r → Runs after (begins ∷ (es ++ ends ∷ [])) s r
wrapped_runs after begins ends es had s r sound (whole {t = t} {u = u} live begun added ended) =
    ran (call_made after begins _ s t begun ∙ child_written after es (ends ∷ []) t u (runs_ok after es t (Ok u) added u refl) ∙ call_made after ends [] u _ ended)
wrapped_runs after begins ends es had s r sound (not_begun {e = e} why) =
    broke (λ is. let clash : true ≡ false = sym (why.failed.0 is) ∙ sound in cc) (λ fault. call_refused after begins _ s e (why.fault fault))
wrapped_runs after begins ends es had s r sound (not_written {t = t} {e = e} live begun added) =
    runs_first after begins (es ++ ends ∷ []) s t (Err e) begun (runs_err after es (ends ∷ []) t (Err e) added e refl)
wrapped_runs after begins ends es had s r sound (not_ended {t = t} {u = u} {e = e} live begun added why) =
    broke (λ is. let clash : false ≡ true = why.failed.0 is in cc)
    (λ fault. call_made after begins _ s t begun ∙ child_written after es (ends ∷ []) t u (runs_ok after es t (Ok u) added u refl) ∙ call_refused after ends [] u e (why.fault fault))

pub structure_runs : {S : Type 0} (after : Writer S) (site : Site) (ms : MemberValues) (had : Bool) (s : S) (r : Result S SerdeError) → had ≡ false
    → Wraps after (begin_structure site) end_structure (Runs after (member_events site ms)) had s r → Runs after (events site (structure ms)) s r
structure_runs after site ms had s r sound wraps = wrapped_runs after (begin_structure site) end_structure (member_events site ms) had s r sound wraps

never_failed : {S : Type 0} (after : Writer S) (es : List Event) (s : S) (r : Result S SerdeError) → Runs after es s r → (e : SerdeError) → r ≡ Err e → e ≡ Failed → ⊥
never_failed after es s r (ran is) e same = λ failed. absurd (let h = same in cc)
never_failed after es s r (broke {e = f} sound fault) e same = λ failed. sound (other_error f e same ∙ failed)

not_both : {P : Type 0} (b : Bool) → b ≡ false → b ≡ true → P
not_both b is_false is_true = absurd (let clash : false ≡ true = sym is_false ∙ is_true in cc)

-- the error that comes after a failure comes from the first call alone
wraps_failed : {S : Type 0} (after : Writer S) (begins ends : Event) (es : List Event) (had : Bool) (s : S) (r : Result S SerdeError) → Wraps after begins ends (Runs after es) had s r → (e : SerdeError) → r ≡ Err e
    → (e ≡ Failed) ↔ (had ≡ true)
wraps_failed after begins ends es had s r (whole live begun added ended) e same = absurd (let h = same in cc)
wraps_failed after begins ends es had s r (not_begun {e = f} why) e same = subst (λ x. (x ≡ Failed) ↔ (had ≡ true)) (other_error f e same) why.failed
wraps_failed after begins ends es had s r (not_written {t = t} {e = f} live begun added) e same =
    (λ is. absurd (never_failed after es t (Err f) added f refl (other_error f e same ∙ is)), λ failed. not_both had live failed)
wraps_failed after begins ends es had s r (not_ended {e = f} live begun added why) e same =
    (λ is. not_both false refl (why.failed.0 (other_error f e same ∙ is)), λ failed. not_both had live failed)

wraps_sound : {S : Type 0} (after : Writer S) (begins ends : Event) (es : List Event) (had : Bool) (s t : S) (r : Result S SerdeError) → Wraps after begins ends (Runs after es) had s r → r ≡ Ok t → had ≡ false
wraps_sound after begins ends es had s t r (whole live begun added ended) same = live
wraps_sound after begins ends es had s t r (not_begun why) same = absurd (let h = same in cc)
wraps_sound after begins ends es had s t r (not_written live begun added) same = live
wraps_sound after begins ends es had s t r (not_ended live begun added why) same = live

-- what a call says that hands these members to `write_struct`
pub structure_written : {S : Type 0} (after : Writer S) (open_in : S → List Open) (site : Site) (ms : MemberValues) (had has : Bool) (s t : S) (r : Result (Unit {0}) SerdeError)
    → WritesContainer after open_in (begin_structure site) end_structure (Runs after (member_events site ms)) s had t has r → WritesWhole after open_in (events site (structure ms)) s had t has r
structure_written after open_in site ms had has s t r writes = record {
  runs = λ sound. structure_runs after site ms had s (outcome r t) sound writes.wraps;
  nests = writes.nests;
  failed = by_result r writes.wraps;
  broken = writes.broken;
}
  where
    by_result : (r : Result (Unit {0}) SerdeError) → Wraps after (begin_structure site) end_structure (Runs after (member_events site ms)) had s (outcome r t) → IsErrOf r Failed ↔ (had ≡ true)
    by_result (Ok done) wraps =
        let sound = wraps_sound after (begin_structure site) end_structure (member_events site ms) had s t (Ok t) wraps refl in
        (λ is. absurd (let h : ◌≡◌ {A = Result (Unit {0}) SerdeError} (Ok done) (Err Failed) = is in cc), λ failed. not_both had sound failed)
    by_result (Err e) wraps =
        let so = wraps_failed after (begin_structure site) end_structure (member_events site ms) had s (Err e) wraps e refl in
        (λ is. so.0 (unit_error e Failed is), λ failed. ap Err (so.1 failed))

-- of a list whose elements were handed over with their schema
pub list_runs : {S T : Type 0} (after : Writer S) (site inner : Site) (f : T → Value) (ts us : List T) (n : ℕ) (had : Bool) (s : S) (r : Result S SerdeError) → had ≡ false → inner ≡ element_of site → us ≡ ts → n ≡ length ts
    → Wraps after (begin_list site (Some n)) end_list (Runs after (element_events inner (values_of (map f us)))) had s r → Runs after (events site (list (values_of (map f ts)))) s r
list_runs after site inner f ts us n had s r sound place same told wraps =
    rw (count-elements (map f ts), ← counted f ts, ← told, ← place, ← same) (wrapped_runs after (begin_list site (Some n)) end_list (element_events inner (values_of (map f us))) had s r sound wraps)

-- the next element of a list
pub element_fails : {S : Type 0} (after : Writer S) (site : Site) (v : Value) (vs ws : List Value) (s : S) (e : SerdeError) → vs ≡ v ∷ ws → Runs after (events site v) s (Err e)
    → Runs after (element_events site (values_of vs)) s (Err e)
element_fails after site v vs ws s e next fails = rw next (runs_err after (events site v) (element_events site (values_of ws)) s (Err e) fails e refl)

pub element_goes : {S : Type 0} (after : Writer S) (site : Site) (v : Value) (vs ws : List Value) (s t : S) (r : Result S SerdeError) → vs ≡ v ∷ ws → Runs after (events site v) s (Ok t)
    → Runs after (element_events site (values_of ws)) t r → Runs after (element_events site (values_of vs)) s r
element_goes after site v vs ws s t r next first rest =
    rw next (runs_on after (events site v) (element_events site (values_of ws)) s t r (runs_ok after (events site v) s (Ok t) first t refl) rest)

-- one value behind another leaves an open list as it was
pub list_stays : (os ns : List Open) → IsInside open_list os → after_value os ≡ Ok ns → ns ≡ os
list_stays os ns (outer, is) left =
    let takes : after_value os ≡ Ok os = subst (λ x. after_value x ≡ Ok x) (sym is) refl in
    same_lists ns os (sym left ∙ takes)
