-- A loop that calls a consumer along the entries of a container.
use Rattle.std.proofs.Common.{◌≡◌, ◌⊎◌, ◌↔◌, ◌<◌, ◌≤◌, ℕ, suc, ◌+◌, length, List, ◌∷◌, Option, Some, None, Bool, true, false, cond, Result, Ok, Err, refl, sym, ◌∙◌, ap, subst, arith, IsErrOf, inl, inr}
use Rattle.smithy_declarations.specs.declared.place.Place.{Place}
use Rattle.smithy_schema.specs.declared.error.SerdeError.{SerdeError}
use Rattle.smithy_schema.specs.declared.error.SerdeError.TheVariants.{InvalidInput, TypeMismatch, TooDeep, TooWide, NotCarried, Unsupported, Unwritable, Missing, Failed, NoMemory}
use Rattle.smithy_declarations.specs.Table.{Table, IsStructure, kind_of}
use Rattle.smithy_schema.specs.declared.step.Step.{Step}
use Rattle.smithy_schema.specs.declared.step.Step.TheVariants.{Member as to_member_step, Unknown, End}
use Rattle.smithy_shapes.specs.Site.{Site}
use Rattle.smithy_schema.specs.Errors.{RefusesNoScalar, RefusesNoKind, IsNoAnswer, IsRefused, IsInvalid, IsOfCursor}
use Rattle.smithy_schema.specs.Reading.{Cursor, Relations, ContainerKind, Frame, depth, Enters, Steps, Leaves, CannotGoOn, Conducts, IsBehind, IsLawful, MatchStep, passed_to, Reader}
use Rattle.smithy_schema.specs.Containers.{Opens, GoesOnInStructure}
use Rattle.smithy_schema.specs.Consuming.{Call, Rests, IsTaken, Cleared, nothing_due, skipped, Route, Along, went, RefusesOpening, RefusesMember, RefusesEntry, ToMember, ToEnd, IsMemberOf, site_in}

-- ---- refusals

-- whatever the type of the answer
pub same_error : (A : Type 0) (d e : SerdeError) → IsErrOf {T = A} (Err d) e → d ≡ e
same_error A d e h = cc

pub is_error : (A : Type 0) (d e : SerdeError) → d ≡ e → IsErrOf {T = A} (Err d) e
is_error A d e h = ap Err h

pub no_answer : (A : Type 0) (e : SerdeError) → IsNoAnswer {A = A} (Err e) → IsNoAnswer {A = Unit {0}} (Err e)
no_answer A InvalidInput h = h
no_answer A TypeMismatch h = h
no_answer A TooDeep h = h
no_answer A TooWide h = h
no_answer A NotCarried h = h
no_answer A Unsupported h = h
no_answer A Unwritable h = h
no_answer A Missing h = h
no_answer A Failed h = h
no_answer A NoMemory h = h

pub of_cursor : (A : Type 0) (old new : Cursor) (e : SerdeError) → Conducts {A = A} old new (Err e) → RefusesNoScalar {A = A} (Err e) → IsOfCursor e
of_cursor A old new InvalidInput conduct narrow = tt
of_cursor A old new TypeMismatch conduct narrow = tt
of_cursor A old new TooDeep conduct narrow = tt
of_cursor A old new TooWide conduct narrow = narrow.0 refl
of_cursor A old new NotCarried conduct narrow = narrow.1 refl
of_cursor A old new Unsupported conduct narrow = conduct.reading
of_cursor A old new Unwritable conduct narrow = conduct.reading
of_cursor A old new Missing conduct narrow = conduct.reading
of_cursor A old new Failed conduct narrow = tt
of_cursor A old new NoMemory conduct narrow = tt

-- what answers Ok had not failed
pub was_sound : (x : Unit {0}) (b : Bool) → IsErrOf {E = SerdeError} (Ok x) Failed ↔ (b ≡ true) → b ≡ false
was_sound x true h = let clash = h.1 refl in cc
was_sound x false h = refl

-- and a value was due, where none is read otherwise
pub was_due : (b : Bool) → (b ≡ false → ⊥) → b ≡ true
was_due true h = refl
was_due false h = absurd (h refl)

-- an opening that was refused
pub opening_refused : (r : Reader) (site : Site) (within : ContainerKind) (old new : Cursor) (e : SerdeError)
    → Opens r old new site within (Err e) → RefusesOpening r site old e
opening_refused r site within old new e opens = record {
  failed = (λ h. opens.conduct.failed.0 (is_error _ e Failed h), λ h. same_error _ e Failed (opens.conduct.failed.1 h));
  undue = opens.undue;
  told = opens.told;
  refused = opens.refused;
  none_without_limits = opens.none_without_limits;
  invalid = opens.invalid;
  deepest = λ h. opens.deepest (is_error _ e TooDeep h);
  deep = λ h. opens.deep (is_error _ e TooDeep h);
  memory = λ h. opens.memory (is_error _ e NoMemory h);
  narrow = of_cursor _ old new e opens.conduct opens.narrow;
}

-- a list or a map that doesn't go on
pub entry_refused : (A : Type 0) (r : Reader) (site : Site) (old new : Cursor) (e : SerdeError) → Conducts {A = A} old new (Err e) → RefusesNoKind {A = A} (Err e)
    → (IsErrOf {T = A} (Err e) TooDeep → ⊥)
    → (old.due ≡ true → IsNoAnswer {A = A} (Err e))
    → (IsRefused {A = A} (Err e) → old.due ≡ false → CannotGoOn r.wire old site.table site.place)
    → (r.tells_without_limits → IsInvalid {A = A} (Err e) → old.due ≡ false → CannotGoOn r.lifted old site.table site.place)
    → RefusesEntry r site old e
entry_refused A r site old new e conduct narrow shallow unread refused none_without_limits = record {
  failed = (λ h. conduct.failed.0 (is_error _ e Failed h), λ h. same_error _ e Failed (conduct.failed.1 h));
  unread = λ due. no_answer A e (unread due);
  refused = refused;
  none_without_limits = none_without_limits;
  shallow = λ h. shallow (is_error _ e TooDeep h);
  narrow = of_cursor _ old new e conduct narrow.0;
  no_mismatch = λ h. narrow.1 (is_error _ e TypeMismatch h);
}

-- ---- positions

pub behind_up : (i : List ℕ) (c e : ℕ) → IsBehind i c e → c ≤ e
behind_up i c e (inl less, within) = omega arith
behind_up i c e (inr same, within) = let is : c ≡ e = same.0 in omega (arith, is)

-- ---- the loop

-- From the start, where the consumer was `first`, calls along the entries have come here.
pub record InEntries {S K C : Type 0} (route : Route K) (call : Call K C) (began : S) (first : C) (start : Cursor) (now : S) (s : C) (c : Cursor) : Type 0 where
  pub same : now ≡ began
  pub along : (r : Result (Unit {0}) SerdeError) (u : C) (d : Cursor) → Along route call s c r u d → Along route call first start r u d
  pub input : c.input ≡ start.input
  pub within : c.inner.within ≡ start.inner.within
  pub outer : c.outer ≡ start.outer
  pub failed : c.failed ≡ false
  pub ahead : start.at ≤ c.at
  pub inside : c.at ≤ length c.input

pub began : {S K C : Type 0} (route : Route K) (call : Call K C) (settings now : S) (first : C) (start : Cursor) → now ≡ settings → start.failed ≡ false → start.at ≤ length start.input
    → InEntries route call settings first start now first start
began route call settings now first start same failed inside = record {
  same = same;
  along = λ r u d h. h;
  input = refl;
  within = refl;
  outer = refl;
  failed = failed;
  ahead = omega arith;
  inside = inside;
}

-- from c the reader came to d, where a value of the same container is due
pub record Onto (c d : Cursor) : Type 0 where
  pub input : d.input ≡ c.input
  pub within : d.inner.within ≡ c.inner.within
  pub outer : d.outer ≡ c.outer
  pub due : d.due ≡ true
  pub failed : d.failed ≡ false
  pub ahead : c.at ≤ d.at
  pub inside : d.at ≤ length d.input

-- where the consumer left the reader
record Rested (d f : Cursor) : Type 0 where
  input : f.input ≡ d.input
  inner : f.inner ≡ d.inner
  outer : f.outer ≡ d.outer
  failed : f.failed ≡ d.failed
  ahead : d.at ≤ f.at
  inside : d.at ≤ length d.input → f.at ≤ length d.input

rested : (d f : Cursor) → d.failed ≡ false → Rests d f → Rested d f
rested d f sound (inl is) = rw is (record {
  input = refl;
  inner = refl;
  outer = refl;
  failed = refl;
  ahead = omega arith;
  inside = λ h. h;
})
rested d f sound (inr taken) = record {
  input = taken.passes.input;
  inner = taken.passes.inner;
  outer = taken.passes.outer;
  failed = taken.passes.failed ∙ sym sound;
  ahead = behind_up f.input d.at f.at taken.behind;
  inside = λ h. subst (λ i. f.at ≤ length i) taken.passes.input taken.behind.1;
}

-- the consumer was called for one more entry
pub went_on : {S K C : Type 0} (route : Route K) (call : Call K C) (settings now later : S) (first s t : C) (start c d f : Cursor) (k : K)
    → InEntries route call settings first start now s c → later ≡ now → route.goes k c d → Onto c d → call k s d (Ok tt) t f → Rests d f
    → InEntries route call settings first start later t f
went_on route call settings now later first s t start c d f k inside same goes onto called rests =
    let rest = rested d f onto.failed rests in
    record {
      same = same ∙ inside.same;
      along = λ r u e h. inside.along r u e (went k goes called rests h);
      input = rest.input ∙ onto.input ∙ inside.input;
      within = ap (λ (x : Frame). x.within) rest.inner ∙ onto.within ∙ inside.within;
      outer = rest.outer ∙ onto.outer ∙ inside.outer;
      failed = rest.failed ∙ onto.failed;
      ahead = let a = inside.ahead in let b = onto.ahead in let c = rest.ahead in omega (arith, a, b, c);
      inside = subst (λ i. f.at ≤ length i) (sym rest.input) (rest.inside onto.inside);
    }

-- a step goes onto a value
pub onto_by : (w : Relations) (old new : Cursor) (t : Table) (p : Place) (key : Option (List ℕ)) → Steps w old new t p key → old.at ≤ new.at → new.at ≤ length new.input → Onto old new
onto_by w old new t p key steps ahead inside = record {
  input = steps.input;
  within = steps.within;
  outer = steps.outer;
  due = steps.due;
  failed = steps.failed;
  ahead = ahead;
  inside = inside;
}

first_frame : (f g : Frame) (fs gs : List Frame) → f ∷ fs ≡ g ∷ gs → f ≡ g
first_frame f g fs gs h = cc

other_frames : (f g : Frame) (fs gs : List Frame) → f ∷ fs ≡ g ∷ gs → fs ≡ gs
other_frames f g fs gs h = cc

opened : (i j : List ℕ) (a b c e : ℕ) → j ≡ i → (P : Type 0) → (a < b) ⊎ ((a ≡ b) × (b ≡ length i) × P) → b ≤ c → c ≤ e → e ≤ length j → (a < e) ⊎ ((a ≡ e) × (e ≡ length j))
opened i j a b c e same P (inl less) up more within = inl (omega arith)
opened i j a b c e same P (inr at) up more within =
    let is : a ≡ b = at.0 in let end : b ≡ length i = at.1 in let long : length j ≡ length i = ap length same in
    inr (omega (arith, is, end, long, up, more, within), omega (arith, is, end, long, up, more, within))

-- the container ended: it was taken whole
pub taken_whole : {S K C : Type 0} (w : Relations) → IsLawful w → (max : ℕ) (t : Table) (p : Place) (k : ContainerKind) (route : Route K) (call : Call K C) (settings now : S) (first s : C) (old start c from new : Cursor)
    → Enters w max old start t p k → InEntries route call settings first start now s c
    → from.input ≡ c.input → from.outer ≡ c.outer → Leaves w from new t p → c.at ≤ new.at → new.at ≤ length new.input
    → IsTaken old new
taken_whole w laws max t p k route call settings now first s old start c from new enters inside input outer leaves ahead within =
    let whole : new.input ≡ old.input = leaves.input ∙ input ∙ inside.input ∙ enters.input in
    let frames : new.inner ∷ new.outer ≡ old.inner ∷ old.outer = sym leaves.outer ∙ outer ∙ inside.outer ∙ enters.outer in
    record {
      passes = record {
        input = whole;
        inner = first_frame _ _ _ _ frames;
        outer = other_frames _ _ _ _ frames;
        due = leaves.due;
        failed = leaves.failed;
      };
      behind = (
        opened old.input new.input old.at start.at c.at new.at whole (IsStructure (kind_of t p)) (laws.opens_ahead old.input t p (depth old) old.at start.at start.inner.mark enters.opens) inside.ahead ahead within,
        within,
      );
    }

-- ---- how much is left

-- of a list or a map, which doesn't go on from a value that was left unread
abbrev pub left_in : Relations → Cursor → ℕ
left_in w c = cond c.due 0 (suc (w.left c.input c.at c.inner.mark))

pub less_left : (w : Relations) → IsLawful w → (c d f : Cursor) (t : Table) (p : Place) (key : Option (List ℕ)) → c.due ≡ false → Steps w c d t p key → Rests d f → left_in w f < left_in w c
less_left w laws c d f t p key due steps (inl is) = rw (is, steps.due, due) (omega arith)
less_left w laws c d f t p key due steps (inr taken) =
    rw (taken.passes.due, due, taken.passes.input, taken.passes.inner, steps.input)
    (let less = laws.falls c.input t p (depth c) c.at c.inner.mark key d.at d.inner.mark f.at steps.steps (subst (λ i. IsBehind i d.at f.at) (taken.passes.input ∙ steps.input) taken.behind) in
    omega (arith, less))

-- where an answer can't be Ok if a value is due, none is
pub none_due : (b : Bool) → (b ≡ true → ⊥) → b ≡ false
none_due true h = absurd (h refl)
none_due false h = refl

-- ---- structures and unions, where what was left unread is skipped

pub cleared_input : (w : Relations) (old from : Cursor) → Cleared w old from → from.input ≡ old.input
cleared_input w old from (nothing_due none) = refl
cleared_input w old from (skipped e due skips) = refl

pub cleared_outer : (w : Relations) (old from : Cursor) → Cleared w old from → from.outer ≡ old.outer
cleared_outer w old from (nothing_due none) = refl
cleared_outer w old from (skipped e due skips) = refl

cleared_inner : (w : Relations) (old from : Cursor) → Cleared w old from → from.inner ≡ old.inner
cleared_inner w old from (nothing_due none) = refl
cleared_inner w old from (skipped e due skips) = refl

-- the step from behind what was left unread
where_due : (w : Relations) (old new : Cursor) (site : Site) (step : Step) (b : Bool) → old.due ≡ b → (old.due ≡ false → MatchStep step w old new site)
    → (old.due ≡ true → (e : ℕ) × w.skips old.input (depth old) old.at e × MatchStep step w (passed_to old e) new site)
    → (from : Cursor) × Cleared w old from × MatchStep step w from new site
where_due w old new site step true is ok unread = let skips = unread is in (passed_to old skips.0, skipped skips.0 is skips.1, skips.2)
where_due w old new site step false is ok unread = (old, nothing_due is, ok is)

pub stepped : (w : Relations) (old new : Cursor) (site : Site) (step : Step) → (old.due ≡ false → MatchStep step w old new site)
    → (old.due ≡ true → (e : ℕ) × w.skips old.input (depth old) old.at e × MatchStep step w (passed_to old e) new site)
    → (from : Cursor) × Cleared w old from × MatchStep step w from new site
stepped w old new site step ok unread = where_due w old new site step old.due refl ok unread

pub to_entry : (w : Relations) (old new : Cursor) (outer : Site) (step : Step) (member : Option Site) → (step ≡ End → ⊥) → member ≡ site_in step
    → (from : Cursor) × Cleared w old from × MatchStep step w from new outer → ToMember w outer member old new
to_entry w old new outer (to_member_step s) member goes is (from, cleared, (key, n, steps, position, same)) = rw is (record {
  from = from;
  cleared = cleared;
  key = key;
  names = (n, position, same);
  steps = steps;
})
to_entry w old new outer Unknown member goes is (from, cleared, (key, steps, none)) = rw is (record {
  from = from;
  cleared = cleared;
  key = key;
  names = none;
  steps = steps;
})
to_entry w old new outer End member goes is found = absurd (goes refl)

-- what a step names is a member of the container
pub is_member : (w : Relations) (old new : Cursor) (outer : Site) (member : Option Site) → ToMember w outer member old new → IsMemberOf outer member
is_member w old new outer (Some site) goes = (goes.names.0, goes.names.2)
is_member w old new outer None goes = tt

pub to_end : (w : Relations) (old new : Cursor) (outer : Site) → (from : Cursor) × Cleared w old from × MatchStep End w from new outer
    → old.at ≤ new.at → ToEnd w outer old new
to_end w old new outer (from, cleared, leaves) ahead = record { from = from; cleared = cleared; leaves = leaves; ahead = ahead }

pub onto_member : (w : Relations) (old new : Cursor) (outer : Site) (member : Option Site) → ToMember w outer member old new → old.at ≤ new.at → new.at ≤ length new.input → Onto old new
onto_member w old new outer member goes ahead inside = record {
  input = goes.steps.input ∙ cleared_input w old goes.from goes.cleared;
  within = goes.steps.within ∙ ap (λ (x : Frame). x.within) (cleared_inner w old goes.from goes.cleared);
  outer = goes.steps.outer ∙ cleared_outer w old goes.from goes.cleared;
  due = goes.steps.due;
  failed = goes.steps.failed;
  ahead = ahead;
  inside = inside;
}

cannot_from : (w : Relations) (old from : Cursor) (site : Site) → Cleared w old from → (old.due ≡ false → CannotGoOn w old site.table site.place)
    → (old.due ≡ true → (e : ℕ) → w.skips old.input (depth old) old.at e → CannotGoOn w (passed_to old e) site.table site.place)
    → CannotGoOn w from site.table site.place
cannot_from w old from site (nothing_due none) here behind = here none
cannot_from w old from site (skipped e due skips) here behind = behind due e skips

pub member_refused : (r : Reader) (site : Site) (old new : Cursor) (e : SerdeError) → GoesOnInStructure r old new site (Err e)
    → RefusesMember r site old e
member_refused r site old new e goes = record {
  failed = (λ h. goes.conduct.failed.0 (is_error Step e Failed h), λ h. same_error Step e Failed (goes.conduct.failed.1 h));
  refused = λ fault from cleared. cannot_from r.wire old from site cleared (goes.refused fault) (goes.unread_refused fault);
  none_without_limits = λ strict h from cleared. cannot_from r.lifted old from site cleared (goes.none_without_limits strict h) (goes.unread_would strict h);
  deep = λ h. goes.deep (is_error Step e TooDeep h);
  limited = λ h. goes.limited (is_error Step e TooDeep h);
  narrow = of_cursor Step old new e goes.conduct goes.narrow.0;
  no_mismatch = λ h. goes.narrow.1 (is_error Step e TypeMismatch h);
}

-- how much is left, where a value that was left unread is skipped
abbrev pub left_past : Relations → Cursor → ℕ
left_past w c = let l = w.left c.input c.at c.inner.mark in cond c.due (l + l) (suc (l + l))

below : (w : Relations) → IsLawful w → (from d f : Cursor) (t : Table) (p : Place) (key : Option (List ℕ)) (limit : ℕ) → Steps w from d t p key → Rests d f
    → suc (w.left from.input from.at from.inner.mark + w.left from.input from.at from.inner.mark) ≤ limit → left_past w f < limit
below w laws from d f t p key limit steps (inl is) room =
    rw (is, steps.due, steps.input)
    (let less = laws.step_falls from.input t p (depth from) from.at from.inner.mark key d.at d.inner.mark steps.steps in omega (arith, less, room))
below w laws from d f t p key limit steps (inr taken) room =
    rw (taken.passes.due, taken.passes.input, taken.passes.inner, steps.input)
    (let less = laws.falls from.input t p (depth from) from.at from.inner.mark key d.at d.inner.mark f.at steps.steps (subst (λ i. IsBehind i d.at f.at) (taken.passes.input ∙ steps.input) taken.behind) in
    omega (arith, less, room))

less_past : (w : Relations) → IsLawful w → (c from d f : Cursor) (t : Table) (p : Place) (key : Option (List ℕ)) → Cleared w c from → Steps w from d t p key → Rests d f → left_past w f < left_past w c
less_past w laws c from d f t p key (nothing_due none) steps rests =
    below w laws from d f t p key (left_past w c) steps rests (rw none (omega arith))
less_past w laws c from d f t p key (skipped e due skips) steps rests =
    below w laws from d f t p key (left_past w c) steps rests (rw due (let less = laws.skip_falls c.input (depth c) c.at e c.inner.mark skips in omega (arith, less)))

pub less_behind : (w : Relations) → IsLawful w → (c d f : Cursor) (outer : Site) (member : Option Site) → ToMember w outer member c d → Rests d f → left_past w f < left_past w c
less_behind w laws c d f outer member goes rests = less_past w laws c goes.from d f outer.table outer.place (Some goes.key) goes.cleared goes.steps rests
