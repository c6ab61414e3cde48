-- Each entry takes a byte, so a consumer is called no more often than there are bytes.
use Rattle.std.proofs.Common.{◌≡◌, ◌⊎◌, ◌≤◌, ◌<◌, ◌+◌, ◌-◌, ℕ, length, List, Option, Some, None, true, false, Result, Ok, Err, OnOk, OnErr, refl, sym, ◌∙◌, ap, subst, arith, inl, inr}
use Rattle.smithy_declarations.specs.declared.place.Place.{Place}
use Rattle.smithy_declarations.specs.Table.{Table}
use Rattle.smithy_shapes.specs.Site.{Site}
use Rattle.smithy_schema.specs.declared.error.SerdeError.{SerdeError}
use Rattle.smithy_schema.specs.Reading.{Cursor, Relations, Reader, Mark, ContainerKind, depth, Enters, Steps, IsBehind, IsLawful}
use Rattle.smithy_schema.specs.Consuming.{Call, Rests, IsTaken, Cleared, nothing_due, skipped, Route, Along, ended, refused, stopped, went, times, Consumes, unopened, entered, ReadsEntries, by_member, by_element, by_key}

-- an answer that is Ok says what follows from what it says
on_ok : {T E A B : Type 0} (r : Result T E) → (A → B) → OnOk r A → OnOk r B
on_ok (Ok x) f h = f h
on_ok (Err e) f h = h

-- the reader goes on from c to an entry that is due at d, from behind what was left unread
record Onward (w : Relations) (t : Table) (p : Place) (c d : Cursor) : Type 0 where
  from : Cursor
  cleared : Cleared w c from
  key : Option (List ℕ)
  steps : Steps w from d t p key

-- by a step from b, the reader has come to c: to the entry, or behind it
record Came (w : Relations) (t : Table) (p : Place) (i : List ℕ) (b : ℕ) (c : Cursor) : Type 0 where
  input : c.input ≡ i
  inside : ℕ
  mark : Mark
  key : Option (List ℕ)
  due_at : ℕ
  steps : w.steps i t p inside b mark key due_at c.inner.mark
  rests : ((c.due ≡ true) × (c.at ≡ due_at)) ⊎ ((c.due ≡ false) × IsBehind i due_at c.at)

module _ (w : Relations) (laws : IsLawful w) (t : Table) (p : Place) (i : List ℕ) where
  came : (from d f : Cursor) (key : Option (List ℕ)) → from.input ≡ i → Steps w from d t p key → Rests d f → Came w t p i from.at f
  came from d f key same steps (inl is) = rw is (record {
    input = steps.input ∙ same;
    inside = depth from;
    mark = from.inner.mark;
    key = key;
    due_at = d.at;
    steps = subst (λ j. w.steps j t p (depth from) from.at from.inner.mark key d.at d.inner.mark) same steps.steps;
    rests = inl (steps.due, refl);
  })
  came from d f key same steps (inr taken) =
      let whole : f.input ≡ i = taken.passes.input ∙ (steps.input ∙ same) in
      record {
        input = whole;
        inside = depth from;
        mark = from.inner.mark;
        key = key;
        due_at = d.at;
        steps = subst (λ x. w.steps i t p (depth from) from.at from.inner.mark key d.at x) (sym (ap (λ x. x.mark) taken.passes.inner))
            (subst (λ j. w.steps j t p (depth from) from.at from.inner.mark key d.at d.inner.mark) same steps.steps);
        rests = inr (taken.passes.due, subst (λ j. IsBehind j d.at f.at) whole taken.behind);
      }

  -- and goes on behind it, where bytes are left
  further : (b : ℕ) (c from d : Cursor) (key : Option (List ℕ)) → Came w t p i b c → Cleared w c from → Steps w from d t p key → (b < from.at) × (from.at < length i) × (from.input ≡ i)
  further b c from d key here (nothing_due none) steps =
      let on = laws.next_takes i t p here.inside (depth c) b c.at here.mark here.key key here.due_at d.at c.inner.mark d.inner.mark here.steps
      (subst (λ j. w.steps j t p (depth c) c.at c.inner.mark key d.at d.inner.mark) here.input steps.steps) in
      let up = laws.step_ahead i t p here.inside b here.mark here.key here.due_at c.inner.mark here.steps in
      (past here.rests on up, on, here.input)
    where
      past : ((c.due ≡ true) × (c.at ≡ here.due_at)) ⊎ ((c.due ≡ false) × IsBehind i here.due_at c.at) → c.at < length i → b ≤ here.due_at → b < c.at
      past (inl unread) on up = absurd (let both : true ≡ false = sym unread.0 ∙ none in cc)
      past (inr (done, (inl less, within))) on up = omega (arith, less, up)
      past (inr (done, (inr (same, end), within))) on up = absurd (omega (arith, same, end, on))
  further b c from d key here (skipped e due skips) steps =
      let ahead = laws.skips_within c.input (depth c) c.at e skips in
      let on = laws.next_takes i t p here.inside (depth c) b e here.mark here.key key here.due_at d.at c.inner.mark d.inner.mark here.steps
      (subst (λ j. w.steps j t p (depth c) e c.inner.mark key d.at d.inner.mark) here.input steps.steps) in
      let up = laws.step_ahead i t p here.inside b here.mark here.key here.due_at c.inner.mark here.steps in
      (past here.rests ahead.0 up, on, here.input)
    where
      past : ((c.due ≡ true) × (c.at ≡ here.due_at)) ⊎ ((c.due ≡ false) × IsBehind i here.due_at c.at) → c.at < e → b ≤ here.due_at → b < e
      past (inl unread) less up = omega (arith, less, unread.1, up)
      past (inr done) less up = absurd (let both : true ≡ false = sym due ∙ done.0 in cc)

-- along the entries of a container, by a route whose steps are those of the wire
record IsRoute {K : Type 0} (w : Relations) (t : Table) (p : Place) (route : Route K) : Type 0 where
  onward : (k : K) (c d : Cursor) → route.goes k c d → Onward w t p c d
  away : (c d : Cursor) → route.leaves c d → c.at ≤ d.at

module _ {K C : Type 0} (w : Relations) (laws : IsLawful w) (t : Table) (p : Place) (route : Route K) (call : Call K C) (is : IsRoute w t p route) (i : List ℕ) where
  at_last : (b : ℕ) (c : Cursor) → Came w t p i b c → b ≤ c.at
  at_last b c here = by here.rests (laws.step_ahead i t p here.inside b here.mark here.key here.due_at c.inner.mark here.steps)
    where
      by : ((c.due ≡ true) × (c.at ≡ here.due_at)) ⊎ ((c.due ≡ false) × IsBehind i here.due_at c.at) → b ≤ here.due_at → b ≤ c.at
      by (inl unread) up = omega (arith, unread.1, up)
      by (inr (done, (inl less, within))) up = omega (arith, less, up)
      by (inr (done, (inr (same, end), within))) up = omega (arith, same, up)

  few_along : (b : ℕ) (s : C) (c : Cursor) (r : Result (Unit {0}) SerdeError) (u : C) (g : Cursor) (x : Along route call s c r u g) → b ≤ length i → Came w t p i b c
      → (times x + b ≤ length i) × OnOk r (times x + b ≤ g.at)
  few_along b s c r u g (ended leaves) low here = (omega (arith, low), omega (arith, at_last b c here, is.away c g leaves))
  few_along b s c r u g (refused why) low here = (omega (arith, low), tt)
  few_along b s c r u g (stopped {d = d} k goes called) low here =
      let o = is.onward k c d goes in
      let on = further w laws t p i b c o.from d o.key here o.cleared o.steps in
      (omega (arith, on.0, on.1), tt)
  few_along b s c r u g (went {t = t1} {d = d} {f = f} k goes called rests more) low here =
      let o = is.onward k c d goes in
      let on = further w laws t p i b c o.from d o.key here o.cleared o.steps in
      let rest = few_along o.from.at t1 f r u g more (omega (arith, on.1)) (came w laws t p i o.from d f o.key on.2 o.steps rests) in
      (omega (arith, rest.0, on.0), on_ok r (λ (h : times more + o.from.at ≤ g.at). omega (arith, h, on.0)) rest.1)

  opened : (old d from e : Cursor) (key : Option (List ℕ)) (max : ℕ) (k : ContainerKind) → old.input ≡ i → Enters w max old d t p k → Cleared w d from → Steps w from e t p key
      → (old.at < from.at) × (from.at ≤ length i) × (from.input ≡ i)
  opened old d from e key max k same enters (nothing_due none) steps =
      let here : d.input ≡ i = enters.input ∙ same in
      let first = laws.first_takes i t p (depth old) (depth d) old.at d.at d.inner.mark key e.at e.inner.mark
      (subst (λ j. w.opens j t p (depth old) old.at d.at d.inner.mark) same enters.opens)
      (subst (λ j. w.steps j t p (depth d) d.at d.inner.mark key e.at e.inner.mark) here steps.steps) in
      (first.0, first.1, here)
  opened old d from e key max k same enters (skipped f due skips) steps = absurd (let both : true ≡ false = sym due ∙ enters.due in cc)

  -- the first entry is due behind the opening
  few_inside : (max : ℕ) (k : ContainerKind) (old d : Cursor) → old.input ≡ i → Enters w max old d t p k
      → (s : C) (r : Result (Unit {0}) SerdeError) (u : C) (g : Cursor) (x : Along route call s d r u g) → (times x ≤ length i - old.at) × OnOk r (times x ≤ g.at - old.at)
  few_inside max k old d same enters s r u g (ended leaves) = (omega arith, omega arith)
  few_inside max k old d same enters s r u g (refused why) = (omega arith, tt)
  few_inside max k old d same enters s r u g (stopped {d = e} y goes called) =
      let o = is.onward y d e goes in
      let first = opened old d o.from e o.key max k same enters o.cleared o.steps in
      (omega (arith, first.0, first.1), tt)
  few_inside max k old d same enters s r u g (went {t = t1} {d = e} {f = f} y goes called rests more) =
      let o = is.onward y d e goes in
      let first = opened old d o.from e o.key max k same enters o.cleared o.steps in
      let rest = few_along o.from.at t1 f r u g more first.1 (came w laws t p i o.from e f o.key first.2 o.steps rests) in
      (omega (arith, rest.0, first.0), on_ok r (λ (h : times more + o.from.at ≤ g.at). omega (arith, h, first.0)) rest.1)

-- what a call with a consumer says of its answer, from what it did
entries_read : {K C : Type 0} (r : Reader) (site : Site) (within : ContainerKind) (route : Route K) (call : Call K C) → IsLawful r.wire → IsRoute r.wire site.table site.place route
    → (s : C) (old : Cursor) (result : Result (Unit {0}) SerdeError) (u : C) (new : Cursor) → Consumes r site within route call s old result u new
    → OnOk result (IsTaken old new) → OnErr result (new.failed ≡ true) → ReadsEntries r site within route call s old result u new
entries_read r site within route call laws is s old result u new (unopened why) takes fails = record {
  consumes = unopened why;
  few = omega arith;
  few_read = tt;
  takes = takes;
  fails = fails;
}
entries_read r site within route call laws is s old result u new (entered {d = d} sound due enters along) takes fails =
    let few = few_inside r.wire laws site.table site.place route call is old.input r.max_depth within old d refl enters s result u new along in
    record {
      consumes = entered sound due enters along;
      few = few.0;
      few_read = few.1;
      takes = takes;
      fails = fails;
    }

pub elements_read : {C : Type 0} (r : Reader) (site : Site) (within : ContainerKind) (call : Call (Unit {0}) C) → IsLawful r.wire
    → (s : C) (old : Cursor) (result : Result (Unit {0}) SerdeError) (u : C) (new : Cursor) → Consumes r site within (by_element r site) call s old result u new
    → OnOk result (IsTaken old new) → OnErr result (new.failed ≡ true) → ReadsEntries r site within (by_element r site) call s old result u new
elements_read r site within call laws s old result u new =
    entries_read r site within (by_element r site) call laws
    (record { onward = λ k c d goes. record { from = c; cleared = nothing_due goes.taken; key = None; steps = goes.steps }; away = λ c d leaves. leaves.ahead }) s old result u new

pub keys_read : {C : Type 0} (r : Reader) (site : Site) (within : ContainerKind) (call : Call (List ℕ) C) → IsLawful r.wire
    → (s : C) (old : Cursor) (result : Result (Unit {0}) SerdeError) (u : C) (new : Cursor) → Consumes r site within (by_key r site) call s old result u new
    → OnOk result (IsTaken old new) → OnErr result (new.failed ≡ true) → ReadsEntries r site within (by_key r site) call s old result u new
keys_read r site within call laws s old result u new =
    entries_read r site within (by_key r site) call laws
    (record { onward = λ k c d goes. record { from = c; cleared = nothing_due goes.taken; key = Some k; steps = goes.steps }; away = λ c d leaves. leaves.ahead }) s old result u new

pub members_read : {C : Type 0} (r : Reader) (site : Site) (within : ContainerKind) (call : Call (Option Site) C) → IsLawful r.wire
    → (s : C) (old : Cursor) (result : Result (Unit {0}) SerdeError) (u : C) (new : Cursor) → Consumes r site within (by_member r site) call s old result u new
    → OnOk result (IsTaken old new) → OnErr result (new.failed ≡ true) → ReadsEntries r site within (by_member r site) call s old result u new
members_read r site within call laws s old result u new =
    entries_read r site within (by_member r site) call laws
    (record { onward = λ k c d goes. record { from = goes.from; cleared = goes.cleared; key = Some goes.key; steps = goes.steps }; away = λ c d leaves. leaves.ahead }) s old result u new
