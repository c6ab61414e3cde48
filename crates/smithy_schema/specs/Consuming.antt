-- What a call with a consumer does: it enters a container, and the consumer is called along the container's entries.
use Rattle.std.specs.Prelude.{◌≡◌, ◌≢◌, ◌⊎◌, ◌↔◌, ◌≤◌, ◌-◌, ℕ, suc, length, List, Option, Some, None, true, false, Result, Ok, Err, OnOk, OnErr}
use Rattle.smithy_schema.specs.declared.error.SerdeError.{SerdeError}
use Rattle.smithy_schema.specs.declared.error.SerdeError.TheVariants.{TypeMismatch, TooDeep, Failed, NoMemory}
use Rattle.smithy_schema.specs.declared.step.Step.{Step}
use Rattle.smithy_schema.specs.declared.step.Step.TheVariants.{Member, Unknown, End}
use Rattle.smithy_shapes.specs.Site.{Site, site_of, member_site}
use Rattle.smithy_schema.specs.Errors.{IsFault, FindsNone, TellsType, IsNoAnswer, IsOfCursor}
use Rattle.smithy_schema.specs.Reading.{Cursor, Relations, Reader, ContainerKind, depth, Passes, Enters, Steps, Leaves, CannotGoOn, OpensNot, ReachesDepth, IsBehind, failed_at, passed_to}

-- ---- what a consumer promises

-- what a consumer with the state C does in a call for an entry that a K tells: the consumer and the cursor before, the answer,
-- and both after
abbrev pub Call : Type 0 → Type 0 → Type 1
Call K C = K → C → Cursor → Result (Unit {0}) SerdeError → C → Cursor → Type 0

-- what a consumer with the state C does in a call for an entry of a structure or a union, by any reader, at the site of the
-- member that is due, or at none where the key names no member
abbrev pub MemberCall : Type 0 → Type 1
MemberCall C = Reader → Call (Option Site) C

-- what a consumer with the state C does in a call for an element of a list, by any reader
abbrev pub ElementCall : Type 0 → Type 1
ElementCall C = Reader → C → Cursor → Result (Unit {0}) SerdeError → C → Cursor → Type 0

-- what a consumer with the state C does in a call for an entry of a map, by any reader, with the text of the entry's key
abbrev pub EntryCall : Type 0 → Type 1
EntryCall C = Reader → Call (List ℕ) C

-- the value that was due is read whole, or skipped
pub record IsTaken (old new : Cursor) : Type 0 where
  pub passes : Passes old new
  pub behind : IsBehind new.input old.at new.at

-- the value that is due is left unread, or taken whole: the open containers stay
abbrev pub Rests : Cursor → Cursor → Type 0
Rests old new = (new ≡ old) ⊎ IsTaken old new

-- ---- along the entries of a container

-- where the reader goes on from: behind the value that was left unread, if one was
pub data Cleared (w : Relations) (old : Cursor) : Cursor → Type 0 where
  nothing_due : old.due ≡ false → Cleared w old old
  skipped : (e : ℕ) → old.due ≡ true → w.skips old.input (depth old) old.at e → Cleared w old (passed_to old e)

-- how the entries of a container are told
pub record Route (K : Type 0) : Type 1 where
  -- how the reader goes to the entry that a K tells, whose value is due then
  pub goes : K → Cursor → Cursor → Type 0
  -- how the reader goes to the end of the container
  pub leaves : Cursor → Cursor → Type 0
  -- how the reader goes to neither an entry nor the end, and has failed
  pub refuses : Cursor → SerdeError → Type 0

-- From here on: the consumer is called once for each entry, in order, till the container ends, or the reader or the consumer
-- refuses, and then the reader has failed.
pub data Along {K C : Type 0} (route : Route K) (call : Call K C) : C → Cursor → Result (Unit {0}) SerdeError → C → Cursor → Type 0 where
  ended : {s : C} {c d : Cursor} → route.leaves c d → Along route call s c (Ok tt) s d
  refused : {s : C} {c : Cursor} {e : SerdeError} → route.refuses c e → Along route call s c (Err e) s (failed_at c)
  stopped : {s t : C} {c d f : Cursor} {e : SerdeError} (k : K) → route.goes k c d → call k s d (Err e) t f
      → Along route call s c (Err e) t (failed_at f)
  went : {s t u : C} {c d f g : Cursor} {r : Result (Unit {0}) SerdeError} (k : K) → route.goes k c d → call k s d (Ok tt) t f → Rests d f
      → Along route call t f r u g → Along route call s c r u g

-- how often the consumer is called
abbrev pub times : {K C : Type 0} {route : Route K} {call : Call K C} {s t : C} {c d : Cursor} {r : Result (Unit {0}) SerdeError} → Along route call s c r t d → ℕ
times (ended leaves) = 0
times (refused refuses) = 0
times (stopped k goes called) = 1
times (went k goes called rests along) = suc (times along)

-- why a container doesn't open
pub record RefusesOpening (r : Reader) (site : Site) (c : Cursor) (e : SerdeError) : Type 0 where
  pub failed : (e ≡ Failed) ↔ (c.failed ≡ true)
  pub undue : c.due ≡ false → IsNoAnswer {A = Unit {0}} (Err e)
  pub refused : IsFault e → c.due ≡ true → r.wire.allows (depth c) → OpensNot r.wire c site.table site.place
  pub told : c.due ≡ true → TellsType (r.wire.mismatches c.input site.table site.place c.at) e
  pub none_without_limits : r.tells_without_limits → FindsNone e → c.due ≡ true → OpensNot r.lifted c site.table site.place
  pub invalid : FindsNone e → c.due ≡ true → OpensNot r.wire c site.table site.place
  pub deepest : e ≡ TooDeep → depth c ≡ r.max_depth
  pub deep : e ≡ TooDeep → OpensNot r.wire c site.table site.place → ⊥
  -- and memory is wanted only for a container that begins here
  pub memory : e ≡ NoMemory → OpensNot r.wire c site.table site.place → ⊥
  pub narrow : IsOfCursor e

-- Where a value is due and the reader hasn't failed, the call enters the container and goes along its entries; or it is refused
-- where it opens.
pub data Consumes {K C : Type 0} (r : Reader) (site : Site) (within : ContainerKind) (route : Route K) (call : Call K C) : C → Cursor → Result (Unit {0}) SerdeError → C → Cursor → Type 0 where
  unopened : {s : C} {c : Cursor} {e : SerdeError} → RefusesOpening r site c e → Consumes r site within route call s c (Err e) s (failed_at c)
  entered : {s t : C} {c d f : Cursor} {result : Result (Unit {0}) SerdeError} → c.failed ≡ false → c.due ≡ true → Enters r.wire r.max_depth c d site.table site.place within
      → Along route call s d result t f → Consumes r site within route call s c result t f

-- how often the consumer is called in all
abbrev pub calls : {K C : Type 0} {r : Reader} {site : Site} {within : ContainerKind} {route : Route K} {call : Call K C} {s t : C} {c d : Cursor} {result : Result (Unit {0}) SerdeError}
    → Consumes r site within route call s c result t d → ℕ
calls (unopened refuses) = 0
calls (entered sound due enters along) = times along

-- What such a call says of its answer: where it is Ok, the value that was due is taken, and else the reader has failed. The consumer
-- is called no more often than bytes are left, and where the answer is Ok, no more often than bytes were read.
pub record ReadsEntries {K C : Type 0} (r : Reader) (site : Site) (within : ContainerKind) (route : Route K) (call : Call K C) (s : C) (old : Cursor) (result : Result (Unit {0}) SerdeError) (t : C) (new : Cursor) : Type 0 where
  pub consumes : Consumes r site within route call s old result t new
  pub few : calls consumes ≤ length old.input - old.at
  pub few_read : OnOk result (calls consumes ≤ new.at - old.at)
  pub takes : OnOk result (IsTaken old new)
  pub fails : OnErr result (new.failed ≡ true)

-- ---- the entries of each kind of container

-- the site is that of a member of this structure or union, or there is none
abbrev pub IsMemberOf : Site → Option Site → Type 0
IsMemberOf outer None = Unit {0}
IsMemberOf outer (Some site) = (n : ℕ) × (member_site outer n ≡ Some site)

-- the site of the member that a step goes to, if it goes to one
abbrev pub site_in : Step → Option Site
site_in (Member s) = Some (site_of s)
site_in Unknown = None
site_in End = None

-- the key names the member with this site, or none
abbrev pub Names : Relations → Site → List ℕ → Option Site → Type 0
Names w outer key None = w.position outer.table outer.place key ≡ None
Names w outer key (Some site) =
    (n : ℕ) × (w.position outer.table outer.place key ≡ Some n) × (member_site outer n ≡ Some site)

pub record ToMember (w : Relations) (outer : Site) (member : Option Site) (old new : Cursor) : Type 0 where
  pub from : Cursor
  pub cleared : Cleared w old from
  pub key : List ℕ
  pub names : Names w outer key member
  pub steps : Steps w from new outer.table outer.place (Some key)

pub record ToEnd (w : Relations) (outer : Site) (old new : Cursor) : Type 0 where
  pub from : Cursor
  pub cleared : Cleared w old from
  pub leaves : Leaves w from new outer.table outer.place
  pub ahead : old.at ≤ new.at

-- why a structure or a union doesn't go on
pub record RefusesMember (r : Reader) (outer : Site) (c : Cursor) (e : SerdeError) : Type 0 where
  pub failed : (e ≡ Failed) ↔ (c.failed ≡ true)
  pub refused : IsFault e → (from : Cursor) → Cleared r.wire c from → CannotGoOn r.wire from outer.table outer.place
  pub none_without_limits : r.tells_without_limits → FindsNone e → (from : Cursor) → Cleared r.lifted c from → CannotGoOn r.lifted from outer.table outer.place
  pub deep : e ≡ TooDeep → ReachesDepth r.wire r.max_depth c
  pub limited : e ≡ TooDeep → r.wire.limits_skips ≡ true
  pub narrow : IsOfCursor e
  pub no_mismatch : e ≢ TypeMismatch

-- each member, and each key that names none; what was left unread is skipped
abbrev pub by_member : Reader → Site → Route (Option Site)
by_member r outer = record {
  goes = ToMember r.wire outer;
  leaves = ToEnd r.wire outer;
  refuses = RefusesMember r outer;
}

-- why a list or a map doesn't go on
pub record RefusesEntry (r : Reader) (outer : Site) (c : Cursor) (e : SerdeError) : Type 0 where
  pub failed : (e ≡ Failed) ↔ (c.failed ≡ true)
  pub unread : c.due ≡ true → IsNoAnswer {A = Unit {0}} (Err e)
  pub refused : IsFault e → c.due ≡ false → CannotGoOn r.wire c outer.table outer.place
  pub none_without_limits : r.tells_without_limits → FindsNone e → c.due ≡ false → CannotGoOn r.lifted c outer.table outer.place
  pub shallow : e ≢ TooDeep
  pub narrow : IsOfCursor e
  pub no_mismatch : e ≢ TypeMismatch

-- each entry has a key, or none in a list; a reader doesn't go on from a value that was left unread
pub record ToEntry (w : Relations) (outer : Site) (key : Option (List ℕ)) (old new : Cursor) : Type 0 where
  pub taken : old.due ≡ false
  pub steps : Steps w old new outer.table outer.place key
  pub ahead : old.at ≤ new.at

pub record ToLast (w : Relations) (outer : Site) (old new : Cursor) : Type 0 where
  pub taken : old.due ≡ false
  pub leaves : Leaves w old new outer.table outer.place
  pub ahead : old.at ≤ new.at

abbrev pub by_element : Reader → Site → Route (Unit {0})
by_element r outer = record {
  goes = λ element. ToEntry r.wire outer None;
  leaves = ToLast r.wire outer;
  refuses = λ c e. RefusesEntry r outer c e × (e ≢ NoMemory);
}

abbrev pub by_key : Reader → Site → Route (List ℕ)
by_key r outer = record {
  goes = λ key. ToEntry r.wire outer (Some key);
  leaves = ToLast r.wire outer;
  refuses = RefusesEntry r outer;
}
