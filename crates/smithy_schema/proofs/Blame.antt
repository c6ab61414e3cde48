-- Of which relations a refusal speaks: of those of the wire, or where a body is read whole of those with the limits lifted.
use Rattle.std.proofs.Common.{◌≡◌, true, false, Result, Ok, Err, OnOk}
use Rattle.smithy_schema.specs.declared.error.SerdeError.{SerdeError}
use Rattle.smithy_declarations.specs.Table.{kind_of, IsContainer}
use Rattle.smithy_shapes.specs.Site.{Site}
use Rattle.smithy_schema.specs.Errors.{IsFault, FindsNone}
use Rattle.smithy_schema.specs.Reading.{Cursor, Relations, depth, IsLawful, IsBelow, Contains, StandsNot, OpensNot, CannotGoOn, Reader}
use Rattle.smithy_schema.specs.Consuming.{Cleared, RefusesOpening, RefusesEntry, RefusesMember}
use Rattle.smithy_schema.proofs.ReadContainers.{itself}

-- what a refusal with a blamed error says of the relations u
pub record Speaks (r : Reader) (u : Relations) (Blames : SerdeError → Type 0) (outer : Site) : Type 0 where
  pub laws : IsLawful u
  pub below : IsBelow r.wire u
  pub opening : (c : Cursor) (e : SerdeError) → RefusesOpening r outer c e → Blames e → c.due ≡ true → u.allows (depth c) → OpensNot u c outer.table outer.place
  pub entry : (c : Cursor) (e : SerdeError) → RefusesEntry r outer c e → Blames e → c.due ≡ false → CannotGoOn u c outer.table outer.place
  pub member : (c : Cursor) (e : SerdeError) → RefusesMember r outer c e → Blames e → (from : Cursor) → Cleared u c from → CannotGoOn u from outer.table outer.place

-- each fault speaks of the wire's own
pub of_wire : (r : Reader) (outer : Site) → IsLawful r.wire → Speaks r r.wire IsFault outer
of_wire r outer laws = record {
  laws = laws;
  below = itself r.wire;
  opening = λ c e why fault due allowed. why.refused fault due allowed;
  entry = λ c e why fault none. why.refused fault none;
  member = λ c e why fault from cleared. why.refused fault from cleared;
}

-- no such value at all
abbrev pub IsInvalidBody : Reader → SerdeError → Type 0
IsInvalidBody r e = r.tells_without_limits × FindsNone e

-- and that of the ones without limits
pub of_lifted : (r : Reader) (outer : Site) → IsLawful r.lifted → IsBelow r.wire r.lifted → Speaks r r.lifted (IsInvalidBody r) outer
of_lifted r outer laws below = record {
  laws = laws;
  below = below;
  opening = λ c e why blame due allowed. why.none_without_limits blame.0 blame.1 due;
  entry = λ c e why blame none. why.none_without_limits blame.0 blame.1 none;
  member = λ c e why blame from cleared. why.none_without_limits blame.0 blame.1 from cleared;
}

-- no container stands where none opens
pub not_opened : (r : Reader) (u : Relations) (Blames : SerdeError → Type 0) (outer : Site) → Speaks r u Blames outer → IsContainer (kind_of outer.table outer.place)
    → (c : Cursor) (e : SerdeError) → RefusesOpening r outer c e → Blames e → c.due ≡ true → StandsNot u c outer.table outer.place
not_opened r u Blames outer speaks kind c e why blame due = λ v end stands.
    let inside : Contains u c.input outer.table outer.place (depth c) c.at v end = speaks.laws.unfolded c.input outer.table outer.place (depth c) c.at v end kind stands in
    speaks.opening c e why blame due inside.allowed inside.inside inside.mark inside.opens

pub on_ok : {A : Type 0} (P Q : Type 0) (r : Result A SerdeError) → (P → Q) → OnOk r P → OnOk r Q
on_ok P Q (Ok x) f h = f h
on_ok P Q (Err e) f h = tt
