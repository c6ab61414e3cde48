-- What a read of a type answers that keeps a structure as fields.
use Rattle.std.proofs.Common.{◌≡◌, true, false, List, Option, Result, Ok, Err, OnOk, refl, sym, ◌∙◌}
use Rattle.smithy_schema.specs.declared.error.SerdeError.{SerdeError}
use Rattle.smithy_declarations.specs.Table.{IsStructure}
use Rattle.smithy_declarations.specs.Value.{Value, no_member_values}
use Rattle.smithy_shapes.specs.Site.{Site, kind_at}
use Rattle.smithy_schema.specs.Reading.{Cursor, ContainerKind, in_structure, IsLawful, Reader}
use Rattle.smithy_schema.specs.Nulls.{DropsNulls}
use Rattle.smithy_schema.specs.Consuming.{Route, Call, Consumes, unopened, entered, IsTaken, by_member}
use Rattle.smithy_schema.specs.Fields.{TakesField, members_at, structure_with}
use Rattle.smithy_schema.specs.Typed.{ReadsDueAs}
use Rattle.smithy_schema.proofs.ReadFields.{members_read, members_refused}
use Rattle.smithy_schema.proofs.AnsweredErrors.{fields_fail, same_success, same_failure}

on_ok : {P : Type 0} (result : Result (Unit {0}) SerdeError) → P → OnOk result P
on_ok (Ok done) holds = holds
on_ok (Err e) holds = tt

-- what a call with a consumer reads was due
pub was_due : {K C : Type 0} {r : Reader} {site : Site} {within : ContainerKind} {route : Route K} {call : Call K C} {s t : C} {c g : Cursor} (result : Result (Unit {0}) SerdeError)
    → Consumes r site within route call s c result t g → OnOk result (c.due ≡ true)
was_due result (unopened why) = tt
was_due result (entered sound due enters along) = on_ok result due

module _ {C : Type 0} (fields : C → List (Option Value)) (r : Reader) (outer : Site) (laws : IsLawful r.wire) (drops : DropsNulls r.wire) (is_structure : IsStructure (kind_at outer)) (s t : C) (c g : Cursor) where
  -- the structure was read
  pub structure_reads : members_at 0 (fields s) ≡ no_member_values → Consumes r outer in_structure (by_member r outer) (TakesField fields r) s c (Ok tt) t g → IsTaken c g
      → ReadsDueAs r.wire c g outer (λ x. structure_with (fields x)) (Ok t)
  structure_reads fresh consumes taken =
      record {
        ok = members_read fields r outer laws drops is_structure s t c g (Ok tt) fresh consumes taken;
        refused = λ fault. absurd fault;
        undue = λ none. let due : c.due ≡ true = was_due (Ok tt) consumes in let clash : true ≡ false = sym due ∙ none in cc;
        fails = same_success tt t c g (fields_fail fields r outer s t c g (Ok tt) consumes tt);
      }

  -- it was refused
  pub structure_fails : (e : SerdeError) → Consumes r outer in_structure (by_member r outer) (TakesField fields r) s c (Err e) t g → g.failed ≡ true
      → ReadsDueAs {A = C} r.wire c g outer (λ x. structure_with (fields x)) (Err e)
  structure_fails e consumes broken = record {
    ok = tt;
    refused = members_refused fields r outer laws drops is_structure s t c g (Err e) consumes e refl;
    undue = λ none. refl;
    fails = same_failure c g e (fields_fail fields r outer s t c g (Err e) consumes broken);
  }
