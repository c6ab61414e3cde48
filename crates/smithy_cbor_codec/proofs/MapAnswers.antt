-- What a call answers that goes on in a map, one lemma for each way out.
use Rattle.std.proofs.Common.{◌≡◌, ◌≤◌, length, true, false, List, ℕ, Option, Some, Ok, Err, sym, ◌∙◌}
use Rattle.std.specs.Prelude.{MatchOption}
use Rattle.smithy_declarations.specs.declared.place.Place.{Place}
use Rattle.smithy_declarations.specs.Table.{Table, kind_of, IsMap}
use Rattle.smithy_schema.specs.declared.error.SerdeError.{SerdeError}
use Rattle.smithy_schema.specs.declared.error.SerdeError.TheVariants.{InvalidInput}
use Rattle.smithy_schema.specs.Containers.{GoesOnInMap}
use Rattle.smithy_schema.specs.Reading.{Cursor, Relations, Conducts, Steps, Leaves, CannotGoOn, reader, failed_at}
use Rattle.smithy_wire.proofs.ScalarReads.{conducts}

module _ {K : Type 0} {max : ℕ} (w u : Relations) (tells_without_limits : Type 0) (bytes : K → List ℕ) (old : Cursor) (undue : old.due ≡ false) where
  -- a key came, or the map has ended
  pub map_goes_on : (new : Cursor) (next : Option K) → Conducts old new (Ok next)
      → ((t : Table) (p : Place) → IsMap (kind_of t p) → MatchOption next (Leaves w old new t p) (λ key. Steps w old new t p (Some (bytes key))))
      → GoesOnInMap (reader w u tells_without_limits max) bytes old new (Ok next)
  map_goes_on new next conduct ok = record {
    conduct = conduct;
    narrow = (((λ h. cc), λ h. cc), λ h. cc);
    shallow = λ h. cc;
    unread = λ due. absurd (let both : true ≡ false = sym due ∙ undue in cc);
    ok = λ undue. ok;
    refused = λ fault. absurd fault;
    none_without_limits = λ strict fault. absurd fault;
  }

  -- neither comes
  pub map_refuses : (new : Cursor) (error : SerdeError) → error ≡ InvalidInput → new ≡ failed_at old → old.at ≤ length old.input → old.failed ≡ false
      → ((t : Table) (p : Place) → IsMap (kind_of t p) → CannotGoOn w old t p) → ((t : Table) (p : Place) → IsMap (kind_of t p) → CannotGoOn u old t p)
      → GoesOnInMap (reader w u tells_without_limits max) bytes old new (Err error)
  map_refuses new error is stays within sound none none_lifted = rw is (record {
    conduct = conducts old new InvalidInput stays within sound (λ h. cc) tt;
    narrow = (((λ h. cc), λ h. cc), λ h. cc);
    shallow = λ h. cc;
    unread = λ due. tt;
    ok = λ undue t p map. tt;
    refused = λ fault undue. none;
    none_without_limits = λ strict fault undue. none_lifted;
  })
