-- What a call answers that goes on in a list, one lemma for each way out.
use Rattle.std.proofs.Common.{◌≡◌, ◌≤◌, ℕ, length, Bool, true, false, None, Ok, Err, sym, ◌∙◌}
use Rattle.std.specs.Prelude.{MatchBool}
use Rattle.smithy_declarations.specs.declared.place.Place.{Place}
use Rattle.smithy_declarations.specs.Table.{Table, kind_of, IsList}
use Rattle.smithy_schema.specs.declared.error.SerdeError.{SerdeError}
use Rattle.smithy_schema.specs.declared.error.SerdeError.TheVariants.{InvalidInput}
use Rattle.smithy_schema.specs.Containers.{GoesOnInList}
use Rattle.smithy_schema.specs.Reading.{Cursor, Relations, Steps, Leaves, CannotGoOn, reader, failed_at}
use Rattle.smithy_wire.proofs.ScalarReads.{conducts, goes_on}

module _ {max : ℕ} (w u : Relations) (tells_without_limits : Type 0) (old : Cursor) (sound : old.failed ≡ false) where
  -- an element came, or the list has ended
  pub list_goes_on : (new : Cursor) (at : ℕ) (more : Bool) → old.due ≡ false → new.at ≡ at → new.input ≡ old.input → old.at ≤ at → at ≤ length old.input
      → ((t : Table) (p : Place) → IsList (kind_of t p) → MatchBool more (Steps w old new t p None) (Leaves w old new t p))
      → GoesOnInList (reader w u tells_without_limits max) old new (Ok more)
  list_goes_on new at more undue place input ahead within ok = record {
    conduct = goes_on old new more sound (rw place ahead) (rw (place, input) within);
    narrow = (((λ h. cc), λ h. cc), λ h. cc);
    memory = λ h. cc;
    shallow = λ h. cc;
    unread = λ due. absurd (let both : true ≡ false = sym due ∙ undue in cc);
    ok = λ undue. ok;
    refused = λ fault. absurd fault;
    none_without_limits = λ strict fault. absurd fault;
  }

  -- neither comes, or an element was left unread
  pub list_refuses : (new : Cursor) (error : SerdeError) → error ≡ InvalidInput → new ≡ failed_at old → old.at ≤ length old.input
      → (old.due ≡ false → (t : Table) (p : Place) → IsList (kind_of t p) → CannotGoOn w old t p × CannotGoOn u old t p)
      → GoesOnInList (reader w u tells_without_limits max) old new (Err error)
  list_refuses new error is stays within none = rw is (record {
    conduct = conducts old new InvalidInput stays within sound (λ h. cc) tt;
    narrow = (((λ h. cc), λ h. cc), λ h. cc);
    memory = λ h. cc;
    shallow = λ h. cc;
    unread = λ due. tt;
    ok = λ undue t p list. tt;
    refused = λ fault undue t p list. (none undue t p list).0;
    none_without_limits = λ strict fault undue t p list. (none undue t p list).1;
  })
