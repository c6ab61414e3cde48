-- What a call answers that goes on in a map, for each way in which it ends, whatever a key is handed out as.
use Rattle.std.proofs.Common.{◌≡◌, ◌≤◌, ℕ, List, length, true, false, Option, String, Some, None, Result, Ok, Err, IfOk, option_map, string_bytes, sym, ◌∙◌}
use Rattle.std.specs.declared.alloc.AllocError.{AllocError}
use Rattle.smithy_declarations.specs.declared.place.Place.{Place}
use Rattle.smithy_declarations.specs.Table.{Table, kind_of, IsMap}
use Rattle.smithy_schema.specs.declared.error.SerdeError.{SerdeError}
use Rattle.smithy_schema.specs.declared.error.SerdeError.TheVariants.{InvalidInput, Failed, NoMemory}
use Rattle.smithy_schema.specs.Containers.{GoesOnInMap}
use Rattle.smithy_schema.specs.Reading.{Cursor, Leaves, Steps, CannotGoOn, failed_at}
use Rattle.smithy_json_grammar.specs.Unescape.{unescaped}
use Rattle.smithy_json_values.specs.Settings.{Settings, without_limits}
use Rattle.smithy_json_values.specs.Standing.{json_relations, json_reader}
use Rattle.smithy_json_values.specs.Private.PlacedTexts.{IsMeantFrom}
use Rattle.smithy_json_codec.proofs.DeserializerLemmas.{goes_ahead}
use Rattle.smithy_wire.proofs.ScalarReads.{conducts, fails_again}

module _ {K : Type 0} (o : Settings) (bytes : K → List ℕ) (old new : Cursor) where
  abbrev GoesOn : Result (Option K) SerdeError → Type 0
  GoesOn result = GoesOnInMap (json_reader o) bytes old new result

  module _ (inside : old.at ≤ length old.input) (stays : new ≡ failed_at old) where
    pub failed_before : old.failed ≡ true → GoesOn (Err Failed)
    failed_before failed = record {
      conduct = fails_again old new stays inside failed;
      narrow = (((λ h. cc), λ h. cc), λ h. cc);
      shallow = λ h. cc;
      unread = λ due. tt;
      ok = λ undue t p map. tt;
      refused = λ fault. absurd fault;
      none_without_limits = λ strict invalid. absurd invalid;
    }

    pub wants_memory : old.failed ≡ false → GoesOn (Err NoMemory)
    wants_memory sound = record {
      conduct = conducts old new NoMemory stays inside sound (λ h. cc) tt;
      narrow = (((λ h. cc), λ h. cc), λ h. cc);
      shallow = λ h. cc;
      unread = λ due. tt;
      ok = λ undue t p map. tt;
      refused = λ fault. absurd fault;
      none_without_limits = λ strict invalid. absurd invalid;
    }

    pub finds_none : old.failed ≡ false
        → (old.due ≡ false → (t : Table) (p : Place) → IsMap (kind_of t p) → CannotGoOn (json_relations o) old t p × CannotGoOn (json_relations (without_limits o)) old t p)
        → GoesOn (Err InvalidInput)
    finds_none sound none = record {
      conduct = conducts old new InvalidInput stays inside sound (λ h. cc) tt;
      narrow = (((λ h. cc), λ h. cc), λ h. cc);
      shallow = λ h. cc;
      unread = λ due. tt;
      ok = λ undue t p map. tt;
      refused = λ fault undue t p map. (none undue t p map).0;
      none_without_limits = λ strict invalid undue t p map. (none undue t p map).1;
    }

    pub value_is_due : old.failed ≡ false → old.due ≡ true → GoesOn (Err InvalidInput)
    value_is_due sound due = finds_none sound (λ undue. absurd (let both : true ≡ false = sym due ∙ undue in cc))

  module _ (sound : old.failed ≡ false) (undue : old.due ≡ false) (at : ℕ) (place : new.at ≡ at) (input : new.input ≡ old.input) (ahead : old.at ≤ at) (within : at ≤ length old.input) where
    pub finds_key : (key : K) → ((t : Table) (p : Place) → IsMap (kind_of t p) → Steps (json_relations o) old new t p (Some (bytes key))) → GoesOn (Ok (Some key))
    finds_key key steps = record {
      conduct = goes_ahead (Option K) old new (Some key) at sound place input ahead within;
      narrow = (((λ h. cc), λ h. cc), λ h. cc);
      shallow = λ h. cc;
      unread = λ due. absurd (let both : true ≡ false = sym due ∙ undue in cc);
      ok = λ undue. steps;
      refused = λ fault. absurd fault;
      none_without_limits = λ strict invalid. absurd invalid;
    }

    pub finds_end : ((t : Table) (p : Place) → IsMap (kind_of t p) → Leaves (json_relations o) old new t p) → GoesOn (Ok None)
    finds_end leaves = record {
      conduct = goes_ahead (Option K) old new None at sound place input ahead within;
      narrow = (((λ h. cc), λ h. cc), λ h. cc);
      shallow = λ h. cc;
      unread = λ due. absurd (let both : true ≡ false = sym due ∙ undue in cc);
      ok = λ undue. leaves;
      refused = λ fault. absurd fault;
      none_without_limits = λ strict invalid. absurd invalid;
    }

-- a text in memory of its own is meant wherever the raw name stands
pub owned_means : {A : Type 0} (at : ℕ) (raw : List ℕ) (found : Result (Option (String A)) AllocError) → IfOk found (λ text. unescaped raw ≡ option_map string_bytes text)
    → IfOk found (IsMeantFrom (λ input s. string_bytes s) (λ input s. Unit {0}) (λ a e s. Unit {0}) at raw)
owned_means {A} at raw (Ok (Some s)) same = λ input a e stands. (same, tt, tt)
owned_means {A} at raw (Ok None) same = λ input a e stands. (same, tt, tt)
owned_means {A} at raw (Err e) same = tt
