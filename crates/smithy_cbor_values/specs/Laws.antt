-- The laws of reading, for CBOR.
use Rattle.std.specs.Prelude.{◌≡◌, Bool, true, false}
use Rattle.smithy_schema.specs.Nulls.{DropsNulls}
use Rattle.smithy_schema.specs.Reading.{IsLawful, StandsFit, CountsOpeners, IsBelow}
use Rattle.smithy_cbor_values.specs.Settings.{Settings, kept, without_limits}
use Rattle.smithy_cbor_values.specs.Meaning.{rules_of}
use Rattle.smithy_cbor_values.specs.Standing.{cbor_frames, frames_of, cbor_relations}
use Rattle.smithy_cbor_values.specs.Private.Wire.{wire_of, cbor_bounds_openers}
use Rattle.smithy_cbor_values.specs.Private.Fits.{text_is_utf8, says_fits}
use Rattle.smithy_declarations.specs.Value.{null_element}
use Rattle.smithy_cbor_values.specs.Scalar.{says}
use Rattle.smithy_wire.specs.Wire.{RulesFit}
use Rattle.smithy_wire.proofs.Bounds.{settled_means}
use Rattle.smithy_wire.specs.Laws as wire

-- the relations obey their laws, whatever the settings
pub lawful : (c : Settings) → IsLawful (cbor_relations c)
lawful c = wire.lawful (frames_of c) (rules_of c) (wire_of c)

-- what scalars mean is of their kind, no document is carried, and keys are texts
pub rules_fit : (strict : Bool) (c : Settings) → RulesFit (cbor_frames strict) (rules_of c)
rules_fit strict c = record {
  says_fits = λ i d x a e lies t p s v kind keeps means.
      says_fits x t p s v kind (settled_means c.limits null_element (says s p.time x) v keeps means);
  document_fits = λ i d x a e lies says v carried means. cc;
  key_fits = λ i b m key c n text entry. text_is_utf8 key text;
}

-- what stands with the limits kept is a value of its place, with bytes for all values inside of it
pub fit : (c : Settings) → c.limits ≡ kept → StandsFit (cbor_relations c)
fit c keeps = wire.stands_fit (frames_of c) (rules_of c) (wire_of c) keeps (rules_fit c.enforce_strictness c)

-- nulls are dropped where the settings hand none on
pub drops_nulls : (c : Settings) → c.dispatch_null_members ≡ false → DropsNulls (cbor_relations c)
drops_nulls c off = wire.drops_nulls (frames_of c) (rules_of c) λ place keeps. let no : false ≡ true = rw off at keeps in cc

-- containers are counted, where no structure is missing behind other bytes
pub counts : (c : Settings) → c.enforce_strictness ≡ true → CountsOpeners (cbor_relations c)
counts c strict = wire.counts_openers (frames_of c) (rules_of c) (cbor_bounds_openers c.enforce_strictness strict)

-- what holds within the limits holds without them
pub above : (c : Settings) → IsBelow (cbor_relations c) (cbor_relations (without_limits c))
above c = wire.lifted_is_above (frames_of c) (rules_of c)
