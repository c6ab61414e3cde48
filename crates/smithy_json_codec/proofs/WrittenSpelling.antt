-- The canonical text of a value that JSON holds spells the value, and what is spelled fits its place and is shallow.
use Rattle.std.proofs.Common.{◌≡◌, ◌≤◌, ℕ, List, Bool, true, false, arith, subst, sym}
use Rattle.smithy_declarations.specs.declared.place.Place.{Place}
use Rattle.smithy_declarations.specs.Table.{Table}
use Rattle.smithy_shapes.specs.Accepted.{IsAccepted}
use Rattle.smithy_shapes.specs.ScalarTest.{scalars_pass}
use Rattle.smithy_shapes.specs.Site.{View}
use Rattle.smithy_declarations.specs.Value.{Value, nesting}
use Rattle.smithy_shapes.specs.Fits.{Fits}
use Rattle.smithy_shapes.proofs.SiteLemmas.{site_at}
use Rattle.smithy_json_codec.specs.Canonical.{json_holds, canonical_json}
use Rattle.smithy_json_codec.specs.WireSettings.{wire_settings}
use Rattle.smithy_json_values.specs.Codec.{strict_settings}
use Rattle.smithy_json_values.specs.Private.TokenLaws.{fit_by_standard}
use Rattle.smithy_json_values.specs.Private.Wire.{json_is_wire}
use Rattle.smithy_json_values.specs.Settings.{Settings, kept, name_of}
use Rattle.smithy_json_values.specs.Spelling.{json_spells}
use Rattle.smithy_json_values.specs.Standing.{json_frames, standard_rules}
use Rattle.smithy_wire.specs.Laws.{stands_fit}
use Rattle.smithy_wire.specs.Written.{TellsApart}
use Rattle.smithy_wire.proofs.AcceptedNames.{named_by_name, named_by_json_name}
use Rattle.smithy_wire.proofs.NestedMeaning.{stands_within_depth}
use Rattle.smithy_wire.proofs.ReadBack.{written_stands}
use Rattle.smithy_json_values.proofs.SpellingLemmas.{spells_stands, stands_whole}
use Rattle.smithy_json_codec.proofs.WrittenBody.{same_text}
use Rattle.smithy_json_codec.proofs.WrittenDocuments.{json_reads_documents, json_writes_documents}
use Rattle.smithy_json_codec.proofs.WrittenLeaves.{json_leaves, json_reads_leaves, json_writes_leaves}
use Rattle.smithy_json_codec.proofs.WrittenPlaces.{json_writes, json_writes_frames}

-- what is spelled is a value of the place
pub spelled_fits : (c : Settings) (t : Table) (p : Place) (bytes : List ℕ) (v : Value) → c.limits ≡ kept → json_spells c t p bytes v → Fits t p v
spelled_fits c t p bytes v keeps h = let s = spells_stands c t p bytes v h in (stands_fit json_frames (standard_rules c) json_is_wire keeps (fit_by_standard c)).fits bytes t p 0 0 v s.0 s.1

-- and nests no deeper than the greatest depth
pub shallow : (c : Settings) (t : Table) (p : Place) (bytes : List ℕ) (v : Value) → c.limits ≡ kept → json_spells c t p bytes v → nesting v ≤ c.max_depth
shallow c t p bytes v keeps h =
    let s = spells_stands c t p bytes v h in
    omega (arith, stands_within_depth json_frames (standard_rules c) keeps (fit_by_standard c) bytes t p 0 0 v s.0 s.1)

-- an accepted table names its members, whichever names are used, and tells nulls from documents
named : (b : Bool) (t : Table) → IsAccepted t → TellsApart (name_of (strict_settings b)) t
named true t accepted = named_by_json_name t accepted
named false t accepted = named_by_name t accepted

-- of an accepted table, where the value nests no deeper than may be read, whether an integer that is read may have a fraction or an
-- exponent or not
pub canonical_spells : (b integral : Bool) (t : Table) (p : Place) (view : View) (v : Value) → IsAccepted t → Fits t p v
    → scalars_pass (json_holds (strict_settings b)) (site_at t p view) v ≡ true → nesting v ≤ 128
    → json_spells (wire_settings b integral) t p (canonical_json (strict_settings b) (site_at t p view) v) v
canonical_spells b integral t p view v accepted fits held deep =
    let c = strict_settings b in
    let read = wire_settings b integral in
    subst (λ bytes. json_spells read t p bytes v) (sym (same_text c t p view v fits))
    (stands_whole read t p _ v
    (written_stands json_writes json_frames (json_leaves c) (standard_rules read) json_writes_frames (json_writes_leaves c) (json_reads_leaves b integral) (λ held. (json_writes_documents c, json_reads_documents read)) t p view v (named b t accepted) fits held deep tt))
