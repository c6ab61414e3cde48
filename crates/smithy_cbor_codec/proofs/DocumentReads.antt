-- A read of a document answers that none is carried wherever something stands, and refuses the input elsewhere.
use Rattle.std.proofs.Common.{◌≡◌, ◌≤◌, ℕ, List, length, true, false, Some, refl, subst}
use Rattle.std.specs.Prelude.{Err}
use Rattle.smithy_schema.specs.declared.error.SerdeError.{SerdeError}
use Rattle.smithy_schema.specs.declared.error.SerdeError.TheVariants.{InvalidInput, NotCarried, NoMemory}
use Rattle.smithy_declarations.specs.declared.place.Place.{Place}
use Rattle.smithy_declarations.specs.Table.{Table, document, document_place, kind_of}
use Rattle.smithy_shapes.specs.Site.{Site}
use Rattle.smithy_declarations.specs.Value.{Value}
use Rattle.smithy_schema.specs.Reading.{Cursor, depth, StandsNot, ReadsDocument, reader, failed_at}
use Rattle.cbor_item.specs.Item.{Item}
use Rattle.smithy_cbor_values.specs.Settings.{Settings, kept, without_limits}
use Rattle.smithy_cbor_values.specs.Meaning.{rules_of}
use Rattle.smithy_cbor_values.specs.Standing.{end_depth, cbor_frames, frames_of, cbor_relations}
use Rattle.smithy_cbor_values.specs.Private.NodePlaces.{lies_item, lies_full, all_there}
use Rattle.smithy_cbor_values.specs.Private.Skipping.{SkipsTo}
use Rattle.smithy_wire.specs.Documents.{document_meaning}
use Rattle.smithy_wire.specs.Node.{Node, null_node, leaf, container, missing}
use Rattle.smithy_wire.specs.Frames.{Lies}
use Rattle.smithy_wire.specs.Readers.{stands_node, none_carried, none_stands}
use Rattle.smithy_wire.specs.Wire.{no_value}
use Rattle.smithy_wire.specs.Lemmas.Nodes.{sort_of}
use Rattle.smithy_wire.proofs.DocumentReads.{refuses, runs_out, carries_not}

module _ (o : Settings) (strict : o.enforce_strictness ≡ true) (d : ℕ) where
  -- what means anything isn't missing
  is_there : (y : Node Item) (v : Value) → document_meaning (rules_of o) d y ≡ Some v → sort_of y ≡ no_value → ⊥
  is_there null_node v h k = cc
  is_there (leaf x) v h k = cc
  is_there (container f xs) v h k = cc
  is_there missing v h k = cc

  -- where a document would stand lies an item
  pub document_skips : (i : List ℕ) (t : Table) (p : Place) (a : ℕ) (v : Value) (e : ℕ) → kind_of t p ≡ document → (cbor_relations o).stands i t p d a v e → SkipsTo i a (end_depth o.enforce_strictness d) e
  document_skips i t p a v e kind stands =
      let y = stands_node (frames_of o) (rules_of o) i t p kind d a v e stands in
      let lies : Lies (cbor_frames true) i d y.0 a e = subst (λ s. Lies (cbor_frames s) i d y.0 a e) strict y.1 in
      let some = lies_full d y.0 i a e lies (is_there y.0 v y.2) in
      let x = lies_item o.enforce_strictness d y.0 i a e (all_there d y.0 i a e some lies) y.1 in
      record { found = x.0; stands = x.1; follows = x.2 }

module _ (o : Settings) (keeps : o.limits ≡ kept) (max : ℕ) (old new : Cursor) (site : Site) (stays : new ≡ failed_at old) (within : old.at ≤ length old.input) (sound : old.failed ≡ false) (due : old.due ≡ true) where
  abbrev Says : SerdeError → Type 0
  Says e = ReadsDocument (reader (cbor_relations o) (cbor_relations (without_limits o)) (o.enforce_strictness ≡ true) max) old new site (Err e)

  abbrev at : Place
  at = document_place site.place.time

  -- none is carried, and where nothing lies none would be
  no_document : StandsNot (cbor_relations o) old site.table at
  no_document v e stands = none_stands (frames_of o) (rules_of o) old.input site.table at refl (depth old) refl keeps old.at v e stands

  -- something lies there
  pub document_uncarried : Says NotCarried
  document_uncarried =
      carries_not (cbor_relations o) (cbor_relations (without_limits o)) (o.enforce_strictness ≡ true) max site old new stays within sound due
      (old.at, none_carried (frames_of o) (rules_of o) old.input site.table at refl (depth old) refl old.at old.at) no_document

  -- nothing does
  pub no_document_lies : (held : ℕ) → held ≡ end_depth o.enforce_strictness (depth old) → ((f : ℕ) → SkipsTo old.input old.at held f → ⊥) → Says InvalidInput
  no_document_lies held same none =
      let nothing : (f : ℕ) → SkipsTo old.input old.at (end_depth o.enforce_strictness (depth old)) f → ⊥ = subst (λ d. (f : ℕ) → SkipsTo old.input old.at d f → ⊥) same none in
      let says = refuses (cbor_relations o) (cbor_relations o) (o.enforce_strictness ≡ true) max site old new stays within sound (λ due. (no_document, no_document)) in
      record {
        conduct = says.conduct;
        deep = says.deep;
        limited = says.limited;
        narrow = says.narrow;
        no_mismatch = says.no_mismatch;
        uncarried = says.uncarried;
        undue = says.undue;
        ok = says.ok;
        variants = says.variants;
        refused = says.refused;
        none_without_limits = λ strict fault due v f stands. nothing f (document_skips (without_limits o) strict (depth old) old.input site.table at old.at v f refl stands);
      }

  -- memory is wanting
  pub document_wants_memory : Says NoMemory
  document_wants_memory = runs_out (cbor_relations o) (cbor_relations (without_limits o)) (o.enforce_strictness ≡ true) max site old new stays within sound
