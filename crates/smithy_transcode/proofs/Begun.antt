-- A reader that begins a body, and what it reads there, as what the whole input spells.
use Rattle.std.proofs.Common.{◌≡◌, ◌≤◌, ◌<◌, ℕ, List, Bool, true, false, [], ◌∷◌, length, inl, inr, Result, Ok, Err, IsErrOf, refl, sym, ◌∙◌, ap, subst, arith}
use Rattle.smithy_schema.specs.declared.error.SerdeError.{SerdeError}
use Rattle.smithy_schema.specs.declared.error.SerdeError.TheVariants.{InvalidInput, TypeMismatch, TooDeep, TooWide, NotCarried, Unsupported, Unwritable, Missing, Failed, NoMemory}
use Rattle.smithy_declarations.specs.declared.place.Place.{Place}
use Rattle.smithy_shapes.specs.declared.schema.Schema.{Schema}
use Rattle.smithy_declarations.specs.Table.{Table, kind_of, shape_place, IsStructure}
use Rattle.smithy_shapes.specs.Site.{Site, site_of, shape_site}
use Rattle.smithy_declarations.specs.Value.{Value, structure, no_member_values}
use Rattle.smithy_schema.specs.Errors.{IsRefused}
use Rattle.smithy_schema.specs.Reading.{Cursor, depth, Relations, Reads, StandsNot, ReachesDepth, EndsTooDeep, ExceedsInside, UncarriedInside, IsCounted}
use Rattle.smithy_schema.proofs.CountLemmas.{starts_counted, reaches_openers}
use Rattle.smithy_wire.specs.Walking.{fresh_cursor}
use Rattle.smithy_json_values.specs.Settings.{Settings, keep_limits, without_limits}
use Rattle.smithy_json_codec.specs.WireSettings.{wire_settings}
use Rattle.smithy_json_values.specs.Standing.{json_relations}
use Rattle.smithy_cbor_body.specs.Codec.{strict_settings as strict_cbor}
use Rattle.smithy_cbor_values.specs.Settings.{Settings as CborSettings, keep_limits as keep_cbor_limits, without_limits as without_cbor_limits}
use Rattle.smithy_cbor_values.specs.Standing.{cbor_relations}
use Rattle.smithy_transcode.specs.Wires.{Wire, json, cbor, query, IsReadable}
use Rattle.smithy_transcode.specs.Causes.{openers, MayNest, IsTooDeep, IsWide, IsUncarried}
use Rattle.smithy_transcode.specs.Spelling.{Spells}
use Rattle.smithy_transcode.specs.Transcoding.{SpellNothing, SpellNothingWithoutLimits}
use Rattle.smithy_value.specs.ReadValue.{ReadsValue}
use Rattle.smithy_transcode.specs.Private.ReadWhole.{ReadsWhole}
use Rattle.smithy_transcode.proofs.Mapped.{mapped_ok}
use Rattle.smithy_transcode.proofs.WideBodies.{inside_is_wide, inside_is_uncarried}
use Rattle.smithy_transcode.proofs.Spelled.{relations_of, lifted_of, StandsFirst, stands_is_spelled, spelled_stands, spelled_stands_without_limits, empty_is_spelled, openers_are}

-- a reader with these relations stands at the start of a body of the root, whose schema is at hand
pub record Begins (w : Wire) (r l : Relations) (max : ℕ) (old : Cursor) (s : Schema) (t : Table) (root : ℕ) (i : List ℕ) : Type 1 where
  pub keeps : r ≡ relations_of w
  pub lifts : l ≡ lifted_of w
  pub greatest : max ≡ 128
  pub fresh : old ≡ fresh_cursor i
  pub site : site_of s ≡ shape_site t root
  pub kind : IsStructure (kind_of t (shape_place root))
  pub read : IsReadable w

pub json_begins : (w : Wire) (b n : Bool) (o : Settings) (old : Cursor) (s : Schema) (t : Table) (root : ℕ) (i : List ℕ) → w ≡ json b n → o ≡ wire_settings b n
    → old ≡ fresh_cursor i → site_of s ≡ shape_site t root → IsStructure (kind_of t (shape_place root))
    → Begins w (json_relations (keep_limits o)) (json_relations (without_limits o)) o.max_depth old s t root i
json_begins w b n o old s t root i wire same fresh site kind = record {
  keeps = ap (λ c. json_relations (keep_limits c)) same ∙ sym (ap relations_of wire);
  lifts = ap (λ c. json_relations (without_limits c)) same ∙ sym (ap lifted_of wire);
  greatest = ap (λ (c : Settings). c.max_depth) same;
  fresh = fresh;
  site = site;
  kind = kind;
  read = subst IsReadable (sym wire) tt;
}

pub cbor_begins : (w : Wire) (told : Bool) (o : CborSettings) (old : Cursor) (s : Schema) (t : Table) (root : ℕ) (i : List ℕ) → w ≡ cbor told → o ≡ strict_cbor
    → old ≡ fresh_cursor i → site_of s ≡ shape_site t root → IsStructure (kind_of t (shape_place root))
    → Begins w (cbor_relations (keep_cbor_limits o)) (cbor_relations (without_cbor_limits o)) o.max_depth old s t root i
cbor_begins w told o old s t root i wire same fresh site kind = record {
  keeps = ap (λ c. cbor_relations (keep_cbor_limits c)) same ∙ sym (ap relations_of wire);
  lifts = ap (λ c. cbor_relations (without_cbor_limits c)) same ∙ sym (ap lifted_of wire);
  greatest = ap (λ (c : CborSettings). c.max_depth) same;
  fresh = fresh;
  site = site;
  kind = kind;
  read = subst IsReadable (sym wire) tt;
}

-- a reader of CBOR that fails for its depth has entered so many places of the table
nests : (w : Wire) (t : Table) (root max : ℕ) (old new : Cursor) → IsReadable w → max ≡ 128 → depth old ≡ 0 → EndsTooDeep (relations_of w) max old new t (shape_place root) → MayNest w t root
nests (json b n) t root max old new read greatest start ends = tt
nests (cbor told) t root max old new read greatest start (inl limited) = absurd (let both : false ≡ true = limited in cc)
nests (cbor told) t root max old new read greatest start (inr (q, count, gone, inside, full, kind)) = (q, count, omega (arith, gone, full, start, greatest), inside, kind)
nests (query action version) t root max old new read greatest start ends = absurd read

module _ {w : Wire} {r l : Relations} {max : ℕ} {old : Cursor} {s : Schema} {t : Table} {root : ℕ} {i : List ℕ} (begins : Begins w r l max old s t root i) where
  -- what holds of the relations and the schema at hand holds of those of the wire and of the root
  at_root : (P : Relations → Table → Place → Type 0) → P r s.shapes.now s.place → P (relations_of w) t (shape_place root)
  at_root P h = subst (λ z. P z t (shape_place root)) begins.keeps (subst (λ (x : Site). P r x.table x.place) begins.site h)

  -- the input is the whole one
  whole_input : (new : Cursor) → new.input ≡ old.input → new.input ≡ i
  whole_input new unmoved = unmoved ∙ ap (λ (c : Cursor). c.input) begins.fresh

  stood : (z : Relations) → (v : Value) → StandsNot z old s.shapes.now s.place → StandsFirst z t root i v → ⊥
  stood z v none h =
      let here : StandsNot z old t (shape_place root) = subst (λ (x : Site). StandsNot z old x.table x.place) begins.site none in
      let first : StandsNot z (fresh_cursor i) t (shape_place root) = subst (λ c. StandsNot z c t (shape_place root)) begins.fresh here in
      first v h.0 h.1

  -- nothing failed before
  pub had_not_failed : old.failed ≡ true → ⊥
  had_not_failed failed = let both : true ≡ false = sym failed ∙ ap (λ (c : Cursor). c.failed) begins.fresh in cc

  -- what was read is spelled
  pub read_is_spelled : (new : Cursor) (v : Value) → Reads r old new s.shapes.now s.place v → Spells w t root i v
  read_is_spelled new v h =
      let here : Reads r old new t (shape_place root) v = subst (λ (x : Site). Reads r old new x.table x.place v) begins.site h in
      let first : Reads r (fresh_cursor i) new t (shape_place root) v = subst (λ c. Reads r c new t (shape_place root) v) begins.fresh here in
      let kept : Reads (relations_of w) (fresh_cursor i) new t (shape_place root) v = subst (λ z. Reads z (fresh_cursor i) new t (shape_place root) v) begins.keeps first in
      stands_is_spelled w t root i v begins.read begins.kind (new.at, kept.stands)

  -- where nothing stands, nothing is spelled
  pub unread_spells_nothing : StandsNot r old s.shapes.now s.place → SpellNothing w t root i
  unread_spells_nothing none v h =
      let kept : StandsNot (relations_of w) old s.shapes.now s.place = subst (λ z. StandsNot z old s.shapes.now s.place) begins.keeps none in
      stood (relations_of w) v kept (spelled_stands w t root i v h)

  -- and nothing of any depth, where nothing stands with the limits lifted
  pub unread_spells_nothing_without_limits : StandsNot l old s.shapes.now s.place → SpellNothingWithoutLimits w t root i
  unread_spells_nothing_without_limits none v h =
      let lifted : StandsNot (lifted_of w) old s.shapes.now s.place = subst (λ z. StandsNot z old s.shapes.now s.place) begins.lifts none in
      stood (lifted_of w) v lifted (spelled_stands_without_limits w t root i v h)

  -- an input that spells nothing isn't empty
  spells_nothing_is_some : (j : List ℕ) → i ≡ j → SpellNothing w t root i → 0 < length j
  spells_nothing_is_some [] is nothing =
      absurd (subst (λ j. SpellNothing w t root j) is nothing (structure no_member_values) (empty_is_spelled w t root begins.read begins.kind))
  spells_nothing_is_some (b ∷ j) is nothing = omega arith

  -- and where the greatest depth is reached, as many containers are open at once in the whole input
  opens_as_many : (new : Cursor) → StandsNot r old s.shapes.now s.place → new.input ≡ old.input → (IsCounted r old → IsCounted r new)
      → ReachesDepth r max new → 128 ≤ openers w i
  opens_as_many new none unmoved counted reaches =
      let whole = whole_input new unmoved in
      let start : IsCounted r old = starts_counted r old (ap (λ (c : Cursor). c.at) begins.fresh) (ap depth begins.fresh) in
      let some : 0 < length new.input = subst (λ j. 0 < length j) (sym whole) (spells_nothing_is_some i refl (unread_spells_nothing none)) in
      let opened : max ≤ r.openers new.input = reaches_openers r max new some (counted start) reaches in
      let here : max ≤ r.openers i = subst (λ j. max ≤ r.openers j) whole opened in
      let kept : max ≤ (relations_of w).openers i = subst (λ (z : Relations). max ≤ z.openers i) begins.keeps here in
      let bytes : max ≤ openers w i = subst (λ n. max ≤ n) (openers_are w i begins.read) kept in
      subst (λ n. n ≤ openers w i) begins.greatest bytes

  deep_opens : {A : Type 0} (answer : Result A SerdeError) (new : Cursor) → (IsRefused answer → StandsNot r old s.shapes.now s.place) → new.input ≡ old.input
      → (IsCounted r old → IsCounted r new) → (IsErrOf answer TooDeep → ReachesDepth r max new) → IsErrOf answer TooDeep → 128 ≤ openers w i
  deep_opens (Ok x) new refused unmoved counted deep is = absurd (let both : Ok x ≡ Err TooDeep = is in cc)
  deep_opens (Err TooDeep) new refused unmoved counted deep is = opens_as_many new (refused tt) unmoved counted (deep is)
  deep_opens (Err TooWide) new refused unmoved counted deep is = absurd (let both : Err TooWide ≡ Err TooDeep = is in cc)
  deep_opens (Err NotCarried) new refused unmoved counted deep is = absurd (let both : Err NotCarried ≡ Err TooDeep = is in cc)
  deep_opens (Err InvalidInput) new refused unmoved counted deep is = absurd (let both : Err InvalidInput ≡ Err TooDeep = is in cc)
  deep_opens (Err TypeMismatch) new refused unmoved counted deep is = absurd (let both : Err TypeMismatch ≡ Err TooDeep = is in cc)
  deep_opens (Err Unsupported) new refused unmoved counted deep is = absurd (let both : Err Unsupported ≡ Err TooDeep = is in cc)
  deep_opens (Err Unwritable) new refused unmoved counted deep is = absurd (let both : Err Unwritable ≡ Err TooDeep = is in cc)
  deep_opens (Err Missing) new refused unmoved counted deep is = absurd (let both : Err Missing ≡ Err TooDeep = is in cc)
  deep_opens (Err Failed) new refused unmoved counted deep is = absurd (let both : Err Failed ≡ Err TooDeep = is in cc)
  deep_opens (Err NoMemory) new refused unmoved counted deep is = absurd (let both : Err NoMemory ≡ Err TooDeep = is in cc)

  -- and by the table as many may be open, where the wire limits nothing else
  pub is_too_deep : {A : Type 0} (answer : Result A SerdeError) (new : Cursor) → (IsRefused answer → StandsNot r old s.shapes.now s.place) → new.input ≡ old.input
      → (IsCounted r old → IsCounted r new) → (IsErrOf answer TooDeep → ReachesDepth r max new) → (IsErrOf answer TooDeep → EndsTooDeep r max old new s.shapes.now s.place)
      → IsErrOf answer TooDeep → IsTooDeep w t root i
  is_too_deep answer new refused unmoved counted deep ends is =
      let there = at_root (λ z x p. EndsTooDeep z max old new x p) (ends is) in
      (deep_opens answer new refused unmoved counted deep is, nests w t root max old new begins.read begins.greatest (ap depth begins.fresh) there)

  -- where a number left its limits, the input has one that does
  pub exceeds_is_wide : {A : Type 0} (answer : Result A SerdeError) (new : Cursor) → new.input ≡ old.input → (IsErrOf answer TooWide → ExceedsInside r old new s.shapes.now s.place)
      → IsErrOf answer TooWide → IsWide w t i
  exceeds_is_wide answer new unmoved wide is =
      let inside = at_root (λ z x p. ExceedsInside z old new x p) (wide is) in
      subst (λ j. IsWide w t j) (whole_input new unmoved) (inside_is_wide w t root old new begins.read begins.kind inside)

  -- and where one wasn't carried, the input has one that isn't
  pub uncarried_is_told : {A : Type 0} (answer : Result A SerdeError) (new : Cursor) → new.input ≡ old.input → (IsErrOf answer NotCarried → UncarriedInside r old new s.shapes.now s.place)
      → IsErrOf answer NotCarried → IsUncarried w t i
  uncarried_is_told answer new unmoved uncarried is =
      let inside = at_root (λ z x p. UncarriedInside z old new x p) (uncarried is) in
      subst (λ j. IsUncarried w t j) (whole_input new unmoved) (inside_is_uncarried w t root old new begins.read begins.kind inside)

  -- and so what a reader says there of its answer is said of the whole input
  pub whole_read : {A : Type 0} (tells : Type 0) (view : A → Value) (new : Cursor) (answer : Result A SerdeError) → tells → ReadsValue r l tells max old new (site_of s) view answer
      → ReadsWhole view w t root i answer
  whole_read tells view new answer told reads = record {
    ok = mapped_ok answer _ _ (λ v h. read_is_spelled new (view v) h) reads.ok;
    refused = λ refused. unread_spells_nothing (reads.refused refused);
    none_without_limits = λ invalid. unread_spells_nothing_without_limits (reads.none_without_limits told invalid);
    deep = is_too_deep answer new reads.refused reads.input (reads.counted told) reads.deep reads.nested;
    wide = exceeds_is_wide answer new reads.input reads.wide;
    uncarried = uncarried_is_told answer new reads.input reads.uncarried;
    sound = λ is. had_not_failed (reads.failed.0 is);
    reading = reads.reading;
  }

-- a form is not read
pub form_unread : {A : Type 0} (view : A → Value) (w : Wire) (action version : List ℕ) (t : Table) (root : ℕ) (i : List ℕ) → w ≡ query action version
    → ReadsWhole view w t root i (Err InvalidInput)
form_unread view w action version t root i is =
    rw is (record {
      ok = tt;
      refused = λ refused v h. h;
      none_without_limits = λ invalid v h. h;
      deep = λ other. absurd (let both : Err InvalidInput ≡ Err TooDeep = other in cc);
      wide = λ other. absurd (let both : Err InvalidInput ≡ Err TooWide = other in cc);
      uncarried = λ other. absurd (let both : Err InvalidInput ≡ Err NotCarried = other in cc);
      sound = λ other. absurd (let both : Err InvalidInput ≡ Err Failed = other in cc);
      reading = tt;
    })
