-- That a fresh serializer of a wire takes a value of the root, and has then its body.
use Rattle.std.proofs.Common.{◌≡◌, ◌<◌, ◌&&◌, List, [], ◌++◌, All, Bool, true, false, not, Some, None, Result, Ok, Err, IfOk, ℕ, if◌then◌else◌, refl, sym, ◌∙◌, ap, subst}
use Rattle.std.specs.declared.vec.Vec.{Vec}
use Rattle.std.specs.declared.alloc.Global.{Global}
use Rattle.smithy_schema.specs.declared.error.SerdeError.{SerdeError}
use Rattle.smithy_shapes.specs.declared.schema.Schema.{Schema}
use Rattle.smithy_declarations.specs.declared.place.Place.{Place}
use Rattle.smithy_declarations.specs.declared.shape_type.TimestampFormat.TheVariants.{EpochSeconds, DateTime}
use Rattle.smithy_shapes.specs.Accepted.{IsAccepted}
use Rattle.smithy_shapes.specs.Fits.{Fits}
use Rattle.smithy_shapes.specs.Lemmas.Kinds.{no_list_and_structure, map_kind, union_kind}
use Rattle.smithy_shapes.proofs.ScalarLemmas.{scalar_kind}
use Rattle.smithy_shapes.proofs.TimeFormLemmas.{held_writes, more_pass}
use Rattle.smithy_shapes.specs.ScalarTest.{scalars_pass}
use Rattle.smithy_declarations.specs.TimeForms.{form_or}
use Rattle.smithy_declarations.specs.Table.{Table, IsStructure, kind_of, shape_place}
use Rattle.smithy_shapes.specs.Site.{Site, View, whole_view, site_of, shape_site}
use Rattle.smithy_declarations.specs.Value.{Value, scalar_value, list, map, structure, union, null_element, document_value, MemberValues}
use Rattle.smithy_schema.specs.Writing.{write, events}
use Rattle.smithy_wire.specs.Lemmas.Places.{document_kind}
use Rattle.smithy_json_codec.specs.Canonical.{canonical_json, key_text, json_holds, can_write as json_can_write}
use Rattle.smithy_json_values.specs.Codec.{strict_settings}
use Rattle.smithy_json_codec.specs.Writing.{JsonState, json_after, fresh_state}
use Rattle.smithy_json_codec.proofs.WritingLemmas.{state, value_adds}
use Rattle.smithy_cbor_body.specs.Canonical.{canonical_cbor}
use Rattle.smithy_cbor_body.specs.Codec.{strict_settings as strict_cbor}
use Rattle.smithy_cbor_values.specs.Settings.{Settings as CborSettings}
use Rattle.smithy_cbor_body.specs.Prefixes.{CborState, cbor_after, fresh_state as fresh_cbor_state, no_prefix, with_prefix}
use Rattle.smithy_cbor_body.specs.Writing.{fresh_body}
use Rattle.smithy_cbor_codec.proofs.PrefixLemmas.{unprefixed}
use Rattle.smithy_cbor_body.proofs.WritingLemmas.{value_adds as cbor_value_adds}
use Rattle.smithy_query_codec.specs.Nulls.{holds_null}
use Rattle.smithy_query_codec.specs.Counts.{HasPositions}
use Rattle.smithy_query_codec.specs.Writable.{can_write, can_be_written, query_holds}
use Rattle.smithy_query_codec.specs.Writing.{QueryState, query_after, fresh_state as fresh_form}
use Rattle.smithy_query_codec.proofs.WholeForms.{whole_state, fit_is_written, fit_is_read, fit_is_distinct}
use Rattle.smithy_transcode.specs.declared.wire.Unfit.TheVariants.{Document, Null, Instant}
use Rattle.smithy_transcode.specs.Wires.{Wire, json, cbor, query, has_nulls, holds, holds_document, unfit_at, unfit}
use Rattle.smithy_transcode.specs.Transcoding.{TellsAgain}
use Rattle.smithy_transcode.specs.Spelling.{body}

-- what is put out once a state is reached is that state's text
pub reached : {S : Type 0} (r : Result (Vec ℕ Global) SerdeError) (Reaches : S → Type 0) (text : S → List ℕ)
    → IfOk r (λ out. (s : S) → Reaches s → out.items ≡ text s)
    → (s : S) (bytes : List ℕ) → Reaches s → text s ≡ bytes → IfOk r (λ out. out.items ≡ bytes)
reached (Ok out) Reaches text gives s bytes adds is = gives s adds ∙ is
reached (Err e) Reaches text gives s bytes adds is = tt

-- ---- what a wire can express

-- a value that a wire can express holds no null where the wire has none, and passes its test
parts_of : (document null passes : Bool) → (if document then Some Document else if null then Some Null else if passes then None else Some Instant) ≡ None
    → (null ≡ false) × (passes ≡ true)
parts_of true null passes h = absurd (let e : Some Document ≡ None = h in cc)
parts_of false true passes h = absurd (let e : Some Null ≡ None = h in cc)
parts_of false false true h = (refl, refl)
parts_of false false false h = absurd (let e : Some Instant ≡ None = h in cc)

-- the same of the value of any site
pub parts_at : (w : Wire) (site : Site) (v : Value) → unfit_at w site v ≡ None
    → ((not (has_nulls w) && holds_null v) ≡ false) × (scalars_pass (holds w) site v ≡ true)
parts_at w site v fit =
    parts_of (not (holds w).documents && holds_document site v) (not (has_nulls w) && holds_null v) (scalars_pass (holds w) site v) fit

pub all_held : (w : Wire) (t : Table) (root : ℕ) (v : Value) → unfit w t root v ≡ None → scalars_pass (holds w) (shape_site t root) v ≡ true
all_held w t root v fit = (parts_at w (shape_site t root) v fit).1

-- ---- JSON

no_key : (b : Bool) (view : View) → view.name ≡ None → key_text b view ≡ []
no_key b view nameless = rw nameless refl

-- what JSON holds can be written
pub json_takes : (b : Bool) (site : Site) (v : Value) → scalars_pass (json_holds (strict_settings b)) site v ≡ true → scalars_pass (json_can_write (strict_settings b)) site v ≡ true
json_takes b site v held =
    more_pass (json_holds (strict_settings b)) (json_can_write (strict_settings b)) (λ time x held. held_writes (form_or EpochSeconds time) x held) (λ documents. documents) v site held

abbrev pub json_body : Bool → Site → Value → JsonState
json_body b site v = state (strict_settings b) (canonical_json (strict_settings b) site v) true []

pub json_adds : (b : Bool) (site : Site) (v : Value) (s : JsonState) → s ≡ fresh_state (strict_settings b) → site.view.name ≡ None
    → scalars_pass (json_holds (strict_settings b)) site v ≡ true → write json_after site v s ≡ Ok (json_body b site v)
json_adds b site v s fresh nameless held =
    let c = strict_settings b in
    ap (write json_after site v) fresh
    ∙ value_adds site v c [] false [] [] (json_takes b site v held) refl
    ∙ ap (λ key. Ok (state c (key ++ canonical_json c site v) true [])) (no_key b site.view nameless)

-- ---- CBOR

-- the settings of a serializer that writes lengths or doesn't
abbrev pub cbor_settings : Bool → CborSettings
cbor_settings told = record strict_cbor { use_definite_lengths = told }

abbrev pub cbor_body : Bool → Site → Value → CborState
cbor_body told site v =
    record { body = record { settings = cbor_settings told; out = canonical_cbor told site v; frames = []; lengths = [] }; prefix = no_prefix }

pub cbor_adds : (told : Bool) (site : Site) (v : Value) (s : CborState) → s ≡ fresh_cbor_state (cbor_settings told) → scalars_pass (holds (cbor told)) site v ≡ true
    → write cbor_after site v s ≡ Ok (cbor_body told site v)
cbor_adds told site v s fresh held =
    let c = cbor_settings told in
    ap (write cbor_after site v) fresh
    ∙ (unprefixed (events site v) (fresh_body c) ∙ ap (with_prefix no_prefix) (cbor_value_adds c told refl site v [] [] [] [] held refl))

-- ---- the body of the root, at the schema of the root

pub root_held : (w x : Wire) (s : Schema) (t : Table) (root : ℕ) (v : Value) → w ≡ x → site_of s ≡ shape_site t root
    → unfit w t root v ≡ None → scalars_pass (holds x) (site_of s) v ≡ true
root_held w x s t root v wire site fit =
    ap (λ y. scalars_pass (holds x) y v) site ∙ ap (λ y. scalars_pass (holds y) (shape_site t root) v) (sym wire) ∙ all_held w t root v fit

pub json_is_body : (w : Wire) (b n : Bool) (s : Schema) (t : Table) (root : ℕ) (v : Value) → w ≡ json b n → site_of s ≡ shape_site t root
    → canonical_json (strict_settings b) (site_of s) v ≡ body w t root v
json_is_body w b n s t root v wire site = ap (λ x. canonical_json (strict_settings b) x v) site ∙ sym (ap (λ x. body x t root v) wire)

pub cbor_is_body : (w : Wire) (told : Bool) (s : Schema) (t : Table) (root : ℕ) (v : Value) → w ≡ cbor told → site_of s ≡ shape_site t root
    → canonical_cbor told (site_of s) v ≡ body w t root v
cbor_is_body w told s t root v wire site = ap (λ x. canonical_cbor told x v) site ∙ sym (ap (λ x. body x t root v) wire)

-- ---- forms

-- a value that a form can express can be written
pub form_takes : (action version : List ℕ) (site : Site) (v : Value) → unfit_at (query action version) site v ≡ None → can_be_written site v ≡ true
form_takes action version site v fit =
    let parts = parts_at (query action version) site v fit in
    let written = more_pass query_holds can_write (λ time x held. held_writes (form_or DateTime time) x held) (λ documents. documents) v site parts.1 in
    both_true (holds_null v) (scalars_pass can_write site v) parts.0 written
  where
    both_true : (null can : Bool) → null ≡ false → can ≡ true → (not null && can) ≡ true
    both_true null can clear written = rw (clear, written) refl

-- what is a structure by its place is one
structure_of_kind : (t : Table) (p : Place) (v : Value) → IsStructure (kind_of t p) → Fits t p v → (ms : MemberValues) × (v ≡ structure ms)
structure_of_kind t p (structure ms) kind fits = (ms, refl)
structure_of_kind t p (scalar_value x) kind fits = absurd (let k = scalar_kind (kind_of t p) x fits in subst IsStructure k.1 kind)
structure_of_kind t p (list vs) kind fits = absurd (no_list_and_structure (kind_of t p) fits.0 kind)
structure_of_kind t p (map es) kind fits = absurd (let k = map_kind (kind_of t p) fits.0 in subst IsStructure k.1 kind)
structure_of_kind t p (union n v) kind fits = absurd (let k = union_kind (kind_of t p) fits.0 in subst IsStructure k.1 kind)
structure_of_kind t p null_element kind fits = absurd (let e : false ≡ true = fits in cc)
structure_of_kind t p (document_value d) kind fits = absurd (subst IsStructure (document_kind (kind_of t p) fits.0) kind)

abbrev pub form_state : Wire → Table → ℕ → Value → QueryState
form_state w t root v = whole_state (body w t root v)

pub form_adds : (action version : List ℕ) (site : Site) (t : Table) (root : ℕ) (v : Value) (s : QueryState) → site ≡ shape_site t root → s ≡ fresh_form action version
    → IsAccepted t → IsStructure (kind_of t (shape_place root)) → Fits t (shape_place root) v → HasPositions v → can_be_written (shape_site t root) v ≡ true
    → write query_after site v s ≡ Ok (form_state (query action version) t root v)
form_adds action version site t root v s at_root fresh accepted kind fits short can =
    let ms = structure_of_kind t (shape_place root) v kind fits in
    let fits_whole : Fits t (shape_place root) (structure ms.0) = subst (Fits t (shape_place root)) ms.1 fits in
    let short_whole : HasPositions (structure ms.0) = subst HasPositions ms.1 short in
    let can_whole : can_be_written (shape_site t root) (structure ms.0) ≡ true = subst (λ u. can_be_written (shape_site t root) u ≡ true) ms.1 can in
    ap (λ x. write query_after x v s) at_root ∙ ap (write query_after (shape_site t root) v) fresh
    ∙ subst (λ u. write query_after (shape_site t root) u (fresh_form action version) ≡ Ok (form_state (query action version) t root u)) (sym ms.1)
    (fit_is_written t accepted (shape_place root) whole_view ms.0 fits_whole short_whole action version refl can_whole)

-- a form tells its value again
pub form_tells : (action version : List ℕ) (t : Table) (root : ℕ) (v : Value) → IsAccepted t → IsStructure (kind_of t (shape_place root)) → Fits t (shape_place root) v → HasPositions v
    → All (λ b. b < 256) action → All (λ b. b < 256) version → TellsAgain (query action version) t root (body (query action version) t root v) v
form_tells action version t root v accepted kind fits short ha hv =
    let ms = structure_of_kind t (shape_place root) v kind fits in
    let fits_whole : Fits t (shape_place root) (structure ms.0) = subst (Fits t (shape_place root)) ms.1 fits in
    let short_whole : HasPositions (structure ms.0) = subst HasPositions ms.1 short in
    let distinct = fit_is_distinct t accepted (shape_place root) whole_view ms.0 fits_whole short_whole in
    subst (λ u. TellsAgain (query action version) t root (body (query action version) t root u) u) (sym ms.1)
    (fit_is_read t accepted (shape_place root) whole_view ms.0 fits_whole short_whole action version ha hv, distinct.0, distinct.1)

pub same_fresh : (a b v w : List ℕ) → a ≡ b → v ≡ w → fresh_form a v ≡ fresh_form b w
same_fresh a b v w first second = ap (λ x. fresh_form x v) first ∙ ap (fresh_form b) second

-- the body is the text of the state that was reached
pub form_is_body : (w : Wire) (action version : List ℕ) (t : Table) (root : ℕ) (v : Value) → w ≡ query action version
    → body (query action version) t root v ≡ body w t root v
form_is_body w action version t root v wire = sym (ap (λ x. body x t root v) wire)
