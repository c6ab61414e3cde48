-- What a reader finds at the place of a scalar stands there, and where it finds nothing, nothing does.
use Rattle.std.proofs.Common.{◌≡◌, ◌≤◌, ℕ, List, length, drop, Bool, true, false, Option, Some, refl, sym, ◌∙◌, ap}
use Rattle.std.specs.Prelude.{option_map, Result, OnErr, IfOk, IfErr, IsOk, IsErr, IfSome, IfNone, IsSome, IsNone, MatchOption}
use Rattle.std.specs.declared.alloc.AllocError.{AllocError}
use Rattle.smithy_declarations.specs.declared.shape_type.Scalar.{Scalar}
use Rattle.smithy_declarations.specs.declared.shape_type.Scalar.TheVariants as scalars
use Rattle.smithy_schema.specs.declared.error.SerdeError.{SerdeError}
use Rattle.smithy_schema.specs.declared.error.SerdeError.TheVariants.{InvalidInput}
use Rattle.smithy_declarations.specs.Table.{scalar_place}
use Rattle.smithy_shapes.specs.Site.{Site}
use Rattle.smithy_declarations.specs.Value.{ScalarValue, boolean, text, bytes, Value, scalar_value, null_element}
use Rattle.smithy_schema.specs.Reading.{Cursor, depth, StandsNot, ReadsScalar, passed_to, failed_at}
use Rattle.smithy_shapes.specs.Lemmas.Options.{made}
use Rattle.smithy_json_values.specs.Settings.{Settings, without_limits}
use Rattle.smithy_json_values.specs.Scalar.{JsonScalar, a_boolean, a_number, a_string, boolean_of, text_of, bytes_of, says}
use Rattle.smithy_json_values.specs.Laws.{lawful}
use Rattle.smithy_json_values.specs.TypeMismatch.{scalar_mismatches}
use Rattle.smithy_json_values.specs.Spans.{without_ws}
use Rattle.smithy_json_values.specs.Standing.{json_grammar, json_relations, json_reader}
use Rattle.smithy_json_values.specs.Private.ScalarAtPlace.{TextLies, BlobLies}
use Rattle.smithy_json_values.specs.LexicalGrammar.{frames_of, LiesInGrammar}
use Rattle.smithy_json_values.proofs.GrammarReads as in_grammar_reads
use Rattle.smithy_wire.specs.Rules.{settled}
use Rattle.smithy_wire.specs.Finding.{Takes, told}
use Rattle.smithy_wire.specs.Readers.{settled_answer}
use Rattle.smithy_wire.proofs.ScalarReads.{takes, takes_found, if_some, if_none, if_ok, if_matched}

module _ (o : Settings) (c : Cursor) (site : Site) (s : Scalar) where
  abbrev pub Stands : ScalarValue → ℕ → Type 0
  Stands v e = (json_relations o).stands c.input site.table (scalar_place s site.place.time) (depth c) c.at (scalar_value v) e

  -- what a scalar of the grammar that lies there says stands there
  says_stands : (x : JsonScalar) (v : Value) (e : ℕ) → LiesInGrammar (json_grammar o) s x c.input c.at e → settled o.limits null_element (says o s site.place.time x) ≡ Some v
      → (json_relations o).stands c.input site.table (scalar_place s site.place.time) (depth c) c.at v e
  says_stands = in_grammar_reads.says_stands (json_grammar o) o c site s

  -- and nothing else does
  nothing_stands : ((x : JsonScalar) (v : Value) (e : ℕ) → LiesInGrammar (json_grammar o) s x c.input c.at e → settled o.limits null_element (says o s site.place.time x) ≡ Some v → ⊥)
      → StandsNot (json_relations o) c site.table (scalar_place s site.place.time)
  nothing_stands = in_grammar_reads.nothing_stands (json_grammar o) o c site s

-- ---- booleans

module _ (o : Settings) (c : Cursor) (site : Site) where
  settled_boolean : (x : JsonScalar) → settled o.limits null_element (says o scalars.Boolean site.place.time x) ≡ boolean_of x
  settled_boolean x = settled_answer o.limits null_element (boolean_of x)

  pub boolean_stands : (b : Bool) (e : ℕ) → (frames_of (json_grammar o)).scalar c.input 0 (a_boolean b) c.at e → Stands o c site scalars.Boolean (boolean b) e
  boolean_stands b e lies = says_stands o c site scalars.Boolean (a_boolean b) (scalar_value (boolean b)) e (lies, refl) (settled_boolean (a_boolean b))

  pub no_boolean_stands : ((b : Bool) (e : ℕ) → (frames_of (json_grammar o)).scalar c.input 0 (a_boolean b) c.at e → ⊥) → StandsNot (json_relations o) c site.table (scalar_place scalars.Boolean site.place.time)
  no_boolean_stands none = nothing_stands o c site scalars.Boolean (λ x v e lies means. by x v e lies (sym (settled_boolean x) ∙ means))
    where
      by : (x : JsonScalar) (v : Value) (e : ℕ) → LiesInGrammar (json_grammar o) scalars.Boolean x c.input c.at e → boolean_of x ≡ Some v → ⊥
      by (a_boolean b) v e lies means = none b e lies.0
      by (a_number raw) v e lies means = cc
      by (a_string raw) v e lies means = cc

-- ---- texts

module _ (o : Settings) (c : Cursor) (site : Site) where
  settled_text : (x : JsonScalar) → settled o.limits null_element (says o scalars.String site.place.time x) ≡ option_map (λ s. scalar_value (text s)) (text_of x)
  settled_text x = settled_answer o.limits null_element (option_map (λ s. scalar_value (text s)) (text_of x))

  pub text_stands : (t : List ℕ) (e : ℕ) → TextLies (json_grammar o) c.input c.at t e → Stands o c site scalars.String (text t) e
  text_stands t e h =
      says_stands o c site scalars.String (a_string h.raw) (scalar_value (text t)) e h.lies (settled_text (a_string h.raw) ∙ ap (option_map (λ s. scalar_value (text s))) h.is)

  pub no_text_stands : ((t : List ℕ) (e : ℕ) → TextLies (json_grammar o) c.input c.at t e → ⊥) → StandsNot (json_relations o) c site.table (scalar_place scalars.String site.place.time)
  no_text_stands none = nothing_stands o c site scalars.String (λ x v e lies means. by x v e lies (sym (settled_text x) ∙ means))
    where
      by : (x : JsonScalar) (v : Value) (e : ℕ) → LiesInGrammar (json_grammar o) scalars.String x c.input c.at e → option_map (λ s. scalar_value (text s)) (text_of x) ≡ Some v → ⊥
      by (a_boolean b) v e lies means = cc
      by (a_number raw) v e lies means = cc
      by (a_string raw) v e lies means = let s = made (λ s. scalar_value (text s)) (text_of (a_string raw)) v means in none s.0 e (record { raw = raw; lies = lies; is = s.1 })

-- ---- bytes

module _ (o : Settings) (c : Cursor) (site : Site) where
  settled_blob : (x : JsonScalar) → settled o.limits null_element (says o scalars.Blob site.place.time x) ≡ option_map (λ b. scalar_value (bytes b)) (bytes_of x)
  settled_blob x = settled_answer o.limits null_element (option_map (λ b. scalar_value (bytes b)) (bytes_of x))

  pub blob_stands : (b : List ℕ) (e : ℕ) → BlobLies (json_grammar o) c.input c.at b e → Stands o c site scalars.Blob (bytes b) e
  blob_stands b e h =
      says_stands o c site scalars.Blob (a_string h.raw) (scalar_value (bytes b)) e h.lies (settled_blob (a_string h.raw) ∙ ap (option_map (λ b. scalar_value (bytes b))) h.is)

  pub no_blob_stands : ((b : List ℕ) (e : ℕ) → BlobLies (json_grammar o) c.input c.at b e → ⊥) → StandsNot (json_relations o) c site.table (scalar_place scalars.Blob site.place.time)
  no_blob_stands none = nothing_stands o c site scalars.Blob (λ x v e lies means. by x v e lies (sym (settled_blob x) ∙ means))
    where
      by : (x : JsonScalar) (v : Value) (e : ℕ) → LiesInGrammar (json_grammar o) scalars.Blob x c.input c.at e → option_map (λ b. scalar_value (bytes b)) (bytes_of x) ≡ Some v → ⊥
      by (a_boolean b) v e lies means = cc
      by (a_number raw) v e lies means = cc
      by (a_string raw) v e lies means = let b = made (λ b. scalar_value (bytes b)) (bytes_of (a_string raw)) v means in none b.0 e (record { raw = raw; lies = lies; is = b.1 })

-- ---- the answer of a read

module _ (o : Settings) (old : Cursor) (site : Site) (sound : old.failed ≡ false) (due : old.due ≡ true) (within : old.at ≤ length old.input) where
  -- what comes is of another type
  abbrev pub is_other : Scalar → Bool
  is_other s = scalar_mismatches o s site.place.time (without_ws (drop old.at old.input))

  -- of a boolean
  pub reads_boolean : (new : Cursor) (found : Option (Bool × ℕ)) (result : Result Bool SerdeError)
      → IfSome found (λ r. (frames_of (json_grammar o)).scalar old.input 0 (a_boolean r.0) old.at r.1) → IfNone found ((b : Bool) (e : ℕ) → (frames_of (json_grammar o)).scalar old.input 0 (a_boolean b) old.at e → ⊥)
      → IfOk result (λ x. IfSome found (λ r. (r.0 ≡ x) × (new ≡ passed_to old r.1))) → (IsOk result → IsSome found) → (IsErr result → IsNone found)
      → OnErr result (new ≡ failed_at old) → IfErr result (λ e. e ≡ InvalidInput)
      → ReadsScalar (json_reader o) old new site scalars.Boolean boolean (told (is_other scalars.Boolean) result)
  reads_boolean new found result here none =
      takes (json_reader o) site scalars.Boolean boolean (lawful o) old sound due within (is_other scalars.Boolean) refl new found result
      (if_some found _ _ (λ r. boolean_stands o old site r.0 r.1) here)
      (if_none found _ _ (λ nothing. (no_boolean_stands o old site nothing, no_boolean_stands (without_limits o) old site nothing)) none)

  -- of a text
  pub reads_text : {A : Type 0} (text_of : A → List ℕ) (new : Cursor) (found : Result (Option (A × ℕ)) AllocError) (result : Result A SerdeError)
      → IfOk found (λ f. MatchOption f ((t : List ℕ) (e : ℕ) → TextLies (json_grammar o) old.input old.at t e → ⊥) (λ r. TextLies (json_grammar o) old.input old.at (text_of r.0) r.1))
      → Takes old new found result
      → ReadsScalar (json_reader o) old new site scalars.String (λ x. text (text_of x)) (told (is_other scalars.String) result)
  reads_text text_of new found result here =
      takes_found (json_reader o) site scalars.String (λ x. text (text_of x)) (lawful o) old sound due within (is_other scalars.String) refl new found result
      (if_ok found _ _ (λ a. if_matched a _ _ _ _ (λ none. (no_text_stands o old site none, no_text_stands (without_limits o) old site none)) (λ r. text_stands o old site (text_of r.0) r.1)) here)

  -- of bytes, wherever they are kept
  pub reads_bytes : {A : Type 0} (bytes_in : A → List ℕ) (new : Cursor) (found : Result (Option (A × ℕ)) AllocError) (result : Result A SerdeError)
      → IfOk found (λ f. MatchOption f ((b : List ℕ) (e : ℕ) → BlobLies (json_grammar o) old.input old.at b e → ⊥) (λ r. BlobLies (json_grammar o) old.input old.at (bytes_in r.0) r.1))
      → Takes old new found result
      → ReadsScalar (json_reader o) old new site scalars.Blob (λ x. bytes (bytes_in x)) (told (is_other scalars.Blob) result)
  reads_bytes bytes_in new found result here =
      takes_found (json_reader o) site scalars.Blob (λ x. bytes (bytes_in x)) (lawful o) old sound due within (is_other scalars.Blob) refl new found result
      (if_ok found _ _ (λ a. if_matched a _ _ _ _ (λ none. (no_blob_stands o old site none, no_blob_stands (without_limits o) old site none)) (λ r. blob_stands o old site (bytes_in r.0) r.1)) here)

  -- of bytes
  pub reads_blob : (new : Cursor) (found : Result (Option (List ℕ × ℕ)) AllocError) (result : Result (List ℕ) SerdeError)
      → IfOk found (λ f. MatchOption f ((b : List ℕ) (e : ℕ) → BlobLies (json_grammar o) old.input old.at b e → ⊥) (λ r. BlobLies (json_grammar o) old.input old.at r.0 r.1))
      → Takes old new found result
      → ReadsScalar (json_reader o) old new site scalars.Blob bytes (told (is_other scalars.Blob) result)
  reads_blob = reads_bytes (λ b. b)
