-- What a reader finds at the place of a scalar stands there, and where it finds nothing, nothing does.
use Rattle.std.proofs.Common.{◌≡◌, ◌≤◌, ◌-◌, ◌^◌, ℕ, ℤ, List, length, Bool, true, false, subst, Option, Some, None, refl, sym, ◌∙◌, ap, inl, inr, drop, arith, ◌<◌, ◌++◌, ◌∷◌, []}
use Rattle.std.specs.Prelude.{option_map, IsErrOf, Result, Ok, Err, OnErr, IfOk, IfErr, IsOk, IsErr, IfSome, IfNone, IsSome, IsNone, MatchOption, slice_range, FitsSigned, pos, negsuc, neg_ℤ, int_le, int_lt}
use Rattle.smithy_texts.specs.Base64Text.{are_bytes}
use Rattle.smithy_texts.specs.Ranges.{fits_signed}
use Rattle.smithy_declarations.specs.declared.shape_type.Scalar.{Scalar}
use Rattle.smithy_declarations.specs.declared.shape_type.Scalar.TheVariants as scalars
use Rattle.smithy_schema.specs.declared.error.SerdeError.{SerdeError}
use Rattle.smithy_schema.specs.declared.error.SerdeError.TheVariants.{InvalidInput, TooWide, NotCarried, NoMemory}
use Rattle.smithy_declarations.specs.Table.{scalar_place}
use Rattle.smithy_shapes.specs.Site.{Site}
use Rattle.smithy_declarations.specs.Value.{ScalarValue, boolean, whole, text, bytes, instant, Value, scalar_value, null_element}
use Rattle.smithy_schema.specs.Reading.{Cursor, depth, StandsNot, Exceeds, Uncarried, ReadsScalar, AnswersWide, AnswersUncarried, passed_to, failed_at}
use Rattle.smithy_shapes.specs.Lemmas.Options.{same_some, made}
use Rattle.smithy_shapes.proofs.ScalarLemmas.{fits_more}
use Rattle.cbor_item.specs.WellFormed.{IsItemAt, IsSimple}
use Rattle.cbor_item.specs.Item.{Item, unsigned, negative, byte_string, text_string, array, map, tag, simple, float}
use Rattle.smithy_cbor_values.specs.Settings.{Settings, kept, without_limits}
use Rattle.smithy_cbor.specs.Scalar.{boolean_item, integer_of, text_of, bytes_of}
use Rattle.smithy_cbor_values.specs.Scalar.{boolean_of, whole_of, blob_of, says}
use Rattle.smithy_cbor_values.specs.Laws.{lawful}
use Rattle.smithy_cbor_values.specs.Meaning.{node_of, rules_of}
use Rattle.smithy_cbor_values.specs.Standing.{Follows, end_depth, frames_of, cbor_relations, cbor_reader}
use Rattle.smithy_cbor_values.specs.Private.Fits.{boolean_is, whole_is, blob_is}
use Rattle.smithy_cbor_values.specs.Private.ScalarAtPlace.{IsAt, IsWholeAt, HasTextAt, IsBlobAt, MeansAt, ExceedsAt, UncarriedAt, NothingAt}
use Rattle.smithy_cbor_values.specs.Private.Wire.{wire_of}
use Rattle.smithy_cbor_values.specs.Private.ItemPlaces.{one_item, item_front}
use Rattle.smithy_wire.specs.declared.found.Found.{Found}
use Rattle.smithy_wire.specs.declared.found.Found.TheVariants.{Value as FoundValue, Nothing, Beyond}
use Rattle.smithy_wire.specs.Finding.{MatchFound, Takes, TakesWithin}
use Rattle.smithy_wire.specs.Node.{leaf}
use Rattle.smithy_wire.specs.Rules.{Answer, no_meaning, wide, uncarried, answer_of, settled}
use Rattle.smithy_wire.specs.Narrowing.{IsNarrowed, IsWider}
use Rattle.smithy_wire.specs.Readers.{settled_answer, scalar_stands, stands_scalar, scalar_exceeds, exceeds_scalar, scalar_uncarried, uncarried_scalar}
use Rattle.smithy_wire.proofs.Bounds.{exceeds_not, uncarried_not}
use Rattle.smithy_wire.proofs.ScalarReads.{takes, takes_found, takes_within_limits, answers_past_limits, takes_what_is_carried, answers_what_is_not, narrow_found, narrow_none, if_some, if_none, if_ok, if_matched, if_found}
use Rattle.std.specs.declared.alloc.AllocError.{AllocError}
use Rattle.std.specs.Bool.{then_some}
use Rattle.std.specs.Int.{w64}
use Rattle.std.proofs.lemmas.Int.{ints}
use Rattle.std.proofs.lemmas.Bool.{and_parts, ltb-true}
use Rattle.cbor_item.specs.Head.{HeadRead, BeginsWithHead, IsHead, immediate, initial_byte}
use Rattle.cbor_item.proofs.HeadLemmas.{head_in_front, front_begins_low, front_begins}
use Rattle.smithy_cbor.specs.declared.error.DecodeKind.{DecodeKind}
use Rattle.smithy_cbor.specs.Reading.{IsInteger, IsIntegerFault, IsKindOf, IsHeadFault, IsBooleanHead}
use Rattle.smithy_cbor_values.proofs.HeadFaults.{no_wanted_head}

-- ---- where an integer stands

-- what is a long fits 64 bits
pub long_fits : (z : ℤ) → fits_signed 64 z ≡ true → FitsSigned w64 z
long_fits (pos n) h =
    record { sfits = ltb-true _ _ (and_parts (int_le (neg_ℤ (pos (2 ^ 63))) (pos n)) (int_lt (pos n) (pos (2 ^ 63))) h).1 }
long_fits (negsuc n) h =
    let low = (and_parts (int_le (neg_ℤ (pos (2 ^ 63))) (negsuc n)) (int_lt (negsuc n) (pos (2 ^ 63))) h).0 in
    record { sfits = grind (arith, ints) }

-- the head of an integer
pub integer_head : (i : Item) (z : ℤ) (input : List ℕ) (at e : ℕ) → integer_of i ≡ Some z → IsItemAt i input at e
    → (h : HeadRead) × BeginsWithHead (drop at input) h × IsInteger h
integer_head (unsigned n) z input at e is there =
    let head = slice_range input at e in (
      head_in_front 0 n head,
      subst (λ (l : List ℕ). BeginsWithHead l (head_in_front 0 n head)) (sym (item_front (unsigned n) input at e there))
          (front_begins_low 0 n head (drop e input) (omega arith) there.1),
      inl refl,
    )
integer_head (negative n) z input at e is there =
    let head = slice_range input at e in (
      head_in_front 1 n head,
      subst (λ (l : List ℕ). BeginsWithHead l (head_in_front 1 n head)) (sym (item_front (negative n) input at e there))
          (front_begins_low 1 n head (drop e input) (omega arith) there.1),
      inr refl,
    )
integer_head (byte_string extent chunks) z input at e is there = absurd (cc)
integer_head (text_string extent chunks) z input at e is there = absurd (cc)
integer_head (array extent es) z input at e is there = absurd (cc)
integer_head (map extent ps) z input at e is there = absurd (cc)
integer_head (tag n i) z input at e is there = absurd (cc)
integer_head (simple n) z input at e is there = absurd (cc)
integer_head (float digits) z input at e is there = absurd (cc)

-- where no integer of 64 bits can be read, none stands
pub no_whole_at : (input : List ℕ) (at : ℕ) (kind : DecodeKind) → IsIntegerFault w64 input at kind
    → (n : ℤ) (depth e : ℕ) → IsWholeAt 64 n input at depth e → ⊥
no_whole_at input at kind (inl (error, is, fault)) n depth e h =
    let head = integer_head h.found n input at e h.is h.stands in
    no_wanted_head IsInteger input at error head.0 fault head.1 head.2
no_whole_at input at kind (inr (is, (z, end, (i, there, number), misfit))) n depth e h =
    let same = (one_item h.found i input at e end h.stands there).0 in
    let numbers : Some n ≡ Some z = sym h.is ∙ ap integer_of same ∙ number in
    let value : n ≡ z = cc in
    misfit (subst (FitsSigned w64) value (long_fits n h.fits))

-- an integer that stands there has one end
pub same_whole_end : (input : List ℕ) (at : ℕ) (n : ℤ) (i : Item) (depth e end : ℕ) → IsWholeAt 64 n input at depth e → IsItemAt i input at end → e ≡ end
same_whole_end input at n i depth e end h there = (one_item h.found i input at e end h.stands there).1

-- where a test decides, nothing is answered only where it fails
pub unless : {T : Type 0} (test : Bool) (x : T) (P : Type 0) → (test ≡ false → P) → IfNone (then_some test x) P
unless true x P h = tt
unless false x P h = h refl

-- ---- where a boolean stands

simple_head : (n : ℕ) (input : List ℕ) (at e : ℕ) → n < 24 → IsItemAt (simple n) input at e
    → BeginsWithHead (drop at input) (head_in_front 7 n (initial_byte 7 n ∷ []))
simple_head n input at e low there = by there.1
  where
    by : IsSimple n (slice_range input at e) → BeginsWithHead (drop at input) (head_in_front 7 n (initial_byte 7 n ∷ []))
    by (inl (less, is)) =
        let front = item_front (simple n) input at e there ∙ ap (λ s. s ++ drop e input) is in
        let head : IsHead 7 n (initial_byte 7 n ∷ []) = record { width = immediate; fits = less; spelled = refl } in
        subst (λ l. BeginsWithHead l (head_in_front 7 n (initial_byte 7 n ∷ []))) (sym front)
        (front_begins 7 n (initial_byte 7 n ∷ []) (drop e input) (omega arith) head (λ s. let no' = ap length s.2 in omega (arith, no')))
    by (inr (high, limit, is)) = absurd (omega (arith, low, high))

boolean_head : (b : Bool) (input : List ℕ) (at e : ℕ) → IsItemAt (boolean_item b) input at e
    → (h : HeadRead) × BeginsWithHead (drop at input) h × IsBooleanHead h
boolean_head false input at e h = (head_in_front 7 20 (initial_byte 7 20 ∷ []), simple_head 20 input at e (omega arith) h, inl (refl, refl, refl))
boolean_head true input at e h = (head_in_front 7 21 (initial_byte 7 21 ∷ []), simple_head 21 input at e (omega arith) h, inr (refl, refl, refl))

-- where no boolean can be read, none stands
pub no_boolean_at : (input : List ℕ) (at : ℕ) (kind : DecodeKind) → IsKindOf (IsHeadFault IsBooleanHead input at) kind
    → (b : Bool) (depth e : ℕ) → IsAt (boolean_item b) input at depth e → ⊥
no_boolean_at input at kind (error, is, fault) b depth e h =
    let head = boolean_head b input at e h.0 in
    no_wanted_head IsBooleanHead input at error head.0 fault head.1 head.2

-- a boolean that stands there has one end
pub same_boolean_end : (input : List ℕ) (at : ℕ) (b : Bool) (x : Item) (depth e end : ℕ) → IsAt (boolean_item b) input at depth e → IsItemAt x input at end → e ≡ end
same_boolean_end input at b x depth e end h there = (one_item (boolean_item b) x input at e end h.0 there).1

-- integers and texts are scalars
integer_is_leaf : (x : Item) (n : ℤ) → integer_of x ≡ Some n → node_of x ≡ leaf x
integer_is_leaf (unsigned m) n is = refl
integer_is_leaf (negative m) n is = refl
integer_is_leaf (byte_string extent chunks) n is = cc
integer_is_leaf (text_string extent chunks) n is = cc
integer_is_leaf (array extent es) n is = cc
integer_is_leaf (map extent ps) n is = cc
integer_is_leaf (tag m x) n is = cc
integer_is_leaf (simple m) n is = cc
integer_is_leaf (float digits) n is = cc

boolean_is_leaf : (b : Bool) → node_of (boolean_item b) ≡ leaf (boolean_item b)
boolean_is_leaf true = refl
boolean_is_leaf false = refl

text_is_leaf : (x : Item) (s : List ℕ) → text_of x ≡ Some s → node_of x ≡ leaf x
text_is_leaf (unsigned m) s is = cc
text_is_leaf (negative m) s is = cc
text_is_leaf (byte_string extent chunks) s is = cc
text_is_leaf (text_string extent chunks) s is = refl
text_is_leaf (array extent es) s is = cc
text_is_leaf (map extent ps) s is = cc
text_is_leaf (tag m x) s is = cc
text_is_leaf (simple m) s is = cc
text_is_leaf (float digits) s is = cc

module _ (o : Settings) (c : Cursor) (site : Site) (s : Scalar) where
  abbrev pub Stands : ScalarValue → ℕ → Type 0
  Stands v e = (cbor_relations o).stands c.input site.table (scalar_place s site.place.time) (depth c) c.at (scalar_value v) e

  -- what an item that is a scalar says stands there
  says_stands : (x : Item) (v : Value) (e : ℕ) → (frames_of o).scalar c.input (depth c) x c.at e → settled o.limits null_element (says s site.place.time x) ≡ Some v
      → (cbor_relations o).stands c.input site.table (scalar_place s site.place.time) (depth c) c.at v e
  says_stands x v e lies means = scalar_stands (frames_of o) (rules_of o) c.input site.table (scalar_place s site.place.time) s refl (depth c) c.at v e (x, lies, means)

  -- and nothing else does
  nothing_stands : ((x : Item) (v : Value) (e : ℕ) → (frames_of o).scalar c.input (depth c) x c.at e → settled o.limits null_element (says s site.place.time x) ≡ Some v → ⊥)
      → StandsNot (cbor_relations o) c site.table (scalar_place s site.place.time)
  nothing_stands none v e stands =
      let x = stands_scalar (frames_of o) (rules_of o) c.input site.table (scalar_place s site.place.time) s refl (depth c) c.at v e stands in
      none x.0 v e x.1 x.2

-- ---- booleans

boolean_back : (b : Bool) → boolean_of (boolean_item b) ≡ Some (scalar_value (boolean b))
boolean_back true = refl
boolean_back false = refl

module _ (o : Settings) (c : Cursor) (site : Site) where
  settled_boolean : (x : Item) → settled o.limits null_element (says scalars.Boolean site.place.time x) ≡ boolean_of x
  settled_boolean x = settled_answer o.limits null_element (boolean_of x)

  pub boolean_stands : (b : Bool) (e : ℕ) → IsAt (boolean_item b) c.input c.at (end_depth o.enforce_strictness (depth c)) e → Stands o c site scalars.Boolean (boolean b) e
  boolean_stands b e (stands, follows) =
      says_stands o c site scalars.Boolean (boolean_item b) (scalar_value (boolean b)) e (boolean_is_leaf b, stands, follows) (settled_boolean (boolean_item b) ∙ boolean_back b)

  pub no_boolean_stands : ((b : Bool) (e : ℕ) → IsAt (boolean_item b) c.input c.at (end_depth o.enforce_strictness (depth c)) e → ⊥) → StandsNot (cbor_relations o) c site.table (scalar_place scalars.Boolean site.place.time)
  no_boolean_stands none = nothing_stands o c site scalars.Boolean (λ x v e lies means.
      let b = boolean_is x v (sym (settled_boolean x) ∙ means) in
      none b.0 e (subst (λ (y : Item). IsItemAt y c.input c.at e) b.1 lies.1, lies.2))

-- ---- a kind of whole numbers of so many bits

module _ (o : Settings) (c : Cursor) (site : Site) (s : Scalar) (bits : ℕ) (says_whole : (x : Item) → says s site.place.time x ≡ answer_of (whole_of bits x)) where
  settled_whole : (x : Item) → settled o.limits null_element (says s site.place.time x) ≡ whole_of bits x
  settled_whole x = ap (settled o.limits null_element) (says_whole x) ∙ settled_answer o.limits null_element (whole_of bits x)

  is_whole : (x : Item) (n : ℤ) → integer_of x ≡ Some n → fits_signed bits n ≡ true → whole_of bits x ≡ Some (scalar_value (whole n))
  is_whole x n is fits = rw (is, fits) refl

  pub whole_stands : (n : ℤ) (e : ℕ) → IsWholeAt bits n c.input c.at (end_depth o.enforce_strictness (depth c)) e → Stands o c site s (whole n) e
  whole_stands n e h =
      says_stands o c site s h.found (scalar_value (whole n)) e (integer_is_leaf h.found n h.is, h.stands, h.follows) (settled_whole h.found ∙ is_whole h.found n h.is h.fits)

  pub no_whole_stands : ((n : ℤ) (e : ℕ) → IsWholeAt bits n c.input c.at (end_depth o.enforce_strictness (depth c)) e → ⊥) → StandsNot (cbor_relations o) c site.table (scalar_place s site.place.time)
  no_whole_stands none = nothing_stands o c site s (λ x v e lies means.
      let z = whole_is bits x v (sym (settled_whole x) ∙ means) in
      none z.0 e (record { found = x; stands = lies.1; is = z.1; fits = z.2; follows = lies.2 }))

-- at one place stands one number
same_number : (input : List ℕ) (at depth : ℕ) (n m : ℤ) (e f : ℕ) → IsWholeAt 64 n input at depth e → IsWholeAt 64 m input at depth f → n ≡ m
same_number input at depth n m e f h k =
    same_some n m (sym h.is ∙ ap integer_of (one_item h.found k.found input at e f h.stands k.stands).0 ∙ k.is)

-- ---- texts

-- a text with what may follow it
abbrev pub TextStands : List ℕ → ℕ → ℕ → List ℕ → ℕ → Type 0
TextStands input at depth t e = HasTextAt t input at e × Follows depth input e

module _ (o : Settings) (c : Cursor) (site : Site) where
  settled_text : (x : Item) → settled o.limits null_element (says scalars.String site.place.time x) ≡ option_map (λ s. scalar_value (text s)) (text_of x)
  settled_text x = settled_answer o.limits null_element (option_map (λ s. scalar_value (text s)) (text_of x))

  pub text_stands : (t : List ℕ) (e : ℕ) → TextStands c.input c.at (end_depth o.enforce_strictness (depth c)) t e → Stands o c site scalars.String (text t) e
  text_stands t e (h, follows) =
      says_stands o c site scalars.String h.found (scalar_value (text t)) e (text_is_leaf h.found t h.is, h.stands, follows)
      (settled_text h.found ∙ ap (option_map (λ s. scalar_value (text s))) h.is)

  pub no_text_stands : ((t : List ℕ) (e : ℕ) → HasTextAt t c.input c.at e → Follows (end_depth o.enforce_strictness (depth c)) c.input e → ⊥)
      → StandsNot (cbor_relations o) c site.table (scalar_place scalars.String site.place.time)
  no_text_stands none = nothing_stands o c site scalars.String (λ x v e lies means.
      let s = made (λ s. scalar_value (text s)) (text_of x) v (sym (settled_text x) ∙ means) in
      none s.0 e (record { found = x; stands = lies.1; is = s.1 }) lies.2)

-- ---- bytes

bytes_is_leaf : (x : Item) (b : List ℕ) → bytes_of x ≡ Some b → node_of x ≡ leaf x
bytes_is_leaf (unsigned m) b is = cc
bytes_is_leaf (negative m) b is = cc
bytes_is_leaf (byte_string extent chunks) b is = refl
bytes_is_leaf (text_string extent chunks) b is = cc
bytes_is_leaf (array extent es) b is = cc
bytes_is_leaf (map extent ps) b is = cc
bytes_is_leaf (tag m x) b is = cc
bytes_is_leaf (simple m) b is = cc
bytes_is_leaf (float digits) b is = cc

module _ (o : Settings) (c : Cursor) (site : Site) where
  settled_blob : (x : Item) → settled o.limits null_element (says scalars.Blob site.place.time x) ≡ option_map (λ b. scalar_value (bytes b)) (blob_of x)
  settled_blob x = settled_answer o.limits null_element (option_map (λ b. scalar_value (bytes b)) (blob_of x))

  is_blob : (x : Item) (b : List ℕ) → bytes_of x ≡ Some b → are_bytes b ≡ true → option_map (λ b. scalar_value (bytes b)) (blob_of x) ≡ Some (scalar_value (bytes b))
  is_blob x b is small = rw (is, small) refl

  pub blob_stands : (b : List ℕ) (e : ℕ) → IsBlobAt b c.input c.at (end_depth o.enforce_strictness (depth c)) e → Stands o c site scalars.Blob (bytes b) e
  blob_stands b e h =
      says_stands o c site scalars.Blob h.found (scalar_value (bytes b)) e (bytes_is_leaf h.found b h.is, h.stands, h.follows)
      (settled_blob h.found ∙ is_blob h.found b h.is h.bytes)

  pub no_blob_stands : ((b : List ℕ) (e : ℕ) → IsBlobAt b c.input c.at (end_depth o.enforce_strictness (depth c)) e → ⊥) → StandsNot (cbor_relations o) c site.table (scalar_place scalars.Blob site.place.time)
  no_blob_stands none = nothing_stands o c site scalars.Blob (λ x v e lies means.
      let b = blob_is x v (sym (settled_blob x) ∙ means) in
      none b.0 e (record { found = x; stands = lies.1; is = b.1; bytes = b.2; follows = lies.2 }))

-- ---- big numbers and instants, by a kind whose meaning asks no time form

module _ (o : Settings) (c : Cursor) (site : Site) (s : Scalar) (timeless : (x : Item) → says s site.place.time x ≡ says s None x) where
  pub number_stands : (v : ScalarValue) (e : ℕ) → MeansAt s c.input c.at (end_depth o.enforce_strictness (depth c)) v e → Stands o c site s v e
  number_stands v e h =
      says_stands o c site s h.found (scalar_value v) e h.lies (ap (settled o.limits null_element) (timeless h.found ∙ h.is))

  pub number_exceeds : ExceedsAt s c.input c.at (end_depth o.enforce_strictness (depth c)) → Exceeds (cbor_relations o) c site.table (scalar_place s site.place.time)
  number_exceeds h = (
    h.e,
    scalar_exceeds (frames_of o) (rules_of o) c.input site.table (scalar_place s site.place.time) s refl (depth c) c.at h.found h.e h.lies (timeless h.found ∙ h.is),
  )

  pub no_number_stands : NothingAt s c.input c.at (end_depth o.enforce_strictness (depth c)) → StandsNot (cbor_relations o) c site.table (scalar_place s site.place.time)
  no_number_stands none = nothing_stands o c site s (λ x v e lies means.
      let nothing : None ≡ Some v = sym (ap (settled o.limits null_element) (timeless x ∙ none x e lies)) ∙ means in
      cc)

  pub no_number_exceeds : NothingAt s c.input c.at (end_depth o.enforce_strictness (depth c)) → Exceeds (cbor_relations o) c site.table (scalar_place s site.place.time) → ⊥
  no_number_exceeds none (e, there) =
      let x = exceeds_scalar (frames_of o) (rules_of o) c.input site.table (scalar_place s site.place.time) s refl (depth c) c.at e there in
      let both : ◌≡◌ {A = Answer Value} no_meaning wide = sym (timeless x.0 ∙ none x.0 e x.1) ∙ x.2 in
      cc

  -- within the limits nothing stands where a number leaves them
  pub exceeds_stands_not : o.limits ≡ kept → Exceeds (cbor_relations o) c site.table (scalar_place s site.place.time) → StandsNot (cbor_relations o) c site.table (scalar_place s site.place.time)
  exceeds_stands_not keeps (e, there) v f stands =
      exceeds_not (frames_of o) (rules_of o) (wire_of o) keeps c.input site.table (scalar_place s site.place.time) s refl (depth c) c.at e there v f stands

  pub not_carried : UncarriedAt s c.input c.at (end_depth o.enforce_strictness (depth c)) → Uncarried (cbor_relations o) c site.table (scalar_place s site.place.time)
  not_carried h = (
    h.e,
    scalar_uncarried (frames_of o) (rules_of o) c.input site.table (scalar_place s site.place.time) s refl (depth c) c.at h.found h.e h.lies (timeless h.found ∙ h.is),
  )

  pub all_carried : NothingAt s c.input c.at (end_depth o.enforce_strictness (depth c)) → Uncarried (cbor_relations o) c site.table (scalar_place s site.place.time) → ⊥
  all_carried none (e, there) =
      let x = uncarried_scalar (frames_of o) (rules_of o) c.input site.table (scalar_place s site.place.time) s refl (depth c) c.at e there in
      let both : ◌≡◌ {A = Answer Value} no_meaning uncarried = sym (timeless x.0 ∙ none x.0 e x.1) ∙ x.2 in
      cc

  -- nor where something isn't carried
  pub uncarried_stands_not : o.limits ≡ kept → Uncarried (cbor_relations o) c site.table (scalar_place s site.place.time) → StandsNot (cbor_relations o) c site.table (scalar_place s site.place.time)
  uncarried_stands_not keeps (e, there) v f stands =
      uncarried_not (frames_of o) (rules_of o) (wire_of o) keeps c.input site.table (scalar_place s site.place.time) s refl (depth c) c.at e there v f stands

-- ---- the answer of a read

module _ (o : Settings) (old : Cursor) (site : Site) (sound : old.failed ≡ false) (due : old.due ≡ true) (within : old.at ≤ length old.input) where
  -- of a boolean
  pub reads_boolean : (new : Cursor) (found : Option (Bool × ℕ)) (result : Result Bool SerdeError)
      → IfSome found (λ r. IsAt (boolean_item r.0) old.input old.at (end_depth o.enforce_strictness (depth old)) r.1) → IfNone found ((b : Bool) (e : ℕ) → IsAt (boolean_item b) old.input old.at (end_depth o.enforce_strictness (depth old)) e → ⊥)
      → IfOk result (λ x. IfSome found (λ r. (r.0 ≡ x) × (new ≡ passed_to old r.1))) → (IsOk result → IsSome found) → (IsErr result → IsNone found)
      → OnErr result (new ≡ failed_at old) → IfErr result (λ e. e ≡ InvalidInput)
      → ReadsScalar (cbor_reader o) old new site scalars.Boolean boolean result
  reads_boolean new found result here none =
      takes (cbor_reader o) site scalars.Boolean boolean (lawful o) old sound due within false refl new found result
      (if_some found _ _ (λ r. boolean_stands o old site r.0 r.1) here)
      (if_none found _ _ (λ nothing. (no_boolean_stands o old site nothing, no_boolean_stands (without_limits o) old site nothing)) none)

  -- of a kind of whole numbers of so many bits
  pub reads_whole : (s : Scalar) (bits : ℕ) → ((x : Item) → says s site.place.time x ≡ answer_of (whole_of bits x))
      → (new : Cursor) (found : Option (ℤ × ℕ)) (result : Result ℤ SerdeError)
      → IfSome found (λ r. IsWholeAt bits r.0 old.input old.at (end_depth o.enforce_strictness (depth old)) r.1) → IfNone found ((n : ℤ) (e : ℕ) → IsWholeAt bits n old.input old.at (end_depth o.enforce_strictness (depth old)) e → ⊥)
      → IfOk result (λ x. IfSome found (λ r. (r.0 ≡ x) × (new ≡ passed_to old r.1))) → (IsOk result → IsSome found) → (IsErr result → IsNone found)
      → OnErr result (new ≡ failed_at old) → IfErr result (λ e. e ≡ InvalidInput)
      → ReadsScalar (cbor_reader o) old new site s whole result
  reads_whole s bits says_whole new found result here none =
      takes (cbor_reader o) site s whole (lawful o) old sound due within false refl new found result
      (if_some found _ _ (λ r. whole_stands o old site s bits says_whole r.0 r.1) here)
      (if_none found _ _ (λ nothing. (no_whole_stands o old site s bits says_whole nothing, no_whole_stands (without_limits o) old site s bits says_whole nothing)) none)

  -- the same in fewer bits
  pub reads_narrow : (s : Scalar) (bits : ℕ) → 2 ^ (bits - 1) ≤ 2 ^ 63 → ((x : Item) → says s site.place.time x ≡ answer_of (whole_of bits x))
      → (new : Cursor) (broad found : Option (ℤ × ℕ)) (result : Result ℤ SerdeError)
      → IfSome broad (λ r. IsWholeAt 64 r.0 old.input old.at (end_depth o.enforce_strictness (depth old)) r.1) → IfNone broad ((n : ℤ) (e : ℕ) → IsWholeAt 64 n old.input old.at (end_depth o.enforce_strictness (depth old)) e → ⊥)
      → IfSome found (IsNarrowed bits broad) → IfNone found (IsWider bits broad)
      → IfOk result (λ x. IfSome found (λ r. (r.0 ≡ x) × (new ≡ passed_to old r.1))) → (IsOk result → IsSome found) → (IsErr result → IsNone found)
      → OnErr result (new ≡ failed_at old) → IfErr result (λ e. e ≡ InvalidInput)
      → ReadsScalar (cbor_reader o) old new site s whole result
  reads_narrow s bits fewer says_whole new broad found result here none narrow wider =
      let At : ℕ → ℤ → ℕ → Type 0 = λ bits n e. IsWholeAt bits n old.input old.at (end_depth o.enforce_strictness (depth old)) e in
      reads_whole s bits says_whole new found result
      (narrow_found At bits broad found (λ n e h fits. record { found = h.found; stands = h.stands; is = h.is; fits = fits; follows = h.follows }) here narrow)
      (narrow_none At bits broad found (λ n e h. (record { found = h.found; stands = h.stands; is = h.is; fits = fits_more bits 64 n fewer h.fits; follows = h.follows }, h.fits))
      (same_number old.input old.at (end_depth o.enforce_strictness (depth old))) here none wider)

  -- of a text
  pub reads_text : {A : Type 0} (text_of : A → List ℕ) (new : Cursor) (found : Result (Option (A × ℕ)) AllocError) (result : Result A SerdeError)
      → IfOk found (λ it. MatchOption it ((t : List ℕ) (e : ℕ) → HasTextAt t old.input old.at e → Follows (end_depth o.enforce_strictness (depth old)) old.input e → ⊥) (λ r. TextStands old.input old.at (end_depth o.enforce_strictness (depth old)) (text_of r.0) r.1))
      → Takes old new found result → ReadsScalar (cbor_reader o) old new site scalars.String (λ x. text (text_of x)) result
  reads_text text_of new found result here =
      takes_found (cbor_reader o) site scalars.String (λ x. text (text_of x)) (lawful o) old sound due within false refl new found result
      (if_ok found _ _ (λ f. if_matched f _ _ _ _ (λ nothing. (no_text_stands o old site nothing, no_text_stands (without_limits o) old site nothing)) (λ r. text_stands o old site (text_of r.0) r.1)) here)

  -- of bytes, wherever they are kept
  pub reads_bytes : {A : Type 0} (bytes_in : A → List ℕ) (new : Cursor) (found : Result (Option (A × ℕ)) AllocError) (result : Result A SerdeError)
      → IfOk found (λ it. MatchOption it ((b : List ℕ) (e : ℕ) → IsBlobAt b old.input old.at (end_depth o.enforce_strictness (depth old)) e → ⊥) (λ r. IsBlobAt (bytes_in r.0) old.input old.at (end_depth o.enforce_strictness (depth old)) r.1))
      → Takes old new found result → ReadsScalar (cbor_reader o) old new site scalars.Blob (λ x. bytes (bytes_in x)) result
  reads_bytes bytes_in new found result here =
      takes_found (cbor_reader o) site scalars.Blob (λ x. bytes (bytes_in x)) (lawful o) old sound due within false refl new found result
      (if_ok found _ _ (λ f. if_matched f _ _ _ _ (λ nothing. (no_blob_stands o old site nothing, no_blob_stands (without_limits o) old site nothing)) (λ r. blob_stands o old site (bytes_in r.0) r.1)) here)

  -- of bytes
  pub reads_blob : (new : Cursor) (found : Result (Option (List ℕ × ℕ)) AllocError) (result : Result (List ℕ) SerdeError)
      → IfOk found (λ it. MatchOption it ((b : List ℕ) (e : ℕ) → IsBlobAt b old.input old.at (end_depth o.enforce_strictness (depth old)) e → ⊥) (λ r. IsBlobAt r.0 old.input old.at (end_depth o.enforce_strictness (depth old)) r.1))
      → Takes old new found result → ReadsScalar (cbor_reader o) old new site scalars.Blob bytes result
  reads_blob new found result here = reads_bytes (λ b. b) new found result here

  -- of a big number
  module _ (keeps : o.limits ≡ kept) (s : Scalar) (timeless : (x : Item) → says s site.place.time x ≡ says s None x) {A : Type 0} (value : A → ScalarValue)
      (new : Cursor) (found : Result (Found (A × ℕ)) AllocError) (result : Result A SerdeError)
      (here : IfOk found (λ f. MatchFound f (λ r. MeansAt s old.input old.at (end_depth o.enforce_strictness (depth old)) (value r.0) r.1) (NothingAt s old.input old.at (end_depth o.enforce_strictness (depth old))) (ExceedsAt s old.input old.at (end_depth o.enforce_strictness (depth old))))) where
    pub reads_big : TakesWithin old new TooWide found result → ReadsScalar (cbor_reader o) old new site s value result
    reads_big =
        takes_within_limits (cbor_reader o) site s value (lawful o) old sound due within false refl new found result
        (if_ok found _ _ (λ f. if_found f _ _ _ _ _ _ (λ r. number_stands o old site s timeless (value r.0) r.1)
        (λ none. (no_number_stands o old site s timeless none, no_number_stands (without_limits o) old site s timeless none))
        (λ leaves. let there = number_exceeds o old site s timeless leaves in (there, exceeds_stands_not o old site s timeless keeps there))) here)

    pub answers_big : TakesWithin old new TooWide found result → AnswersWide (cbor_relations o) old site s result
    answers_big =
        answers_past_limits (cbor_reader o) site s value (lawful o) old sound due within false refl new found result
        (exceeds_stands_not o old site s timeless keeps)
        (if_ok found _ _ (λ f. if_found f _ _ _ _ _ _ (λ r. number_stands o old site s timeless (value r.0) r.1) (λ none. no_number_exceeds o old site s timeless none) (λ leaves. tt)) here)

  -- of an instant
  module _ (keeps : o.limits ≡ kept) (new : Cursor) (found : Found (ℤ × ℕ)) (result : Result ℤ SerdeError)
      (here : MatchFound found (λ r. MeansAt scalars.Timestamp old.input old.at (end_depth o.enforce_strictness (depth old)) (instant r.0) r.1)
      (NothingAt scalars.Timestamp old.input old.at (end_depth o.enforce_strictness (depth old))) (UncarriedAt scalars.Timestamp old.input old.at (end_depth o.enforce_strictness (depth old)))) where
    pub reads_instant : TakesWithin old new NotCarried (Ok found) result
        → ReadsScalar (cbor_reader o) old new site scalars.Timestamp instant result
    reads_instant =
        takes_what_is_carried (cbor_reader o) site scalars.Timestamp instant (lawful o) old sound due within false refl new (Ok found) result
        (if_found found _ _ _ _ _ _ (λ r. number_stands o old site scalars.Timestamp (λ x. refl) (instant r.0) r.1)
        (λ none. (no_number_stands o old site scalars.Timestamp (λ x. refl) none, no_number_stands (without_limits o) old site scalars.Timestamp (λ x. refl) none))
        (λ floats. let there = not_carried o old site scalars.Timestamp (λ x. refl) floats in (there, uncarried_stands_not o old site scalars.Timestamp (λ x. refl) keeps there)) here)

    pub answers_instant : TakesWithin old new NotCarried (Ok found) result → AnswersUncarried (cbor_relations o) old site scalars.Timestamp result
    answers_instant =
        answers_what_is_not (cbor_reader o) site scalars.Timestamp instant (lawful o) old sound due within false refl new (Ok found) result
        (uncarried_stands_not o old site scalars.Timestamp (λ x. refl) keeps)
        (if_found found _ _ _ _ _ _ (λ r. number_stands o old site scalars.Timestamp (λ x. refl) (instant r.0) r.1) (λ none. all_carried o old site scalars.Timestamp (λ x. refl) none) (λ floats. tt) here)

-- a read of an instant takes no memory
pub no_memory_taken : (old new : Cursor) (found : Found (ℤ × ℕ)) (result : Result ℤ SerdeError) → TakesWithin old new NotCarried (Ok found) result → IsErrOf result NoMemory → ⊥
no_memory_taken old new (FoundValue r) result taken is = let both : ◌≡◌ {A = Result ℤ SerdeError} (Ok r.0) (Err NoMemory) = sym taken.0 ∙ is in cc
no_memory_taken old new Nothing result taken is = let both : ◌≡◌ {A = Result ℤ SerdeError} (Err InvalidInput) (Err NoMemory) = sym taken.0 ∙ is in cc
no_memory_taken old new Beyond result taken is = let both : ◌≡◌ {A = Result ℤ SerdeError} (Err NotCarried) (Err NoMemory) = sym taken.0 ∙ is in cc

-- what a read answers is what was found
module _ {A : Type 0} (old new : Cursor) (result : Result A SerdeError) where
  pub found_is : (P : A → ℕ → Type 0) (found : Result (Option (A × ℕ)) AllocError) → IfOk found (λ o. IfSome o (λ r. P r.0 r.1)) → Takes old new found result
      → IfOk result (λ x. P x new.at)
  found_is P (Ok (Some r)) here taken = rw (taken.0, taken.1) here
  found_is P (Ok None) here taken = rw taken.0 tt
  found_is P (Err e) here taken = rw taken.0 tt

  pub value_is : (P : A → Type 0) (own : SerdeError) (found : Result (Found (A × ℕ)) AllocError) → IfOk found (λ f. MatchFound f (λ r. P r.0) (Unit {0}) (Unit {0}))
      → TakesWithin old new own found result → IfOk result P
  value_is P own (Ok (FoundValue r)) here taken = rw taken.0 here
  value_is P own (Ok Nothing) here taken = rw taken.0 tt
  value_is P own (Ok Beyond) here taken = rw taken.0 tt
  value_is P own (Err e) here taken = rw taken.0 tt
