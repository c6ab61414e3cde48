-- What a reader finds at the place of a number or an instant stands there, and where it finds nothing, nothing does; whatever the
-- grammar and the settings.
use Rattle.std.proofs.Common.{◌≡◌, ◌≤◌, ◌-◌, ◌^◌, ℕ, ℤ, List, length, drop, Bool, true, false, Option, Some, None, refl, sym, ◌∙◌, ap}
use Rattle.std.specs.Prelude.{Result, OnErr, IfOk, IfErr, IsOk, IsErr, IfSome, IfNone, IsSome, IsNone}
use Rattle.std.specs.declared.alloc.AllocError.{AllocError}
use Rattle.smithy_texts.specs.Ranges.{fits_signed}
use Rattle.smithy_declarations.specs.declared.shape_type.Scalar.{Scalar}
use Rattle.smithy_declarations.specs.declared.shape_type.Scalar.TheVariants as scalars
use Rattle.smithy_schema.specs.declared.error.SerdeError.{SerdeError}
use Rattle.smithy_schema.specs.declared.error.SerdeError.TheVariants.{InvalidInput, TooWide, NotCarried}
use Rattle.smithy_declarations.specs.Table.{scalar_place}
use Rattle.smithy_shapes.specs.Site.{Site}
use Rattle.smithy_declarations.specs.Value.{ScalarValue, whole, instant, Value, scalar_value, null_element}
use Rattle.smithy_schema.specs.Reading.{Cursor, depth, Relations, Reader, reader, StandsNot, Exceeds, Uncarried, ReadsScalar, AnswersWide, AnswersUncarried, passed_to, failed_at}
use Rattle.smithy_shapes.specs.Lemmas.Options.{same_some}
use Rattle.smithy_shapes.proofs.ScalarLemmas.{fits_more}
use Rattle.smithy_json_values.specs.Settings.{Settings, kept, without_limits}
use Rattle.smithy_json_values.specs.Scalar.{JsonScalar, a_boolean, a_number, a_string, number_text, number_says, integer_of, whole_of, says}
use Rattle.smithy_json_values.specs.LexicalGrammar.{LexicalGrammar, frames_of, in_grammar, token_rules, token_relations, LiesInGrammar}
use Rattle.smithy_json_values.specs.TypeMismatch.{scalar_mismatches}
use Rattle.smithy_json_values.specs.Spans.{without_ws}
use Rattle.smithy_json_values.specs.Private.Fits.{whole_is}
use Rattle.smithy_json_values.specs.Private.ScalarAtPlace.{IntegerLies, MeansAt, ExceedsAt, NothingAt, InstantLies, UncarriedLies, NoInstantLies}
use Rattle.smithy_json_values.specs.Private.TokenLaws.{lawful}
use Rattle.smithy_json_values.specs.Private.Wire.{tokens_are_wire}
use Rattle.smithy_json_values.proofs.GrammarReads.{says_stands, nothing_stands, says_exceeds, nothing_exceeds, says_uncarried, nothing_uncarried}
use Rattle.smithy_wire.specs.Rules.{Answer, no_meaning, wide, uncarried, answer_of, settled}
use Rattle.smithy_wire.specs.declared.found.Found.{Found}
use Rattle.smithy_wire.specs.Finding.{MatchFound, TakesWithin, told}
use Rattle.smithy_wire.specs.Narrowing.{IsNarrowed, IsWider}
use Rattle.smithy_wire.specs.Readers.{settled_answer}
use Rattle.smithy_wire.proofs.Bounds.{exceeds_not, uncarried_not}
use Rattle.smithy_wire.proofs.ScalarReads.{takes, takes_within_limits, answers_past_limits, takes_what_is_carried, answers_what_is_not, narrow_found, narrow_none, if_some, if_none, if_ok, if_found}

module _ (g : LexicalGrammar) (o : Settings) (c : Cursor) (site : Site) (s : Scalar) where
  abbrev pub Stands : ScalarValue → ℕ → Type 0
  Stands v e = (token_relations g o).stands c.input site.table (scalar_place s site.place.time) (depth c) c.at (scalar_value v) e

-- ---- a kind of integers of so many bits

-- the kind of integers is read so
pub record IsIntegerKind (g : LexicalGrammar) (o : Settings) (site : Site) (s : Scalar) (bits : ℕ) : Type 0 where
  pub says_whole : (x : JsonScalar) → says o s site.place.time x ≡ answer_of (whole_of o bits x)
  pub test : (raw : List ℕ) → in_grammar g s (a_number raw) ≡ g.is_integer raw

module _ (g : LexicalGrammar) (o : Settings) (c : Cursor) (site : Site) (s : Scalar) (bits : ℕ) (kind : IsIntegerKind g o site s bits) where
  settled_whole : (x : JsonScalar) → settled o.limits null_element (says o s site.place.time x) ≡ whole_of o bits x
  settled_whole x = ap (settled o.limits null_element) (kind.says_whole x) ∙ settled_answer o.limits null_element (whole_of o bits x)

  is_whole : (raw : List ℕ) (n : ℤ) → integer_of o raw ≡ Some n → fits_signed bits n ≡ true → whole_of o bits (a_number raw) ≡ Some (scalar_value (whole n))
  is_whole raw n is fits = rw (is, fits) refl

  pub integer_stands : (n : ℤ) (e : ℕ) → IntegerLies g o bits c.input c.at n e → Stands g o c site s (whole n) e
  integer_stands n e h =
      says_stands g o c site s (a_number h.raw) (scalar_value (whole n)) e (h.lies.0, kind.test h.raw ∙ h.lies.1)
      (settled_whole (a_number h.raw) ∙ is_whole h.raw n h.is h.fits)

  pub no_integer_stands : ((n : ℤ) (e : ℕ) → IntegerLies g o bits c.input c.at n e → ⊥) → StandsNot (token_relations g o) c site.table (scalar_place s site.place.time)
  no_integer_stands none = nothing_stands g o c site s (λ x v e lies means. by x v e lies (sym (settled_whole x) ∙ means))
    where
      by : (x : JsonScalar) (v : Value) (e : ℕ) → LiesInGrammar g s x c.input c.at e → whole_of o bits x ≡ Some v → ⊥
      by (a_boolean b) v e lies means = cc
      by (a_number raw) v e lies means =
          let n = whole_is o bits raw v means in
          none n.0 e (record { raw = raw; lies = (lies.0, sym (kind.test raw) ∙ lies.1); is = n.2; fits = n.3 })
      by (a_string raw) v e lies means = cc

-- at one place lies one integer
same_integer : (g : LexicalGrammar) (o : Settings) (input : List ℕ) (at : ℕ) (n m : ℤ) (e f : ℕ) → IntegerLies g o 64 input at n e → IntegerLies g o 64 input at m f → n ≡ m
same_integer g o input at n m e f h k =
    let same = ((tokens_are_wire g.is_strict).same_scalar input 0 (a_number h.raw) (a_number k.raw) at e f h.lies.0 k.lies.0).0 in
    let raws : h.raw ≡ k.raw = cc in
    same_some n m (sym h.is ∙ ap (integer_of o) raws ∙ k.is)

-- ---- big numbers, by a kind whose meaning is that of a text

module _ (g : LexicalGrammar) (o : Settings) (c : Cursor) (site : Site) (s : Scalar) (is_text : (x : JsonScalar) → says o s site.place.time x ≡ number_says s (number_text x)) where
  pub number_stands : (v : ScalarValue) (e : ℕ) → MeansAt g s c.input c.at v e → Stands g o c site s v e
  number_stands v e h =
      says_stands g o c site s h.found (scalar_value v) e h.lies (ap (settled o.limits null_element) (is_text h.found ∙ h.is))

  pub number_exceeds : ExceedsAt g s c.input c.at → Exceeds (token_relations g o) c site.table (scalar_place s site.place.time)
  number_exceeds h = says_exceeds g o c site s h.found h.e h.lies (is_text h.found ∙ h.is)

  pub no_number_stands : NothingAt g s c.input c.at → StandsNot (token_relations g o) c site.table (scalar_place s site.place.time)
  no_number_stands none = nothing_stands g o c site s (λ x v e lies means.
      let nothing : None ≡ Some v = sym (ap (settled o.limits null_element) (is_text x ∙ none x e lies)) ∙ means in
      cc)

  pub no_number_exceeds : NothingAt g s c.input c.at → Exceeds (token_relations g o) c site.table (scalar_place s site.place.time) → ⊥
  no_number_exceeds none = nothing_exceeds g o c site s (λ x e lies is.
      let both : ◌≡◌ {A = Answer Value} no_meaning wide = sym (is_text x ∙ none x e lies) ∙ is in
      cc)

  -- within the limits nothing stands where a number leaves them
  pub exceeds_stands_not : o.limits ≡ kept → Exceeds (token_relations g o) c site.table (scalar_place s site.place.time) → StandsNot (token_relations g o) c site.table (scalar_place s site.place.time)
  exceeds_stands_not keeps (e, there) v f stands =
      exceeds_not (frames_of g) (token_rules g o) (tokens_are_wire g.is_strict) keeps c.input site.table (scalar_place s site.place.time) s refl (depth c) c.at e there v f stands

-- ---- instants

module _ (g : LexicalGrammar) (o : Settings) (c : Cursor) (site : Site) where
  pub instant_stands : (n : ℤ) (e : ℕ) → InstantLies g o site.place.time c.input c.at n e → Stands g o c site scalars.Timestamp (instant n) e
  instant_stands n e h = says_stands g o c site scalars.Timestamp h.found (scalar_value (instant n)) e h.lies (ap (settled o.limits null_element) h.is)

  pub instant_uncarried : UncarriedLies g o site.place.time c.input c.at → Uncarried (token_relations g o) c site.table (scalar_place scalars.Timestamp site.place.time)
  instant_uncarried h = says_uncarried g o c site scalars.Timestamp h.found h.e h.lies h.is

  pub no_instant_stands : NoInstantLies g o site.place.time c.input c.at → StandsNot (token_relations g o) c site.table (scalar_place scalars.Timestamp site.place.time)
  no_instant_stands none = nothing_stands g o c site scalars.Timestamp (λ x v e lies means.
      let nothing : None ≡ Some v = sym (ap (settled o.limits null_element) (none x e lies)) ∙ means in
      cc)

  pub all_carried : NoInstantLies g o site.place.time c.input c.at → Uncarried (token_relations g o) c site.table (scalar_place scalars.Timestamp site.place.time) → ⊥
  all_carried none = nothing_uncarried g o c site scalars.Timestamp (λ x e lies is.
      let both : ◌≡◌ {A = Answer Value} no_meaning uncarried = sym (none x e lies) ∙ is in
      cc)

  -- within the limits nothing stands where a number isn't carried
  pub uncarried_stands_not : o.limits ≡ kept → Uncarried (token_relations g o) c site.table (scalar_place scalars.Timestamp site.place.time)
      → StandsNot (token_relations g o) c site.table (scalar_place scalars.Timestamp site.place.time)
  uncarried_stands_not keeps (e, there) v f stands =
      uncarried_not (frames_of g) (token_rules g o) (tokens_are_wire g.is_strict) keeps c.input site.table (scalar_place scalars.Timestamp site.place.time) scalars.Timestamp refl (depth c) c.at e there v f stands

-- ---- the answer of a read

module _ (g : LexicalGrammar) (o : Settings) (old : Cursor) (site : Site) (sound : old.failed ≡ false) (due : old.due ≡ true) (within : old.at ≤ length old.input) where
  abbrev w : Relations
  w = token_relations g o

  abbrev told_by : Reader
  told_by = reader w (token_relations g (without_limits o)) (o.enforce_strictness ≡ true) o.max_depth

  -- what comes is of another type
  abbrev pub is_other : Scalar → Bool
  is_other s = scalar_mismatches o s site.place.time (without_ws (drop old.at old.input))

  -- of a kind of integers of so many bits
  pub reads_integer : (s : Scalar) (bits : ℕ) → IsIntegerKind g o site s bits
      → (new : Cursor) (found : Option (ℤ × ℕ)) (result : Result ℤ SerdeError)
      → IfSome found (λ r. IntegerLies g o bits old.input old.at r.0 r.1) → IfNone found ((n : ℤ) (e : ℕ) → IntegerLies g o bits old.input old.at n e → ⊥)
      → IfOk result (λ x. IfSome found (λ r. (r.0 ≡ x) × (new ≡ passed_to old r.1))) → (IsOk result → IsSome found) → (IsErr result → IsNone found)
      → OnErr result (new ≡ failed_at old) → IfErr result (λ e. e ≡ InvalidInput)
      → ReadsScalar told_by old new site s whole (told (is_other s) result)
  reads_integer s bits kind new found result here none =
      takes told_by site s whole (lawful g o) old sound due within (is_other s) refl new found result
      (if_some found _ _ (λ r. integer_stands g o old site s bits kind r.0 r.1) here)
      (if_none found _ _ (λ nothing. (
        no_integer_stands g o old site s bits kind nothing,
        no_integer_stands g (without_limits o) old site s bits (record { says_whole = kind.says_whole; test = kind.test })
            (λ n e h. nothing n e (record { raw = h.raw; lies = h.lies; is = h.is; fits = h.fits })),
      )) none)

  -- the same in fewer bits
  pub reads_narrow : (s : Scalar) (bits : ℕ) → 2 ^ (bits - 1) ≤ 2 ^ 63 → IsIntegerKind g o site s bits
      → (new : Cursor) (broad found : Option (ℤ × ℕ)) (result : Result ℤ SerdeError)
      → IfSome broad (λ r. IntegerLies g o 64 old.input old.at r.0 r.1) → IfNone broad ((n : ℤ) (e : ℕ) → IntegerLies g o 64 old.input old.at n e → ⊥)
      → IfSome found (IsNarrowed bits broad) → IfNone found (IsWider bits broad)
      → IfOk result (λ x. IfSome found (λ r. (r.0 ≡ x) × (new ≡ passed_to old r.1))) → (IsOk result → IsSome found) → (IsErr result → IsNone found)
      → OnErr result (new ≡ failed_at old) → IfErr result (λ e. e ≡ InvalidInput)
      → ReadsScalar told_by old new site s whole (told (is_other s) result)
  reads_narrow s bits fewer kind new broad found result here none narrow wider =
      let At : ℕ → ℤ → ℕ → Type 0 = λ bits n e. IntegerLies g o bits old.input old.at n e in
      reads_integer s bits kind new found result
      (narrow_found At bits broad found (λ n e h fits. record { raw = h.raw; lies = h.lies; is = h.is; fits = fits }) here narrow)
      (narrow_none At bits broad found (λ n e h. (record { raw = h.raw; lies = h.lies; is = h.is; fits = fits_more bits 64 n fewer h.fits }, h.fits))
      (same_integer g o old.input old.at) here none wider)

  -- of a big number
  module _ (keeps : o.limits ≡ kept) (s : Scalar) (is_text : (x : JsonScalar) → says o s site.place.time x ≡ number_says s (number_text x)) {A : Type 0} (value : A → ScalarValue)
      (new : Cursor) (found : Result (Found (A × ℕ)) AllocError) (result : Result A SerdeError)
      (here : IfOk found (λ f. MatchFound f (λ r. MeansAt g s old.input old.at (value r.0) r.1) (NothingAt g s old.input old.at) (ExceedsAt g s old.input old.at)))
      (taken : TakesWithin old new TooWide found result) where
    pub reads_big : ReadsScalar told_by old new site s value (told (is_other s) result)
    reads_big =
        takes_within_limits told_by site s value (lawful g o) old sound due within (is_other s) refl new found result
        (if_ok found _ _ (λ f. if_found f _ _ _ _ _ _ (λ r. number_stands g o old site s is_text (value r.0) r.1)
        (λ none. (no_number_stands g o old site s is_text none, no_number_stands g (without_limits o) old site s is_text none))
        (λ wide. let there = number_exceeds g o old site s is_text wide in (there, exceeds_stands_not g o old site s is_text keeps there))) here)
        taken

    pub answers_big : AnswersWide w old site s (told (is_other s) result)
    answers_big =
        answers_past_limits told_by site s value (lawful g o) old sound due within (is_other s) refl new found result
        (exceeds_stands_not g o old site s is_text keeps)
        (if_ok found _ _ (λ f. if_found f _ _ _ _ _ _ (λ r. number_stands g o old site s is_text (value r.0) r.1) (no_number_exceeds g o old site s is_text) (λ wide. tt)) here)
        taken

  -- of an instant
  module _ (keeps : o.limits ≡ kept) (new : Cursor) (found : Result (Found (ℤ × ℕ)) AllocError) (result : Result ℤ SerdeError)
      (here : IfOk found (λ f. MatchFound f (λ r. InstantLies g o site.place.time old.input old.at r.0 r.1) (NoInstantLies g o site.place.time old.input old.at) (UncarriedLies g o site.place.time old.input old.at)))
      (taken : TakesWithin old new NotCarried found result) where
    pub reads_instant : ReadsScalar told_by old new site scalars.Timestamp instant (told (is_other scalars.Timestamp) result)
    reads_instant =
        takes_what_is_carried told_by site scalars.Timestamp instant (lawful g o) old sound due within (is_other scalars.Timestamp) refl new found result
        (if_ok found _ _ (λ f. if_found f _ _ _ _ _ _ (λ r. instant_stands g o old site r.0 r.1)
        (λ none. (no_instant_stands g o old site none, no_instant_stands g (without_limits o) old site none))
        (λ other. let there = instant_uncarried g o old site other in (there, uncarried_stands_not g o old site keeps there))) here)
        taken

    pub answers_instant : AnswersUncarried w old site scalars.Timestamp (told (is_other scalars.Timestamp) result)
    answers_instant =
        answers_what_is_not told_by site scalars.Timestamp instant (lawful g o) old sound due within (is_other scalars.Timestamp) refl new found result
        (uncarried_stands_not g o old site keeps)
        (if_ok found _ _ (λ f. if_found f _ _ _ _ _ _ (λ r. instant_stands g o old site r.0 r.1) (all_carried g o old site) (λ other. tt)) here)
        taken
