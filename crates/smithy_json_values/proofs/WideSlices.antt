-- A number that leaves its limits somewhere, or isn't carried, is a slice of the input.
use Rattle.std.proofs.Common.{◌≡◌, ℕ, ℤ, Bool, true, false, List, [], ◌∷◌, ◌++◌, take, drop, Option, Some, None, refl, sym, ◌∙◌, ap, subst, append_assoc, inl, inr}
use Rattle.std.specs.Prelude.{if◌then◌else◌}
use Rattle.std.proofs.lemmas.List.{take-append-drop}
use Rattle.smithy_declarations.specs.declared.shape_type.Scalar.{Scalar}
use Rattle.smithy_declarations.specs.declared.shape_type.Scalar.TheVariants as scalars
use Rattle.smithy_declarations.specs.declared.shape_type.TimestampFormat.{TimestampFormat}
use Rattle.smithy_declarations.specs.Value.{instant, Value, scalar_value}
use Rattle.smithy_instants.specs.Instant.{is_instant}
use Rattle.smithy_instants.specs.Epoch.{epoch_nanos}
use Rattle.smithy_texts.specs.Decimal.{integer_form, decimal_form}
use Rattle.smithy_json_grammar.specs.Ascii.{quotation_mark}
use Rattle.smithy_json_grammar.specs.HeldNumber.{number_of}
use Rattle.smithy_json_grammar.specs.Tree.{number}
use Rattle.smithy_declarations.specs.declared.place.Place.{Place}
use Rattle.smithy_declarations.specs.Table.{Table, document, kind_of}
use Rattle.smithy_types.specs.declared.number.Number.{Number}
use Rattle.smithy_wire.specs.Frames.{UncarriedAt}
use Rattle.smithy_json_values.specs.Scalar.{JsonScalar, a_boolean, a_number, a_string, tree_of, number_text, big_number, number_says, takes_seconds, seconds_read_as, timestamp_says, says, held_says, document_says}
use Rattle.smithy_json_values.specs.Standing.{TreeLies, json_frames, standard_rules, standard_relations}
use Rattle.smithy_json_values.specs.LexicalGrammar.{rfc_8259, in_grammar}
use Rattle.smithy_json_values.specs.Private.TokenGrammar.{token_is_tree, answer_in}
use Rattle.smithy_json_values.specs.Settings.{Settings}
use Rattle.smithy_json_values.specs.Uncarried.{IsUncarriedJson, HasUnheldNumber}
use Rattle.smithy_json_values.specs.Wide.{IsWideJson}
use Rattle.smithy_wire.specs.Rules.{Answer, means, no_meaning, wide, uncarried}
use Rattle.smithy_wire.proofs.Bounds.{answer_not_wide, answer_is_carried, bounded_is_carried}

text_wide : (s : Scalar) (o : Option (List ℕ)) → number_says s o ≡ wide → (t : List ℕ) × (o ≡ Some t) × (big_number s t ≡ wide)
text_wide s None h = cc
text_wide s (Some t) h = (t, refl, h)

seconds_not_wide : (o : Option ℤ) → seconds_read_as o ≡ wide → ⊥
seconds_not_wide None h = cc
seconds_not_wide (Some n) h = not_wide (is_instant n) h
  where
    not_wide : (b : Bool) → (if b then means (scalar_value (instant n)) else no_meaning) ≡ wide → ⊥
    not_wide true h = cc
    not_wide false h = cc

-- a number says something only where it may stand for an instant
taken_seconds : (takes : Bool) (a b : Answer Value) → (no_meaning ≡ b → ⊥) → (if takes then a else no_meaning) ≡ b → a ≡ b
taken_seconds true a b other h = h
taken_seconds false a b other h = absurd (other h)

timestamp_not_wide : (c : Settings) (time : Option TimestampFormat) (x : JsonScalar) → timestamp_says c time x ≡ wide → ⊥
timestamp_not_wide c time (a_number raw) h =
    seconds_not_wide (epoch_nanos raw) (taken_seconds (takes_seconds c time) (seconds_read_as (epoch_nanos raw)) wide (λ no. cc) h)
timestamp_not_wide c time (a_boolean b) h = answer_not_wide _ h
timestamp_not_wide c time (a_string raw) h = answer_not_wide _ h

-- only the text of a big number is too wide
wide_text : (c : Settings) (s : Scalar) (time : Option TimestampFormat) (x : JsonScalar) → says c s time x ≡ wide → (t : List ℕ) × (number_text x ≡ Some t) × (big_number s t ≡ wide)
wide_text c scalars.Boolean time x h = absurd (answer_not_wide _ h)
wide_text c scalars.Byte time x h = absurd (answer_not_wide _ h)
wide_text c scalars.Short time x h = absurd (answer_not_wide _ h)
wide_text c scalars.Integer time x h = absurd (answer_not_wide _ h)
wide_text c scalars.Long time x h = absurd (answer_not_wide _ h)
wide_text c scalars.String time x h = absurd (answer_not_wide _ h)
wide_text c scalars.Blob time x h = absurd (answer_not_wide _ h)
wide_text c scalars.Timestamp time x h = absurd (timestamp_not_wide c time x h)
wide_text c scalars.BigInteger time x h = text_wide scalars.BigInteger (number_text x) h
wide_text c scalars.BigDecimal time x h = text_wide scalars.BigDecimal (number_text x) h

number_parts : (i before raw rest : List ℕ) (a : ℕ) → drop a i ≡ before ++ (raw ++ rest) → i ≡ (take a i ++ before) ++ (raw ++ rest)
number_parts i before raw rest a is = sym (take-append-drop a i) ∙ ap (λ s. take a i ++ s) is ∙ sym (append_assoc (take a i) before (raw ++ rest))

string_parts : (i before raw rest : List ℕ) (a q : ℕ) → drop a i ≡ before ++ ((q ∷ (raw ++ q ∷ [])) ++ rest) → i ≡ (take a i ++ (before ++ q ∷ [])) ++ (raw ++ q ∷ rest)
string_parts i before raw rest a q is = sym (take-append-drop a i) ∙ ap (λ s. take a i ++ s) is ∙ regroup (take a i) before raw rest q
  where
    regroup : (front before raw rest : List ℕ) (q : ℕ) → front ++ (before ++ ((q ∷ (raw ++ q ∷ [])) ++ rest)) ≡ (front ++ (before ++ q ∷ [])) ++ (raw ++ q ∷ rest)
    regroup front before raw rest q = simp append_assoc

wide_slice : (c : Settings) (s : Scalar) (time : Option TimestampFormat) (x : JsonScalar) (i : List ℕ) (a e : ℕ) → TreeLies 1 (tree_of x) i a e → says c s time x ≡ wide → IsWideJson s i
wide_slice c s time x i a e lies leaves = by x lies (wide_text c s time x leaves)
  where
    by : (x : JsonScalar) → TreeLies 1 (tree_of x) i a e → (t : List ℕ) × (number_text x ≡ Some t) × (big_number s t ≡ wide) → IsWideJson s i
    by (a_boolean b) lies (t, is, leaves) = cc
    by (a_number raw) lies (t, is, leaves) =
        let front = lies.0.2 in
        let same : t ≡ raw = cc in
        (take a i ++ front.0, raw, drop e i, number_parts i front.0 raw (drop e i) a (front.2 ∙ ap (λ s. front.0 ++ (s ++ drop e i)) front.4.0), (t, inl same, leaves))
    by (a_string raw) lies (t, is, leaves) =
        let front = lies.0.2 in (
          take a i ++ (front.0 ++ quotation_mark ∷ []),
          raw,
          quotation_mark ∷ drop e i,
          string_parts i front.0 raw (drop e i) a quotation_mark (front.2 ∙ ap (λ s. front.0 ++ (s ++ drop e i)) front.4.0),
          (t, inr is, leaves),
        )

-- ---- what isn't carried

-- a number of seconds that isn't carried has no nanoseconds
no_nanos : (o : Option ℤ) → seconds_read_as o ≡ uncarried → o ≡ None
no_nanos None h = refl
no_nanos (Some n) h = absurd (carried (is_instant n) h)
  where
    carried : (b : Bool) → (if b then means (scalar_value (instant n)) else no_meaning) ≡ uncarried → ⊥
    carried true h = cc
    carried false h = cc

-- it is a number
uncarried_number : (c : Settings) (time : Option TimestampFormat) (x : JsonScalar) → timestamp_says c time x ≡ uncarried → (raw : List ℕ) × (x ≡ a_number raw) × (epoch_nanos raw ≡ None)
uncarried_number c time (a_number raw) h =
    (raw, refl, no_nanos (epoch_nanos raw) (taken_seconds (takes_seconds c time) (seconds_read_as (epoch_nanos raw)) uncarried (λ no. cc) h))
uncarried_number c time (a_boolean b) h = absurd (answer_is_carried _ h)
uncarried_number c time (a_string raw) h = absurd (answer_is_carried _ h)

number_is_carried : (s : Scalar) (o : Option (List ℕ)) → number_says s o ≡ uncarried → ⊥
number_is_carried s None h = cc
number_is_carried scalars.BigInteger (Some raw) h = bounded_is_carried _ _ (integer_form raw) h
number_is_carried scalars.BigDecimal (Some raw) h = bounded_is_carried _ _ (decimal_form raw) h
number_is_carried _ (Some raw) h = cc

-- of an instant alone
uncarried_kind : (c : Settings) (s : Scalar) (time : Option TimestampFormat) (x : JsonScalar) → says c s time x ≡ uncarried → (s ≡ scalars.Timestamp) × (timestamp_says c time x ≡ uncarried)
uncarried_kind c scalars.Boolean time x h = absurd (answer_is_carried _ h)
uncarried_kind c scalars.Byte time x h = absurd (answer_is_carried _ h)
uncarried_kind c scalars.Short time x h = absurd (answer_is_carried _ h)
uncarried_kind c scalars.Integer time x h = absurd (answer_is_carried _ h)
uncarried_kind c scalars.Long time x h = absurd (answer_is_carried _ h)
uncarried_kind c scalars.String time x h = absurd (answer_is_carried _ h)
uncarried_kind c scalars.Blob time x h = absurd (answer_is_carried _ h)
uncarried_kind c scalars.Timestamp time x h = (refl, h)
uncarried_kind c scalars.BigInteger time x h = absurd (number_is_carried scalars.BigInteger (number_text x) h)
uncarried_kind c scalars.BigDecimal time x h = absurd (number_is_carried scalars.BigDecimal (number_text x) h)

uncarried_slice : (c : Settings) (s : Scalar) (time : Option TimestampFormat) (x : JsonScalar) (i : List ℕ) (a e : ℕ) → TreeLies 1 (tree_of x) i a e → says c s time x ≡ uncarried
    → (s ≡ scalars.Timestamp) × IsUncarriedJson i
uncarried_slice c s time x i a e lies h =
    let (kind, says) = uncarried_kind c s time x h in
    let (raw, is, none) = uncarried_number c time x says in
    (kind, number_there raw none (subst (λ y. TreeLies 1 (tree_of y) i a e) is lies))
  where
    number_there : (raw : List ℕ) → epoch_nanos raw ≡ None → TreeLies 1 (number raw) i a e → IsUncarriedJson i
    number_there raw none lies =
        let front = lies.0.2 in
        (take a i ++ front.0, raw, drop e i, number_parts i front.0 raw (drop e i) a (front.2 ∙ ap (λ s. front.0 ++ (s ++ drop e i)) front.4.0), (front.4.1, none))

-- ---- in documents

-- a scalar that no document carries is a number that none holds
other_number : (x : JsonScalar) → document_says x ≡ uncarried → (raw : List ℕ) × (x ≡ a_number raw) × (number_of raw ≡ None)
other_number (a_boolean b) h = cc
other_number (a_number raw) h = (raw, refl, by (number_of raw) h)
  where
    by : (o : Option Number) → held_says o ≡ uncarried → o ≡ None
    by None h = refl
    by (Some n) h = cc
other_number (a_string raw) h = absurd (answer_is_carried _ h)

other_slice : (x : JsonScalar) (i : List ℕ) (a e : ℕ) → TreeLies 1 (tree_of x) i a e → document_says x ≡ uncarried → HasUnheldNumber i
other_slice x i a e lies h =
    let (raw, is, none) = other_number x h in
    number_there raw none (subst (λ y. TreeLies 1 (tree_of y) i a e) is lies)
  where
    number_there : (raw : List ℕ) → number_of raw ≡ None → TreeLies 1 (number raw) i a e → HasUnheldNumber i
    number_there raw none lies =
        let front = lies.0.2 in
        (take a i ++ front.0, raw, drop e i, number_parts i front.0 raw (drop e i) a (front.2 ∙ ap (λ s. front.0 ++ (s ++ drop e i)) front.4.0), (front.4.1, none))

-- ---- by tokens

-- what a token means that lies somewhere, in the grammar alone
pub wide_token : (c : Settings) (s : Scalar) (time : Option TimestampFormat) (x : JsonScalar) (i : List ℕ) (d a e : ℕ) → json_frames.scalar i d x a e
    → (if in_grammar rfc_8259 s x then says c s time x else no_meaning) ≡ wide → IsWideJson s i
wide_token c s time x i d a e lies h =
    let there = answer_in s x (says c s time x) wide (λ no. cc) h in
    wide_slice c s time x i a e (token_is_tree x i d a e lies there.0) there.1

pub uncarried_token : (c : Settings) (s : Scalar) (time : Option TimestampFormat) (x : JsonScalar) (i : List ℕ) (d a e : ℕ) → json_frames.scalar i d x a e
    → (if in_grammar rfc_8259 s x then says c s time x else no_meaning) ≡ uncarried → (s ≡ scalars.Timestamp) × IsUncarriedJson i
uncarried_token c s time x i d a e lies h =
    let there = answer_in s x (says c s time x) uncarried (λ no. cc) h in
    uncarried_slice c s time x i a e (token_is_tree x i d a e lies there.0) there.1

pub other_token : (x : JsonScalar) (i : List ℕ) (d a e : ℕ) → json_frames.scalar i d x a e
    → (if in_grammar rfc_8259 scalars.BigDecimal x then document_says x else no_meaning) ≡ uncarried → HasUnheldNumber i
other_token x i d a e lies h =
    let there = answer_in scalars.BigDecimal x (document_says x) uncarried (λ no. cc) h in
    other_slice x i a e (token_is_tree x i d a e lies there.0) there.1

-- so what isn't carried at a place of documents holds such a number
pub uncarried_document : (c : Settings) (i : List ℕ) (t : Table) (p : Place) → kind_of t p ≡ document → (d a e : ℕ) → (standard_relations c).uncarried i t p d a e → HasUnheldNumber i
uncarried_document c i t p kind d a e h = by (subst (λ k. UncarriedAt json_frames (standard_rules c) k p.time i d a e) kind h)
  where
    by : UncarriedAt json_frames (standard_rules c) document p.time i d a e → HasUnheldNumber i
    by (n, b, x, ahead, lies, says) = other_token x i n b e lies says
