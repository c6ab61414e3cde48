-- What is found in a scalar of JSON, by what the calls answered that look for a value of a kind.
use Rattle.std.specs.Prelude.{◌≡◌, ◌≤◌, ◌-◌, ◌^◌, ℕ, ℤ, List, Bool, true, false, Option, Some, None, is_some, IfSome, IfNone, option_map, if◌then◌else◌, refl}
use Rattle.std.proofs.Common.{sym, ◌∙◌, ap, subst, lit≤}
use Rattle.smithy_types.specs.Document as documents
use Rattle.smithy_types.specs.Document.{Document}
use Rattle.smithy_types.specs.declared.number.Number.{Number}
use Rattle.smithy_texts.specs.Ranges.{fits_signed}
use Rattle.smithy_declarations.specs.declared.shape_type.Scalar.{Scalar}
use Rattle.smithy_declarations.specs.declared.shape_type.Scalar.TheVariants as scalars
use Rattle.smithy_declarations.specs.declared.shape_type.TimestampFormat.{TimestampFormat}
use Rattle.smithy_declarations.specs.Value.{ScalarValue}
use Rattle.smithy_shapes.proofs.ScalarLemmas.{fits_more}
use Rattle.smithy_json_grammar.specs.Unescape.{unescaped}
use Rattle.smithy_json_grammar.specs.HeldNumber.{number_of}
use Rattle.smithy_json_values.specs.Settings.{Settings}
use Rattle.smithy_json_values.specs.Scalar.{JsonScalar, a_boolean, a_number, a_string, boolean_of, integer_of, whole_of, text_of, bytes_of, number_text, number_says, timestamp_says, held_says, document_says}
use Rattle.smithy_json_values.specs.LexicalGrammar.{LexicalGrammar, rfc_8259, frames_of, in_grammar, is_skipped_in, LiesInGrammar, NodeLies}
use Rattle.smithy_json_values.specs.Private.ScalarAtPlace.{Finds, TextLies, BlobLies, IntegerLies, FindsWithin, InstantLies, UncarriedLies, NoInstantLies}
use Rattle.smithy_json_values.specs.Private.TokenGrammar.{good_in}
use Rattle.smithy_json_values.proofs.OpenContainers.{grammar_is_wire}
use Rattle.smithy_wire.specs.declared.found.Found.{Found}
use Rattle.smithy_wire.specs.declared.found.Found.TheVariants as founds
use Rattle.smithy_wire.specs.Finding.{MatchFound}
use Rattle.smithy_wire.specs.Narrowing.{IsNarrowed, IsWider}
use Rattle.smithy_wire.specs.Node.{leaf}
use Rattle.smithy_wire.specs.Rules.{answer_of}
use Rattle.smithy_lint.specs.declared.finding.Kind.TheVariants.{Mismatch, Wide, NotCarried}
use Rattle.smithy_lint.specs.Private.Bodies.{verdict}
use Rattle.smithy_lint.specs.Private.JsonPlaces.{ValueLies}
use Rattle.smithy_lint.specs.Private.Verdicts.{unless, finding_of}

-- a scalar of a body is in the grammar, as each kind is read
pub leaf_in : (g : LexicalGrammar) → g ≡ rfc_8259 → (i : List ℕ) (s : Scalar) (d : ℕ) (x : JsonScalar) (at e : ℕ) → ValueLies g i d (leaf x) at e → LiesInGrammar g s x i at e
leaf_in g standard i s d x at e v =
    (v.0.0, subst (λ (l : LexicalGrammar). is_skipped_in l x ≡ true → in_grammar l s x ≡ true) (sym standard) (good_in s x) v.0.1)

pub no_boolean : {A : Type 0} (o : Option A) (P : Type 0) → is_some o ≡ false → IfNone o P → P
no_boolean None P is none = none
no_boolean (Some r) P is none = cc

module _ (g : LexicalGrammar) (i : List ℕ) (at e : ℕ) (x : JsonScalar) (lies : (frames_of g).scalar i 0 x at e) where
  -- at one place lies one scalar
  same : (y : JsonScalar) (f : ℕ) → (frames_of g).scalar i 0 y at f → y ≡ x
  same y f there = ((grammar_is_wire g).same_scalar i 0 y x at f e there lies).0

  pub boolean_verdict : (o : Option (Bool × ℕ)) → IfSome o (λ r. (frames_of g).scalar i 0 (a_boolean r.0) at r.1)
      → IfNone o ((b : Bool) (f : ℕ) → (frames_of g).scalar i 0 (a_boolean b) at f → ⊥) → unless (is_some o) ≡ verdict (answer_of (boolean_of x))
  boolean_verdict (Some r) found none = ap (λ y. verdict (answer_of (boolean_of y))) (same (a_boolean r.0) r.1 found)
  boolean_verdict None found none = by x lies
    where
      by : (y : JsonScalar) → (frames_of g).scalar i 0 y at e → Some Mismatch ≡ verdict (answer_of (boolean_of y))
      by (a_boolean b) there = absurd (none b e there)
      by (a_number raw) there = refl
      by (a_string raw) there = refl

  module _ (c : Settings) (good : in_grammar g scalars.Long x ≡ true) where
    -- an integer of so many bits
    whole_is : (bits : ℕ) (raw : List ℕ) (n : ℤ) (fits : Bool) → integer_of c raw ≡ Some n → fits_signed bits n ≡ fits
        → unless fits ≡ verdict (answer_of (whole_of c bits (a_number raw)))
    whole_is bits raw n true is fits = rw (is, fits) refl
    whole_is bits raw n false is fits = rw (is, fits) refl

    none_whole : (bits : ℕ) → 2 ^ (bits - 1) ≤ 2 ^ (64 - 1) → ((n : ℤ) (f : ℕ) → IntegerLies g c 64 i at n f → ⊥) → Some Mismatch ≡ verdict (answer_of (whole_of c bits x))
    none_whole bits fewer none = by x lies good
      where
        number : (raw : List ℕ) → LiesInGrammar g scalars.Long (a_number raw) i at e → (o : Option ℤ) → integer_of c raw ≡ o → Some Mismatch ≡ verdict (answer_of (whole_of c bits (a_number raw)))
        number raw there None is = rw is refl
        number raw there (Some n) is = fitting (fits_signed bits n) refl
          where
            fitting : (fits : Bool) → fits_signed bits n ≡ fits → Some Mismatch ≡ verdict (answer_of (whole_of c bits (a_number raw)))
            fitting true fits = absurd (none n e (record { raw = raw; lies = there; is = is; fits = fits_more bits 64 n fewer fits }))
            fitting false fits = whole_is bits raw n false is fits

        by : (y : JsonScalar) → (frames_of g).scalar i 0 y at e → in_grammar g scalars.Long y ≡ true → Some Mismatch ≡ verdict (answer_of (whole_of c bits y))
        by (a_boolean b) there passes = refl
        by (a_string raw) there passes = refl
        by (a_number raw) there passes = number raw (there, passes) (integer_of c raw) refl

    pub whole_verdict : (bits : ℕ) → 2 ^ (bits - 1) ≤ 2 ^ (64 - 1) → (o : Option (ℤ × ℕ)) → IfSome o (λ r. IntegerLies g c 64 i at r.0 r.1)
        → IfNone o ((n : ℤ) (f : ℕ) → IntegerLies g c 64 i at n f → ⊥)
        → (narrow : Option (ℤ × ℕ)) → IfSome narrow (IsNarrowed bits o) → IfNone narrow (IsWider bits o)
        → unless (is_some narrow) ≡ verdict (answer_of (whole_of c bits x))
    whole_verdict bits fewer (Some r) found none (Some q) narrowed wider =
        let number : r ≡ q = cc in
        whole_is bits found.raw r.0 true found.is (ap (λ (p : ℤ × ℕ). fits_signed bits p.0) number ∙ narrowed.1)
        ∙ ap (λ y. verdict (answer_of (whole_of c bits y))) (same (a_number found.raw) r.1 found.lies.0)
    whole_verdict bits fewer (Some r) found none None narrowed wider =
        whole_is bits found.raw r.0 false found.is wider ∙ ap (λ y. verdict (answer_of (whole_of c bits y))) (same (a_number found.raw) r.1 found.lies.0)
    whole_verdict bits fewer None found none (Some q) narrowed wider = let no = narrowed.0 in cc
    whole_verdict bits fewer None found none None narrowed wider = none_whole bits fewer none

    pub long_verdict : (o : Option (ℤ × ℕ)) → IfSome o (λ r. IntegerLies g c 64 i at r.0 r.1)
        → IfNone o ((n : ℤ) (f : ℕ) → IntegerLies g c 64 i at n f → ⊥) → unless (is_some o) ≡ verdict (answer_of (whole_of c 64 x))
    long_verdict (Some r) found none =
        whole_is 64 found.raw r.0 true found.is found.fits ∙ ap (λ y. verdict (answer_of (whole_of c 64 y))) (same (a_number found.raw) r.1 found.lies.0)
    long_verdict None found none = none_whole 64 (lit≤ tt) none

  -- texts and bytes of strings
  text_says : {V : Type 0} (f : List ℕ → V) (raw : List ℕ) (o : Option (List ℕ)) → unescaped raw ≡ o → unless (is_some o) ≡ verdict (answer_of (option_map f (unescaped raw)))
  text_says f raw None is = rw is refl
  text_says f raw (Some t) is = rw is refl

  string_verdict : {A V : Type 0} (f : List ℕ → V) (shown : A → List ℕ) (o : Option (A × ℕ)) → Finds (TextLies g i at) shown o
      → (raw : List ℕ) → LiesInGrammar g scalars.String (a_string raw) i at e → unless (is_some o) ≡ verdict (answer_of (option_map f (unescaped raw)))
  string_verdict f shown (Some r) found raw there =
      let one : found.raw ≡ raw = let y : a_string found.raw ≡ a_string raw = ((grammar_is_wire g).same_scalar i 0 (a_string found.raw) (a_string raw) at r.1 e found.lies.0 there.0).0 in cc in
      text_says f raw (Some (shown r.0)) (ap unescaped (sym one) ∙ found.is)
  string_verdict f shown None none raw there = by (unescaped raw) refl
    where
      by : (o : Option (List ℕ)) → unescaped raw ≡ o → Some Mismatch ≡ verdict (answer_of (option_map f (unescaped raw)))
      by None is = rw is refl
      by (Some t) is = absurd (none t e (record { raw = raw; lies = there; is = is }))

  pub text_verdict : {A V : Type 0} (f : List ℕ → V) (shown : A → List ℕ) (o : Option (A × ℕ)) → Finds (TextLies g i at) shown o → in_grammar g scalars.String x ≡ true
      → unless (is_some o) ≡ verdict (answer_of (option_map f (text_of x)))
  text_verdict {A = A} f shown o finds good = by x lies good
    where
      no_string : (y : JsonScalar) → (frames_of g).scalar i 0 y at e → text_of y ≡ None → (o : Option (A × ℕ)) → Finds (TextLies g i at) shown o
          → unless (is_some o) ≡ verdict (answer_of (option_map f (text_of y)))
      no_string y there none None finds = rw none refl
      no_string y there none (Some r) finds =
          let one : a_string finds.raw ≡ y = ((grammar_is_wire g).same_scalar i 0 (a_string finds.raw) y at r.1 e finds.lies.0 there).0 in
          let both : Some (shown r.0) ≡ None = sym finds.is ∙ ap text_of one ∙ none in cc

      by : (y : JsonScalar) → (frames_of g).scalar i 0 y at e → in_grammar g scalars.String y ≡ true → unless (is_some o) ≡ verdict (answer_of (option_map f (text_of y)))
      by (a_boolean b) there passes = no_string (a_boolean b) there refl o finds
      by (a_number raw) there passes = no_string (a_number raw) there refl o finds
      by (a_string raw) there passes = string_verdict f shown o finds raw (there, passes)

  pub blob_verdict : {V : Type 0} (f : List ℕ → V) (o : Option (List ℕ × ℕ)) → Finds (BlobLies g i at) (λ blob. blob) o → in_grammar g scalars.Blob x ≡ true
      → unless (is_some o) ≡ verdict (answer_of (option_map f (bytes_of x)))
  blob_verdict f (Some r) finds good =
      let one : bytes_of x ≡ Some r.0 = ap bytes_of (sym (same (a_string finds.raw) r.1 finds.lies.0)) ∙ finds.is in rw one refl
  blob_verdict f None none good = by x lies good
    where
      string : (raw : List ℕ) → LiesInGrammar g scalars.String (a_string raw) i at e → (o : Option (List ℕ)) → bytes_of (a_string raw) ≡ o
          → Some Mismatch ≡ verdict (answer_of (option_map f (bytes_of (a_string raw))))
      string raw there None is = rw is refl
      string raw there (Some b) is = absurd (none b e (record { raw = raw; lies = there; is = is }))

      by : (y : JsonScalar) → (frames_of g).scalar i 0 y at e → in_grammar g scalars.Blob y ≡ true → Some Mismatch ≡ verdict (answer_of (option_map f (bytes_of y)))
      by (a_boolean b) there passes = refl
      by (a_number raw) there passes = refl
      by (a_string raw) there passes = string raw (there, passes) (bytes_of (a_string raw)) refl

  -- big numbers and instants
  pub big_verdict : {A : Type 0} (s : Scalar) (shown : A → ScalarValue) (f : Found (A × ℕ)) → FindsWithin g s shown i at f → in_grammar g s x ≡ true
      → finding_of f Wide ≡ verdict (number_says s (number_text x))
  big_verdict s shown (founds.Value r) found good =
      sym (ap verdict (ap (λ y. number_says s (number_text y)) (sym (same found.found r.1 found.lies.0)) ∙ found.is))
  big_verdict s shown founds.Nothing none good = sym (ap verdict (none x e (lies, good)))
  big_verdict s shown founds.Beyond beyond good =
      sym (ap verdict (ap (λ y. number_says s (number_text y)) (sym (same beyond.found beyond.e beyond.lies.0)) ∙ beyond.is))

  pub instant_verdict : (c : Settings) (time : Option TimestampFormat) (f : Found (ℤ × ℕ))
      → MatchFound f (λ r. InstantLies g c time i at r.0 r.1) (NoInstantLies g c time i at) (UncarriedLies g c time i at) → in_grammar g scalars.Timestamp x ≡ true
      → finding_of f NotCarried ≡ verdict (timestamp_says c time x)
  instant_verdict c time (founds.Value r) found good =
      sym (ap verdict (ap (timestamp_says c time) (sym (same found.found r.1 found.lies.0)) ∙ found.is))
  instant_verdict c time founds.Nothing none good = sym (ap verdict (none x e (lies, good)))
  instant_verdict c time founds.Beyond beyond good =
      sym (ap verdict (ap (timestamp_says c time) (sym (same beyond.found beyond.e beyond.lies.0)) ∙ beyond.is))

  -- ---- where a document is due

  pub document_boolean : (o : Option (Bool × ℕ)) → is_some o ≡ true → IfSome o (λ r. (frames_of g).scalar i 0 (a_boolean r.0) at r.1) → None ≡ verdict (document_says x)
  document_boolean None is found = cc
  document_boolean (Some r) is found = ap (λ y. verdict (document_says y)) (same (a_boolean r.0) r.1 found)

  held_verdict : (raw : List ℕ) (o : Option Number) → number_of raw ≡ o → (if is_some o then None else Some NotCarried) ≡ verdict (held_says (number_of raw))
  held_verdict raw None is = rw is refl
  held_verdict raw (Some n) is = rw is refl

  pub document_number : (raw : List ℕ) (f : ℕ) → (frames_of g).scalar i 0 (a_number raw) at f → (o : Option Number) → number_of raw ≡ o
      → (if is_some o then None else Some NotCarried) ≡ verdict (document_says x)
  document_number raw f there o is = held_verdict raw o is ∙ ap (λ y. verdict (document_says y)) (same (a_number raw) f there)

  pub document_text : {A : Type 0} (shown : A → List ℕ) (o : Option (A × ℕ)) → Finds (TextLies g i at) shown o → in_grammar g scalars.String x ≡ true
      → ((b : Bool) (f : ℕ) → (frames_of g).scalar i 0 (a_boolean b) at f → ⊥)
      → ((raw : List ℕ) (f : ℕ) → NodeLies g (is_skipped_in g) 1 (leaf (a_number raw)) i at f → ⊥) → is_skipped_in g x ≡ true
      → unless (is_some o) ≡ verdict (document_says x)
  document_text shown o finds good no_boolean no_number passes = by x lies good passes
    where
      by : (y : JsonScalar) → (frames_of g).scalar i 0 y at e → in_grammar g scalars.String y ≡ true → is_skipped_in g y ≡ true → unless (is_some o) ≡ verdict (document_says y)
      by (a_boolean b) there good passes = absurd (no_boolean b e there)
      by (a_number raw) there good passes = absurd (no_number raw e (there, passes))
      by (a_string raw) there good passes = string_verdict documents.text shown o finds raw (there, good)
