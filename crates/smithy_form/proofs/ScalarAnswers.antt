-- What the readings of scalars know where they return.
use Rattle.std.proofs.Common.{◌≡◌, ◌≢◌, ◌<◌, ◌^◌, ℕ, ℤ, List, [], Bool, true, false, not, Option, Some, None, IsTrue, unsigned_abs, w64, is_some, unwrap_or, option_map, codes, Result, Ok, Err, FitsSigned, IsUtf8, refl, sym, ap, ◌∙◌, subst, arith, lit≤}
use Rattle.std.specs.Prelude.{bytes_eq, ◌&&◌}
use Rattle.std.specs.Fmt.{signed_decimal}
use Rattle.std.specs.Int.{w128}
use Rattle.std.proofs.lemmas.Bool.{and_parts}
use Rattle.std.proofs.lemmas.Bool.Decides.{nat_tests}
use Rattle.std.proofs.lemmas.Int.{ints, fits_signed_from_abs}
use Rattle.std.proofs.lemmas.Slice.Eq.{bytes_eq-Decides}
use Rattle.std.proofs.lemmas.Str.{is_utf8-from_IsUtf8}
use Rattle.smithy_texts.specs.Base64Text.{blob_of}
use Rattle.smithy_texts.specs.Numeral.{number}
use Rattle.smithy_texts.specs.Decimal.{mantissa, net_exponent, written_exponent, exponents_fit, decimal_text}
use Rattle.smithy_texts.specs.Ranges.{fits_signed, is_exponent}
use Rattle.smithy_texts.proofs.Base64Laws.{blob_back, blob_is_bytes, blob_of-found}
use Rattle.smithy_texts.proofs.WrittenNumerals.{written_number, written_parts, small_exponent, fits_signed-wide}
use Rattle.smithy_instants.specs.WrittenDate.{date_text}
use Rattle.smithy_instants.specs.DateText.{date_of}
use Rattle.smithy_declarations.specs.declared.shape_type.Scalar.{Scalar}
use Rattle.smithy_declarations.specs.declared.shape_type.Scalar.TheVariants as scalars
use Rattle.smithy_declarations.specs.declared.shape_type.ShapeType.{ShapeType}
use Rattle.smithy_declarations.specs.declared.shape_type.ShapeType.TheVariants as types
use Rattle.smithy_declarations.specs.declared.shape_type.TimestampFormat.{TimestampFormat}
use Rattle.smithy_declarations.specs.Table.{Kind, scalar, document, IsDocument, scalar_type, type_of, kind_of}
use Rattle.smithy_declarations.specs.TimeForms.{format_of, form_holds}
use Rattle.smithy_declarations.specs.Value.{ScalarValue, boolean, whole, text, bytes, decimal, instant}
use Rattle.smithy_shapes.specs.Fits.{is_of, is_scalar_of}
use Rattle.smithy_shapes.specs.Lemmas.Options.{same_some}
use Rattle.smithy_shapes.specs.Site.{Site, kind_at}
use Rattle.smithy_shapes.proofs.InstantLemmas.{date_is_instant}
use Rattle.smithy_shapes.proofs.ScalarLemmas.{fits_more, decimal_fits}
use Rattle.smithy_shapes.proofs.TimeFormLemmas.{held_writes}
use Rattle.smithy_query_codec.specs.Leaves.{scalar_text}
use Rattle.smithy_value.specs.declared.value.Value as kept
use Rattle.smithy_value.proofs.ReadWide.{place_told, kind_of_document}
use Rattle.smithy_form.specs.declared.error.FormError.{FormError}
use Rattle.smithy_form.specs.declared.error.FormError.TheVariants.{BadPair, NotForm, Repeated, NoValue, NoMemory}
use Rattle.smithy_form.specs.Private.Scalars.{TellsNumber, is_whole_of, ReadsWhole, IsWritten, ReadsScalar}
use Rattle.smithy_form.proofs.ScalarTexts.{few_digits, read_back}

pub not_true : (b : Bool) → not b ≡ true → b ≡ false
not_true false h = refl
not_true true h = cc

pub not_false : (b : Bool) → not b ≡ false → b ≡ true
not_false true h = refl
not_false false h = cc

-- ---- whole numbers

-- the number that a text is written for
number_back : (n : ℤ) (t : List ℕ) → fits_signed 128 n ≡ true → signed_decimal n ≡ t → number t ≡ n
number_back n t fits written = ap number (sym written) ∙ (written_number n (few_digits n fits)).value

pub wide : (n : ℤ) → fits_signed 128 n ≡ true → FitsSigned w128 n
wide n h = grind (arith, ints)

-- the number of the text isn't one of 128 bits
pub too_wide : (t : List ℕ) → ¬ (FitsSigned w128 (number t)) → TellsNumber t None
too_wide t h n fits written = h (subst (FitsSigned w128) (sym (number_back n t fits written)) (wide n fits))

-- the number of the text has another text
pub other_text : (t : List ℕ) (n : ℤ) → n ≡ number t → bytes_eq (signed_decimal n) t ≡ false → TellsNumber t None
other_text t n is other m fits written =
    let same : n ≡ m = is ∙ number_back m t fits written in
    let no : true ≡ false = sym ((bytes_eq-Decides (signed_decimal n) t).1 (ap signed_decimal same ∙ written)) ∙ other in cc

whole_wide : (type : ShapeType) (n : ℤ) → is_whole_of type n ≡ true → fits_signed 128 n ≡ true
whole_wide types.Byte n h = fits_more 8 128 n (lit≤ tt) h
whole_wide types.Short n h = fits_more 16 128 n (lit≤ tt) h
whole_wide types.Integer n h = fits_more 32 128 n (lit≤ tt) h
whole_wide types.Long n h = fits_more 64 128 n (lit≤ tt) h
whole_wide types.BigInteger n h = h
whole_wide _ n h = cc

pub no_whole : (type : ShapeType) (t : List ℕ) → TellsNumber t None → (n : ℤ) → is_whole_of type n ≡ true → signed_decimal n ≢ t
no_whole type t none n h = none n (whole_wide type n h)

pub other_kind : (type : ShapeType) (t : List ℕ) (m : ℤ) → TellsNumber t (Some m) → is_whole_of type m ≡ false → (n : ℤ) → is_whole_of type n ≡ true → signed_decimal n ≢ t
other_kind type t m told other n h written =
    let same : m ≡ n = sym (number_back m t told.0 told.1) ∙ number_back n t (whole_wide type n h) written in
    let no : true ≡ false = sym h ∙ ap (is_whole_of type) (sym same) ∙ other in cc

-- where the scalars of the kind are whole numbers, the one of the text is the scalar
whole_scalar : (s : Scalar) (form : TimestampFormat) (t : List ℕ) (result : Result kept.Value FormError) → ((n : ℤ) → is_of s (whole n) ≡ is_whole_of (scalar_type s) n)
    → ((x : ScalarValue) → is_of s x ≡ true → (n : ℤ) × (x ≡ whole n)) → ReadsWhole (scalar_type s) t result → ReadsScalar (scalar s) form t result
whole_scalar s form t (Ok v) same alone (n, shown, fits, written) = (whole n, shown, (same n ∙ fits, refl, written))
whole_scalar s form t (Err NoValue) same alone h =
    λ x is.
    let n = alone x is.0 in
    let fits : is_of s (whole n.0) ≡ true = subst (λ y. is_of s y ≡ true) n.1 is.0 in
    let written : signed_decimal n.0 ≡ t = ap (scalar_text form) (sym n.1) ∙ is.2 in
    h n.0 (sym (same n.0) ∙ fits) written
whole_scalar s form t (Err NoMemory) same alone h = absurd h
whole_scalar s form t (Err NotForm) same alone h = h
whole_scalar s form t (Err (BadPair n)) same alone h = h
whole_scalar s form t (Err (Repeated n)) same alone h = h

-- ---- kinds

pub kind_is : (site : Site) (s : Scalar) → Some (scalar_type s) ≡ type_of (kind_at site) → kind_at site ≡ scalar s
kind_is site s type = ap (kind_of site.table) (place_told site.table site.place s type)

pub of_kind : (site : Site) (s : Scalar) (form : TimestampFormat) (t : List ℕ) (result : Result kept.Value FormError) → Some (scalar_type s) ≡ type_of (kind_at site)
    → ReadsScalar (scalar s) form t result → ReadsScalar (kind_at site) form t result
of_kind site s form t result type h = subst (λ k. ReadsScalar k form t result) (sym (kind_is site s type)) h

only_whole_byte : (x : ScalarValue) → is_of scalars.Byte x ≡ true → (n : ℤ) × (x ≡ whole n)
only_whole_byte (whole n) h = (n, refl)
only_whole_byte _ h = cc

only_whole_short : (x : ScalarValue) → is_of scalars.Short x ≡ true → (n : ℤ) × (x ≡ whole n)
only_whole_short (whole n) h = (n, refl)
only_whole_short _ h = cc

only_whole_integer : (x : ScalarValue) → is_of scalars.Integer x ≡ true → (n : ℤ) × (x ≡ whole n)
only_whole_integer (whole n) h = (n, refl)
only_whole_integer _ h = cc

only_whole_long : (x : ScalarValue) → is_of scalars.Long x ≡ true → (n : ℤ) × (x ≡ whole n)
only_whole_long (whole n) h = (n, refl)
only_whole_long _ h = cc

only_whole_big : (x : ScalarValue) → is_of scalars.BigInteger x ≡ true → (n : ℤ) × (x ≡ whole n)
only_whole_big (whole n) h = (n, refl)
only_whole_big _ h = cc

-- the types of whole numbers
abbrev pub IsWhole : ShapeType → Type 0
IsWhole types.Byte = Unit {0}
IsWhole types.Short = Unit {0}
IsWhole types.Integer = Unit {0}
IsWhole types.Long = Unit {0}
IsWhole types.BigInteger = Unit {0}
IsWhole _ = ⊥

pub whole_here : (site : Site) (type : ShapeType) (form : TimestampFormat) (t : List ℕ) (result : Result kept.Value FormError) → IsWhole type → Some type ≡ type_of (kind_at site)
    → ReadsWhole type t result → ReadsScalar (kind_at site) form t result
whole_here site types.Byte form t result is type h = of_kind site scalars.Byte form t result type (whole_scalar scalars.Byte form t result (λ n. refl) only_whole_byte h)
whole_here site types.Short form t result is type h = of_kind site scalars.Short form t result type (whole_scalar scalars.Short form t result (λ n. refl) only_whole_short h)
whole_here site types.Integer form t result is type h = of_kind site scalars.Integer form t result type (whole_scalar scalars.Integer form t result (λ n. refl) only_whole_integer h)
whole_here site types.Long form t result is type h = of_kind site scalars.Long form t result type (whole_scalar scalars.Long form t result (λ n. refl) only_whole_long h)
whole_here site types.BigInteger form t result is type h = of_kind site scalars.BigInteger form t result type (whole_scalar scalars.BigInteger form t result (λ n. refl) only_whole_big h)
whole_here site _ form t result is type h = absurd is

-- no scalar stands where documents do
pub no_document : (site : Site) (form : TimestampFormat) (t : List ℕ) → Some types.Document ≡ type_of (kind_at site) → (x : ScalarValue) → IsWritten (kind_at site) form t x → ⊥
no_document site form t type x is = by (kind_at site) (kind_of_document (kind_at site) type) is.0
  where
    by : (k : Kind) → IsDocument k → is_scalar_of k x ≡ true → ⊥
    by document h fits = let no : false ≡ true = fits in cc
    by _ h fits = h

-- ---- decimals

-- a decimal that is written as the text has the parts of the text
record IsDecimal (t : List ℕ) (x : ScalarValue) : Type 0 where
  is : x ≡ decimal (mantissa t) (net_exponent t)
  fits : fits_signed 128 (mantissa t) ≡ true
  small : exponents_fit t ≡ true
  written : decimal_text (mantissa t) (net_exponent t) ≡ t

decimal_there : (form : TimestampFormat) (t : List ℕ) (x : ScalarValue) → IsWritten (scalar scalars.BigDecimal) form t x → IsDecimal t x
decimal_there form t (decimal m e) (h, held, written) =
    let fits = decimal_fits scalars.BigDecimal m e h in
    let parts = written_parts m e (few_digits m fits.0) (small_exponent e fits.1) in
    let m_is : mantissa t ≡ m = ap mantissa (sym written) ∙ parts.mantissa_is in
    let net_is : net_exponent t ≡ e = ap net_exponent (sym written) ∙ parts.net_is in
    let written_is : written_exponent t ≡ e = ap written_exponent (sym written) ∙ parts.written_is in record {
      is = ap (λ z. decimal z e) (sym m_is) ∙ ap (decimal (mantissa t)) (sym net_is);
      fits = ap (fits_signed 128) m_is ∙ fits.0;
      small = ap (λ z. is_exponent z && is_exponent (net_exponent t)) written_is ∙ ap (λ b. b && is_exponent (net_exponent t)) fits.1 ∙ ap is_exponent net_is ∙ fits.1;
      written = ap (λ z. decimal_text z (net_exponent t)) m_is ∙ ap (decimal_text m) net_is ∙ written;
    }
decimal_there form t _ h = absurd (let no : false ≡ true = h.0 in cc)

pub no_mantissa : (t : List ℕ) → ¬ (FitsSigned w128 (mantissa t)) → (form : TimestampFormat) (x : ScalarValue) → IsWritten (scalar scalars.BigDecimal) form t x → ⊥
no_mantissa t h form x is = h (wide (mantissa t) (decimal_there form t x is).fits)

pub no_exponent : (t : List ℕ) → ¬ (IsTrue (exponents_fit t)) → (form : TimestampFormat) (x : ScalarValue) → IsWritten (scalar scalars.BigDecimal) form t x → ⊥
no_exponent t h form x is = h (decimal_there form t x is).small

pub other_decimal : (t : List ℕ) (m e : ℤ) → m ≡ mantissa t → e ≡ net_exponent t → bytes_eq (decimal_text m e) t ≡ false
    → (form : TimestampFormat) (x : ScalarValue) → IsWritten (scalar scalars.BigDecimal) form t x → ⊥
other_decimal t m e m_is e_is other form x is =
    let written : decimal_text m e ≡ t = ap (λ z. decimal_text z e) m_is ∙ ap (decimal_text (mantissa t)) e_is ∙ (decimal_there form t x is).written in
    let no : true ≡ false = sym ((bytes_eq-Decides (decimal_text m e) t).1 written) ∙ other in cc

pub small_net : (t : List ℕ) (e : ℤ) → exponents_fit t ≡ true → e ≡ net_exponent t → is_exponent e ≡ true
small_net t e fit is = ap is_exponent is ∙ (and_parts (is_exponent (written_exponent t)) (is_exponent (net_exponent t)) fit).1

pub exponent_fits : (e : ℤ) → is_exponent e ≡ true → FitsSigned w64 e
exponent_fits e h = fits_signed_from_abs w64 e (let small : unsigned_abs e < 2 ^ 63 = grind (arith, nat_tests) in small)

pub decimal_told : (form : TimestampFormat) (t : List ℕ) (m e : ℤ) → FitsSigned w128 m → is_exponent e ≡ true → bytes_eq (decimal_text m e) t ≡ true
    → IsWritten (scalar scalars.BigDecimal) form t (decimal m e)
decimal_told form t m e fits small same = (rw (fits_signed-wide m fits, small) refl, refl, (bytes_eq-Decides (decimal_text m e) t).0 same)

-- ---- blobs

pub no_blob : (t : List ℕ) → blob_of t ≡ None → (form : TimestampFormat) (x : ScalarValue) → IsWritten (scalar scalars.Blob) form t x → ⊥
no_blob t none form (bytes b) (h, held, written) = let no : Some b ≡ None = sym (blob_back b h) ∙ ap blob_of written ∙ none in cc
no_blob t none form _ h = let no : false ≡ true = h.0 in cc

pub blob_told : (form : TimestampFormat) (t b : List ℕ) → blob_of t ≡ Some b → IsWritten (scalar scalars.Blob) form t (bytes b)
blob_told form t b found = (blob_is_bytes t b found, refl, (blob_of-found t b found).spelled)

-- ---- instants

-- an instant that is written as the text is the one of the text
instant_there : (form : TimestampFormat) (t : List ℕ) (x : ScalarValue) → IsWritten (scalar scalars.Timestamp) form t x
    → (n : ℤ) × (x ≡ instant n) × (date_of (format_of form) t ≡ Some n) × (form_holds form (instant n) ≡ true) × (unwrap_or (date_text (format_of form) n) [] ≡ t)
instant_there form t (instant n) (h, held, written) =
    let back : option_map instant (date_of (format_of form) t) ≡ Some (instant n) =
    ap (λ u. option_map instant (date_of (format_of form) u)) (sym written) ∙ read_back scalars.Timestamp form (instant n) h held in
    (n, refl, by (date_of (format_of form) t) back, held, written)
  where
    by : (o : Option ℤ) → option_map instant o ≡ Some (instant n) → o ≡ Some n
    by None back = absurd (let no : None ≡ Some (instant n) = back in cc)
    by (Some m) back = let same : instant m ≡ instant n = cc in let number : m ≡ n = cc in ap Some number
instant_there form t _ h = absurd (let no : false ≡ true = h.0 in cc)

pub no_date : (form : TimestampFormat) (t : List ℕ) → date_of (format_of form) t ≡ None → (x : ScalarValue) → IsWritten (scalar scalars.Timestamp) form t x → ⊥
no_date form t none x is = let n = instant_there form t x is in let no : Some n.0 ≡ None = sym n.2 ∙ none in cc

pub not_held : (form : TimestampFormat) (t : List ℕ) (n : ℤ) → date_of (format_of form) t ≡ Some n → form_holds form (instant n) ≡ false → (x : ScalarValue) → IsWritten (scalar scalars.Timestamp) form t x → ⊥
not_held form t n found lost x is =
    let m = instant_there form t x is in
    let same : m.0 ≡ n = same_some m.0 n (sym m.2 ∙ found) in
    let no : true ≡ false = sym m.3 ∙ ap (λ k. form_holds form (instant k)) same ∙ lost in cc

pub other_date : (form : TimestampFormat) (t written : List ℕ) (n : ℤ) → date_of (format_of form) t ≡ Some n → date_text (format_of form) n ≡ Some written → bytes_eq written t ≡ false
    → (x : ScalarValue) → IsWritten (scalar scalars.Timestamp) form t x → ⊥
other_date form t written n found writes other x is =
    let m = instant_there form t x is in
    let same : m.0 ≡ n = same_some m.0 n (sym m.2 ∙ found) in
    let text : written ≡ t = ap (λ o. unwrap_or o []) (sym writes) ∙ ap (λ k. unwrap_or (date_text (format_of form) k) []) (sym same) ∙ m.4 in
    let no : true ≡ false = sym ((bytes_eq-Decides written t).1 text) ∙ other in cc

-- what is held can be written
pub never_unwritten : (form : TimestampFormat) (n : ℤ) → form_holds form (instant n) ≡ true → date_text (format_of form) n ≡ None → ⊥
never_unwritten form n held none =
    let can : is_some (date_text (format_of form) n) ≡ true = held_writes form (instant n) held in
    let no : false ≡ true = ap is_some (sym none) ∙ can in cc

pub date_told : (form : TimestampFormat) (t written : List ℕ) (n : ℤ) → date_of (format_of form) t ≡ Some n → form_holds form (instant n) ≡ true → date_text (format_of form) n ≡ Some written
    → bytes_eq written t ≡ true → IsWritten (scalar scalars.Timestamp) form t (instant n)
date_told form t written n found held writes same =
    (date_is_instant form t n found, held, ap (λ o. unwrap_or o []) writes ∙ (bytes_eq-Decides written t).0 same)

-- ---- booleans and texts

pub true_told : (form : TimestampFormat) (t : List ℕ) → bytes_eq t (codes "true") ≡ true → IsWritten (scalar scalars.Boolean) form t (boolean true)
true_told form t same = (refl, refl, sym ((bytes_eq-Decides t (codes "true")).0 same))

pub false_told : (form : TimestampFormat) (t : List ℕ) → bytes_eq t (codes "false") ≡ true → IsWritten (scalar scalars.Boolean) form t (boolean false)
false_told form t same = (refl, refl, sym ((bytes_eq-Decides t (codes "false")).0 same))

pub no_boolean : (t : List ℕ) → bytes_eq t (codes "true") ≡ false → bytes_eq t (codes "false") ≡ false → (form : TimestampFormat) (x : ScalarValue) → IsWritten (scalar scalars.Boolean) form t x → ⊥
no_boolean t no_true no_false form (boolean true) (h, held, written) = let no : true ≡ false = sym ((bytes_eq-Decides t (codes "true")).1 (sym written)) ∙ no_true in cc
no_boolean t no_true no_false form (boolean false) (h, held, written) = let no : true ≡ false = sym ((bytes_eq-Decides t (codes "false")).1 (sym written)) ∙ no_false in cc
no_boolean t no_true no_false form _ h = let no : false ≡ true = h.0 in cc

pub text_told : (form : TimestampFormat) (t : List ℕ) → IsUtf8 t → IsWritten (scalar scalars.String) form t (text t)
text_told form t utf8 = (is_utf8-from_IsUtf8 t utf8, refl, refl)
