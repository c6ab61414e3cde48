-- No text in an answer has a line feed: numbers, dates, base64, strings of JSON, documents and percent-encoded texts.
use Rattle.std.proofs.Common.{◌≡◌, ◌<◌, ◌==◌, ◌+◌, ◌*◌, ◌/◌, ◌%◌, ◌^◌, ℕ, ℤ, zero, suc, pos, negsuc, List, [], ◌∷◌, ◌++◌, length, map, replicate, Bool, true, false, not, cond, nat_lt, Option, Some, None, codes, decimal, refl, sym, subst, inl, inr, ◌⊎◌, arith}
use Rattle.std.specs.Prelude.{slice_index}
use Rattle.std.specs.Fmt.{digit_glyph, digits_onto, digits, signed_decimal, sign_text}
use Rattle.std.specs.List.{list_all, flat_map, range_with_len}
use Rattle.std.specs.Option.{option_map_or}
use Rattle.std.specs.Str.{byte}
use Rattle.std.proofs.lemmas.Bool.{and_parts}
use Rattle.std.proofs.lemmas.Bool.Decides.{nat_tests}
use Rattle.std.proofs.lemmas.List.Elements.{All-append, All-cons, All-nil}
use Rattle.base64.specs.Rfc4648.{encode_symbols, padding_len}
use Rattle.percent_encoding.specs.Percent.{percent_encode_byte}
use Rattle.smithy_texts.specs.Base64Text.{alphabet, blob_text}
use Rattle.smithy_texts.specs.Decimal.{exponent_text, decimal_text}
use Rattle.smithy_texts.proofs.OnLiterals.{smithy_texts_on_literals}
use Rattle.smithy_instants.specs.WrittenDate.{fraction_digits, fraction_text, epoch_text}
use Rattle.smithy_types.specs.Document.{Document, null, boolean, number, text, array, object, Documents, no_documents, item, Properties, no_properties, property}
use Rattle.smithy_json_grammar.specs.Ascii.{quotation_mark, escape, name_separator, begin_array, end_array, begin_object, end_object}
use Rattle.smithy_json_grammar.specs.Private.Chars.{is_plain}
use Rattle.smithy_json.specs.Escape.{escaped_byte, escaped, quoted}
use Rattle.smithy_json.specs.ValueTexts.{name_text}
use Rattle.smithy_json.specs.DocumentText.{comma, document_text_by, elements_text_by, properties_text_by}
use Rattle.smithy_json.proofs.EscapeLemmas.{plain_byte, other_bytes, each_control}
use Rattle.smithy_query.specs.Percent.{is_unreserved, encoded_byte, encoded}
use Rattle.smithy_lines.specs.Lines.{line_feed, HasNoFeed}

-- ---- lists of bytes

pub nothing : HasNoFeed []
nothing = All-nil (λ b. (b == line_feed) ≡ false)

pub one_more : (b : ℕ) (bs : List ℕ) → (b == line_feed) ≡ false → HasNoFeed bs → HasNoFeed (b ∷ bs)
one_more b bs other rest = All-cons (λ b. (b == line_feed) ≡ false) b bs other rest

pub joined : (xs ys : List ℕ) → HasNoFeed xs → HasNoFeed ys → HasNoFeed (xs ++ ys)
joined xs ys first second = All-append (λ b. (b == line_feed) ≡ false) xs ys first second

-- the byte at the end
pub closed : (xs : List ℕ) (b : ℕ) → (b == line_feed) ≡ false → HasNoFeed xs → HasNoFeed (xs ++ b ∷ [])
closed xs b other rest = joined xs (b ∷ []) rest (one_more b [] other nothing)

not_true : (b : Bool) → not b ≡ true → b ≡ false
not_true false h = refl
not_true true h = cc

-- by computing
abbrev has_none : List ℕ → Bool
has_none bs = list_all (λ b. not (b == line_feed)) bs

pub tested : (bs : List ℕ) → has_none bs ≡ true → HasNoFeed bs
tested [] h = nothing
tested (b ∷ bs) h = let both = and_parts (not (b == line_feed)) (has_none bs) h in one_more b bs (not_true (b == line_feed) both.0) (tested bs both.1)

pub chosen : (test : Bool) (xs ys : List ℕ) → HasNoFeed xs → HasNoFeed ys → HasNoFeed (cond test xs ys)
chosen true xs ys first second = first
chosen false xs ys first second = second

pub of_each : {A : Type 0} (f : A → List ℕ) → ((x : A) → HasNoFeed (f x)) → (xs : List A) → HasNoFeed (flat_map f xs)
of_each f each [] = nothing
of_each f each (x ∷ xs) = joined (f x) (flat_map f xs) (each x) (of_each f each xs)

pub of_option : {A : Type 0} (f : A → List ℕ) → ((x : A) → HasNoFeed (f x)) → (o : Option A) → HasNoFeed (option_map_or f o [])
of_option f each (Some x) = each x
of_option f each None = nothing

-- ---- numbers

above : (b : ℕ) → 10 < b → (b == line_feed) ≡ false
above b high = grind (arith, nat_tests)

glyph : (upper : Bool) (d : ℕ) → (digit_glyph upper d == line_feed) ≡ false
glyph upper d = by (nat_lt d 10) upper where
  by : (low upper : Bool) → (cond low (48 + d) (cond upper (55 + d) (87 + d)) == line_feed) ≡ false
  by true upper = above (48 + d) (omega arith)
  by false true = above (55 + d) (omega arith)
  by false false = above (87 + d) (omega arith)

digits_added : (k base : ℕ) (upper : Bool) (n : ℕ) (more : List ℕ) → HasNoFeed more → HasNoFeed (digits_onto k base upper n more)
digits_added zero base upper n more rest = rest
digits_added (suc k) base upper n more rest =
    let longer = one_more (digit_glyph upper (n % base)) more (glyph upper (n % base)) rest in
    chosen (n / base == 0) (digit_glyph upper (n % base) ∷ more) (digits_onto k base upper (n / base) (digit_glyph upper (n % base) ∷ more)) longer
    (digits_added k base upper (n / base) (digit_glyph upper (n % base) ∷ more) longer)

pub of_decimal : (n : ℕ) → HasNoFeed (decimal n)
unfolding digits
of_decimal n = digits_added 64 10 false n [] nothing

pub of_signed : (n : ℤ) → HasNoFeed (signed_decimal n)
of_signed (pos n) = of_decimal n
of_signed (negsuc n) = one_more 45 (decimal (suc n)) refl (of_decimal (suc n))

of_exponent : (e : ℤ) → HasNoFeed (exponent_text e)
of_exponent (pos n) = chosen (n == 0) [] (byte "e" ∷ signed_decimal (pos n)) nothing (one_more (byte "e") (signed_decimal (pos n)) refl (of_signed (pos n)))
of_exponent (negsuc n) = one_more (byte "e") (signed_decimal (negsuc n)) refl (of_signed (negsuc n))

pub of_decimal_text : (m e : ℤ) → HasNoFeed (decimal_text m e)
of_decimal_text m e = joined (signed_decimal m) (exponent_text e) (of_signed m) (of_exponent e)

of_fraction_digits : (width n : ℕ) → HasNoFeed (fraction_digits width n)
of_fraction_digits zero n = nothing
of_fraction_digits (suc width) n =
    let first = 48 + n / 10 ^ width in
    chosen (n == 0) [] (first ∷ fraction_digits width (n % 10 ^ width)) nothing
    (one_more first (fraction_digits width (n % 10 ^ width)) (above first (omega arith)) (of_fraction_digits width (n % 10 ^ width)))

of_fraction : (width n : ℕ) → HasNoFeed (fraction_text width n)
unfolding fraction_text
of_fraction width n = chosen (n == 0) [] (byte "." ∷ fraction_digits width n) nothing (one_more (byte ".") (fraction_digits width n) refl (of_fraction_digits width n))

of_sign : (negative : Bool) → HasNoFeed (sign_text negative)
of_sign true = one_more 45 [] refl nothing
of_sign false = nothing

pub of_epoch : (n : ℤ) → HasNoFeed (epoch_text n)
of_epoch n = joined _ _ (joined _ _ (of_sign _) (of_decimal _)) (of_fraction 9 _)

-- ---- base64

at_index : (xs : List ℕ) (n : ℕ) → has_none xs ≡ true → (slice_index xs n == line_feed) ≡ false
at_index [] n h = refl
at_index (x ∷ xs) zero h = not_true (x == line_feed) (and_parts (not (x == line_feed)) (has_none xs) h).0
at_index (x ∷ xs) (suc n) h = at_index xs n (and_parts (not (x == line_feed)) (has_none xs) h).1

alphabet_has_none : has_none alphabet ≡ true
unfolding smithy_texts_on_literals
alphabet_has_none = refl

symbol : (n : ℕ) → (slice_index alphabet n == line_feed) ≡ false
symbol n = at_index alphabet n alphabet_has_none

of_places : (ns more : List ℕ) → HasNoFeed more → HasNoFeed (map (slice_index alphabet) ns ++ more)
of_places [] more rest = rest
of_places (n ∷ ns) more rest = one_more (slice_index alphabet n) (map (slice_index alphabet) ns ++ more) (symbol n) (of_places ns more rest)

of_symbols : (m : List ℕ) → HasNoFeed (encode_symbols alphabet m)
unfolding encode_symbols
of_symbols [] = nothing
of_symbols (a ∷ []) = of_places (a / 4 ∷ a % 4 * 16 ∷ []) [] nothing
of_symbols (a ∷ b ∷ []) = of_places (a / 4 ∷ (a % 4 * 16 + b / 16) ∷ b % 16 * 4 ∷ []) [] nothing
of_symbols (a ∷ b ∷ c ∷ rest) = of_places (a / 4 ∷ (a % 4 * 16 + b / 16) ∷ (b % 16 * 4 + c / 64) ∷ c % 64 ∷ []) (encode_symbols alphabet rest) (of_symbols rest)

of_padding : (n : ℕ) → HasNoFeed (replicate n (byte "="))
of_padding zero = nothing
of_padding (suc n) = one_more (byte "=") (replicate n (byte "=")) refl (of_padding n)

pub of_blob : (m : List ℕ) → HasNoFeed (blob_text m)
of_blob m = joined (encode_symbols alphabet m) (replicate (padding_len (length m)) (byte "=")) (of_symbols m) (of_padding (padding_len (length m)))

-- ---- strings

plain : (b : ℕ) → is_plain b ≡ true → (b == line_feed) ≡ false
plain b h = grind (arith, nat_tests)

controls : map (λ b. has_none (escaped_byte b)) (range_with_len 0 32) ≡ map (λ b. true) (range_with_len 0 32)
controls = refl

of_other : (b : ℕ) → (b ≡ quotation_mark) ⊎ ((b ≡ escape) ⊎ (b < 32)) → HasNoFeed (escaped_byte b)
of_other b (inl is) = subst (λ c. HasNoFeed (escaped_byte c)) (sym is) (tested (escaped_byte quotation_mark) refl)
of_other b (inr (inl is)) = subst (λ c. HasNoFeed (escaped_byte c)) (sym is) (tested (escaped_byte escape) refl)
of_other b (inr (inr low)) = tested (escaped_byte b) (each_control (λ b. has_none (escaped_byte b)) (λ b. true) false controls b low)

of_escaped_byte : (b : ℕ) → HasNoFeed (escaped_byte b)
of_escaped_byte b = by (is_plain b) refl where
  by : (test : Bool) → is_plain b ≡ test → HasNoFeed (escaped_byte b)
  by true h = subst HasNoFeed (sym (plain_byte b h)) (one_more b [] (plain b h) nothing)
  by false h = of_other b (other_bytes b h)

pub of_quoted : (t : List ℕ) → HasNoFeed (quoted t)
of_quoted t = one_more quotation_mark (escaped t ++ quotation_mark ∷ []) refl (closed (escaped t) quotation_mark refl (of_each escaped_byte of_escaped_byte t))

pub of_name : (t : List ℕ) → HasNoFeed (name_text t)
of_name t = closed (quoted t) name_separator refl (of_quoted t)

pub of_comma : HasNoFeed comma
of_comma = tested comma refl

mutual
  pub of_document : (d : Document ℤ) → HasNoFeed (document_text_by signed_decimal d)
  of_document null = tested (codes "null") refl
  of_document (boolean true) = tested (codes "true") refl
  of_document (boolean false) = tested (codes "false") refl
  of_document (number n) = of_signed n
  of_document (text s) = of_quoted s
  of_document (array ds) = one_more begin_array _ refl (closed (elements_text_by signed_decimal [] ds) end_array refl (of_elements [] ds nothing))
  of_document (object ps) = one_more begin_object _ refl (closed (properties_text_by signed_decimal [] ps) end_object refl (of_properties [] ps nothing))

  of_elements : (parting : List ℕ) (ds : Documents ℤ) → HasNoFeed parting → HasNoFeed (elements_text_by signed_decimal parting ds)
  of_elements parting no_documents clear = nothing
  of_elements parting (item d ds) clear = joined parting _ clear (joined (document_text_by signed_decimal d) _ (of_document d) (of_elements comma ds of_comma))

  of_properties : (parting : List ℕ) (ps : Properties ℤ) → HasNoFeed parting → HasNoFeed (properties_text_by signed_decimal parting ps)
  of_properties parting no_properties clear = nothing
  of_properties parting (property name d ps) clear =
      joined parting _ clear (joined (name_text name) _ (of_name name) (joined (document_text_by signed_decimal d) _ (of_document d) (of_properties comma ps of_comma)))

-- ---- percent-encoded texts

unreserved : (b : ℕ) → is_unreserved b ≡ true → (b == line_feed) ≡ false
unreserved b h = grind (arith, nat_tests)

of_encoded_byte : (b : ℕ) → HasNoFeed (encoded_byte b)
unfolding percent_encode_byte
of_encoded_byte b = by (is_unreserved b) refl where
  by : (test : Bool) → is_unreserved b ≡ test → HasNoFeed (cond test (b ∷ []) (percent_encode_byte b))
  by true h = one_more b [] (unreserved b h) nothing
  by false h =
      let low = one_more (digit_glyph true (b % 16)) [] (glyph true (b % 16)) nothing in
      one_more 37 (digit_glyph true (b / 16 % 16) ∷ digit_glyph true (b % 16) ∷ []) refl
      (one_more (digit_glyph true (b / 16 % 16)) (digit_glyph true (b % 16) ∷ []) (glyph true (b / 16 % 16)) low)

pub of_encoded : (t : List ℕ) → HasNoFeed (encoded t)
of_encoded t = of_each encoded_byte of_encoded_byte t
