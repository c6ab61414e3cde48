-- What an item says as a kind is a value of the kind.
use Rattle.std.specs.Prelude.{◌≡◌, ◌==◌, ◌*ℤ◌, ℕ, ℤ, pos, negsuc, Option, List, [], ◌∷◌, Some, None, Bool, true, false, IsUtf8, refl, option_map, cond}
use Rattle.std.specs.List.{list_all, concat}
use Rattle.std.specs.Str.{is_utf8}
use Rattle.std.proofs.Common.{◌∙◌, ap, subst, arith}
use Rattle.std.proofs.lemmas.Bool.{and_parts}
use Rattle.std.proofs.lemmas.Bool.Decides.{nat_tests}
use Rattle.std.proofs.lemmas.Str.{IsUtf8-append, IsUtf8-nil, IsUtf8-from_is_utf8, is_utf8-from_IsUtf8}
use Rattle.smithy_declarations.specs.declared.place.Place.{Place}
use Rattle.smithy_declarations.specs.declared.shape_type.Scalar.{Scalar}
use Rattle.smithy_declarations.specs.declared.shape_type.Scalar.TheVariants as scalars
use Rattle.smithy_declarations.specs.Table.{Table, scalar, kind_of}
use Rattle.smithy_declarations.specs.Value.{boolean, whole, text, bytes, instant, Value, scalar_value}
use Rattle.smithy_shapes.specs.Fits.{is_of, Fits}
use Rattle.smithy_shapes.specs.Lemmas.Options.{same_some, step_apart, chosen, made}
use Rattle.cbor_item.specs.Item.{Item, unsigned, negative, byte_string, text_string, array, map as map_item, tag, simple, float}
use Rattle.smithy_cbor.specs.Scalar.{false_value, true_value, boolean_item, integer_of, joined_text, text_of, bytes_of, big_integer_of}
use Rattle.smithy_cbor_values.specs.Scalar.{boolean_of, whole_of, blob_of, decimal_form_of, date_says, seconds_read_as, timestamp_says, says}
use Rattle.smithy_texts.specs.Base64Text.{are_bytes}
use Rattle.smithy_texts.specs.Ranges.{fits_signed}
use Rattle.smithy_instants.specs.Instant.{nanos_per_second}
use Rattle.smithy_shapes.proofs.InstantLemmas.{seconds_are_instant}
use Rattle.smithy_wire.specs.Rules.{Answer, means, no_meaning}
use Rattle.smithy_wire.proofs.Bounds.{answer_means, chosen_answer, big_integer_fits, big_decimal_fits}

-- what is a whole number is an integer that fits its bits
pub whole_is : (bits : ℕ) (x : Item) (v : Value) → whole_of bits x ≡ Some v → (z : ℤ) × (integer_of x ≡ Some z) × (fits_signed bits z ≡ true) × (scalar_value (whole z) ≡ v)
whole_is bits x v h =
    let z = step_apart (integer_of x) (λ (z : ℤ). cond (fits_signed bits z) (Some (scalar_value (whole z))) None) v h in
    let size = chosen (fits_signed bits z.0) (Some (scalar_value (whole z.0))) v z.2 in
    (z.0, z.1, size.0, same_some (scalar_value (whole z.0)) v size.1)

-- what is a boolean is one of its two items
pub boolean_is : (x : Item) (v : Value) → boolean_of x ≡ Some v → (b : Bool) × (x ≡ boolean_item b) × (scalar_value (boolean b) ≡ v)
boolean_is (simple n) v h = by (n == false_value) (n == true_value) refl refl h
  where
    by : (f g : Bool) → (n == false_value) ≡ f → (n == true_value) ≡ g → cond f (Some (scalar_value (boolean false))) (cond g (Some (scalar_value (boolean true))) None) ≡ Some v
        → (b : Bool) × (simple n ≡ boolean_item b) × (scalar_value (boolean b) ≡ v)
    by true g is other h = (false, ap simple (grind (arith, nat_tests)), same_some (scalar_value (boolean false)) v h)
    by false true is other h = (true, ap simple (grind (arith, nat_tests)), same_some (scalar_value (boolean true)) v h)
    by false false is other h = absurd (let none : None ≡ Some v = h in cc)
boolean_is (unsigned n) v h = absurd (let none : None ≡ Some v = h in cc)
boolean_is (negative n) v h = absurd (let none : None ≡ Some v = h in cc)
boolean_is (byte_string extent chunks) v h = absurd (let none : None ≡ Some v = h in cc)
boolean_is (text_string extent chunks) v h = absurd (let none : None ≡ Some v = h in cc)
boolean_is (array extent is) v h = absurd (let none : None ≡ Some v = h in cc)
boolean_is (map_item extent ps) v h = absurd (let none : None ≡ Some v = h in cc)
boolean_is (tag n x) v h = absurd (let none : None ≡ Some v = h in cc)
boolean_is (float digits) v h = absurd (let none : None ≡ Some v = h in cc)

-- texts one after another are a text
joined_is_utf8 : (chunks : List (List ℕ)) → list_all is_utf8 chunks ≡ true → IsUtf8 (concat chunks)
joined_is_utf8 [] h = IsUtf8-nil
joined_is_utf8 (c ∷ cs) h =
    let both = and_parts (is_utf8 c) (list_all is_utf8 cs) h in
    IsUtf8-append c (concat cs) (IsUtf8-from_is_utf8 c both.0) (joined_is_utf8 cs both.1)

chunks_are_utf8 : (chunks : List (List ℕ)) (s : List ℕ) → joined_text chunks ≡ Some s → IsUtf8 s
chunks_are_utf8 chunks s h =
    let all = chosen (list_all is_utf8 chunks) (Some (concat chunks)) s h in
    subst IsUtf8 (same_some (concat chunks) s all.1) (joined_is_utf8 chunks all.0)

-- the text of an item is in UTF-8
pub text_is_utf8 : (x : Item) (s : List ℕ) → text_of x ≡ Some s → IsUtf8 s
text_is_utf8 (text_string extent chunks) s h = chunks_are_utf8 chunks s h
text_is_utf8 (unsigned n) s h = cc
text_is_utf8 (negative n) s h = cc
text_is_utf8 (byte_string extent chunks) s h = cc
text_is_utf8 (array extent is) s h = cc
text_is_utf8 (map_item extent ps) s h = cc
text_is_utf8 (tag n x) s h = cc
text_is_utf8 (simple n) s h = cc
text_is_utf8 (float digits) s h = cc

whole_fits : (bits : ℕ) (s : Scalar) → ((z : ℤ) → is_of s (whole z) ≡ fits_signed bits z) → (t : Table) (p : Place) (x : Item) (v : Value) → kind_of t p ≡ scalar s → whole_of bits x ≡ Some v → Fits t p v
whole_fits bits s is t p x v kind h = let z = whole_is bits x v h in subst (Fits t p) z.3 (rw kind (is z.0 ∙ z.2))

-- what is a blob is the bytes of a byte string
pub blob_is : (x : Item) (v : Value) → option_map (λ b. scalar_value (bytes b)) (blob_of x) ≡ Some v
    → (b : List ℕ) × (bytes_of x ≡ Some b) × (are_bytes b ≡ true) × (scalar_value (bytes b) ≡ v)
blob_is x v h =
    let b = made (λ b. scalar_value (bytes b)) (blob_of x) v h in
    let found = step_apart (bytes_of x) (λ (b : List ℕ). cond (are_bytes b) (Some b) None) b.0 b.1 in
    let small = chosen (are_bytes found.0) (Some found.0) b.0 found.2 in
    (found.0, found.1, small.0, ap (λ b. scalar_value (bytes b)) (same_some found.0 b.0 small.1) ∙ b.2)

-- an instant has seconds of 64 bits
date_fits : (t : Table) (p : Place) (o : Option ℤ) (v : Value) → kind_of t p ≡ scalar scalars.Timestamp → date_says o ≡ means v → Fits t p v
date_fits t p None v kind h = cc
date_fits t p (Some s) v kind h =
    let size = chosen_answer (fits_signed 64 s) (scalar_value (instant (s *ℤ pos nanos_per_second))) v h in
    subst (Fits t p) size.1 (rw kind (seconds_are_instant s size.0))

seconds_fit : (t : Table) (p : Place) (x : Item) (v : Value) → kind_of t p ≡ scalar scalars.Timestamp → seconds_read_as x ≡ means v → Fits t p v
seconds_fit t p (float digits) v kind h = cc
seconds_fit t p (unsigned n) v kind h = date_fits t p (Some (pos n)) v kind h
seconds_fit t p (negative n) v kind h = date_fits t p (Some (negsuc n)) v kind h
seconds_fit t p (byte_string extent chunks) v kind h = cc
seconds_fit t p (text_string extent chunks) v kind h = cc
seconds_fit t p (array extent is) v kind h = cc
seconds_fit t p (map_item extent ps) v kind h = cc
seconds_fit t p (tag n x) v kind h = cc
seconds_fit t p (simple n) v kind h = cc

tagged_means : (b : Bool) (a : Answer Value) (v : Value) → cond b a no_meaning ≡ means v → a ≡ means v
tagged_means true a v h = h
tagged_means false a v h = cc

timestamp_fits : (t : Table) (p : Place) (x : Item) (v : Value) → kind_of t p ≡ scalar scalars.Timestamp → timestamp_says x ≡ means v → Fits t p v
timestamp_fits t p (tag n x) v kind h = seconds_fit t p x v kind (tagged_means (n == 1) (seconds_read_as x) v h)
timestamp_fits t p (unsigned n) v kind h = cc
timestamp_fits t p (negative n) v kind h = cc
timestamp_fits t p (byte_string extent chunks) v kind h = cc
timestamp_fits t p (text_string extent chunks) v kind h = cc
timestamp_fits t p (array extent is) v kind h = cc
timestamp_fits t p (map_item extent ps) v kind h = cc
timestamp_fits t p (simple n) v kind h = cc
timestamp_fits t p (float digits) v kind h = cc

-- a law of a wire
pub says_fits : (x : Item) (t : Table) (p : Place) (s : Scalar) (v : Value) → kind_of t p ≡ scalar s
    → says s p.time x ≡ means v → Fits t p v
says_fits x t p scalars.Boolean v kind h =
    let b = boolean_is x v (answer_means (boolean_of x) v h) in
    subst (Fits t p) b.2 (rw kind refl)
says_fits x t p scalars.Byte v kind h =
    whole_fits 8 scalars.Byte (λ z. refl) t p x v kind (answer_means (whole_of 8 x) v h)
says_fits x t p scalars.Short v kind h =
    whole_fits 16 scalars.Short (λ z. refl) t p x v kind (answer_means (whole_of 16 x) v h)
says_fits x t p scalars.Integer v kind h =
    whole_fits 32 scalars.Integer (λ z. refl) t p x v kind (answer_means (whole_of 32 x) v h)
says_fits x t p scalars.Long v kind h =
    whole_fits 64 scalars.Long (λ z. refl) t p x v kind (answer_means (whole_of 64 x) v h)
says_fits x t p scalars.String v kind h =
    let s = made (λ s. scalar_value (text s)) (text_of x) v (answer_means (option_map (λ s. scalar_value (text s)) (text_of x)) v h) in
    subst (Fits t p) s.2 (rw kind (is_utf8-from_IsUtf8 s.0 (text_is_utf8 x s.0 s.1)))
says_fits x t p scalars.Blob v kind h =
    let b = blob_is x v (answer_means (option_map (λ b. scalar_value (bytes b)) (blob_of x)) v h) in
    subst (Fits t p) b.3 (rw kind b.2)
says_fits x t p scalars.Timestamp v kind h = timestamp_fits t p x v kind h
says_fits x t p scalars.BigInteger v kind h = big_integer_fits t p (big_integer_of x) v kind h
says_fits x t p scalars.BigDecimal v kind h = big_decimal_fits t p (decimal_form_of x) v kind h
