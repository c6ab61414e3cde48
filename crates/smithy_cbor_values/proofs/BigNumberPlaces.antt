-- Where a big number can't be read, none stands: an item with a number has the heads that a read takes.
use Rattle.std.proofs.Common.{◌≡◌, ◌≤◌, ◌-◌, ◌+◌, ◌++◌, ◌∷◌, [], ◌⊎◌, inl, inr, ℕ, suc, ℤ, List, length, drop, Bool, true, false, Option, Some, None, refl, sym, ◌∙◌, ap, subst, arith, slice_range, length-drop, length-take}
use Rattle.std.specs.Prelude.{◌==◌, pos, negsuc, if◌then◌else◌}
use Rattle.std.proofs.lemmas.Bool.Decides.{nat_tests}
use Rattle.std.proofs.lemmas.List.{append-nil, length-append}
use Rattle.cbor_item.specs.declared.error.ItemError.{ItemError}
use Rattle.cbor_item.specs.Head.{HeadRead, BeginsWithHead}
use Rattle.cbor_item.specs.Item.{Item, definite, indefinite, Extent, unsigned, negative, byte_string, text_string, array, map, tag, simple, float, no_items, item}
use Rattle.cbor_item.specs.WellFormed.{IsItemAt, IsEncodingOf, HeadThen, break}
use Rattle.cbor_item.specs.CutShort.{IsCutChunk}
use Rattle.cbor_item.proofs.HeadLemmas.{head_in_front, front_begins_low, opening_begins}
use Rattle.smithy_cbor.specs.Scalar.{integer_of, big_endian, bignum, big_integer_of, both, decimal_fraction_of}
use Rattle.smithy_cbor.specs.Reading.{OpensAt, IsHeadFault, IsInteger, IsTag, IsBigIntegerHead, IsDefiniteBytes, IsBytesFault, OpensBignum, IsNoBigInteger, AreNoParts, IsPair, IsBreakHead, IsNoPair, IsNoDecimal}
use Rattle.smithy_cbor_values.specs.Standing.{begins_with, mark_with}
use Rattle.smithy_cbor_values.specs.Private.ItemPlaces.{one_item, item_ahead}
use Rattle.smithy_cbor_values.specs.Private.FirstBytes.{byte_front}
use Rattle.smithy_cbor_values.specs.Private.ContainerBytes.{same_head, same_opens_at, EndsAfter, ends_after_entry, definite_framed}
use Rattle.smithy_cbor_values.specs.Private.ArrayPlaces.{array_items}
use Rattle.smithy_cbor_values.proofs.HeadFaults.{no_wanted_head}
use Rattle.smithy_cbor_values.proofs.ScalarReads.{integer_head}

-- ---- tags and definite strings

-- a tag gives its head and its item
pub tag_parts : (n : ℕ) (x : Item) (i : List ℕ) (a e : ℕ) → IsItemAt (tag n x) i a e → (b : ℕ) × OpensAt 6 (Some n) i a b × IsItemAt x i b e
tag_parts n x i a e h =
    let (body, encode, bytes) = h.1 in
    let ahead = item_ahead (tag n x) i a e h in
    let framed = definite_framed 6 n body i a e (omega arith) (omega (arith, ahead)) h.0 bytes in
    (framed.inside, framed.opens, (h.0, subst (λ (s : List ℕ). IsEncodingOf x s) (sym framed.body_is) encode))

-- a byte string in one piece gives its head and its bytes
bytes_parts : (chunk : List ℕ) (i : List ℕ) (a e : ℕ) → IsItemAt (byte_string definite (chunk ∷ [])) i a e
    → (b : ℕ) × OpensAt 2 (Some (length chunk)) i a b × (b ≤ e) × (slice_range i b e ≡ chunk)
bytes_parts chunk i a e h =
    let (first, rest, head, none, is) = h.1.1 in
    let whole : slice_range i a e ≡ first = is ∙ ap (λ r. first ++ r) none ∙ append-nil first in
    let ahead = item_ahead (byte_string definite (chunk ∷ [])) i a e h in
    let framed = definite_framed 2 (length chunk) chunk i a e (omega arith) (omega (arith, ahead)) h.0 (subst (λ (s : List ℕ). HeadThen 2 (length chunk) chunk s) (sym whole) head) in
    (framed.inside, framed.opens, framed.on, framed.body_is)

-- one that is there is not cut off
not_cut : (chunk : List ℕ) (i : List ℕ) (a e : ℕ) → IsItemAt (byte_string definite (chunk ∷ [])) i a e → IsCutChunk 2 (drop a i) → ⊥
not_cut chunk i a e h (announced, body, (head, spelled, is), short) =
    let (b, opens, on, chunk_is) = bytes_parts chunk i a e h in
    let begins = subst (λ (s : List ℕ). BeginsWithHead s (head_in_front 2 announced head)) (sym is) (front_begins_low 2 announced head body (omega arith) spelled) in
    let one = same_head (drop a i) (record { major = 2; argument = Some (length chunk); length = b - a }) (head_in_front 2 announced head) (omega (arith, opens.0)) opens.1 begins in
    let arguments : Some (length chunk) ≡ Some announced = ap (λ (r : HeadRead). r.argument) one in
    let same : length chunk ≡ announced = cc in
    let size : b - a ≡ length head = ap (λ (r : HeadRead). r.length) one in
    let total : length (drop a i) ≡ length head + length body = ap length is ∙ length-append head body in
    omega (arith, same, size, total, length-drop a i, length-drop b i, ap length chunk_is, length-take (e - b) (drop b i), h.0, on, opens.0, short)

-- so nothing is wrong with it
no_bytes_fault : (chunk : List ℕ) (i : List ℕ) (a e : ℕ) (err : ItemError) → IsItemAt (byte_string definite (chunk ∷ [])) i a e → IsBytesFault i a err → ⊥
no_bytes_fault chunk i a e err h (inl fault) =
    let parts = bytes_parts chunk i a e h in
    no_wanted_head IsDefiniteBytes i a err (record { major = 2; argument = Some (length chunk); length = parts.0 - a }) fault parts.1.1
    (refl, λ none. let no' : Some (length chunk) ≡ None = none in cc)
no_bytes_fault chunk i a e err h (inr (is, cut)) = not_cut chunk i a e h cut

-- ---- integers and bignums

-- an integer's head is no tag
integer_is_no_tag : (x : Item) (z : ℤ) (n : ℕ) (i : List ℕ) (a b e : ℕ) → integer_of x ≡ Some z → IsItemAt x i a e → OpensAt 6 (Some n) i a b → ⊥
integer_is_no_tag x z n i a b e is there opens =
    let (h, begins, type) = integer_head x z i a e is there in
    let one = same_head (drop a i) (record { major = 6; argument = Some n; length = b - a }) h (omega (arith, opens.0)) opens.1 begins in
    by h type (ap (λ (r : HeadRead). r.major) one)
  where
    by : (h : HeadRead) → IsInteger h → 6 ≡ h.major → ⊥
    by h (inl zero) major = omega (arith, zero, major)
    by h (inr one) major = omega (arith, one, major)

integer_reads : (x : Item) (z : ℤ) (i : List ℕ) (a e : ℕ) (err : ItemError) → integer_of x ≡ Some z → IsItemAt x i a e → IsNoBigInteger i a err → ⊥
integer_reads x z i a e err is there (inl fault) =
    let (h, begins, type) = integer_head x z i a e is there in
    no_wanted_head IsBigIntegerHead i a err h fault begins (inl type)
integer_reads x z i a e err is there (inr (next, inl opens, fault)) = integer_is_no_tag x z 2 i a next e is there opens
integer_reads x z i a e err is there (inr (next, inr opens, fault)) = integer_is_no_tag x z 3 i a next e is there opens

-- the tag of a bignum is 2 or 3
bignum_tag : (n m : ℕ) (z : ℤ) → bignum n m ≡ Some z → (n ≡ 2) ⊎ (n ≡ 3)
bignum_tag n m z h = by (n == 2) (n == 3) refl refl h
  where
    by : (f g : Bool) → (n == 2) ≡ f → (n == 3) ≡ g → (if f then Some (pos m) else if g then Some (negsuc m) else None) ≡ Some z → (n ≡ 2) ⊎ (n ≡ 3)
    by true g two three h = inl (grind (arith, nat_tests))
    by false true two three h = inr (grind (arith, nat_tests))
    by false false two three h = cc

bignum_reads : (n : ℕ) (chunk : List ℕ) (i : List ℕ) (a e : ℕ) (err : ItemError) → (n ≡ 2) ⊎ (n ≡ 3) → IsItemAt (tag n (byte_string definite (chunk ∷ []))) i a e
    → IsNoBigInteger i a err → ⊥
bignum_reads n chunk i a e err type there (inl fault) =
    let (b, opens, inside) = tag_parts n (byte_string definite (chunk ∷ [])) i a e there in
    let h : HeadRead = record { major = 6; argument = Some n; length = b - a } in
    no_wanted_head IsBigIntegerHead i a err h fault opens.1 (by (b - a) type)
  where
    by : (k : ℕ) → (n ≡ 2) ⊎ (n ≡ 3) → IsBigIntegerHead (record { major = 6; argument = Some n; length = k })
    by k (inl is) = inr (inl (refl, ap Some is))
    by k (inr is) = inr (inr (refl, ap Some is))
bignum_reads n chunk i a e err type there (inr (next, bignum', fault)) =
    let (b, opens, inside) = tag_parts n (byte_string definite (chunk ∷ [])) i a e there in
    no_bytes_fault chunk i b e err inside (subst (λ z. IsBytesFault i z err) (place b bignum' opens) fault)
  where
    place : (b : ℕ) → OpensBignum i a next → OpensAt 6 (Some n) i a b → next ≡ b
    place b (inl two) opens = (same_opens_at 6 (Some 2) (Some n) i a next b two opens).0
    place b (inr three) opens = (same_opens_at 6 (Some 3) (Some n) i a next b three opens).0

-- where no integer or bignum can be read, none stands
pub no_big_integer_at : (x : Item) (z : ℤ) (i : List ℕ) (a e : ℕ) (err : ItemError) → big_integer_of x ≡ Some z → IsItemAt x i a e → IsNoBigInteger i a err → ⊥
no_big_integer_at (unsigned n) z i a e err is there fault = integer_reads (unsigned n) z i a e err is there fault
no_big_integer_at (negative n) z i a e err is there fault = integer_reads (negative n) z i a e err is there fault
no_big_integer_at (tag n (byte_string definite (chunk ∷ []))) z i a e err is there fault =
    bignum_reads n chunk i a e err (bignum_tag n (big_endian chunk) z is) there fault
no_big_integer_at (tag n (byte_string definite [])) z i a e err is there fault = cc
no_big_integer_at (tag n (byte_string definite (c ∷ d ∷ chunks))) z i a e err is there fault = cc
no_big_integer_at (tag n (byte_string indefinite chunks)) z i a e err is there fault = cc
no_big_integer_at (tag n (unsigned m)) z i a e err is there fault = cc
no_big_integer_at (tag n (negative m)) z i a e err is there fault = cc
no_big_integer_at (tag n (text_string extent chunks)) z i a e err is there fault = cc
no_big_integer_at (tag n (array extent es)) z i a e err is there fault = cc
no_big_integer_at (tag n (map extent ps)) z i a e err is there fault = cc
no_big_integer_at (tag n (tag m y)) z i a e err is there fault = cc
no_big_integer_at (tag n (simple m)) z i a e err is there fault = cc
no_big_integer_at (tag n (float digits)) z i a e err is there fault = cc
no_big_integer_at (byte_string extent chunks) z i a e err is there fault = cc
no_big_integer_at (text_string extent chunks) z i a e err is there fault = cc
no_big_integer_at (array extent es) z i a e err is there fault = cc
no_big_integer_at (map extent ps) z i a e err is there fault = cc
no_big_integer_at (simple n) z i a e err is there fault = cc
no_big_integer_at (float digits) z i a e err is there fault = cc

-- ---- decimal fractions

-- what a decimal fraction is made of
pub record IsFraction (x : Item) (exponent mantissa : ℤ) : Type 0 where
  pub extent : Extent
  pub first : Item
  pub second : Item
  pub is : x ≡ tag 4 (array extent (item first (item second no_items)))
  pub first_is : integer_of first ≡ Some exponent
  pub second_is : big_integer_of second ≡ Some mantissa

both_parts : (o p : Option ℤ) (e m : ℤ) → both o p ≡ Some (e, m) → (o ≡ Some e) × (p ≡ Some m)
both_parts (Some a) (Some b) e m h = let pairs : (a, b) ≡ (e, m) = cc in (ap (λ (p : ℤ × ℤ). Some p.0) pairs, ap (λ (p : ℤ × ℤ). Some p.1) pairs)
both_parts (Some a) None e m h = cc
both_parts None p e m h = cc

fraction_of : (n : ℕ) (extent : Extent) (a b : Item) (exponent mantissa : ℤ) → (if n == 4 then both (integer_of a) (big_integer_of b) else None) ≡ Some (exponent, mantissa)
    → IsFraction (tag n (array extent (item a (item b no_items)))) exponent mantissa
fraction_of n extent a b exponent mantissa h = by (n == 4) refl h
  where
    by : (f : Bool) → (n == 4) ≡ f → (if f then both (integer_of a) (big_integer_of b) else None) ≡ Some (exponent, mantissa)
        → IsFraction (tag n (array extent (item a (item b no_items)))) exponent mantissa
    by true four h =
        let parts = both_parts (integer_of a) (big_integer_of b) exponent mantissa h in
        let same : n ≡ 4 = grind (arith, nat_tests) in
        record { extent = extent; first = a; second = b; is = ap (λ k. tag k (array extent (item a (item b no_items)))) same; first_is = parts.0; second_is = parts.1 }
    by false four h = cc

pub fraction_is : (x : Item) (exponent mantissa : ℤ) → decimal_fraction_of x ≡ Some (exponent, mantissa) → IsFraction x exponent mantissa
fraction_is (tag n (array extent (item a (item b no_items)))) exponent mantissa h = fraction_of n extent a b exponent mantissa h
fraction_is (tag n (array extent (item a (item b (item c es))))) exponent mantissa h = cc
fraction_is (tag n (array extent (item a no_items))) exponent mantissa h = cc
fraction_is (tag n (array extent no_items)) exponent mantissa h = cc
fraction_is (tag n (byte_string extent chunks)) exponent mantissa h = cc
fraction_is (tag n (text_string extent chunks)) exponent mantissa h = cc
fraction_is (tag n (unsigned m)) exponent mantissa h = cc
fraction_is (tag n (negative m)) exponent mantissa h = cc
fraction_is (tag n (map extent ps)) exponent mantissa h = cc
fraction_is (tag n (tag m y)) exponent mantissa h = cc
fraction_is (tag n (simple m)) exponent mantissa h = cc
fraction_is (tag n (float digits)) exponent mantissa h = cc
fraction_is (unsigned n) exponent mantissa h = cc
fraction_is (negative n) exponent mantissa h = cc
fraction_is (byte_string extent chunks) exponent mantissa h = cc
fraction_is (text_string extent chunks) exponent mantissa h = cc
fraction_is (array extent es) exponent mantissa h = cc
fraction_is (map extent ps) exponent mantissa h = cc
fraction_is (simple n) exponent mantissa h = cc
fraction_is (float digits) exponent mantissa h = cc

-- where the parts of a fraction stand
record Parts (x y : Item) (i : List ℕ) (a e : ℕ) : Type 0 where
  due : Option ℕ
  inside : ℕ
  opens : OpensAt 4 due i a inside
  between : ℕ
  first_at : IsItemAt x i inside between
  last : ℕ
  second_at : IsItemAt y i between last
  ends : EndsAfter 2 i (mark_with due) last e

array_parts : (extent : Extent) (x y : Item) (i : List ℕ) (a e : ℕ) → IsItemAt (array extent (item x (item y no_items))) i a e → Parts x y i a e
array_parts extent x y i a e h =
    let (due, b, opens, (n, f, entry, first, (m, g, entry', second, over))) = array_items extent (item x (item y no_items)) i a e h in
    record {
      due = due;
      inside = b;
      opens = opens;
      between = f;
      first_at = first;
      last = g;
      second_at = second;
      ends = ends_after_entry 1 i b g e (mark_with due) n entry (ends_after_entry 0 i f g e n m entry' over);
    }

pair_head : (due : Option ℕ) (i : List ℕ) (l e length : ℕ) → EndsAfter 2 i (mark_with due) l e → IsPair (record { major = 4; argument = due; length = length })
pair_head due i l e length (inl h) = (refl, inl h.0)
pair_head due i l e length (inr h) = (refl, inr h.0)

-- a break has its head
break_head : (i : List ℕ) (l : ℕ) → begins_with break (drop l i) ≡ true → (h : HeadRead) × BeginsWithHead (drop l i) h × IsBreakHead h
break_head i l closed = (
  record { major = 7; argument = None; length = 1 },
  subst (λ (s : List ℕ). BeginsWithHead s (record { major = 7; argument = None; length = 1 })) (sym (byte_front break i l closed))
      (opening_begins 7 (drop (suc l) i) (inr refl)),
  (refl, refl),
)

module _ (x y : Item) (exponent mantissa : ℤ) (x_is : integer_of x ≡ Some exponent) (y_is : big_integer_of y ≡ Some mantissa) (i : List ℕ) where
  -- nothing is wrong with the parts
  parts_read : (b f g : ℕ) (err : ItemError) → IsItemAt x i b f → IsItemAt y i f g → AreNoParts i b err → ⊥
  parts_read b f g err first second (inl fault) =
      let (h, begins, type) = integer_head x exponent i b f x_is first in
      no_wanted_head IsInteger i b err h fault begins type
  parts_read b f g err first second (inr (next, (z, (j, there, is)), fault)) =
      let same = (one_item x j i b f next first there).1 in
      no_big_integer_at y mantissa i f g err y_is second (subst (λ k. IsNoBigInteger i k err) (sym same) fault)

  -- nor with the array
  pair_reads : (extent : Extent) (a e : ℕ) (err : ItemError) → IsItemAt (array extent (item x (item y no_items))) i a e → IsNoPair i a err → ⊥
  pair_reads extent a e err there (inl fault) =
      let p = array_parts extent x y i a e there in
      no_wanted_head IsPair i a err (record { major = 4; argument = p.due; length = p.inside - a }) fault p.opens.1 (pair_head p.due i p.last e (p.inside - a) p.ends)
  pair_reads extent a e err there (inr (inl (next, opens, fault))) =
      let p = array_parts extent x y i a e there in
      let same = (same_opens_at 4 (Some 2) p.due i a next p.inside opens p.opens).0 in
      parts_read p.inside p.between p.last err p.first_at p.second_at (subst (λ k. AreNoParts i k err) same fault)
  pair_reads extent a e err there (inr (inr (next, opens, inl fault))) =
      let p = array_parts extent x y i a e there in
      let same = (same_opens_at 4 None p.due i a next p.inside opens p.opens).0 in
      parts_read p.inside p.between p.last err p.first_at p.second_at (subst (λ k. AreNoParts i k err) same fault)
  pair_reads extent a e err there (inr (inr (next, opens, inr (end, (u, m, (mid, (j, first, is), (k, second, is'))), fault)))) =
      let p = array_parts extent x y i a e there in
      let one = same_opens_at 4 None p.due i a next p.inside opens p.opens in
      let middle = (one_item j x i p.inside mid p.between (subst (λ n. IsItemAt j i n mid) one.0 first) p.first_at).1 in
      let last = (one_item k y i p.between end p.last (subst (λ n. IsItemAt k i n end) middle second) p.second_at).1 in
      by p.due p.last p.ends (sym one.1) (subst (λ n. IsHeadFault IsBreakHead i n err) last fault)
    where
      by : (due : Option ℕ) (l : ℕ) → EndsAfter 2 i (mark_with due) l e → due ≡ None → IsHeadFault IsBreakHead i l err → ⊥
      by due l (inl h) none fault = let both' : None ≡ Some 2 = sym none ∙ h.0 in cc
      by due l (inr h) none fault =
          let (head, begins, type) = break_head i l h.1 in
          no_wanted_head IsBreakHead i l err head fault begins type

fraction_reads : (extent : Extent) (x y : Item) (exponent mantissa : ℤ) → integer_of x ≡ Some exponent → big_integer_of y ≡ Some mantissa → (i : List ℕ) (a e : ℕ) (err : ItemError)
    → IsItemAt (tag 4 (array extent (item x (item y no_items)))) i a e → IsNoDecimal i a err → ⊥
fraction_reads extent x y exponent mantissa x_is y_is i a e err there (inl fault) =
    let (b, opens, inside) = tag_parts 4 (array extent (item x (item y no_items))) i a e there in
    no_wanted_head (IsTag 4) i a err (record { major = 6; argument = Some 4; length = b - a }) fault opens.1 (refl, refl)
fraction_reads extent x y exponent mantissa x_is y_is i a e err there (inr (next, opens', fault)) =
    let (b, opens, inside) = tag_parts 4 (array extent (item x (item y no_items))) i a e there in
    let same = (same_opens_at 6 (Some 4) (Some 4) i a next b opens' opens).0 in
    pair_reads x y exponent mantissa x_is y_is i extent b e err inside (subst (λ n. IsNoPair i n err) same fault)

-- where no decimal fraction can be read, none stands
pub no_decimal_at : (x : Item) (exponent mantissa : ℤ) (i : List ℕ) (a e : ℕ) (err : ItemError) → decimal_fraction_of x ≡ Some (exponent, mantissa) → IsItemAt x i a e → IsNoDecimal i a err → ⊥
no_decimal_at x exponent mantissa i a e err is there fault =
    let p = fraction_is x exponent mantissa is in
    fraction_reads p.extent p.first p.second exponent mantissa p.first_is p.second_is i a e err (subst (λ (z : Item). IsItemAt z i a e) p.is there) fault
