-- Fronts of texts and what is left behind a delimiter.
use Rattle.std.proofs.Common.{◌≡◌, ◌==◌, ◌<◌, ◌≤◌, ℕ, List, [], ◌∷◌, ◌++◌, length, take, drop, Bool, false, nat_eq, refl, sym, ap, subst, ◌∙◌, arith, Some, ℤ, inl, inr, append_assoc, encode_utf8, encode_utf8_all}
use Rattle.std.proofs.Math.Seq.{take-append_seam, drop-append_seam}
use Rattle.std.proofs.Math.ListN.{drop_of_length-le}
use Rattle.std.proofs.lemmas.Bool.Decides.{nat_tests}
use Rattle.std.proofs.lemmas.List.{append-nil, length-append, take-append-drop}
use Rattle.std.proofs.lemmas.Str.{encode_same, length-encode, len_utf8_bounds, IsCharBoundary-from_take}
use Rattle.std.specs.Str.{IsUtf8, IsCharBoundary, NonePass, NoCharPasses}
use Rattle.std.specs.Str.Pattern.{FindsChar, SplitsAroundMatch}
use Rattle.smithy_instants.specs.DateFront.{IsDelimited}
use Rattle.smithy_instants.specs.DateText.{offset_of, date_time_nanos, http_date_nanos}
use Rattle.smithy_instants.specs.Private.FrontLength.{date_time_length, http_date_length}
use Rattle.smithy_instants.proofs.DateFrontLemmas.{date_time_ends, http_date_ends}

-- the front, and all that comes behind it
pub front_behind : (delim : ℕ) (text front rest : List ℕ) → IsDelimited delim text front rest → (ys : List ℕ) × (text ≡ front ++ ys)
front_behind delim text front rest (inl p) = ([], p.0 ∙ sym (append-nil front))
front_behind delim text front rest (inr e) = (encode_utf8 delim ++ rest, e)

-- the front stands within the text, which may be cut behind it
pub record IsWithin (text front : List ℕ) : Type 0 where
  pub fits : length front ≤ length text
  pub front_is : take (length front) text ≡ front
  pub boundary : IsUtf8 text → IsUtf8 front → IsCharBoundary text (length front)

pub front_within : (delim : ℕ) (text front rest : List ℕ) → IsDelimited delim text front rest → IsWithin text front
front_within delim text front rest d =
    let behind = front_behind delim text front rest d in
    let size = ap length behind.1 ∙ length-append front behind.0 in
    let fits : length front ≤ length text = omega arith in
    let front_is : take (length front) text ≡ front = ap (take (length front)) behind.1 ∙ take-append_seam front behind.0 in
    record {
      fits = fits;
      front_is = front_is;
      boundary = λ whole part. IsCharBoundary-from_take text (length front) whole fits (subst IsUtf8 (sym front_is) part);
    }

-- behind the delimiter stands the rest
pub rest_is : (delim : ℕ) (text front rest more : List ℕ) → IsDelimited delim text front rest → 0 < length (drop (length front) text) → drop (length front) text ≡ encode_utf8 delim ++ more → more ≡ rest
rest_is delim text front rest more (inl p) some split =
    let none = ap length (ap (drop (length front)) p.0 ∙ drop_of_length-le front (omega arith)) in absurd (omega arith)
rest_is delim text front rest more (inr e) some split =
    let behind = ap (drop (length front)) e ∙ drop-append_seam front (encode_utf8 delim ++ rest) in
    (encode_same delim delim more rest (sym split ∙ behind)).1

-- a date takes the bytes that its length tells
pub date_time_front : (others : Bool) (delim : ℕ) (text front rest : List ℕ) (d : ℤ) → IsDelimited delim text front rest → date_time_nanos (offset_of others) front ≡ Some d → date_time_length others text ≡ length front
date_time_front others delim text front rest d is means =
    let behind = front_behind delim text front rest is in
    ap (date_time_length others) behind.1 ∙ date_time_ends others front behind.0 d means

pub http_date_front : (delim : ℕ) (text front rest : List ℕ) (d : ℤ) → IsDelimited delim text front rest → http_date_nanos front ≡ Some d → http_date_length text ≡ length front
http_date_front delim text front rest d is means =
    let behind = front_behind delim text front rest is in
    ap http_date_length behind.1 ∙ http_date_ends front behind.0 d means

self_equal : (c : ℕ) → nat_eq c c ≡ false → ⊥
self_equal c h = absurd (grind (arith, nat_tests))

not_itself : (c d : ℕ) → d ≡ c → nat_eq c d ≡ false → ⊥
not_itself c d same h = self_equal c (subst (λ x. nat_eq c x ≡ false) same h)

some_bytes : (c : ℕ) (more : List ℕ) → 0 < length (encode_utf8 c ++ more)
some_bytes c more =
    let bounds = len_utf8_bounds c in
    let size = length-encode c in
    let whole = length-append (encode_utf8 c) more in omega arith

-- the first place of a character is one
pub first_same : (d : ℕ) (cs ds r t : List ℕ) → NonePass (λ c. c == d) cs → NonePass (λ c. c == d) ds
    → encode_utf8_all cs ++ (encode_utf8 d ++ r) ≡ encode_utf8_all ds ++ (encode_utf8 d ++ t) → (encode_utf8_all cs ≡ encode_utf8_all ds) × (r ≡ t)
first_same d [] [] r t n m e = (refl, (encode_same d d r t e).1)
first_same d [] (c ∷ ds) r t n m e =
    let same = encode_same d c r (encode_utf8_all ds ++ (encode_utf8 d ++ t)) (e ∙ append_assoc (encode_utf8 c) (encode_utf8_all ds) (encode_utf8 d ++ t)) in
    absurd (not_itself c d same.0 m.0)
first_same d (b ∷ cs) [] r t n m e =
    let same = encode_same d b t (encode_utf8_all cs ++ (encode_utf8 d ++ r)) (sym e ∙ append_assoc (encode_utf8 b) (encode_utf8_all cs) (encode_utf8 d ++ r)) in
    absurd (not_itself b d same.0 n.0)
first_same d (b ∷ cs) (c ∷ ds) r t n m e =
    let same = encode_same b c (encode_utf8_all cs ++ (encode_utf8 d ++ r)) (encode_utf8_all ds ++ (encode_utf8 d ++ t))
    (sym (append_assoc (encode_utf8 b) (encode_utf8_all cs) (encode_utf8 d ++ r)) ∙ e ∙ append_assoc (encode_utf8 c) (encode_utf8_all ds) (encode_utf8 d ++ t)) in
    let ih = first_same d cs ds r t n.1 m.1 same.1 in
    (ap (λ x. encode_utf8 x ++ encode_utf8_all cs) same.0 ∙ ap (λ l. encode_utf8 c ++ l) ih.0, ih.1)

-- a text without a character has it nowhere
pub never_there : (d : ℕ) (cs ds r : List ℕ) → NonePass (λ c. c == d) cs → encode_utf8_all cs ≡ encode_utf8_all ds ++ (encode_utf8 d ++ r) → ⊥
never_there d [] [] r n e = let some = some_bytes d r in let none = ap length e in absurd (omega arith)
never_there d [] (c ∷ ds) r n e =
    let some = some_bytes c (encode_utf8_all ds ++ (encode_utf8 d ++ r)) in
    let none = ap length (e ∙ append_assoc (encode_utf8 c) (encode_utf8_all ds) (encode_utf8 d ++ r)) in absurd (omega arith)
never_there d (b ∷ cs) [] r n e = not_itself b d (sym (encode_same b d (encode_utf8_all cs) r e).0) n.0
never_there d (b ∷ cs) (c ∷ ds) r n e =
    never_there d cs ds r n.1 (encode_same b c (encode_utf8_all cs) (encode_utf8_all ds ++ (encode_utf8 d ++ r)) (e ∙ append_assoc (encode_utf8 c) (encode_utf8_all ds) (encode_utf8 d ++ r))).1

-- what stands before and behind the first delimiter is the front and the rest
pub first_split : (d : ℕ) (text a b front rest : List ℕ) → SplitsAroundMatch (FindsChar d) text a b → NoCharPasses (λ c. c == d) front → IsDelimited d text front rest → (a ≡ front) × (b ≡ rest)
first_split d text a b front rest split none is =
    let i = split.0 in
    let j = split.1 in
    let before = split.2.0 in
    let whole : text ≡ encode_utf8_all before.0 ++ (encode_utf8 d ++ drop j text) =
    sym (take-append-drop i text) ∙ ap (λ l. take i text ++ l) split.2.1.split ∙ ap (λ l. l ++ (encode_utf8 d ++ drop j text)) (sym before.1) in
    by is whole
  where
    by : IsDelimited d text front rest → text ≡ encode_utf8_all split.2.0.0 ++ (encode_utf8 d ++ drop split.1 text) → (a ≡ front) × (b ≡ rest)
    by (inl p) whole = absurd (never_there d none.0 split.2.0.0 (drop split.1 text) none.2 (none.1 ∙ sym p.0 ∙ whole))
    by (inr e) whole =
        let same = first_same d split.2.0.0 none.0 (drop split.1 text) rest split.2.0.2 none.2 (sym whole ∙ e ∙ ap (λ l. l ++ (encode_utf8 d ++ rest)) (sym none.1)) in
        (split.3 ∙ sym split.2.0.1 ∙ same.0 ∙ none.1, split.4 ∙ same.1)

-- a text without a delimiter is the front, and nothing is left
pub no_split : (d : ℕ) (text front rest : List ℕ) → NoCharPasses (λ c. c == d) text → NoCharPasses (λ c. c == d) front → IsDelimited d text front rest → (text ≡ front) × ([] ≡ rest)
no_split d text front rest nowhere none (inl p) = (p.0, sym p.1)
no_split d text front rest nowhere none (inr e) =
    absurd (never_there d nowhere.0 none.0 rest nowhere.2 (nowhere.1 ∙ e ∙ ap (λ l. l ++ (encode_utf8 d ++ rest)) (sym none.1)))
