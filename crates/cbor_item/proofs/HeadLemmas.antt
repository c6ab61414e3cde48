-- Bytes begin with one head at most, and then no cut or broken one.
use Rattle.std.proofs.Common.{◌≡◌, inl, inr, ℕ, suc, zero, ◌+◌, ◌*◌, ◌/◌, ◌%◌, ◌<◌, ◌≤◌, ◌^◌, List, [], ◌∷◌, ◌++◌, length, take, drop, sym, ◌∙◌, ap, subst, arith, slice_index, Option, Some, None, refl, length-take, length-append}
use Rattle.std.specs.Prelude.{◌==◌, nat_lt, if◌then◌else◌}
use Rattle.std.proofs.lemmas.Bool.Decides.{nat_tests}
use Rattle.std.specs.Int.{w8, w16, w32, w64, to_be_bytes, from_be_bytes}
use Rattle.std.proofs.lemmas.Nat.{from_be_bytes-to_be_bytes_2, from_be_bytes-to_be_bytes_4, from_be_bytes-to_be_bytes_8}
use Rattle.cbor_item.specs.Head.{initial_byte, ArgumentWidth, immediate, one, two, four, eight, width_limit, head_bytes, IsHead, HeadRead, MayBeIndefinite, IsShortSimple, argument_length, IsCutHead, IsBrokenHead, BeginsWithHead}
use Rattle.cbor_item.specs.Private.Chunk.{HeadAnswer, whole, cut_head, broken_head, IsHeadAnswer}

-- the number after an initial byte with this additional information
abbrev pub argument_after : ℕ → List ℕ → Option ℕ
argument_after info rest =
    if nat_lt info 24 then Some info
    else if info == 24 then Some (from_be_bytes w8 (take 1 rest))
    else if info == 25 then Some (from_be_bytes w16 (take 2 rest))
    else if info == 26 then Some (from_be_bytes w32 (take 4 rest))
    else if info == 27 then Some (from_be_bytes w64 (take 8 rest))
    else None

-- the one head with which these bytes can begin
abbrev pub only_head : ℕ → List ℕ → HeadRead
only_head b rest = record {
  major = b / 32;
  argument = argument_after (b % 32) rest;
  length = suc (argument_length (b % 32));
}

one_byte : (n : ℕ) → n < 2 ^ 8 → from_be_bytes w8 (to_be_bytes w8 n) ≡ n
one_byte n h = grind arith

-- what an initial byte is made of
parts : (b m info : ℕ) → b ≡ 32 * m + info → info < 32 → (b / 32 ≡ m) × (b % 32 ≡ info)
parts b m info e h = (omega arith, omega arith)

-- the bytes taken are an initial byte and the argument in k bytes
record Split (b : ℕ) (rest : List ℕ) (len k first : ℕ) (more : List ℕ) : Type 0 where
  initial : b ≡ first
  length_is : len ≡ suc k
  after : take k rest ≡ more

split : (b : ℕ) (rest : List ℕ) (len k first : ℕ) (more : List ℕ) → len ≤ suc (length rest) → length more ≡ k
    → take len (b ∷ rest) ≡ first ∷ more → Split b rest len k first more
split b rest zero k first more h size e = absurd (cc)
split b rest (suc j) k first more h size e =
    let same : b ≡ first = ap (λ l. slice_index l 0) e in
    let after : take j rest ≡ more = ap (drop 1) e in
    let count : j ≡ k = omega (arith, length-take j rest, ap length after) in
    record { initial = same; length_is = ap suc count; after = subst (λ (i : ℕ). take i rest ≡ more) count after }

-- what a width tells, by the information that announces it
finish : (b m info k n len : ℕ) (rest : List ℕ) → (b / 32 ≡ m) × (b % 32 ≡ info) → argument_after info rest ≡ Some n
    → argument_length info ≡ k → len ≡ suc k
    → (m ≡ b / 32) × (Some n ≡ argument_after (b % 32) rest) × (len ≡ suc (argument_length (b % 32)))
finish b m info k n len rest p value size whole_length = (
  sym p.0,
  sym (ap (λ i. argument_after i rest) p.1 ∙ value),
  whole_length ∙ sym (ap (λ i. suc (argument_length i)) p.1 ∙ ap suc size),
)

small_argument : (n : ℕ) (rest : List ℕ) → n < 24 → argument_after n rest ≡ Some n
small_argument n rest h = grind (arith, nat_tests)

small_length : (n : ℕ) → n < 24 → argument_length n ≡ 0
small_length n h = grind (arith, nat_tests)

begins_in : (m n len : ℕ) (w : ArgumentWidth) (b : ℕ) (rest : List ℕ) → len ≤ suc (length rest) → n < width_limit w
    → take len (b ∷ rest) ≡ head_bytes m w n
    → (m ≡ b / 32) × (Some n ≡ argument_after (b % 32) rest) × (len ≡ suc (argument_length (b % 32)))
begins_in m n len immediate b rest h fits e =
    let s = split b rest len 0 (32 * m + n) [] h refl e in
    finish b m n 0 n len rest (parts b m n s.initial (omega arith)) (small_argument n rest fits) (small_length n fits) s.length_is
begins_in m n len one b rest h fits e =
    let s = split b rest len 1 (32 * m + 24) (to_be_bytes w8 n) h refl e in
    finish b m 24 1 n len rest (parts b m 24 s.initial (omega arith)) (ap (λ bs. Some (from_be_bytes w8 bs)) s.after ∙ ap Some (one_byte n fits)) refl s.length_is
begins_in m n len two b rest h fits e =
    let s = split b rest len 2 (32 * m + 25) (to_be_bytes w16 n) h refl e in
    finish b m 25 2 n len rest (parts b m 25 s.initial (omega arith)) (ap (λ bs. Some (from_be_bytes w16 bs)) s.after ∙ ap Some (from_be_bytes-to_be_bytes_2 n fits)) refl s.length_is
begins_in m n len four b rest h fits e =
    let s = split b rest len 4 (32 * m + 26) (to_be_bytes w32 n) h refl e in
    finish b m 26 4 n len rest (parts b m 26 s.initial (omega arith)) (ap (λ bs. Some (from_be_bytes w32 bs)) s.after ∙ ap Some (from_be_bytes-to_be_bytes_4 n fits)) refl s.length_is
begins_in m n len eight b rest h fits e =
    let s = split b rest len 8 (32 * m + 27) (to_be_bytes w64 n) h refl e in
    finish b m 27 8 n len rest (parts b m 27 s.initial (omega arith)) (ap (λ bs. Some (from_be_bytes w64 bs)) s.after ∙ ap Some (from_be_bytes-to_be_bytes_8 n fits)) refl s.length_is

-- and for information 31
begins_without : (m len b : ℕ) (rest : List ℕ) → len ≤ suc (length rest) → take len (b ∷ rest) ≡ initial_byte m 31 ∷ []
    → (m ≡ b / 32) × (b % 32 ≡ 31) × (len ≡ 1)
begins_without m len b rest h e =
    let s = split b rest len 0 (32 * m + 31) [] h refl e in
    let p = parts b m 31 s.initial (omega arith) in
    (sym p.0, p.1, s.length_is)

-- bytes that begin with a head begin with this one alone
pub head_is_only : (b : ℕ) (rest : List ℕ) (h : HeadRead) → BeginsWithHead (b ∷ rest) h → h ≡ only_head b rest
head_is_only b rest h begins = go h.major h.argument h.length begins
  where
    go : (major : ℕ) (argument : Option ℕ) (len : ℕ) → BeginsWithHead (b ∷ rest) (record { major = major; argument = argument; length = len })
        → record { major = major; argument = argument; length = len } ≡ only_head b rest
    go major None len (within, (may, e)) =
        let p = begins_without major len b rest within e in
        rw (p.0, p.1, p.2) refl
    go major (Some n) len (within, (type, spelled, long)) =
        let p = begins_in major n len spelled.width b rest within spelled.fits spelled.spelled in
        rw (p.0, p.1, p.2) refl

-- no head is empty
head_not_empty : (major n : ℕ) (w : ArgumentWidth) → [] ≡ head_bytes major w n → ⊥
head_not_empty major n immediate e = cc
head_not_empty major n one e = cc
head_not_empty major n two e = cc
head_not_empty major n four e = cc
head_not_empty major n eight e = cc

take_nothing : (len : ℕ) → take {A = ℕ} len [] ≡ []
take_nothing zero = refl
take_nothing (suc n) = refl

nothing_begins : (h : HeadRead) → BeginsWithHead [] h → ⊥
nothing_begins h begins = go h.major h.argument h.length begins
  where
    go : (major : ℕ) (argument : Option ℕ) (len : ℕ) → BeginsWithHead [] (record { major = major; argument = argument; length = len }) → ⊥
    go major None len (within, (may, e)) = let none = take_nothing len in cc
    go major (Some n) len (within, (type, spelled, long)) =
        head_not_empty major n spelled.width (sym (take_nothing len) ∙ spelled.spelled)

not_cut : (b : ℕ) (rest : List ℕ) (h : HeadRead) → BeginsWithHead (b ∷ rest) h → IsCutHead (b ∷ rest) → ⊥
not_cut b rest h begins cut =
    let size : h.length ≡ suc (argument_length (b % 32)) = ap (λ (k : HeadRead). k.length) (head_is_only b rest h begins) in
    let within : h.length ≤ suc (length rest) = begins.0 in omega arith

-- information 28 to 31 has no argument after it
no_argument : (info : ℕ) (rest : List ℕ) → 28 ≤ info → (argument_after info rest ≡ None) × (argument_length info ≡ 0)
no_argument info rest h = (grind (arith, nat_tests), grind (arith, nat_tests))

not_broken : (b : ℕ) (rest : List ℕ) (h : HeadRead) → BeginsWithHead (b ∷ rest) h → IsBrokenHead (b ∷ rest) → ⊥
not_broken b rest h begins wrong = go h.major h.argument h.length begins wrong
  where
    go : (major : ℕ) (argument : Option ℕ) (len : ℕ) → BeginsWithHead (b ∷ rest) (record { major = major; argument = argument; length = len })
        → IsBrokenHead (b ∷ rest) → ⊥
    go major None len (within, (may, e)) (inl range) =
        let p = begins_without major len b rest within e in omega arith
    go major None len (within, (may, e)) (inr (inl (info, never))) =
        let p = begins_without major len b rest within e in never (subst (λ (m : ℕ). MayBeIndefinite m) p.0 may)
    go major None len (within, (may, e)) (inr (inr (k, small, short))) =
        let p = begins_without major len b rest within e in
        let first : b ≡ 0xf8 = ap (λ l. slice_index l 0) short in omega arith
    go major (Some n) len (within, (type, spelled, long)) (inl range) =
        let p = begins_in major n len spelled.width b rest within spelled.fits spelled.spelled in
        let none = (no_argument (b % 32) rest (omega arith)).0 in cc
    go major (Some n) len (within, (type, spelled, long)) (inr (inl (info, never))) =
        let p = begins_in major n len spelled.width b rest within spelled.fits spelled.spelled in
        let none = (no_argument (b % 32) rest (omega arith)).0 in cc
    go major (Some n) len (within, (type, spelled, long)) (inr (inr (k, small, short))) =
        let p = begins_in major n len spelled.width b rest within spelled.fits spelled.spelled in
        let first : b ≡ 0xf8 = ap (λ l. slice_index l 0) short in
        let info : b % 32 ≡ 24 = omega arith in
        let size : len ≡ 2 = p.2 ∙ ap (λ i. suc (argument_length i)) info in
        long (k, small, rw size short)

cut_not_broken : (b : ℕ) (rest : List ℕ) → IsCutHead (b ∷ rest) → IsBrokenHead (b ∷ rest) → ⊥
cut_not_broken b rest cut (inl range) = let none = (no_argument (b % 32) rest (omega arith)).1 in omega arith
cut_not_broken b rest cut (inr (inl (info, never))) = let none = (no_argument (b % 32) rest (omega arith)).1 in omega arith
cut_not_broken b [] cut (inr (inr (k, small, short))) = cc
cut_not_broken b (c ∷ rest) cut (inr (inr (k, small, short))) =
    let first : b ≡ 0xf8 = ap (λ l. slice_index l 0) short in
    let info : b % 32 ≡ 24 = omega arith in
    let size : argument_length (b % 32) ≡ 1 = ap argument_length info in omega arith

-- bytes begin with one head at most, and with none where their head is cut or broken
pub one_answer : (bytes : List ℕ) (a c : HeadAnswer) → IsHeadAnswer bytes a → IsHeadAnswer bytes c → a ≡ c
one_answer [] (whole h) c p q = absurd (nothing_begins h p)
one_answer [] cut_head (whole k) p q = absurd (nothing_begins k q)
one_answer [] cut_head cut_head p q = refl
one_answer [] cut_head broken_head p q = absurd q
one_answer [] broken_head c p q = absurd p
one_answer (b ∷ rest) (whole h) (whole k) p q = ap whole (head_is_only b rest h p ∙ sym (head_is_only b rest k q))
one_answer (b ∷ rest) (whole h) cut_head p q = absurd (not_cut b rest h p q)
one_answer (b ∷ rest) (whole h) broken_head p q = absurd (not_broken b rest h p q)
one_answer (b ∷ rest) cut_head (whole k) p q = absurd (not_cut b rest k q p)
one_answer (b ∷ rest) cut_head cut_head p q = refl
one_answer (b ∷ rest) cut_head broken_head p q = absurd (cut_not_broken b rest p q)
one_answer (b ∷ rest) broken_head (whole k) p q = absurd (not_broken b rest k q p)
one_answer (b ∷ rest) broken_head cut_head p q = absurd (cut_not_broken b rest q p)
one_answer (b ∷ rest) broken_head broken_head p q = refl

-- the head that stands in front
abbrev pub head_in_front : ℕ → ℕ → List ℕ → HeadRead
head_in_front major n head = record { major = major; argument = Some n; length = length head }

pub take_front : (front rest : List ℕ) → take (length front) (front ++ rest) ≡ front
take_front [] rest = refl
take_front (b ∷ front) rest = ap (λ l. b ∷ l) (take_front front rest)

pub drop_front : (front rest : List ℕ) → drop (length front) (front ++ rest) ≡ rest
drop_front [] rest = refl
drop_front (b ∷ front) rest = drop_front front rest

front_within : (front rest : List ℕ) → length front ≤ length (front ++ rest)
front_within front rest = omega (arith, length-append front rest)

-- a head of another type than 7 is no short simple value
not_short : (major n : ℕ) (head : List ℕ) (w : ArgumentWidth) → major ≤ 6 → n < width_limit w → head ≡ head_bytes major w n → ¬ (IsShortSimple head)
not_short major n head immediate low fits e (k, small, short) = let p : 32 * major + n ≡ 0xf8 = ap (λ l. slice_index l 0) (sym e ∙ short) in omega arith
not_short major n head one low fits e (k, small, short) = let p : 32 * major + 24 ≡ 0xf8 = ap (λ l. slice_index l 0) (sym e ∙ short) in omega arith
not_short major n head two low fits e (k, small, short) = let p : 32 * major + 25 ≡ 0xf8 = ap (λ l. slice_index l 0) (sym e ∙ short) in omega arith
not_short major n head four low fits e (k, small, short) = let p : 32 * major + 26 ≡ 0xf8 = ap (λ l. slice_index l 0) (sym e ∙ short) in omega arith
not_short major n head eight low fits e (k, small, short) = let p : 32 * major + 27 ≡ 0xf8 = ap (λ l. slice_index l 0) (sym e ∙ short) in omega arith

-- what begins with a head begins with it, whatever follows
pub front_begins : (major n : ℕ) (head rest : List ℕ) → major ≤ 7 → IsHead major n head → ¬ (IsShortSimple head)
    → BeginsWithHead (head ++ rest) (head_in_front major n head)
front_begins major n head rest type spelled long =
    let P : List ℕ → Type 0 = λ l. (major ≤ 7) × IsHead major n l × ¬ (IsShortSimple l) in
    (front_within head rest, subst P (sym (take_front head rest)) (type, spelled, long))

pub front_begins_low : (major n : ℕ) (head rest : List ℕ) → major ≤ 6 → IsHead major n head
    → BeginsWithHead (head ++ rest) (head_in_front major n head)
front_begins_low major n head rest low spelled =
    front_begins major n head rest (omega arith) spelled (not_short major n head spelled.width low spelled.fits spelled.spelled)

-- what begins with the initial byte of an indefinite length
pub opening_begins : (major : ℕ) (rest : List ℕ) → MayBeIndefinite major
    → BeginsWithHead (initial_byte major 31 ∷ rest) (record { major = major; argument = None; length = 1 })
opening_begins major rest may = (omega (arith, length_positive (initial_byte major 31) rest), (may, refl))
  where
    length_positive : (b : ℕ) (rest : List ℕ) → 1 ≤ length (b ∷ rest)
    length_positive b rest = omega arith

-- a head takes at least one byte
pub head_is_some : (bytes : List ℕ) (h : HeadRead) → BeginsWithHead bytes h → 0 < h.length
head_is_some [] h begins = absurd (nothing_begins h begins)
head_is_some (b ∷ rest) h begins =
    let size : h.length ≡ suc (argument_length (b % 32)) = ap (λ (k : HeadRead). k.length) (head_is_only b rest h begins) in omega arith
