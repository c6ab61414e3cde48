-- What the end of skipping tells of the bytes: an item was there, or they are cut off inside one.
use Rattle.std.proofs.Common.{◌≡◌, ◌⊎◌, inl, inr, ℕ, suc, zero, ◌+◌, ◌*◌, ◌%◌, ◌<◌, ◌≤◌, List, [], ◌∷◌, ◌++◌, length, take, drop, sym, ◌∙◌, ap, subst, arith, Option, Some, None, refl, append_assoc, append-nil, length-take, take-append-drop, Bool, true, false}
use Rattle.std.specs.Prelude.{◌==◌, nat_lt, All, if◌then◌else◌}
use Rattle.std.specs.Int.{w16, w32, w64, to_be_bytes, byte_at, bytes_high_first}
use Rattle.std.proofs.lemmas.Bool.{cases_lt}
use Rattle.std.proofs.lemmas.Bool.Decides.{nat_tests}
use Rattle.cbor_item.specs.declared.skip.Due.{Due}
use Rattle.cbor_item.specs.declared.skip.Due.TheVariants.{Items, Pairs, ValueAndPairs, ItemsUntilBreak, PairsUntilBreak, ValueUntilBreak, ChunksUntilBreak}
use Rattle.cbor_item.specs.Head.{initial_byte, ArgumentWidth, immediate, one, two, four, eight, width_limit, head_bytes, IsHead, HeadRead, MayBeIndefinite, IsShortSimple, IsCutHead, BeginsWithHead}
use Rattle.cbor_item.specs.Item.{definite, indefinite, Item, unsigned, negative, byte_string, text_string, array, map as map_item, tag, simple, float, Items as ItemList, no_items, item, item_count, Pairs as PairList, no_pairs, pair, pair_count}
use Rattle.cbor_item.specs.WellFormed.{break, HeadThen, UntilBreak, AreChunks, IsEncodingOf, AreEncodingsOf, ArePairEncodingsOf}
use Rattle.cbor_item.specs.CutShort.{announced_items, IsCutChunk, IsCutShort, in_head, in_string, in_announced, in_indefinite}
use Rattle.cbor_item.specs.Private.Chunk.{whole, cut_head, broken_head, begins_with_break}
use Rattle.cbor_item.specs.Private.Skip.{Outcome, ended, cut, broken, State, between, at_item, at_chunk, stopped, next, after_payload, after_head, after_chunk_head, Becomes, Leads, at_end, goes_on}

-- the bytes are all that is due
abbrev pub AreDue : Due → List ℕ → Type 0
AreDue (Items n) bytes = (is : ItemList) × (item_count is ≡ n) × AreEncodingsOf is bytes
AreDue (Pairs n) bytes = (ps : PairList) × (pair_count ps ≡ n) × ArePairEncodingsOf ps bytes
AreDue (ValueAndPairs n) bytes =
    (v : Item) × (value more : List ℕ) × IsEncodingOf v value
    × ((ps : PairList) × (pair_count ps ≡ n) × ArePairEncodingsOf ps more) × (bytes ≡ value ++ more)
AreDue ItemsUntilBreak bytes = (is : ItemList) × (body : List ℕ) × AreEncodingsOf is body × (bytes ≡ body ++ break ∷ [])
AreDue PairsUntilBreak bytes = (ps : PairList) × (body : List ℕ) × ArePairEncodingsOf ps body × (bytes ≡ body ++ break ∷ [])
AreDue ValueUntilBreak bytes =
    (v : Item) × (value more : List ℕ) × IsEncodingOf v value
    × ((ps : PairList) × (body : List ℕ) × ArePairEncodingsOf ps body × (more ≡ body ++ break ∷ [])) × (bytes ≡ value ++ more)
AreDue (ChunksUntilBreak major) bytes =
    (chunks : List (List ℕ)) × (body : List ℕ) × AreChunks major chunks body × (bytes ≡ body ++ break ∷ [])

-- the bytes end inside one of the items after fewer than n
abbrev pub IsCutBefore : ℕ → List ℕ → Type 0
IsCutBefore n bytes =
    (is : ItemList) × (before last : List ℕ) × (item_count is < n) × AreEncodingsOf is before × IsCutShort last
    × (bytes ≡ before ++ last)

abbrev pub IsCutUntil : List ℕ → Type 0
IsCutUntil bytes =
    (is : ItemList) × (before last : List ℕ) × AreEncodingsOf is before × IsCutShort last × (bytes ≡ before ++ last)

-- the bytes end inside what is due
abbrev pub IsDueCut : Due → List ℕ → Type 0
IsDueCut (Items n) bytes = IsCutBefore n bytes
IsDueCut (Pairs n) bytes = IsCutBefore (2 * n) bytes
IsDueCut (ValueAndPairs n) bytes = IsCutBefore (2 * n + 1) bytes
IsDueCut ItemsUntilBreak bytes = IsCutUntil bytes
IsDueCut PairsUntilBreak bytes = IsCutUntil bytes
IsDueCut ValueUntilBreak bytes = IsCutUntil bytes
IsDueCut (ChunksUntilBreak major) bytes =
    (chunks : List (List ℕ)) × (before last : List ℕ) × AreChunks major chunks before
    × (IsCutHead last ⊎ IsCutChunk major last) × (bytes ≡ before ++ last)

-- what an outcome tells where this is due
abbrev pub Tells : Outcome → List Due → List ℕ → Type 0
Tells o [] bytes = o ≡ ended bytes
Tells o (d ∷ due) bytes =
    (o ≡ broken) ⊎ ((o ≡ cut) × IsDueCut d bytes)
    ⊎ ((here after : List ℕ) × AreDue d here × Tells o due after × (bytes ≡ here ++ after))

-- and where an item or a chunk is due first
abbrev pub TellsItem : Outcome → List Due → List ℕ → Type 0
TellsItem o due bytes =
    (o ≡ broken) ⊎ ((o ≡ cut) × IsCutShort bytes)
    ⊎ ((i : Item) × (first after : List ℕ) × IsEncodingOf i first × Tells o due after × (bytes ≡ first ++ after))

abbrev pub TellsChunk : ℕ → Outcome → List Due → List ℕ → Type 0
TellsChunk major o due bytes =
    (o ≡ broken) ⊎ ((o ≡ cut) × (IsCutHead bytes ⊎ IsCutChunk major bytes))
    ⊎ ((chunk first after : List ℕ) × HeadThen major (length chunk) chunk first × Tells o due after × (bytes ≡ first ++ after))

abbrev pub TellsOf : State → Outcome → Type 0
TellsOf (between due bytes) o = Tells o due bytes
TellsOf (at_item due bytes) o = TellsItem o due bytes
TellsOf (at_chunk major due bytes) o = TellsChunk major o due bytes
TellsOf (stopped p) o = o ≡ p

-- after an item, the one that is due is the other
record OneMore (d e : Due) : Type 0 where
  cut_first : (bytes : List ℕ) → IsCutShort bytes → IsDueCut d bytes
  cut_later : (i : Item) (first after : List ℕ) → IsEncodingOf i first → IsDueCut e after → IsDueCut d (first ++ after)
  all_due : (i : Item) (first here : List ℕ) → IsEncodingOf i first → AreDue e here → AreDue d (first ++ here)

one_more_back : (d e : Due) (due : List Due) (bytes : List ℕ) (o : Outcome) → OneMore d e → TellsItem o (e ∷ due) bytes → Tells o (d ∷ due) bytes
one_more_back d e due bytes o more (inl wrong) = inl wrong
one_more_back d e due bytes o more (inr (inl (ends, short))) = inr (inl (ends, more.cut_first bytes short))
one_more_back d e due bytes o more (inr (inr (i, first, after, encoded, inl wrong, split))) = inl wrong
one_more_back d e due bytes o more (inr (inr (i, first, after, encoded, inr (inl (ends, short)), split))) =
    inr (inl (ends, subst (λ (l : List ℕ). IsDueCut d l) (sym split) (more.cut_later i first after encoded short)))
one_more_back d e due bytes o more (inr (inr (i, first, after, encoded, inr (inr (here, rest, all, told, parts)), split))) =
    inr (inr (first ++ here, rest, more.all_due i first here encoded all, told, split ∙ ap (λ l. first ++ l) parts ∙ sym (append_assoc first here rest)))

cut_at_once : (n : ℕ) (bytes : List ℕ) → 0 < n → IsCutShort bytes → IsCutBefore n bytes
cut_at_once n bytes some short = (no_items, [], bytes, some, refl, short, refl)

cut_after : (n : ℕ) (i : Item) (first after : List ℕ) → IsEncodingOf i first → IsCutBefore n after → IsCutBefore (suc n) (first ++ after)
cut_after n i first after encoded (is, before, last, fewer, p, short, e) =
    (item i is, first ++ before, last, omega arith, (first, before, encoded, p, refl), short, ap (λ l. first ++ l) e ∙ sym (append_assoc first before last))

cut_until_at_once : (bytes : List ℕ) → IsCutShort bytes → IsCutUntil bytes
cut_until_at_once bytes short = (no_items, [], bytes, refl, short, refl)

cut_until_after : (i : Item) (first after : List ℕ) → IsEncodingOf i first → IsCutUntil after → IsCutUntil (first ++ after)
cut_until_after i first after encoded (is, before, last, p, short, e) =
    (item i is, first ++ before, last, (first, before, encoded, p, refl), short, ap (λ l. first ++ l) e ∙ sym (append_assoc first before last))

more_items : (n : ℕ) → OneMore (Items (suc n)) (Items n)
more_items n = record {
  cut_first = λ bytes short. cut_at_once (suc n) bytes (omega arith) short;
  cut_later = λ i first after encoded short. cut_after n i first after encoded short;
  all_due = λ i first here encoded (is, count, p). (item i is, ap suc count, (first, here, encoded, p, refl));
}

more_keys : (n : ℕ) → OneMore (Pairs (suc n)) (ValueAndPairs n)
more_keys n = record {
  cut_first = λ bytes short. cut_at_once (2 * suc n) bytes (omega arith) short;
  cut_later = λ i first after encoded short.
      let count : suc (2 * n + 1) ≡ 2 * suc n = omega arith in
      subst (λ (k : ℕ). IsCutBefore k (first ++ after)) count (cut_after (2 * n + 1) i first after encoded short);
  all_due = λ i first here encoded (v, value, more, ev, (ps, count, p), e).
      (pair i v ps, ap suc count, (first, value, more, encoded, ev, p, ap (λ l. first ++ l) e ∙ sym (append_assoc first value more)));
}

more_values : (n : ℕ) → OneMore (ValueAndPairs n) (Pairs n)
more_values n = record {
  cut_first = λ bytes short. cut_at_once (2 * n + 1) bytes (omega arith) short;
  cut_later = λ i first after encoded short.
      let count : suc (2 * n) ≡ 2 * n + 1 = omega arith in
      subst (λ (k : ℕ). IsCutBefore k (first ++ after)) count (cut_after (2 * n) i first after encoded short);
  all_due = λ i first here encoded all. (i, first, here, encoded, all, refl);
}

more_items_until : OneMore ItemsUntilBreak ItemsUntilBreak
more_items_until = record {
  cut_first = cut_until_at_once;
  cut_later = cut_until_after;
  all_due = λ i first here encoded (is, body, p, e).
      (item i is, first ++ body, (first, body, encoded, p, refl), ap (λ l. first ++ l) e ∙ sym (append_assoc first body (break ∷ [])));
}

more_keys_until : OneMore PairsUntilBreak ValueUntilBreak
more_keys_until = record {
  cut_first = cut_until_at_once;
  cut_later = cut_until_after;
  all_due = λ i first here encoded (v, value, more, ev, (ps, body, p, e), split). (
    pair i v ps,
    first ++ value ++ body,
    (first, value, body, encoded, ev, p, refl),
    ap (λ l. first ++ l) (split ∙ ap (λ l. value ++ l) e) ∙ simp append_assoc,
  );
}

more_values_until : OneMore ValueUntilBreak PairsUntilBreak
more_values_until = record {
  cut_first = cut_until_at_once;
  cut_later = cut_until_after;
  all_due = λ i first here encoded all. (i, first, here, encoded, all, refl);
}

-- a break that is there
pub break_there : (bytes : List ℕ) → begins_with_break bytes ≡ true → bytes ≡ break ∷ drop 1 bytes
break_there [] e = absurd (cc)
break_there (b ∷ rest) e = let same : b ≡ 0xff = grind (arith, nat_tests) in ap (λ c. c ∷ rest) same

chunk_back : (major : ℕ) (due : List Due) (bytes : List ℕ) (o : Outcome) → TellsChunk major o (ChunksUntilBreak major ∷ due) bytes → Tells o (ChunksUntilBreak major ∷ due) bytes
chunk_back major due bytes o (inl wrong) = inl wrong
chunk_back major due bytes o (inr (inl (ends, short))) = inr (inl (ends, ([], [], bytes, refl, short, refl)))
chunk_back major due bytes o (inr (inr (chunk, first, after, h, inl wrong, split))) = inl wrong
chunk_back major due bytes o (inr (inr (chunk, first, after, h, inr (inl (ends, (chunks, before, last, p, short, e))), split))) =
    inr (inl (ends, (chunk ∷ chunks, first ++ before, last, (first, before, h, p, refl), short, split ∙ ap (λ l. first ++ l) e ∙ sym (append_assoc first before last))))
chunk_back major due bytes o (inr (inr (chunk, first, after, h, inr (inr (here, rest, (chunks, body, p, e), told, parts)), split))) =
    inr (inr (
      first ++ here,
      rest,
      (chunk ∷ chunks, first ++ body, (first, body, h, p, refl), ap (λ l. first ++ l) e ∙ sym (append_assoc first body (break ∷ []))),
      told,
      split ∙ ap (λ l. first ++ l) parts ∙ sym (append_assoc first here rest),
    ))

-- where a break may end what is due
until_back : (d : Due) (due : List Due) (bytes : List ℕ) (o : Outcome) (s : State) → AreDue d (break ∷ []) → (TellsOf s o → Tells o (d ∷ due) bytes)
    → TellsOf (if begins_with_break bytes then between due (drop 1 bytes) else s) o → Tells o (d ∷ due) bytes
until_back d due bytes o s all other told = go (begins_with_break bytes) refl told
  where
    go : (b : Bool) → begins_with_break bytes ≡ b → TellsOf (if b then between due (drop 1 bytes) else s) o → Tells o (d ∷ due) bytes
    go true e told = inr (inr (break ∷ [], drop 1 bytes, all, told, break_there bytes e))
    go false e told = other told

byte_below : (k n : ℕ) → byte_at k n < 256
byte_below zero n = omega arith
byte_below (suc k) n = omega arith

-- the bytes of a number are bytes
are_bytes : (k n : ℕ) → All (λ b. b < 256) (bytes_high_first k n)
are_bytes zero n j d below = absurd (omega arith)
are_bytes (suc k) n zero d below = byte_below k n
are_bytes (suc k) n (suc j) d below = are_bytes k n j d (omega arith)

-- a state between two items, from what it becomes
between_back : (due : List Due) (bytes : List ℕ) (o : Outcome) → TellsOf (next due bytes) o → Tells o due bytes
between_back [] bytes o told = told
between_back (Items zero ∷ due) bytes o told = inr (inr ([], bytes, (no_items, refl, refl), told, refl))
between_back (Items (suc n) ∷ due) bytes o told = one_more_back (Items (suc n)) (Items n) due bytes o (more_items n) told
between_back (Pairs zero ∷ due) bytes o told = inr (inr ([], bytes, (no_pairs, refl, refl), told, refl))
between_back (Pairs (suc n) ∷ due) bytes o told = one_more_back (Pairs (suc n)) (ValueAndPairs n) due bytes o (more_keys n) told
between_back (ValueAndPairs n ∷ due) bytes o told = one_more_back (ValueAndPairs n) (Pairs n) due bytes o (more_values n) told
between_back (ValueUntilBreak ∷ due) bytes o told = one_more_back ValueUntilBreak PairsUntilBreak due bytes o more_values_until told
between_back (ItemsUntilBreak ∷ due) bytes o told =
    until_back ItemsUntilBreak due bytes o (at_item (ItemsUntilBreak ∷ due) bytes) (no_items, [], refl, refl)
    (one_more_back ItemsUntilBreak ItemsUntilBreak due bytes o more_items_until) told
between_back (PairsUntilBreak ∷ due) bytes o told =
    until_back PairsUntilBreak due bytes o (at_item (ValueUntilBreak ∷ due) bytes) (no_pairs, [], refl, refl)
    (one_more_back PairsUntilBreak ValueUntilBreak due bytes o more_keys_until) told
between_back (ChunksUntilBreak major ∷ due) bytes o told =
    until_back (ChunksUntilBreak major) due bytes o (at_chunk major (ChunksUntilBreak major ∷ due) bytes) ([], [], refl, refl)
    (chunk_back major due bytes o) told

by_major : (P : ℕ → Type 0) → P 0 → P 1 → P 2 → P 3 → P 4 → P 5 → P 6 → P 7 → (m : ℕ) → m ≤ 7 → P m
by_major P a b c d e f g h zero low = a
by_major P a b c d e f g h (suc zero) low = b
by_major P a b c d e f g h (suc (suc zero)) low = c
by_major P a b c d e f g h (suc (suc (suc zero))) low = d
by_major P a b c d e f g h (suc (suc (suc (suc zero)))) low = e
by_major P a b c d e f g h (suc (suc (suc (suc (suc zero))))) low = f
by_major P a b c d e f g h (suc (suc (suc (suc (suc (suc zero)))))) low = g
by_major P a b c d e f g h (suc (suc (suc (suc (suc (suc (suc zero))))))) low = h
by_major P a b c d e f g h (suc (suc (suc (suc (suc (suc (suc (suc m)))))))) low = absurd (omega arith)

-- after the head of a definite string or chunk
payload_back : (n : ℕ) (due : List Due) (rest : List ℕ) (o : Outcome) → TellsOf (after_payload n due rest) o
    → ((o ≡ cut) × (length rest < n)) ⊎ ((n ≤ length rest) × Tells o due (drop n rest))
payload_back n due rest o told = go (nat_lt (length rest) n) refl told
  where
    go : (b : Bool) → nat_lt (length rest) n ≡ b → TellsOf (if b then stopped cut else between due (drop n rest)) o
        → ((o ≡ cut) × (length rest < n)) ⊎ ((n ≤ length rest) × Tells o due (drop n rest))
    go true e told = inl (told, grind (arith, nat_tests))
    go false e told = inr (grind (arith, nat_tests), told)

-- the bytes of a definite string, by its head
taken : (major n : ℕ) (head rest : List ℕ) → IsHead major n head → n ≤ length rest → HeadThen major (length (take n rest)) (take n rest) (head ++ take n rest)
taken major n head rest spelled enough =
    let size : length (take n rest) ≡ n = omega (arith, length-take n rest) in
    (head, subst (λ (k : ℕ). IsHead major k head) (sym size) spelled, refl)

pub one_chunk : (major : ℕ) (chunk first : List ℕ) → HeadThen major (length chunk) chunk first → AreChunks major (chunk ∷ []) first
one_chunk major chunk first h = (first, [], h, refl, sym (append-nil first))

head_and_payload : (n : ℕ) (head rest bytes : List ℕ) → bytes ≡ head ++ rest → bytes ≡ (head ++ take n rest) ++ drop n rest
head_and_payload n head rest bytes e = e ∙ ap (λ l. head ++ l) (sym (take-append-drop n rest)) ∙ sym (append_assoc head (take n rest) (drop n rest))

-- simple values and floats, by the width of their head
seven : (n : ℕ) (head : List ℕ) (w : ArgumentWidth) → n < width_limit w → head ≡ head_bytes 7 w n → ¬ (IsShortSimple head) → (i : Item) × IsEncodingOf i head
seven n head immediate fits e long = (simple n, inl (fits, e))
seven n head one fits e long =
    let byte : n % 256 ≡ n = omega arith in
    let spelled : head ≡ initial_byte 7 24 ∷ n ∷ [] = e ∙ ap (λ b. 0xf8 ∷ b ∷ []) byte in
    (simple n, inr (not_small spelled, fits, spelled))
  where
    not_small : head ≡ initial_byte 7 24 ∷ n ∷ [] → 32 ≤ n
    not_small spelled = elim (cases_lt n 32) [ inl small ↦ absurd (long (n, small, spelled)) | inr large ↦ large ]
seven n head two fits e long = (float (to_be_bytes w16 n), (are_bytes 2 n, inl (refl, e)))
seven n head four fits e long = (float (to_be_bytes w32 n), (are_bytes 4 n, inr (inl (refl, e))))
seven n head eight fits e long = (float (to_be_bytes w64 n), (are_bytes 8 n, inr (inr (refl, e))))

string_back : (major : ℕ) (string : List (List ℕ) → Item) (n : ℕ) (head rest bytes : List ℕ) (due : List Due) (o : Outcome) → bytes ≡ head ++ rest
    → (major ≡ 2) ⊎ (major ≡ 3) → IsHead major n head
    → ((chunk first : List ℕ) → AreChunks major (chunk ∷ []) first → IsEncodingOf (string (chunk ∷ [])) first)
    → TellsOf (after_payload n due rest) o → TellsItem o due bytes
string_back major string n head rest bytes due o e type spelled encoded told = elim (payload_back n due rest o told) [
  | inl short ↦ inr (inl (short.0, in_string major bytes type (inl (n, rest, (head, spelled, e), short.1))))
  | inr there ↦
      inr (inr (
        string (take n rest ∷ []),
        head ++ take n rest,
        drop n rest,
        encoded (take n rest) (head ++ take n rest) (one_chunk major (take n rest) (head ++ take n rest) (taken major n head rest spelled there.0)),
        there.1,
        head_and_payload n head rest bytes e,
      ))
]

-- what its head announces is cut off
announced_cut : (major n k : ℕ) (head rest bytes : List ℕ) → bytes ≡ head ++ rest → IsHead major n head → announced_items major n ≡ k → IsCutBefore k rest → IsCutShort bytes
announced_cut major n k head rest bytes e spelled count (is, before, last, fewer, p, short, split) =
    in_announced major n is before last bytes (subst (λ (c : ℕ). item_count is < c) (sym count) fewer) p short (head, spelled, e ∙ ap (λ l. head ++ l) split)

array_back : (n : ℕ) (head rest bytes : List ℕ) (due : List Due) (o : Outcome) → bytes ≡ head ++ rest → IsHead 4 n head → Tells o (Items n ∷ due) rest → TellsItem o due bytes
array_back n head rest bytes due o e spelled (inl wrong) = inl wrong
array_back n head rest bytes due o e spelled (inr (inl (ends, short))) = inr (inl (ends, announced_cut 4 n n head rest bytes e spelled refl short))
array_back n head rest bytes due o e spelled (inr (inr (here, after, (is, count, p), told, split))) =
    inr (inr (
      array definite is,
      head ++ here,
      after,
      (here, p, (head, subst (λ (k : ℕ). IsHead 4 k head) (sym count) spelled, refl)),
      told,
      e ∙ ap (λ l. head ++ l) split ∙ sym (append_assoc head here after),
    ))

map_back : (n : ℕ) (head rest bytes : List ℕ) (due : List Due) (o : Outcome) → bytes ≡ head ++ rest → IsHead 5 n head → Tells o (Pairs n ∷ due) rest → TellsItem o due bytes
map_back n head rest bytes due o e spelled (inl wrong) = inl wrong
map_back n head rest bytes due o e spelled (inr (inl (ends, short))) = inr (inl (ends, announced_cut 5 n (2 * n) head rest bytes e spelled refl short))
map_back n head rest bytes due o e spelled (inr (inr (here, after, (ps, count, p), told, split))) =
    inr (inr (
      map_item definite ps,
      head ++ here,
      after,
      (here, p, (head, subst (λ (k : ℕ). IsHead 5 k head) (sym count) spelled, refl)),
      told,
      e ∙ ap (λ l. head ++ l) split ∙ sym (append_assoc head here after),
    ))

single : (is : ItemList) (bytes : List ℕ) → item_count is ≡ 1 → AreEncodingsOf is bytes → (i : Item) × IsEncodingOf i bytes
single no_items bytes count p = absurd (omega arith)
single (item i (item j is)) bytes count p = absurd (omega arith)
single (item i no_items) bytes count (first, more, encoded, none, e) =
    (i, subst (λ (l : List ℕ). IsEncodingOf i l) (sym (e ∙ ap (λ l. first ++ l) none ∙ append-nil first)) encoded)

tag_back : (n : ℕ) (head rest bytes : List ℕ) (due : List Due) (o : Outcome) → bytes ≡ head ++ rest → IsHead 6 n head → Tells o (Items 1 ∷ due) rest → TellsItem o due bytes
tag_back n head rest bytes due o e spelled (inl wrong) = inl wrong
tag_back n head rest bytes due o e spelled (inr (inl (ends, short))) = inr (inl (ends, announced_cut 6 n 1 head rest bytes e spelled refl short))
tag_back n head rest bytes due o e spelled (inr (inr (here, after, (is, count, p), told, split))) =
    let content = single is here count p in
    inr (inr (tag n content.0, head ++ here, after, (here, content.1, (head, spelled, refl)), told, e ∙ ap (λ l. head ++ l) split ∙ sym (append_assoc head here after)))

-- an item of indefinite length, from what it becomes
open_array_back : (rest bytes : List ℕ) (due : List Due) (o : Outcome) → bytes ≡ initial_byte 4 31 ∷ rest → Tells o (ItemsUntilBreak ∷ due) rest → TellsItem o due bytes
open_array_back rest bytes due o e (inl wrong) = inl wrong
open_array_back rest bytes due o e (inr (inl (ends, (is, before, last, p, short, split)))) =
    inr (inl (ends, in_indefinite 4 is before last bytes (inl refl) p short (e ∙ ap (λ l. initial_byte 4 31 ∷ l) split)))
open_array_back rest bytes due o e (inr (inr (here, after, (is, body, p, closed), told, split))) =
    inr (inr (array indefinite is, initial_byte 4 31 ∷ here, after, (body, p, ap (λ l. initial_byte 4 31 ∷ l) closed), told, e ∙ ap (λ l. initial_byte 4 31 ∷ l) split))

open_map_back : (rest bytes : List ℕ) (due : List Due) (o : Outcome) → bytes ≡ initial_byte 5 31 ∷ rest → Tells o (PairsUntilBreak ∷ due) rest → TellsItem o due bytes
open_map_back rest bytes due o e (inl wrong) = inl wrong
open_map_back rest bytes due o e (inr (inl (ends, (is, before, last, p, short, split)))) =
    inr (inl (ends, in_indefinite 5 is before last bytes (inr refl) p short (e ∙ ap (λ l. initial_byte 5 31 ∷ l) split)))
open_map_back rest bytes due o e (inr (inr (here, after, (ps, body, p, closed), told, split))) =
    inr (inr (map_item indefinite ps, initial_byte 5 31 ∷ here, after, (body, p, ap (λ l. initial_byte 5 31 ∷ l) closed), told, e ∙ ap (λ l. initial_byte 5 31 ∷ l) split))

open_string_back : (major : ℕ) (string : List (List ℕ) → Item) (rest bytes : List ℕ) (due : List Due) (o : Outcome) → bytes ≡ initial_byte major 31 ∷ rest
    → (major ≡ 2) ⊎ (major ≡ 3)
    → ((chunks : List (List ℕ)) (body first : List ℕ) → AreChunks major chunks body → UntilBreak major body first → IsEncodingOf (string chunks) first)
    → Tells o (ChunksUntilBreak major ∷ due) rest → TellsItem o due bytes
open_string_back major string rest bytes due o e type encoded (inl wrong) = inl wrong
open_string_back major string rest bytes due o e type encoded (inr (inl (ends, (chunks, before, last, p, short, split)))) =
    inr (inl (ends, in_string major bytes type (inr (chunks, before, last, p, short, e ∙ ap (λ l. initial_byte major 31 ∷ l) split))))
open_string_back major string rest bytes due o e type encoded (inr (inr (here, after, (chunks, body, p, closed), told, split))) =
    inr (inr (
      string chunks,
      initial_byte major 31 ∷ here,
      after,
      encoded chunks body (initial_byte major 31 ∷ here) p (ap (λ l. initial_byte major 31 ∷ l) closed),
      told,
      e ∙ ap (λ l. initial_byte major 31 ∷ l) split,
    ))

open_back : (rest bytes : List ℕ) (due : List Due) (o : Outcome) → (major : ℕ) → major ≤ 7 → MayBeIndefinite major → bytes ≡ initial_byte major 31 ∷ rest
    → TellsOf (after_head major None due rest) o → TellsItem o due bytes
open_back rest bytes due o major type may e told =
    by_major (λ m. MayBeIndefinite m → bytes ≡ initial_byte m 31 ∷ rest → TellsOf (after_head m None due rest) o → TellsItem o due bytes)
    (λ may e told. absurd (never 0 (inl (omega arith)) may))
    (λ may e told. absurd (never 1 (inl (omega arith)) may))
    (λ may e told. open_string_back 2 (byte_string indefinite) rest bytes due o e (inl refl) (λ chunks body first p closed. (body, p, closed)) told)
    (λ may e told. open_string_back 3 (text_string indefinite) rest bytes due o e (inr refl) (λ chunks body first p closed. (body, p, closed)) told)
    (λ may e told. open_array_back rest bytes due o e told)
    (λ may e told. open_map_back rest bytes due o e told)
    (λ may e told. absurd (never 6 (inr refl) may))
    (λ may e told. inl told)
    major type may e told
  where
    never : (m : ℕ) → (m < 2) ⊎ (m ≡ 6) → MayBeIndefinite m → ⊥
    never m (inl low) (inl range) = omega arith
    never m (inl low) (inr e) = omega arith
    never m (inr six) (inl range) = omega arith
    never m (inr six) (inr e) = omega arith

-- an item whose head has an argument, from what it becomes
item_back : (n : ℕ) (head rest bytes : List ℕ) (due : List Due) (o : Outcome) → bytes ≡ head ++ rest → (major : ℕ) → major ≤ 7
    → IsHead major n head → ¬ (IsShortSimple head) → TellsOf (after_head major (Some n) due rest) o → TellsItem o due bytes
item_back n head rest bytes due o e major type spelled long told =
    by_major (λ m. IsHead m n head → TellsOf (after_head m (Some n) due rest) o → TellsItem o due bytes)
    (λ spelled told. inr (inr (unsigned n, head, rest, spelled, told, e)))
    (λ spelled told. inr (inr (negative n, head, rest, spelled, told, e)))
    (λ spelled told. string_back 2 (byte_string definite) n head rest bytes due o e (inl refl) spelled (λ chunk first p. (refl, p)) told)
    (λ spelled told. string_back 3 (text_string definite) n head rest bytes due o e (inr refl) spelled (λ chunk first p. (refl, p)) told)
    (λ spelled told. array_back n head rest bytes due o e spelled told)
    (λ spelled told. map_back n head rest bytes due o e spelled told)
    (λ spelled told. tag_back n head rest bytes due o e spelled told)
    (λ spelled told. let i = seven n head spelled.width spelled.fits spelled.spelled long in inr (inr (i.0, head, rest, i.1, told, e)))
    major type spelled told

indefinite_type : (major : ℕ) → MayBeIndefinite major → major ≤ 7
indefinite_type major (inl range) = omega arith
indefinite_type major (inr e) = omega arith

head_back : (h : HeadRead) (due : List Due) (bytes : List ℕ) (o : Outcome) → BeginsWithHead bytes h → TellsOf (after_head h.major h.argument due (drop h.length bytes)) o → TellsItem o due bytes
head_back h due bytes o begins told = go h.major h.argument h.length begins told
  where
    go : (major : ℕ) (argument : Option ℕ) (len : ℕ) → BeginsWithHead bytes (record { major = major; argument = argument; length = len })
        → TellsOf (after_head major argument due (drop len bytes)) o → TellsItem o due bytes
    go major (Some n) len (within, (type, spelled, long)) told =
        item_back n (take len bytes) (drop len bytes) bytes due o (sym (take-append-drop len bytes)) major type spelled long told
    go major None len (within, (may, e)) told =
        open_back (drop len bytes) bytes due o major (indefinite_type major may) may (sym (take-append-drop len bytes) ∙ ap (λ l. l ++ drop len bytes) e) told

chunk_head_back : (major : ℕ) (h : HeadRead) (due : List Due) (bytes : List ℕ) (o : Outcome) → BeginsWithHead bytes h
    → TellsOf (after_chunk_head major h.major h.argument due (drop h.length bytes)) o → TellsChunk major o due bytes
chunk_head_back major h due bytes o begins told = go h.major h.argument h.length begins told
  where
    same : (m n len : ℕ) → IsHead m n (take len bytes) → (b : Bool) → (m == major) ≡ b → TellsOf (if b then after_payload n due (drop len bytes) else stopped broken) o → TellsChunk major o due bytes
    same m n len spelled false other told = inl told
    same m n len spelled true equal told =
        let type : m ≡ major = grind (arith, nat_tests) in
        let head : IsHead major n (take len bytes) = subst (λ (k : ℕ). IsHead k n (take len bytes)) type spelled in
        let split : bytes ≡ take len bytes ++ drop len bytes = sym (take-append-drop len bytes) in
        elim (payload_back n due (drop len bytes) o told) [
          | inl short ↦ inr (inl (short.0, inr (n, drop len bytes, (take len bytes, head, split), short.1)))
          | inr there ↦
              inr (inr (
                take n (drop len bytes),
                take len bytes ++ take n (drop len bytes),
                drop n (drop len bytes),
                taken major n (take len bytes) (drop len bytes) head there.0,
                there.1,
                head_and_payload n (take len bytes) (drop len bytes) bytes split,
              ))
        ]

    go : (m : ℕ) (argument : Option ℕ) (len : ℕ) → BeginsWithHead bytes (record { major = m; argument = argument; length = len })
        → TellsOf (after_chunk_head major m argument due (drop len bytes)) o → TellsChunk major o due bytes
    go m (Some n) len (within, (type, spelled, long)) told = same m n len spelled (m == major) refl told
    go m None len begins told = inl told

-- any state, from what it becomes
back : (s t : State) (o : Outcome) → Becomes s t → TellsOf t o → TellsOf s o
back (between due bytes) t o e told = between_back due bytes o (subst (λ (s : State). TellsOf s o) e told)
back (at_item due bytes) t o (whole h, begins, e) told = head_back h due bytes o begins (subst (λ (s : State). TellsOf s o) e told)
back (at_item due bytes) t o (cut_head, short, e) told = inr (inl (subst (λ (s : State). TellsOf s o) e told, in_head bytes short))
back (at_item due bytes) t o (broken_head, wrong, e) told = inl (subst (λ (s : State). TellsOf s o) e told)
back (at_chunk major due bytes) t o (whole h, begins, e) told = chunk_head_back major h due bytes o begins (subst (λ (s : State). TellsOf s o) e told)
back (at_chunk major due bytes) t o (cut_head, short, e) told = inr (inl (subst (λ (s : State). TellsOf s o) e told, inl short))
back (at_chunk major due bytes) t o (broken_head, wrong, e) told = inl (subst (λ (s : State). TellsOf s o) e told)
back (stopped p) t o never told = absurd never

-- what the end of skipping tells
pub told_by_end : {s : State} {o : Outcome} → Leads s o → TellsOf s o
told_by_end at_end = refl
told_by_end (goes_on {s} {t} {o} b leads) = back s t o b (told_by_end leads)
