-- CBOR is a wire: what is determined in its framing, how values begin, and that positions rise.
use Rattle.std.specs.Prelude.{◌≡◌, ◌⊎◌, ◌<◌, ◌≤◌, ◌-◌, ℕ, suc, length, drop, List, [], ◌∷◌, Option, Some, None, Bool, true, false, refl}
use Rattle.std.proofs.Common.{sym, ◌∙◌, ap, arith, inl, inr}
use Rattle.std.proofs.lemmas.List.{length-drop}
use Rattle.smithy_schema.specs.Reading.{Mark, IsBehind as IsPassed}
use Rattle.cbor_item.specs.Item.{Item}
use Rattle.cbor_item.specs.WellFormed.{break}
use Rattle.smithy_cbor_values.specs.Standing.{null_byte, begins_with, mark_with, end_mark, HasEntry, IsOver, major_in, Entry, Follows, end_depth, cbor_frames, frames_of}
use Rattle.smithy_cbor_values.specs.Settings.{Settings}
use Rattle.smithy_cbor_values.specs.Private.ItemPlaces.{item_ahead, one_item}
use Rattle.smithy_cbor_values.specs.Private.FirstBytes.{byte_within}
use Rattle.smithy_cbor_values.specs.Private.Entries.{same_entry as same_next, same_over, entry_or_over, over_ahead}
use Rattle.smithy_cbor_values.specs.Private.ContainerBytes.{same_opens_at, opens_within, inside_within}
use Rattle.smithy_cbor_values.specs.Private.OpenersAtPlaces.{openers_fall, opens_adds}
use Rattle.smithy_wire.specs.Node.{Form, as_array, as_object}
use Rattle.smithy_wire.specs.Wire.{IsWire, BoundsOpeners}
use Rattle.smithy_cbor_values.specs.Private.ValueSorts.{cbor_sort, others_begin, null_sort, scalar_sort, head_sort}

-- ---- what is determined

same_entry : (s : Form) (i : List ℕ) (b : ℕ) (m : Mark) (k l : Option Item) (c e : ℕ) (n o : Mark) → Entry s i b m k c n → Entry s i b m l e o
    → (k ≡ l) × (c ≡ e) × (n ≡ o)
same_entry as_array i b m k l c e n o h j = (h.0 ∙ sym j.0, h.1 ∙ sym j.1, same_next i b m n o h.2 j.2)
same_entry as_object i b m k l c e n o h j =
    let one = one_item h.1.0 j.1.0 i b c e h.1.1 j.1.1 in (h.1.2 ∙ ap Some one.0 ∙ sym j.1.2, one.1, same_next i b m n o h.0 j.0)

entry_next : (s : Form) (i : List ℕ) (b : ℕ) (m : Mark) (k : Option Item) (c : ℕ) (n : Mark) → Entry s i b m k c n → HasEntry i b m n
entry_next as_array i b m k c n h = h.2
entry_next as_object i b m k c n h = h.0

same_opens : (strict : Bool) (s : Form) (i : List ℕ) (a b c : ℕ) (m n : Mark) → (cbor_frames strict).opens s i a b m → (cbor_frames strict).opens s i a c n → (b ≡ c) × (m ≡ n)
same_opens strict s i a b c m n h j =
    let one = same_opens_at (major_in s) h.0 j.0 i a b c h.2 j.2 in (one.0, h.1 ∙ ap mark_with one.1 ∙ sym j.1)

no_mark : (due : Option ℕ) (m : Mark) → m ≡ mark_with due → m ≡ end_mark → ⊥
no_mark due m h k = let clash = ap (λ (x : Mark). x.at_end) (sym h ∙ k) in cc

next_inside : (i : List ℕ) (b : ℕ) (m n : Mark) → HasEntry i b m n → n ≡ end_mark → ⊥
next_inside i b m n (some, inl h) is = no_mark (Some h.0) n h.2 is
next_inside i b m n (some, inr h) is = no_mark None n h.2 is

-- ---- positions rise

entry_ahead : (s : Form) (i : List ℕ) (b : ℕ) (m : Mark) (k : Option Item) (c : ℕ) (n : Mark) → Entry s i b m k c n → b ≤ c
entry_ahead as_array i b m k c n h = omega (arith, h.1)
entry_ahead as_object i b m k c n h = omega (arith, item_ahead h.1.0 i b c h.1.1)

up : (i : List ℕ) (c e : ℕ) → IsPassed i c e → (c ≤ e) × (e ≤ length i)
up i c e (inl h, within) = (omega (arith, h), within)
up i c e (inr h, within) = (omega (arith, h.0), within)

-- an element has a byte of its own
passed_element : (i : List ℕ) (b c e : ℕ) → c ≡ b → b < length i → IsPassed i c e → b < e
passed_element i b c e at some (inl ahead, within) = omega (arith, at, ahead)
passed_element i b c e at some (inr over, within) = let x : c ≡ e = over.0 in let y : e ≡ length i = over.1 in omega (arith, some, x, y)

-- and an entry of a map has its key
passed_entry : (s : Form) (i : List ℕ) (b : ℕ) (m : Mark) (k : Option Item) (c e : ℕ) (n : Mark) → Entry s i b m k c n → IsPassed i c e → b < e
passed_entry as_array i b m k c e n h at = passed_element i b c e h.1 h.2.0 at
passed_entry as_object i b m k c e n h at = omega (arith, item_ahead h.1.0 i b c h.1.1, up i c e at)

nearer : (s : Form) (i : List ℕ) (b : ℕ) (m : Mark) (k : Option Item) (c e : ℕ) (n : Mark) → Entry s i b m k c n → IsPassed i c e → length i - e < length i - b
nearer s i b m k c e n h at = omega (arith, passed_entry s i b m k c e n h at, at.1)

less_in : (s : Form) (i : List ℕ) (b : ℕ) (m : Mark) (k : Option Item) (c : ℕ) (n : Mark) → Entry s i b m k c n → length i - c ≤ length i - b
less_in s i b m k c n h = omega (arith, entry_ahead s i b m k c n h)

over_within : (i : List ℕ) (b : ℕ) (m : Mark) (e : ℕ) → b ≤ length i → IsOver i b m e → e ≤ length i
over_within i b m e low (inl h) = omega (arith, low, h.1)
over_within i b m e low (inr h) = omega (arith, h.2, byte_within break i b h.1)

-- ---- where nothing is left

no_length : (s : List ℕ) → length s ≡ 0 → s ≡ []
no_length [] h = refl
no_length (b ∷ s) h = absurd (omega (arith, h))

pub nothing_left : (i : List ℕ) (a : ℕ) → a ≡ length i → drop a i ≡ []
nothing_left i a h = no_length (drop a i) (omega (arith, length-drop a i, h))

no_entry : (i : List ℕ) (b : ℕ) (n : Mark) → b ≡ length i → HasEntry i b end_mark n → ⊥
no_entry i b n over h = omega (arith, over, h.0)

no_break : (s : List ℕ) → s ≡ [] → begins_with break s ≡ true → ⊥
no_break [] none h = cc
no_break (b ∷ s) none h = cc

no_end : (i : List ℕ) (b e : ℕ) → b ≡ length i → IsOver i b end_mark e → ⊥
no_end i b e over (inl h) = let clash : ◌≡◌ {A = Option ℕ} None (Some 0) = h.0 in cc
no_end i b e over (inr h) = no_break (drop b i) (nothing_left i b over) h.1

-- inside of a container anything may follow
pub inside_follows : (strict : Bool) (d : ℕ) (i : List ℕ) (e : ℕ) → Follows (end_depth strict (suc d)) i e
inside_follows true d i e = tt
inside_follows false d i e = tt

pub cbor_is_wire : (strict : Bool) → IsWire (cbor_frames strict)
cbor_is_wire strict = record {
  same_null = λ i d a e f h k. h.1 ∙ sym k.1;
  same_scalar = λ i d x y a e f h k. one_item x y i a e f h.1 k.1;
  same_opens = same_opens strict;
  same_entry = same_entry;
  same_ends = λ s i b m e f h k. same_over i b m e f h k;
  entry_or_end = λ s i b m k c e n h end. entry_or_over i b m n e (entry_next s i b m k c n h) end;
  sort_at = λ i a. cbor_sort (drop a i);
  null_sort = λ i d a e h. null_sort (drop a i) h.0;
  scalar_sort = λ i d x a e h. scalar_sort i x a e h.0 h.1;
  opens_sort = λ s i a b m h.
      head_sort s (drop a i) (record { major = major_in s; argument = h.0; length = b - a }) refl h.2.1 (opens_within (major_in s) h.0 i a b h.2);
  over_sort = λ i a e h. rw (nothing_left i a h.0.0) refl;
  null_begins = λ i d a e h. h.0;
  others_begin = λ i a h. others_begin (drop a i) h;
  null_follows = λ i d a e h. h.2;
  scalar_follows = λ i d x a e h. h.2;
  empty_is_over = ((refl, λ h. refl), refl);
  over_is_end = λ i a e h. (omega (arith, h.1), h.1 ∙ h.0.0);
  over_stays = λ i a e h. ((h.1 ∙ h.0.0, λ is. h.1 ∙ h.0.1 is), refl);
  no_entry_over = λ i b e k c n over h. no_entry i b n over.0.0 h.0;
  no_end_over = λ i b e f over h. no_end i b f over.0.0 h;
  opens_inside = λ s i a b m h is. no_mark h.0 m h.1 is;
  entry_inside = λ s i b m k c n h is. next_inside i b m n (entry_next s i b m k c n h) is;
  null_ahead = λ i d a e h. (omega (arith, h.1), omega (arith, h.1, byte_within null_byte i a h.0));
  scalar_ahead = λ i d x a e h. (item_ahead x i a e h.1, h.1.0);
  opens_ahead = λ s i a b m h. (h.2.0, inside_within (major_in s) h.0 i a b h.2);
  entry_ahead = entry_ahead;
  ends_ahead = λ s i b m e low h. ((over_ahead i b m e h).0, over_within i b m e low h);
  nearer = nearer;
  next_entry = λ s i b m k c n f l g o h next. (entry_next s i f n l g o next).0;
  entry_falls = less_in;
  left_falls = λ i a e m ahead within. omega (arith, ahead, within);
}

-- ---- openers

is_counted : (s : Form) → (major_in s ≡ 4) ⊎ (major_in s ≡ 5)
is_counted as_array = inl refl
is_counted as_object = inr refl

-- the bytes alone bound how many containers are open, where an empty rest opens none
pub cbor_bounds_openers : (strict : Bool) → strict ≡ true → BoundsOpeners (cbor_frames strict)
cbor_bounds_openers strict is = record {
  over_is_empty = λ i a e over some. omega (arith, some, over.0.0, over.0.1 is);
  over_takes_none = λ i a e over. rw over.1 (omega arith);
  null_takes_none = λ i d a e h. openers_fall i a e (omega (arith, h.1));
  scalar_takes_none = λ i d x a e h. openers_fall i a e (omega (arith, item_ahead x i a e h.1));
  opening_adds = λ s i a b m h. opens_adds (major_in s) h.0 i a b (is_counted s) h.2;
  entry_takes_none = λ s i b m k c n h. openers_fall i b c (entry_ahead s i b m k c n h);
  end_takes_one = λ s i b m e h. let fall = openers_fall i b e (over_ahead i b m e h).0 in omega (arith, fall);
}

-- ---- by settings

pub wire_of : (c : Settings) → IsWire (frames_of c)
wire_of c = cbor_is_wire c.enforce_strictness
