-- The tokens of JSON make a wire, whatever may follow a value: so the laws of reading hold for all settings at once.
use Rattle.std.specs.Prelude.{◌≡◌, ◌<◌, ◌≤◌, ◌+◌, ◌-◌, ℕ, suc, length, drop, List, [], ◌∷◌, ◌++◌, Option, Some, Bool, true, false, if◌then◌else◌, refl}
use Rattle.std.proofs.Common.{sym, ◌∙◌, ap, arith, subst, append-nil, inl, inr}
use Rattle.std.proofs.lemmas.List.{length-drop}
use Rattle.smithy_schema.specs.Reading.{Mark, IsBehind as IsPassed}
use Rattle.smithy_json_grammar.specs.Ascii.{quotation_mark, name_separator, value_separator, begin_array, end_array, begin_object, end_object}
use Rattle.smithy_json_grammar.specs.Grammar.{IsWs}
use Rattle.smithy_json_values.specs.Openers.{json_openers}
use Rattle.smithy_json_values.specs.Scalar.{JsonScalar, a_string, tree_of}
use Rattle.smithy_json_values.specs.Standing.{Lies, TreeLies, IsByte, IsSeparated, fresh_mark, end_mark, entry_mark, without_ws, begins_with_null, opening, closing, json_frames}
use Rattle.smithy_json_values.specs.Tokens.{EntryTokens, IsNameToken, IsOverBy, token_frames}
use Rattle.smithy_json_values.specs.Private.BytePlaces.{past_byte, same_byte, byte_ahead, same_separated, separated_ahead, element_or_end}
use Rattle.smithy_json_values.specs.Private.Lexical.{past_ws}
use Rattle.smithy_json_values.specs.Private.OpenersAtPlaces.{across_null, across_token, across_begin_array, across_begin_object, across_end_array, across_end_object, across_separator, across_name_token}
use Rattle.smithy_json_values.specs.Private.TokenGrammar.{tree_is_token}
use Rattle.smithy_json_values.specs.Private.TokenPlaces.{one_token, token_ahead, token_begins, one_null, null_ahead, null_token_begins, same_names, names_or_end, names_ahead, past_name}
use Rattle.smithy_json_values.specs.Private.ValueSorts.{json_sort, not_null_sort, opens_sort}
use Rattle.smithy_wire.specs.Node.{Form, as_array, as_object}
use Rattle.smithy_wire.specs.Wire.{no_value, IsWire, BoundsOpeners}

-- ---- what is determined

same_entry : (s : Form) (i : List ℕ) (b : ℕ) (m : Mark) (k l : Option JsonScalar) (c e : ℕ) (n o : Mark) → EntryTokens s i b m k c n → EntryTokens s i b m l e o
    → (k ≡ l) × (c ≡ e) × (n ≡ o)
same_entry as_array i b m k l c e n o h j = (h.0 ∙ sym j.0, same_separated i m.entered b c e h.2 j.2, h.1 ∙ sym j.1)
same_entry as_object i b m k l c e n o h j =
    let one = same_names i m.entered b h.0 j.0 c e h.3 j.3 in
    (h.1 ∙ ap (λ raw. Some (a_string raw)) one.0 ∙ sym j.1, one.1, h.2 ∙ sym j.2)

same_ends : (s : Form) (i : List ℕ) (b : ℕ) (e f : ℕ) → Lies (IsByte (closing s)) i b e → Lies (IsByte (closing s)) i b f → e ≡ f
same_ends as_array i b e f h k = (same_byte i b e f end_array end_array refl refl h k).1
same_ends as_object i b e f h k = (same_byte i b e f end_object end_object refl refl h k).1

same_opens : (s : Form) (i : List ℕ) (a b c : ℕ) → Lies (IsByte (opening s)) i a b → Lies (IsByte (opening s)) i a c → b ≡ c
same_opens as_array i a b c h j = (same_byte i a b c begin_array begin_array refl refl h j).1
same_opens as_object i a b c h j = (same_byte i a b c begin_object begin_object refl refl h j).1

entry_or_end : (s : Form) (i : List ℕ) (b : ℕ) (m : Mark) (k : Option JsonScalar) (c e : ℕ) (n : Mark) → EntryTokens s i b m k c n → Lies (IsByte (closing s)) i b e → ⊥
entry_or_end as_array i b m k c e n h end = element_or_end i m.entered b c e h.2 h.3 end
entry_or_end as_object i b m k c e n h end = names_or_end i m.entered b h.0 c e h.3 end

-- ---- positions rise

comma_inside : (i : List ℕ) (f g : ℕ) → IsSeparated true i f g → f < length i
comma_inside i f g h = omega (arith, byte_ahead value_separator i f g h, h.1)

entry_ahead : (s : Form) (i : List ℕ) (b : ℕ) (m : Mark) (k : Option JsonScalar) (c : ℕ) (n : Mark) → EntryTokens s i b m k c n → b ≤ c
entry_ahead as_array i b m k c n h = separated_ahead i m.entered b c h.2
entry_ahead as_object i b m k c n h = omega (arith, names_ahead i m.entered b h.0 c h.3)

behind_up : (i : List ℕ) (c e : ℕ) → IsPassed i c e → (c ≤ e) × (e ≤ length i)
behind_up i c e (inl h, within) = (omega (arith, h), within)
behind_up i c e (inr h, within) = (omega (arith, h.0), within)

falls_in_array : (i : List ℕ) (entered : Bool) (b c e : ℕ) → IsSeparated entered i b c → c ≤ e → e ≤ length i
    → length i - e + 0 < length i - b + (if entered then 0 else 1)
falls_in_array i true b c e h up within = omega (arith, byte_ahead value_separator i b c h, up, within)
falls_in_array i false b c e h up within = omega (arith, h, up, within)

falls : (entered : Bool) (n b e : ℕ) → b < e → e ≤ n → n - e + 0 < n - b + (if entered then 0 else 1)
falls true n b e ahead within = omega (arith, ahead, within)
falls false n b e ahead within = omega (arith, ahead, within)

abbrev left : List ℕ → ℕ → Mark → ℕ
left i b m = length i - b + (if m.entered then 0 else 1)

nearer : (s : Form) (i : List ℕ) (b : ℕ) (m : Mark) (k : Option JsonScalar) (c e : ℕ) (n : Mark) → EntryTokens s i b m k c n → IsPassed i c e
    → left i e n < left i b m
nearer as_array i b m k c e n h at =
    let up = behind_up i c e at in rw h.1 (falls_in_array i m.entered b c e h.2 up.0 up.1)
nearer as_object i b m k c e n h at =
    let up = behind_up i c e at in rw h.2 (falls m.entered (length i) b e (omega (arith, names_ahead i m.entered b h.0 c h.3, up.0)) up.1)

less_in : (entered : Bool) (l b c : ℕ) → b ≤ c → l - c + 0 ≤ l - b + (if entered then 0 else 1)
less_in true l b c up = omega (arith, up)
less_in false l b c up = omega (arith, up)

entry_falls : (s : Form) (i : List ℕ) (b : ℕ) (m : Mark) (k : Option JsonScalar) (c : ℕ) (n : Mark) → EntryTokens s i b m k c n → left i c n ≤ left i b m
entry_falls as_array i b m k c n h = rw h.1 (less_in m.entered (length i) b c (separated_ahead i m.entered b c h.2))
entry_falls as_object i b m k c n h = rw h.2 (less_in m.entered (length i) b c (omega (arith, names_ahead i m.entered b h.0 c h.3)))

-- behind an entry another one begins with a comma
next_entry : (s : Form) (i : List ℕ) (b : ℕ) (m : Mark) (k : Option JsonScalar) (c : ℕ) (n : Mark) (f : ℕ) (l : Option JsonScalar) (g : ℕ) (o : Mark) → EntryTokens s i b m k c n
    → EntryTokens s i f n l g o → f < length i
next_entry as_array i b m k c n f l g o h next = comma_inside i f g (subst (λ (x : Mark). IsSeparated x.entered i f g) h.1 next.2)
next_entry as_object i b m k c n f l g o h next = comma_inside i f next.3.0 (subst (λ (x : Mark). IsSeparated x.entered i f next.3.0) h.2 next.3.1)

opens_ahead : (s : Form) (i : List ℕ) (a b : ℕ) → Lies (IsByte (opening s)) i a b → a < b
opens_ahead as_array i a b h = byte_ahead begin_array i a b h
opens_ahead as_object i a b h = byte_ahead begin_object i a b h

entry_inside : (s : Form) (i : List ℕ) (b : ℕ) (m : Mark) (k : Option JsonScalar) (c : ℕ) (n : Mark) → EntryTokens s i b m k c n → n ≡ end_mark → ⊥
entry_inside as_array i b m k c n h is = let same : entry_mark ≡ end_mark = sym h.1 ∙ is in let clash = ap (λ (x : Mark). x.at_end) same in cc
entry_inside as_object i b m k c n h is = let same : entry_mark ≡ end_mark = sym h.2 ∙ is in let clash = ap (λ (x : Mark). x.at_end) same in cc

-- ---- where the input is over

-- behind ws alone there is nothing
ws_is_gone : (s : List ℕ) → IsWs s → without_ws s ≡ []
ws_is_gone s h = ap without_ws (sym (append-nil s)) ∙ past_ws s [] h tt

no_length : (s : List ℕ) → length s ≡ 0 → s ≡ []
no_length [] h = refl
no_length (b ∷ s) h = absurd (omega (arith, h))

nothing_left : (i : List ℕ) (e : ℕ) → e ≡ length i → drop e i ≡ []
nothing_left i e h = no_length (drop e i) (omega (arith, length-drop e i, h))

over_gone : (strict : Bool) (i : List ℕ) (a e : ℕ) → IsOverBy strict i a e → without_ws (drop a i) ≡ []
over_gone true i a e h = rw (h.0.0, h.0.1) refl
over_gone false i a e h = ws_is_gone (drop a i) h.2

over_sort : (strict : Bool) (i : List ℕ) (a e : ℕ) → IsOverBy strict i a e → json_sort (without_ws (drop a i)) ≡ no_value
over_sort strict i a e h = ap json_sort (over_gone strict i a e h)

empty_is_over : (strict : Bool) → IsOverBy strict [] 0 0
empty_is_over true = ((refl, refl), refl)
empty_is_over false = (omega arith, refl, tt)

pub over_is_end : (strict : Bool) (i : List ℕ) (a e : ℕ) → IsOverBy strict i a e → (a ≤ e) × (e ≡ length i)
over_is_end true i a e h = (omega (arith, h.1), h.1 ∙ (h.0.1 ∙ sym (ap length h.0.0)))
over_is_end false i a e h = (h.0, h.1)

over_stays : (strict : Bool) (i : List ℕ) (a e : ℕ) → IsOverBy strict i a e → IsOverBy strict i e e
over_stays true i a e h = ((h.0.0, h.1 ∙ h.0.1), refl)
over_stays false i a e h = let empty = nothing_left i e h.1 in (omega arith, h.1, subst IsWs (sym empty) tt)

no_bytes_there : (b : ℕ) (rest : List ℕ) → b ∷ rest ≡ [] → ⊥
no_bytes_there b rest h = cc

no_name_over : (strict : Bool) (i : List ℕ) (b e : ℕ) (raw : List ℕ) (c : ℕ) → IsOverBy strict i b e → Lies (IsNameToken raw) i b c → ⊥
no_name_over strict i b e raw c over h =
    no_bytes_there quotation_mark (raw ++ (quotation_mark ∷ (h.2.4.0 ++ (name_separator ∷ drop c i))))
    (sym (past_name raw (drop b i) (drop c i) h.2) ∙ over_gone strict i b e over)

no_end_over : (strict : Bool) (i : List ℕ) (b e f : ℕ) → IsOverBy strict i b e → Lies (IsByte end_object) i b f → ⊥
no_end_over strict i b e f over h =
    no_bytes_there end_object (drop f i) (sym (past_byte end_object (drop b i) (drop f i) refl h.2) ∙ over_gone strict i b e over)

-- all that the laws of reading need of the framing
pub tokens_are_wire : (strict : Bool) → IsWire (token_frames strict)
tokens_are_wire strict = record {
  same_null = λ i d a e f h k. one_null i a e f h.0 k.0;
  same_scalar = λ i d x y a e f h k. one_token i x y a e f h.0 h.1 k.0 k.1;
  same_opens = λ s i a b c m n h j. (same_opens s i a b c h.1 j.1, h.0 ∙ sym j.0);
  same_entry = same_entry;
  same_ends = λ s i b m e f h k. same_ends s i b e f h k;
  entry_or_end = entry_or_end;
  sort_at = λ i a. json_sort (without_ws (drop a i));
  null_sort = λ i d a e h. rw (null_token_begins i a e h.0 h.1) refl;
  scalar_sort = λ i d x a e h. token_begins i x a e h.0;
  opens_sort = λ s i a b m h. opens_sort s i a b h.1;
  over_sort = over_sort strict;
  null_begins = λ i d a e h. null_token_begins i a e h.0 h.1;
  others_begin = λ i a h. not_null_sort (without_ws (drop a i)) (begins_with_null (without_ws (drop a i))) h;
  null_follows = λ i d a e h. h.2;
  scalar_follows = λ i d x a e h. h.2;
  empty_is_over = empty_is_over strict;
  over_is_end = over_is_end strict;
  over_stays = over_stays strict;
  no_entry_over = λ i b e k c n over h. no_name_over strict i b e h.0 c over (subst (λ d. Lies (IsNameToken h.0) i d c) h.3.1 h.3.2);
  no_end_over = no_end_over strict;
  opens_inside = λ s i a b m h is. let same : fresh_mark ≡ end_mark = sym h.0 ∙ is in let clash = ap (λ (x : Mark). x.at_end) same in cc;
  entry_inside = entry_inside;
  null_ahead = λ i d a e h. (null_ahead i a e h.0, h.0.1);
  scalar_ahead = λ i d x a e h. (token_ahead i x a e h.0, h.0.1);
  opens_ahead = λ s i a b m h. (opens_ahead s i a b h.1, h.1.1);
  entry_ahead = entry_ahead;
  ends_ahead = λ s i b m e low h. (h.0, h.1);
  nearer = nearer;
  next_entry = next_entry;
  entry_falls = entry_falls;
  left_falls = λ i a e m ahead within. omega (arith, ahead, within);
}

-- ---- openers

pub opening_adds : (s : Form) (i : List ℕ) (a b : ℕ) → Lies (IsByte (opening s)) i a b → suc (json_openers (drop b i)) ≤ json_openers (drop a i)
opening_adds as_array i a b h = omega (arith, across_begin_array i a b h)
opening_adds as_object i a b h = omega (arith, across_begin_object i a b h)

pub entry_takes_none : (s : Form) (i : List ℕ) (b : ℕ) (m : Mark) (k : Option JsonScalar) (c : ℕ) (n : Mark) → EntryTokens s i b m k c n → json_openers (drop c i) ≤ json_openers (drop b i)
entry_takes_none as_array i b m k c n h = omega (arith, across_separator i m.entered b c h.2)
entry_takes_none as_object i b m k c n h = omega (arith, across_name_token i m.entered b h.0 c h.3)

pub end_takes_one : (s : Form) (i : List ℕ) (b : ℕ) (e : ℕ) → Lies (IsByte (closing s)) i b e → json_openers (drop e i) ≤ suc (json_openers (drop b i))
end_takes_one as_array i b e h = across_end_array i b e h
end_takes_one as_object i b e h = across_end_object i b e h

-- all that the laws of reading need of the count of brackets, where an empty input alone is a structure
pub json_bounds_openers : BoundsOpeners json_frames
json_bounds_openers = record {
  over_is_empty = λ i a e over some. omega (arith, some, ap length over.0.0);
  over_takes_none = λ i a e over. rw over.1 (omega arith);
  null_takes_none = λ i d a e h. omega (arith, across_null i a e h.0);
  scalar_takes_none = λ i d x a e h. omega (arith, across_token i x a e h.0);
  opening_adds = λ s i a b m h. opening_adds s i a b h.1;
  entry_takes_none = entry_takes_none;
  end_takes_one = λ s i b m e h. end_takes_one s i b e h;
}

-- ---- under RFC 8259

pub json_is_wire : IsWire json_frames
json_is_wire = tokens_are_wire true

-- at one place lies one scalar
pub one_scalar : (i : List ℕ) (x y : JsonScalar) (a e f : ℕ) → TreeLies 1 (tree_of x) i a e → TreeLies 1 (tree_of y) i a f → x ≡ y
one_scalar i x y a e f h k = (json_is_wire.same_scalar i 0 x y a e f (tree_is_token x i 0 a e h).0 (tree_is_token y i 0 a f k).0).0
