-- What the entries of a container mean together, where each says one child of a value.
use Rattle.std.proofs.Common.{◌≡◌, ◌<◌, ◌≤◌, ℕ, suc, List, [], ◌∷◌, ◌++◌, Bool, false, Some, refl, sym, ap, ◌∙◌, arith, append_assoc}
use Rattle.std.specs.declared.cmp.Ordering.{Ordering}
use Rattle.std.specs.declared.cmp.Ordering.TheVariants.{Less, Equal, Greater}
use Rattle.std.specs.Ordering.{MatchOrdering, nat_cmp, match_ordering}
use Rattle.std.proofs.lemmas.Cmp.{ranked, nat_list_cmp_total}
use Rattle.std.proofs.lemmas.List.{append-nil}
use Rattle.smithy_declarations.specs.Table.{Member, ListShape, MapShape, structure_of, union_of, list_of, map_of}
use Rattle.smithy_declarations.specs.Value.{Value, list, map, structure, union, Values, no_values, value, values_of, MapEntries, no_map_entries, map_entry, put_entry, MemberValues, no_member_values, member_value, put_member}
use Rattle.smithy_shapes.specs.Container.{Entry, element_of, elements_from, entry_step, entries_from, member_step, members_from, container_of}
use Rattle.smithy_shapes.specs.Fits.{AscendFrom, KeysAscendAbove, KeysAscend}
use Rattle.smithy_shapes.specs.Lemmas.ElementFolds.{element_adds}
use Rattle.smithy_shapes.specs.Lemmas.AscendingKeys.{byte_order, turned_back}

-- ---- lists

abbrev pub list_from : Values → List Value
list_from no_values = []
list_from (value v vs) = v ∷ list_from vs

values_back : (vs : Values) → values_of (list_from vs) ≡ vs
values_back no_values = refl
values_back (value v vs) = ap (value v) (values_back vs)

-- each entry says one element, in order
abbrev pub SayElements : Bool → Values → List Entry → Type 0
SayElements is_sparse no_values [] = Unit {0}
SayElements is_sparse no_values (e ∷ es) = ⊥
SayElements is_sparse (value v vs) [] = ⊥
SayElements is_sparse (value v vs) (e ∷ es) = (element_of is_sparse e.is_null e.meaning ≡ Some v) × SayElements is_sparse vs es

elements_said : (is_sparse : Bool) (us : List Value) (vs : Values) (es : List Entry) → SayElements is_sparse vs es
    → elements_from is_sparse us es ≡ Some (us ++ list_from vs)
elements_said is_sparse us no_values [] said = ap Some (sym (append-nil us))
elements_said is_sparse us no_values (e ∷ es) said = absurd said
elements_said is_sparse us (value v vs) [] said = absurd said
elements_said is_sparse us (value v vs) (e ∷ es) said =
    element_adds is_sparse e v said.0 us es
    ∙ (elements_said is_sparse (us ++ v ∷ []) vs es said.1 ∙ ap Some (append_assoc us (v ∷ []) (list_from vs)))

-- so they mean the list together
pub list_said : (l : ListShape) (vs : Values) (es : List Entry) → SayElements l.is_sparse vs es → container_of (list_of l) es ≡ Some (list vs)
list_said l vs es said = rw (elements_said l.is_sparse [] vs es said) (ap (λ us. Some (list us)) (values_back vs))

-- ---- structures

-- the entry sets the member at this position
pub record Sets (n : ℕ) (v : Value) (e : Entry) : Type 0 where
  pub key : List ℕ
  pub has_key : e.key ≡ Some key
  pub there : e.is_absent ≡ false
  pub position : e.position ≡ Some n
  pub meaning : e.meaning ≡ Some v

-- each entry sets one member, in order
abbrev pub SayMembers : MemberValues → List Entry → Type 0
SayMembers no_member_values [] = Unit {0}
SayMembers no_member_values (e ∷ es) = ⊥
SayMembers (member_value n v ms) [] = ⊥
SayMembers (member_value n v ms) (e ∷ es) = Sets n v e × SayMembers ms es

-- some members, and then others
abbrev and_members : MemberValues → MemberValues → MemberValues
and_members no_member_values ms = ms
and_members (member_value n v fs) ms = member_value n v (and_members fs ms)

abbrev one_member : ℕ → Value → MemberValues
one_member n v = member_value n v no_member_values

and_one : (fs ms : MemberValues) (n : ℕ) (v : Value) → and_members (and_members fs (one_member n v)) ms ≡ and_members fs (member_value n v ms)
and_one no_member_values ms n v = refl
and_one (member_value at w fs) ms n v = ap (member_value at w) (and_one fs ms n v)

-- each position is less than this one
abbrev AllBelow : ℕ → MemberValues → Type 0
AllBelow n no_member_values = Unit {0}
AllBelow n (member_value at v ms) = (at < n) × AllBelow n ms

below_more : (least n : ℕ) (v : Value) (fs : MemberValues) → least ≤ n → AllBelow least fs → AllBelow (suc n) (and_members fs (one_member n v))
below_more least n v no_member_values up below = (omega arith, tt)
below_more least n v (member_value at w fs) up below = let first = below.0 in (omega (arith, first, up), below_more least n v fs up below.1)

placed_behind : (n at : ℕ) (v w : Value) (fs more : MemberValues) (order : Ordering) → MatchOrdering order (n < at) (n ≡ at) (at < n) → at < n
    → match_ordering order (member_value n v (member_value at w fs)) (member_value at v fs) (member_value at w more) ≡ member_value at w more
placed_behind n at v w fs more Less is behind = absurd (omega arith)
placed_behind n at v w fs more Equal is behind = absurd (omega arith)
placed_behind n at v w fs more Greater is behind = refl

-- a member behind all others comes last
put_last : (least n : ℕ) (v : Value) (fs : MemberValues) → least ≤ n → AllBelow least fs → put_member n v fs ≡ and_members fs (one_member n v)
put_last least n v no_member_values up below = refl
put_last least n v (member_value at w fs) up below =
    let first = below.0 in
    placed_behind n at v w fs (put_member n v fs) (nat_cmp n at) (ranked n at (nat_cmp n at) refl) (omega (arith, first, up))
    ∙ ap (member_value at w) (put_last least n v fs up below.1)

entry_sets : (n : ℕ) (v : Value) (e : Entry) (fs : MemberValues) → Sets n v e → member_step e fs ≡ Some (put_member n v fs)
entry_sets n v e fs is = rw (is.has_key, is.there, is.position, is.meaning) refl

members_said : (least : ℕ) (fs ms : MemberValues) (es : List Entry) → AllBelow least fs → AscendFrom least ms → SayMembers ms es
    → members_from fs es ≡ Some (and_members fs ms)
members_said least fs no_member_values [] below rise said = ap Some (end fs)
  where
    end : (fs : MemberValues) → fs ≡ and_members fs no_member_values
    end no_member_values = refl
    end (member_value at w fs) = ap (member_value at w) (end fs)
members_said least fs no_member_values (e ∷ es) below rise said = absurd said
members_said least fs (member_value n v ms) [] below rise said = absurd said
members_said least fs (member_value n v ms) (e ∷ es) below rise said =
    rw (entry_sets n v e fs said.0, put_last least n v fs rise.0 below)
    (members_said (suc n) (and_members fs (one_member n v)) ms es (below_more least n v fs rise.0 below) rise.1 said.1
    ∙ ap Some (and_one fs ms n v))

-- so they mean the structure together
pub structure_said : (members : List Member) (ms : MemberValues) (es : List Entry) → AscendFrom 0 ms → SayMembers ms es
    → container_of (structure_of members) es ≡ Some (structure ms)
structure_said members ms es rise said = rw (members_said 0 no_member_values ms es tt rise said) refl

-- ---- unions

-- one entry that sets a member means the union with that member
pub union_said : (members : List Member) (n : ℕ) (v : Value) (e : Entry) → Sets n v e → container_of (union_of members) (e ∷ []) ≡ Some (union n v)
union_said members n v e is = rw (is.has_key, is.there, is.position, is.meaning) refl

-- ---- maps

-- each entry says a key and its value, in order
abbrev pub SayEntries : Bool → MapEntries → List Entry → Type 0
SayEntries is_sparse no_map_entries [] = Unit {0}
SayEntries is_sparse no_map_entries (x ∷ xs) = ⊥
SayEntries is_sparse (map_entry key v es) [] = ⊥
SayEntries is_sparse (map_entry key v es) (x ∷ xs) =
    (x.key ≡ Some key) × (element_of is_sparse x.is_null x.meaning ≡ Some v) × SayEntries is_sparse es xs

-- some entries, and then others
abbrev and_entries : MapEntries → MapEntries → MapEntries
and_entries no_map_entries es = es
and_entries (map_entry key v fs) es = map_entry key v (and_entries fs es)

abbrev one_entry : List ℕ → Value → MapEntries
one_entry key v = map_entry key v no_map_entries

and_one_entry : (fs es : MapEntries) (key : List ℕ) (v : Value) → and_entries (and_entries fs (one_entry key v)) es ≡ and_entries fs (map_entry key v es)
and_one_entry no_map_entries es key v = refl
and_one_entry (map_entry at w fs) es key v = ap (map_entry at w) (and_one_entry fs es key v)

-- each key is before this one
abbrev KeysBelow : List ℕ → MapEntries → Type 0
KeysBelow key no_map_entries = Unit {0}
KeysBelow key (map_entry at v es) = (byte_order at key ≡ Less) × KeysBelow key es

keys_below_more : (key next : List ℕ) (v : Value) (fs : MapEntries) → byte_order key next ≡ Less → KeysBelow key fs → KeysBelow next (and_entries fs (one_entry key v))
keys_below_more key next v no_map_entries up below = (up, tt)
keys_below_more key next v (map_entry at w fs) up below =
    (nat_list_cmp_total.trans at key next below.0 up, keys_below_more key next v fs up below.1)

-- an entry behind all others comes last
put_last_entry : (key : List ℕ) (v : Value) (fs : MapEntries) → KeysBelow key fs → put_entry key v fs ≡ and_entries fs (one_entry key v)
put_last_entry key v no_map_entries below = refl
put_last_entry key v (map_entry at w fs) below =
    ap (λ o. match_ordering o (map_entry key v (map_entry at w fs)) (map_entry at v fs) (map_entry at w (put_entry key v fs))) (turned_back at key below.0)
    ∙ ap (map_entry at w) (put_last_entry key v fs below.1)

entry_puts : (is_sparse : Bool) (key : List ℕ) (v : Value) (x : Entry) (fs : MapEntries) → x.key ≡ Some key → element_of is_sparse x.is_null x.meaning ≡ Some v
    → entry_step is_sparse x fs ≡ Some (put_entry key v fs)
entry_puts is_sparse key v x fs has_key is = rw (has_key, is) refl

abbrev FirstAbove : MapEntries → MapEntries → Type 0
FirstAbove fs no_map_entries = Unit {0}
FirstAbove fs (map_entry key v es) = KeysBelow key fs

next_above : (key : List ℕ) (v : Value) (fs es : MapEntries) → KeysBelow key fs → KeysAscendAbove key es → FirstAbove (and_entries fs (one_entry key v)) es
next_above key v fs no_map_entries below rise = tt
next_above key v fs (map_entry next w es) below rise = keys_below_more key next v fs rise.0 below

still_rise : (key : List ℕ) (es : MapEntries) → KeysAscendAbove key es → KeysAscend es
still_rise key no_map_entries rise = tt
still_rise key (map_entry next w es) rise = rise.1

entries_said : (is_sparse : Bool) (fs es : MapEntries) (xs : List Entry) → FirstAbove fs es → KeysAscend es → SayEntries is_sparse es xs
    → entries_from is_sparse fs xs ≡ Some (and_entries fs es)
entries_said is_sparse fs no_map_entries [] above rise said = ap Some (end fs)
  where
    end : (fs : MapEntries) → fs ≡ and_entries fs no_map_entries
    end no_map_entries = refl
    end (map_entry at w fs) = ap (map_entry at w) (end fs)
entries_said is_sparse fs no_map_entries (x ∷ xs) above rise said = absurd said
entries_said is_sparse fs (map_entry key v es) [] above rise said = absurd said
entries_said is_sparse fs (map_entry key v es) (x ∷ xs) above rise said =
    rw (entry_puts is_sparse key v x fs said.0 said.1, put_last_entry key v fs above)
    (entries_said is_sparse (and_entries fs (one_entry key v)) es xs (next_above key v fs es above rise) (still_rise key es rise) said.2
    ∙ ap Some (and_one_entry fs es key v))

none_below : (es : MapEntries) → FirstAbove no_map_entries es
none_below no_map_entries = tt
none_below (map_entry key v es) = tt

-- so they mean the map together
pub map_said : (m : MapShape) (es : MapEntries) (xs : List Entry) → KeysAscend es → SayEntries m.is_sparse es xs → container_of (map_of m) xs ≡ Some (map es)
map_said m es xs rise said = rw (entries_said m.is_sparse no_map_entries es xs (none_below es) rise said) refl
