-- A value that a form can express adds its leaves, wherever it is written.
use Rattle.std.proofs.Common.{◌≡◌, ◌≢◌, ◌<◌, ◌+◌, ◌==◌, ◌&&◌, ◌||◌, ℕ, suc, List, [], ◌∷◌, ◌++◌, length, take, drop, Bool, true, false, not, is_some, Option, Some, None, option_to_list, Result, Ok, if◌then◌else◌, refl, sym, ◌∙◌, ap, append_assoc, arith, codes, decimal}
use Rattle.std.specs.Option.{option_map_or}
use Rattle.std.proofs.lemmas.Bool.Decides.{nat_tests}
use Rattle.std.proofs.lemmas.Bool.{lt-ltb}
use Rattle.std.proofs.lemmas.List.{append-nil, length-append}
use Rattle.std.proofs.Math.Seq.{take-append_seam, drop-append_seam, take-length}
use Rattle.smithy_schema.specs.declared.error.SerdeError.{SerdeError}
use Rattle.smithy_shapes.specs.Site.{Site, View, element_of, key_of, value_of, member_of}
use Rattle.smithy_declarations.specs.Value.{ScalarValue, text, Value, scalar_value, list, map, structure, union, null_element, document_value, Values, no_values, value, MapEntries, no_map_entries, map_entry, MemberValues, no_member_values, member_value}
use Rattle.smithy_shapes.specs.ScalarTest.{scalars_pass, elements_pass, entries_pass, members_pass}
use Rattle.smithy_schema.specs.Writing.{Event, Open, open_structure, open_list, open_map_at_key, open_map_at_value, begin_structure, begin_list, begin_map, scalar_of, end_structure, end_list, end_map, after_value, after_scalar, after_begin, and_run, run, write, events, element_events, entry_events, member_events, count_of, entry_count}
use Rattle.smithy_schema.proofs.OpenLemmas.{scalar_taken}
use Rattle.smithy_schema.proofs.WritingLemmas.{child_written, call_made}
use Rattle.smithy_query.specs.Form.{pair_text}
use Rattle.smithy_query_codec.specs.Leaves.{Path, Leaf, MemberRole, flat_member, member, neither, under, numbered, query_name, role_of, element_name, key_name, value_name, inner_path, or_empty, scalar_text, form_at, leaves, element_leaves, entry_leaves, member_leaves}
use Rattle.smithy_query_codec.specs.Canonical.{path_text}
use Rattle.smithy_query_codec.specs.Nulls.{holds_null, elements_hold_null, entries_hold_null, members_hold_null}
use Rattle.smithy_query_codec.specs.Writable.{can_write, can_be_written}
use Rattle.smithy_query_codec.specs.Writing.{Mark, QueryState, child_path, child_role, child_count, has_room, is_placed, takes_null, innermost_key, innermost_value, child_prefix, extended, member_length, opened, made, allowed, where_taken, query_after}
use Rattle.smithy_query_codec.proofs.PathLemmas.{AreSegments, segments-append, extended_path, cut_path}
use Rattle.smithy_query_codec.proofs.SegmentLemmas.{name_full, decimal_full}
use Rattle.smithy_query_codec.proofs.LeafLemmas.{leaves_text, under-under, scalar_leaf, grouped, entry_grouped}
use Rattle.smithy_query_codec.proofs.Forms.{IsNoNull, HasForm, ElementsHaveForm, EntriesHaveForm, MembersHaveForm}

-- the state under a path
abbrev pub at : List ℕ → Path → List ℕ → ℕ → List Open → List Mark → QueryState
at out path names count opens marks = record {
  out = out;
  prefix = path_text path;
  names = names;
  count = count;
  opens = opens;
  marks = marks;
}

-- the mark of a container that was begun under a path
abbrev pub mark : Path → ℕ → List ℕ → Option ℕ → List ℕ → ℕ → Mark
mark path count out n names key = record {
  prefix_length = length (path_text path);
  count = count;
  out_length = length out;
  member_length = n;
  names_length = length names;
  key_length = key;
}

-- the calls of a first part, and then of a second
pub step : (xs ys : List Event) (s s' : QueryState) (r : Result QueryState SerdeError)
    → run query_after xs s ≡ Ok s' → run query_after ys s' ≡ r → run query_after (xs ++ ys) s ≡ r
step xs ys s s' r first rest = child_written query_after xs ys s s' first ∙ rest

-- the same text, in another grouping
regroup : (o p : List ℕ) (path : Path) (names : List ℕ) (c : ℕ) (os : List Open) (ms : List Mark) (r : Result QueryState SerdeError)
    → r ≡ Ok (at o path names c os ms) → o ≡ p → r ≡ Ok (at p path names c os ms)
regroup o p path names c os ms r is same = is ∙ ap (λ x. Ok (at x path names c os ms)) same

-- the number of parts after these
abbrev pub counted : ℕ → Values → ℕ
counted c no_values = c
counted c (value v vs) = counted (suc c) vs

abbrev pub counted_entries : ℕ → MapEntries → ℕ
counted_entries c no_map_entries = c
counted_entries c (map_entry key v es) = counted_entries (suc c) es

-- a value may be written here under this view
abbrev pub Placed : List Open → View → Value → Type 0
Placed os view (scalar_value x) = is_placed os view ≡ true
Placed os view null_element = takes_null os ≡ false
Placed os view (document_value d) = is_placed os view ≡ true
Placed os view _ = Unit {0}

-- a part of a list or a map may
pub part_placed : (os : List Open) (view : View) (v : Value) → is_placed os view ≡ true → takes_null os ≡ false → Placed os view v
part_placed os view (scalar_value x) h k = h
part_placed os view null_element h k = k
part_placed os view (document_value d) h k = h
part_placed os view (list vs) h k = tt
part_placed os view (map es) h k = tt
part_placed os view (structure ms) h k = tt
part_placed os view (union n v) h k = tt

-- and the value of a member with a name
pub member_placed : (os : List Open) (view : View) (v : Value) → is_placed os view ≡ true → IsNoNull v → Placed os view v
member_placed os view (scalar_value x) h k = h
member_placed os view null_element h k = absurd k
member_placed os view (document_value d) h k = h
member_placed os view (list vs) h k = tt
member_placed os view (map es) h k = tt
member_placed os view (structure ms) h k = tt
member_placed os view (union n v) h k = tt

-- the parts of a list, a map or a structure can be expressed
abbrev pub elements_can_be_written : Site → Values → Bool
elements_can_be_written site vs = not (elements_hold_null vs) && elements_pass can_write site vs

abbrev pub entries_can_be_written : Site → MapEntries → Bool
entries_can_be_written site es = not (entries_hold_null es) && entries_pass can_write site es

abbrev pub members_can_be_written : Site → MemberValues → Bool
members_can_be_written site vs = not (members_hold_null vs) && members_pass can_write site vs

-- both parts can be expressed where the two can
split_true : (a b p q : Bool) → (not (a || b) && (p && q)) ≡ true → ((not a && p) ≡ true) × ((not b && q) ≡ true)
split_true false b true q h = (refl, h)
split_true false true false q h = absurd (let e : false ≡ true = h in cc)
split_true false false false q h = absurd (let e : false ≡ true = h in cc)
split_true true b p q h = absurd (let e : false ≡ true = h in cc)

pub element_parts : (site : Site) (v : Value) (vs : Values) → elements_can_be_written site (value v vs) ≡ true → (can_be_written site v ≡ true) × (elements_can_be_written site vs ≡ true)
element_parts site v vs h = split_true (holds_null v) (elements_hold_null vs) (scalars_pass can_write site v) (elements_pass can_write site vs) h

pub entry_parts : (site : Site) (key : List ℕ) (v : Value) (es : MapEntries) → entries_can_be_written site (map_entry key v es) ≡ true → (can_be_written site v ≡ true) × (entries_can_be_written site es ≡ true)
entry_parts site key v es h = split_true (holds_null v) (entries_hold_null es) (scalars_pass can_write site v) (entries_pass can_write site es) h

pub member_parts : (site : Site) (n : ℕ) (v : Value) (vs : MemberValues) → members_can_be_written site (member_value n v vs) ≡ true
    → (can_be_written (member_of site n) v ≡ true) × (members_can_be_written site vs ≡ true)
member_parts site n v vs h = split_true (holds_null v) (members_hold_null vs) (scalars_pass can_write (member_of site n) v) (members_pass can_write site vs) h

-- ---- what is taken

is_allowed : (can : Bool) (r : Result (List Open) SerdeError) (after : List Open) → can ≡ true → r ≡ Ok after → allowed can r ≡ Ok after
is_allowed can r after h k = ap (λ b. allowed b r) h ∙ k

pub both_true : (a b : Bool) → a ≡ true → b ≡ true → (a && b) ≡ true
both_true a b h k = rw (h, k) refl

begins : (kind : Open) (can : Bool) (os after : List Open) → can ≡ true → after_value os ≡ Ok after → allowed can (after_begin kind os) ≡ Ok (kind ∷ after)
begins kind can os after h k = is_allowed can (after_begin kind os) (kind ∷ after) h (ap (and_run (λ outer. Ok (kind ∷ outer))) k)

-- ---- paths

prefix_is : (o : List ℕ) (path : Path) (names : List ℕ) (c : ℕ) (os : List Open) (ms : List Mark) (view : View) (child : Path)
    → child_path os c (innermost_key names ms) (innermost_value names ms) view ≡ child → AreSegments (path ++ child)
    → child_prefix (at o path names c os ms) view ≡ path_text (path ++ child)
prefix_is o path names c os ms view child is full = ap (extended (path_text path)) is ∙ extended_path path child full

pub inner_segments : (stand : MemberRole) (name : List ℕ) → name ≢ [] → AreSegments (inner_path stand name)
inner_segments flat_member name full = tt
inner_segments member name full = (full, tt)
inner_segments neither name full = (full, tt)

pub entry_full : codes "entry" ≢ []
entry_full e = let x : codes "entry" ≡ [] = e in cc

-- ---- the names of maps

pub key_is : (names k v : List ℕ) → take (length k) (drop (length names) ((names ++ k) ++ v)) ≡ k
key_is names k v =
    ap (λ x. take (length k) (drop (length names) x)) (append_assoc names k v)
    ∙ ap (take (length k)) (drop-append_seam names (k ++ v)) ∙ take-append_seam k v

pub value_is : (names k v : List ℕ) → drop (length k) (drop (length names) ((names ++ k) ++ v)) ≡ v
value_is names k v =
    ap (λ x. drop (length k) (drop (length names) x)) (append_assoc names k v)
    ∙ ap (drop (length k)) (drop-append_seam names (k ++ v)) ∙ drop-append_seam k v

names_back : (names k v : List ℕ) → take (length names) ((names ++ k) ++ v) ≡ names
names_back names k v = ap (take (length names)) (append_assoc names k v) ∙ take-append_seam names (k ++ v)

-- ---- begins

pub structure_begun : (site : Site) (o : List ℕ) (path : Path) (names : List ℕ) (c : ℕ) (os after : List Open) (ms : List Mark) (child : Path)
    → child_path os c (innermost_key names ms) (innermost_value names ms) site.view ≡ child → AreSegments (path ++ child)
    → has_room os c ≡ true → after_value os ≡ Ok after
    → query_after (begin_structure site) (at o path names c os ms)
    ≡ Ok (at o (path ++ child) names 0 (open_structure ∷ after) (mark path (child_count os c) o None names 0 ∷ ms))
structure_begun site o path names c os after ms child is full room taken =
    let s = at o path names c os ms in
    ap (where_taken (made (begin_structure site) s)) (begins open_structure (has_room os c) os after room taken)
    ∙ ap (λ p. Ok (opened s p names None 0 (open_structure ∷ after))) (prefix_is o path names c os ms site.view child is full)

pub list_begun : (site : Site) (n : Option ℕ) (o : List ℕ) (path : Path) (names : List ℕ) (c : ℕ) (os after : List Open) (ms : List Mark) (child : Path)
    → child_path os c (innermost_key names ms) (innermost_value names ms) site.view ≡ child → AreSegments (path ++ child)
    → AreSegments ((path ++ child) ++ inner_path (child_role os site.view) (element_name site))
    → has_room os c ≡ true → after_value os ≡ Ok after
    → query_after (begin_list site n) (at o path names c os ms)
    ≡ Ok (at o ((path ++ child) ++ inner_path (child_role os site.view) (element_name site)) names 0 (open_list ∷ after)
    (mark path (child_count os c) o (member_length (child_role os site.view) (length (path_text (path ++ child)))) names 0 ∷ ms))
list_begun site n o path names c os after ms child is full inside room taken =
    let s = at o path names c os ms in
    let stand = child_role os site.view in
    let inner = inner_path stand (element_name site) in
    ap (where_taken (made (begin_list site n) s)) (begins open_list (has_room os c) os after room taken)
    ∙ ap (λ p. Ok (opened s (extended p inner) names (member_length stand (length p)) 0 (open_list ∷ after))) (prefix_is o path names c os ms site.view child is full)
    ∙ ap (λ p. Ok (opened s p names (member_length stand (length (path_text (path ++ child)))) 0 (open_list ∷ after))) (extended_path (path ++ child) inner inside)

pub map_begun : (site : Site) (n : Option ℕ) (o : List ℕ) (path : Path) (names : List ℕ) (c : ℕ) (os after : List Open) (ms : List Mark) (child : Path)
    → child_path os c (innermost_key names ms) (innermost_value names ms) site.view ≡ child → AreSegments (path ++ child)
    → AreSegments ((path ++ child) ++ inner_path (child_role os site.view) (codes "entry"))
    → has_room os c ≡ true → after_value os ≡ Ok after
    → query_after (begin_map site n) (at o path names c os ms)
    ≡ Ok (at o ((path ++ child) ++ inner_path (child_role os site.view) (codes "entry")) ((names ++ key_name site) ++ value_name site) 0 (open_map_at_key ∷ after)
    (mark path (child_count os c) o None names (length (key_name site)) ∷ ms))
map_begun site n o path names c os after ms child is full inside room taken =
    let s = at o path names c os ms in
    let inner = inner_path (child_role os site.view) (codes "entry") in
    let more = (names ++ key_name site) ++ value_name site in
    ap (where_taken (made (begin_map site n) s)) (begins open_map_at_key (has_room os c) os after room taken)
    ∙ ap (λ p. Ok (opened s (extended p inner) more None (length (key_name site)) (open_map_at_key ∷ after))) (prefix_is o path names c os ms site.view child is full)
    ∙ ap (λ p. Ok (opened s p more None (length (key_name site)) (open_map_at_key ∷ after))) (extended_path (path ++ child) inner inside)

-- ---- ends

same_state : (o p q r m n : List ℕ) (k : ℕ) (os : List Open) (ms : List Mark) (x : Result QueryState SerdeError)
    → x ≡ Ok (record { out = o; prefix = q; names = m; count = k; opens = os; marks = ms }) → o ≡ p → q ≡ r → m ≡ n
    → x ≡ Ok (record { out = p; prefix = r; names = n; count = k; opens = os; marks = ms })
same_state o p q r m n k os ms x is out prefix names = rw (← out, ← prefix, ← names) is

same_length : (o : List ℕ) → (length (o ++ []) == length o) ≡ true
same_length o = rw (append-nil o) (grind (arith, nat_tests))

longer : (o : List ℕ) (b : ℕ) (bs : List ℕ) → (length (o ++ b ∷ bs) == length o) ≡ false
longer o b bs = let more = length-append o (b ∷ bs) in rw more (grind (arith, nat_tests))

abbrev empty_of : MemberRole → Path → Path → List ℕ
empty_of stand path inner =
    option_map_or (λ n. pair_text (take n (path_text (path ++ inner))) []) (member_length stand (length (path_text path))) []

empty_adds : (stand : MemberRole) (path inner : Path) → AreSegments (path ++ inner) → empty_of stand path inner ≡ leaves_text (under path (or_empty stand (under inner [])))
empty_adds neither path inner full = refl
empty_adds member path inner full = rw (cut_path path inner full, append-nil path) (sym (append-nil (pair_text (path_text path) [])))
empty_adds flat_member path inner full = rw (cut_path path inner full, append-nil path) (sym (append-nil (pair_text (path_text path) [])))

or_empty_full : (stand : MemberRole) (l : Leaf) (ls : List Leaf) → or_empty stand (l ∷ ls) ≡ l ∷ ls
or_empty_full neither l ls = refl
or_empty_full member l ls = refl
or_empty_full flat_member l ls = refl

list_adds : (stand : MemberRole) (o : List ℕ) (path inner : Path) (ls : List Leaf) → AreSegments (path ++ inner)
    → (let text = leaves_text (under (path ++ inner) ls) in (o ++ text) ++ (if length (o ++ text) == length o then empty_of stand path inner else []))
    ≡ o ++ leaves_text (under path (or_empty stand (under inner ls)))
list_adds stand o path inner [] full = rw (same_length o, append-nil o, empty_adds stand path inner full) refl
list_adds stand o path inner (l ∷ ls) full =
    let same : leaves_text (under (path ++ inner) (l ∷ ls)) ≡ leaves_text (under path (or_empty stand (under inner (l ∷ ls)))) =
    ap leaves_text (sym (under-under path inner (l ∷ ls))) ∙ ap (λ xs. leaves_text (under path xs)) (sym (or_empty_full stand _ _)) in
    rw (longer o _ _) (append-nil _ ∙ ap (λ t. o ++ t) same)

-- the path around a container comes back
path_back : (path child inner : Path) → AreSegments ((path ++ child) ++ inner) → take (length (path_text path)) (path_text ((path ++ child) ++ inner)) ≡ path_text path
path_back path child inner full =
    let whole : AreSegments (path ++ (child ++ inner)) = rw (← append_assoc path child inner) full in
    ap (λ p. take (length (path_text path)) (path_text p)) (append_assoc path child inner) ∙ cut_path path (child ++ inner) whole

structure_ends : (o t : List ℕ) (path child : Path) (names : List ℕ) (k n : ℕ) (os : List Open) (ms : List Mark) → AreSegments (path ++ child)
    → run query_after (end_structure ∷ []) (at (o ++ t) (path ++ child) names n (open_structure ∷ os) (mark path k o None names 0 ∷ ms))
    ≡ Ok (at (o ++ t) path names k os ms)
structure_ends o t path child names k n os ms full = same_state _ _ _ _ _ _ k os ms _ refl refl (cut_path path child full) (take-length names)

list_ends : (stand : MemberRole) (o : List ℕ) (path child inner : Path) (names : List ℕ) (k n : ℕ) (os : List Open) (ms : List Mark) (ls : List Leaf) → AreSegments ((path ++ child) ++ inner)
    → run query_after (end_list ∷ [])
    (at (o ++ leaves_text (under ((path ++ child) ++ inner) ls)) ((path ++ child) ++ inner) names n (open_list ∷ os)
    (mark path k o (member_length stand (length (path_text (path ++ child)))) names 0 ∷ ms))
    ≡ Ok (at (o ++ leaves_text (under (path ++ child) (or_empty stand (under inner ls)))) path names k os ms)
list_ends stand o path child inner names k n os ms ls full =
    same_state _ _ _ _ _ _ k os ms _ refl (list_adds stand o (path ++ child) inner ls full) (path_back path child inner full) (take-length names)

map_ends : (o : List ℕ) (path child inner : Path) (names key val : List ℕ) (k n : ℕ) (os : List Open) (ms : List Mark) (ls : List Leaf) → AreSegments ((path ++ child) ++ inner)
    → run query_after (end_map ∷ [])
    (at (o ++ leaves_text (under ((path ++ child) ++ inner) ls)) ((path ++ child) ++ inner) ((names ++ key) ++ val) n (open_map_at_key ∷ os)
    (mark path k o None names (length key) ∷ ms))
    ≡ Ok (at (o ++ leaves_text (under (path ++ child) (under inner ls))) path names k os ms)
map_ends o path child inner names key val k n os ms ls full =
    same_state _ _ _ _ _ _ k os ms _ refl (ap (λ xs. o ++ leaves_text xs) (sym (under-under (path ++ child) inner ls)))
    (path_back path child inner full) (names_back names key val)

-- ---- a scalar, and a key

scalar_adds : (site : Site) (x : ScalarValue) (o : List ℕ) (path : Path) (names : List ℕ) (c : ℕ) (os after : List Open) (ms : List Mark) (child : Path)
    → child_path os c (innermost_key names ms) (innermost_value names ms) site.view ≡ child → AreSegments (path ++ child)
    → can_write.scalar site.place.time x ≡ true → is_placed os site.view ≡ true → has_room os c ≡ true → after_value os ≡ Ok after
    → query_after (scalar_of site x) (at o path names c os ms)
    ≡ Ok (at (o ++ leaves_text (under (path ++ child) (record { path = []; text = scalar_text (form_at site) x } ∷ []))) path names (child_count os c) after ms)
scalar_adds site x o path names c os after ms child is full can placed room taken =
    let s = at o path names c os ms in
    let text = scalar_text (form_at site) x in
    let allows = is_allowed (can_write.scalar site.place.time x && (is_placed os site.view && has_room os c)) (after_scalar x os) after (both_true _ _ can (both_true _ _ placed room)) (scalar_taken x os after taken) in
    ap (where_taken (made (scalar_of site x) s)) allows
    ∙ ap (λ more. Ok (at (o ++ pair_text (extended (path_text path) more) text) path names (child_count os c) after ms)) is
    ∙ ap (λ t. Ok (at (o ++ t) path names (child_count os c) after ms)) (scalar_leaf path child text full)

pub key_adds : (site : Site) (key : List ℕ) (o : List ℕ) (path : Path) (names k v : List ℕ) (c : ℕ) (os : List Open) (m : Mark) (ms : List Mark)
    → m.names_length ≡ length names → m.key_length ≡ length k → AreSegments (path ++ decimal (suc c) ∷ k ∷ []) → has_room (open_map_at_key ∷ os) c ≡ true
    → query_after (scalar_of site (text key)) (at o path ((names ++ k) ++ v) c (open_map_at_key ∷ os) (m ∷ ms))
    ≡ Ok (at (o ++ leaves_text (under (path ++ decimal (suc c) ∷ k ∷ []) (record { path = []; text = key } ∷ []))) path ((names ++ k) ++ v) (suc c) (open_map_at_value ∷ os) (m ∷ ms))
key_adds site key o path names k v c os m ms before long full room =
    let all = (names ++ k) ++ v in
    let s = at o path all c (open_map_at_key ∷ os) (m ∷ ms) in
    let allows = is_allowed (has_room (open_map_at_key ∷ os) c) (Ok (open_map_at_value ∷ os)) (open_map_at_value ∷ os) room refl in
    let name : innermost_key all (m ∷ ms) ≡ k = rw (before, long) (key_is names k v) in
    ap (where_taken (made (scalar_of site (text key)) s)) allows
    ∙ ap (λ more. Ok (at (o ++ pair_text (extended (path_text path) (decimal (suc c) ∷ more ∷ [])) key) path all (suc c) (open_map_at_value ∷ os) (m ∷ ms))) name
    ∙ ap (λ t. Ok (at (o ++ t) path all (suc c) (open_map_at_value ∷ os) (m ∷ ms))) (scalar_leaf path (decimal (suc c) ∷ k ∷ []) key full)

-- ---- any value

mutual
  -- a value adds its leaves under the path at which it stands
  pub value_adds : (site : Site) (v : Value) (o : List ℕ) (path : Path) (names : List ℕ) (c : ℕ) (os after : List Open) (ms : List Mark) (child : Path)
      → HasForm site v → can_be_written site v ≡ true
      → child_path os c (innermost_key names ms) (innermost_value names ms) site.view ≡ child → AreSegments (path ++ child)
      → Placed os site.view v → has_room os c ≡ true → after_value os ≡ Ok after
      → write query_after site v (at o path names c os ms)
      ≡ Ok (at (o ++ leaves_text (under (path ++ child) (leaves site (child_role os site.view) v))) path names (child_count os c) after ms)
  value_adds site (scalar_value x) o path names c os after ms child form can is full placed room taken =
      ap (and_run (run query_after [])) (scalar_adds site x o path names c os after ms child is full can placed room taken)
  value_adds site null_element o path names c os after ms child form can is full placed room taken = absurd (let e : false ≡ true = can in cc)
  value_adds site (document_value d) o path names c os after ms child form can is full placed room taken = absurd (let e : false ≡ true = can in cc)
  value_adds site (list vs) o path names c os after ms child form can is full placed room taken =
      let stand = child_role os site.view in
      let inner = inner_path stand (element_name site) in
      let inside = segments-append (path ++ child) inner full (inner_segments stand (element_name site) (name_full (element_name site) form.0)) in
      let small : 0 + count_of vs < 18446744073709551616 = omega (arith, form.1) in
      call_made query_after (begin_list site (Some (count_of vs))) (element_events (element_of site) vs ++ end_list ∷ []) (at o path names c os ms) _
      (list_begun site (Some (count_of vs)) o path names c os after ms child is full inside room taken)
      ∙ step (element_events (element_of site) vs) (end_list ∷ []) _ _ _
      (elements_add (element_of site) vs o ((path ++ child) ++ inner) names 0 after (mark path (child_count os c) o (member_length stand (length (path_text (path ++ child)))) names 0) ms form.2 can inside small)
      (list_ends stand o path child inner names (child_count os c) (counted 0 vs) after ms _ inside)
  value_adds site (map es) o path names c os after ms child form can is full placed room taken =
      let inner = inner_path (child_role os site.view) (codes "entry") in
      let inside = segments-append (path ++ child) inner full (inner_segments (child_role os site.view) (codes "entry") entry_full) in
      let small : 0 + entry_count es < 18446744073709551616 = omega (arith, form.1) in
      let key = key_name site in
      let val = value_name site in
      call_made query_after (begin_map site (Some (entry_count es))) (entry_events (key_of site) (value_of site) es ++ end_map ∷ []) (at o path names c os ms) _
      (map_begun site (Some (entry_count es)) o path names c os after ms child is full inside room taken)
      ∙ step (entry_events (key_of site) (value_of site) es) (end_map ∷ []) _ _ _
      (entries_add (key_of site) (value_of site) es o ((path ++ child) ++ inner) names key val 0 after (mark path (child_count os c) o None names (length key)) ms refl refl
      (name_full key form.0.key_fits) (name_full val form.0.value_fits) form.2 can inside small)
      (map_ends o path child inner names key val (child_count os c) (counted_entries 0 es) after ms _ inside)
  value_adds site (structure vs) o path names c os after ms child form can is full placed room taken =
      call_made query_after (begin_structure site) (member_events site vs ++ end_structure ∷ []) (at o path names c os ms) _
      (structure_begun site o path names c os after ms child is full room taken)
      ∙ step (member_events site vs) (end_structure ∷ []) _ _ _
      (members_add site vs o (path ++ child) names 0 after (mark path (child_count os c) o None names 0 ∷ ms) form can full)
      (structure_ends o _ path child names (child_count os c) 0 after ms full)
  value_adds site (union n v) o path names c os after ms child form can is full placed room taken =
      let inner = member_of site n in
      let name = option_to_list (query_name inner.view) in
      let segment : AreSegments name = rw form.0.1 (name_full form.0.0 form.0.2, tt) in
      let marks = mark path (child_count os c) o None names 0 ∷ ms in
      call_made query_after (begin_structure site) (events inner v ++ end_structure ∷ []) (at o path names c os ms) _
      (structure_begun site o path names c os after ms child is full room taken)
      ∙ step (events inner v) (end_structure ∷ []) _ _ _
      (value_adds inner v o (path ++ child) names 0 (open_structure ∷ after) (open_structure ∷ after) marks name
      form.2 can refl (segments-append (path ++ child) name full segment) (member_placed (open_structure ∷ after) inner.view v (ap is_some form.0.1) form.1) refl refl)
      (structure_ends o _ path child names (child_count os c) 0 after ms full)
      ∙ ap (λ xs. Ok (at (o ++ leaves_text xs) path names (child_count os c) after ms)) (sym (under-under (path ++ child) name (leaves inner (role_of inner.view) v)))

  pub elements_add : (site : Site) (vs : Values) (o : List ℕ) (path : Path) (names : List ℕ) (c : ℕ) (os : List Open) (m : Mark) (ms : List Mark)
      → ElementsHaveForm site vs → elements_can_be_written site vs ≡ true → AreSegments path → c + count_of vs < 18446744073709551616
      → run query_after (element_events site vs) (at o path names c (open_list ∷ os) (m ∷ ms))
      ≡ Ok (at (o ++ leaves_text (under path (numbered (suc c) (element_leaves site vs)))) path names (counted c vs) (open_list ∷ os) (m ∷ ms))
  elements_add site no_values o path names c os m ms form can full small = ap (λ t. Ok (at t path names c (open_list ∷ os) (m ∷ ms))) (sym (append-nil o))
  elements_add site (value v vs) o path names c os m ms form can full small =
      let here : c < 18446744073709551615 = omega (arith, small) in
      let less : suc c + count_of vs < 18446744073709551616 = omega (arith, small) in
      let segment : AreSegments (decimal (suc c) ∷ []) = (decimal_full (suc c) (omega (arith, here)), tt) in
      let rest = numbered (suc (suc c)) (element_leaves site vs) in
      regroup _ _ path names (counted (suc c) vs) (open_list ∷ os) (m ∷ ms) _
      (step (events site v) (element_events site vs) _ _ _
      (value_adds site v o path names c (open_list ∷ os) (open_list ∷ os) (m ∷ ms) (decimal (suc c) ∷ []) form.0 (element_parts site v vs can).0 refl
      (segments-append path _ full segment) (part_placed (open_list ∷ os) site.view v refl refl) (lt-ltb c 18446744073709551615 here) refl)
      (elements_add site vs _ path names (suc c) os m ms form.1 (element_parts site v vs can).1 full less))
      (grouped o path (decimal (suc c) ∷ []) (leaves site neither v) rest)

  pub entries_add : (key_site site : Site) (es : MapEntries) (o : List ℕ) (path : Path) (names key val : List ℕ) (c : ℕ) (os : List Open) (m : Mark) (ms : List Mark)
      → m.names_length ≡ length names → m.key_length ≡ length key → key ≢ [] → val ≢ []
      → EntriesHaveForm site es → entries_can_be_written site es ≡ true → AreSegments path → c + entry_count es < 18446744073709551616
      → run query_after (entry_events key_site site es) (at o path ((names ++ key) ++ val) c (open_map_at_key ∷ os) (m ∷ ms))
      ≡ Ok (at (o ++ leaves_text (under path (numbered (suc c) (entry_leaves key val site es)))) path ((names ++ key) ++ val) (counted_entries c es) (open_map_at_key ∷ os) (m ∷ ms))
  entries_add key_site site no_map_entries o path names key val c os m ms before long kf vf form can full small =
      ap (λ t. Ok (at t path ((names ++ key) ++ val) c (open_map_at_key ∷ os) (m ∷ ms))) (sym (append-nil o))
  entries_add key_site site (map_entry k v es) o path names key val c os m ms before long kf vf form can full small =
      let here : c < 18446744073709551615 = omega (arith, small) in
      let less : suc c + entry_count es < 18446744073709551616 = omega (arith, small) in
      let number = decimal_full (suc c) (omega (arith, here)) in
      let all = (names ++ key) ++ val in
      let key_path : AreSegments (path ++ decimal (suc c) ∷ key ∷ []) = segments-append path _ full (number, (kf, tt)) in
      let value_path : AreSegments (path ++ decimal (suc c) ∷ val ∷ []) = segments-append path _ full (number, (vf, tt)) in
      let named : innermost_value all (m ∷ ms) ≡ val = rw (before, long) (value_is names key val) in
      regroup _ _ path all (counted_entries (suc c) es) (open_map_at_key ∷ os) (m ∷ ms) _
      (call_made query_after (scalar_of key_site (text k)) (events site v ++ entry_events key_site site es) (at o path all c (open_map_at_key ∷ os) (m ∷ ms)) _
      (key_adds key_site k o path names key val c os m ms before long key_path (lt-ltb c 18446744073709551615 here))
      ∙ step (events site v) (entry_events key_site site es) _ _ _
      (value_adds site v _ path all (suc c) (open_map_at_value ∷ os) (open_map_at_key ∷ os) (m ∷ ms) (decimal (suc c) ∷ val ∷ []) form.0 (entry_parts site k v es can).0
      (ap (λ x. decimal (suc c) ∷ x ∷ []) named) value_path (part_placed (open_map_at_value ∷ os) site.view v refl refl) refl refl)
      (entries_add key_site site es _ path names key val (suc c) os m ms before long kf vf form.1 (entry_parts site k v es can).1 full less))
      (entry_grouped o path (decimal (suc c)) key val k (leaves site neither v) (numbered (suc (suc c)) (entry_leaves key val site es)))

  pub members_add : (site : Site) (vs : MemberValues) (o : List ℕ) (path : Path) (names : List ℕ) (c : ℕ) (os : List Open) (ms : List Mark)
      → MembersHaveForm site vs → members_can_be_written site vs ≡ true → AreSegments path
      → run query_after (member_events site vs) (at o path names c (open_structure ∷ os) ms)
      ≡ Ok (at (o ++ leaves_text (under path (member_leaves site vs))) path names c (open_structure ∷ os) ms)
  members_add site no_member_values o path names c os ms form can full = ap (λ t. Ok (at t path names c (open_structure ∷ os) ms)) (sym (append-nil o))
  members_add site (member_value n v vs) o path names c os ms form can full =
      let child = member_of site n in
      let name = option_to_list (query_name child.view) in
      let segment : AreSegments name = rw form.0.1 (name_full form.0.0 form.0.2, tt) in
      regroup _ _ path names c (open_structure ∷ os) ms _
      (step (events child v) (member_events site vs) _ _ _
      (value_adds child v o path names c (open_structure ∷ os) (open_structure ∷ os) ms name form.2 (member_parts site n v vs can).0 refl
      (segments-append path name full segment) (member_placed (open_structure ∷ os) child.view v (ap is_some form.0.1) form.1) refl refl)
      (members_add site vs _ path names c os ms form.3 (member_parts site n v vs can).1 full))
      (grouped o path name (leaves child (role_of child.view) v) (member_leaves site vs))
