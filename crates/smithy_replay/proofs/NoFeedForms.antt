-- No form of a value of an accepted table has a line feed.
use Rattle.std.proofs.Common.{◌≡◌, ℕ, zero, suc, List, [], ◌∷◌, ◌++◌, ◌==◌, map as mapped, Bool, true, false, Option, Some, None, slice_get, option_to_list, codes, decimal, refl, sym, ap, subst, arith}
use Rattle.std.specs.List.{AllByRecursion, list_all, flat_map}
use Rattle.std.specs.Str.{byte}
use Rattle.std.proofs.lemmas.Bool.{and_parts}
use Rattle.std.proofs.lemmas.Bool.Decides.{nat_tests}
use Rattle.smithy_declarations.specs.declared.place.Place.{Place}
use Rattle.smithy_declarations.specs.Names.{is_name_byte, is_query_name}
use Rattle.smithy_declarations.specs.Table.{Table, Member, ListShape, MapShape, kind_of, members_of, list_shape_of, map_shape_of, structure_of, list_of, map_of, place_in, query_name_of}
use Rattle.smithy_declarations.specs.Value.{Value, scalar_value, list, map, structure, union, null_element, document_value, Values, no_values, value, MapEntries, no_map_entries, map_entry, MemberValues, no_member_values, member_value}
use Rattle.smithy_shapes.specs.Accepted.{IsAccepted, AreAcceptedMembers}
use Rattle.smithy_shapes.specs.Fits.{FitsOr, ElementsFit, EntriesFit, MembersFit}
use Rattle.smithy_shapes.specs.Lemmas.Kinds.{list_kind, map_kind, structure_kind, union_kind}
use Rattle.smithy_shapes.specs.Site.{Site, View, member_view, element_view, value_view, nameless, element_of, value_of, member_of}
use Rattle.smithy_shapes.proofs.SiteLemmas.{site_at, element_site_at, value_site_at, member_site_at, variant_site_at, element_fit, entry_fit, member_fit, variant_fit}
use Rattle.smithy_query.specs.Form.{Pair, pair_text, form_head}
use Rattle.smithy_query.specs.Percent.{encoded}
use Rattle.smithy_query_codec.specs.Leaves.{Path, Leaf, MemberRole, flat_member, member, neither, under, numbered, query_name, role_of, element_name, key_name, value_name, inner_path, or_empty, leaves, element_leaves, entry_leaves, member_leaves}
use Rattle.smithy_query_codec.specs.Canonical.{path_text, pair_of_leaf, canonical_query}
use Rattle.smithy_query_codec.proofs.PairLemmas.{each-append, each_weaker, each_map}
use Rattle.smithy_lines.specs.Lines.{line_feed, HasNoFeed}
use Rattle.smithy_replay.proofs.NoFeedTexts.{nothing, one_more, joined, tested, of_decimal, of_encoded}

-- ---- names

name_byte : (b : ℕ) → is_name_byte b ≡ true → (b == line_feed) ≡ false
name_byte b h = grind (arith, nat_tests)

of_name_bytes : (name : List ℕ) → list_all is_name_byte name ≡ true → HasNoFeed name
of_name_bytes [] h = nothing
of_name_bytes (b ∷ name) h = let both = and_parts (is_name_byte b) (list_all is_name_byte name) h in one_more b name (name_byte b both.0) (of_name_bytes name both.1)

of_query_name : (name : List ℕ) → is_query_name name ≡ true → HasNoFeed name
of_query_name name h = of_name_bytes name (and_parts _ _ h).0

each_name : (members : List Member) (n : ℕ) (m : Member) → list_all is_query_name (mapped query_name_of members) ≡ true → slice_get members n ≡ Some m → HasNoFeed (query_name_of m)
each_name [] n m all found = absurd (let e : None ≡ Some m = found in cc)
each_name (x ∷ members) zero m all found = let e : x ≡ m = cc in subst (λ y. HasNoFeed (query_name_of y)) e (of_query_name (query_name_of x) (and_parts _ _ all).0)
each_name (x ∷ members) (suc n) m all found = each_name members n m (and_parts _ _ all).1 found

-- ---- the paths of leaves

abbrev IsPlain : Path → Type 0
IsPlain path = AllByRecursion HasNoFeed path

abbrev ArePlain : List Leaf → Type 0
ArePlain ls = AllByRecursion (λ (l : Leaf). IsPlain l.path) ls

plain_under : (p : Path) (ls : List Leaf) → IsPlain p → ArePlain ls → ArePlain (under p ls)
plain_under p ls hp h =
    each_map (λ (l : Leaf). IsPlain l.path) (λ (l : Leaf). record l { path = p ++ l.path }) ls
    (each_weaker (λ (l : Leaf). IsPlain l.path) (λ (l : Leaf). IsPlain (p ++ l.path)) (λ l hl. each-append HasNoFeed p l.path hp hl) ls h)

plain_numbered : (i : ℕ) (parts : List (List Leaf)) → AllByRecursion ArePlain parts → ArePlain (numbered i parts)
plain_numbered i [] h = tt
plain_numbered i (ls ∷ parts) h =
    each-append (λ (l : Leaf). IsPlain l.path) (under (decimal i ∷ []) ls) (numbered (suc i) parts)
    (plain_under (decimal i ∷ []) ls (of_decimal i, tt) h.0) (plain_numbered (suc i) parts h.1)

plain_or_empty : (role : MemberRole) (ls : List Leaf) → ArePlain ls → ArePlain (or_empty role ls)
plain_or_empty neither ls h = h
plain_or_empty member [] h = (tt, tt)
plain_or_empty member (l ∷ ls) h = h
plain_or_empty flat_member [] h = (tt, tt)
plain_or_empty flat_member (l ∷ ls) h = h

plain_inner : (role : MemberRole) (name : List ℕ) → HasNoFeed name → IsPlain (inner_path role name)
plain_inner flat_member name h = tt
plain_inner member name h = (h, tt)
plain_inner neither name h = (h, tt)

plain_name : (o : Option (List ℕ)) (name : List ℕ) → o ≡ Some name → HasNoFeed name → IsPlain (option_to_list o)
plain_name o name is clear = rw is (clear, tt)

module _ (t : Table) (accepted : IsAccepted t) where
  of_element_name : (p : Place) (view : View) (l : ListShape) → kind_of t p ≡ list_of l → HasNoFeed (element_name (site_at t p view))
  of_element_name p view l kind =
      let shape : list_shape_of (kind_of t p) ≡ Some l = rw kind refl in
      of_query_name (element_name (site_at t p view)) (rw shape (accepted.element_names_fit p l shape))

  of_key_name : (p : Place) (view : View) (m : MapShape) → kind_of t p ≡ map_of m → HasNoFeed (key_name (site_at t p view))
  of_key_name p view m kind =
      let shape : map_shape_of (kind_of t p) ≡ Some m = rw kind refl in
      of_query_name (key_name (site_at t p view)) (rw shape (accepted.entry_names_are_accepted p m shape).key_name_fits)

  of_value_name : (p : Place) (view : View) (m : MapShape) → kind_of t p ≡ map_of m → HasNoFeed (value_name (site_at t p view))
  of_value_name p view m kind =
      let shape : map_shape_of (kind_of t p) ≡ Some m = rw kind refl in
      of_query_name (value_name (site_at t p view)) (rw shape (accepted.entry_names_are_accepted p m shape).value_name_fits)

  accepted_at : (p : Place) (members : List Member) → members_of (kind_of t p) ≡ members → AreAcceptedMembers members
  accepted_at p members is = subst AreAcceptedMembers is (accepted.members_are_accepted p)

  plain_member : (site : Site) (m : Member) (n : ℕ) (members : List Member) (v : Value) → site ≡ site_at t m.place (member_view n m) → AreAcceptedMembers members → slice_get members n ≡ Some m
      → ArePlain (leaves (site_at t m.place (member_view n m)) (role_of site.view) v) → ArePlain (under (option_to_list (query_name site.view)) (leaves site (role_of site.view) v))
  plain_member site m n members v is ok found child =
      plain_under (option_to_list (query_name site.view)) (leaves site (role_of site.view) v)
      (plain_name (query_name site.view) (query_name_of m) (ap (λ (s : Site). query_name s.view) is) (each_name members n m ok.query_names_fit found))
      (subst (λ (s : Site). ArePlain (leaves s (role_of site.view) v)) (sym is) child)

  mutual
    plain_leaves : (p : Place) (view : View) (nulls : Bool) (role : MemberRole) (v : Value) → FitsOr t p nulls v → ArePlain (leaves (site_at t p view) role v)
    plain_leaves p view nulls role (scalar_value x) fits = (tt, tt)
    plain_leaves p view nulls role null_element fits = tt
    plain_leaves p view nulls role (document_value d) fits = tt
    plain_leaves p view nulls role (list vs) fits =
        let l = list_kind (kind_of t p) fits.0 in
        let inner = subst (λ k. ElementsFit t k vs) l.1 fits.1 in
        let parts = subst (λ (s : Site). AllByRecursion ArePlain (element_leaves s vs)) (sym (element_site_at t p view l.0 l.1)) (plain_elements l.0 vs inner) in
        plain_or_empty role _
        (plain_under (inner_path role (element_name (site_at t p view))) _ (plain_inner role (element_name (site_at t p view)) (of_element_name p view l.0 l.1))
        (plain_numbered 1 (element_leaves (element_of (site_at t p view)) vs) parts))
    plain_leaves p view nulls role (map es) fits =
        let m = map_kind (kind_of t p) fits.0 in
        let site = site_at t p view in
        let inner = subst (λ k. EntriesFit t k es) m.1 fits.1 in
        let parts = subst (λ (s : Site). AllByRecursion ArePlain (entry_leaves (key_name site) (value_name site) s es)) (sym (value_site_at t p view m.0 m.1))
        (plain_entries m.0 (key_name site) (value_name site) es (of_key_name p view m.0 m.1) (of_value_name p view m.0 m.1) inner) in
        plain_under (inner_path role (codes "entry")) _ (plain_inner role (codes "entry") (tested (codes "entry") refl))
        (plain_numbered 1 (entry_leaves (key_name site) (value_name site) (value_of site) es) parts)
    plain_leaves p view nulls role (structure ms) fits =
        let members = structure_kind (kind_of t p) fits.0 in
        plain_members p view members.0 members.1 ms (subst (λ k. MembersFit t k ms) members.1 fits.1)
    plain_leaves p view nulls role (union n v) fits =
        let members = union_kind (kind_of t p) fits.0 in
        let inner = subst (λ k. (q : Place) × (place_in k (Some n) ≡ Some q) × FitsOr t q false v) members.1 fits.1 in
        let m = variant_fit t members.0 n v inner in
        let site = variant_site_at t p view members.0 n m.0 members.1 m.1 in
        plain_member (member_of (site_at t p view) n) m.0 n members.0 v site (accepted_at p members.0 (ap members_of members.1)) m.1
        (plain_leaves m.0.place (member_view n m.0) false (role_of (member_of (site_at t p view) n).view) v m.2)

    plain_elements : (l : ListShape) (vs : Values) → ElementsFit t (list_of l) vs → AllByRecursion ArePlain (element_leaves (site_at t l.place (nameless (element_view l))) vs)
    plain_elements l no_values fits = tt
    plain_elements l (value v vs) fits = (plain_leaves l.place (nameless (element_view l)) l.is_sparse neither v (element_fit t l v vs fits), plain_elements l vs fits.1)

    plain_entries : (m : MapShape) (keys vals : List ℕ) (es : MapEntries) → HasNoFeed keys → HasNoFeed vals → EntriesFit t (map_of m) es
        → AllByRecursion ArePlain (entry_leaves keys vals (site_at t m.place (nameless (value_view m))) es)
    plain_entries m keys vals no_map_entries hk hv fits = tt
    plain_entries m keys vals (map_entry key v es) hk hv fits = (
      ((hk, tt), plain_under (vals ∷ []) (leaves (site_at t m.place (nameless (value_view m))) neither v) (hv, tt) (plain_leaves m.place (nameless (value_view m)) m.is_sparse neither v (entry_fit t m key v es fits))),
      plain_entries m keys vals es hk hv fits.2,
    )

    plain_members : (p : Place) (view : View) (members : List Member) → kind_of t p ≡ structure_of members → (ms : MemberValues) → MembersFit t (structure_of members) ms
        → ArePlain (member_leaves (site_at t p view) ms)
    plain_members p view members kind no_member_values fits = tt
    plain_members p view members kind (member_value n v ms) fits =
        let m = member_fit t members n v ms fits in
        let site = member_of (site_at t p view) n in
        each-append (λ (l : Leaf). IsPlain l.path) (under (option_to_list (query_name site.view)) (leaves site (role_of site.view) v)) (member_leaves (site_at t p view) ms)
        (plain_member site m.0 n members v (member_site_at t p view members n m.0 kind m.1) (accepted_at p members (ap members_of kind)) m.1
        (plain_leaves m.0.place (member_view n m.0) false (role_of site.view) v m.2))
        (plain_members p view members kind ms fits.1)

-- ---- the text

of_path : (p : Path) → IsPlain p → HasNoFeed (path_text p)
of_path [] h = nothing
of_path (s ∷ []) h = h.0
of_path (s ∷ n ∷ p) h = joined s (byte "." ∷ path_text (n ∷ p)) h.0 (one_more (byte ".") (path_text (n ∷ p)) refl (of_path (n ∷ p) h.1))

of_pair : (path text : List ℕ) → HasNoFeed path → HasNoFeed (pair_text path text)
of_pair path text clear = one_more (byte "&") _ refl (joined path (byte "=" ∷ encoded text) clear (one_more (byte "=") (encoded text) refl (of_encoded text)))

of_pairs : (ls : List Leaf) → ArePlain ls → HasNoFeed (flat_map (λ (p : Pair). pair_text p.path p.text) (mapped pair_of_leaf ls))
of_pairs [] h = nothing
of_pairs (l ∷ ls) h = joined (pair_text (path_text l.path) l.text) _ (of_pair (path_text l.path) l.text (of_path l.path h.0)) (of_pairs ls h.1)

of_head : (action version : List ℕ) → HasNoFeed (form_head action version)
of_head action version =
    joined (codes "Action=") _ (tested (codes "Action=") refl)
    (joined (encoded action) (pair_text (codes "Version") version) (of_encoded action) (of_pair (codes "Version") version (tested (codes "Version") refl)))

pub of_form : (t : Table) → IsAccepted t → (p : Place) (view : View) (v : Value) (action version : List ℕ) → FitsOr t p false v → HasNoFeed (canonical_query action version (site_at t p view) v)
of_form t accepted p view v action version fits =
    joined (form_head action version) _ (of_head action version) (of_pairs (leaves (site_at t p view) neither v) (plain_leaves t accepted p view false neither v fits))
