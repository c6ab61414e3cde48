-- The paths of leaves hold nothing that cuts a form or a path, and their texts are bytes.
use Rattle.std.proofs.Common.{◌≡◌, ◌≤◌, ◌+◌, ℕ, suc, List, [], ◌∷◌, ◌++◌, length, All, Option, Some, true, option_to_list, codes, decimal, refl, arith}
use Rattle.std.specs.List.{AllByRecursion}
use Rattle.std.proofs.lemmas.List.Elements.{All-nil}
use Rattle.percent_encoding.proofs.PercentLemmas.{IsByte}
use Rattle.smithy_declarations.specs.Names.{is_query_name}
use Rattle.smithy_shapes.specs.Site.{Site, element_of, value_of, member_of}
use Rattle.smithy_declarations.specs.Value.{Value, scalar_value, list, map, structure, union, null_element, document_value, Values, no_values, value, MapEntries, no_map_entries, map_entry, MemberValues, no_member_values, member_value}
use Rattle.smithy_query_codec.specs.Leaves.{Path, Leaf, MemberRole, flat_member, member, neither, under, numbered, query_name, role_of, element_name, key_name, value_name, inner_path, or_empty, form_at, leaves, element_leaves, entry_leaves, member_leaves}
use Rattle.smithy_query_codec.proofs.Forms.{HasForm, ElementsHaveForm, EntriesHaveForm, MembersHaveForm}
use Rattle.smithy_query_codec.proofs.ByteLemmas.{HasBytes, ElementsHaveBytes, EntriesHaveBytes, MembersHaveBytes}
use Rattle.smithy_query_codec.proofs.PairLemmas.{each-append, each_weaker, each_map}
use Rattle.smithy_query_codec.proofs.DistinctLemmas.{length_elements, length_entries}
use Rattle.smithy_query_codec.proofs.SegmentLemmas.{IsNameText, name_text, decimal_text}

-- each byte of its path can stand in a name, and each of its text is a byte
abbrev pub IsReadableLeaf : Leaf → Type 0
IsReadableLeaf l = AllByRecursion IsNameText l.path × All IsByte l.text

abbrev AreReadable : List Leaf → Type 0
AreReadable ls = AllByRecursion IsReadableLeaf ls

readable_under : (p : Path) (ls : List Leaf) → AllByRecursion IsNameText p → AreReadable ls → AreReadable (under p ls)
readable_under p ls hp h =
    each_map IsReadableLeaf (λ (l : Leaf). record l { path = p ++ l.path }) ls
    (each_weaker IsReadableLeaf (λ (l : Leaf). AllByRecursion IsNameText (p ++ l.path) × All IsByte l.text) (λ l hl. (each-append IsNameText p l.path hp hl.0, hl.1)) ls h)

readable_numbered : (i : ℕ) (parts : List (List Leaf)) → i + length parts ≤ 18446744073709551616 → AllByRecursion AreReadable parts → AreReadable (numbered i parts)
readable_numbered i [] small h = tt
readable_numbered i (ls ∷ parts) small h =
    let more : suc i + length parts ≤ 18446744073709551616 = omega (arith, small) in
    each-append IsReadableLeaf (under (decimal i ∷ []) ls) (numbered (suc i) parts)
    (readable_under (decimal i ∷ []) ls (decimal_text i (omega (arith, small)), tt) h.0) (readable_numbered (suc i) parts more h.1)

readable_or_empty : (stand : MemberRole) (ls : List Leaf) → AreReadable ls → AreReadable (or_empty stand ls)
readable_or_empty neither ls h = h
readable_or_empty member [] h = ((tt, All-nil IsByte), tt)
readable_or_empty member (l ∷ ls) h = h
readable_or_empty flat_member [] h = ((tt, All-nil IsByte), tt)
readable_or_empty flat_member (l ∷ ls) h = h

inner_is_cut : (stand : MemberRole) (name : List ℕ) → IsNameText name → AllByRecursion IsNameText (inner_path stand name)
inner_is_cut flat_member name h = tt
inner_is_cut member name h = (h, tt)
inner_is_cut neither name h = (h, tt)

name_is_cut : (o : Option (List ℕ)) (name : List ℕ) → o ≡ Some name → is_query_name name ≡ true → AllByRecursion IsNameText (option_to_list o)
name_is_cut o name is fit = rw is (name_text name fit, tt)

entry_is_cut : IsNameText (codes "entry")
entry_is_cut = (refl, (refl, (refl, (refl, (refl, tt)))))

mutual
  pub leaves_readable : (site : Site) (stand : MemberRole) (v : Value) → HasForm site v → HasBytes v → AreReadable (leaves site stand v)
  leaves_readable site stand (scalar_value x) h b = ((tt, b (form_at site)), tt)
  leaves_readable site stand null_element h b = tt
  leaves_readable site stand (document_value d) h b = tt
  leaves_readable site stand (list vs) h b =
      let small : 1 + length (element_leaves (element_of site) vs) ≤ 18446744073709551616 = omega (arith, h.1, length_elements (element_of site) vs) in
      readable_or_empty stand _
      (readable_under (inner_path stand (element_name site)) _ (inner_is_cut stand (element_name site) (name_text (element_name site) h.0))
      (readable_numbered 1 (element_leaves (element_of site) vs) small (elements_readable (element_of site) vs h.2 b)))
  leaves_readable site stand (map es) h b =
      let parts = entry_leaves (key_name site) (value_name site) (value_of site) es in
      let small : 1 + length parts ≤ 18446744073709551616 = omega (arith, h.1, length_entries (key_name site) (value_name site) (value_of site) es) in
      readable_under (inner_path stand (codes "entry")) _ (inner_is_cut stand (codes "entry") entry_is_cut)
      (readable_numbered 1 parts small
      (entries_readable (key_name site) (value_name site) (value_of site) es (name_text (key_name site) h.0.key_fits) (name_text (value_name site) h.0.value_fits) h.2 b))
  leaves_readable site stand (structure ms) h b = members_readable site ms h b
  leaves_readable site stand (union n v) h b =
      readable_under (option_to_list (query_name (member_of site n).view)) _ (name_is_cut _ h.0.0 h.0.1 h.0.2)
      (leaves_readable (member_of site n) (role_of (member_of site n).view) v h.2 b)

  elements_readable : (site : Site) (vs : Values) → ElementsHaveForm site vs → ElementsHaveBytes vs → AllByRecursion AreReadable (element_leaves site vs)
  elements_readable site no_values h b = tt
  elements_readable site (value v vs) h b = (leaves_readable site neither v h.0 b.0, elements_readable site vs h.1 b.1)

  entries_readable : (keys vals : List ℕ) (site : Site) (es : MapEntries) → IsNameText keys → IsNameText vals → EntriesHaveForm site es → EntriesHaveBytes es
      → AllByRecursion AreReadable (entry_leaves keys vals site es)
  entries_readable keys vals site no_map_entries hk hv h b = tt
  entries_readable keys vals site (map_entry key v es) hk hv h b = (
    (((hk, tt), b.0), readable_under (vals ∷ []) (leaves site neither v) (hv, tt) (leaves_readable site neither v h.0 b.1)),
    entries_readable keys vals site es hk hv h.1 b.2,
  )

  members_readable : (site : Site) (ms : MemberValues) → MembersHaveForm site ms → MembersHaveBytes ms → AreReadable (member_leaves site ms)
  members_readable site no_member_values h b = tt
  members_readable site (member_value n v ms) h b =
      let o = query_name (member_of site n).view in
      let ls = leaves (member_of site n) (role_of (member_of site n).view) v in
      each-append IsReadableLeaf (under (option_to_list o) ls) (member_leaves site ms)
      (readable_under (option_to_list o) ls (name_is_cut o h.0.0 h.0.1 h.0.2) (leaves_readable (member_of site n) (role_of (member_of site n).view) v h.2 b.0))
      (members_readable site ms h.3 b.1)
