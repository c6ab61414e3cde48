-- What the reading of a map, and the loop over its entries, know at their places.
use Rattle.std.proofs.Common.{◌≡◌, ◌≢◌, ◌<◌, ◌≤◌, ◌+◌, ℕ, suc, List, [], ◌∷◌, length, decimal, codes, String, Global, string_bytes, IsUtf8, true, false, Option, Some, None, refl, sym, ◌∙◌, ap, subst, arith}
use Rattle.std.specs.BTreeMap.{insert_entry}
use Rattle.smithy_declarations.specs.Table.{IsMap}
use Rattle.smithy_declarations.specs.Value.{Value, map, MapEntries, no_map_entries, map_entry}
use Rattle.smithy_schema.specs.Writing.{entry_count}
use Rattle.smithy_shapes.specs.Accepted.{IsAccepted}
use Rattle.smithy_shapes.specs.Fits.{KeysAscend}
use Rattle.smithy_shapes.specs.Site.{Site, kind_at, value_of}
use Rattle.smithy_query_codec.specs.Leaves.{Leaf, leaf, neither, role_of, key_name, value_name}
use Rattle.smithy_value.specs.declared.value.Value as kept
use Rattle.smithy_value.specs.View.{view, view_entries}
use Rattle.smithy_form.specs.declared.entries.Entry.{Entry}
use Rattle.smithy_form.specs.declared.pairs.Pair.{Pair}
use Rattle.smithy_form.specs.Lookup.{inside, outside, text_at, AreSame}
use Rattle.smithy_form.specs.Plain.{HasEntry}
use Rattle.smithy_form.specs.Private.Entries.{IsEntry, FindsEntry}
use Rattle.smithy_form.specs.Private.Kept.{kept_leaves}
use Rattle.smithy_form.specs.Private.Names.{is_flat}
use Rattle.smithy_form.specs.Private.Reading.{TellHere, TellNothing, AreEntries, and_entry, last_key, comes_after, limit}
use Rattle.smithy_form.proofs.HalfEntries.{HalfEntries, begun_entries, one_more, entry_due, all_entries}
use Rattle.smithy_form.proofs.KeptMaps.{key_order, ascend_more, comes_last, last_is, last_entry, counted}
use Rattle.smithy_form.proofs.ListAnswers.{flat_role, not_flat, AreInside, none_beside, some_beside, some_inside}
use Rattle.smithy_form.proofs.LookupLemmas.{is_none}
use Rattle.smithy_form.proofs.PartAnswers.{some_kept, length_kept}
use Rattle.smithy_form.proofs.PartSites.{entry_names_apart}
use Rattle.smithy_form.proofs.ReadLemmas.{map_made, flat_map_made, map_told}
use Rattle.smithy_form.proofs.Splits.{length_split}

-- ---- maps

has_entry : (keys vals : List ℕ) (site : Site) (left : ℕ) (ls : List Leaf) (es : MapEntries) → ls ≢ [] → AreEntries keys vals site left ls es → HasEntry es
has_entry keys vals site left ls no_map_entries some are = some (is_none ls are.same)
has_entry keys vals site left ls (map_entry key v es) some are = tt

module _ (site : Site) (left at : ℕ) (pairs : List Pair) (kind : IsMap (kind_at site)) (accepted : IsAccepted site.table) (some : pairs ≢ []) where
  abbrev Are : List Leaf → MapEntries → Type 0
  Are ls es = AreEntries (key_name site) (value_name site) (value_of site) left ls es

  -- the entries of a flat map
  pub flat_read : is_flat (role_of site.view) ≡ true → (es : MapEntries) → Are (kept_leaves at pairs) es → TellHere site (suc left) (kept_leaves at pairs) (map es)
  flat_read flat es are =
      flat_map_made site (entry_names_apart site accepted kind) left (kept_leaves at pairs) kind es
      (has_entry (key_name site) (value_name site) (value_of site) left (kept_leaves at pairs) es (some_kept at pairs some) are) (flat_role (role_of site.view) flat) are

  pub flat_refused : is_flat (role_of site.view) ≡ true → ((ws : MapEntries) → Are (kept_leaves at pairs) ws → ⊥) → TellNothing site (suc left) (kept_leaves at pairs)
  flat_refused flat nothing v told =
      let m = map_told site (entry_names_apart site accepted kind) left (kept_leaves at pairs) kind v told in nothing m.0 (m.3 (flat_role (role_of site.view) flat))

  module _ (next : ℕ) (found : List Pair) (under : AreInside (codes "entry") at pairs next found) where
    -- those of a map that isn't flat
    pub named_read : is_flat (role_of site.view) ≡ false → length pairs ≤ length found → (es : MapEntries) → Are (kept_leaves next found) es
        → TellHere site (suc left) (kept_leaves at pairs) (map es)
    named_read plain all es are =
        let here = subst (λ ls. Are ls es) under.is are in
        map_made site (entry_names_apart site accepted kind) left (kept_leaves at pairs) kind es
        (has_entry (key_name site) (value_name site) (value_of site) left (inside (codes "entry") (kept_leaves at pairs)) es
        (some_inside (codes "entry") at pairs next found under some all) here) (not_flat (role_of site.view) plain)
        (none_beside (codes "entry") at pairs next found under all) here

    pub named_refused : is_flat (role_of site.view) ≡ false → ((ws : MapEntries) → Are (kept_leaves next found) ws → ⊥) → TellNothing site (suc left) (kept_leaves at pairs)
    named_refused plain nothing v told =
        let m = map_told site (entry_names_apart site accepted kind) left (kept_leaves at pairs) kind v told in
        nothing m.0 (subst (λ ls. Are ls m.0) (sym under.is) (m.4 (not_flat (role_of site.view) plain)).1)

    pub entries_beside : is_flat (role_of site.view) ≡ false → length found < length pairs → TellNothing site (suc left) (kept_leaves at pairs)
    entries_beside plain fewer v told =
        let m = map_told site (entry_names_apart site accepted kind) left (kept_leaves at pairs) kind v told in
        some_beside (codes "entry") at pairs next found under fewer (m.4 (not_flat (role_of site.view) plain)).0

-- ---- entries

-- an entry that was found by the names and the number as the program has them
pub finds_here : (keys vals key_name value_name : List ℕ) (number n : ℕ) (ls : List Leaf) (o : Option Entry) → key_name ≡ keys → value_name ≡ vals → number ≡ n
    → FindsEntry key_name value_name (inside (decimal number) ls) o → FindsEntry keys vals (inside (decimal n) ls) o
finds_here keys vals key_name value_name number n ls o key value same found =
    subst (λ k. FindsEntry k vals (inside (decimal n) ls) o) key
    (subst (λ v. FindsEntry key_name v (inside (decimal n) ls) o) value
    (subst (λ (m : ℕ). FindsEntry key_name value_name (inside (decimal m) ls) o) same found))

-- it has pairs
pub has_pairs : (keys vals : List ℕ) (ls : List Leaf) (e : Entry) → IsEntry keys vals ls e → 0 < e.count
has_pairs keys vals ls e found = by ls found.key found.counted
  where
    by : (xs : List Leaf) → inside keys xs ≡ leaf e.key.now ∷ [] → e.count ≡ length xs → 0 < e.count
    by [] is c = absurd (let no : [] ≡ leaf e.key.now ∷ [] = is in cc)
    by (x ∷ xs) is c = omega (arith, c)

-- so many pairs were taken by these entries, and this is the last key
abbrev pub Half : List ℕ → List ℕ → Site → ℕ → List Leaf → List (String Global × kept.Value) → ℕ → Option (List ℕ) → Type 0
Half keys vals site left ls items taken before =
    ((rest : List Leaf) × HalfEntries keys vals site left ls (view_entries items) taken rest) × (length items ≤ taken) × (last_key None (view_entries items) ≡ before)

pub begun : (keys vals : List ℕ) (site : Site) (left : ℕ) (ls : List Leaf) (items : List (String Global × kept.Value)) → items ≡ [] → Half keys vals site left ls items 0 None
begun keys vals site left ls items none =
    subst (λ (xs : List (String Global × kept.Value)). Half keys vals site left ls xs 0 None) (sym none) ((ls, begun_entries keys vals site left ls), omega arith, refl)

module _ (keys vals : List ℕ) (site : Site) (left at : ℕ) (pairs : List Pair) (items : List (String Global × kept.Value)) (taken : ℕ) (before : Option (List ℕ))
    (half : Half keys vals site left (kept_leaves at pairs) items taken before) (few : length pairs < limit) where
  -- all pairs were taken
  pub entries_read : length pairs ≤ taken → AreEntries keys vals site left (kept_leaves at pairs) (view_entries items)
  entries_read all =
      let l = length_kept at pairs in
      let c = counted items in
      let b = half.1 in
      let f = few in
      let h = half.0.1.counted in
      all_entries keys vals site left (kept_leaves at pairs) (view_entries items) taken half.0.0 half.0.1 (omega (arith, l, c, b, f, h)) (omega (arith, all, l))

  module _ (apart : keys ≢ vals) (nameless : role_of site.view ≡ neither) (more_left : taken < length pairs) where
    abbrev here : List Leaf
    here = inside (decimal (suc (length items))) (kept_leaves at pairs)

    here_is : inside (decimal (suc (entry_count (view_entries items)))) (kept_leaves at pairs) ≡ here
    here_is = ap (λ n. inside (decimal (suc n)) (kept_leaves at pairs)) (counted items)

    small : suc (entry_count (view_entries items)) < limit
    small = let c = counted items in let b = more_left in let f = few in let h = half.1 in omega (arith, c, b, f, h)

    before_leaves : taken < length (kept_leaves at pairs)
    before_leaves = let b = more_left in let l = length_kept at pairs in omega (arith, b, l)

    -- what is found where entries have these leaves
    due : (ws : MapEntries) → AreEntries keys vals site left (kept_leaves at pairs) ws
        → (key : List ℕ) × (w : Value) × AreSame (inside keys here) (leaf key ∷ []) × TellHere site left (inside vals here) w
        × (inside vals here ≢ []) × (length here ≡ length (inside keys here) + length (inside vals here)) × ((v : Value) → KeysAscend (and_entry (view_entries items) key v))
    due ws are =
        subst (λ xs. (key : List ℕ) × (w : Value) × AreSame (inside keys xs) (leaf key ∷ []) × TellHere site left (inside vals xs) w
        × (inside vals xs ≢ []) × (length xs ≡ length (inside keys xs) + length (inside vals xs)) × ((v : Value) → KeysAscend (and_entry (view_entries items) key v))) here_is
        (entry_due keys vals apart site left (kept_leaves at pairs) (view_entries items) taken half.0.0 half.0.1 nameless small before_leaves ws are)

    -- there is no entry of the number
    pub no_entry : FindsEntry keys vals here None → (ws : MapEntries) → AreEntries keys vals site left (kept_leaves at pairs) ws → ⊥
    no_entry none ws are = let d = due ws are in none d.0 d.2 d.4 d.5

    module _ (e : Entry) (found : IsEntry keys vals here e) where
      -- with it no more leaves are taken than there are
      pub taken_within : taken + e.count ≤ length pairs
      taken_within =
          let number = decimal (suc (entry_count (view_entries items))) in
          let is = half.0.1.later (suc (entry_count (view_entries items))) (omega arith) small in
          let split = length_split number half.0.0 in
          let same = ap length (is ∙ here_is) in
          let c = found.counted in
          let h = half.0.1.counted in
          let l = length_kept at pairs in omega (arith, split, same, c, h, l)

      -- its key isn't above the one before
      pub not_above : comes_after before e.key.now ≡ false → (ws : MapEntries) → AreEntries keys vals site left (kept_leaves at pairs) ws → ⊥
      not_above low ws are =
          let d = due ws are in
          let same : Some e.key.now ≡ Some d.0 = sym (ap (text_at []) found.key) ∙ d.2 [] in
          let key : e.key.now ≡ d.0 = cc in
          let high = comes_last d.0 d.1 (view_entries items) (d.6 d.1) in
          let no : true ≡ false = sym high ∙ ap (λ b. comes_after b d.0) half.2 ∙ ap (comes_after before) (sym key) ∙ low in cc

      -- its value was refused
      pub refused : TellNothing site left (kept_leaves e.at e.values.now) → (ws : MapEntries) → AreEntries keys vals site left (kept_leaves at pairs) ws → ⊥
      refused nothing ws are = let d = due ws are in nothing d.1 (subst (λ ls. TellHere site left ls d.1) (sym found.values) d.3)

      -- it was read
      pub more : comes_after before e.key.now ≡ true → (key : String Global) (v : kept.Value) → string_bytes key ≡ e.key.now → TellHere site left (kept_leaves e.at e.values.now) (view v)
          → Half keys vals site left (kept_leaves at pairs) (insert_entry key_order items key v) (taken + e.count) (Some e.key.now)
      more above key v text told =
          let ls = kept_leaves at pairs in
          let es = view_entries items in
          let bytes = string_bytes key in
          let after : comes_after (last_key None es) bytes ≡ true = ap (λ b. comes_after b bytes) half.2 ∙ ap (comes_after before) text ∙ above in
          let all : and_entry es bytes (view v) ≡ view_entries (insert_entry key_order items key v) = sym (last_entry key v items half.0.1.ascend after) in
          let key_is : inside keys here ≡ leaf bytes ∷ [] = found.key ∙ ap (λ t. leaf t ∷ []) (sym text) in
          let full : inside vals here ≢ [] = λ none. some_kept e.at e.values.now found.full (found.values ∙ none) in
          let value = subst (λ xs. TellHere site left xs (view v)) found.values told in
          let size : length here ≤ length (inside keys here) + length (inside vals here) = let k = ap length key_is in let a = found.all in omega (arith, k, a) in
          let one =
          one_more keys vals apart site left ls es taken half.0.0 half.0.1 nameless small bytes (view v) before_leaves (subst IsUtf8 (sym text) found.text)
          (ascend_more bytes (view v) es half.0.1.ascend after)
          (subst (λ xs. inside keys xs ≡ leaf bytes ∷ []) (sym here_is) key_is) (subst (λ xs. inside vals xs ≢ []) (sym here_is) full)
          (subst (λ xs. TellHere site left (inside vals xs) (view v)) (sym here_is) value)
          (subst (λ xs. length xs ≤ length (inside keys xs) + length (inside vals xs)) (sym here_is) size) in
          let count : length (inside (decimal (suc (entry_count es))) ls) ≡ e.count = ap length here_is ∙ sym found.counted in
          let rest = outside (decimal (suc (entry_count es))) half.0.0 in
          let longer : length (insert_entry key_order items key v) ≡ suc (length items) = sym (counted (insert_entry key_order items key v)) ∙ ap entry_count (sym all) ∙ one_longer es bytes (view v) ∙ ap suc (counted items) in
          let some = has_pairs keys vals here e found in
          let short = half.1 in (
            (
              rest,
              subst (λ xs. HalfEntries keys vals site left ls xs (taken + e.count) rest) all
                  (subst (λ n. HalfEntries keys vals site left ls (and_entry es bytes (view v)) (taken + n) rest) count one),
            ),
            omega (arith, longer, some, short),
            ap (last_key None) (sym all) ∙ last_is None bytes (view v) es ∙ ap Some text,
          )
        where
          one_longer : (es : MapEntries) (k : List ℕ) (w : Value) → entry_count (and_entry es k w) ≡ suc (entry_count es)
          one_longer no_map_entries k w = refl
          one_longer (map_entry j u es) k w = ap suc (one_longer es k w)
