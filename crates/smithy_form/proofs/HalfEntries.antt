-- The entries of a map that is half read.
use Rattle.std.proofs.Common.{◌≡◌, ◌≢◌, ◌<◌, ◌≤◌, ◌+◌, ℕ, suc, List, [], ◌∷◌, ◌++◌, length, decimal, refl, sym, ◌∙◌, ap, subst, arith, append_assoc, IsUtf8}
use Rattle.std.proofs.lemmas.Fmt.{decimal_injective}
use Rattle.std.proofs.lemmas.List.{append-nil}
use Rattle.smithy_declarations.specs.Value.{Value, MapEntries, no_map_entries, map_entry, nesting, entries_nesting}
use Rattle.smithy_shapes.specs.Fits.{KeysAscend, KeysAscendAbove}
use Rattle.smithy_shapes.specs.Site.{Site}
use Rattle.smithy_schema.specs.Writing.{entry_count}
use Rattle.smithy_query_codec.specs.Leaves.{Leaf, leaf, neither, role_of, under, numbered, entry_part, leaves, entry_leaves}
use Rattle.smithy_query_codec.proofs.DistinctLemmas.{length_entries}
use Rattle.smithy_form.specs.Lookup.{inside, outside, text_at, AreSame}
use Rattle.smithy_form.specs.Private.Whole.{IsWhole, WholeEntries}
use Rattle.smithy_form.specs.Private.Reading.{TellHere, before_entries, and_entry, AreEntries}
use Rattle.smithy_form.proofs.LookupLemmas.{is_none, none_is, same_inside, inside_other}
use Rattle.smithy_form.proofs.PartLemmas.{inside_first, none_later, entry_same}
use Rattle.smithy_form.proofs.Splits.{length_split, others_stay, part_again, outside_same, rest_again, same_behind}
use Rattle.smithy_form.proofs.UniqueValues.{same_value}
use Rattle.smithy_form.specs.Private.Reading.{limit}
use Rattle.smithy_form.proofs.HalfElements.{numbered_more}

no_length : (xs : List Leaf) → length xs ≤ 0 → xs ≡ []
no_length [] h = refl
no_length (x ∷ xs) h = absurd (omega (arith, h))

-- ---- one entry

module _ (keys vals : List ℕ) (apart : keys ≢ vals) (ls : List Leaf) where
  -- its leaves are its key and those of its value, where there are no others
  pub entry_made : (key : List ℕ) (ms : List Leaf) → inside keys ls ≡ leaf key ∷ [] → AreSame (inside vals ls) ms → length ls ≤ length (inside keys ls) + length (inside vals ls)
      → AreSame ls (entry_part keys vals key ms)
  entry_made key ms is same all =
      let rest = outside keys ls in
      let values : inside vals rest ≡ inside vals ls = others_stay keys vals ls (λ e. apart (sym e)) in
      let none : outside vals rest ≡ [] =
      no_length (outside vals rest)
      (let a = length_split keys ls in let b = length_split vals rest in let c = ap length values in omega (arith, a, b, c, all)) in
      let first = part_again keys ls (leaf key ∷ []) (λ p. ap (text_at p) is) in
      let second = part_again vals rest ms (subst (λ x. AreSame x ms) (sym values) same) in
      λ p. first p ∙ same_behind (under (keys ∷ []) (leaf key ∷ [])) rest (under (vals ∷ []) ms ++ outside vals rest) second p
      ∙ ap (text_at p) (ap (λ r. under (keys ∷ []) (leaf key ∷ []) ++ r) (ap (λ r. under (vals ∷ []) ms ++ r) none ∙ append-nil (under (vals ∷ []) ms)))

  -- and so they are where they are those of an entry
  pub entry_told : (key : List ℕ) (ms : List Leaf) → AreSame ls (entry_part keys vals key ms)
      → AreSame (inside keys ls) (leaf key ∷ []) × AreSame (inside vals ls) ms × (length ls ≡ length (inside keys ls) + length (inside vals ls))
  entry_told key ms same =
      let rest = outside keys ls in
      let none = inside_other keys vals [] ms apart in
      let first : AreSame (inside keys ls) (leaf key ∷ []) =
      subst (λ b. AreSame (inside keys ls) b) (inside_first keys (leaf key ∷ []) (under (vals ∷ []) ms) none) (same_inside keys ls (entry_part keys vals key ms) same) in
      let more : AreSame rest (under (vals ∷ []) ms) = λ p. outside_same keys ls (entry_part keys vals key ms) same p ∙ rest_again keys (leaf key ∷ []) (under (vals ∷ []) ms) none p in
      let more_nil : AreSame rest (under (vals ∷ []) ms ++ []) = subst (λ b. AreSame rest b) (sym (append-nil (under (vals ∷ []) ms))) more in
      let values : inside vals rest ≡ inside vals ls = others_stay keys vals ls (λ e. apart (sym e)) in
      let second : AreSame (inside vals ls) ms =
      subst (λ a. AreSame a ms) values
      (subst (λ b. AreSame (inside vals rest) b) (inside_first vals ms [] refl) (same_inside vals rest (under (vals ∷ []) ms ++ []) more_nil)) in
      let empty : outside vals rest ≡ [] = is_none (outside vals rest) (λ p. outside_same vals rest (under (vals ∷ []) ms ++ []) more_nil p ∙ rest_again vals ms [] refl p) in
      (first, second, (let a = length_split keys ls in let b = length_split vals rest in let c = ap length values in let d = ap length empty in omega (arith, a, b, c, d)))

-- ---- entries in turn

entries_more : (keys vals : List ℕ) (site : Site) (es : MapEntries) (key : List ℕ) (v : Value)
    → entry_leaves keys vals site (and_entry es key v) ≡ entry_leaves keys vals site es ++ entry_part keys vals key (leaves site neither v) ∷ []
entries_more keys vals site no_map_entries key v = refl
entries_more keys vals site (map_entry k w es) key v = ap (λ r. entry_part keys vals k (leaves site neither w) ∷ r) (entries_more keys vals site es key v)

whole_more : (site : Site) (es : MapEntries) (key : List ℕ) (v : Value) → WholeEntries site es → IsUtf8 key → leaves site neither v ≢ [] → IsWhole site v → WholeEntries site (and_entry es key v)
whole_more site no_map_entries key v h text full whole = (text, full, whole, tt)
whole_more site (map_entry k w es) key v h text full whole = (h.0, h.1, h.2, whole_more site es key v h.3 text full whole)

nests_more : (left : ℕ) (es : MapEntries) (key : List ℕ) (v : Value) → entries_nesting es ≤ left → nesting v ≤ left → entries_nesting (and_entry es key v) ≤ left
nests_more left no_map_entries key v h deep = omega (arith, deep)
nests_more left (map_entry k w es) key v h deep = let more = nests_more left es key v (omega (arith, h)) deep in omega (arith, h, more)

count_more : (es : MapEntries) (key : List ℕ) (v : Value) → entry_count (and_entry es key v) ≡ suc (entry_count es)
count_more no_map_entries key v = refl
count_more (map_entry k w es) key v = ap suc (count_more es key v)

before_more : (es : MapEntries) (key : List ℕ) (v : Value) (us : MapEntries) → before_entries (and_entry es key v) us ≡ before_entries es (map_entry key v us)
before_more no_map_entries key v us = refl
before_more (map_entry k w es) key v us = ap (map_entry k w) (before_more es key v us)

others_whole : (site : Site) (es us : MapEntries) → WholeEntries site (before_entries es us) → WholeEntries site us
others_whole site no_map_entries us h = h
others_whole site (map_entry k w es) us h = others_whole site es us h.3

others_count : (es us : MapEntries) → entry_count (before_entries es us) ≡ entry_count es + entry_count us
others_count no_map_entries us = omega arith
others_count (map_entry k w es) us = let more = others_count es us in omega (arith, more)

others_nest : (left : ℕ) (es us : MapEntries) → entries_nesting (before_entries es us) ≤ left → entries_nesting us ≤ left
others_nest left no_map_entries us h = h
others_nest left (map_entry k w es) us h = others_nest left es us (omega (arith, h))

-- keys that ascend with others behind them ascend up to there
above_front : (at : List ℕ) (es : MapEntries) (key : List ℕ) (v w : Value) (us : MapEntries) → KeysAscendAbove at (before_entries es (map_entry key w us)) → KeysAscendAbove at (and_entry es key v)
above_front at no_map_entries key v w us h = (h.0, tt)
above_front at (map_entry k x es) key v w us h = (h.0, above_front k es key v w us h.1)

pub ascend_front : (es : MapEntries) (key : List ℕ) (v w : Value) (us : MapEntries) → KeysAscend (before_entries es (map_entry key w us)) → KeysAscend (and_entry es key v)
ascend_front no_map_entries key v w us h = tt
ascend_front (map_entry k x es) key v w us h = above_front k es key v w us h

module _ (keys vals : List ℕ) (site : Site) (left : ℕ) (ls : List Leaf) where
  -- so many leaves are taken by these entries, and the rest is left
  pub record HalfEntries (es : MapEntries) (taken : ℕ) (rest : List Leaf) : Type 0 where
    pub counted : taken + length rest ≡ length ls
    pub whole : WholeEntries site es
    pub nests : entries_nesting es ≤ left
    pub ascend : KeysAscend es
    pub later : (j : ℕ) → entry_count es < j → j < limit → inside (decimal j) rest ≡ inside (decimal j) ls
    pub again : AreSame ls (numbered 1 (entry_leaves keys vals site es) ++ rest)
    pub others : (ws : MapEntries) → AreEntries keys vals site left ls ws → (us : MapEntries) × (ws ≡ before_entries es us) × AreSame rest (numbered (suc (entry_count es)) (entry_leaves keys vals site us))

  pub begun_entries : HalfEntries no_map_entries 0 ls
  begun_entries = record {
    counted = omega arith;
    whole = tt;
    nests = omega arith;
    ascend = tt;
    later = λ j after small. refl;
    again = λ p. refl;
    others = λ ws are. (ws, refl, are.same);
  }

  -- all leaves are taken
  pub all_entries : (es : MapEntries) (taken : ℕ) (rest : List Leaf) → HalfEntries es taken rest → 1 + entry_count es ≤ limit → length ls ≤ taken → AreEntries keys vals site left ls es
  all_entries es taken rest half few all =
      let none : rest ≡ [] = no_length rest (let c = half.counted in omega (arith, c, all)) in record {
        whole = half.whole;
        few = few;
        nests = half.nests;
        ascend = half.ascend;
        same = λ p. half.again p ∙ ap (text_at p) (ap (λ r. numbered 1 (entry_leaves keys vals site es) ++ r) none ∙ append-nil (numbered 1 (entry_leaves keys vals site es)));
      }

module _ (keys vals : List ℕ) (apart : keys ≢ vals) (site : Site) (left : ℕ) (ls : List Leaf) (es : MapEntries) (taken : ℕ) (rest : List Leaf)
    (half : HalfEntries keys vals site left ls es taken rest) (nameless : role_of site.view ≡ neither) (small : suc (entry_count es) < limit) where
  abbrev here : List ℕ
  here = decimal (suc (entry_count es))

  here_is : inside here rest ≡ inside here ls
  here_is = half.later (suc (entry_count es)) (omega arith) small

  -- entries that have these leaves have one more, where leaves are left
  next_is : taken < length ls → (ws : MapEntries) → AreEntries keys vals site left ls ws
      → (key : List ℕ) × (w : Value) × (more : MapEntries) × (ws ≡ before_entries es (map_entry key w more)) × WholeEntries site (map_entry key w more)
      × AreSame (inside here ls) (entry_part keys vals key (leaves site neither w)) × AreSame (outside here rest) (numbered (suc (suc (entry_count es))) (entry_leaves keys vals site more))
  next_is before ws are =
      let old = half.others ws are in
      let few : entry_count es + entry_count old.0 < limit = let c = ap entry_count old.1 in let d = others_count es old.0 in let f = are.few in omega (arith, c, d, f) in
      by old.0 old.1 (others_whole site es old.0 (subst (WholeEntries site) old.1 are.whole)) few old.2
    where
      by : (us : MapEntries) → ws ≡ before_entries es us → WholeEntries site us → entry_count es + entry_count us < limit → AreSame rest (numbered (suc (entry_count es)) (entry_leaves keys vals site us))
          → (key : List ℕ) × (w : Value) × (more : MapEntries) × (ws ≡ before_entries es (map_entry key w more)) × WholeEntries site (map_entry key w more)
          × AreSame (inside here ls) (entry_part keys vals key (leaves site neither w)) × AreSame (outside here rest) (numbered (suc (suc (entry_count es))) (entry_leaves keys vals site more))
      by no_map_entries is whole few same = absurd (let empty = ap length (is_none rest same) in let c = half.counted in omega (arith, empty, c, before))
      by (map_entry key w more) is whole few same =
          let part = entry_part keys vals key (leaves site neither w) in
          let xs = numbered (suc (suc (entry_count es))) (entry_leaves keys vals site more) in
          let none = none_later (suc (entry_count es)) (suc (suc (entry_count es))) (entry_leaves keys vals site more) (omega arith) (omega (arith, few, length_entries keys vals site more)) in (
            key,
            w,
            more,
            is,
            whole,
            subst (λ a. AreSame a part) here_is (subst (λ b. AreSame (inside here rest) b) (inside_first here part xs none) (same_inside here rest (under (here ∷ []) part ++ xs) same)),
            λ p. outside_same here rest (under (here ∷ []) part ++ xs) same p ∙ rest_again here part xs none p,
          )

  -- one more entry
  pub one_more : (key : List ℕ) (v : Value) → taken < length ls → IsUtf8 key → KeysAscend (and_entry es key v)
      → inside keys (inside here ls) ≡ leaf key ∷ [] → inside vals (inside here ls) ≢ [] → TellHere site left (inside vals (inside here ls)) v
      → length (inside here ls) ≤ length (inside keys (inside here ls)) + length (inside vals (inside here ls))
      → HalfEntries keys vals site left ls (and_entry es key v) (taken + length (inside here ls)) (outside here rest)
  one_more key v before text ascend key_is full told all =
      let same_v : AreSame (inside vals (inside here ls)) (leaves site neither v) = subst (λ r. AreSame (inside vals (inside here ls)) (leaves site r v)) nameless told.same in
      let part = entry_part keys vals key (leaves site neither v) in
      let made : AreSame (inside here ls) part = entry_made keys vals apart (inside here ls) key (leaves site neither v) key_is same_v all in
      let longer = count_more es key v in record {
        counted = let split = length_split here rest in let same = ap length here_is in let c = half.counted in omega (arith, split, same, c);
        whole = whole_more site es key v half.whole text (λ none. full (is_none (inside vals (inside here ls)) (subst (AreSame (inside vals (inside here ls))) none same_v))) told.whole;
        nests = nests_more left es key v half.nests told.nests;
        ascend = ascend;
        later = λ j after less.
            others_stay here (decimal j) rest (λ e. let is = decimal_injective j (suc (entry_count es)) less small e in omega (arith, is, after, longer))
            ∙ half.later j (omega (arith, after, longer)) less;
        again =
            let parts : numbered 1 (entry_leaves keys vals site (and_entry es key v)) ≡ numbered 1 (entry_leaves keys vals site es) ++ under (here ∷ []) part =
            ap (numbered 1) (entries_more keys vals site es key v) ∙ numbered_more 1 (entry_leaves keys vals site es) part
            ∙ ap (λ n. numbered 1 (entry_leaves keys vals site es) ++ under (decimal n ∷ []) part) (let n = length_entries keys vals site es in omega (arith, n)) in
            let split = part_again here rest part (subst (λ a. AreSame a part) (sym here_is) made) in
            let all_is : numbered 1 (entry_leaves keys vals site (and_entry es key v)) ++ outside here rest ≡ numbered 1 (entry_leaves keys vals site es) ++ (under (here ∷ []) part ++ outside here rest) =
            ap (λ r. r ++ outside here rest) parts ∙ append_assoc (numbered 1 (entry_leaves keys vals site es)) (under (here ∷ []) part) (outside here rest) in
            λ p. half.again p ∙ same_behind (numbered 1 (entry_leaves keys vals site es)) rest (under (here ∷ []) part ++ outside here rest) split p ∙ ap (text_at p) (sym all_is);
        others = λ ws are.
            let next = next_is before ws are in
            let entry = entry_same keys vals key next.0 (leaves site neither v) (leaves site neither next.1) apart (λ p. sym (made p) ∙ next.5 p) in
            let is : v ≡ next.1 = same_value site neither v next.1 told.whole next.4.2 entry.1 in (
              next.2,
              next.3 ∙ ap (before_entries es) (ap (λ k. map_entry k next.1 next.2) (sym entry.0) ∙ ap (λ x. map_entry key x next.2) (sym is)) ∙ sym (before_more es key v next.2),
              subst (λ n. AreSame (outside here rest) (numbered (suc n) (entry_leaves keys vals site next.2))) (sym longer) next.6,
            );
      }

  -- What is found where entries have these leaves: the key alone, and the leaves of a value of the site; each refusal contradicts it.
  pub entry_due : taken < length ls → (ws : MapEntries) → AreEntries keys vals site left ls ws
      → (key : List ℕ) × (w : Value) × AreSame (inside keys (inside here ls)) (leaf key ∷ []) × TellHere site left (inside vals (inside here ls)) w
      × (inside vals (inside here ls) ≢ []) × (length (inside here ls) ≡ length (inside keys (inside here ls)) + length (inside vals (inside here ls))) × ((v : Value) → KeysAscend (and_entry es key v))
  entry_due before ws are =
      let next = next_is before ws are in
      let parts = entry_told keys vals apart (inside here ls) next.0 (leaves site neither next.1) next.5 in
      let deep = others_nest left es (map_entry next.0 next.1 next.2) (subst (λ x. entries_nesting x ≤ left) next.3 are.nests) in (
        next.0,
        next.1,
        parts.0,
        record {
          whole = next.4.2;
          nests = omega (arith, deep);
          same = subst (λ r. AreSame (inside vals (inside here ls)) (leaves site r next.1)) (sym nameless) parts.1;
        },
        (λ none. next.4.1 (none_is (leaves site neither next.1) (subst (λ a. AreSame a (leaves site neither next.1)) none parts.1))),
        parts.2,
        (λ v. ascend_front es next.0 v next.1 next.2 (subst KeysAscend next.3 are.ascend)),
      )
