-- What is known of the pairs that are found for an entry of a map.
use Rattle.std.proofs.Common.{◌≡◌, ◌≢◌, ◌<◌, ◌≤◌, ◌+◌, ℕ, List, [], ◌∷◌, length, Some, None, IsUtf8, sym, ◌∙◌, ap, subst, arith}
use Rattle.smithy_query_codec.specs.Leaves.{Leaf, leaf}
use Rattle.smithy_form.specs.declared.entries.Entry.{Entry}
use Rattle.smithy_form.specs.declared.pairs.Pair.{Pair}
use Rattle.smithy_form.specs.Lookup.{inside, AreSame}
use Rattle.smithy_form.specs.Private.Entries.{TellsText, IsEntry, FindsEntry}
use Rattle.smithy_form.specs.Private.Kept.{kept_leaves}
use Rattle.smithy_form.specs.Private.Order.{LeavesAscend}
use Rattle.smithy_form.proofs.PartAnswers.{none_kept, length_kept}

-- no pairs stand under the name
pub no_text : (name : List ℕ) (ls : List Leaf) (next : ℕ) (found : List Pair) → kept_leaves next found ≡ inside name ls → length found ≡ 0 → TellsText name ls None
no_text name ls next found is none t same =
    let empty : inside name ls ≡ [] = sym is ∙ none_kept next found none in
    let no : None ≡ Some t = subst (λ xs. AreSame xs (leaf t ∷ [])) empty same [] in cc

-- those that do aren't one text
pub no_text_alone : (name : List ℕ) (ls part : List Leaf) → part ≡ inside name ls → ((t : List ℕ) → AreSame part (leaf t ∷ []) → ⊥) → TellsText name ls None
no_text_alone name ls part is none t same = none t (subst (λ xs. AreSame xs (leaf t ∷ [])) (sym is) same)

-- they are the one text
pub text_alone : (name : List ℕ) (ls part : List Leaf) (t text : List ℕ) → part ≡ inside name ls → part ≡ leaf t ∷ [] → text ≡ t → IsUtf8 text → TellsText name ls (Some text)
text_alone name ls part t text is one same utf8 = (sym is ∙ one ∙ ap (λ u. leaf u ∷ []) (sym same), utf8)

module _ (keys vals : List ℕ) (ls : List Leaf) (next : ℕ) (entry : List Pair) (is : kept_leaves next entry ≡ ls) where
  size : length ls ≡ length entry
  size = sym (ap length is) ∙ length_kept next entry

  -- no pairs have the number
  pub no_pairs : length entry ≡ 0 → FindsEntry keys vals ls None
  no_pairs none key one full all = full (ap (inside vals) (sym is ∙ none_kept next entry none))

  -- the key doesn't stand alone under its name
  pub no_key : TellsText keys (kept_leaves next entry) None → FindsEntry keys vals ls None
  no_key none key one full all = subst (λ xs. TellsText keys xs None) is none key one

  module _ (deep : ℕ) (values : List Pair) (value_is : kept_leaves deep values ≡ inside vals (kept_leaves next entry)) where
    values_are : kept_leaves deep values ≡ inside vals ls
    values_are = value_is ∙ ap (inside vals) is

    value_size : length (inside vals ls) ≡ length values
    value_size = sym (ap length values_are) ∙ length_kept deep values

    -- the value has no pairs
    pub no_value : length values ≡ 0 → FindsEntry keys vals ls None
    no_value none key one full all = full (sym values_are ∙ none_kept deep values none)

    -- there are other pairs
    pub others : (text : List ℕ) → TellsText keys (kept_leaves next entry) (Some text) → length values + 1 < length entry → FindsEntry keys vals ls None
    others text told more key one full all =
        let key_is : inside keys ls ≡ leaf text ∷ [] = sym (ap (inside keys) is) ∙ told.0 in
        let k = ap length key_is in
        let v = value_size in
        let s = size in omega (arith, k, v, s, more, all)

pub entry_there : (keys vals : List ℕ) (ls : List Leaf) (next : ℕ) (entry : List Pair) → kept_leaves next entry ≡ ls → (e : Entry) → TellsText keys (kept_leaves next entry) (Some e.key.now)
    → kept_leaves e.at e.values.now ≡ inside vals (kept_leaves next entry) → LeavesAscend (kept_leaves e.at e.values.now) → e.values.now ≢ [] → length entry ≤ length e.values.now + 1
    → e.count ≡ length entry → IsEntry keys vals ls e
entry_there keys vals ls next entry is e told value_is sorted full few counted =
    let values_are : kept_leaves e.at e.values.now ≡ inside vals ls = value_is ∙ ap (inside vals) is in
    let s = sym (ap length is) ∙ length_kept next entry in
    let v = sym (ap length values_are) ∙ length_kept e.at e.values.now in record {
      key = sym (ap (inside keys) is) ∙ told.0;
      text = told.1;
      values = values_are;
      full = full;
      sorted = sorted;
      all = omega (arith, s, v, few);
      counted = omega (arith, counted, s);
    }
