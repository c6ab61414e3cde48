-- What is found of an entry of a map.
use Rattle.std.specs.Prelude.{◌≡◌, ◌≢◌, ◌≤◌, ◌+◌, ℕ, suc, List, [], ◌∷◌, length, Option, Some, None, IsUtf8}
use Rattle.smithy_query_codec.specs.Leaves.{Leaf, leaf}
use Rattle.smithy_form.specs.declared.entries.Entry.{Entry}
use Rattle.smithy_form.specs.Lookup.{inside, AreSame}
use Rattle.smithy_form.specs.Private.Kept.{kept_leaves}
use Rattle.smithy_form.specs.Private.Order.{LeavesAscend}

-- the text of the only leaf under this name, or that there is none
abbrev pub TellsText : List ℕ → List Leaf → Option (List ℕ) → Type 0
TellsText name ls (Some t) = (inside name ls ≡ leaf t ∷ []) × IsUtf8 t
TellsText name ls None = (t : List ℕ) → AreSame (inside name ls) (leaf t ∷ []) → ⊥

-- the key is the only leaf under its name, the value has leaves under its own, and there are no others
pub record IsEntry (keys vals : List ℕ) (ls : List Leaf) (e : Entry) : Type 0 where
  pub key : inside keys ls ≡ leaf e.key.now ∷ []
  pub text : IsUtf8 e.key.now
  pub values : kept_leaves e.at e.values.now ≡ inside vals ls
  pub full : e.values.now ≢ []
  pub sorted : LeavesAscend (kept_leaves e.at e.values.now)
  pub all : length ls ≤ suc (length (inside vals ls))
  pub counted : e.count ≡ length ls

-- the entry that these leaves are, or that they are none
abbrev pub FindsEntry : List ℕ → List ℕ → List Leaf → Option Entry → Type 0
FindsEntry keys vals ls (Some e) = IsEntry keys vals ls e
FindsEntry keys vals ls None =
    (key : List ℕ) → AreSame (inside keys ls) (leaf key ∷ []) → inside vals ls ≢ []
    → length ls ≡ length (inside keys ls) + length (inside vals ls) → ⊥
