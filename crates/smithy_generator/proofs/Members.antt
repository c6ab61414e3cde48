-- Members and containers of JSON texts, by their parts.
use Rattle.std.proofs.Common.{◌≡◌, ℕ, List, [], ◌∷◌, ◌++◌, refl, sym, ap, append-nil, rules}
use Rattle.smithy_json_grammar.specs.Ascii.{quotation_mark, name_separator, value_separator, begin_object, end_object, space}
use Rattle.smithy_json_grammar.specs.Grammar.{IsPadded, IsMember, IsStringText, IsValue, AreMoreMembers}
use Rattle.smithy_json_grammar.specs.Tree.{Json, object, Members, member}

pub padded : (P : List ℕ → Type 0) (t : List ℕ) → P t → IsPadded P t
padded P t p = ([], t, [], sym (append-nil t), tt, p, tt)

pub after_space : (P : List ℕ → Type 0) (t : List ℕ) → P t → IsPadded P (space ∷ t)
after_space P t p = (space ∷ [], t, [], ap (λ u. space ∷ u) (sym (append-nil t)), search rules, p, tt)

-- a name, a colon and a value
abbrev pub named : List ℕ → List ℕ → List ℕ
named name value = quotation_mark ∷ (name ++ (quotation_mark ∷ (name_separator ∷ value)))

pub is_member : (P : List ℕ → Type 0) (name value : List ℕ) → IsStringText name → IsPadded P value → IsMember name P (named name value)
is_member P name value text v = ([], [], value, refl, tt, text, tt, v)

pub is_spaced_member : (P : List ℕ → Type 0) (name value : List ℕ) → IsStringText name → IsPadded P value → IsMember name P (space ∷ named name value)
is_spaced_member P name value text v = (space ∷ [], [], value, refl, search rules, text, tt, v)

-- what stands between the brackets
pub is_object : (name : List ℕ) (x : Json) (ms : Members) (first more bytes : List ℕ) → IsMember name (IsValue x) first → AreMoreMembers ms more
    → bytes ≡ begin_object ∷ ((first ++ more) ++ end_object ∷ []) → IsValue (object (member name x ms)) bytes
is_object name x ms first more bytes f m e = (first ++ more, e, (first, more, refl, f, m))

pub one_more : (name : List ℕ) (x : Json) (ms : Members) (first more : List ℕ) → IsMember name (IsValue x) first → AreMoreMembers ms more
    → AreMoreMembers (member name x ms) (value_separator ∷ (first ++ more))
one_more name x ms first more f m = (refl, (first, more, refl, f, m))
