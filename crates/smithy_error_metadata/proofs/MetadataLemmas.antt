-- Further values of an error's metadata, by their texts.
use Rattle.std.proofs.Common.{◌≡◌, ℕ, List, [], ◌∷◌, Option, Some, option_map, ◌&&◌, string_eq, cond, is_eq, String, Global, Ordering, Less, Equal, Greater, nat_cmp, string_bytes, string_cmp, refl, ap, ◌∙◌}
use Rattle.std.specs.BTreeMap.{insert_entry, is_at}
use Rattle.std.specs.Cmp.Lexicographic.{slice_cmp, pointwise}
use Rattle.std.specs.List.{AllZip}
use Rattle.std.specs.Map.{lookup}
use Rattle.std.specs.Ordering.{match_ordering}
use Rattle.smithy_error_metadata.specs.Metadata.{extra_under, texts_of, same_values, with_extra}

abbrev Entry : Type 0
Entry = String Global × String Global

by_order : (o : Ordering) (a b c : List Entry) → texts_of (match_ordering o a b c) ≡ match_ordering o (texts_of a) (texts_of b) (texts_of c)
by_order Less a b c = refl
by_order Equal a b c = refl
by_order Greater a b c = refl

-- what is inserted into the map is put among the texts
pub inserted_texts : (es : List Entry) (key value : String Global) → texts_of (insert_entry string_cmp es key value) ≡ with_extra (string_bytes key) (string_bytes value) (texts_of es)
inserted_texts [] key value = refl
inserted_texts (e ∷ es) key value = by_order (string_cmp key e.0) _ _ _ ∙ rw (inserted_texts es key value)

-- a value beside its text, where the order of two names decides
by_name : (o : Ordering) (v : String Global) (rest : Option (String Global)) → option_map string_bytes (cond (is_eq o) (Some v) rest) ≡ cond (is_eq o) (Some (string_bytes v)) (option_map string_bytes rest)
by_name Less v rest = refl
by_name Equal v rest = refl
by_name Greater v rest = refl

-- what is found in the map is found among the texts
pub found_text : (name : List ℕ) (es : List Entry) → option_map string_bytes (lookup (is_at (λ k. slice_cmp nat_cmp name (string_bytes k))) es) ≡ extra_under name (texts_of es)
found_text name [] = refl
found_text name (e ∷ es) = by_name (slice_cmp nat_cmp name (string_bytes e.0)) e.1 _ ∙ ap (cond (is_eq (slice_cmp nat_cmp name (string_bytes e.0))) (Some (string_bytes e.1))) (found_text name es)

-- clones of names and values have the same texts
pub cloned_texts : (es fs : List Entry) → AllZip (λ p q. (string_bytes q.0 ≡ string_bytes p.0) × (string_bytes q.1 ≡ string_bytes p.1)) es fs → texts_of fs ≡ texts_of es
cloned_texts [] [] all = refl
cloned_texts [] (f ∷ fs) all = absurd all
cloned_texts (e ∷ es) [] all = absurd all
cloned_texts (e ∷ es) (f ∷ fs) all = rw (all.0.0, all.0.1, cloned_texts es fs all.1) refl

-- names and values are equal where their texts are
pub equal_texts : (es fs : List Entry) → pointwise (λ (p q : Entry). string_eq p.0 q.0 && string_eq p.1 q.1) es fs ≡ same_values (texts_of es) (texts_of fs)
equal_texts [] [] = refl
equal_texts [] (f ∷ fs) = refl
equal_texts (e ∷ es) [] = refl
equal_texts (e ∷ es) (f ∷ fs) = ap (λ c. (string_eq e.0 f.0 && string_eq e.1 f.1) && c) (equal_texts es fs)
