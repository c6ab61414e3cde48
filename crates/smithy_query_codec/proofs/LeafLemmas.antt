-- Leaves under further segments, and their texts.
use Rattle.std.proofs.Common.{◌≡◌, ℕ, List, [], ◌∷◌, ◌++◌, map as mapped, refl, sym, ◌∙◌, ap, append_assoc}
use Rattle.std.specs.List.{flat_map}
use Rattle.std.proofs.lemmas.List.{append-nil, map-append}
use Rattle.std.proofs.lemmas.Grind.{flat_map-append}
use Rattle.smithy_query.specs.Form.{Pair, pair_text}
use Rattle.smithy_query_codec.specs.Leaves.{Path, Leaf, under, entry_part}
use Rattle.smithy_query_codec.specs.Canonical.{path_text, pair_of_leaf}
use Rattle.smithy_query_codec.specs.Writing.{extended}
use Rattle.smithy_query_codec.proofs.PathLemmas.{AreSegments, extended_path}

pub under-append : (p : Path) (ls ms : List Leaf) → under p (ls ++ ms) ≡ under p ls ++ under p ms
under-append p ls ms = map-append (λ (l : Leaf). record l { path = p ++ l.path }) ls ms

pub under-under : (p q : Path) (ls : List Leaf) → under p (under q ls) ≡ under (p ++ q) ls
under-under p q [] = refl
under-under p q (l ∷ ls) = rw (under-under p q ls, append_assoc p q l.path) refl

pub under-nil : (ls : List Leaf) → under [] ls ≡ ls
under-nil [] = refl
under-nil (l ∷ ls) = rw (under-nil ls) refl

-- the text of leaves behind Action and Version
abbrev pub leaves_text : List Leaf → List ℕ
leaves_text ls = flat_map (λ (p : Pair). pair_text p.path p.text) (mapped pair_of_leaf ls)

pub leaves_text-append : (ls ms : List Leaf) → leaves_text (ls ++ ms) ≡ leaves_text ls ++ leaves_text ms
leaves_text-append ls ms =
    ap (flat_map (λ (p : Pair). pair_text p.path p.text)) (map-append pair_of_leaf ls ms)
    ∙ flat_map-append (λ (p : Pair). pair_text p.path p.text) (mapped pair_of_leaf ls) (mapped pair_of_leaf ms)

-- one leaf, with the path as it was extended
pub scalar_leaf : (p more : Path) (t : List ℕ) → AreSegments (p ++ more)
    → pair_text (extended (path_text p) more) t ≡ leaves_text (under (p ++ more) (record { path = []; text = t } ∷ []))
scalar_leaf p more t full =
    rw (extended_path p more full, append-nil (p ++ more)) (sym (append-nil (pair_text (path_text (p ++ more)) t)))

-- two parts, of which the first is under a further segment or two
pub grouped : (o : List ℕ) (path name : Path) (ls ms : List Leaf)
    → (o ++ leaves_text (under (path ++ name) ls)) ++ leaves_text (under path ms) ≡ o ++ leaves_text (under path (under name ls ++ ms))
grouped o path name ls ms =
    rw (under-append path (under name ls) ms, under-under path name ls, leaves_text-append (under (path ++ name) ls) (under path ms))
    (append_assoc o (leaves_text (under (path ++ name) ls)) (leaves_text (under path ms)))

-- a key, the value of its entry, and further parts
pub entry_grouped : (o : List ℕ) (path : Path) (i key_name value_name key : List ℕ) (ls ms : List Leaf)
    → ((o ++ leaves_text (under (path ++ i ∷ key_name ∷ []) (record { path = []; text = key } ∷ [])))
    ++ leaves_text (under (path ++ i ∷ value_name ∷ []) ls)) ++ leaves_text (under path ms)
    ≡ o ++ leaves_text (under path (under (i ∷ []) (entry_part key_name value_name key ls) ++ ms))
entry_grouped o path i key_name value_name key ls ms =
    let values = grouped (o ++ leaves_text (under (path ++ i ∷ key_name ∷ []) (record { path = []; text = key } ∷ []))) path (i ∷ value_name ∷ []) ls ms in
    let keys = grouped o path (i ∷ key_name ∷ []) (record { path = []; text = key } ∷ []) (under (i ∷ value_name ∷ []) ls ++ ms) in
    values ∙ keys ∙ ap (λ xs. o ++ leaves_text (under path (record { path = i ∷ key_name ∷ []; text = key } ∷ (xs ++ ms)))) (sym (under-under (i ∷ []) (value_name ∷ []) ls))
