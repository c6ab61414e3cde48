-- A name that no two members share names its own member.
use Rattle.std.proofs.Common.{◌≡◌, ◌<◌, ℕ, zero, suc, List, [], ◌∷◌, map, length, get_or, true, false, ◌==◌, Some, None, refl, ap, ◌∙◌, arith}
use Rattle.std.specs.Str.{bytes_eq}
use Rattle.std.proofs.lemmas.Bool.Decides.{nat_tests}
use Rattle.std.specs.List.{slice_get}
use Rattle.std.proofs.lemmas.List.{length-map, get_or-map}
use Rattle.smithy_declarations.specs.Table.{Member, position_named}
use Rattle.smithy_declarations.specs.Names.{has_equal_texts}
use Rattle.smithy_declarations.proofs.OrderLemmas.{false_if, not_both, equal_texts_at}
use Rattle.smithy_declarations.proofs.Positions.{position_found}

text_equals : (t : List ℕ) → bytes_eq t t ≡ true
text_equals [] = refl
text_equals (b ∷ t) =
    let same : (b == b) ≡ true = grind (arith, nat_tests) in
    rw (same, text_equals t) refl

found_at : {X : Type 0} (xs : List X) (n : ℕ) (x : X) → slice_get xs n ≡ Some x → (n < length xs) × (get_or xs n x ≡ x)
found_at [] n x found = absurd (let e : None ≡ Some x = found in cc)
found_at (y ∷ xs) zero x found = (omega arith, let e : Some y ≡ Some x = found in cc)
found_at (y ∷ xs) (suc n) x found = let more = found_at xs n x found in (omega (arith, more.0), more.1)

module _ (name_of : Member → List ℕ) (members : List Member) (differ : has_equal_texts (map name_of members) ≡ false) (n : ℕ) (m : Member)
    (found : slice_get members n ≡ Some m) where
  here : (n < length members) × (get_or members n m ≡ m)
  here = found_at members n m found

  text_at : (k : ℕ) → k < length members → get_or (map name_of members) k [] ≡ name_of (get_or members k m)
  text_at k within = get_or-map name_of members k m [] within

  others_differ : (k : ℕ) → k < n → bytes_eq (name_of (get_or members k m)) (name_of m) ≡ false
  others_differ k before = false_if (bytes_eq (name_of (get_or members k m)) (name_of m)) (λ same.
      let within = here.0 in
      let second : get_or (map name_of members) n [] ≡ name_of m = text_at n within ∙ ap name_of here.1 in
      let first : get_or (map name_of members) k [] ≡ name_of (get_or members k m) = text_at k (omega (arith, before, within)) in
      let equal : bytes_eq (get_or (map name_of members) k []) (get_or (map name_of members) n []) ≡ true = rw (first, second) same in
      not_both (has_equal_texts (map name_of members))
      (equal_texts_at (map name_of members) k n before (omega (arith, within, length-map members name_of)) equal) differ)

  -- the position of the member by its name
  pub named_itself : position_named name_of members (name_of m) ≡ Some n
  named_itself =
      position_found (λ (x : Member). bytes_eq (name_of x) (name_of m)) members n m here.0 others_differ
      (ap (λ x. bytes_eq (name_of x) (name_of m)) here.1 ∙ text_equals (name_of m))
