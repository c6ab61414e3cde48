-- One further number, and one further item.
use Rattle.std.proofs.Common.{◌≡◌, ◌++◌, ◌+◌, ◌∙◌, ℕ, suc, List, ap, refl, sym, append_assoc, arith}
use Rattle.smithy_generator.specs.Generated.{next_number, item_of, comma_before, number_at, items_to}

number_behind : (seed n : ℕ) → number_at seed (suc n) ≡ next_number (number_at seed n)
unfolding number_at
number_behind seed n = refl

items_behind : (seed n : ℕ) → items_to seed (suc n) ≡ items_to seed n ++ (comma_before n ++ item_of (number_at seed (suc n)))
unfolding items_to
items_behind seed n = refl

one_more : (n : ℕ) → n + 1 ≡ suc n
one_more n = omega arith

-- the number behind the n-th
pub number_after : (seed n x y : ℕ) → x ≡ number_at seed n → y ≡ next_number x → y ≡ number_at seed (n + 1)
number_after seed n x y at is = is ∙ (ap next_number at ∙ (sym (number_behind seed n) ∙ ap (number_at seed) (sym (one_more n))))

-- what stands behind the front, and the next item behind it
pub items_after : (front : List ℕ) (seed n : ℕ) (before after : List ℕ) (y : ℕ) → before ≡ front ++ items_to seed n
    → y ≡ number_at seed (n + 1) → after ≡ before ++ (comma_before n ++ item_of y) → after ≡ front ++ items_to seed (n + 1)
items_after front seed n before after y e at added =
    added ∙ (ap (λ zs. zs ++ (comma_before n ++ item_of y)) e ∙ (append_assoc front (items_to seed n) (comma_before n ++ item_of y)
    ∙ ap (λ zs. front ++ zs)
    (ap (λ z. items_to seed n ++ (comma_before n ++ item_of z)) (at ∙ ap (number_at seed) (one_more n)) ∙ (sym (items_behind seed n) ∙ ap (items_to seed) (sym (one_more n))))))
