-- A header that comes in the place of the first of its name, or behind all.
use Rattle.std.proofs.Common.{◌≡◌, ◌<◌, ◌≤◌, ◌+◌, ◌∷◌, ◌++◌, ℕ, suc, List, [], length, take, drop, map, set, get_or, Bool, true, false, Some, None, refl, sym, ◌∙◌, ap, arith, if◌then◌else◌}
use Rattle.std.proofs.lemmas.List.{at_drop_more, take-append-drop, take-set, drop-set, map-append, take_all, drop_all, length-append}
use Rattle.smithy_protocol.specs.declared.headers.Header.{Header as Kept}
use Rattle.smithy_protocol.specs.Headers.{Header, header_of, is_under, inserted, value_under}

-- what is inserted lies behind these headers
abbrev pub Behind : Kept → List Kept → ℕ → Type 0
Behind new xs i = inserted (header_of new) (map header_of xs) ≡ map header_of (take i xs) ++ inserted (header_of new) (map header_of (drop i xs))

pub replaced : (new : Kept) (xs : List Kept) (i : ℕ) (d : Kept) → i < length xs → is_under (header_of new).0 (header_of (get_or xs i d)) ≡ true → Behind new xs i
    → map header_of (set xs i new) ≡ inserted (header_of new) (map header_of xs)
replaced new xs i d within here behind =
    let rest = map header_of (drop (i + 1) xs) in
    let parts : set xs i new ≡ take i xs ++ new ∷ drop (i + 1) xs =
    sym (take-append-drop i (set xs i new)) ∙ ap (λ a. a ++ drop i (set xs i new)) (take-set xs i new) ∙ ap (λ b. take i xs ++ b) (drop-set xs i new within) in
    let first = at_drop_more (λ ys. inserted (header_of new) (map header_of ys)) xs i d within in
    let there : inserted (header_of new) (map header_of (drop i xs)) ≡ header_of new ∷ rest =
    first ∙ ap (λ b. if b then header_of new ∷ rest else header_of (get_or xs i d) ∷ inserted (header_of new) rest) here in
    ap (map header_of) parts ∙ map-append header_of (take i xs) (new ∷ drop (i + 1) xs) ∙ ap (λ b. map header_of (take i xs) ++ b) (sym there) ∙ sym behind

pub appended : (new : Kept) (xs : List Kept) (i : ℕ) → length xs ≤ i → Behind new xs i → map header_of (xs ++ new ∷ []) ≡ inserted (header_of new) (map header_of xs)
appended new xs i past behind =
    map-append header_of xs (new ∷ [])
    ∙ ap (λ ys. map header_of ys ++ header_of new ∷ []) (sym (take_all i xs past))
    ∙ ap (λ ys. map header_of (take i xs) ++ inserted (header_of new) (map header_of ys)) (sym (drop_all i xs past))
    ∙ sym behind

-- a header that makes the headers one more has a name that none of them has
new_name : (new : Header) (hs : List Header) → length (inserted new hs) ≡ suc (length hs) → value_under new.0 hs ≡ None
new_name new [] more = refl
new_name new (old ∷ hs) more = step (is_under new.0 old) more (new_name new hs)
  where
    step : (b : Bool) → length (if b then new ∷ hs else old ∷ inserted new hs) ≡ suc (suc (length hs)) → (length (inserted new hs) ≡ suc (length hs) → value_under new.0 hs ≡ None)
        → (if b then Some old.1 else value_under new.0 hs) ≡ None
    step true long rest = absurd (omega (arith, long))
    step false long rest = rest (omega (arith, long))

pub not_there : (new : Kept) (xs : List Kept) (i : ℕ) → length xs ≤ i → Behind new xs i → value_under (header_of new).0 (map header_of xs) ≡ None
not_there new xs i past behind =
    let whole : inserted (header_of new) (map header_of xs) ≡ map header_of xs ++ header_of new ∷ [] =
    behind
    ∙ ap (λ ys. map header_of ys ++ inserted (header_of new) (map header_of (drop i xs))) (take_all i xs past)
    ∙ ap (λ ys. map header_of xs ++ inserted (header_of new) (map header_of ys)) (drop_all i xs past) in
    let long = ap length whole ∙ length-append (map header_of xs) (header_of new ∷ []) in
    new_name (header_of new) (map header_of xs) (omega (arith, long))
