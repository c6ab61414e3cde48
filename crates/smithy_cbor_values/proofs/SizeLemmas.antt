-- The size that one head of an array or a map tells.
use Rattle.std.proofs.Common.{◌≡◌, ◌-◌, ◌/◌, ℕ, length, min, List, drop, Option, Some, None, option_map, refl, sym, ap, subst, arith, inl, inr}
use Rattle.cbor_item.specs.Head.{HeadRead}
use Rattle.smithy_schema.specs.Sizes.{greatest_room}
use Rattle.smithy_cbor.specs.Reading.{OpensAt}
use Rattle.smithy_cbor_values.specs.ContainerSize.{size_within, cbor_sizes}
use Rattle.smithy_cbor_values.specs.Private.ContainerBytes.{same_head, same_opens_at}

-- no array begins where a map does
not_both : (due due' : Option ℕ) (i : List ℕ) (a b c : ℕ) → OpensAt 4 due i a b → OpensAt 5 due' i a c → ⊥
not_both due due' i a b c h k =
    let one = same_head (drop a i) (record { major = 4; argument = due; length = b - a }) (record { major = 5; argument = due'; length = c - a }) (omega (arith, h.0)) h.1 k.1 in
    let four : 4 ≡ 5 = ap (λ (r : HeadRead). r.major) one in
    omega (arith, four)

-- an indefinite head declares no number
indefinite : (major : ℕ) (i : List ℕ) (a b : ℕ) → OpensAt major None i a b → (n c : ℕ) → OpensAt major (Some n) i a c → ⊥
indefinite major i a b h n c k = let same : None ≡ Some n = (same_opens_at major None (Some n) i a b c h k).1 in cc

whole : (n : ℕ) → n ≡ n / 1
whole n = omega arith

told : (n most left each : ℕ) → most ≡ left / each → min (min n most) greatest_room ≡ size_within n left each
told n most left each same = ap (λ m. min (min n m) greatest_room) same

-- an array begins there
pub array_size : (i : List ℕ) (a b : ℕ) (due : Option ℕ) (size : Option ℕ) → OpensAt 4 due i a b → size ≡ option_map (λ n. min (min n (length i - b)) greatest_room) due → cbor_sizes i a size
array_size i a b None size opens is =
    subst (cbor_sizes i a) (sym is) (indefinite 4 i a b opens, λ n c other. not_both None (Some n) i a b c opens other)
array_size i a b (Some n) size opens is =
    subst (cbor_sizes i a) (sym is) (inl (n, b, opens, told n (length i - b) (length i - b) 1 (whole (length i - b))))

-- a map begins there, and no array
pub map_size : (i : List ℕ) (a b : ℕ) (due : Option ℕ) (size : Option ℕ) → OpensAt 5 due i a b → size ≡ option_map (λ n. min (min n ((length i - b) / 2)) greatest_room) due → cbor_sizes i a size
map_size i a b None size opens is =
    subst (cbor_sizes i a) (sym is) (λ n c other. not_both (Some n) None i a c b other opens, indefinite 5 i a b opens)
map_size i a b (Some n) size opens is =
    subst (cbor_sizes i a) (sym is) (inr (n, b, opens, told n ((length i - b) / 2) (length i - b) 2 refl))

-- neither does
pub no_size : (i : List ℕ) (a : ℕ) → ((due : Option ℕ) (b : ℕ) → OpensAt 4 due i a b → ⊥) → ((due : Option ℕ) (b : ℕ) → OpensAt 5 due i a b → ⊥) → cbor_sizes i a None
no_size i a no_array no_map = (λ n b opens. no_array (Some n) b opens, λ n b opens. no_map (Some n) b opens)
