-- What a source gave and a sink took, call after call.
use Rattle.std.proofs.lemmas.List.{take-append-le, take-append-drop, take-take, drop-drop}
use Rattle.std.proofs.Common.{◌≡◌, ◌<◌, ◌≤◌, ◌+◌, ℕ, List, [], ◌++◌, length, take, drop, refl, sym, ◌∙◌, ap, append_assoc, append-nil, arith, length-append}
use Rattle.smithy_outside.specs.Outside.{Shown, Gave, Took, IsAtEnd, IsWhole, IsLonger}

pub gave_nothing : (t : Shown) → Gave [] t t
gave_nothing t was told = (was, told, refl)

pub gave_more : (xs ys : List ℕ) (a b c : Shown) → Gave xs a b → Gave ys b c → Gave (xs ++ ys) a c
gave_more xs ys a b c first then was told =
    let f = first was told in
    let s = then f.0 f.1 in
    (s.0, s.1, f.2 ∙ (ap (λ zs. xs ++ zs) s.2 ∙ sym (append_assoc xs ys s.0)))

pub took_nothing : (t : Shown) → Took [] t t
took_nothing t after told = (after, told, sym (append-nil after))

pub took_more : (xs ys : List ℕ) (a b c : Shown) → Took xs a b → Took ys b c → Took (xs ++ ys) a c
took_more xs ys a b c first then after told =
    let s = then after told in
    let f = first s.0 s.1 in
    (f.0, f.1, s.2 ∙ (ap (λ zs. zs ++ ys) f.2 ∙ append_assoc f.0 xs ys))

-- what was given and nothing else is the whole
pub gave_whole : (bytes : List ℕ) (a b : Shown) → Gave bytes a b → IsAtEnd b → IsWhole bytes a
gave_whole bytes a b gave end was told =
    let g = gave was told in
    sym (append-nil bytes) ∙ (ap (λ zs. bytes ++ zs) (sym (end g.0 g.1)) ∙ sym g.2)

-- a source that gave more than the limit had more
pub gave_longer : (limit : ℕ) (bytes : List ℕ) (a b : Shown) → Gave bytes a b → limit < length bytes → IsLonger limit a
gave_longer limit bytes a b gave long was told =
    let g = gave was told in
    omega (arith, ap length g.2, length-append bytes g.0)

-- what was copied to the front, and what is left behind it
pub front_and_left : (count at : ℕ) (bytes copied rest was : List ℕ) → copied ≡ take count (drop at bytes) → count ≤ length copied
    → was ≡ drop at bytes → was ≡ take count (copied ++ rest) ++ drop (at + count) bytes
front_and_left count at bytes copied rest was c le w =
    let whole : count ≤ count = omega arith in
    rw (take-append-le, c, take-take, ← drop-drop, take-append-drop) w
