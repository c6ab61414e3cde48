-- The parts of an input between places.
use Rattle.std.specs.Prelude.{◌≡◌, ◌≤◌, ◌+◌, ◌-◌, ℕ, length, take, drop, List, [], ◌++◌, slice_range, refl}
use Rattle.std.proofs.Common.{sym, ◌∙◌, ap, arith, append_assoc, length-append, length-drop, length-take}
use Rattle.std.proofs.lemmas.List.{drop-drop}
use Rattle.std.proofs.lemmas.List.Folds.{drop_split}
use Rattle.cbor_item.proofs.HeadLemmas.{take_front, drop_front}

-- the rest of an input from a place on
pub rest_length : (i : List ℕ) (a : ℕ) → length (drop a i) ≡ length i - a
rest_length i a = length-drop a i

-- a place in the input is determined by what stands from there on
pub same_place : (i : List ℕ) (e f : ℕ) → e ≤ length i → f ≤ length i → drop e i ≡ drop f i → e ≡ f
same_place i e f h k is = omega (arith, h, k, ap length is, rest_length i e, rest_length i f)

-- bytes that stand in front from a on are those from a to e
pub front_slice : (text i : List ℕ) (a e : ℕ) → a ≤ e → e ≤ length i → drop a i ≡ text ++ drop e i → slice_range i a e ≡ text
front_slice text i a e up within is =
    let size : length text ≡ e - a =
    omega (arith, up, within, ap length is, length-append text (drop e i), rest_length i a, rest_length i e) in
    ap (λ n. take n (drop a i)) (sym size) ∙ ap (take (length text)) is ∙ take_front text (drop e i)

-- nothing stands between a place and itself, and nowhere else
pub nothing_between : (i : List ℕ) (b : ℕ) → slice_range i b b ≡ []
nothing_between i b = let none : b - b ≡ 0 = omega arith in ap (λ n. take n (drop b i)) none

pub empty_between : (i : List ℕ) (b l : ℕ) → b ≤ l → l ≤ length i → slice_range i b l ≡ [] → b ≡ l
empty_between i b l up within none =
    omega (arith, up, within, ap length none, length-take (l - b) (drop b i), rest_length i b)

-- two parts, one after the other
pub slices_join : (i : List ℕ) (a b e : ℕ) → a ≤ b → b ≤ e → e ≤ length i → slice_range i a e ≡ slice_range i a b ++ slice_range i b e
slices_join i a b e up on within =
    front_slice (slice_range i a b ++ slice_range i b e) i a e (omega (arith, up, on)) within
    (drop_split i a b up ∙ ap (λ s. slice_range i a b ++ s) (drop_split i b e on) ∙ sym (append_assoc (slice_range i a b) (slice_range i b e) (drop e i)))

-- where one part of the input ends and another begins
pub record Parts (first more i : List ℕ) (a e : ℕ) : Type 0 where
  pub middle : ℕ
  pub up : a ≤ middle
  pub on : middle ≤ e
  pub size : middle ≡ a + length first
  pub first_is : slice_range i a middle ≡ first
  pub more_is : slice_range i middle e ≡ more

-- bytes in two parts have a place where the first part ends and the second begins
pub slices_part : (first more i : List ℕ) (a e : ℕ) → a ≤ e → e ≤ length i → slice_range i a e ≡ first ++ more → Parts first more i a e
slices_part first more i a e up within is =
    let whole : drop a i ≡ first ++ (more ++ drop e i) = drop_split i a e up ∙ ap (λ s. s ++ drop e i) is ∙ append_assoc first more (drop e i) in
    let middle = a + length first in
    let rest : drop middle i ≡ more ++ drop e i = sym (drop-drop (length first) a i) ∙ ap (drop (length first)) whole ∙ drop_front first (more ++ drop e i) in
    let sizes : length first + (length more + length (drop e i)) ≡ length (drop a i) =
    sym (ap length whole ∙ length-append first (more ++ drop e i) ∙ ap (λ n. length first + n) (length-append more (drop e i))) in
    let on : middle ≤ e = omega (arith, up, within, sizes, rest_length i a, rest_length i e) in
    record {
      middle = middle;
      up = omega arith;
      on = on;
      size = refl;
      first_is = front_slice first i a middle (omega arith) (omega (arith, on, within)) (whole ∙ ap (λ s. first ++ s) (sym rest));
      more_is = front_slice more i middle e on within rest;
    }
