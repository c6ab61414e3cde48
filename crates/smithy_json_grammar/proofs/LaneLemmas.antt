-- Runs of bytes, many at a time: through the mask of the bytes that end them.
use Rattle.std.proofs.Common.{◌≡◌, ℕ, ◌+◌, ◌-◌, ◌*◌, ◌<◌, ◌≤◌, ◌%◌, ◌^◌, suc, zero, Bool, true, false, not, cond, eqb, ltb, List, [], ◌∷◌, map, length, drop, get_or, replicate, Fits, w8, refl, sym, ap, ap₂, ◌∙◌, arith}
use Rattle.std.proofs.lemmas.Bool.{eq-eqb, ne_eqb}
use Rattle.std.proofs.lemmas.List.{length-drop, length-map, drop-drop}
use Rattle.std.proofs.lemmas.List.Folds.{prefix_len-append}
use Rattle.std.proofs.lemmas.List.FromFn.{get_or-map-range_with_len}
use Rattle.std.proofs.lemmas.List.Sums.{prefix_len-le-length, prefix_len-drop_all}
use Rattle.std.proofs.lemmas.Simd.{chunk-drop, length-chunk, leading_from_mask_l, trailing_mask_l, mask_l-mod, zip2_of_maps, splat_is_map}
use Rattle.std.specs.List.{prefix_len, range_with_len}
use Rattle.smithy_json_grammar.specs.Private.Chars.{ends_run, run_end}
use lib.Bits.{bit_or, bit_and}
use lib.Count.{count_trailing_zeros}
use lib.Lanes.{chunk, mask_l, zip2, top, Each1}
use mir.Val.{bool_byte}

-- ---- one lane

-- 255 in each lane that passes
abbrev pub hit : ℕ → ℕ → ℕ
hit a b = cond (eqb a b) 255 0

abbrev pub below : ℕ → ℕ → ℕ
below a b = cond (ltb a b) 255 0

abbrev pub above : ℕ → ℕ → ℕ
above a b = cond (ltb b a) 255 0

abbrev pub lane : Bool → Bool → ℕ → ℕ
lane controls ascii x = bit_or (bit_or (bit_or (hit x 34) (hit x 92)) (bit_and (below x 32) (cond controls 255 0))) (bit_and (above x 127) (cond ascii 255 0))

all_lanes : (controls ascii : Bool) → map (λ x. top 7 (lane controls ascii x)) (range_with_len 0 256) ≡ map (ends_run controls ascii) (range_with_len 0 256)
all_lanes true true = refl
all_lanes true false = refl
all_lanes false true = refl
all_lanes false false = refl

-- what holds of all bytes holds of each
lane_is : (controls ascii : Bool) (x : ℕ) → x < 256 → top 7 (lane controls ascii x) ≡ ends_run controls ascii x
lane_is controls ascii x small =
    sym (get_or-map-range_with_len (λ y. top 7 (lane controls ascii y)) 0 256 x x false small (omega arith))
    ∙ (ap (λ l. get_or l x false) (all_lanes controls ascii) ∙ get_or-map-range_with_len (ends_run controls ascii) 0 256 x x false small (omega arith))

-- ---- many lanes

lanes_are : (controls ascii : Bool) (v : List ℕ) → Each1 (Fits w8) v → map (top 7) (map (lane controls ascii) v) ≡ map (ends_run controls ascii) v
lanes_are controls ascii [] fits = refl
lanes_are controls ascii (x ∷ v) fits = ap₂ (λ b bs. b ∷ bs) (lane_is controls ascii x fits.0.fits) (lanes_are controls ascii v fits.1)

-- 255 in each lane of those that are asked for
abbrev pub differs : ℕ → ℕ → ℕ
differs a b = cond (not (eqb a b)) 255 0

pub asked : (b : Bool) (v : List ℕ) (n : ℕ) → length v ≡ n → zip2 differs (replicate n (bool_byte b)) (replicate n 0) ≡ map (λ _. cond b 255 0) v
asked true v n long = zip2_of_maps differs (λ _. 1) (λ _. 0) v (splat_is_map v n 1 long) (splat_is_map v n 0 long)
asked false v n long = zip2_of_maps differs (λ _. 0) (λ _. 0) v (splat_is_map v n 0 long) (splat_is_map v n 0 long)

-- the mask of four comparisons, two of which count only where they are asked for
pub lanes_mask : (controls ascii : Bool) (v a b c d on past : List ℕ) → length v ≤ 64 → Each1 (Fits w8) v
    → a ≡ map (λ x. hit x 34) v → b ≡ map (λ x. hit x 92) v → c ≡ map (λ x. below x 32) v → d ≡ map (λ x. above x 127) v
    → on ≡ map (λ _. cond controls 255 0) v → past ≡ map (λ _. cond ascii 255 0) v
    → mask_l (map (top 7) (zip2 bit_or (zip2 bit_or (zip2 bit_or a b) (zip2 bit_and c on)) (zip2 bit_and d past))) % 2 ^ 64 ≡ mask_l (map (ends_run controls ascii) v)
lanes_mask controls ascii v a b c d on past short fits ha hb hc hd hon hpast =
    let marks : zip2 bit_or a b ≡ map (λ x. bit_or (hit x 34) (hit x 92)) v = zip2_of_maps bit_or (λ x. hit x 34) (λ x. hit x 92) v ha hb in
    let low : zip2 bit_and c on ≡ map (λ x. bit_and (below x 32) (cond controls 255 0)) v = zip2_of_maps bit_and (λ x. below x 32) (λ _. cond controls 255 0) v hc hon in
    let high : zip2 bit_and d past ≡ map (λ x. bit_and (above x 127) (cond ascii 255 0)) v = zip2_of_maps bit_and (λ x. above x 127) (λ _. cond ascii 255 0) v hd hpast in
    let some : zip2 bit_or (zip2 bit_or a b) (zip2 bit_and c on) ≡ map (λ x. bit_or (bit_or (hit x 34) (hit x 92)) (bit_and (below x 32) (cond controls 255 0))) v =
    zip2_of_maps bit_or (λ x. bit_or (hit x 34) (hit x 92)) (λ x. bit_and (below x 32) (cond controls 255 0)) v marks low in
    let all : zip2 bit_or (zip2 bit_or (zip2 bit_or a b) (zip2 bit_and c on)) (zip2 bit_and d past) ≡ map (lane controls ascii) v =
    zip2_of_maps bit_or (λ x. bit_or (bit_or (hit x 34) (hit x 92)) (bit_and (below x 32) (cond controls 255 0))) (λ x. bit_and (above x 127) (cond ascii 255 0)) v some high in
    ap (λ l. mask_l l % 2 ^ 64) (ap (map (top 7)) all ∙ lanes_are controls ascii v fits) ∙ mask_l-mod (map (ends_run controls ascii) v) 64 (omega (arith, length-map v (ends_run controls ascii)))

-- ---- a run

none_stops : (b : Bool) (n l m : ℕ) → n ≤ l → cond (not b) (1 + n) 0 ≡ 1 + l → (n ≡ l → m ≡ 0) → cond b 1 0 + 2 * m ≡ 0
none_stops true n l m le e later = absurd (omega arith)
none_stops false n l m le e later = let zero_is = later (omega arith) in omega arith

-- of the bytes that don't end it
module _ (ends : ℕ → Bool) where
  all_pass : (s : List ℕ) → prefix_len (λ x. not (ends x)) s ≡ length s → mask_l (map ends s) ≡ 0
  all_pass [] e = refl
  all_pass (x ∷ s) e = none_stops (ends x) _ (length s) _ (prefix_len-le-length (λ y. not (ends y)) s) (omega arith) (all_pass s)

  split : (input : List ℕ) (at n : ℕ) → prefix_len (λ x. not (ends x)) (drop at input)
      ≡ cond (eqb (prefix_len (λ x. not (ends x)) (chunk at n input)) (length (chunk at n input))) (length (chunk at n input) + prefix_len (λ x. not (ends x)) (drop (at + n) input)) (prefix_len (λ x. not (ends x)) (chunk at n input))
  split input at n = ap (prefix_len (λ x. not (ends x))) (chunk-drop at n input) ∙ prefix_len-append (λ x. not (ends x)) (chunk at n input) (drop (at + n) input)

  -- where no byte of a chunk ends the run, it goes on behind it
  pub through : (input : List ℕ) (at n : ℕ) → at + n ≤ length input → mask_l (map ends (chunk at n input)) ≡ 0
      → prefix_len (λ x. not (ends x)) (drop at input) ≡ n + prefix_len (λ x. not (ends x)) (drop (at + n) input)
  through input at n room none =
      let c = chunk at n input in
      split input at n
      ∙ ap (λ b. cond b (length c + prefix_len (λ x. not (ends x)) (drop (at + n) input)) (prefix_len (λ x. not (ends x)) c)) (eq-eqb _ _ (leading_from_mask_l ends c none))
      ∙ ap (λ k. k + prefix_len (λ x. not (ends x)) (drop (at + n) input)) (length-chunk at n input room)

  -- and else it ends at the first bit of the mask
  pub ends_in : (input : List ℕ) (at n : ℕ) → at + n ≤ length input → n ≤ 64 → 0 < mask_l (map ends (chunk at n input))
      → prefix_len (λ x. not (ends x)) (drop at input) ≡ count_trailing_zeros 64 (mask_l (map ends (chunk at n input)))
  ends_in input at n room short some =
      let c = chunk at n input in
      split input at n
      ∙ ap (λ b. cond b (length c + prefix_len (λ x. not (ends x)) (drop (at + n) input)) (prefix_len (λ x. not (ends x)) c)) (ne_eqb _ _ (λ (e : prefix_len (λ x. not (ends x)) c ≡ length c). omega (arith, all_pass c e)))
      ∙ sym (trailing_mask_l ends 64 c (omega (arith, length-chunk at n input room)) some)

-- inside of a run it goes on
further : (passes : ℕ → Bool) (s : List ℕ) (k : ℕ) → k ≤ prefix_len passes s → prefix_len passes s ≡ k + prefix_len passes (drop k s)
further passes s zero le = omega arith
further passes [] (suc k) le = absurd (omega arith)
further passes (x ∷ s) (suc k) le = go (passes x) (further passes s k) le
  where
    go : (b : Bool) → (k ≤ prefix_len passes s → prefix_len passes s ≡ k + prefix_len passes (drop k s)) → suc k ≤ cond b (1 + prefix_len passes s) 0
        → cond b (1 + prefix_len passes s) 0 ≡ suc k + prefix_len passes (drop k s)
    go true rest le = let same = rest (omega arith) in omega (arith, same)
    go false rest le = absurd (omega arith)

module _ (controls ascii : Bool) (input : List ℕ) where
  pub run_bound : (at : ℕ) → at ≤ length input → run_end controls ascii input at ≤ length input
  run_bound at within = omega (arith, prefix_len-le-length (λ b. not (ends_run controls ascii b)) (drop at input), length-drop at input)

  -- at the end of the input it is over
  pub run_over : run_end controls ascii input (length input) ≡ length input
  run_over = omega (arith, prefix_len-drop_all (λ b. not (ends_run controls ascii b)) input (length input) (omega arith))

  -- from any place between two places of one run it ends where the run ends
  pub run_inside : (at k e : ℕ) → at ≤ k → k ≤ e → run_end controls ascii input at ≡ run_end controls ascii input e → run_end controls ascii input at ≡ run_end controls ascii input k
  run_inside at k e from to same =
      let size : at + (k - at) ≡ k = omega (arith, from) in
      let more = further (λ b. not (ends_run controls ascii b)) (drop at input) (k - at) (omega (arith, same, from, to)) in
      let rest : prefix_len (λ b. not (ends_run controls ascii b)) (drop (k - at) (drop at input)) ≡ prefix_len (λ b. not (ends_run controls ascii b)) (drop k input) =
      ap (prefix_len (λ b. not (ends_run controls ascii b))) (drop-drop (k - at) at input ∙ ap (λ n. drop n input) size) in
      omega (arith, more, rest, from)

-- where more bytes pass, the run goes on at least as far
pub one_more : (n : ℕ) → suc n ≡ 1 + n
one_more n = omega arith

module _ (some more : ℕ → Bool) (are : (b : ℕ) → some b ≡ true → more b ≡ true) where
  longer : (s : List ℕ) → prefix_len more s ≡ prefix_len some s + prefix_len more (drop (prefix_len some s) s)
  longer [] = refl
  longer (b ∷ s) = go (some b) refl (prefix_len some s) (longer s)
    where
      go : (passes : Bool) → some b ≡ passes → (n : ℕ) → prefix_len more s ≡ n + prefix_len more (drop n s)
          → prefix_len more (b ∷ s) ≡ cond passes (1 + n) 0 + prefix_len more (drop (cond passes (1 + n) 0) (b ∷ s))
      go true passes n others =
          let first : prefix_len more (b ∷ s) ≡ 1 + prefix_len more s = ap (λ p. cond p (1 + prefix_len more s) 0) (are b passes) in
          let rest : prefix_len more (drop n s) ≡ prefix_len more (drop (1 + n) (b ∷ s)) = ap (λ k. prefix_len more (drop k (b ∷ s))) (one_more n) in
          omega (arith, first, rest, others)
      go false passes n others = omega arith

  pub longer_at : (input : List ℕ) (at end : ℕ) → end ≡ at + prefix_len some (drop at input)
      → at + prefix_len more (drop at input) ≡ end + prefix_len more (drop end input)
  longer_at input at end is =
      let n = prefix_len some (drop at input) in
      let behind : prefix_len more (drop n (drop at input)) ≡ prefix_len more (drop end input) =
      ap (prefix_len more) (drop-drop n at input ∙ ap (λ k. drop k input) (sym is)) in
      omega (arith, longer (drop at input), behind, is)
