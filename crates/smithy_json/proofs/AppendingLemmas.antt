-- Texts that are added part by part.
use Rattle.std.proofs.Common.{◌≡◌, ◌≤◌, ℕ, List, ◌++◌, length, take, drop, sym, ap, ◌∙◌, arith, append_assoc, Result, Ok, Err, OnErr}
use Rattle.std.proofs.lemmas.List.{append-nil, length-append, take-append-drop}
use Rattle.smithy_json.specs.Appending.{AddsFront}
use Rattle.smithy_json.proofs.EscapingLemmas.{front_written}

-- where a part was written in front, so was the whole
pub part_written : (old whole out part rest new : List ℕ) → out ++ (part ++ rest) ≡ old ++ whole → length old ≤ length out → AddsFront out part new → AddsFront old whole new
part_written old whole out part rest new all longer front =
    let n = front.0 in
    let left = drop n part ++ rest in
    let same : new ++ left ≡ old ++ whole =
    ap (λ s. s ++ left) front.1 ∙ append_assoc out (take n part) left
    ∙ ap (λ s. out ++ s) (sym (append_assoc (take n part) (drop n part) rest) ∙ ap (λ s. s ++ rest) (take-append-drop n part)) ∙ all in
    front_written old new left whole same (omega (arith, longer, ap length front.1, length-append out (take n part)))

-- a call that adds nothing where it is refused
pub nothing_written : (old more new : List ℕ) → new ≡ old → AddsFront old more new
nothing_written old more new same = (0, same ∙ sym (append-nil old))

-- the same of a call that was refused behind what was written
pub rest_refused : {T E : Type 0} (r : Result T E) (old whole out rest new : List ℕ) → out ++ rest ≡ old ++ whole → length old ≤ length out → OnErr r (new ≡ out) → OnErr r (AddsFront old whole new)
rest_refused (Ok x) old whole out rest new all longer same = tt
rest_refused (Err e) old whole out rest new all longer same = let front = front_written old out rest whole all longer in (front.0, same ∙ front.1)

always : {T E : Type 0} {P : Type 0} (r : Result T E) → P → OnErr r P
always (Ok x) h = tt
always (Err e) h = h

pub part_refused : {T E : Type 0} (r : Result T E) (old whole out part rest new : List ℕ) → out ++ (part ++ rest) ≡ old ++ whole → length old ≤ length out → AddsFront out part new → OnErr r (AddsFront old whole new)
part_refused r old whole out part rest new all longer front = always r (part_written old whole out part rest new all longer front)

-- a text between an opening and a closing one
module _ {T E : Type 0} (r : Result T E) (old opening inside closing begun new : List ℕ) (added : begun ≡ old ++ opening) where
  longer : length old ≤ length begun
  longer = omega (arith, ap length added, length-append old opening)

  all : begun ++ (inside ++ closing) ≡ old ++ (opening ++ (inside ++ closing))
  all = ap (λ s. s ++ (inside ++ closing)) added ∙ append_assoc old opening (inside ++ closing)

  pub inside_refused : AddsFront begun inside new → OnErr r (AddsFront old (opening ++ (inside ++ closing)) new)
  inside_refused front = part_refused r old (opening ++ (inside ++ closing)) begun inside closing new all longer front

  pub closing_refused : (most : List ℕ) → most ≡ begun ++ inside → OnErr r (new ≡ most) → OnErr r (AddsFront old (opening ++ (inside ++ closing)) new)
  closing_refused most filled same =
      rest_refused r old (opening ++ (inside ++ closing)) most closing new
      (ap (λ s. s ++ closing) filled ∙ append_assoc begun inside closing ∙ all)
      (omega (arith, longer, ap length filled, length-append begun inside)) same

-- a part behind what parts it from the one before, and the rest behind it
module _ (old whole out parting part rest begun : List ℕ) (added : begun ≡ out ++ parting) (parts : out ++ (parting ++ (part ++ rest)) ≡ old ++ whole) (grown : length old ≤ length out) where
  due : begun ++ (part ++ rest) ≡ old ++ whole
  due = ap (λ s. s ++ (part ++ rest)) added ∙ append_assoc out parting (part ++ rest) ∙ parts

  larger : length old ≤ length begun
  larger = omega (arith, grown, ap length added, length-append out parting)

  pub parted_refused : {T E : Type 0} (r : Result T E) (new : List ℕ) → AddsFront begun part new → OnErr r (AddsFront old whole new)
  parted_refused r new front = part_refused r old whole begun part rest new due larger front

  pub parted_rest : (new : List ℕ) → new ≡ begun ++ part → new ++ rest ≡ old ++ whole
  parted_rest new written = ap (λ s. s ++ rest) written ∙ append_assoc begun part rest ∙ due

  pub parted_longer : (new : List ℕ) → new ≡ begun ++ part → length old ≤ length new
  parted_longer new written = omega (arith, larger, ap length written, length-append begun part)
