-- One more body that is answered in the caller's memory.
use Rattle.std.proofs.Common.{◌≡◌, ◌∙◌, ◌≤◌, ◌<◌, ◌+◌, ◌++◌, ℕ, suc, List, [], ◌∷◌, refl, sym, ap, subst, length, take, drop, slice_set, slice_range, arith, append_assoc, inr}
use Rattle.std.proofs.lemmas.List.{length-append, length-drop, drop-drop, set_split}
use Rattle.std.proofs.Math.Seq.{take-append_seam, drop-append-add}
use Rattle.smithy_declarations.specs.Table.{Table}
use Rattle.smithy_transcode.specs.Wires.{Wire}
use Rattle.smithy_transcode_c.specs.Calls.{Asked, IsMeant, StandsFirst}
use Rattle.smithy_transcode_c.specs.Bodies.{AreAnswered, none, more, BodiesAnswer, HasAnswers, Inputs, IsAnswered, LiesIn, Memory, StopsAt, begin_of, end_of}

-- what is put behind those that stand first stands first with them
stands_more : (xs ys before after : List ℕ) (n : ℕ) → StandsFirst xs before after → n ≡ length xs + length ys → n ≤ length before
    → StandsFirst (xs ++ ys) before (take (length xs) after ++ (ys ++ drop n after))
stands_more xs ys before after n s is fits =
    let front : take (length xs) after ≡ xs = ap (take (length xs)) s.1 ∙ take-append_seam xs (drop (length xs) before) in
    let rest : drop n after ≡ drop (length (xs ++ ys)) before =
    ap (λ l. drop n l) s.1 ∙ ap (λ m. drop m (xs ++ drop (length xs) before)) is
    ∙ drop-append-add xs (drop (length xs) before) (length ys) ∙ drop-drop (length ys) (length xs) before
    ∙ ap (λ m. drop m before) (sym (length-append xs ys)) in (
      omega (arith, length-append xs ys, is, fits),
      ap (λ l. l ++ (ys ++ drop n after)) front ∙ ap (λ l. xs ++ (ys ++ l)) rest ∙ sym (append_assoc xs ys (drop (length (xs ++ ys)) before)),
    )

-- three parts that are put one behind another stand first
pub three_stand : (a v b room out1 out2 out3 : List ℕ) (i j : ℕ) → i ≡ length a + length v → j ≡ i + length b → j ≤ length room
    → out1 ≡ a ++ drop (length a) room → out2 ≡ take (length a) out1 ++ (v ++ drop i out1) → out3 ≡ take i out2 ++ (b ++ drop j out2)
    → StandsFirst (a ++ (v ++ b)) room out3
three_stand a v b room out1 out2 out3 i j ends_two ends_three fits put1 put2 put3 =
    let one : StandsFirst a room out1 = (omega (arith, ends_two, ends_three, fits), put1) in
    let two : StandsFirst (a ++ v) room out2 =
    subst (λ l. StandsFirst (a ++ v) room l) (sym put2) (stands_more a v room out1 i one ends_two (omega (arith, ends_three, fits))) in
    let long : length (a ++ v) ≡ i = length-append a v ∙ sym ends_two in
    let three : StandsFirst ((a ++ v) ++ b) room (take i out2 ++ (b ++ drop j out2)) =
    subst (λ n. StandsFirst ((a ++ v) ++ b) room (take n out2 ++ (b ++ drop j out2))) long (stands_more (a ++ v) b room out2 j two (omega (arith, long, ends_three)) fits) in
    let whole : StandsFirst (a ++ (v ++ b)) room (take i out2 ++ (b ++ drop j out2)) =
    subst (λ l. StandsFirst l room (take i out2 ++ (b ++ drop j out2))) (append_assoc a v b) three in
    subst (λ l. StandsFirst (a ++ (v ++ b)) room l) (sym put3) whole

-- no byte of the caller's memory comes or goes
pub stands_long : (xs before after : List ℕ) → StandsFirst xs before after → length after ≡ length before
stands_long xs before after s =
    ap length s.1 ∙ length-append xs (drop (length xs) before) ∙ omega (arith, length-drop (length xs) before, s.0)

-- so does a number that is stored behind them
stands_one_more : (xs before after : List ℕ) (i y : ℕ) → StandsFirst xs before after → length xs ≡ i → i < length before
    → StandsFirst (xs ++ y ∷ []) before (slice_set after i y)
stands_one_more xs before after i y s long fits =
    let there : i < length after = omega (arith, stands_long xs before after s, fits) in
    subst (λ l. StandsFirst (xs ++ y ∷ []) before l)
    (ap (λ n. take n after ++ y ∷ drop (suc i) after) long ∙ sym (set_split after i y there))
    (stands_more xs (y ∷ []) before after (suc i) s (omega (arith, long)) (omega (arith, fits)))

-- each body has one place and one status
answered_long : {table : Table} {root : ℕ} {from to : Wire} {ends input : List ℕ} {n : ℕ} {out_ends statuses bytes : List ℕ}
    → AreAnswered table root from to ends input n out_ends statuses bytes → (length out_ends ≡ n) × (length statuses ≡ n)
answered_long none = (refl, refl)
answered_long (more n out_ends statuses bytes status body before lies is) =
    let long = answered_long before in (
      length-append out_ends ((length bytes + length body) ∷ []) ∙ ap (λ m. m + 1) long.0,
      length-append statuses (status ∷ []) ∙ ap (λ m. m + 1) long.1,
    )

-- no body is answered at first
pub answers_none : (table : Table) (root : ℕ) (from to : Wire) (given : Inputs) (before : Memory) → HasAnswers table root from to given before before 0 0
answers_none table root from to given before = record {
  out_ends = [];
  statuses = [];
  bytes = [];
  are = none;
  long = refl;
  ends_put = (omega arith, refl);
  statuses_put = (omega arith, refl);
  bytes_put = (omega arith, refl);
}

-- the next one, behind those that are
pub answers_more : {table : Table} {root : ℕ} {from to : Wire} {given : Inputs} {before : Memory} (after : Memory) (i at next status : ℕ) (body out : List ℕ)
    → HasAnswers table root from to given before after i at → LiesIn given.ends given.bytes i
    → IsAnswered table root from to (slice_range given.bytes (begin_of given.ends i) (end_of given.ends i)) status body
    → next ≡ at + length body → next ≤ length after.out → i < length after.out_ends → i < length after.statuses
    → out ≡ take at after.out ++ (body ++ drop next after.out)
    → HasAnswers table root from to given before
    (record { out_ends = slice_set after.out_ends i next; statuses = slice_set after.statuses i status; out = out }) (i + 1) next
answers_more {before = before} after i at next status body out h lies is sum fits place told put =
    let counted = answered_long h.are in
    let end : next ≡ length h.bytes + length body = sum ∙ ap (λ n. n + length body) h.long in
    record {
      out_ends = h.out_ends ++ (length h.bytes + length body) ∷ [];
      statuses = h.statuses ++ status ∷ [];
      bytes = h.bytes ++ body;
      are = more i h.out_ends h.statuses h.bytes status body h.are lies is;
      long = end ∙ sym (length-append h.bytes body);
      ends_put = subst (λ v. StandsFirst (h.out_ends ++ v ∷ []) before.out_ends (slice_set after.out_ends i next)) end
          (stands_one_more h.out_ends before.out_ends after.out_ends i next h.ends_put counted.0 (omega (arith, stands_long h.out_ends before.out_ends after.out_ends h.ends_put, place)));
      statuses_put = stands_one_more h.statuses before.statuses after.statuses i status h.statuses_put counted.1
          (omega (arith, stands_long h.statuses before.statuses after.statuses h.statuses_put, told));
      bytes_put = subst (λ l. StandsFirst (h.bytes ++ body) before.out l)
          (ap (λ n. take n after.out ++ (body ++ drop next after.out)) (sym h.long) ∙ sym put)
          (stands_more h.bytes body before.out after.out next h.bytes_put end (omega (arith, stands_long h.bytes before.out after.out h.bytes_put, fits)));
    }

-- what a call answers that has answered so many
pub answers_some : {table : Table} {asked : Asked} {given : Inputs} {before after : Memory} (root : ℕ) (from to : Wire) (i len done number : ℕ) → done ≡ i
    → IsMeant table asked root from to → HasAnswers table root from to given before after i len → StopsAt table root from to given before i len number
    → BodiesAnswer table asked given before after number done
answers_some {table} {asked} {given} {before} {after} root from to i len done number same meant has stops =
    subst (λ n. BodiesAnswer table asked given before after number n) (sym same) (inr (root, from, to, len, meant, has, stops))

-- the next body begins where this one ends
pub begin_next : (ends : List ℕ) (i : ℕ) → begin_of ends (i + 1) ≡ end_of ends i
begin_next ends i = let e : i + 1 ≡ suc i = omega arith in ap (begin_of ends) e
