-- One more answer, and what a sink took of the answers so far.
use Rattle.std.proofs.Common.{◌≡◌, ◌+◌, ◌||◌, ℕ, suc, List, [], ◌∷◌, ◌++◌, length, Bool, true, false, Err, refl, sym, ◌∙◌, ap, subst, append_assoc, append-nil, length-append, arith}
use Rattle.smithy_outside.specs.Outside.{Shown, MetOneFault, MetNoFault, Took, TookPrefix, IsWritten}
use Rattle.smithy_outside.proofs.Moved.{took_more, took_nothing}
use Rattle.smithy_outside.proofs.Faults.{no_fault_after}
use Rattle.smithy_outside.proofs.Written.{written_more}
use Rattle.smithy_lines.specs.declared.batch.Batch.{Batch}
use Rattle.smithy_lines.specs.declared.answer.AnswerFault.{AnswerFault}
use Rattle.smithy_lines.specs.declared.answer.AnswerFault.TheVariants as faults
use Rattle.smithy_lines.specs.Lines.{line_feed, HasNoFeed, lines_of}
use Rattle.smithy_lines.specs.Answered.{Answers, Answered, TookAll, TookFront, EndsIn}
use Rattle.smithy_lines.specs.Private.Batches.{AddsAnswer}
use Rattle.smithy_lines.specs.Private.SoFar.{IsSoFar, IsRest, ServesFor, EndsEarly}
use Rattle.smithy_lines.proofs.LineLemmas.{first_line, last_line}

or_false : (b : Bool) → (b || false) ≡ b
or_false true = refl
or_false false = refl

or_assoc : (a b c : Bool) → ((a || b) || c) ≡ (a || (b || c))
or_assoc true b c = refl
or_assoc false b c = refl

behind : (answer more added : List ℕ) → (answer ++ line_feed ∷ more) ++ added ≡ answer ++ line_feed ∷ (more ++ added)
behind answer more added = append_assoc answer (line_feed ∷ more) added

-- one more line, behind all others
answered_more : (answers : Answers) (n : ℕ) (lines : List (List ℕ)) (text : List ℕ) (refused : Bool) (line answer : List ℕ) (is : Bool)
    → Answered answers n lines text refused → answers (n + length lines) line answer is → HasNoFeed answer
    → Answered answers n (lines ++ line ∷ []) (text ++ (answer ++ line_feed ∷ [])) (refused || is)
answered_more answers n [] text refused line answer is so says none = (
  answer,
  [],
  is,
  false,
  subst (λ k. answers k line answer is) (omega arith) says,
  none,
  (refl, refl),
  ap (λ t. t ++ (answer ++ line_feed ∷ [])) so.0,
  ap (λ b. b || is) so.1 ∙ sym (or_false is),
)
answered_more answers n (l ∷ ls) text refused line answer is (first, more, was, others, said, clear, rest, whole, some) says none = (
  first,
  more ++ (answer ++ line_feed ∷ []),
  was,
  others || is,
  said,
  clear,
  answered_more answers (suc n) ls more others line answer is rest (subst (λ k. answers k line answer is) (omega arith) says) none,
  ap (λ t. t ++ (answer ++ line_feed ∷ [])) whole ∙ behind first more (answer ++ line_feed ∷ []),
  ap (λ b. b || is) some ∙ or_assoc was others is,
)

pub so_far_more : (answers : Answers) (done : List (List ℕ)) (line : List ℕ) (old new : Batch) (start now : Shown) → IsSoFar answers done old start now → AddsAnswer answers line old new
    → IsSoFar answers (done ++ line ∷ []) new start now
so_far_more answers done line old new start now so (answer, is, says, none, text, count, refused) = record {
  written = so.written;
  answered = subst (λ t. Answered answers 1 (done ++ line ∷ []) t new.refused)
      (append_assoc so.written old.text.items (answer ++ line_feed ∷ []) ∙ ap (λ t. so.written ++ t) (sym (append_assoc old.text.items answer (line_feed ∷ [])) ∙ sym text))
      (subst (Answered answers 1 (done ++ line ∷ []) ((so.written ++ old.text.items) ++ (answer ++ line_feed ∷ []))) (sym refused)
      (answered_more answers 1 done (so.written ++ old.text.items) old.refused line answer is so.answered
      (subst (λ k. answers k line answer is) (omega (arith, so.counted)) says) none));
  whole = (
    so.whole.0,
    so.whole.1 ++ line ∷ [],
    so.whole.2,
    ap (λ l. l ++ line ∷ []) so.whole.3 ∙ append_assoc so.whole.0 so.whole.1 (line ∷ []),
    so.whole.4,
  );
  counted = omega (arith, count, so.counted, length-append done (line ∷ []));
  took = so.took;
  no_fault = so.no_fault;
}

-- an answer by what serves for the line
pub added_for : (answers : Answers) (line whole : List ℕ) (old new : Batch) → ServesFor answers line whole → AddsAnswer answers line old new → AddsAnswer answers whole old new
added_for answers line whole old new serves (answer, is, says, none, text, count, refused) = (answer, is, serves (old.count + 1) answer is says, none, text, count, refused)

-- the answers that waited were taken
pub so_far_passed : (answers : Answers) (done : List (List ℕ)) (old new : Batch) (start was now : Shown) → IsSoFar answers done old start was
    → new.text.items ≡ [] → new.count ≡ old.count → new.refused ≡ old.refused → MetNoFault was now → Took old.text.items was now → IsSoFar answers done new start now
so_far_passed answers done old new start was now so empty count refused no_fault took = record {
  written = so.written ++ old.text.items;
  answered = subst (λ t. Answered answers 1 done t new.refused) (sym (append-nil (so.written ++ old.text.items)) ∙ ap (λ t. (so.written ++ old.text.items) ++ t) (sym empty))
      (subst (Answered answers 1 done (so.written ++ old.text.items)) (sym refused) so.answered);
  whole = (done, [], new.refused, sym (append-nil done), subst (Answered answers 1 done (so.written ++ old.text.items)) (sym refused) so.answered);
  counted = count ∙ so.counted;
  took = took_more so.written old.text.items start was now so.took took;
  no_fault = no_fault_after start was now so.no_fault no_fault;
}

-- all was taken
pub all_taken : (answers : Answers) (done : List (List ℕ)) (batch : Batch) (start now : Shown) → IsSoFar answers done batch start now → batch.text.items ≡ [] → TookAll answers done batch.refused start now
all_taken answers done batch start now so empty = (
  so.written,
  subst (λ t. Answered answers 1 done t batch.refused) (ap (λ t. so.written ++ t) empty ∙ append-nil so.written) so.answered,
  so.took,
  so.no_fault,
)

-- memory was wanting behind some lines
pub ends_for_memory : (answers : Answers) (done : List (List ℕ)) (batch : Batch) (start now : Shown) → IsSoFar answers done batch start now → EndsIn answers done faults.NoMemory start now
ends_for_memory answers done batch start now so = (
  so.whole.0,
  so.whole.1,
  so.whole.2,
  so.whole.3,
  (so.written, so.whole.4, so.took, so.no_fault),
)

-- the sink failed as the answers that waited were written
pub ends_for_sink : (answers : Answers) (done : List (List ℕ)) (batch : Batch) (start was now : Shown) → IsSoFar answers done batch start was → MetOneFault was now → TookPrefix batch.text.items was now
    → EndsIn answers done faults.WriteFailed start now
ends_for_sink answers done batch start was now so fault took =
    let written : IsWritten {T = Unit {0}} {E = AnswerFault} (so.written ++ batch.text.items) (Err faults.WriteFailed) start now = written_more {T = Unit {0}} so.written batch.text.items (Err faults.WriteFailed) start was now so.no_fault so.took (fault, took) in
    (written.0, (done, [], so.written ++ batch.text.items, batch.refused, sym (append-nil done), so.answered, written.1))

front_before : (answers : Answers) (lines more all : List (List ℕ)) (start now : Shown) → all ≡ lines ++ more → TookFront answers lines start now → TookFront answers all start now
front_before answers lines more all start now is (front, rest, text, refused, cut, answered, took) =
    (front, rest ++ more, text, refused, is ∙ ap (λ l. l ++ more) cut ∙ append_assoc front rest more, answered, took)

-- whatever lines follow
pub ends_before : (answers : Answers) (lines more all : List (List ℕ)) (e : AnswerFault) (start now : Shown) → all ≡ lines ++ more → EndsIn answers lines e start now → EndsIn answers all e start now
ends_before answers lines more all faults.WriteFailed start now is (fault, took) = (fault, front_before answers lines more all start now is took)
ends_before answers lines more all faults.NoMemory start now is (front, rest, refused, cut, took) =
    (front, rest ++ more, refused, is ∙ ap (λ l. l ++ more) cut ∙ append_assoc front rest more, took)

one_more : (done : List (List ℕ)) (line : List ℕ) (lines : List (List ℕ)) → done ++ line ∷ lines ≡ (done ++ line ∷ []) ++ lines
one_more done line lines = sym (append_assoc done (line ∷ []) lines)

-- a line at the front was answered
pub rest_cut : (taken left line rest : List ℕ) (done : List (List ℕ)) → ((more : List ℕ) → lines_of (taken ++ more) ≡ done ++ lines_of (left ++ more)) → left ≡ line ++ line_feed ∷ rest → HasNoFeed line
    → (more : List ℕ) → lines_of (taken ++ more) ≡ (done ++ line ∷ []) ++ lines_of (rest ++ more)
rest_cut taken left line rest done cut is none more =
    cut more ∙ ap (λ l. done ++ lines_of (l ++ more)) is ∙ ap (λ l. done ++ lines_of l) (append_assoc line (line_feed ∷ rest) more)
    ∙ ap (λ ls. done ++ ls) (first_line line (rest ++ more) none) ∙ one_more done line (lines_of (rest ++ more))

-- no more bytes follow
pub rest_closed : (taken left : List ℕ) (done : List (List ℕ)) → ((more : List ℕ) → lines_of (taken ++ more) ≡ done ++ lines_of (left ++ more)) → lines_of taken ≡ done ++ lines_of left
rest_closed taken left done cut = ap lines_of (sym (append-nil taken)) ∙ cut [] ∙ ap (λ l. done ++ lines_of l) (append-nil left)

-- none is left
pub none_left : (taken left : List ℕ) (done : List (List ℕ)) → lines_of taken ≡ done ++ lines_of left → left ≡ [] → lines_of taken ≡ done
none_left taken left done is empty = is ∙ ap (λ l. done ++ lines_of l) empty ∙ append-nil done

-- one is left
pub one_left : (taken left : List ℕ) (done : List (List ℕ)) → lines_of taken ≡ done ++ lines_of left → (left ≡ [] → ⊥) → HasNoFeed left → lines_of taken ≡ done ++ left ∷ []
one_left taken [] done is some none = absurd (some refl)
one_left taken (b ∷ left) done is some none = is ∙ ap (λ ls. done ++ ls) (last_line b left none)

-- nothing was answered yet
pub rest_begun : (answers : Answers) (bytes : List ℕ) (batch : Batch) (start : Shown) → batch.text.items ≡ [] → batch.count ≡ 0 → batch.refused ≡ false → IsRest answers bytes bytes batch start start
rest_begun answers bytes batch start empty none well = record {
  done = [];
  cut = λ more. refl;
  so_far = record { written = []; answered = (empty, well); whole = ([], [], false, refl, (refl, refl)); counted = none; took = took_nothing start; no_fault = (refl, refl) };
}

-- more bytes came
pub rest_more : (answers : Answers) (taken left piece : List ℕ) (batch : Batch) (start now : Shown) → IsRest answers taken left batch start now → IsRest answers (taken ++ piece) (left ++ piece) batch start now
rest_more answers taken left piece batch start now w = record {
  done = w.done;
  cut = λ more. ap lines_of (append_assoc taken piece more) ∙ w.cut (piece ++ more) ∙ ap (λ l. w.done ++ lines_of l) (sym (append_assoc left piece more));
  so_far = w.so_far;
}

-- and some of what is left is one line
pub rest_line : (answers : Answers) (taken left line rest : List ℕ) (batch new : Batch) (start was now : Shown) (w : IsRest answers taken left batch start was) → left ≡ line ++ line_feed ∷ rest → HasNoFeed line
    → IsSoFar answers (w.done ++ line ∷ []) new start now → IsRest answers taken rest new start now
rest_line answers taken left line rest batch new start was now w is none so = record {
  done = w.done ++ line ∷ [];
  cut = rest_cut taken left line rest w.done w.cut is none;
  so_far = so;
}

pub line_ends : (answers : Answers) (taken left line rest : List ℕ) (batch : Batch) (start was now : Shown) (e : AnswerFault) (w : IsRest answers taken left batch start was) → left ≡ line ++ line_feed ∷ rest → HasNoFeed line
    → EndsIn answers (w.done ++ line ∷ []) e start now → EndsEarly answers taken e start now
line_ends answers taken left line rest batch start was now e w is none ends = (w.done ++ line ∷ [], (λ more. (lines_of (rest ++ more), rest_cut taken left line rest w.done w.cut is none more)), ends)

-- memory was wanting for what was to come next
pub rest_ends : (answers : Answers) (taken left : List ℕ) (batch : Batch) (start now : Shown) → IsRest answers taken left batch start now → EndsEarly answers taken faults.NoMemory start now
rest_ends answers taken left batch start now w = (w.done, (λ more. (lines_of (left ++ more), w.cut more)), ends_for_memory answers w.done batch start now w.so_far)

-- the answers that waited were passed on
pub rest_passed : (answers : Answers) (taken left : List ℕ) (old new : Batch) (start was now : Shown) → IsRest answers taken left old start was
    → new.text.items ≡ [] → new.count ≡ old.count → new.refused ≡ old.refused → MetNoFault was now → Took old.text.items was now → IsRest answers taken left new start now
rest_passed answers taken left old new start was now w empty count refused no_fault took =
    record { done = w.done; cut = w.cut; so_far = so_far_passed answers w.done old new start was now w.so_far empty count refused no_fault took }

pub rest_sink : (answers : Answers) (taken left : List ℕ) (batch : Batch) (start was now : Shown) → IsRest answers taken left batch start was → MetOneFault was now → TookPrefix batch.text.items was now
    → EndsEarly answers taken faults.WriteFailed start now
rest_sink answers taken left batch start was now w fault took =
    (w.done, (λ more. (lines_of (left ++ more), w.cut more)), ends_for_sink answers w.done batch start was now w.so_far fault took)

-- no more bytes follow
pub early_closed : (answers : Answers) (taken : List ℕ) (e : AnswerFault) (start now : Shown) → EndsEarly answers taken e start now → EndsIn answers (lines_of taken) e start now
early_closed answers taken e start now (lines, begin, ends) =
    ends_before answers lines (begin []).0 (lines_of taken) e start now (ap lines_of (sym (append-nil taken)) ∙ (begin []).1) ends
