-- What a source gave, line by line.
use Rattle.std.proofs.Common.{◌≡◌, ◌<◌, ◌≤◌, ◌+◌, ◌⊎◌, ℕ, List, [], ◌∷◌, ◌++◌, length, take, drop, true, Result, Ok, Err, OnOk, leb, refl, sym, ◌∙◌, ap, subst, append_assoc, append-nil, inl, inr, length-append, arith}
use Rattle.std.proofs.lemmas.Bool.Decides.{leb_tells}
use Rattle.std.proofs.lemmas.List.{take_all, take-append-le, length-take-le}
use Rattle.std.proofs.Math.Seq.{take-append-add}
use Rattle.std.proofs.lemmas.List.Elements.{All-append}
use Rattle.std.specs.Prelude.{◌==◌, false}
use Rattle.smithy_outside.specs.Outside.{Shown, Gave, MetNoFault, IsAtEnd}
use Rattle.smithy_outside.proofs.Moved.{gave_more, took_nothing}
use Rattle.smithy_lines.specs.declared.batch.Batch.{Batch}
use Rattle.smithy_lines.specs.declared.answer.AnswerFault.{AnswerFault}
use Rattle.smithy_lines.specs.declared.answer.AnswerFault.TheVariants as faults
use Rattle.smithy_lines.specs.declared.answer.StreamFault.TheVariants as stream_faults
use Rattle.smithy_lines.specs.Lines.{line_feed, HasNoFeed, lines_of}
use Rattle.smithy_lines.specs.Answered.{Answers, EndsIn}
use Rattle.smithy_lines.specs.Sources.{AnswersUpTo, stream_fault, TookEnded, EndsAfter, EndsEachIn}
use Rattle.smithy_lines.specs.Private.SoFar.{IsHeld, ServesFor, HasBegun, EndsEarly}
use Rattle.smithy_lines.proofs.AnsweredLemmas.{rest_more, rest_ends, rest_begun, all_taken}

-- a front of the line is held, or the whole line
front_or_whole : (longest : ℕ) (held line : List ℕ) → IsHeld longest held line → ((longest + 1 ≤ length line) × (length held ≡ longest + 1)) ⊎ ((length line ≤ longest) × (held ≡ line))
front_or_whole longest held line is = by_length (leb_tells (longest + 1) (length line)) where
  by_length : ((leb (longest + 1) (length line) ≡ true) × (longest + 1 ≤ length line)) ⊎ ((leb (longest + 1) (length line) ≡ false) × (length line < longest + 1))
      → ((longest + 1 ≤ length line) × (length held ≡ longest + 1)) ⊎ ((length line ≤ longest) × (held ≡ line))
  by_length (inl (test, long)) = inl (long, ap length is ∙ length-take-le (longest + 1) line long)
  by_length (inr (test, short)) = inr (omega (arith, short), is ∙ take_all (longest + 1) line (omega (arith, short)))

-- of a line that is too long no more is held
pub held_full : (longest : ℕ) (held line bytes : List ℕ) → longest < length held → IsHeld longest held line → IsHeld longest held (line ++ bytes)
held_full longest held line bytes full is = by_case (front_or_whole longest held line is) where
  by_case : ((longest + 1 ≤ length line) × (length held ≡ longest + 1)) ⊎ ((length line ≤ longest) × (held ≡ line)) → IsHeld longest held (line ++ bytes)
  by_case (inl (long, same)) = is ∙ sym (take-append-le (longest + 1) line bytes long)
  by_case (inr (short, same)) = absurd (omega (arith, short, full, ap length same))

-- a line that isn't too long is held whole
pub held_whole : (longest : ℕ) (held line : List ℕ) → length held ≤ longest → IsHeld longest held line → held ≡ line
held_whole longest held line within is = by_case (front_or_whole longest held line is) where
  by_case : ((longest + 1 ≤ length line) × (length held ≡ longest + 1)) ⊎ ((length line ≤ longest) × (held ≡ line)) → held ≡ line
  by_case (inl (long, same)) = absurd (omega (arith, within, same))
  by_case (inr (short, same)) = same

-- all bytes are held where they fit
pub held_more : (longest : ℕ) (held line bytes : List ℕ) → length held + length bytes ≤ longest → IsHeld longest held line → IsHeld longest (held ++ bytes) (line ++ bytes)
held_more longest held line bytes within is =
    let same = held_whole longest held line (omega (arith, within)) is in
    ap (λ l. l ++ bytes) same ∙ sym (take_all (longest + 1) (line ++ bytes) (omega (arith, within, length-append line bytes, ap length same)))

-- and else one more than the limit
pub held_cut : (longest room : ℕ) (held line bytes : List ℕ) → longest ≡ length held + room → IsHeld longest held line → IsHeld longest (held ++ take (room + 1) bytes) (line ++ bytes)
held_cut longest room held line bytes sum is =
    let same = held_whole longest held line (omega (arith, sum)) is in
    let count : longest + 1 ≡ length line + (room + 1) = omega (arith, sum, ap length same) in
    ap (λ l. l ++ take (room + 1) bytes) same ∙ sym (ap (λ n. take n (line ++ bytes)) count ∙ take-append-add line bytes (room + 1))

pub more_held : {E : Type 0} (longest : ℕ) (held bytes : List ℕ) (r : Result (Unit {0}) E) (new : List ℕ) → length held + length bytes ≤ longest → OnOk r (new ≡ held ++ bytes)
    → OnOk r ((line : List ℕ) → IsHeld longest held line → IsHeld longest new (line ++ bytes))
more_held longest held bytes (Ok x) new within is = λ line was. subst (λ h. IsHeld longest h (line ++ bytes)) (sym is) (held_more longest held line bytes within was)
more_held longest held bytes (Err e) new within is = tt

pub cut_held : {E : Type 0} (longest room : ℕ) (held bytes part : List ℕ) (r : Result (Unit {0}) E) (new : List ℕ) → longest ≡ length held + room → part ≡ take (room + 1) (drop 0 bytes) → OnOk r (new ≡ held ++ part)
    → OnOk r ((line : List ℕ) → IsHeld longest held line → IsHeld longest new (line ++ bytes))
cut_held longest room held bytes part (Ok x) new sum cut is = λ line was. subst (λ h. IsHeld longest h (line ++ bytes)) (sym (is ∙ ap (λ p. held ++ p) cut)) (held_cut longest room held line bytes sum was)
cut_held longest room held bytes part (Err e) new sum cut is = tt

-- nothing is held exactly of no bytes
pub none_held : (longest : ℕ) (held line : List ℕ) → IsHeld longest held line → held ≡ [] → line ≡ []
none_held longest held line is none = sym (held_whole longest held line (omega (arith, ap length none)) is) ∙ none

pub some_held : (longest : ℕ) (held line : List ℕ) → IsHeld longest held line → (held ≡ [] → ⊥) → line ≡ [] → ⊥
some_held longest held line is some none = some (is ∙ ap (λ l. take (longest + 1) l) none ∙ take_all (longest + 1) [] (omega arith))

pub nothing_held : (longest : ℕ) (held : List ℕ) → held ≡ [] → IsHeld longest held []
nothing_held longest held none = none ∙ sym (take_all (longest + 1) [] (omega arith))

pub held_all : (bytes : List ℕ) → IsHeld (length bytes) bytes bytes
held_all bytes = sym (take_all (length bytes + 1) bytes (omega arith))

-- what is held of a line tells whether it is too long, and is the line where it isn't
pub held_serves : (longest : ℕ) (answers : Answers) (refuses : ℕ → List ℕ → Type 0) (held line : List ℕ) → IsHeld longest held line → ServesFor (AnswersUpTo longest answers refuses) held line
held_serves longest answers refuses held line is n answer refused (inl (within, says)) =
    let same = held_whole longest held line within is in
    subst (λ l. AnswersUpTo longest answers refuses n l answer refused) same (inl (within, says))
held_serves longest answers refuses held line is n answer refused (inr (long, says, same)) = inr (by_case (front_or_whole longest held line is), says, same) where
  by_case : ((longest + 1 ≤ length line) × (length held ≡ longest + 1)) ⊎ ((length line ≤ longest) × (held ≡ line)) → longest < length line
  by_case (inl (past, same)) = omega (arith, past)
  by_case (inr (short, same)) = absurd (omega (arith, short, long, ap length same))

-- neither has a line feed
pub both_none : (xs ys : List ℕ) → HasNoFeed xs → HasNoFeed ys → HasNoFeed (xs ++ ys)
both_none xs ys first second = All-append (λ b. (b == line_feed) ≡ false) xs ys first second

pub nothing_has_none : HasNoFeed []
nothing_has_none k d below = absurd (omega arith)

-- the line that began ends in the piece
pub ends_in_piece : (line piece part rest : List ℕ) → piece ≡ part ++ line_feed ∷ rest → line ++ piece ≡ (line ++ part) ++ line_feed ∷ rest
ends_in_piece line piece part rest cut = ap (λ p. line ++ p) cut ∙ sym (append_assoc line part (line_feed ∷ rest))

module _ (answers : Answers) (longest : ℕ) where
  -- the piece has no line feed
  pub line_goes_on : (taken held new piece : List ℕ) (batch : Batch) (start now : Shown) → ((line : List ℕ) → IsHeld longest held line → IsHeld longest new (line ++ piece)) → HasNoFeed piece
      → HasBegun answers longest taken held batch start now → HasBegun answers longest (taken ++ piece) new batch start now
  line_goes_on taken held new piece batch start now holds none b = record {
    line = b.line ++ piece;
    none = both_none b.line piece b.none none;
    no_answer_waits = b.no_answer_waits;
    is_held = holds b.line b.is_held;
    is_rest = rest_more answers taken b.line piece batch start now b.is_rest;
    serves = b.serves;
  }

  -- memory was wanting before the piece was answered
  pub piece_ends : (taken held piece : List ℕ) (batch : Batch) (start now : Shown) → HasBegun answers longest taken held batch start now → EndsEarly answers (taken ++ piece) faults.NoMemory start now
  piece_ends taken held piece batch start now b = rest_ends answers (taken ++ piece) (b.line ++ piece) batch start now (rest_more answers taken b.line piece batch start now b.is_rest)

-- the source failed, and all lines that had ended were answered
pub ended_taken : (answers : Answers) (longest : ℕ) (taken held : List ℕ) (batch : Batch) (start now : Shown) → HasBegun answers longest taken held batch start now → TookEnded answers taken start now
ended_taken answers longest taken held batch start now b = (
  b.is_rest.done,
  b.line,
  batch.refused,
  (b.none, b.is_rest.cut),
  all_taken answers b.is_rest.done batch start now b.is_rest.so_far b.no_answer_waits,
)

-- the source moved no byte since
pub gave_still : (taken : List ℕ) (a b c : Shown) → Gave taken a b → Gave [] b c → Gave taken a c
gave_still taken a b c gave still = subst (λ t. Gave t a c) (append-nil taken) (gave_more taken [] a b c gave still)

-- the source is at its end
pub gave_none : (taken into : List ℕ) (count : ℕ) (a b c : Shown) → count ≡ 0 → Gave taken a b → Gave (take count into) b c → Gave taken a c
gave_none taken into count a b c none gave still = gave_still taken a b c gave (subst (λ n. Gave (take n into) b c) none still)

-- nothing came yet
pub stream_begun : (longest : ℕ) (answers : Answers) (refuses : ℕ → List ℕ → Type 0) (held : List ℕ) (batch : Batch) (start : Shown) → held ≡ [] → batch.text.items ≡ [] → batch.count ≡ 0 → batch.refused ≡ false
    → HasBegun (AnswersUpTo longest answers refuses) longest [] held batch start start
stream_begun longest answers refuses held batch start is empty none well = record {
  line = [];
  none = nothing_has_none;
  no_answer_waits = empty;
  is_held = nothing_held longest held is;
  is_rest = rest_begun (AnswersUpTo longest answers refuses) [] batch start empty none well;
  serves = λ front whole held. held_serves longest answers refuses front whole held;
}

-- the source gave nothing yet
pub none_taken : (answers : Answers) (source start : Shown) → EndsAfter answers [] source faults.NoMemory start start
none_taken answers source start = ([], inr (λ more. (lines_of more, refl)), ([], [], false, refl, ([], (refl, refl), took_nothing start, (refl, refl))))

-- the source met no fault
pub ends_each : (answers : Answers) (taken : List ℕ) (e : AnswerFault) (old new was now : Shown) → MetNoFault old new → EndsAfter answers taken new e was now → EndsEachIn answers taken (stream_fault e) old new was now
ends_each answers taken faults.WriteFailed old new was now none ends = (none, ends)
ends_each answers taken faults.NoMemory old new was now none ends = (none, ends)

-- it may give more
pub ends_before_end : (answers : Answers) (taken : List ℕ) (e : AnswerFault) (old new was now : Shown) → MetNoFault old new → EndsEarly answers taken e was now → EndsEachIn answers taken (stream_fault e) old new was now
ends_before_end answers taken e old new was now none (lines, begin, ends) = ends_each answers taken e old new was now none (lines, inr begin, ends)

-- it is at its end
pub ends_at_end : (answers : Answers) (taken : List ℕ) (e : AnswerFault) (old new was now : Shown) → MetNoFault old new → IsAtEnd new → EndsIn answers (lines_of taken) e was now
    → EndsEachIn answers taken (stream_fault e) old new was now
ends_at_end answers taken e old new was now none end ends = ends_each answers taken e old new was now none (lines_of taken, inl (end, refl), ends)

-- these faults aren't the source's
pub no_read_fault : (e : AnswerFault) → stream_fault e ≡ stream_faults.ReadFailed → ⊥
no_read_fault faults.WriteFailed is = cc
no_read_fault faults.NoMemory is = cc

-- a sink that held nothing back, or that was never used, is so still where it wasn't used since
pub passed_since : {K : Type 0} (P : K → Type 0) (first was now : K) → P now ⊎ (now ≡ was) → P was ⊎ (was ≡ first) → P now ⊎ (now ≡ first)
passed_since P first was now (inl passed) before = inl passed
passed_since P first was now (inr same) (inl passed) = inl (subst P (sym same) passed)
passed_since P first was now (inr same) (inr unused) = inr (same ∙ unused)
