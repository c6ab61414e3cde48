-- What was answered so far.
use Rattle.std.specs.Prelude.{◌≡◌, ◌++◌, ◌+◌, ℕ, List, [], take, length, Bool}
use Rattle.smithy_outside.specs.Outside.{Shown, MetNoFault, Took}
use Rattle.smithy_lines.specs.declared.answer.AnswerFault.{AnswerFault}
use Rattle.smithy_lines.specs.declared.batch.Batch.{Batch}
use Rattle.smithy_lines.specs.Lines.{lines_of, HasNoFeed}
use Rattle.smithy_lines.specs.Answered.{Answers, Answered, EndsIn}
use Rattle.smithy_lines.specs.Sources.{BeginWith}

-- Since a sink was as at the start, these lines were answered: what it took and what waits are their answers. It took whole answers.
pub record IsSoFar (answers : Answers) (done : List (List ℕ)) (batch : Batch) (start now : Shown) : Type 0 where
  pub written : List ℕ
  pub answered : Answered answers 1 done (written ++ batch.text.items) batch.refused
  pub whole : (front rest : List (List ℕ)) × (was : Bool) × (done ≡ front ++ rest) × Answered answers 1 front written was
  pub counted : batch.count ≡ length done
  pub took : Took written start now
  pub no_fault : MetNoFault start now

-- The bytes that were taken so far end with the rest, and all lines before the rest were answered. More bytes may follow.
pub record IsRest (answers : Answers) (taken rest : List ℕ) (batch : Batch) (start now : Shown) : Type 0 where
  pub done : List (List ℕ)
  pub cut : (more : List ℕ) → lines_of (taken ++ more) ≡ done ++ lines_of (rest ++ more)
  pub so_far : IsSoFar answers done batch start now

-- the answers end with a fault after some of the lines that are the first, whatever comes after these bytes
abbrev pub EndsEarly : Answers → (taken : List ℕ) → AnswerFault → Shown → Shown → Type 0
EndsEarly answers taken e start now = (lines : List (List ℕ)) × BeginWith taken lines × EndsIn answers lines e start now

-- each answer to the first line is one to the second, too
abbrev pub ServesFor : Answers → List ℕ → List ℕ → Type 0
ServesFor answers first second = (n : ℕ) (answer : List ℕ) (refused : Bool) → answers n first answer refused → answers n second answer refused

-- bytes of which one more than the limit are held at most
abbrev pub IsHeld : ℕ → List ℕ → List ℕ → Type 0
IsHeld longest held bytes = held ≡ take (longest + 1) bytes

-- A line has begun, no answer waits, and what is held serves for the line.
pub record HasBegun (answers : Answers) (longest : ℕ) (taken held : List ℕ) (batch : Batch) (start now : Shown) : Type 0 where
  pub line : List ℕ
  pub none : HasNoFeed line
  pub no_answer_waits : batch.text.items ≡ []
  pub is_held : IsHeld longest held line
  pub is_rest : IsRest answers taken line batch start now
  pub serves : (front whole : List ℕ) → IsHeld longest front whole → ServesFor answers front whole
