-- The answers to lines, and what a sink took of them.
use Rattle.std.specs.Prelude.{◌≡◌, ◌++◌, ℕ, suc, List, [], ◌∷◌, Bool, false, ◌||◌, Result, MatchResult}
use Rattle.smithy_outside.specs.Outside.{Shown, MetNoFault, MetOneFault, Took, TookPrefix}
use Rattle.smithy_lines.specs.declared.answer.AnswerFault.{AnswerFault}
use Rattle.smithy_lines.specs.declared.answer.AnswerFault.TheVariants as faults
use Rattle.smithy_lines.specs.Lines.{line_feed, HasNoFeed}

-- what the answer to a line with this number may be, and whether it refuses the line
abbrev pub Answers : Type 1
Answers = ℕ → List ℕ → List ℕ → Bool → Type 0

-- The text has an answer for each line, in their order, and a line feed after each answer. No answer has one, so the lines of the text
-- are the answers. The first line has this number. The last argument says whether one of the lines is refused.
abbrev pub Answered : Answers → ℕ → List (List ℕ) → List ℕ → Bool → Type 0
Answered answers n [] text refused = (text ≡ []) × (refused ≡ false)
Answered answers n (line ∷ lines) text refused =
    (answer more : List ℕ) × (is others : Bool) × answers n line answer is × HasNoFeed answer
    × Answered answers (suc n) lines more others × (text ≡ answer ++ line_feed ∷ more) × (refused ≡ (is || others))

-- a sink took the answers to all of these lines, and met no fault
abbrev pub TookAll : Answers → List (List ℕ) → Bool → Shown → Shown → Type 0
TookAll answers lines refused old new =
    (text : List ℕ) × Answered answers 1 lines text refused × Took text old new × MetNoFault old new

-- a sink took a prefix of the answers to the first of these lines
abbrev pub TookFront : Answers → List (List ℕ) → Shown → Shown → Type 0
TookFront answers lines old new =
    (front rest : List (List ℕ)) × (text : List ℕ) × (refused : Bool) × (lines ≡ front ++ rest) × Answered answers 1 front text refused
    × TookPrefix text old new

-- a sink took the answers to the first of these lines, and met no fault
abbrev pub TookSome : Answers → List (List ℕ) → Shown → Shown → Type 0
TookSome answers lines old new =
    (front rest : List (List ℕ)) × (refused : Bool) × (lines ≡ front ++ rest) × TookAll answers front refused old new

-- The answers to these lines end with a fault after some of them. A sink that failed may have taken a part of an answer.
abbrev pub EndsIn : Answers → List (List ℕ) → AnswerFault → Shown → Shown → Type 0
EndsIn answers lines faults.WriteFailed old new = MetOneFault old new × TookFront answers lines old new
EndsIn answers lines faults.NoMemory old new = TookSome answers lines old new

-- the lines were answered, and the result says whether one of them is refused; or the answers end with a fault
abbrev pub AnswersAll : Answers → List (List ℕ) → Result Bool AnswerFault → Shown → Shown → Type 0
AnswersAll answers lines result old new = MatchResult result (λ refused. TookAll answers lines refused old new) (λ e. EndsIn answers lines e old new)
