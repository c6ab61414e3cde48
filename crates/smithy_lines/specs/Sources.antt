-- The answers to the lines of a source, whose length has a limit.
use Rattle.std.specs.Prelude.{◌≡◌, ◌⊎◌, ◌≤◌, ◌<◌, ◌++◌, ℕ, List, length, Bool, true, Result, MatchResult}
use Rattle.smithy_outside.specs.Outside.{Shown, MetNoFault, MetOneFault, Gave, IsAtEnd}
use Rattle.smithy_lines.specs.declared.answer.StreamFault.{StreamFault}
use Rattle.smithy_lines.specs.declared.answer.StreamFault.TheVariants as faults
use Rattle.smithy_lines.specs.declared.answer.AnswerFault.{AnswerFault}
use Rattle.smithy_lines.specs.declared.answer.AnswerFault.TheVariants as answer_faults
use Rattle.smithy_lines.specs.Lines.{HasNoFeed, lines_of}
use Rattle.smithy_lines.specs.Answered.{Answers, TookAll, EndsIn}

-- A line of at most this many bytes has its answer. A longer line is refused, and the answer that refuses it is chosen by its number.
abbrev pub AnswersUpTo : ℕ → Answers → (ℕ → List ℕ → Type 0) → Answers
AnswersUpTo longest answers refuses n line answer refused =
    ((length line ≤ longest) × answers n line answer refused) ⊎ ((longest < length line) × refuses n answer × (refused ≡ true))

-- why not all lines of a source were answered, where the source didn't fail
abbrev pub stream_fault : AnswerFault → StreamFault
stream_fault answer_faults.WriteFailed = faults.WriteFailed
stream_fault answer_faults.NoMemory = faults.NoMemory

-- These lines of the bytes have ended, and another has begun with these bytes: so it is whatever comes after them.
abbrev pub HaveEnded : (taken : List ℕ) → (ended : List (List ℕ)) → (begun : List ℕ) → Type 0
HaveEnded taken ended begun = HasNoFeed begun × ((more : List ℕ) → lines_of (taken ++ more) ≡ ended ++ lines_of (begun ++ more))

-- a sink took the answers to all lines of these bytes that have ended
abbrev pub TookEnded : Answers → (taken : List ℕ) → Shown → Shown → Type 0
TookEnded answers taken old new =
    (ended : List (List ℕ)) × (begun : List ℕ) × (refused : Bool) × HaveEnded taken ended begun × TookAll answers ended refused old new

-- whatever comes after these bytes, their first lines are these
abbrev pub BeginWith : (taken : List ℕ) → (lines : List (List ℕ)) → Type 0
BeginWith taken lines = (more : List ℕ) → (rest : List (List ℕ)) × (lines_of (taken ++ more) ≡ lines ++ rest)

-- The answers to the first lines of a source that gave these bytes end with a fault of the sink, or since memory ran out. At the end of
-- the source its lines are those of the bytes. Before it only lines that have ended count: they come first, whatever comes next.
abbrev pub EndsAfter : Answers → (taken : List ℕ) → (source : Shown) → AnswerFault → (was now : Shown) → Type 0
EndsAfter answers taken source e was now =
    (lines : List (List ℕ)) × ((IsAtEnd source × (lines ≡ lines_of taken)) ⊎ BeginWith taken lines) × EndsIn answers lines e was now

-- The answers to the lines of these bytes of a source end with a fault after some of them. The source is `old` and then `new`, and the
-- sink `was` and then `now`. Each of them met one fault where the fault is its own, and else none. Where the source failed, all lines
-- that had ended were answered.
abbrev pub EndsEachIn : Answers → (taken : List ℕ) → StreamFault → (old new was now : Shown) → Type 0
EndsEachIn answers taken faults.ReadFailed old new was now = MetOneFault old new × TookEnded answers taken was now
EndsEachIn answers taken faults.WriteFailed old new was now = MetNoFault old new × EndsAfter answers taken new answer_faults.WriteFailed was now
EndsEachIn answers taken faults.NoMemory old new was now = MetNoFault old new × EndsAfter answers taken new answer_faults.NoMemory was now

-- The lines of what a source gave were answered to its end, and the result says whether one of them is refused; or the answers end with
-- a fault.
abbrev pub AnswersEach : Answers → Result Bool StreamFault → (old new was now : Shown) → Type 0
AnswersEach answers result old new was now =
    (taken : List ℕ) × Gave taken old new × MatchResult result
    (λ refused. IsAtEnd new × MetNoFault old new × TookAll answers (lines_of taken) refused was now)
    (λ e. EndsEachIn answers taken e old new was now)
