-- How a process ends by its arguments: the steps that every program has.
use Rattle.std.proofs.Common.{◌≡◌, ◌≢◌, ℕ, List, Bool, true, false, Result, Ok, Err, IfErr, IfOk, String, refl, ap, subst}
use Rattle.std.specs.declared.alloc.Global.{Global}
use Rattle.std.specs.declared.io.Error.{Error}
use Rattle.std.specs.declared.io.ErrorKind.{ErrorKind}
use Rattle.std.specs.declared.io.ErrorKind.TheVariants as kinds
use Rattle.std.specs.declared.vec.IntoIter.{IntoIter}
use Rattle.std.specs.IoError.{error_kind}
use Rattle.smithy_outside.specs.Os.{words_of, IsUnread}

-- what `env::args` answers
abbrev pub Arguments : Type 0
Arguments = Result (IntoIter (String Global) Global) Error

-- where the words were read
pub read_with_words : (ends : List (List ℕ) → Type 0) (arguments : Arguments) (words : List (List ℕ)) → IfOk arguments (λ a. words ≡ words_of a) → ends words
    → IfOk arguments (λ a. ends (words_of a))
read_with_words ends (Ok a) words are ended = subst ends are ended
read_with_words ends (Err e) words are ended = tt

-- and where they weren't, no words are there
pub none_without_arguments : (ends : ErrorKind → Type 0) (arguments : Arguments) → IfErr arguments (λ _. ⊥) → IfErr arguments (λ e. ends (error_kind e))
none_without_arguments ends (Ok a) none = tt
none_without_arguments ends (Err e) none = absurd none

not_true : (b : Bool) → (b ≡ true → ⊥) → b ≡ false
not_true false never = refl
not_true true never = absurd (never refl)

-- wrong words and want of memory are no answers of the program
module _ {S : Type 0} (is_answer : S → Bool) (usage out_of_memory : S) (no_usage : is_answer usage ≡ false) (no_memory : is_answer out_of_memory ≡ false) where
  not_answered : (status other : S) → status ≡ other → is_answer other ≡ false → is_answer status ≡ true → ⊥
  not_answered status other is none answer = let all = ap is_answer is in absurd (cc (all, none, answer))

  pub unread_is_no_answer : (kind : ErrorKind) (status : S) → IsUnread usage out_of_memory kind status → is_answer status ≡ false
  unread_is_no_answer kind status is = not_true (is_answer status) (λ answer.
      let other : kind ≢ kinds.OutOfMemory = λ wanting. not_answered status out_of_memory (is.0 wanting) no_memory answer in
      not_answered status usage (is.1 other) no_usage answer)
