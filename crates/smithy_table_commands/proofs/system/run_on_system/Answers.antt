use Rattle.std.proofs.Common.{◌≡◌, ◌∙◌, inl, inr, ℕ, List, Bool, ap, refl, Ok, Err, IfErr, IfOk, map, string_bytes, String, false, sym, subst}
use Rattle.std.specs.declared.alloc.Global.{Global}
use Rattle.std.specs.IoError.{error_kind}
use Rattle.std.specs.Process.{exit_status}
use Rattle.smithy_table_commands.specs.declared.status.Status.{Status}
use Rattle.smithy_table_commands.specs.declared.status.Status.TheVariants.{Usage, OutOfMemory}
use Rattle.smithy_table_commands.specs.Status.{status_code, is_answer, line_of}
use Rattle.smithy_outside.specs.Outside.{Shown, TookLine}
use Rattle.smithy_table_commands.specs.RunAnswer.{RunAnswer}
use Rattle.smithy_outside.specs.Os.{only_counts, words_of, IsUnread}
use Rattle.smithy_table_commands.specs.System.{EndsWithLine, EndsAsRun, EndsUnread}
use Rattle.smithy_outside.proofs.Process.{Arguments, read_with_words, none_without_arguments, unread_is_no_answer}
use Rattle.smithy_table_commands.proofs.system.run_on_system.Goals as goal

-- a run over files and streams that met no fault before
ends_as_run : (words : List (List ℕ)) (files out err : ℕ) (new : List ℕ → Shown) (new_out new_err : Shown) (was_held out_held err_held : Bool) (ran code : ℕ)
    → files ≡ 0 → out ≡ 0 → err ≡ 0 → was_held ≡ false → code ≡ ran
    → RunAnswer words (λ path. only_counts files) new (only_counts out) new_out (only_counts err) new_err was_held out_held err_held ran → EndsAsRun words code
ends_as_run words files out err new new_out new_err was_held out_held err_held ran code f o e h is answer =
    subst (EndsAsRun words) (sym is) (inl (new, new_out, new_err, out_held, err_held, rw (f, o, e, h) at answer))

-- a line, and no run
ends_with_line : (status : Status) (err : ℕ) (behind : Shown) (held : Bool) (code : ℕ) → is_answer status ≡ false → err ≡ 0
    → (is_answer status ≡ false → TookLine (line_of status) (only_counts err) behind held) → code ≡ status_code status → EndsWithLine status code
ends_with_line status err behind held code other e took is =
    (behind, held, subst (λ (n : ℕ). TookLine (line_of status) (only_counts n) behind held) e (took other), is)

-- where no words are there, by the arguments
read_as_none : (arguments : Arguments) (status : Status) (code : ℕ) → IfOk arguments (λ _. status ≡ OutOfMemory)
    → (is_answer status ≡ false → EndsWithLine status code) → IfOk arguments (λ a. EndsAsRun (words_of a) code)
read_as_none (Ok a) status code is line =
    inr (subst (λ (s : Status). EndsWithLine s code) is (line (ap is_answer is)))
read_as_none (Err e) status code is line = tt

unread_as_none : (arguments : Arguments) (status : Status) (code : ℕ) → IfErr arguments (λ e. IsUnread Usage OutOfMemory (error_kind e) status)
    → (is_answer status ≡ false → EndsWithLine status code) → IfErr arguments (λ e. EndsUnread (error_kind e) code)
unread_as_none (Ok a) status code is line = tt
unread_as_none (Err e) status code is line = (status, is, line (unread_is_no_answer is_answer Usage OutOfMemory refl refl (error_kind e) status is))

pub returns : goal.returns
returns g c =
    let words = map string_bytes c.deref.result.now in
    let code = exit_status c.from-2.result in
    let read = subst (λ (ws : List (String Global)). IfOk c.args.arguments (λ a. map string_bytes ws ≡ words_of a))
    (sym c.deref.ensures.value) c.in-Ok.ensures.read in
    record {
      read = read_with_words (λ ws. EndsAsRun ws code) c.args.arguments words read
          (ends_as_run words c.new-files.result.faults c.new-out.result.faults c.new-err.result.faults _ _ _ c.new-out.result.is_unfinished _ _ c.run-code.result code c.new-files.ensures c.new-out.ensures.faults
          c.new-err.ensures.faults c.new-out.ensures.finished c.from-2.ensures c.run-code.ensures);
      unread = none_without_arguments (λ kind. EndsUnread kind code) c.args.arguments c.in-Ok.ensures.unread;
    }

pub returns-in-Err : goal.returns-in-Err
returns-in-Err g c =
    let status = c.in-Err.status in
    let code = exit_status c.from.result in
    let line : is_answer status ≡ false → EndsWithLine status code = λ other. ends_with_line status c.new-err.result.faults (only_counts c.report.new.err.faults) c.report.new.err.is_unfinished code
    other c.new-err.ensures.faults c.report.ensures.line (c.from.ensures ∙ c.code.ensures) in
    record {
      read = read_as_none c.args.arguments status code c.in-Err.ensures.read line;
      unread = unread_as_none c.args.arguments status code c.in-Err.ensures.unread line;
    }
