-- The commands of the program: the words that they are, and what a status says of each. Each command has a line in every list.
use Rattle.std.specs.Prelude.{List, [], ◌∷◌, ℕ, Option, None, option_map, if◌then◌else◌, codes, bytes_eq}
use Rattle.smithy_outside.specs.Outside.{Environment}
use Rattle.smithy_commands.specs.declared.commands.Command as kept
use Rattle.smithy_commands.specs.declared.commands.Command.TheVariants as commands
use Rattle.smithy_commands.specs.declared.status.Status.{Status}
use Rattle.smithy_commands.specs.Transcode.{Transcode, transcode_of, transcode_view, TranscodeAnswer}
use Rattle.smithy_commands.specs.Gen.{Gen, gen_of, gen_view, GenAnswer}
use Rattle.smithy_commands.specs.Compare.{Compare, compare_of, compare_view, CompareAnswer}
use Rattle.smithy_commands.specs.Lines.{Lines, lines_asked, lines_view, LinesAnswer}
use Rattle.smithy_commands.specs.Replay.{Replay, replay_of, replay_view, ReplayAnswer}
use Rattle.smithy_commands.specs.Lint.{Lint, lint_of, lint_view, LintAnswer}
use Rattle.smithy_commands.specs.Form.{Form, form_of, form_view, FormAnswer}

pub data Command : Type 0 where
  transcode : Transcode → Command
  gen : Gen → Command
  compare : Compare → Command
  lines : Lines → Command
  replay : Replay → Command
  lint : Lint → Command
  form : Form → Command

-- the command that the words are, by the first of them
abbrev pub command_of : List (List ℕ) → Option Command
command_of [] = None
command_of (keyword ∷ words) =
    if bytes_eq keyword (codes "transcode") then option_map transcode (transcode_of words)
    else if bytes_eq keyword (codes "gen") then option_map gen (gen_of words)
    else if bytes_eq keyword (codes "compare") then option_map compare (compare_of words)
    else if bytes_eq keyword (codes "lines") then option_map lines (lines_asked words)
    else if bytes_eq keyword (codes "replay") then option_map replay (replay_of words)
    else if bytes_eq keyword (codes "lint") then option_map lint (lint_of words)
    else if bytes_eq keyword (codes "form") then option_map form (form_of words)
    else None

-- what a status says where the words are this command
abbrev pub CommandAnswer : Command → Environment → Environment → Status → Type 0
CommandAnswer (transcode c) = TranscodeAnswer c
CommandAnswer (gen c) = GenAnswer c
CommandAnswer (compare c) = CompareAnswer c
CommandAnswer (lines c) = LinesAnswer c
CommandAnswer (replay c) = ReplayAnswer c
CommandAnswer (lint c) = LintAnswer c
CommandAnswer (form c) = FormAnswer c

-- the command as plain data
abbrev pub command_view : kept.Command → Command
command_view (commands.Transcode c) = transcode (transcode_view c)
command_view (commands.Gen c) = gen (gen_view c)
command_view (commands.Compare c) = compare (compare_view c)
command_view (commands.Lines c) = lines (lines_view c)
command_view (commands.Replay c) = replay (replay_view c)
command_view (commands.Lint c) = lint (lint_view c)
command_view (commands.Form c) = form (form_view c)
