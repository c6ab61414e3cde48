-- The words of the program for tables, and the tasks that they ask for.
use Rattle.std.specs.Prelude.{List, [], ◌∷◌, ℕ, Bool, true, false, Option, Some, None, option_map, if◌then◌else◌, codes, bytes_eq}
use Rattle.smithy_model_table.specs.Wanted.{Wanted, input, output, shape, service}

-- [partial] WAY MODEL NAME
pub record Task : Type 0 where
  pub model_path : List ℕ
  pub wanted : Wanted
  -- members that a body may have may be left out
  pub is_partial : Bool

-- input, output or shape, by a name
abbrev pub wanted_named : List ℕ → List ℕ → Option Wanted
wanted_named way name =
    if bytes_eq way (codes "input") then Some (input name)
    else if bytes_eq way (codes "output") then Some (output name)
    else if bytes_eq way (codes "shape") then Some (shape name)
    else None

-- WAY MODEL NAME, or service MODEL
abbrev pub task_of : Bool → List (List ℕ) → Option Task
task_of is_partial (way ∷ model ∷ []) =
    if bytes_eq way (codes "service")
    then Some (record { model_path = model; wanted = service; is_partial = is_partial })
    else None
task_of is_partial (way ∷ model ∷ name ∷ []) =
    option_map (λ wanted. record { model_path = model; wanted = wanted; is_partial = is_partial })
    (wanted_named way name)
task_of is_partial _ = None

-- the task that the words ask for
abbrev pub command_of : List (List ℕ) → Option Task
command_of [] = None
command_of (first ∷ rest) =
    if bytes_eq first (codes "partial") then task_of true rest else task_of false (first ∷ rest)
