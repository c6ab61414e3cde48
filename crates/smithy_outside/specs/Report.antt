-- The line on standard error that tells how a run of a program ended.
use Rattle.std.specs.Prelude.{◌++◌, ℕ, List, codes, decimal}

-- a fault by its name, a space and its number
abbrev pub numbered : (name : List ℕ) → (number : ℕ) → List ℕ
numbered name number = name ++ (codes " " ++ decimal number)

-- the program's name, and what it says
abbrev pub report_line : (program text : List ℕ) → List ℕ
report_line program text = program ++ (codes ": " ++ (text ++ codes "\n"))
