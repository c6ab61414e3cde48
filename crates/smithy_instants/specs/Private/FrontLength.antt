-- How many bytes a date takes at the front of a text.
use Rattle.std.specs.Prelude.{ℕ, ◌+◌, ◌==◌, Bool, ◌&&◌, ◌||◌, if◌then◌else◌, List, [], ◌∷◌, drop}
use Rattle.std.specs.Str.{byte}
use Rattle.smithy_instants.specs.DateText.{fraction_length}

-- a sign and `HH:MM`, or one letter
abbrev pub zone_length : Bool → List ℕ → ℕ
zone_length others [] = 1
zone_length others (c ∷ text) = if others && (c == byte "+" || c == byte "-") then 6 else 1

-- the text from this place on is a fraction and a zone
abbrev pub date_time_length : Bool → List ℕ → ℕ
date_time_length others text =
    let rest = drop 19 text in
    let size = fraction_length rest in 19 + size + zone_length others (drop size rest)

-- a fraction and ` GMT`
abbrev pub http_date_length : List ℕ → ℕ
http_date_length text = 25 + fraction_length (drop 25 text) + 4
