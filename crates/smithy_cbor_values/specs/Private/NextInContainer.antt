-- What comes next in a container, as private functions answer it.
use Rattle.std.specs.Prelude.{ℕ, List, Option, Some, None}
use Rattle.smithy_schema.specs.Reading.{Mark}
use Rattle.smithy_cbor_values.specs.declared.places.EntryOrEnd.{EntryOrEnd}
use Rattle.smithy_cbor_values.specs.declared.places.EntryOrEnd.TheVariants.{Entry, End}
use Rattle.smithy_cbor_values.specs.Standing.{HasEntry, IsOver, mark_with}

-- in a container with so many entries due comes this, exactly
abbrev pub IsEntryOrEnd : List ℕ → ℕ → Option ℕ → Option EntryOrEnd → Type 0
IsEntryOrEnd input at due (Some (Entry n)) = HasEntry input at (mark_with due) (mark_with n)
IsEntryOrEnd input at due (Some (End e)) = IsOver input at (mark_with due) e
IsEntryOrEnd input at due None =
    ((n : Mark) → HasEntry input at (mark_with due) n → ⊥) × ((e : ℕ) → IsOver input at (mark_with due) e → ⊥)
