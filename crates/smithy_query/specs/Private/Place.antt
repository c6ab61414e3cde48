-- A place for a value, at the end of a text, where there is memory for its path.
use Rattle.std.specs.Prelude.{◌≡◌, Result, Ok, Err, ℕ, suc, ⊤, String, string_bytes}
use Rattle.std.specs.Borrow.{RestsIfErr, MutBor, Fml, follows}
use Rattle.std.specs.declared.alloc.AllocError.{AllocError}
use Rattle.std.specs.declared.alloc.Global.{Global}
use Rattle.smithy_query.specs.declared.writer.NextPlace.{NextPlace}
use Rattle.smithy_query.specs.Writer.{ValueWriter, ListWriter, MapWriter, string_row, value_row, list_row, map_row, value_borrow, value_prefix, with_value_text}

abbrev pub Place : Type 0
Place = NextPlace (Result (String Global) AllocError)

-- the result is a writer of a value there, or there is no path
abbrev pub IsWriterOf : MutBor (String Global) → Result (String Global) AllocError → Result ValueWriter AllocError → Type 0
IsWriterOf output (Ok path) (Ok w) = (w.output ≡ output) × (value_prefix w ≡ string_bytes path)
IsWriterOf output (Ok path) (Err error) = ⊥
IsWriterOf output (Err error) (Ok w) = ⊥
IsWriterOf output (Err error) (Err same) = ⊤

-- without a writer the text stays as it was
abbrev pub RestsWithoutValue : MutBor (String Global) → Result ValueWriter AllocError → Fml
RestsWithoutValue output result =
    RestsIfErr string_row output value_borrow result
    (λ end. string_bytes end ≡ string_bytes output.now)

-- the number of the part behind one that is counted where it has a path
abbrev pub counted : Result (String Global) AllocError → ℕ → ℕ
counted (Ok path) i = suc i
counted (Err error) i = i

-- what is written through the borrow is the value's text
abbrev pub LendsFurther : MutBor ValueWriter → Place → Fml
LendsFurther w place = follows value_row string_row w.ghost_name place.output.ghost_name (with_value_text w.now)

-- what is written through the borrow is the list's text, and an element is counted that has a path
abbrev pub LendsNextElement : MutBor ListWriter → Place → Fml
LendsNextElement w place =
    follows list_row string_row w.ghost_name place.output.ghost_name
    (λ text. record w.now { output = record w.now.output { now = text }; next_index = counted place.path w.now.next_index })

-- what is written through the borrow is the map's text, and an entry is counted that has a path
abbrev pub LendsNextEntry : MutBor MapWriter → Place → Fml
LendsNextEntry w place =
    follows map_row string_row w.ghost_name place.output.ghost_name
    (λ text. record w.now { output = record w.now.output { now = text }; next_index = counted place.path w.now.next_index })
