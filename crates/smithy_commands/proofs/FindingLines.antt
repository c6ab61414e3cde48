-- The lines of findings that are written in part.
use Rattle.std.proofs.Common.{◌≡◌, ◌<◌, ◌+◌, ℕ, List, [], ◌∷◌, ◌++◌, map as mapped, drop, get_or, length, codes, refl, sym, append_assoc, append-nil, add-one, drop-cons}
use Rattle.smithy_declarations.specs.Table.{Table}
use Rattle.smithy_compare.specs.PathText.{text_of_path}
use Rattle.smithy_lint.specs.Findings.{Found}
use Rattle.smithy_commands.specs.Lint.{kind_text, finding_lines}

module _ (table : Table) (root : ℕ) where
  -- before the first
  pub begun : (found : List Found) (lines : List ℕ) → lines ≡ [] → finding_lines table root found ≡ lines ++ finding_lines table root found
  begun found lines empty = rw empty refl

  -- a line, and what follows it
  line_first : (path kind more : List ℕ) → path ++ codes " " ++ kind ++ codes "\n" ++ more ≡ path ++ (codes " " ++ (kind ++ (codes "\n" ++ more)))
  line_first path kind more = rw (append_assoc, append_assoc, append_assoc) refl

  -- one line more, which is written in four pieces
  pub line_written : {F : Type 0} (view : F → Found) (all : List F) (i : ℕ) (f : F) (whole old path space kind new : List ℕ) → i < length all → f ≡ get_or all i f
      → whole ≡ old ++ finding_lines table root (mapped view (drop i all))
      → path ≡ old ++ text_of_path table root (view f).path → space ≡ path ++ codes " " → kind ≡ space ++ kind_text (view f).kind → new ≡ kind ++ codes "\n"
      → whole ≡ new ++ finding_lines table root (mapped view (drop (i + 1) all))
  line_written view all i f whole old path space kind new within is told first second third last =
      let next : drop i all ≡ f ∷ drop (i + 1) all = rw (drop-cons all i f within, ← is, add-one) refl in
      let now = rw (next, line_first (text_of_path table root (view f).path) (kind_text (view f).kind) (finding_lines table root (mapped view (drop (i + 1) all)))) at told in
      rw (last, third, second, first, append_assoc, append_assoc, append_assoc, append_assoc) now

  -- after the last
  pub all_written : {F : Type 0} (view : F → Found) (rest : List F) (whole lines : List ℕ) → rest ≡ [] → whole ≡ lines ++ finding_lines table root (mapped view rest) → lines ≡ whole
  all_written view rest whole lines done told = sym (rw (done, append-nil) at told)
