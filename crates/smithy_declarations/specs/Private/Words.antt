-- The words of a line, and what it says, as the program holds them.
use Rattle.std.specs.Prelude.{ℕ, List, map}
use Rattle.std.specs.Borrow.{Bor}
use Rattle.smithy_declarations.specs.declared.table_text.line.Line as kept
use Rattle.smithy_declarations.specs.declared.table_text.line.Line.TheVariants.{Declares, Adds}
use Rattle.smithy_declarations.specs.TableText.{Line, declares, adds}
use Rattle.smithy_declarations.specs.DeclViews.{decl_of, member_decl_of}

-- the texts that are borrowed
abbrev pub texts : List (Bor (List ℕ)) → List (List ℕ)
texts words = map (λ (w : Bor (List ℕ)). w.now) words

abbrev pub said_of : kept.Line → Line
said_of (Declares d) = declares (decl_of d)
said_of (Adds m) = adds (member_decl_of m)
