-- What a text that is no table says.
use Rattle.std.proofs.Common.{◌≡◌, ◌∙◌, ℕ, List, refl}
use Rattle.smithy_declarations.specs.declared.fault.TableFault.{TableFault}
use Rattle.smithy_declarations.specs.declared.fault.TableFault.TheVariants.{BadLine, FloatShape, UnknownTarget, UnknownTimeFormat, DuplicateShape, NameClash, QueryName, KeyValueName, SparseDocument, TooMany, NoMemory}
use Rattle.smithy_declarations.specs.Decl.{Decl}
use Rattle.smithy_declarations.specs.TableText.{Lines, declarations, declarations_of}
use Rattle.smithy_declarations.specs.Acceptance.{bad_line, refused, build_of, table_of}
use Rattle.smithy_declarations.specs.DeclViews.{IsRefusedBy, IsLineFault}
use Rattle.smithy_transcode_c.specs.Refusals.{refusal_of_table_fault}
use Rattle.smithy_transcode_c.specs.Calls.{RefusesTable}

table_of_bad_line : (text : List ℕ) (n : ℕ) → declarations_of text ≡ Lines.bad_line n → table_of text ≡ refused bad_line n
table_of_bad_line text n e = rw (e, table_of) refl

table_of_declarations : (text : List ℕ) (decls : List Decl) → declarations_of text ≡ declarations decls → table_of text ≡ build_of decls
table_of_declarations text decls e = rw (e, table_of) refl

-- a line that is of no form
pub line_refuses : (text : List ℕ) (fault : TableFault) → IsLineFault (declarations_of text) fault
    → RefusesTable text (refusal_of_table_fault fault)
line_refuses text (BadLine n) e = (_, n, table_of_bad_line text n e)
line_refuses text (FloatShape n) e = absurd e
line_refuses text (UnknownTarget n) e = absurd e
line_refuses text (UnknownTimeFormat n) e = absurd e
line_refuses text (DuplicateShape n) e = absurd e
line_refuses text (NameClash n) e = absurd e
line_refuses text (QueryName n) e = absurd e
line_refuses text (KeyValueName n) e = absurd e
line_refuses text (SparseDocument n) e = absurd e
line_refuses text (TooMany n) e = absurd e
line_refuses text NoMemory e = tt

-- declarations that are no table
pub build_refuses : (text : List ℕ) (decls : List Decl) (fault : TableFault) → declarations_of text ≡ declarations decls
    → IsRefusedBy (build_of decls) fault → RefusesTable text (refusal_of_table_fault fault)
build_refuses text decls (BadLine n) e r = (_, n, table_of_declarations text decls e ∙ r)
build_refuses text decls (FloatShape n) e r = (_, n, table_of_declarations text decls e ∙ r)
build_refuses text decls (UnknownTarget n) e r = (_, n, table_of_declarations text decls e ∙ r)
build_refuses text decls (UnknownTimeFormat n) e r = (_, n, table_of_declarations text decls e ∙ r)
build_refuses text decls (DuplicateShape n) e r = (_, n, table_of_declarations text decls e ∙ r)
build_refuses text decls (NameClash n) e r = (_, n, table_of_declarations text decls e ∙ r)
build_refuses text decls (QueryName n) e r = (_, n, table_of_declarations text decls e ∙ r)
build_refuses text decls (KeyValueName n) e r = (_, n, table_of_declarations text decls e ∙ r)
build_refuses text decls (SparseDocument n) e r = (_, n, table_of_declarations text decls e ∙ r)
build_refuses text decls (TooMany n) e r = (_, n, table_of_declarations text decls e ∙ r)
build_refuses text decls NoMemory e r = tt
