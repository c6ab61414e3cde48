-- Why declarations have no text.
use Rattle.std.proofs.Common.{◌≡◌, ◌≢◌, ◌≤◌, ◌∙◌, ℕ, List, length, sym, ap, subst, true≢false}
use Rattle.std.specs.Prelude.{true, false}
use Rattle.std.specs.Cmp.Lexicographic.{pointwise}
use Rattle.smithy_declarations.specs.declared.fault.TableFault.{TableFault}
use Rattle.smithy_declarations.specs.declared.fault.TableFault.TheVariants as table_faults
use Rattle.smithy_declarations.specs.Decl.{Decl}
use Rattle.smithy_declarations.specs.DeclViews.{IsRefusedBy, IsLineFault}
use Rattle.smithy_declarations.specs.Table.{Table}
use Rattle.smithy_declarations.specs.TableText.{Lines, declarations_of, declarations}
use Rattle.smithy_declarations.specs.Acceptance.{accepted, refused, bad_line, build_of}
use Rattle.smithy_table_text.specs.declared.fault.TextFault.TheVariants as faults
use Rattle.smithy_table_text.specs.TableLines.{table_text}
use Rattle.smithy_table_text.specs.Comparing.{same_decl}
use Rattle.smithy_table_text.specs.Writable.{longest_table, IsTextOf, IsShort, RefusesDecls, fault_of_table, fault_of_line}
use Rattle.smithy_table_text.proofs.Sameness.{decls_decide}

module _ (decls : List Decl) (text : List ℕ) (written : text ≡ table_text decls) (short : length text ≤ longest_table) where
  is_short : IsShort decls
  is_short = subst (λ t. length t ≤ longest_table) written short

  bad : (n : ℕ) → declarations_of text ≡ Lines.bad_line n → declarations_of (table_text decls) ≢ declarations decls
  bad n is same = cc (ap declarations_of written, is, same)

  -- a line that isn't read
  pub line_refused : (fault : TableFault) → IsLineFault (declarations_of text) fault → RefusesDecls decls (fault_of_line fault)
  line_refused (table_faults.BadLine n) is = (is_short, bad n is)
  line_refused (table_faults.FloatShape n) is = absurd is
  line_refused (table_faults.UnknownTarget n) is = absurd is
  line_refused (table_faults.UnknownTimeFormat n) is = absurd is
  line_refused (table_faults.DuplicateShape n) is = absurd is
  line_refused (table_faults.NameClash n) is = absurd is
  line_refused (table_faults.QueryName n) is = absurd is
  line_refused (table_faults.KeyValueName n) is = absurd is
  line_refused (table_faults.SparseDocument n) is = absurd is
  line_refused (table_faults.TooMany n) is = absurd is
  line_refused table_faults.NoMemory is = tt

  module _ (read : List Decl) (reads : declarations_of text ≡ declarations read) where
    -- it reads as others
    pub others_refused : pointwise same_decl decls read ≡ false → RefusesDecls decls faults.Unwritable
    others_refused other = (
      is_short,
      λ same.
          let equal : decls ≡ read = cc (ap declarations_of written, reads, same) in
          true≢false (sym ((decls_decide decls read).1 equal) ∙ other),
    )

    module _ (equal : pointwise same_decl decls read ≡ true) where
      same : read ≡ decls
      same = sym ((decls_decide decls read).0 equal)

      reads_so : declarations_of (table_text decls) ≡ declarations decls
      reads_so = sym (ap declarations_of written) ∙ reads ∙ ap declarations same

      by_table : (fault : TableFault) → IsRefusedBy (build_of read) fault → IsRefusedBy (build_of decls) fault
      by_table fault = subst (λ ds. IsRefusedBy (build_of ds) fault) same

      -- they are refused as a table
      pub table_refused : (fault : TableFault) → IsRefusedBy (build_of read) fault → RefusesDecls decls (fault_of_table fault)
      table_refused (table_faults.BadLine n) is = (is_short, reads_so, by_table (table_faults.BadLine n) is)
      table_refused (table_faults.FloatShape n) is = (is_short, reads_so, by_table (table_faults.FloatShape n) is)
      table_refused (table_faults.UnknownTarget n) is = (is_short, reads_so, by_table (table_faults.UnknownTarget n) is)
      table_refused (table_faults.UnknownTimeFormat n) is = (is_short, reads_so, by_table (table_faults.UnknownTimeFormat n) is)
      table_refused (table_faults.DuplicateShape n) is = (is_short, reads_so, by_table (table_faults.DuplicateShape n) is)
      table_refused (table_faults.NameClash n) is = (is_short, reads_so, by_table (table_faults.NameClash n) is)
      table_refused (table_faults.QueryName n) is = (is_short, reads_so, by_table (table_faults.QueryName n) is)
      table_refused (table_faults.KeyValueName n) is = (is_short, reads_so, by_table (table_faults.KeyValueName n) is)
      table_refused (table_faults.SparseDocument n) is = (is_short, reads_so, by_table (table_faults.SparseDocument n) is)
      table_refused (table_faults.TooMany n) is = (is_short, reads_so, by_table (table_faults.TooMany n) is)
      table_refused table_faults.NoMemory is = tt

      -- they are a table
      pub is_text : (table : Table) → build_of read ≡ accepted table → IsTextOf decls text
      is_text table is = record {
        written = written;
        short = short;
        reads = reads ∙ ap declarations same;
        table = table;
        accepted_as = subst (λ l. elim l [ declarations ds ↦ build_of ds | Lines.bad_line n ↦ refused bad_line n ] ≡ accepted table) (sym reads) is;
      }
