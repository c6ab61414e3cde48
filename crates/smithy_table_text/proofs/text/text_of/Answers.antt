use Rattle.std.proofs.Common.{◌≡◌, ◌≤◌, ◌∙◌, List, ℕ, length, map, true, false, sym, subst, rules}
use Rattle.std.specs.Cmp.Lexicographic.{pointwise}
use Rattle.std.proofs.lemmas.Result.{err_from_is_err_and}
use Rattle.smithy_declarations.specs.declared.decl.Decl as kept
use Rattle.smithy_declarations.specs.DeclViews.{decl_of, IsLineFault}
use Rattle.smithy_declarations.specs.TableText.{declarations_of, declarations}
use Rattle.smithy_table_text.specs.Comparing.{same_decl}
use Rattle.smithy_table_text.specs.Writable.{longest_table}
use Rattle.smithy_table_text.proofs.Refused.{line_refused, others_refused, table_refused, is_text}
use Rattle.smithy_table_text.proofs.text.text_of.Goals as goal

pub returns-clause-text : goal.returns-clause-text
returns-clause-text c =
    let decls = map decl_of c.args.decls.now in
    let read = map decl_of c.in-Ok.read.items in
    let text = c.in_ok-text.text.items in
    let short : length text ≤ longest_table = search rules in
    let reads = subst (λ (t : List ℕ). declarations_of t ≡ declarations read) c.deref.ensures.value c.in-Ok.ensures.read in
    let equal = subst (λ (ds : List kept.Decl). pointwise same_decl decls (map decl_of ds) ≡ true) c.deref-2.ensures.value
    (sym c.are_equal.ensures ∙ c.if-not-are_equal.false) in
    is_text decls text c.in_ok-text.ensures short read reads equal _ c.in_ok-_shapes.ensures.built

pub returns-in-Err-clause-refused : goal.returns-in-Err-clause-refused
returns-in-Err-clause-refused c =
    let text = c.in_ok-text.text.items in
    let short : length text ≤ longest_table = search rules in
    let is = subst (λ (t : List ℕ). IsLineFault (declarations_of t) c.in-Err.fault) c.deref.ensures.value c.in-Err.ensures.refused in
    rw (c.fault_of_line.ensures) (line_refused (map decl_of c.args.decls.now) text c.in_ok-text.ensures short c.in-Err.fault is)

pub returns-then-not-are_equal-clause-refused : goal.returns-then-not-are_equal-clause-refused
returns-then-not-are_equal-clause-refused c =
    let decls = map decl_of c.args.decls.now in
    let read = map decl_of c.in-Ok.read.items in
    let text = c.in_ok-text.text.items in
    let short : length text ≤ longest_table = search rules in
    let reads = subst (λ (t : List ℕ). declarations_of t ≡ declarations read) c.deref.ensures.value c.in-Ok.ensures.read in
    let other = subst (λ (ds : List kept.Decl). pointwise same_decl decls (map decl_of ds) ≡ false) c.deref-2.ensures.value
    (sym c.are_equal.ensures ∙ c.if-not-are_equal.true) in
    others_refused decls text c.in_ok-text.ensures short read reads other

pub returns-in_err-_shapes-clause-refused : goal.returns-in_err-_shapes-clause-refused
returns-in_err-_shapes-clause-refused c =
    let p = err_from_is_err_and c.from_residual-in_err-_shapes.result c.from_residual-in_err-_shapes.ensures.1 in
    let decls = map decl_of c.args.decls.now in
    let read = map decl_of c.in-Ok.read.items in
    let text = c.in_ok-text.text.items in
    let short : length text ≤ longest_table = search rules in
    let reads = subst (λ (t : List ℕ). declarations_of t ≡ declarations read) c.deref.ensures.value c.in-Ok.ensures.read in
    let equal = subst (λ (ds : List kept.Decl). pointwise same_decl decls (map decl_of ds) ≡ true) c.deref-2.ensures.value
    (sym c.are_equal.ensures ∙ c.if-not-are_equal.false) in
    rw (p.1, p.2)
    (table_refused decls text c.in_ok-text.ensures short read reads equal c.in_err-_shapes.field-0.0 c.in_err-_shapes.ensures.refused)
