use Rattle.std.proofs.Common.{List, map, subst}
use Rattle.std.proofs.lemmas.Result.{err_from_is_err_and}
use Rattle.smithy_model.specs.Views.{model_view}
use Rattle.smithy_declarations.specs.declared.decl.Decl as kept
use Rattle.smithy_declarations.specs.DeclViews.{decl_of}
use Rattle.smithy_table_text.specs.Writable.{IsTextOf, RefusesDecls}
use Rattle.smithy_model_table.specs.Views.{left_view, wanted_view}
use Rattle.smithy_model_table.proofs.Refused.{text_refused}
use Rattle.smithy_model_table.proofs.table.table_of.Goals as goal

pub returns-clause-table : goal.returns-clause-table
returns-clause-table c = record {
  decls = map decl_of c.in_ok-declared.declared.decls.items;
  made = c.in_ok-declared.ensures.made;
  is_text = subst (λ (ds : List kept.Decl). IsTextOf (map decl_of ds) c.in_ok-text.text.items) c.deref.ensures.value c.in_ok-text.ensures.text;
}

pub returns-in_err-text-clause-refused : goal.returns-in_err-text-clause-refused
returns-in_err-text-clause-refused c =
    let p = err_from_is_err_and c.from_residual-in_err-text.result c.from_residual-in_err-text.ensures.1 in
    let refused = subst (λ (ds : List kept.Decl). RefusesDecls (map decl_of ds) c.in_err-text.field-0.0) c.deref.ensures.value c.in_err-text.ensures.refused in
    rw (p.1, p.2)
    (text_refused (model_view c.args.model) (wanted_view c.args.wanted) (map decl_of c.in_ok-declared.declared.decls.items)
    (map left_view c.in_ok-declared.declared.left.items) c.in_err-text.field-0.0 c.in_ok-declared.ensures.made refused)
