use Rattle.smithy_declarations.specs.DeclViews.{member_decl_of}
use Rattle.std.proofs.Common.{◌∙◌, sym}
use Rattle.smithy_model_table.proofs.TakenLemmas.{clash_in_json, clash_in_form}
use Rattle.smithy_model_table.proofs.taken.TakenNames.clash_with.Goals as goal

pub returns-then-contains : goal.returns-then-contains
returns-then-contains c = λ earlier taken.
    clash_in_json earlier (member_decl_of c.args.decl.now) c.args.self.now c.json_name.result.now taken c.json_name.ensures (sym c.contains.ensures ∙ c.if-contains.true)

pub returns : goal.returns
returns c = λ earlier taken.
    clash_in_form earlier (member_decl_of c.args.decl.now) c.args.self.now c.json_name.result.now c.form_name.result.now c.contains-2.result taken c.json_name.ensures
    c.form_name.ensures (sym c.contains.ensures ∙ c.if-contains.false) c.contains-2.ensures
