use Rattle.std.proofs.lemmas.Result.{on_ok_weaker}
use Rattle.smithy_declarations.specs.DeclViews.{member_decl_of}
use Rattle.smithy_model_table.proofs.TakenLemmas.{taken_more}
use Rattle.smithy_model_table.proofs.taken.TakenNames.add.Goals as goal

pub returns : goal.returns
returns c =
    on_ok_weaker c.add_name-2.result
    (λ gains earlier taken. taken_more earlier (member_decl_of c.args.decl.now) c.args.self.now _ c.json_name.result.now c.form_name.result.now c.json_name.ensures
    c.form_name.ensures c.in_ok-add_name.ensures gains taken)
    c.add_name-2.ensures
