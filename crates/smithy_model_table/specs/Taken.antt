-- Names on the wires that were gathered, so that no member is compared with each before it.
use Rattle.std.specs.Prelude.{◌≡◌, ℕ, List, bytes_eq}
use Rattle.std.specs.BTreeSet.{contains_text}
use Rattle.std.specs.List.{list_any}
use Rattle.smithy_declarations.specs.Acceptance.{json_name_of, query_name_of}
use Rattle.smithy_declarations.specs.Decl.{MemberDecl}
use Rattle.smithy_model_table.specs.declared.taken.TakenNames as kept

-- for each name, whether one of these members has it in JSON, and in a form
pub record AreTaken (decls : List MemberDecl) (names : kept.TakenNames) : Type 0 where
  pub json : (name : List ℕ) → contains_text names.json name ≡ list_any (λ d. bytes_eq (json_name_of d) name) decls
  pub form : (name : List ℕ) → contains_text names.form name ≡ list_any (λ d. bytes_eq (query_name_of d) name) decls
