use Rattle.std.proofs.Common.{◌∙◌}
use Rattle.smithy_declarations.specs.Decl.{MemberDecl}
use Rattle.smithy_declarations.specs.DeclViews.{member_decl_of}
use Rattle.smithy_declarations.proofs.AcceptanceLemmas.{named_at}
use Rattle.smithy_declarations.proofs.acceptance.names.MemberNamesNamed.name_at.Goals as goal

pub returns : goal.returns
returns c =
    c.as_str.ensures.value ∙ named_at member_decl_of (λ (m : MemberDecl). m.name) c.args.self.now.0.now c.args.position c.index-self-position.result c.requires
