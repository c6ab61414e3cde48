use Rattle.std.proofs.Common.{ap, ◌∙◌, string_bytes, unwrap_or, get_or}
use Rattle.std.specs.Option.{option_map}
use Rattle.smithy_declarations.specs.Acceptance.{query_name_of}
use Rattle.smithy_declarations.specs.DeclViews.{member_decl_of}
use Rattle.smithy_declarations.proofs.AcceptanceLemmas.{named_at}
use Rattle.smithy_declarations.proofs.acceptance.names.QueryNamesNamed.name_at.Goals as goal

pub returns : goal.returns
returns c =
    let members = c.args.self.now.0.now in
    c.given_or.ensures ∙ ap (unwrap_or (option_map string_bytes (get_or members c.args.position c.index-self-position.result).xml)) c.as_str.ensures.value
    ∙ named_at member_decl_of query_name_of members c.args.position c.index-self-position.result c.requires
