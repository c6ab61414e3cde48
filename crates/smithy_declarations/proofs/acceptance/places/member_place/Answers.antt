use Rattle.std.proofs.Common.{ap, ◌∙◌}
use Rattle.smithy_declarations.specs.Acceptance.{place_of_member}
use Rattle.smithy_declarations.specs.DeclViews.{member_decl_of, place_words_of}
use Rattle.smithy_declarations.proofs.AcceptanceLemmas.{seen_at}
use Rattle.smithy_declarations.proofs.acceptance.places.member_place.Goals as goal

pub returns : goal.returns
returns c =
    c.new.ensures ∙ ap (λ m. place_of_member (member_decl_of m)) c.index-members-position.is
    ∙ seen_at member_decl_of place_of_member c.args.members.now c.args.position c.index-members-position.result (place_words_of c.new.result) c.requires
