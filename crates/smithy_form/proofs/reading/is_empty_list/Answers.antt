use Rattle.std.proofs.Common.{[], ◌==◌, length, sym, ap, ◌∙◌}
use Rattle.std.specs.Cow.{cow_str_bytes}
use Rattle.smithy_shapes.specs.Site.{site_of}
use Rattle.smithy_query_codec.specs.Leaves.{role_of}
use Rattle.smithy_form.specs.Private.Kept.{kept_leaves}
use Rattle.smithy_form.proofs.ListAnswers.{member_role, no_member_role, is_empty}
use Rattle.smithy_form.proofs.reading.is_empty_list.Goals as goal

pub returns-then-not-is_member : goal.returns-then-not-is_member
returns-then-not-is_member c =
    λ placed same. no_member_role (role_of (site_of c.args.schema.now).view) (sym c.is_member.ensures ∙ c.if-not-is_member.true) placed

pub returns-in-Some : goal.returns-in-Some
returns-in-Some c =
    let role = role_of (site_of c.args.schema.now).view in
    is_empty role (kept_leaves c.args.at c.args.pairs.now) (cow_str_bytes c.in-Some.pair.now.text) c.is_empty.result
    (member_role role (sym c.is_member.ensures ∙ c.if-not-is_member.false)) c.in-Some.ensures
    (c.is_empty.ensures ∙ ap (λ t. length t == 0) c.as_str.ensures.value)

pub returns-in-None : goal.returns-in-None
returns-in-None c = λ placed same. c.in-None.ensures [] same
