use Rattle.std.proofs.Common.{◌≡◌, true, rules}
use Rattle.std.proofs.lemmas.Str.{IsCharBoundary-after_ascii}
use Rattle.smithy_model_table.proofs.members.capitalized.Goals as goal

pub range-requires-clause-end_boundary : goal.range-requires-clause-end_boundary
range-requires-clause-end_boundary c =
    let ascii : c.begins_with_ascii.result ≡ true = search rules in
    let first = c.begins_with_ascii.ensures.ascii ascii in
    IsCharBoundary-after_ascii c.args.text.now 0 c.utf8.text first.0 first.1

pub range_from-requires : goal.range_from-requires
range_from-requires c =
    let ascii : c.begins_with_ascii.result ≡ true = search rules in
    let first = c.begins_with_ascii.ensures.ascii ascii in
    λ after. IsCharBoundary-after_ascii c.args.text.now 0 c.utf8.text first.0 first.1
