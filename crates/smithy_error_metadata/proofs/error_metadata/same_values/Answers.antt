use Rattle.std.proofs.Common.{sym, ap, ◌∙◌}
use Rattle.smithy_error_metadata.specs.Metadata.{texts_of, extras_of, same_values}
use Rattle.smithy_error_metadata.proofs.MetadataLemmas.{equal_texts}
use Rattle.smithy_error_metadata.proofs.error_metadata.same_values.Goals as goal

pub returns : goal.returns
returns c =
    c.eq.ensures ∙ equal_texts c.in-Some.a.entries c.in-Some-b-2.b.entries
    ∙ ap (λ x. same_values (extras_of x) (texts_of c.in-Some-b-2.b.entries)) (sym c.in-Some.is)
    ∙ ap (λ y. same_values (extras_of c.args.a.now) (extras_of y)) (sym c.in-Some-b-2.is)
