use Rattle.std.specs.Cow.{cow_str_bytes}
use Rattle.smithy_shapes.specs.Site.{site_of}
use Rattle.smithy_form.specs.Private.Kept.{kept_leaves}
use Rattle.smithy_form.proofs.OrderLemmas.{ascend_differ}
use Rattle.smithy_form.proofs.PartAnswers.{no_text, text_read}
use Rattle.smithy_form.proofs.reading.read_text.Goals as goal

pub returns-in_default : goal.returns-in_default
returns-in_default c =
    λ left.
    let ls = kept_leaves c.args.at c.args.pairs.now in
    no_text (site_of c.args.schema.now) left ls c.requires.place (ascend_differ ls c.requires.sorted) c.in_default.ensures

pub returns : goal.returns
returns c =
    λ left.
    let ls = kept_leaves c.args.at c.args.pairs.now in
    text_read (site_of c.args.schema.now) left ls c.requires.place (ascend_differ ls c.requires.sorted) (cow_str_bytes c.in-Some.pair.now.text) c.read_scalar.result c.in-Some.ensures c.read_scalar.ensures
