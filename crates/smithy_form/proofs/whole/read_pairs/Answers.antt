use Rattle.std.proofs.Common.{map}
use Rattle.smithy_shapes.specs.Site.{site_of}
use Rattle.smithy_form.specs.Private.Kept.{named_text}
use Rattle.smithy_form.proofs.FormLemmas.{value_read}
use Rattle.smithy_form.proofs.whole.read_pairs.Goals as goal

pub returns : goal.returns
returns c =
    value_read (site_of c.args.schema.now) c.requires.accepted c.requires.place c.requires.nameless (map named_text c.args.pairs.now) (map named_text c.sort_pairs.new.pairs)
    c.in_ok-sort_pairs.field-0 c.in_ok-sort_pairs.ensures c.read_structure.result c.read_structure.ensures
