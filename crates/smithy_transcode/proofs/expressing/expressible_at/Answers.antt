use Rattle.std.proofs.Common.{[], sym, ◌∙◌}
use Rattle.smithy_shapes.specs.Site.{site_of}
use Rattle.smithy_value.specs.View.{view}
use Rattle.smithy_transcode.specs.Wires.{wire_of}
use Rattle.smithy_transcode.proofs.TakenLemmas.{taken}
use Rattle.smithy_transcode.proofs.expressing.expressible_at.Goals as goal

-- nothing is stored beside a value
pub unfit-requires : goal.unfit-requires
unfit-requires c = record {
  sound = ([], tt);
  stands = tt;
  fits = c.requires.fits;
}

pub returns-clause-taken : goal.returns-clause-taken
returns-clause-taken c = λ none accepted.
    taken (wire_of c.args.to.now) (site_of c.args.schema.now) (view c.args.value.now) accepted c.requires.fits
    (c.unfit.ensures.positions none) (sym c.unfit.ensures.unfit ∙ none)
