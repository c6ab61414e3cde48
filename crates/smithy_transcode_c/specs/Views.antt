-- What contracts see of a call's arguments.
use Rattle.smithy_transcode_c.specs.declared.asked.Asked.{Asked as Given}
use Rattle.smithy_transcode_c.specs.Calls.{Asked}
use Rattle.smithy_transcode_c.specs.declared.comparing.Comparison.{Comparison as GivenTwo}
use Rattle.smithy_transcode_c.specs.Comparing.{Comparison}

abbrev pub asked_of : Given → Asked
asked_of given = record {
  root_name = given.root.now;
  from = given.from;
  to = given.to;
  action = given.action.now;
  version = given.version.now;
}

abbrev pub comparison_of : GivenTwo → Comparison
comparison_of given = record { root_name = given.root.now; first = given.first; second = given.second }
