use Rattle.smithy_json_values.specs.Codec.{held_settings}
use Rattle.smithy_json_values.specs.LexicalGrammar.{grammar_of}
use Rattle.smithy_json_values.proofs.InstantPlaces.{no_instant_lies}
use Rattle.smithy_json_values.proofs.instants.instant_at.Goals as goal

pub returns-in-None : goal.returns-in-None
returns-in-None c =
    let s = held_settings c.args.settings.now in
    no_instant_lies (grammar_of s) s c.args.time c.args.input.now c.args.at c.in-Nothing.ensures (rw c.in-None.is at c.in_ok-found-in-Nothing.ensures)
