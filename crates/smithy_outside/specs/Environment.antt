-- What a command may use, by the objects that it is handed.
use Rattle.smithy_outside.specs.declared.outside.Files as of_files
use Rattle.smithy_outside.specs.declared.outside.Source as of_source
use Rattle.smithy_outside.specs.declared.outside.Sink as of_sink
use Rattle.smithy_outside.specs.Outside.{Environment, environment_of}

-- what files, an input and an output tell
abbrev pub environment : {F S K : Type 0} → of_files.Ghosts F → of_source.Ghosts S → of_sink.Ghosts K → F → S → K → Environment
environment f s k files input out = environment_of (f.told files) (s.told input) (k.told out) (k.holds_back out)
