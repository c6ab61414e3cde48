-- The keys of the object itself.
use Rattle.std.specs.Prelude.{ℕ, List, if◌then◌else◌}
use Rattle.smithy_error_bodies.specs.Said.{is_code, is_type, is_message}
use Rattle.smithy_error_bodies.specs.declared.reading.Key.{Key}
use Rattle.smithy_error_bodies.specs.declared.reading.Key.TheVariants.{Code, Kind, Message, Other}

-- which key it is
abbrev pub key_of : List ℕ → Key
key_of key = if is_code key then Code else if is_type key then Kind else if is_message key then Message else Other
