-- What reading and writing JSON depend on beside table and place.
use Rattle.std.specs.Prelude.{ℕ, List, Bool, if◌then◌else◌}
use Rattle.smithy_declarations.specs.Table.{Member, json_name_of}
pub use Rattle.smithy_shapes.specs.Limits.{Limits, kept, lifted, is_within}
pub use Rattle.smithy_json_settings.specs.Settings.{Settings, default_settings}

abbrev pub keep_limits : Settings → Settings
keep_limits c = record c { limits = kept }

abbrev pub without_limits : Settings → Settings
without_limits c = record c { limits = lifted }

-- what counts may stand at this depth
abbrev pub is_shallow : Settings → ℕ → Bool
is_shallow c depth = is_within c.limits c.max_depth depth

-- the name by which a member goes
abbrev pub name_of : Settings → Member → List ℕ
name_of c m = if c.use_json_name then json_name_of m else m.name
