-- What the meaning of an item depends on beside its table and place.
use Rattle.std.specs.Prelude.{ℕ, Bool}
pub use Rattle.smithy_shapes.specs.Limits.{Limits, kept, lifted, is_within}

pub record Settings : Type 0 where
  pub max_depth : ℕ
  pub limits : Limits
  -- nothing follows an item, and only an empty input is a structure
  pub enforce_strictness : Bool
  -- a null of a structure or a union is handed on under the key of a member
  pub dispatch_null_members : Bool
  -- lists and maps whose length is told are written with it
  pub use_definite_lengths : Bool

abbrev pub keep_limits : Settings → Settings
keep_limits c = record c { limits = kept }

abbrev pub without_limits : Settings → Settings
without_limits c = record c { limits = lifted }

-- a container may stand at this depth
abbrev pub is_shallow : Settings → ℕ → Bool
is_shallow c depth = is_within c.limits c.max_depth depth
