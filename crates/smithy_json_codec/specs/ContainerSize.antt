-- The size of a container by its tokens.
use Rattle.std.specs.Prelude.{drop}
use Rattle.smithy_schema.specs.Sizes.{Sizes}
use Rattle.smithy_json_tokens.specs.ContainerSize.{HasSize}

-- that of the container that begins at the position, behind blanks, as the iterator of tokens meets its elements or members, whatever
-- the settings
abbrev pub json_sizes : Sizes
json_sizes input at = HasSize (drop at input)
