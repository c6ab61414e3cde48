-- An entry by its fields.
use Rattle.std.specs.Prelude.{ℕ, List, Option, Bool}
use Rattle.smithy_declarations.specs.Value.{Value}
use Rattle.smithy_shapes.specs.Container.{Entry}

abbrev pub entry_with : Option (List ℕ) → Option ℕ → Option Value → Bool → Bool → Bool → Entry
entry_with key position meaning absent skippable null = record {
  key = key;
  position = position;
  meaning = meaning;
  is_absent = absent;
  is_skippable = skippable;
  is_null = null;
}
