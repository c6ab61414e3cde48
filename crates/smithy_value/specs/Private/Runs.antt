-- Whole numbers that are read from a list in one call.
use Rattle.std.specs.Prelude.{◌≡◌, ◌⊎◌, ℤ, List, [], ◌++◌, Some, Result, OnOk, IfErr}
use Rattle.smithy_declarations.specs.declared.shape_type.Scalar.TheVariants as scalars
use Rattle.smithy_declarations.specs.declared.shape_type.ShapeType.TheVariants as types
use Rattle.smithy_declarations.specs.Table.{type_of}
use Rattle.smithy_declarations.specs.Value.{Value}
use Rattle.smithy_schema.specs.declared.error.SerdeError.{SerdeError}
use Rattle.smithy_schema.specs.declared.error.SerdeError.TheVariants.{NoMemory}
use Rattle.smithy_schema.specs.declared.read.ShapeDeserializer as deserializer
use Rattle.smithy_schema.specs.Runs.{ReadsInTurn}
use Rattle.smithy_shapes.specs.Site.{Site, kind_at}
use Rattle.smithy_tree.specs.Items.{whole_values}

-- The numbers that were read in turn have come behind the elements, by which the store p has become q. Only memory can be wanting for
-- them, and there are none where the elements aren't longs.
pub record ReadsRun {D P E : Type 0} (d : deserializer.Ghosts D) (is_begun : P → P → E → Type 0) (view : P → E → List Value) (old new : D) (p q : P) (e f : E) (site : Site) (result : Result (Unit {0}) SerdeError) : Type 0 where
  -- the settings stay
  pub same : d.settings new ≡ d.settings old
  pub numbers : List ℤ
  pub longs : (numbers ≡ []) ⊎ (Some types.Long ≡ type_of (kind_at site))
  pub turn : ReadsInTurn (d.reading (d.settings old)) site scalars.Long (d.state old) numbers (d.state new)
  pub shown : OnOk result (view q f ≡ view p e ++ whole_values numbers)
  pub begun : OnOk result ((s : P) → is_begun s p e → is_begun s q f)
  pub memory : IfErr result (λ e. e ≡ NoMemory)
