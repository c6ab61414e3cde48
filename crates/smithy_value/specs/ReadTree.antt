-- What a read says, by a reader of any wire and over any store of trees.
use Rattle.std.specs.Prelude.{◌≡◌, Result, IfOk}
use Rattle.smithy_schema.specs.declared.error.SerdeError.{SerdeError}
use Rattle.smithy_schema.specs.declared.read.ShapeDeserializer as deserializer
use Rattle.smithy_shapes.specs.Site.{Site}
use Rattle.smithy_declarations.specs.Value.{Value}
use Rattle.smithy_value.specs.ReadValue.{ReadsValue}

-- the read of a value by this reader, under these settings
abbrev pub ReadsUnder : {D A : Type 0} → (d : deserializer.Ghosts D) → d.Settings → (old new : D) → Site → (A → Value) → Result A SerdeError → Type 0
ReadsUnder d settings old new site view result =
    let r = d.reading settings in
    ReadsValue r.wire r.lifted r.tells_without_limits r.max_depth (d.state old) (d.state new) site view result

-- under the settings that it had before
abbrev pub ReadsBy : {D A : Type 0} → deserializer.Ghosts D → (old new : D) → Site → (A → Value) → Result A SerdeError → Type 0
ReadsBy d old new = ReadsUnder d (d.settings old) old new

-- the read of a tree by this reader: the store p has become q by it
pub record ReadsTree {D P T : Type 0} (d : deserializer.Ghosts D) (keeps : P → P → Type 0) (stands : P → T → Type 0) (view : P → T → Value) (old new : D) (p q : P) (site : Site) (result : Result T SerdeError) : Type 0 where
  -- the settings stay
  pub same : d.settings new ≡ d.settings old
  -- what the tree stands for is the value that was read
  pub reads : ReadsBy d old new site (view q) result
  -- what stood in the store stands there still, and the tree stands there too
  pub adds : IfOk result (λ x. keeps p q × stands q x)
