-- The table that stands for a part of a model.
use Rattle.std.specs.Prelude.{◌≡◌, ◌≤◌, ℕ, List, Bool, Some, length, option_map, slice_get}
use Rattle.smithy_model.specs.Model.{Model}
use Rattle.smithy_declarations.specs.Decl.{Decl}
use Rattle.smithy_table_text.specs.Writable.{IsTextOf}
use Rattle.smithy_model_table.specs.Declaring.{Names, name_of}
use Rattle.smithy_model_table.specs.Leaving.{AreFewest}
use Rattle.smithy_model_table.specs.Outcomes.{LeftOut, AreParts}
use Rattle.smithy_model_table.specs.Naming.{names_of}
use Rattle.smithy_model_table.specs.Reaching.{AreReached}
use Rattle.smithy_model_table.specs.Wanted.{Wanted, AreRoots}

-- a model has no more shapes than this
abbrev pub most_shapes : ℕ
most_shapes = 65_535

-- The declarations of what is wanted of a model: those of its shapes that are reached from what is wanted, in this order. Each declaration is
-- that of its shape, and each member that they leave out is named.
pub record IsMade (m : Model) (w : Wanted) (decls : List Decl) (left : List LeftOut) : Type 0 where
  pub few : length m.shapes ≤ most_shapes
  -- the names of the model's shapes
  pub names : Names
  pub named : names ≡ names_of m
  -- which shapes are marked, as nothing of them can stand in a table
  pub marks : List Bool
  pub fewest : AreFewest m marks
  -- the numbers of the shapes that are wanted
  pub roots : List ℕ
  pub are_wanted : AreRoots m marks w roots
  -- the numbers of the shapes that are reached from them, and are declared in this order
  pub order : List ℕ
  pub are_reached : AreReached m marks roots order
  pub declared : AreParts m marks names order decls left
  -- the first wanted shape is the first declaration
  pub root : (n : ℕ) → slice_get roots 0 ≡ Some n → option_map (λ (d : Decl). d.name) (slice_get decls 0) ≡ Some (name_of names n)

-- The text is that of the declarations of what is wanted, and an accepted table. Since it is accepted, it has no name twice, and declares each
-- target that its lines name.
pub record IsTableOf (m : Model) (w : Wanted) (text : List ℕ) (left : List LeftOut) : Type 0 where
  pub decls : List Decl
  pub made : IsMade m w decls left
  pub is_text : IsTextOf decls text
