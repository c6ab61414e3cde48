-- The trees that private calls go through.
use Rattle.std.specs.Prelude.{ℕ, List, true}
use Rattle.smithy_shapes.specs.Fits.{FitsOr}
use Rattle.smithy_shapes.specs.Site.{Site}
use Rattle.smithy_declarations.specs.Value.{Value}

-- a tree of a store of some input, or the parts of one, that is a value of the site or a null element
pub record IsValueAt (is_of : List ℕ → Type 0) (in_store : Type 0) (site : Site) (v : Value) : Type 0 where
  pub sound : (i : List ℕ) × is_of i
  pub stands : in_store
  pub fits : FitsOr site.table site.place true v
