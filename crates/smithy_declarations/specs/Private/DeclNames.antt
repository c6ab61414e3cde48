-- The name of a declaration as the program holds it.
use Rattle.std.specs.Prelude.{ℕ, List}
use Rattle.smithy_declarations.specs.declared.decl.Decl.{Decl}
use Rattle.smithy_declarations.specs.DeclViews.{decl_of}

abbrev pub declared_name : Decl → List ℕ
declared_name d = (decl_of d).name
