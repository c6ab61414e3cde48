use Rattle.std.proofs.Common.{sym, ap, Some, None, refl, map, unwrap_or}
use Rattle.smithy_declarations.specs.Decl.{Decl}
use Rattle.smithy_declarations.specs.DeclViews.{decl_of}
use Rattle.smithy_declarations.proofs.Positions.{position-seen}
use Rattle.smithy_shapes.proofs.build.number_of.Goals as goal

pub returns-in-Some : goal.returns-in-Some
returns-in-Some c =
    sym (ap (λ o. unwrap_or o 0) (position-seen decl_of (λ (d : Decl). d.name) c.args.decls.now (map decl_of c.args.decls.now) c.args.name.now (Some c.in-Some.number) refl c.in-Some.ensures))

pub returns-in-None : goal.returns-in-None
returns-in-None c =
    sym (ap (λ o. unwrap_or o 0) (position-seen decl_of (λ (d : Decl). d.name) c.args.decls.now (map decl_of c.args.decls.now) c.args.name.now None refl c.in-None.ensures))
