use Rattle.std.proofs.Common.{arith, refl}
use Rattle.smithy_lint.proofs.Docs.{array_only, object_only}
use Rattle.smithy_lint.proofs.scalars.open_container.Goals as goal

pub returns-in-Array : goal.returns-in-Array
returns-in-Array g c =
    let h = g.B.Body.holding c.args.body.now in
    let begins = rw c.in-Array.is at c.begins-beginning.ensures in (
      omega (arith, c.if-depth-lt-MAX_DEPTH.true),
      refl,
      λ x e v. rw c.if-is_list.true (array_only h c.args.depth x e c.in-Array.inside c.in-Array.mark (begins c.args.depth x e v)),
    )

pub returns-in-Object : goal.returns-in-Object
returns-in-Object g c =
    let h = g.B.Body.holding c.args.body.now in
    let begins = rw c.in-Object.is at c.begins-beginning.ensures in (
      omega (arith, c.if-depth-lt-MAX_DEPTH-2.true),
      refl,
      λ x e v. rw c.if-not-is_list.true (object_only h c.args.depth x e c.in-Object.inside c.in-Object.mark (begins c.args.depth x e v)),
    )
