-- Answers on the items of lists and maps.
use Rattle.std.proofs.Common.{Some, ap, sym, subst, ◌∙◌, ◌≡◌, arith, rules}
use Rattle.smithy_declarations.specs.declared.shape_type.Scalar.TheVariants as scalars
use Rattle.smithy_schema.specs.Reading.{Cursor, depth}
use Rattle.smithy_value.proofs.ReadItems.{none_read, item_returned, null_refused, null_item, value_item}
use Rattle.smithy_value.proofs.ReadScalars.{refused, given}
use Rattle.smithy_value.proofs.reading.+read.Goals as goal

-- a null was refused
pub read_item-returns-in_err-read_any_null : goal.read_item-returns-in_err-read_any_null
read_item-returns-in_err-read_any_null g t c =
    item_returned _ _ c.from_residual.ensures.1 (null_refused c.read_any_null.ensures.same c.in_err-read_any_null.ensures.null)

-- a null was read
pub read_item-returns-then-branch : goal.read_item-returns-then-branch
read_item-returns-then-branch g t c =
    null_item c.read_any_null.ensures.same c.in_ok-read_any_null.ensures.null c.if-branch.true (c.null.ensures.shows c.args.trees.now) (g.P.Trees.keeps_lawfully.itself _ _ c.requires.sound) (c.null.ensures.stands c.args.trees.now)

-- a number was refused
pub read_item-returns-in_err-read_long : goal.read_item-returns-in_err-read_long
read_item-returns-in_err-read_long g t c =
    let here = none_read (g.D.ShapeDeserializer.reading (g.D.ShapeDeserializer.settings c.args.source.now)) c.args.sparse (g.D.ShapeDeserializer.state c.args.source.now) (g.D.ShapeDeserializer.state c.read_any_null.new.source) _ c.if-branch.false c.in_ok-read_any_null.ensures.null in
    item_returned _ _ c.from_residual-in_err-read_long.ensures.1
    (value_item c.read_any_null.ensures.same c.in_ok-read_any_null.ensures.null c.if-branch.false
    (refused scalars.Long (ap Some (sym c.in-Long.is) ∙ c.requires.kind) (ap (λ (s : Cursor). s.due) here ∙ c.requires.due) c.read_long.ensures.same c.in_err-read_long.ensures.read))

-- a number was read
pub read_item-returns-in-Long : goal.read_item-returns-in-Long
read_item-returns-in-Long g t c =
    value_item c.read_any_null.ensures.same c.in_ok-read_any_null.ensures.null c.if-branch.false
    (given scalars.Long (g.met.D.ShapeDeserializer.counts _) (ap Some (sym c.in-Long.is) ∙ c.requires.kind) c.read_long.ensures.same c.in_ok-read_long.ensures.read (c.whole.ensures.shows c.args.trees.now) (search rules)
    (g.P.Trees.keeps_lawfully.itself _ _ c.requires.sound) (c.whole.ensures.stands c.args.trees.now))

-- what a value answers is the answer
pub read_item-returns : goal.read_item-returns
read_item-returns g t c =
    value_item c.read_any_null.ensures.same c.in_ok-read_any_null.ensures.null c.if-branch.false c.read_part.ensures

pub read_item-read_part-requires : goal.read_item-read_part-requires
read_item-read_part-requires g t c κs within =
    let here = none_read (g.D.ShapeDeserializer.reading (g.D.ShapeDeserializer.settings c.args.source.now)) c.args.sparse (g.D.ShapeDeserializer.state c.args.source.now) (g.D.ShapeDeserializer.state c.read_any_null.new.source) _ c.if-branch.false c.in_ok-read_any_null.ensures.null in
    let d = g.D.ShapeDeserializer in
    let most : (d.reading (d.settings c.read_any_null.new.source)).max_depth ≡ (d.reading (d.settings c.args.source.now)).max_depth = ap (λ s. (d.reading s).max_depth) c.read_any_null.ensures.same in
    let level : depth (d.state c.read_any_null.new.source) ≡ depth (d.state c.args.source.now) = ap depth here in
    let due = ap (λ (s : Cursor). s.due) here ∙ c.requires.due in
    let sound = subst (λ (s : Cursor). g.P.Trees.sound c.args.trees.now s.input) (sym here) c.requires.sound in
    (omega (arith, most, level, c.decreases), (search rules, (search rules, (search rules, (search rules, (search rules, (search rules, (search rules, (search rules, (due, sound))))))))))
