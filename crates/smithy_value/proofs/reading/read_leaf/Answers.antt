use Rattle.std.proofs.Common.{Some, ap, refl, rules, sym, ◌∙◌}
use Rattle.smithy_declarations.specs.declared.shape_type.Scalar.TheVariants as scalars
use Rattle.smithy_value.proofs.ReadScalars.{refused, given, made}
use Rattle.smithy_value.proofs.ReadTrees.{returned}
use Rattle.smithy_value.proofs.reading.read_leaf.Goals as goal

pub returns-in_err-read_boolean-in-Boolean : goal.returns-in_err-read_boolean-in-Boolean
returns-in_err-read_boolean-in-Boolean g c =
    returned _ _ c.from_residual.ensures.1 (refused scalars.Boolean (ap Some (sym c.in-Boolean.is) ∙ c.shape_type.ensures) c.requires.due c.read_boolean.ensures.same c.in_err-read_boolean-in-Boolean.ensures.read)

pub returns-in_ok-read_boolean-in-Boolean : goal.returns-in_ok-read_boolean-in-Boolean
returns-in_ok-read_boolean-in-Boolean g c =
    given scalars.Boolean (g.met.D.ShapeDeserializer.counts _) (ap Some (sym c.in-Boolean.is) ∙ c.shape_type.ensures) c.read_boolean.ensures.same c.in_ok-read_boolean-in-Boolean.ensures.read (c.boolean.ensures.shows c.args.trees.now) (search rules) (g.P.Trees.keeps_lawfully.itself _ _ c.requires.sound) (c.boolean.ensures.stands c.args.trees.now)

pub returns-in_err-read_byte-in-Byte : goal.returns-in_err-read_byte-in-Byte
returns-in_err-read_byte-in-Byte g c =
    returned _ _ c.from_residual-in_err-read_byte-in-Byte.ensures.1 (refused scalars.Byte (ap Some (sym c.in-Byte.is) ∙ c.shape_type.ensures) c.requires.due c.read_byte.ensures.same c.in_err-read_byte-in-Byte.ensures.read)

pub returns-in_ok-read_byte-in-Byte : goal.returns-in_ok-read_byte-in-Byte
returns-in_ok-read_byte-in-Byte g c =
    given scalars.Byte (g.met.D.ShapeDeserializer.counts _) (ap Some (sym c.in-Byte.is) ∙ c.shape_type.ensures) c.read_byte.ensures.same c.in_ok-read_byte-in-Byte.ensures.read (c.whole.ensures.shows c.args.trees.now) (search rules) (g.P.Trees.keeps_lawfully.itself _ _ c.requires.sound) (c.whole.ensures.stands c.args.trees.now)

pub returns-in_err-read_short-in-Short : goal.returns-in_err-read_short-in-Short
returns-in_err-read_short-in-Short g c =
    returned _ _ c.from_residual-in_err-read_short-in-Short.ensures.1 (refused scalars.Short (ap Some (sym c.in-Short.is) ∙ c.shape_type.ensures) c.requires.due c.read_short.ensures.same c.in_err-read_short-in-Short.ensures.read)

pub returns-in_ok-read_short-in-Short : goal.returns-in_ok-read_short-in-Short
returns-in_ok-read_short-in-Short g c =
    given scalars.Short (g.met.D.ShapeDeserializer.counts _) (ap Some (sym c.in-Short.is) ∙ c.shape_type.ensures) c.read_short.ensures.same c.in_ok-read_short-in-Short.ensures.read (c.whole-in-Short.ensures.shows c.args.trees.now) (search rules) (g.P.Trees.keeps_lawfully.itself _ _ c.requires.sound) (c.whole-in-Short.ensures.stands c.args.trees.now)

pub returns-in_err-read_integer-in-Integer : goal.returns-in_err-read_integer-in-Integer
returns-in_err-read_integer-in-Integer g c =
    returned _ _ c.from_residual-in_err-read_integer-in-Integer.ensures.1 (refused scalars.Integer (ap Some (sym c.in-Integer.is) ∙ c.shape_type.ensures) c.requires.due c.read_integer.ensures.same c.in_err-read_integer-in-Integer.ensures.read)

pub returns-in_ok-read_integer-in-Integer : goal.returns-in_ok-read_integer-in-Integer
returns-in_ok-read_integer-in-Integer g c =
    given scalars.Integer (g.met.D.ShapeDeserializer.counts _) (ap Some (sym c.in-Integer.is) ∙ c.shape_type.ensures) c.read_integer.ensures.same c.in_ok-read_integer-in-Integer.ensures.read (c.whole-in-Integer.ensures.shows c.args.trees.now) (search rules) (g.P.Trees.keeps_lawfully.itself _ _ c.requires.sound) (c.whole-in-Integer.ensures.stands c.args.trees.now)

pub returns-in_err-read_long-in-Long : goal.returns-in_err-read_long-in-Long
returns-in_err-read_long-in-Long g c =
    returned _ _ c.from_residual-in_err-read_long-in-Long.ensures.1 (refused scalars.Long (ap Some (sym c.in-Long.is) ∙ c.shape_type.ensures) c.requires.due c.read_long.ensures.same c.in_err-read_long-in-Long.ensures.read)

pub returns-in_ok-read_long-in-Long : goal.returns-in_ok-read_long-in-Long
returns-in_ok-read_long-in-Long g c =
    given scalars.Long (g.met.D.ShapeDeserializer.counts _) (ap Some (sym c.in-Long.is) ∙ c.shape_type.ensures) c.read_long.ensures.same c.in_ok-read_long-in-Long.ensures.read (c.whole-in-Long.ensures.shows c.args.trees.now) (search rules) (g.P.Trees.keeps_lawfully.itself _ _ c.requires.sound) (c.whole-in-Long.ensures.stands c.args.trees.now)

pub returns-in_err-take_text-in-String : goal.returns-in_err-take_text-in-String
returns-in_err-take_text-in-String g c =
    returned _ _ c.from_residual-in_err-take_text-in-String.ensures.1 (refused scalars.String (ap Some (sym c.in-String.is) ∙ c.shape_type.ensures) c.requires.due c.take_text.ensures.same c.in_err-take_text-in-String.ensures.read)

pub returns-in_ok-take_text-in-String : goal.returns-in_ok-take_text-in-String
returns-in_ok-take_text-in-String g c =
    made scalars.String (g.met.D.ShapeDeserializer.counts _) (ap Some (sym c.in-String.is) ∙ c.shape_type.ensures) c.take_text.ensures.same c.in_ok-take_text-in-String.ensures.read refl (c.text.ensures.ok _ c.requires.sound) c.text.ensures.err

pub returns-in_err-take_bytes-in-Blob : goal.returns-in_err-take_bytes-in-Blob
returns-in_err-take_bytes-in-Blob g c =
    returned _ _ c.from_residual-in_err-take_bytes-in-Blob.ensures.1 (refused scalars.Blob (ap Some (sym c.in-Blob.is) ∙ c.shape_type.ensures) c.requires.due c.take_bytes.ensures.same c.in_err-take_bytes-in-Blob.ensures.read)

pub returns-in_ok-take_bytes-in-Blob : goal.returns-in_ok-take_bytes-in-Blob
returns-in_ok-take_bytes-in-Blob g c =
    made scalars.Blob (g.met.D.ShapeDeserializer.counts _) (ap Some (sym c.in-Blob.is) ∙ c.shape_type.ensures) c.take_bytes.ensures.same c.in_ok-take_bytes-in-Blob.ensures.read refl (c.bytes.ensures.ok _ c.requires.sound) c.bytes.ensures.err

pub text-requires : goal.text-requires
text-requires g c = record { stands = (_, c.requires.sound, c.in_ok-take_text-in-String.ensures.placed) }

pub bytes-requires : goal.bytes-requires
bytes-requires g c = record { stands = (_, c.requires.sound, c.in_ok-take_bytes-in-Blob.ensures.placed) }
