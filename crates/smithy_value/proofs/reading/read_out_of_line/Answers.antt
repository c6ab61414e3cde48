use Rattle.std.proofs.Common.{Some, ap, rules, sym, ◌∙◌}
use Rattle.std.proofs.lemmas.Result.{err_from_is_err_and}
use Rattle.smithy_declarations.specs.declared.shape_type.Scalar.TheVariants as scalars
use Rattle.smithy_shapes.specs.Site.{site_of}
use Rattle.smithy_value.proofs.Made.{made_shown, made_added}
use Rattle.smithy_value.proofs.ReadAnswers.{scalar_fails, scalar_made, document_fails, document_made}
use Rattle.smithy_value.proofs.reading.read_out_of_line.Goals as goal

pub returns-in_err-read_big_integer-in-BigInteger : goal.returns-in_err-read_big_integer-in-BigInteger
returns-in_err-read_big_integer-in-BigInteger g c =
    let p = err_from_is_err_and c.from_residual.result c.from_residual.ensures.1 in
    rw (p.1, p.2)
    (record {
      same = c.read_big_integer.ensures.same;
      reads = scalar_fails _ _ _ _ scalars.BigInteger _ _ (site_of c.args.schema.now) _ _ _ (ap Some (sym c.in-BigInteger.is) ∙ c.shape_type.ensures) c.requires.due c.in_err-read_big_integer-in-BigInteger.ensures.read;
      adds = tt;
    })

pub returns-in_err-read_big_decimal-in-BigDecimal : goal.returns-in_err-read_big_decimal-in-BigDecimal
returns-in_err-read_big_decimal-in-BigDecimal g c =
    let p = err_from_is_err_and c.from_residual-in_err-read_big_decimal-in-BigDecimal.result c.from_residual-in_err-read_big_decimal-in-BigDecimal.ensures.1 in
    rw (p.1, p.2)
    (record {
      same = c.read_big_decimal.ensures.same;
      reads = scalar_fails _ _ _ _ scalars.BigDecimal _ _ (site_of c.args.schema.now) _ _ _ (ap Some (sym c.in-BigDecimal.is) ∙ c.shape_type.ensures) c.requires.due c.in_err-read_big_decimal-in-BigDecimal.ensures.read;
      adds = tt;
    })

pub returns-in_err-read_timestamp-in-Timestamp : goal.returns-in_err-read_timestamp-in-Timestamp
returns-in_err-read_timestamp-in-Timestamp g c =
    let p = err_from_is_err_and c.from_residual-in_err-read_timestamp-in-Timestamp.result c.from_residual-in_err-read_timestamp-in-Timestamp.ensures.1 in
    rw (p.1, p.2)
    (record {
      same = c.read_timestamp.ensures.same;
      reads = scalar_fails _ _ _ _ scalars.Timestamp _ _ (site_of c.args.schema.now) _ _ _ (ap Some (sym c.in-Timestamp.is) ∙ c.shape_type.ensures) c.requires.due c.in_err-read_timestamp-in-Timestamp.ensures.read;
      adds = tt;
    })

pub returns-in_err-read_document-in-Document : goal.returns-in_err-read_document-in-Document
returns-in_err-read_document-in-Document g c =
    let p = err_from_is_err_and c.from_residual-in_err-read_document-in-Document.result c.from_residual-in_err-read_document-in-Document.ensures.1 in
    rw (p.1, p.2)
    (record {
      same = c.read_document.ensures.same;
      reads = document_fails _ _ _ _ _ (site_of c.args.schema.now) _ _ _ (ap Some (sym c.in-Document.is) ∙ c.shape_type.ensures) c.requires.due c.in_err-read_document-in-Document.ensures.read;
      adds = tt;
    })

pub returns-in-Ok : goal.returns-in-Ok
returns-in-Ok g c =
    let counts = g.met.D.ShapeDeserializer.counts (g.D.ShapeDeserializer.settings c.args.source.now) in
    record {
      same = c.read_big_integer.ensures.same;
      reads = scalar_made _ _ _ _ scalars.BigInteger _ _ (site_of c.args.schema.now) _ _ _ _ _ counts (ap Some (sym c.in-BigInteger.is) ∙ c.shape_type.ensures) c.in_ok-read_big_integer-in-BigInteger.ensures.read (search rules) (made_shown _ _ _ _ _ _ c.big_integer.result c.big_integer.ensures.ok) c.big_integer.ensures.err;
      adds = made_added _ _ _ _ _ _ c.big_integer.result c.big_integer.ensures.ok;
    }

pub returns-in-Ok-to_parts : goal.returns-in-Ok-to_parts
returns-in-Ok-to_parts g c =
    let counts = g.met.D.ShapeDeserializer.counts (g.D.ShapeDeserializer.settings c.args.source.now) in
    record {
      same = c.read_big_decimal.ensures.same;
      reads = scalar_made _ _ _ _ scalars.BigDecimal _ _ (site_of c.args.schema.now) _ _ _ _ _ counts (ap Some (sym c.in-BigDecimal.is) ∙ c.shape_type.ensures) c.in_ok-read_big_decimal-in-BigDecimal.ensures.read (search rules) (made_shown _ _ _ _ _ _ c.decimal.result c.decimal.ensures.ok) c.decimal.ensures.err;
      adds = made_added _ _ _ _ _ _ c.decimal.result c.decimal.ensures.ok;
    }

pub returns-in_ok-read_timestamp-in-Timestamp : goal.returns-in_ok-read_timestamp-in-Timestamp
returns-in_ok-read_timestamp-in-Timestamp g c =
    let counts = g.met.D.ShapeDeserializer.counts (g.D.ShapeDeserializer.settings c.args.source.now) in
    record {
      same = c.read_timestamp.ensures.same;
      reads = scalar_made _ _ _ _ scalars.Timestamp _ _ (site_of c.args.schema.now) _ _ _ _ _ counts (ap Some (sym c.in-Timestamp.is) ∙ c.shape_type.ensures) c.in_ok-read_timestamp-in-Timestamp.ensures.read (search rules) (c.timestamp.ensures.shows c.args.trees.now) tt;
      adds = (g.P.Trees.keeps_lawfully.itself _ _ c.requires.sound, c.timestamp.ensures.stands c.args.trees.now);
    }

pub returns-in_ok-read_document-in-Document : goal.returns-in_ok-read_document-in-Document
returns-in_ok-read_document-in-Document g c =
    let counts = g.met.D.ShapeDeserializer.counts (g.D.ShapeDeserializer.settings c.args.source.now) in
    record {
      same = c.read_document.ensures.same;
      reads = document_made _ _ _ _ _ (site_of c.args.schema.now) _ _ _ _ counts (ap Some (sym c.in-Document.is) ∙ c.shape_type.ensures) c.in_ok-read_document-in-Document.ensures.read (made_shown _ _ _ _ _ _ c.document.result c.document.ensures.ok) c.document.ensures.err;
      adds = made_added _ _ _ _ _ _ c.document.result c.document.ensures.ok;
    }

pub big_integer-requires : goal.big_integer-requires
big_integer-requires g c = record { sound = (_, c.requires.sound) }

pub decimal-requires : goal.decimal-requires
decimal-requires g c = record { sound = (_, c.requires.sound) }

pub document-requires : goal.document-requires
document-requires g c = record { sound = (_, c.requires.sound) }
