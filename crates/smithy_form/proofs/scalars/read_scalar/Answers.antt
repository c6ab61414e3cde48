use Rattle.std.proofs.Common.{◌≡◌, unwrap_or, Some, Ok, IsUtf8, sym, ap, subst, ◌∙◌}
use Rattle.std.specs.Cow.{cow_str_bytes}
use Rattle.smithy_declarations.specs.declared.shape_type.Scalar.TheVariants as scalars
use Rattle.smithy_declarations.specs.declared.shape_type.ShapeType.TheVariants as types
use Rattle.smithy_declarations.specs.declared.shape_type.TimestampFormat.TheVariants.{DateTime}
use Rattle.smithy_declarations.specs.Table.{scalar}
use Rattle.smithy_declarations.specs.Value.{text, scalar_value}
use Rattle.smithy_shapes.specs.Site.{site_of}
use Rattle.smithy_query_codec.specs.Leaves.{form_at}
use Rattle.smithy_value.specs.declared.value.Value.TheVariants as kept
use Rattle.smithy_value.specs.View.{view}
use Rattle.smithy_form.specs.Private.Scalars.{ReadsWhole, ReadsScalar}
use Rattle.smithy_form.proofs.ScalarAnswers.{of_kind, whole_here, no_document, text_told}
use Rattle.smithy_form.proofs.Views.{view_text}
use Rattle.smithy_form.proofs.scalars.read_scalar.Goals as goal

pub returns-in-Boolean : goal.returns-in-Boolean
returns-in-Boolean c =
    let site = site_of c.args.schema.now in
    of_kind site scalars.Boolean (form_at site) (cow_str_bytes c.args.text.now) c.boolean.result (ap Some (sym c.in-Boolean.is) ∙ c.shape_type-kind.ensures)
    (subst (λ t. ReadsScalar (scalar scalars.Boolean) (form_at site) t c.boolean.result) c.as_str-written.ensures.value (c.boolean.ensures (form_at site)))

pub returns-in_ok-clone-in-String : goal.returns-in_ok-clone-in-String
returns-in_ok-clone-in-String c =
    let site = site_of c.args.schema.now in
    let t = cow_str_bytes c.args.text.now in
    let copy = c.in_ok-clone-in-String.field-0 in
    let shown : view (kept.Text copy) ≡ scalar_value (text (cow_str_bytes copy)) = view_text copy in
    of_kind site scalars.String (form_at site) t (Ok (kept.Text copy)) (ap Some (sym c.in-String.is) ∙ c.shape_type-kind.ensures)
    (text t, shown ∙ ap (λ u. scalar_value (text u)) c.in_ok-clone-in-String.ensures.cases, text_told (form_at site) t (subst IsUtf8 c.as_str-written.ensures.value c.as_str-written.utf8))

pub returns-in-Blob : goal.returns-in-Blob
returns-in-Blob c =
    let site = site_of c.args.schema.now in
    of_kind site scalars.Blob (form_at site) (cow_str_bytes c.args.text.now) c.blob.result (ap Some (sym c.in-Blob.is) ∙ c.shape_type-kind.ensures)
    (subst (λ t. ReadsScalar (scalar scalars.Blob) (form_at site) t c.blob.result) c.as_str-written.ensures.value (c.blob.ensures (form_at site)))

pub returns-in-BigDecimal : goal.returns-in-BigDecimal
returns-in-BigDecimal c =
    let site = site_of c.args.schema.now in
    of_kind site scalars.BigDecimal (form_at site) (cow_str_bytes c.args.text.now) c.decimal.result (ap Some (sym c.in-BigDecimal.is) ∙ c.shape_type-kind.ensures)
    (subst (λ t. ReadsScalar (scalar scalars.BigDecimal) (form_at site) t c.decimal.result) c.as_str-written.ensures.value (c.decimal.ensures (form_at site)))

pub returns-in-Byte : goal.returns-in-Byte
returns-in-Byte c =
    let site = site_of c.args.schema.now in
    let kind : types.Byte ≡ c.shape_type-kind.result = sym c.in-Byte.is in
    whole_here site types.Byte (form_at site) (cow_str_bytes c.args.text.now) c.whole.result tt (ap Some kind ∙ c.shape_type-kind.ensures)
    (subst (λ k. ReadsWhole k (cow_str_bytes c.args.text.now) c.whole.result) (sym kind)
    (subst (λ t. ReadsWhole c.shape_type-kind.result t c.whole.result) c.as_str-written.ensures.value c.whole.ensures))

pub returns-in-Short : goal.returns-in-Short
returns-in-Short c =
    let site = site_of c.args.schema.now in
    let kind : types.Short ≡ c.shape_type-kind.result = sym c.in-Short.is in
    whole_here site types.Short (form_at site) (cow_str_bytes c.args.text.now) c.whole-in-Short.result tt (ap Some kind ∙ c.shape_type-kind.ensures)
    (subst (λ k. ReadsWhole k (cow_str_bytes c.args.text.now) c.whole-in-Short.result) (sym kind)
    (subst (λ t. ReadsWhole c.shape_type-kind.result t c.whole-in-Short.result) c.as_str-written.ensures.value c.whole-in-Short.ensures))

pub returns-in-Integer : goal.returns-in-Integer
returns-in-Integer c =
    let site = site_of c.args.schema.now in
    let kind : types.Integer ≡ c.shape_type-kind.result = sym c.in-Integer.is in
    whole_here site types.Integer (form_at site) (cow_str_bytes c.args.text.now) c.whole-in-Integer.result tt (ap Some kind ∙ c.shape_type-kind.ensures)
    (subst (λ k. ReadsWhole k (cow_str_bytes c.args.text.now) c.whole-in-Integer.result) (sym kind)
    (subst (λ t. ReadsWhole c.shape_type-kind.result t c.whole-in-Integer.result) c.as_str-written.ensures.value c.whole-in-Integer.ensures))

pub returns-in-Long : goal.returns-in-Long
returns-in-Long c =
    let site = site_of c.args.schema.now in
    let kind : types.Long ≡ c.shape_type-kind.result = sym c.in-Long.is in
    whole_here site types.Long (form_at site) (cow_str_bytes c.args.text.now) c.whole-in-Long.result tt (ap Some kind ∙ c.shape_type-kind.ensures)
    (subst (λ k. ReadsWhole k (cow_str_bytes c.args.text.now) c.whole-in-Long.result) (sym kind)
    (subst (λ t. ReadsWhole c.shape_type-kind.result t c.whole-in-Long.result) c.as_str-written.ensures.value c.whole-in-Long.ensures))

pub returns-in-BigInteger : goal.returns-in-BigInteger
returns-in-BigInteger c =
    let site = site_of c.args.schema.now in
    let kind : types.BigInteger ≡ c.shape_type-kind.result = sym c.in-BigInteger.is in
    whole_here site types.BigInteger (form_at site) (cow_str_bytes c.args.text.now) c.whole-in-BigInteger.result tt (ap Some kind ∙ c.shape_type-kind.ensures)
    (subst (λ k. ReadsWhole k (cow_str_bytes c.args.text.now) c.whole-in-BigInteger.result) (sym kind)
    (subst (λ t. ReadsWhole c.shape_type-kind.result t c.whole-in-BigInteger.result) c.as_str-written.ensures.value c.whole-in-BigInteger.ensures))

pub returns-in-Timestamp : goal.returns-in-Timestamp
returns-in-Timestamp c =
    let site = site_of c.args.schema.now in
    let form : c.unwrap_or-form.result ≡ form_at site = c.unwrap_or-form.ensures ∙ ap (λ o. unwrap_or o DateTime) c.timestamp_format.ensures in
    of_kind site scalars.Timestamp (form_at site) (cow_str_bytes c.args.text.now) c.instant.result (ap Some (sym c.in-Timestamp.is) ∙ c.shape_type-kind.ensures)
    (subst (λ f. ReadsScalar (scalar scalars.Timestamp) f (cow_str_bytes c.args.text.now) c.instant.result) form
    (subst (λ t. ReadsScalar (scalar scalars.Timestamp) c.unwrap_or-form.result t c.instant.result) c.as_str-written.ensures.value c.instant.ensures))

pub returns-in-Document : goal.returns-in-Document
returns-in-Document c =
    let site = site_of c.args.schema.now in
    no_document site (form_at site) (cow_str_bytes c.args.text.now) (ap Some (sym c.in-Document.is) ∙ c.shape_type-kind.ensures)
