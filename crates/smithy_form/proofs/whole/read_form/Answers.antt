use Rattle.std.proofs.Common.{◌≡◌, Ok, Err, refl, ap, subst, ◌∙◌, map}
use Rattle.std.proofs.lemmas.Result.{err_from_is_err_and}
use Rattle.smithy_shapes.specs.Site.{site_of, shape_site}
use Rattle.smithy_form.specs.declared.error.FormError.TheVariants.{NotForm}
use Rattle.smithy_form.specs.declared.whole.Form.{Form}
use Rattle.smithy_form.specs.Private.Kept.{named_text}
use Rattle.smithy_form.specs.Private.FormParts.{ReadsValue}
use Rattle.smithy_form.proofs.AnswerLemmas.{pieces_refused, not_form, value_refused, form_read}
use Rattle.smithy_form.proofs.ReadAgain.{reads_form}
use Rattle.smithy_form.proofs.whole.read_form.Goals as goal

pub returns-in_err-pairs : goal.returns-in_err-pairs
returns-in_err-pairs c =
    let site = shape_site c.args.shapes.now c.args.root.0 in
    let p = err_from_is_err_and c.from_residual.result c.from_residual.ensures.1 in
    rw (p.1, p.2)
    (reads_form c.args.shapes.now c.schema-schema.ensures.accepted c.args.root.0 c.requires.root c.args.input.now (Err c.in_err-pairs.field-0.0)
    (pieces_refused site c.args.input.now c.in_err-pairs.field-0.0 c.in_err-pairs.ensures))

pub returns-in_default : goal.returns-in_default
returns-in_default c =
    let site = shape_site c.args.shapes.now c.args.root.0 in
    reads_form c.args.shapes.now c.schema-schema.ensures.accepted c.args.root.0 c.requires.root c.args.input.now (Err NotForm)
    (not_form site c.args.input.now c.in_ok-pairs.pairs c.in_ok-pairs.ensures c.in_default.ensures)

pub returns-in_err-value : goal.returns-in_err-value
returns-in_err-value c =
    let site = shape_site c.args.shapes.now c.args.root.0 in
    let e = c.in_err-value.field-0.0 in
    let found = c.in-Some.ensures in
    let pairs : map named_text c.deref_mut.result.now ≡ found.rest = ap (map named_text) c.deref_mut.ensures.value ∙ found.rest_is in
    let read : ReadsValue site found.rest (Err e) =
    subst (λ s. ReadsValue s found.rest (Err e)) c.schema-schema.ensures.site (subst (λ ps. ReadsValue (site_of c.schema-schema.result) ps (Err e)) pairs c.in_err-value.ensures) in
    let p = err_from_is_err_and c.from_residual-in_err-value.result c.from_residual-in_err-value.ensures.1 in
    rw (p.1, p.2)
    (reads_form c.args.shapes.now c.schema-schema.ensures.accepted c.args.root.0 c.requires.root c.args.input.now (Err e)
    (value_refused site c.args.input.now c.in_ok-pairs.pairs c.in_ok-pairs.ensures c.in-Some.parts found e read))

pub returns : goal.returns
returns c =
    let site = shape_site c.args.shapes.now c.args.root.0 in
    let found = c.in-Some.ensures in
    let pairs : map named_text c.deref_mut.result.now ≡ found.rest = ap (map named_text) c.deref_mut.ensures.value ∙ found.rest_is in
    let v = c.in_ok-value.value in
    let read : ReadsValue site found.rest (Ok v) =
    subst (λ s. ReadsValue s found.rest (Ok v)) c.schema-schema.ensures.site (subst (λ ps. ReadsValue (site_of c.schema-schema.result) ps (Ok v)) pairs c.in_ok-value.ensures) in
    let form : Form = record { action = c.in-Some.parts.action; version = c.in-Some.parts.version; value = v } in
    reads_form c.args.shapes.now c.schema-schema.ensures.accepted c.args.root.0 c.requires.root c.args.input.now (Ok form)
    (form_read site c.args.input.now c.in_ok-pairs.pairs c.in_ok-pairs.ensures c.in-Some.parts found form refl refl read)
