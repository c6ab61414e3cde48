use Rattle.std.specs.declared.borrow.CowSlice.TheVariants as slices
use Rattle.smithy_declarations.specs.Value.{bytes}
use Rattle.smithy_form.proofs.ScalarAnswers.{no_blob, blob_told}
use Rattle.smithy_form.proofs.Views.{view_bytes}
use Rattle.smithy_form.proofs.scalars.blob.Goals as goal

pub returns-in-Ok : goal.returns-in-Ok
returns-in-Ok c = λ form. (bytes c.in-Ok.bytes.items, view_bytes (slices.Owned c.in-Ok.bytes), blob_told form c.args.text.now c.in-Ok.bytes.items c.in-Ok.ensures.ok)

pub returns-in-Err-Invalid : goal.returns-in-Err-Invalid
returns-in-Err-Invalid c = λ form x is. no_blob c.args.text.now (c.in-Err-Invalid.ensures.err c.in-Err-Invalid.field-0-is) form x is
