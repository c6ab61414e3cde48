-- What the variants of a document stand for.
use Rattle.std.proofs.Common.{◌≡◌, Bool, String, Vec, Global, sym, ◌∙◌, ap, string_bytes}
use Rattle.std.specs.BTreeMap.{BTreeMap}
use Rattle.smithy_types.specs.Document.{Document, null, boolean, number, text, array, object}
use Rattle.smithy_types.specs.DocumentView.{document_view, view_step, elements_view, properties_view}
use Rattle.smithy_types.specs.declared.number.Number.{Number}
use Rattle.smithy_types.specs.declared.document.Document as kept
use Rattle.smithy_types.specs.declared.document.Document.TheOpen.{Document-F}
use Rattle.smithy_types.specs.declared.document.Document.TheFolds.{fold-roll-Document}
use Rattle.smithy_types.specs.declared.document.Document.TheViews as views
use Rattle.smithy_types.specs.declared.document.Document.TheVariants as variants

pub view-Null : document_view variants.Null ≡ null
view-Null = ap document_view (sym variants.rolls-Null) ∙ fold-roll-Document (Document Number) view_step Document-F.Null

pub view-Bool : (b : Bool) → document_view (variants.Bool b) ≡ boolean b
view-Bool b = ap document_view (sym (variants.rolls-Bool b)) ∙ fold-roll-Document (Document Number) view_step (Document-F.Bool b)

pub view-Number : (n : Number) → document_view (variants.Number n) ≡ number n
view-Number n = ap document_view (sym (variants.rolls-Number n)) ∙ fold-roll-Document (Document Number) view_step (Document-F.Number n)

pub view-String : (s : String Global) → document_view (variants.String s) ≡ text (string_bytes s)
view-String s = ap document_view (sym (variants.rolls-String s)) ∙ fold-roll-Document (Document Number) view_step (Document-F.String s)

pub view-Array : (v : Vec kept.Document Global) → document_view (views.Array v) ≡ array (elements_view v.items)
view-Array v = ap document_view (sym (views.rolls-Array v)) ∙ fold-roll-Document (Document Number) view_step (Document-F.Array v)

pub view-Object : (m : BTreeMap (String Global) kept.Document) → document_view (views.Object m) ≡ object (properties_view m.entries)
view-Object m = ap document_view (sym (views.rolls-Object m)) ∙ fold-roll-Document (Document Number) view_step (Document-F.Object m)
