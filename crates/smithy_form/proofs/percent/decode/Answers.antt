use Rattle.std.proofs.Common.{◌≡◌, true, false, Some, sym, ap, subst, ◌∙◌}
use Rattle.std.specs.Prelude.{IsUtf8, string_bytes}
use Rattle.std.proofs.lemmas.Str.{IsUtf8-string_bytes}
use Rattle.smithy_form.proofs.TextForms.{plain_side, decoded_side, undecoded_side}
use Rattle.smithy_form.proofs.percent.decode.Goals as goal

pub returns-in_default : goal.returns-in_default
returns-in_default c = c.in_default.ensures ∙ plain_side c.args.side.now (sym c.if-not-has_coded.ensures)

pub returns-then-not-has_coded : goal.returns-then-not-has_coded
returns-then-not-has_coded c = c.in-Some.ensures ∙ plain_side c.args.side.now (sym c.if-not-has_coded.ensures)

pub returns-in-Ok : goal.returns-in-Ok
returns-in-Ok c =
    let decoded = rw c.in-Some-2.is at c.in_ok-bytes.ensures in
    let same : string_bytes c.in-Ok.text ≡ c.in-Some-2.bytes.items = ap (λ v. v.items) c.in-Ok.ensures.ok in
    ap Some same ∙ decoded_side c.args.side.now c.in-Some-2.bytes.items decoded (subst IsUtf8 same (IsUtf8-string_bytes c.in-Ok.text))

pub returns : goal.returns
returns c =
    let decoded = rw c.in-Some-2.is at c.in_ok-bytes.ensures in
    undecoded_side c.args.side.now c.in-Some-2.bytes.items decoded (λ utf8. let e : false ≡ true = c.in-Err.ensures.succeeds utf8 in cc)
